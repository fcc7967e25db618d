-- The effect of a feeder's step on what it has read and sent.
use Rattle.std.proofs.Common.{◌≡◌, ◌≢◌, ◌⊎◌, inl, inr, ℕ, ◌+◌, ◌<◌, ◌≤◌, Bool, true, false, List, [], ◌∷◌, ◌++◌, length, set, refl, sym, ◌∙◌, ap, subst, arith, length-set}
use Rattle.std.specs.Prelude.{◌==◌, nat_lt, Option, None, Some, slice_get, Result, Ok, Err}
use Rattle.std.proofs.lemmas.List.{append-nil, append_assoc, length-map}
use Rattle.std.proofs.lemmas.Bool.{eqb-true}
use Rattle.std.proofs.lemmas.Bool.Decides.{nat_tests}
use Rattle.std.proofs.lemmas.Option.{slice_get_within}
use Rattle.zy_base.proofs.SetLemmas.{slice_get-set_is, slice_get-set_other}
use Rattle.zy_capture.specs.declared.record.Record.{Record}
use Rattle.zy_capture.specs.declared.record.Record.TheVariants as Kinds
use Rattle.zy_rx.specs.declared.rx.Rx.{Rx}
use Rattle.zy_rx.specs.declared.rx.Rx.TheVariants.{End}
use Rattle.zy_rx.specs.Flow.{home_of}
use Rattle.zy_rx.specs.Ring.{Offering}
use Rattle.zy_feed.specs.Routing.{offered_item, items_for}
use Rattle.zy_feed.proofs.TakenLemmas.{items_for-push, items_for-push_other}
use Rattle.zy_rx.specs.Feed.{sent_by}
use Rattle.zy_read.specs.declared.stop.Stop.{Stop}
use Rattle.zy_capture.specs.declared.capture_fault.CaptureFault.{CaptureFault}
use Rattle.zy_feed.specs.declared.stage.Stage.TheVariants.{Cutting, Waiting, Ending, Ended, Broken}
use Rattle.zy_feed.specs.Reads.{Intake, HasRead, Cuts, TakesFirst}
use Rattle.zy_feed.specs.Feeding.{home_in, kept_for, end_before, OffersTo, Feeding, feeding, AreSent, Stands, LeadsTo}

-- ---- which core an item is for

kept_here : (cores core : ℕ) (item : Rx) → (home_in cores item == core) ≡ true → kept_for cores core item ≡ item ∷ []
kept_here cores core item is = rw is refl

kept_else : (cores core : ℕ) (item : Rx) → (home_in cores item == core) ≡ false → kept_for cores core item ≡ []
kept_else cores core item is = rw is refl

-- the item of a further record is for its home alone
routed_by : (cores core : ℕ) (records : List Record) (last : Record) (here : Bool) → (home_in cores (offered_item last) == core) ≡ here
    → ((home_in cores (offered_item last) == core) ≡ true → items_for cores core (records ++ last ∷ []) ≡ items_for cores core records ++ offered_item last ∷ [])
    → ((home_in cores (offered_item last) == core) ≡ false → items_for cores core (records ++ last ∷ []) ≡ items_for cores core records)
    → items_for cores core (records ++ last ∷ []) ≡ items_for cores core records ++ kept_for cores core (offered_item last)
routed_by cores core records last true is one other = one is ∙ ap (λ (l : List Rx). items_for cores core records ++ l) (sym (kept_here cores core (offered_item last) is))
routed_by cores core records last false is one other =
    other is ∙ sym (append-nil (items_for cores core records)) ∙ ap (λ (l : List Rx). items_for cores core records ++ l) (sym (kept_else cores core (offered_item last) is))

routed : (cores core : ℕ) (records : List Record) (last : Record) → items_for cores core (records ++ last ∷ []) ≡ items_for cores core records ++ kept_for cores core (offered_item last)
routed cores core records (Kinds.Segment s) =
    routed_by cores core records (Kinds.Segment s) (home_of cores s.conn == core) refl (items_for-push cores core records (Kinds.Segment s)) (items_for-push_other cores core records (Kinds.Segment s))
routed cores core records (Kinds.Close conn) =
    routed_by cores core records (Kinds.Close conn) (home_of cores conn == core) refl (items_for-push cores core records (Kinds.Close conn)) (items_for-push_other cores core records (Kinds.Close conn))

-- ---- one core was sent one further item

-- what a core was sent, after one was sent something new
sent_after : (sents : List (List Rx)) (core home : ℕ) (new sent : List Rx) → slice_get (set sents home new) core ≡ Some sent
    → ((core ≡ home) × (new ≡ sent)) ⊎ ((core ≢ home) × (slice_get sents core ≡ Some sent))
sent_after sents core home new sent there = go (core == home) refl
  where
    go : (b : Bool) → (core == home) ≡ b → ((core ≡ home) × (new ≡ sent)) ⊎ ((core ≢ home) × (slice_get sents core ≡ Some sent))
    go true is =
        let same : core ≡ home = eqb-true core home is in
        inl (same, slice_get-set_is sents home new sent (subst (λ (k : ℕ). slice_get (set sents home new) k ≡ Some sent) same there))
    go false is =
        let other : core ≢ home = λ same. grind (arith, nat_tests, is, same) in
        inr (other, sym (slice_get-set_other sents home core new other) ∙ there)

same_test : (a b : ℕ) → a ≡ b → (a == b) ≡ true
same_test a b is = grind (arith, nat_tests)

other_test : (a b : ℕ) → a ≢ b → (a == b) ≡ false
other_test a b is = grind (arith, nat_tests)

-- there is a core for each inlet
cores_are : (inlets : List Offering) → length (sent_by inlets) ≡ length inlets
cores_are inlets = length-map inlets (λ (i : Offering). i.sent)

-- ---- a record is cut

-- a record was cut of the piece
pub held_cuts : {S : Type 0} (rest : S → Option (List ℕ)) (faults : S → ℕ) (first now : S) (p q : Intake) (records : List Record) (bytes : List ℕ) (most : ℕ) (r : Record) → TakesFirst most p q (Ok (Some r)) → HasRead rest faults first now p records bytes
    → Cuts rest faults first now q records bytes (Ok (Some r))
held_cuts rest faults first now p q records bytes most r takes has =
    let rest_is : (bytes ++ takes.fed) ++ q.left ≡ bytes ++ p.left = append_assoc bytes takes.fed q.left ∙ ap (λ (l : List ℕ). bytes ++ l) (sym takes.left) in (
      takes.fed,
      record {
        reader = takes.feeds records bytes has.reader;
        clean = takes.exact records bytes has.reader;
        given = record {
          source = rw rest_is has.given.source;
          bytes = rw rest_is has.given.bytes;
          count = has.given.count;
        };
      },
    )

pub cut_leads : {S : Type 0} (rest : S → Option (List ℕ)) (faults : S → ℕ) (old now : S) (p q : Intake) (inlets : List Offering) (result : Result (Option Record) (Stop CaptureFault)) (r : Record) (item : Rx) → result ≡ Ok (Some r) → item ≡ offered_item r
    → ((first : S) (records : List Record) (bytes : List ℕ) → HasRead rest faults first old p records bytes → Cuts rest faults first now q records bytes result)
    → LeadsTo rest faults (feeding old p inlets Cutting) (feeding now q inlets (Waiting item))
cut_leads rest faults old now p q inlets result r item is item_is cuts first records bytes stands =
    let cut = rw is at (cuts first records bytes stands.read) in (
      r ∷ [],
      (
        cut.0,
        record {
          read = cut.1;
          sent = λ core sent there. ap (λ (i : Rx). sent ++ kept_for (length (sent_by inlets)) core i) item_is
              ∙ ap (λ (l : List Rx). l ++ kept_for (length (sent_by inlets)) core (offered_item r)) (stands.sent core sent there) ∙ sym (routed (length (sent_by inlets)) core records r);
        },
      ),
    )

no_end : (core : ℕ) → end_before core 0 ≡ []
no_end core = let none : nat_lt core 0 ≡ false = grind (arith, nat_tests) in rw none refl

pub cut_ends : {S : Type 0} (rest : S → Option (List ℕ)) (faults : S → ℕ) (old now : S) (p q : Intake) (inlets : List Offering) (result : Result (Option Record) (Stop CaptureFault)) → result ≡ Ok None
    → ((first : S) (records : List Record) (bytes : List ℕ) → HasRead rest faults first old p records bytes → Cuts rest faults first now q records bytes result)
    → LeadsTo rest faults (feeding old p inlets Cutting) (feeding now q inlets (Ending 0))
cut_ends rest faults old now p q inlets result is cuts first records bytes stands =
    let cut = rw is at (cuts first records bytes stands.read) in (
      [],
      (
        cut.0,
        rw (append-nil records) (record {
          read = cut.1;
          sent = λ core sent there. stands.sent core sent there ∙ sym (append-nil (items_for (length (sent_by inlets)) core records))
              ∙ ap (λ (l : List Rx). items_for (length (sent_by inlets)) core records ++ l) (sym (no_end core));
        }),
      ),
    )

pub cut_stops : {S : Type 0} (rest : S → Option (List ℕ)) (faults : S → ℕ) (old now : S) (p q : Intake) (inlets : List Offering) (result : Result (Option Record) (Stop CaptureFault)) (stop : Stop CaptureFault) → result ≡ Err stop → faults old ≤ faults now
    → ((first : S) (records : List Record) (bytes : List ℕ) → HasRead rest faults first old p records bytes → Cuts rest faults first now q records bytes result)
    → LeadsTo rest faults (feeding old p inlets Cutting) (feeding now q inlets (Broken stop))
cut_stops rest faults old now p q inlets result stop is count cuts first records bytes stands =
    let cut = rw is at (cuts first records bytes stands.read) in (
      [],
      (
        [],
        rw (append-nil records, append-nil bytes) (record {
          read = record { cause = cut; count = omega (arith, count, stands.read.given.count) };
          sent = stands.sent;
        }),
      ),
    )

-- ---- an item is offered

-- a feeder that has read the same records and bytes, with other inlets and in another stage
onward : {S : Type 0} (rest : S → Option (List ℕ)) (faults : S → ℕ) (first : S) (g : Feeding S) (records : List Record) (bytes : List ℕ) → Stands rest faults first g records bytes
    → (more : List Record) × ((fed : List ℕ) × Stands rest faults first g (records ++ more) (bytes ++ fed))
onward rest faults first g records bytes stands = ([], ([], rw (append-nil records, append-nil bytes) stands))

pub delivered : {S : Type 0} (rest : S → Option (List ℕ)) (faults : S → ℕ) (now : S) (p : Intake) (before after : List Offering) (item : Rx) → OffersTo (home_in (length before) item) item before after
    → LeadsTo rest faults (feeding now p before (Waiting item)) (feeding now p after Cutting)
delivered {S} rest faults now p before after item offers first records bytes stands =
    onward rest faults first (feeding now p after Cutting) records bytes (record { read = stands.read; sent = sent })
  where
    sents : List (List Rx)
    sents = sent_by before

    cores : ℕ
    cores = length sents

    home : ℕ
    home = home_in (length before) item

    home_is : home ≡ home_in cores item
    home_is = ap (λ (n : ℕ). home_in n item) (sym (cores_are before))

    size : length (sent_by after) ≡ cores
    size = ap (λ (l : List (List Rx)). length l) offers.is ∙ length-set sents home (offers.sent ++ item ∷ [])

    at_core : (core : ℕ) (sent : List Rx) → ((core ≡ home) × (offers.sent ++ item ∷ [] ≡ sent)) ⊎ ((core ≢ home) × (slice_get sents core ≡ Some sent)) → sent ≡ items_for cores core records
    at_core core sent (inl here) =
        let for_it : kept_for cores core item ≡ item ∷ [] = kept_here cores core item (same_test (home_in cores item) core (sym (here.0 ∙ home_is))) in
        sym here.1 ∙ ap (λ (l : List Rx). offers.sent ++ l) (sym for_it) ∙ stands.sent core offers.sent (subst (λ (k : ℕ). slice_get sents k ≡ Some offers.sent) (sym here.0) offers.was)
    at_core core sent (inr else_at) =
        let not_it : kept_for cores core item ≡ [] = kept_else cores core item (other_test (home_in cores item) core (λ same. else_at.0 (sym (home_is ∙ same)))) in
        sym (append-nil sent) ∙ ap (λ (l : List Rx). sent ++ l) (sym not_it) ∙ stands.sent core sent else_at.1

    sent : AreSent (sent_by after) Cutting records
    sent core got there = rw size (at_core core got (sent_after sents core home (offers.sent ++ item ∷ []) got (subst (λ (l : List (List Rx)). slice_get l core ≡ Some got) offers.is there)))

-- ---- the end is offered

end_there : (core next : ℕ) → core < next → end_before core next ≡ End ∷ []
end_there core next below = let less : nat_lt core next ≡ true = grind (arith, nat_tests) in rw less refl

end_not : (core next : ℕ) → next ≤ core → end_before core next ≡ []
end_not core next over = let more : nat_lt core next ≡ false = grind (arith, nat_tests) in rw more refl

end_same : (core next : ℕ) → core ≢ next → end_before core next ≡ end_before core (next + 1)
end_same core next other = go (nat_lt core next) refl
  where
    go : (b : Bool) → nat_lt core next ≡ b → end_before core next ≡ end_before core (next + 1)
    go true is = end_there core next (grind (arith, nat_tests)) ∙ sym (end_there core (next + 1) (grind (arith, nat_tests)))
    go false is = end_not core next (grind (arith, nat_tests)) ∙ sym (end_not core (next + 1) (grind (arith, nat_tests, other)))

pub end_offered : {S : Type 0} (rest : S → Option (List ℕ)) (faults : S → ℕ) (now : S) (p : Intake) (before after : List Offering) (next : ℕ) → OffersTo next End before after
    → LeadsTo rest faults (feeding now p before (Ending next)) (feeding now p after (Ending (next + 1)))
end_offered {S} rest faults now p before after next offers first records bytes stands =
    onward rest faults first (feeding now p after (Ending (next + 1))) records bytes (record { read = stands.read; sent = sent })
  where
    sents : List (List Rx)
    sents = sent_by before

    cores : ℕ
    cores = length sents

    size : length (sent_by after) ≡ cores
    size = ap (λ (l : List (List Rx)). length l) offers.is ∙ length-set sents next (offers.sent ++ End ∷ [])

    at_core : (core : ℕ) (sent : List Rx) → ((core ≡ next) × (offers.sent ++ End ∷ [] ≡ sent)) ⊎ ((core ≢ next) × (slice_get sents core ≡ Some sent)) → sent ≡ items_for cores core records ++ end_before core (next + 1)
    at_core core sent (inl here) =
        let was : offers.sent ≡ items_for cores core records ++ end_before core next = stands.sent core offers.sent (subst (λ (k : ℕ). slice_get sents k ≡ Some offers.sent) (sym here.0) offers.was) in
        let none : end_before core next ≡ [] = end_not core next (omega (arith, here.0)) in
        let now_is : end_before core (next + 1) ≡ End ∷ [] = end_there core (next + 1) (omega (arith, here.0)) in
        sym here.1 ∙ ap (λ (l : List Rx). l ++ End ∷ []) (was ∙ ap (λ (l : List Rx). items_for cores core records ++ l) none ∙ append-nil (items_for cores core records))
        ∙ ap (λ (l : List Rx). items_for cores core records ++ l) (sym now_is)
    at_core core sent (inr else_at) = stands.sent core sent else_at.1 ∙ ap (λ (l : List Rx). items_for cores core records ++ l) (end_same core next else_at.0)

    sent : AreSent (sent_by after) (Ending (next + 1)) records
    sent core got there = rw size (at_core core got (sent_after sents core next (offers.sent ++ End ∷ []) got (subst (λ (l : List (List Rx)). slice_get l core ≡ Some got) offers.is there)))

pub all_ended : {S : Type 0} (rest : S → Option (List ℕ)) (faults : S → ℕ) (now : S) (p : Intake) (inlets : List Offering) (next : ℕ) → length inlets ≤ next
    → LeadsTo rest faults (feeding now p inlets (Ending next)) (feeding now p inlets Ended)
all_ended rest faults now p inlets next last first records bytes stands =
    onward rest faults first (feeding now p inlets Ended) records bytes (record {
      read = stands.read;
      sent = λ core sent there. stands.sent core sent there ∙ ap (λ (l : List Rx). items_for (length (sent_by inlets)) core records ++ l)
          (end_there core next (omega (arith, slice_get_within (sent_by inlets) core sent there, cores_are inlets, last)));
    })
