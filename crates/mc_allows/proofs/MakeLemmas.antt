-- A call before which a need did not hold, and after which it holds, may make it.
use Rattle.std.specs.Prelude.{Option, None, Some, nat_eq, not, ◌&&◌}
use Rattle.std.proofs.Common.{◌≡◌, ◌⊎◌, inl, inr, ℕ, ◌+◌, ◌-◌, ◌%◌, ◌^◌, ◌<◌, Bool, true, false, List, [], ◌∷◌, ◌++◌, length, refl, sym, ap, ◌∙◌, subst, arith}
use Rattle.std.proofs.lemmas.Bool.{and_parts, and_from, or_left, or_right}
use Rattle.std.proofs.lemmas.List.{append-nil}
use Rattle.mc_calls.specs.declared.item.Item.{Item}
use Rattle.mc_calls.specs.declared.call.Call.{Call}
use Rattle.mc_calls.specs.declared.call.Call.TheVariants as Calls
use Rattle.mc_calls.specs.declared.call_reply.CallReply.{CallReply}
use Rattle.mc_calls.specs.declared.call_reply.CallReply.TheVariants as Replies
use Rattle.mc_calls.specs.Told.{told}
use Rattle.mc_allows.specs.declared.said.Said.{Said}
use Rattle.mc_allows.specs.declared.said.Said.TheVariants.{Replied, Failed}
use Rattle.mc_allows.specs.declared.shown.Shown.{Shown}
use Rattle.mc_allows.specs.declared.shown.Shown.TheVariants.{Nothing, NoFailure, Reply, SomeHit, HitWith, Failure}
use Rattle.mc_allows.specs.declared.fact.Fact.{Fact}
use Rattle.mc_allows.specs.declared.fact.Fact.TheVariants as Facts
use Rattle.mc_allows.specs.Values.{padded_number}
use Rattle.mc_allows.specs.Allows.{HasItem, HasNumber, Allows, AllowsReply, Counts, Joins, may_fail}
use Rattle.mc_allows.specs.Facts.{is_same_value, is_of, holds}
use Rattle.mc_allows.specs.Needs.{SuitsReply, Suits, may_have_failed}
use Rattle.mc_allows.specs.Makers.{is_need, may_have_stored, may_have_deleted, is_presence, is_empty_piece, may_end_with, may_begin_with, is_countable, is_count, may_have_counted, makes, may_make}
use Rattle.mc_allows.proofs.NumberTextLemmas.{read_below, written, only_number}
use Rattle.mc_allows.proofs.BesideLemmas.{same_value, equal_number}
use Rattle.mc_allows.proofs.LeftLemmas.{ends_so, starts_so}

-- ---- what is shown

is_hit : CallReply → Bool
is_hit (Replies.Hit flags unique value) = true
is_hit reply = false

-- a reply that is no hit is told as it is
told_itself : (shown own : CallReply) → own ≡ told shown → is_hit own ≡ false → shown ≡ own
unfolding is_hit
told_itself (Replies.Hit flags unique value) own is not = let hit = ap is_hit is in absurd (cc)
told_itself shown own is not = sym is

stored_fits : (shown : Shown) → SuitsReply shown Replies.Stored → may_have_stored shown ≡ true
unfolding is_hit
stored_fits Nothing fits = refl
stored_fits NoFailure fits = refl
stored_fits (Reply shown) fits = subst (λ r. may_have_stored (Reply r) ≡ true) (sym (told_itself shown Replies.Stored fits refl)) refl
stored_fits SomeHit fits = absurd fits
stored_fits (HitWith value) fits = absurd fits
stored_fits Failure fits = absurd (cc)

deleted_fits : (shown : Shown) → SuitsReply shown Replies.Deleted → may_have_deleted shown ≡ true
unfolding is_hit
deleted_fits Nothing fits = refl
deleted_fits NoFailure fits = refl
deleted_fits (Reply shown) fits = subst (λ r. may_have_deleted (Reply r) ≡ true) (sym (told_itself shown Replies.Deleted fits refl)) refl
deleted_fits SomeHit fits = absurd fits
deleted_fits (HitWith value) fits = absurd fits
deleted_fits Failure fits = absurd (cc)

countable : (fact : Fact) (n : ℕ) → is_count fact n ≡ true → is_countable fact ≡ true
countable (Facts.Item flags value) n is = refl
countable (Facts.Value value) n is = refl
countable (Facts.Number number) n is = refl
countable fact n is = is

counted_fits : (shown : Shown) (fact : Fact) (n : ℕ) → SuitsReply shown (Replies.Number n) → is_count fact n ≡ true → may_have_counted shown fact ≡ true
unfolding is_hit
counted_fits Nothing fact n fits is = countable fact n is
counted_fits NoFailure fact n fits is = countable fact n is
counted_fits (Reply shown) fact n fits is = subst (λ r. may_have_counted (Reply r) fact ≡ true) (sym (told_itself shown (Replies.Number n) fits refl)) is
counted_fits SomeHit fact n fits is = absurd fits
counted_fits (HitWith value) fact n fits is = absurd fits
counted_fits Failure fact n fits is = absurd (cc)

-- ---- what holds of a new item

-- what holds after a store holds of what was stored
of_stored : (fact : Fact) (flags : ℕ) (value : List ℕ) (after : Option Item) → HasItem flags value after → holds fact after ≡ true → is_of fact flags value ≡ true
of_stored fact flags value None has held = absurd has
of_stored fact flags value (Some j) has held =
    subst (λ f. is_of fact f value ≡ true) has.0 (subst (λ v. is_of fact j.flags v ≡ true) has.1 held)

-- a need that an item does not have is no presence
no_presence : (fact : Fact) (i : Item) → holds fact (Some i) ≡ false → not (is_presence fact) ≡ true
no_presence Facts.Present i fails = absurd (cc)
no_presence fact i fails = refl

pub both_so : {A : Type 0} (b : Bool) → b ≡ false → b ≡ true → A
both_so true fails held = absurd (cc)
both_so false fails held = absurd (cc)

-- a piece that was joined at the end made no number of a need, or is at the need's end
ends_made : (fact : Fact) (i : Item) (piece : List ℕ) → is_need fact ≡ true → holds fact (Some i) ≡ false → is_of fact i.flags (i.value ++ piece) ≡ true → may_end_with fact piece ≡ true
ends_made (Facts.Item flags value) i piece need fails is = ends_so value i.value piece (same_value value (i.value ++ piece) (and_parts (nat_eq flags i.flags) (is_same_value value (i.value ++ piece)) is).1)
ends_made (Facts.Value value) i piece need fails is = ends_so value i.value piece (same_value value (i.value ++ piece) is)
ends_made (Facts.Number number) i piece need fails is = refl
ends_made Facts.Unknown i piece need fails is = absurd (cc)
ends_made Facts.Present i piece need fails is = absurd (cc)
ends_made Facts.Never i piece need fails is = is
ends_made Facts.Absent i piece need fails is = is
ends_made (Facts.Counted number) i piece need fails is = absurd (cc)
ends_made (Facts.Ending own) i piece need fails is = absurd (cc)
ends_made (Facts.Beginning own) i piece need fails is = absurd (cc)

begins_made : (fact : Fact) (i : Item) (piece : List ℕ) → is_need fact ≡ true → holds fact (Some i) ≡ false → is_of fact i.flags (piece ++ i.value) ≡ true → may_begin_with fact piece ≡ true
begins_made (Facts.Item flags value) i piece need fails is = starts_so value piece i.value (same_value value (piece ++ i.value) (and_parts (nat_eq flags i.flags) (is_same_value value (piece ++ i.value)) is).1)
begins_made (Facts.Value value) i piece need fails is = starts_so value piece i.value (same_value value (piece ++ i.value) is)
begins_made (Facts.Number number) i piece need fails is = refl
begins_made Facts.Unknown i piece need fails is = absurd (cc)
begins_made Facts.Present i piece need fails is = absurd (cc)
begins_made Facts.Never i piece need fails is = is
begins_made Facts.Absent i piece need fails is = is
begins_made (Facts.Counted number) i piece need fails is = absurd (cc)
begins_made (Facts.Ending own) i piece need fails is = absurd (cc)
begins_made (Facts.Beginning own) i piece need fails is = absurd (cc)

-- the number that was counted to is that of the need
count_made : (fact : Fact) (i j : Item) (n : ℕ) → is_need fact ≡ true → padded_number j.value ≡ Some n → holds fact (Some i) ≡ false → holds fact (Some j) ≡ true → is_count fact n ≡ true
count_made (Facts.Item flags value) i j n need number fails is =
    equal_number (padded_number value) n (ap padded_number (same_value value j.value (and_parts (nat_eq flags j.flags) (is_same_value value j.value) is).1) ∙ number)
count_made (Facts.Value value) i j n need number fails is = equal_number (padded_number value) n (ap padded_number (same_value value j.value is) ∙ number)
count_made (Facts.Number own) i j n need number fails is = equal_number (Some own) n (ap Some (sym (only_number j.value own n number is)))
count_made Facts.Unknown i j n need number fails is = absurd (cc)
count_made Facts.Present i j n need number fails is = absurd (cc)
count_made Facts.Never i j n need number fails is = is
count_made Facts.Absent i j n need number fails is = is
count_made (Facts.Counted own) i j n need number fails is = absurd (cc)
count_made (Facts.Ending own) i j n need number fails is = absurd (cc)
count_made (Facts.Beginning own) i j n need number fails is = absurd (cc)

-- ---- one call

module _ (shown : Shown) (fact : Fact) (need : is_need fact ≡ true) where
  -- what did not hold before does not hold of the same after
  kept : {A : Type 0} (before after : Option Item) → after ≡ before → holds fact before ≡ false → holds fact after ≡ true → A
  kept before after is fails held = both_so (holds fact before) fails (subst (λ f. holds fact f ≡ true) is held)

  stored_by : (reply : CallReply) → reply ≡ Replies.Stored → SuitsReply shown reply → may_have_stored shown ≡ true
  stored_by reply is fits = stored_fits shown (subst (SuitsReply shown) is fits)

  -- a call that stored an item made what holds of it
  puts : (flags : ℕ) (value : List ℕ) (reply : CallReply) (after : Option Item) → reply ≡ Replies.Stored → HasItem flags value after → SuitsReply shown reply → holds fact after ≡ true
      → (may_have_stored shown ≡ true) × (is_of fact flags value ≡ true)
  puts flags value reply after is has fits held = (stored_by reply is fits, of_stored fact flags value after has held)

  -- and, where there was an item before, no more than that there is one
  replaces : (i : Item) (flags : ℕ) (value : List ℕ) (reply : CallReply) (after : Option Item) → reply ≡ Replies.Stored → HasItem flags value after → SuitsReply shown reply → holds fact (Some i) ≡ false
      → holds fact after ≡ true → makes (Calls.Replace [] flags value) shown fact ≡ true
  replaces i flags value reply after is has fits fails held =
      let parts = puts flags value reply after is has fits held in
      and_from (may_have_stored shown && is_of fact flags value) _ (and_from (may_have_stored shown) _ parts.0 parts.1) (no_presence fact i fails)

  not_empty : (i : Item) (piece whole : List ℕ) → (piece ≡ [] → whole ≡ i.value) → holds fact (Some i) ≡ false → is_of fact i.flags whole ≡ true → not (is_empty_piece piece) ≡ true
  not_empty i [] whole same fails is = both_so (holds fact (Some i)) fails (subst (λ v. is_of fact i.flags v ≡ true) (same refl) is)
  not_empty i (byte ∷ bytes) whole same fails is = refl

  appends : (key : List ℕ) (i : Item) (piece : List ℕ) (reply : CallReply) (after : Option Item) → Joins i (i.value ++ piece) reply after → SuitsReply shown reply → holds fact (Some i) ≡ false
      → holds fact after ≡ true → makes (Calls.Append key piece) shown fact ≡ true
  appends key i piece reply after (inr refused) fits fails held = kept (Some i) after refused.1 fails held
  appends key i piece reply after (inl done) fits fails held =
      let parts = puts i.flags (i.value ++ piece) reply after done.0 done.1 fits held in
      and_from (may_have_stored shown && not (is_empty_piece piece)) _
      (and_from (may_have_stored shown) _ parts.0 (not_empty i piece (i.value ++ piece) (λ empty. ap (λ p. i.value ++ p) empty ∙ append-nil i.value) fails parts.1))
      (ends_made fact i piece need fails parts.1)

  prepends : (key : List ℕ) (i : Item) (piece : List ℕ) (reply : CallReply) (after : Option Item) → Joins i (piece ++ i.value) reply after → SuitsReply shown reply → holds fact (Some i) ≡ false
      → holds fact after ≡ true → makes (Calls.Prepend key piece) shown fact ≡ true
  prepends key i piece reply after (inr refused) fits fails held = kept (Some i) after refused.1 fails held
  prepends key i piece reply after (inl done) fits fails held =
      let parts = puts i.flags (piece ++ i.value) reply after done.0 done.1 fits held in
      and_from (may_have_stored shown && not (is_empty_piece piece)) _
      (and_from (may_have_stored shown) _ parts.0 (not_empty i piece (piece ++ i.value) (λ empty. ap (λ p. p ++ i.value) empty) fails parts.1))
      (begins_made fact i piece need fails parts.1)

  counts_to : (i : Item) (n : ℕ) (after : Option Item) → n < 2 ^ 64 → HasNumber i.flags n (length i.value) after → holds fact (Some i) ≡ false → holds fact after ≡ true → is_count fact n ≡ true
  counts_to i n None small has fails held = absurd has
  counts_to i n (Some j) small has fails held = count_made fact i j n need (written n (length i.value) j.value small has.1) fails held

  counts_up : (i : Item) (amount : ℕ) (reply : CallReply) (after : Option Item) → Counts i (λ n. (n + amount) % 2 ^ 64) reply after → SuitsReply shown reply → holds fact (Some i) ≡ false
      → holds fact after ≡ true → may_have_counted shown fact ≡ true
  counts_up i amount reply after (inr none) fits fails held = kept (Some i) after none.1 fails held
  counts_up i amount reply after (inl counted) fits fails held =
      let n = (counted.0 + amount) % 2 ^ 64 in
      counted_fits shown fact n (subst (SuitsReply shown) counted.2 fits) (counts_to i n after (omega arith) counted.3 fails held)

  counts_down : (i : Item) (amount : ℕ) (reply : CallReply) (after : Option Item) → Counts i (λ n. n - amount) reply after → SuitsReply shown reply → holds fact (Some i) ≡ false
      → holds fact after ≡ true → may_have_counted shown fact ≡ true
  counts_down i amount reply after (inr none) fits fails held = kept (Some i) after none.1 fails held
  counts_down i amount reply after (inl counted) fits fails held =
      let n = counted.0 - amount in
      let small = read_below i.value counted.0 counted.1 in
      counted_fits shown fact n (subst (SuitsReply shown) counted.2 fits) (counts_to i n after (omega (arith, small)) counted.3 fails held)

  makes_it : (before : Option Item) (call : Call) (reply : CallReply) (after : Option Item) → AllowsReply before call reply after → SuitsReply shown reply → holds fact before ≡ false
      → holds fact after ≡ true → makes call shown fact ≡ true
  makes_it None (Calls.Get key) reply after done fits fails held = kept None after done.1 fails held
  makes_it (Some i) (Calls.Get key) reply after done fits fails held = kept (Some i) after done.1 fails held
  makes_it None (Calls.Set key flags value) reply after done fits fails held = let parts = puts flags value reply after done.0 done.1 fits held in and_from (may_have_stored shown) _ parts.0 parts.1
  makes_it (Some i) (Calls.Set key flags value) reply after done fits fails held = let parts = puts flags value reply after done.0 done.1 fits held in and_from (may_have_stored shown) _ parts.0 parts.1
  makes_it None (Calls.Add key flags value) reply after done fits fails held = let parts = puts flags value reply after done.0 done.1 fits held in and_from (may_have_stored shown) _ parts.0 parts.1
  makes_it (Some i) (Calls.Add key flags value) reply after done fits fails held = kept (Some i) after done.1 fails held
  makes_it None (Calls.Replace key flags value) reply after done fits fails held = kept None after done.1 fails held
  makes_it (Some i) (Calls.Replace key flags value) reply after done fits fails held = replaces i flags value reply after done.0 done.1 fits fails held
  makes_it None (Calls.Append key piece) reply after done fits fails held = kept None after done.1 fails held
  makes_it (Some i) (Calls.Append key piece) reply after done fits fails held = appends key i piece reply after done fits fails held
  makes_it None (Calls.Prepend key piece) reply after done fits fails held = kept None after done.1 fails held
  makes_it (Some i) (Calls.Prepend key piece) reply after done fits fails held = prepends key i piece reply after done fits fails held
  makes_it None (Calls.Cas flags key own value) reply after done fits fails held = kept None after done.1 fails held
  makes_it (Some i) (Calls.Cas flags key own value) reply after (inl done) fits fails held = replaces i flags value reply after done.0 done.1 fits fails held
  makes_it (Some i) (Calls.Cas flags key own value) reply after (inr done) fits fails held = kept (Some i) after done.1 fails held
  makes_it None (Calls.Incr key amount) reply after done fits fails held = kept None after done.1 fails held
  makes_it (Some i) (Calls.Incr key amount) reply after done fits fails held = counts_up i amount reply after done fits fails held
  makes_it None (Calls.Decr key amount) reply after done fits fails held = kept None after done.1 fails held
  makes_it (Some i) (Calls.Decr key amount) reply after done fits fails held = counts_down i amount reply after done fits fails held
  makes_it None (Calls.Delete key) reply after done fits fails held = kept None after done.1 fails held
  makes_it (Some i) (Calls.Delete key) reply after done fits fails held =
      and_from (may_have_deleted shown) _ (deleted_fits shown (subst (SuitsReply shown) done.0 fits)) (subst (λ f. holds fact f ≡ true) done.1 held)
  makes_it None Calls.Flush reply after done fits fails held = subst (λ f. holds fact f ≡ true) done.1 held
  makes_it (Some i) Calls.Flush reply after done fits fails held = subst (λ f. holds fact f ≡ true) done.1 held
  makes_it None Calls.Tally reply after done fits fails held = kept None after done.2 fails held
  makes_it (Some i) Calls.Tally reply after done fits fails held = kept (Some i) after done.2 fails held

  failed_to : (before : Option Item) (call : Call) (after : Option Item) → (may_fail call ≡ true) × ((after ≡ before) ⊎ (after ≡ None)) → may_have_failed shown ≡ true → holds fact before ≡ false
      → holds fact after ≡ true → may_make call shown fact ≡ true
  failed_to before call after (may, inl same) fits fails held = kept before after same fails held
  failed_to before call after (may, inr gone) fits fails held =
      or_right (makes call shown fact) _ (and_from (may_fail call && may_have_failed shown) _ (and_from (may_fail call) _ may fits) (subst (λ f. holds fact f ≡ true) gone held))

-- what did not hold before a call and holds after it, the call may make
pub turned_made : (fact : Fact) → is_need fact ≡ true → (before : Option Item) (call : Call) (said : Said) (after : Option Item) (shown : Shown) → Allows before call said after
    → Suits shown said → holds fact before ≡ false → holds fact after ≡ true → may_make call shown fact ≡ true
turned_made fact need before call (Replied reply) after shown done fits fails held = or_left (makes call shown fact) _ (makes_it shown fact need before call reply after done fits fails held)
turned_made fact need before call Failed after shown done fits fails held = failed_to shown fact need before call after done fits fails held
