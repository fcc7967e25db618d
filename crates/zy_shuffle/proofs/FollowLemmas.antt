-- Each step follows the ownership machine: it is one event, or no event, or the events of a publication.
use Rattle.std.proofs.Common.{◌≡◌, ◌≢◌, ℕ, zero, suc, ◌+◌, ◌-◌, ◌<◌, ◌≤◌, List, [], ◌∷◌, ◌++◌, refl, sym, ap, ◌∙◌}
use Rattle.std.proofs.Common.{subst, inl, ⊎_elim, arith}
use Rattle.std.specs.Prelude as std
use Rattle.std.specs.Prelude.{◌↔◌}
use Rattle.zy_table.specs.Put.{put}
use Rattle.zy_table.proofs.PutLemmas.{at_both, at_put, put_here, put_else}
use mathlib.Core.Logic.{dite}
use native.Mathlib.Decide.{ℕ_discrete}
use Rattle.zy_shuffle.specs.Ownership.{Place, idle, ready, held, returned, Owners, no_requests, moved, queued}
use Rattle.zy_shuffle.specs.Ownership.{with_requests, with_finished, Runs}
use Rattle.zy_shuffle.specs.declared.ring.view.Event.{Event}
use Rattle.zy_shuffle.specs.declared.ring.view.Event.TheVariants.{Arrive, Claim, Handle, GiveBack, Collect, Settle}
use Rattle.zy_shuffle.specs.declared.ring.view.View.{View}
use Rattle.zy_shuffle.specs.Run.{Before, was_idle, was_held, AreOfSeat, IsKnown, publication}
use Rattle.zy_shuffle.specs.Word.{cell}
use Rattle.zy_shuffle.specs.Holder.{Holder, in_queue, in_hand, at_bell}
use Rattle.zy_shuffle.specs.Follow.{Agrees, queue_of, Follows}
use Rattle.zy_shuffle.proofs.OwnerLemmas.{runs_sound}

-- ---- queues

-- equal cells make equal queues
queue-same : (ws ws' : List ℕ) (m head n : ℕ) → ((k : ℕ) → head ≤ k → k < head + n → cell ws' m k ≡ cell ws m k) → queue_of ws' m head n ≡ queue_of ws m head n
queue-same ws ws' m head zero same = refl
queue-same ws ws' m head (suc n) same = λ i. same head (omega arith) (omega arith) i ∷ queue-same ws ws' m (head + 1) n (λ k a b. same k (omega arith) (omega arith)) i

-- a queue with one further cell at the end
queue-more : (ws : List ℕ) (m head n : ℕ) → queue_of ws m head (suc n) ≡ queue_of ws m head n ++ cell ws m (head + n) ∷ []
queue-more ws m head zero = let same : head ≡ head + 0 = omega arith in ap (λ k. cell ws m k ∷ []) same
queue-more ws m head (suc n) =
    let same : head + 1 + n ≡ head + suc n = omega arith in
    ap (λ l. cell ws m head ∷ l) (queue-more ws m (head + 1) n ∙ ap (λ k. queue_of ws m (head + 1) n ++ cell ws m k ∷ []) same)

-- the first cell, and the others
queue-first : (ws : List ℕ) (m head n k : ℕ) → n ≡ suc k → queue_of ws m head n ≡ cell ws m head ∷ queue_of ws m (head + 1) k
queue-first ws m head n k is = ap (queue_of ws m head) is

-- ---- steps

-- a connection that is idle neither before nor after has a mark, as before
still_busy : {M : Type 0} (x : std.Option M) (old new : Place) → (old ≡ idle) ↔ (x ≡ std.None) → old ≢ idle → new ≢ idle → (new ≡ idle) ↔ (x ≡ std.None)
still_busy x old new h a b = ((λ e. absurd (b e)), λ e. absurd (a (h.1 e)))

module _ {T M : Type 0} (m : ℕ) (marks : ℕ → std.Option M) (views views' : List (View T)) where
  -- no event: the cells of the queue are as they were
  pub follows_else : (ws ws' : List ℕ) (head tail : ℕ) (holders : ℕ → Holder) → head ≤ tail → ((k : ℕ) → head ≤ k → k < tail → cell ws' m k ≡ cell ws m k) → (f : Follows ws m head tail holders marks views) → IsKnown f.events views' → Follows ws' m head tail holders marks views'
  follows_else ws ws' head tail holders le same f known = record {
    owners = f.owners;
    events = f.events;
    run = f.run;
    places = f.places;
    queue = f.queue ∙ sym (queue-same ws ws' m head (tail - head) (λ k a b. same k a (omega arith)));
    unmarked = f.unmarked;
    due = f.due;
    known = known;
  }

  -- no event: the home takes all places, or brings its own back
  pub follows_holders : (ws : List ℕ) (head tail : ℕ) (holders holders' : ℕ → Holder) (marks' : ℕ → std.Option M) → ((p : ℕ) → p < m → marks p ≡ marks' p) → ((p : ℕ) → p < m → (place : Place) → Agrees (holders p) place → Agrees (holders' p) place) → (f : Follows ws m head tail holders marks views) → IsKnown f.events views' → Follows ws m head tail holders' marks' views'
  follows_holders ws head tail holders holders' marks' same agree f known = record {
    owners = f.owners;
    events = f.events;
    run = f.run;
    places = λ p lt. agree p lt (f.owners.places p) (f.places p lt);
    queue = f.queue;
    unmarked = λ p lt. subst (λ x. (f.owners.places p ≡ idle) ↔ (x ≡ std.None)) (same p lt) (f.unmarked p lt);
    due = f.due;
    known = known;
  }

  -- a seat claims the first of the queue
  pub follows_claim : (ws ws' : List ℕ) (head tail id p : ℕ) (holders : ℕ → Holder) → head < tail → cell ws m head ≡ p → p < m → holders p ≡ in_queue head → ((k : ℕ) → head ≤ k → k < tail → cell ws' m k ≡ cell ws m k) → (f : Follows ws m head tail holders marks views) → IsKnown (Claim id ∷ f.events) views'
      → Follows ws' m (head + 1) tail (put holders p (in_hand id)) (put marks p (marks p)) views'
  follows_claim ws ws' head tail id p holders lt at_cell near is same f known =
      let left : ℕ = tail - (head + 1) in
      let rest : List ℕ = queue_of ws m (head + 1) left in
      let count : tail - head ≡ suc left = omega arith in
      let was : f.owners.places p ≡ ready = subst (λ x. Agrees x (f.owners.places p)) is (f.places p near) in
      let first : f.owners.queue ≡ p ∷ rest = f.queue ∙ queue-first ws m head (tail - head) left count ∙ ap (λ c. c ∷ rest) at_cell in record {
        owners = record (moved p (held id) f.owners) { queue = rest };
        events = Claim id ∷ f.events;
        run = (f.owners, f.run, (p, rest, first, refl));
        places = λ q lt. at_both holders f.owners.places p (in_hand id) (held id) (λ _ x y. Agrees x y) q (inl refl) (λ _. f.places q lt);
        queue = sym (queue-same ws ws' m (head + 1) left (λ k a b. same k (omega arith) (omega arith)));
        unmarked = λ q lt. at_both marks f.owners.places p (marks p) (held id) (λ _ x y. (y ≡ idle) ↔ (x ≡ std.None)) q (still_busy (marks p) (f.owners.places p) (held id) (f.unmarked p near) (λ e. cc) (λ e. cc)) (λ _. f.unmarked q lt);
        due = λ q lt. at_put f.owners.places p (held id) (λ j x. x ≢ idle → f.owners.finished j + 1 ≡ f.owners.arrived j) q (λ _. f.due p near (λ e. cc)) (λ _. f.due q lt);
        known = known;
      }

  -- a core gives a place back
  pub follows_give : (ws ws' : List ℕ) (head tail id p : ℕ) (holders : ℕ → Holder) → head ≤ tail → p < m → holders p ≡ in_hand id → (id ≡ 0 → ⊥) → ((k : ℕ) → head ≤ k → k < tail → cell ws' m k ≡ cell ws m k) → (f : Follows ws m head tail holders marks views) → IsKnown (GiveBack id p ∷ f.events) views'
      → Follows ws' m head tail (put holders p at_bell) (put marks p (marks p)) views'
  follows_give ws ws' head tail id p holders le near mine other same f known =
      let is : f.owners.places p ≡ held id = ⊎_elim (λ (e : f.owners.places p ≡ held id). e) (λ (e : (id ≡ 0) × (f.owners.places p ≡ idle)). absurd (other e.0)) (subst (λ x. Agrees x (f.owners.places p)) mine (f.places p near)) in record {
        owners = moved p returned f.owners;
        events = GiveBack id p ∷ f.events;
        run = (f.owners, f.run, (is, other, refl));
        places = λ q lt. at_both holders f.owners.places p at_bell returned (λ _ x y. Agrees x y) q refl (λ _. f.places q lt);
        queue = f.queue ∙ sym (queue-same ws ws' m head (tail - head) (λ k a b. same k a (omega arith)));
        unmarked = λ q lt. at_both marks f.owners.places p (marks p) returned (λ _ x y. (y ≡ idle) ↔ (x ≡ std.None)) q (still_busy (marks p) (f.owners.places p) returned (f.unmarked p near) (λ e. cc) (λ e. cc)) (λ _. f.unmarked q lt);
        due = λ q lt. at_put f.owners.places p returned (λ j x. x ≢ idle → f.owners.finished j + 1 ≡ f.owners.arrived j) q (λ _. f.due p near (λ e. cc)) (λ _. f.due q lt);
        known = known;
      }

  -- the home collects a place
  pub follows_collect : (ws ws' : List ℕ) (head tail id p : ℕ) (holders : ℕ → Holder) → head ≤ tail → p < m → holders p ≡ at_bell → id ≡ 0 → ((k : ℕ) → head ≤ k → k < tail → cell ws' m k ≡ cell ws m k) → (f : Follows ws m head tail holders marks views) → IsKnown (Collect p ∷ f.events) views'
      → Follows ws' m head tail (put holders p (in_hand id)) (put marks p (marks p)) views'
  follows_collect ws ws' head tail id p holders le near rung home same f known =
      let is : f.owners.places p ≡ returned = subst (λ x. Agrees x (f.owners.places p)) rung (f.places p near) in record {
        owners = moved p (held 0) f.owners;
        events = Collect p ∷ f.events;
        run = (f.owners, f.run, (is, refl));
        places = λ q lt. at_both holders f.owners.places p (in_hand id) (held 0) (λ _ x y. Agrees x y) q (inl (ap held (sym home))) (λ _. f.places q lt);
        queue = f.queue ∙ sym (queue-same ws ws' m head (tail - head) (λ k a b. same k a (omega arith)));
        unmarked = λ q lt. at_both marks f.owners.places p (marks p) (held 0) (λ _ x y. (y ≡ idle) ↔ (x ≡ std.None)) q (still_busy (marks p) (f.owners.places p) (held 0) (f.unmarked p near) (λ e. cc) (λ e. cc)) (λ _. f.unmarked q lt);
        due = λ q lt. at_put f.owners.places p (held 0) (λ j x. x ≢ idle → f.owners.finished j + 1 ≡ f.owners.arrived j) q (λ _. f.due p near (λ e. cc)) (λ _. f.due q lt);
        known = known;
      }

-- ---- publications

-- the connection went to the end of the queue, with one unfinished request, and every other is as it was
pub record GoesReady (p : ℕ) (s t : Owners) : Type 0 where
  pub queue : t.queue ≡ s.queue ++ p ∷ []
  pub places : (q : ℕ) → t.places q ≡ put s.places p ready q
  pub one : t.finished p + 1 ≡ t.arrived p
  pub others : (q : ℕ) → q ≢ p → (t.finished q ≡ s.finished q) × (t.arrived q ≡ s.arrived q)

-- the events of a publication are the home's
pub publication_seat : {M : Type 0} (before : Before) (p : ℕ) (kept : std.Option M) → AreOfSeat 0 (publication before p kept)
publication_seat was_idle p std.None = (refl, tt)
publication_seat was_idle p (std.Some x) = (refl, (refl, (refl, tt)))
publication_seat was_held p std.None = (refl, tt)
publication_seat was_held p (std.Some x) = (refl, tt)

-- a request arrives at an idle connection
arrives : (p : ℕ) (s : Owners) (es : List Event) → Runs 0 no_requests es s → s.places p ≡ idle → (t : Owners) × Runs 0 no_requests (Arrive p 1 ∷ es) t × GoesReady p s t
arrives p s es run at =
    let done = (runs_sound 0 s es run).idle_done p at in
    let one = put_here s.arrived p (s.arrived p + 1) in (
      queued p (with_requests p 1 s),
      (s, run, (omega arith, (λ _. refl), λ ne. absurd (ne at))),
      record {
        queue = refl;
        places = λ q. refl;
        one = omega arith;
        others = λ q ne. (refl, put_else s.arrived p (s.arrived p + 1) q ne);
      },
    )

-- a connection that the home holds is settled, with a request left
settles : (p : ℕ) (s : Owners) (es : List Event) → Runs 0 no_requests es s → s.places p ≡ held 0 → s.finished p + 1 ≡ s.arrived p → (t : Owners) × Runs 0 no_requests (Settle p ∷ es) t × GoesReady p s t
settles p s es run at left = (
  queued p s,
  (s, run, (at, (λ _. refl), λ all. absurd (omega arith))),
  record { queue = refl; places = λ q. refl; one = left; others = λ q ne. (refl, refl) },
)

-- its last request is finished, and it is settled and idle
idles : (p : ℕ) (s : Owners) (es : List Event) → Runs 0 no_requests es s → s.places p ≡ held 0 → s.finished p + 1 ≡ s.arrived p → Runs 0 no_requests (Settle p ∷ Handle 0 p ∷ es) (moved p idle (with_finished p s))
idles p s es run at left =
    let one = put_here s.finished p (s.finished p + 1) in
    (with_finished p s, (s, run, (at, omega arith, refl)), (at, (λ more. absurd (omega arith)), λ _. refl))

-- and then a request arrives
idles_arrives : (p : ℕ) (s : Owners) (es : List Event) → Runs 0 no_requests es s → s.places p ≡ held 0 → s.finished p + 1 ≡ s.arrived p → (t : Owners) × Runs 0 no_requests (Arrive p 1 ∷ Settle p ∷ Handle 0 p ∷ es) t × GoesReady p s t
idles_arrives p s es run at left =
    let r = arrives p (moved p idle (with_finished p s)) (Settle p ∷ Handle 0 p ∷ es) (idles p s es run at left) (put_here s.places p idle) in
    let g = r.2 in (
      r.0,
      r.1,
      record {
        queue = g.queue;
        places = λ q. g.places q ∙ at_put (put s.places p idle) p ready (λ j x. x ≡ put s.places p ready j) q (sym (put_here s.places p ready)) (λ ne. put_else s.places p idle q ne ∙ sym (put_else s.places p ready q ne));
        one = g.one;
        others = λ q ne. let o = g.others q ne in (o.0 ∙ put_else s.finished p (s.finished p + 1) q ne, o.1);
      },
    )

-- the events of a publication lead to a state in which the connection is ready
publication_leads : {M : Type 0} (before : Before) (p : ℕ) (kept : std.Option M) (s : Owners) (es : List Event) → Runs 0 no_requests es s → (kept ≡ std.None → s.places p ≡ idle) → ((x : M) → kept ≡ std.Some x → (s.places p ≡ held 0) × (s.finished p + 1 ≡ s.arrived p))
    → (t : Owners) × Runs 0 no_requests (publication before p kept ++ es) t × GoesReady p s t
publication_leads was_idle p std.None s es run none some = arrives p s es run (none refl)
publication_leads was_idle p (std.Some x) s es run none some = let a = some x refl in idles_arrives p s es run a.0 a.1
publication_leads was_held p std.None s es run none some = arrives p s es run (none refl)
publication_leads was_held p (std.Some x) s es run none some = let a = some x refl in settles p s es run a.0 a.1

module _ {T M : Type 0} (m : ℕ) (marks : ℕ → std.Option M) (views : List (View T)) where
  -- the home raises the tail, by events with which the place becomes ready
  follows_ready : (ws ws' : List ℕ) (head tail p : ℕ) (holders : ℕ → Holder) (mark : M) → head ≤ tail → ((k : ℕ) → head ≤ k → k < tail → cell ws' m k ≡ cell ws m k) → cell ws' m tail ≡ p → (f : Follows ws m head tail holders marks views)
      → (acts : List Event) (t : Owners) → Runs 0 no_requests (acts ++ f.events) t → GoesReady p f.owners t → (views' : List (View T)) → IsKnown (acts ++ f.events) views' → Follows ws' m head (tail + 1) (put holders p (in_queue tail)) (put marks p (std.Some mark)) views'
  follows_ready ws ws' head tail p holders mark le same stored f acts t run goes views' known =
      let count : tail + 1 - head ≡ suc (tail - head) = omega arith in
      let end : head + (tail - head) ≡ tail = omega arith in record {
        owners = t;
        events = acts ++ f.events;
        run = run;
        places = λ q lt. subst (Agrees (put holders p (in_queue tail) q)) (sym (goes.places q)) (at_both holders f.owners.places p (in_queue tail) ready (λ _ x y. Agrees x y) q refl (λ _. f.places q lt));
        queue = goes.queue
            ∙ (λ i. (f.queue ∙ sym (queue-same ws ws' m head (tail - head) (λ k a b. same k a (omega arith)))) i ++ (sym stored ∙ ap (cell ws' m) (sym end)) i ∷ [])
            ∙ sym (queue-more ws' m head (tail - head)) ∙ ap (queue_of ws' m head) (sym count);
        unmarked = λ q lt. subst (λ x. (x ≡ idle) ↔ (put marks p (std.Some mark) q ≡ std.None)) (sym (goes.places q)) (at_both marks f.owners.places p (std.Some mark) ready (λ _ x y. (y ≡ idle) ↔ (x ≡ std.None)) q ((λ e. cc), λ e. cc) (λ _. f.unmarked q lt));
        due = λ q lt busy. dite (ℕ_discrete q p)
            (λ is. subst (λ k. t.finished k + 1 ≡ t.arrived k) (sym is) goes.one)
            (λ ne. let o = goes.others q ne in ap (λ n. n + 1) o.0 ∙ f.due q lt (λ g. busy (goes.places q ∙ put_else f.owners.places p ready q ne ∙ g)) ∙ sym o.1);
        known = known;
      }

  -- the home publishes a place, which was so before
  pub follows_publish : (before : Before) (ws ws' : List ℕ) (head tail p : ℕ) (holders : ℕ → Holder) (mark : M) → head ≤ tail → p < m → holders p ≡ in_hand 0 → ((k : ℕ) → head ≤ k → k < tail → cell ws' m k ≡ cell ws m k) → cell ws' m tail ≡ p → (f : Follows ws m head tail holders marks views)
      → (views' : List (View T)) → IsKnown (publication before p (marks p) ++ f.events) views' → Follows ws' m head (tail + 1) (put holders p (in_queue tail)) (put marks p (std.Some mark)) views'
  follows_publish before ws ws' head tail p holders mark le near mine same stored f =
      let here : f.owners.places p ≢ idle → f.owners.places p ≡ held 0 = λ busy. ⊎_elim (λ (e : f.owners.places p ≡ held 0). e) (λ (e : (0 ≡ 0) × (f.owners.places p ≡ idle)). absurd (busy e.1)) (subst (λ y. Agrees y (f.owners.places p)) mine (f.places p near)) in
      let leads = publication_leads before p (marks p) f.owners f.events f.run (f.unmarked p near).1
      (λ x is. let busy : f.owners.places p ≢ idle = (λ e. let none = (f.unmarked p near).0 e in cc) in (here busy, f.due p near busy)) in
      follows_ready ws ws' head tail p holders mark le same stored f (publication before p (marks p)) leads.0 leads.1 leads.2
