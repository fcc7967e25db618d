-- Each event of the ownership machine leads from a sound state to a sound state.
use Rattle.std.proofs.Common.{◌≡◌, ◌≢◌, ◌⊎◌, ℕ, ◌+◌, ◌<◌, ◌≤◌, List, [], ◌∷◌, ◌++◌, true, false, true≢false, refl}
use Rattle.std.proofs.Common.{sym, ap, ◌∙◌, subst, inl, inr, ⊎_elim, arith}
use mathlib.Core.Logic.{dite}
use native.Mathlib.Decide.{ℕ_discrete}
use Rattle.zy_table.specs.Member.{is_in, IsDistinct}
use Rattle.zy_table.specs.Put.{put}
use Rattle.zy_table.proofs.PutLemmas.{at_put, put_here, put_else}
use Rattle.zy_table.proofs.MemberLemmas.{in_or, in_front, in_cons, in_more, not_in}
use Rattle.zy_shuffle.specs.declared.ring.view.Event.{Event}
use Rattle.zy_shuffle.specs.declared.ring.view.Event.TheVariants.{Arrive, Claim, Handle, GiveBack, Collect, Settle}
use Rattle.zy_shuffle.specs.Ownership.{Place, idle, ready, held, returned, Owners, no_requests, moved, with_requests}
use Rattle.zy_shuffle.specs.Ownership.{with_finished, happens, IsSound, Runs}

-- ---- a queue with one further member

-- a member of the longer queue is the new one, or an old one
end_or : (c q : ℕ) (xs : List ℕ) → is_in q (xs ++ c ∷ []) ≡ true → (q ≡ c) ⊎ (is_in q xs ≡ true)
end_or c q [] h = ⊎_elim (λ (e : q ≡ c). inl e) (λ (e : (q ≢ c) × (is_in q [] ≡ true)). absurd (true≢false (sym e.1))) (in_or c q [] h)
end_or c q (x ∷ xs) h = ⊎_elim
    (λ (e : q ≡ x). inr (ap (λ y. is_in y (x ∷ xs)) e ∙ in_front x xs))
    (λ (e : (q ≢ x) × (is_in q (xs ++ c ∷ []) ≡ true)). ⊎_elim (λ (f : q ≡ c). inl f) (λ (f : is_in q xs ≡ true). inr (in_more x q xs f)) (end_or c q xs e.1))
    (in_or x q (xs ++ c ∷ []) h)

-- the new one is a member
end_in : (c : ℕ) (xs : List ℕ) → is_in c (xs ++ c ∷ []) ≡ true
end_in c [] = in_front c []
end_in c (x ∷ xs) = in_more x c (xs ++ c ∷ []) (end_in c xs)

-- each old one is a member
end_more : (c q : ℕ) (xs : List ℕ) → is_in q xs ≡ true → is_in q (xs ++ c ∷ []) ≡ true
end_more c q [] h = absurd (true≢false (sym h))
end_more c q (x ∷ xs) h = ⊎_elim
    (λ (e : q ≡ x). ap (λ y. is_in y (x ∷ xs ++ c ∷ [])) e ∙ in_front x (xs ++ c ∷ []))
    (λ (e : (q ≢ x) × (is_in q xs ≡ true)). in_more x q (xs ++ c ∷ []) (end_more c q xs e.1))
    (in_or x q xs h)

-- a distinct queue stays distinct when a connection that was not in it is appended
end_distinct : (c : ℕ) (xs : List ℕ) → IsDistinct xs → is_in c xs ≡ false → IsDistinct (xs ++ c ∷ [])
end_distinct c [] d h = (refl, tt)
end_distinct c (x ∷ xs) d h = (
  not_in x (xs ++ c ∷ []) (λ e. ⊎_elim
      (λ (f : x ≡ c). true≢false (sym (in_front x xs) ∙ ap (λ y. is_in y (x ∷ xs)) f ∙ h))
      (λ (f : is_in x xs ≡ true). true≢false (sym f ∙ d.0))
      (end_or c x xs e)),
  end_distinct c xs d.1 (not_in c xs (λ e. true≢false (sym (in_more x c xs e) ∙ h))),
)

-- ---- one connection moves

-- a connection that is not ready is in no queue
not_ready : (s : Owners) (c : ℕ) → IsSound s → (s.places c ≡ ready → ⊥) → is_in c s.queue ≡ false
not_ready s c sound not = not_in c s.queue (λ e. not ((sound.queued c).1 e))

-- a connection that is not ready goes to the end of the queue, if it has an unfinished request
joins_queue : (s : Owners) (c : ℕ) (arrived : ℕ → ℕ) → IsSound s → (s.places c ≡ ready → ⊥) → ((q : ℕ) → q ≢ c → arrived q ≡ s.arrived q) → s.finished c < arrived c
    → IsSound (record s { places = put s.places c ready; queue = s.queue ++ c ∷ []; arrived = arrived })
joins_queue s c arrived sound not others due = record {
  queued = λ q. (
    at_put s.places c ready (λ j place. place ≡ ready → is_in j (s.queue ++ c ∷ []) ≡ true) q (λ _. end_in c s.queue) (λ _ e. end_more c q s.queue ((sound.queued q).0 e)),
    at_put s.places c ready (λ j place. is_in j (s.queue ++ c ∷ []) ≡ true → place ≡ ready) q (λ _. refl)
        (λ ne e. ⊎_elim (λ (f : q ≡ c). absurd (ne f)) (λ (f : is_in q s.queue ≡ true). (sound.queued q).1 f) (end_or c q s.queue e)),
  );
  once = end_distinct c s.queue sound.once (not_ready s c sound not);
  counts = λ q. dite (ℕ_discrete q c)
      (λ e. let a = ap arrived e in let b = ap s.finished e in omega arith)
      (λ ne. let a = others q ne in let b = sound.counts q in omega arith);
  idle_done = λ q. at_put s.places c ready (λ j place. place ≡ idle → s.finished j ≡ arrived j) q (λ e. cc) (λ ne e. sound.idle_done q e ∙ sym (others q ne));
  ready_due = λ q. at_put s.places c ready (λ j place. place ≡ ready → s.finished j < arrived j) q (λ _. due)
      (λ ne e. let a = others q ne in let b = sound.ready_due q e in omega arith);
}

-- a connection goes from one place that is not the queue to another, and becomes idle only if no
-- request is unfinished
goes_to : (s : Owners) (c : ℕ) (place : Place) → IsSound s → (s.places c ≡ ready → ⊥) → (place ≡ ready → ⊥) → (place ≡ idle → s.finished c ≡ s.arrived c) → IsSound (moved c place s)
goes_to s c place sound was is done = record {
  queued = λ q. (
    at_put s.places c place (λ j x. x ≡ ready → is_in j s.queue ≡ true) q (λ e. absurd (is e)) (λ _ e. (sound.queued q).0 e),
    at_put s.places c place (λ j x. is_in j s.queue ≡ true → x ≡ ready) q (λ e. absurd (was ((sound.queued c).1 e))) (λ _ e. (sound.queued q).1 e),
  );
  once = sound.once;
  counts = sound.counts;
  idle_done = λ q. at_put s.places c place (λ j x. x ≡ idle → s.finished j ≡ s.arrived j) q done (λ _ e. sound.idle_done q e);
  ready_due = λ q. at_put s.places c place (λ j x. x ≡ ready → s.finished j < s.arrived j) q (λ e. absurd (is e)) (λ _ e. sound.ready_due q e);
}

-- requests of a connection that is not idle arrive
more_requests : (s : Owners) (c count : ℕ) → IsSound s → (s.places c ≢ idle) → IsSound (with_requests c count s)
more_requests s c count sound busy = record {
  queued = sound.queued;
  once = sound.once;
  counts = λ q. at_put s.arrived c (s.arrived c + count) (λ j x. s.finished j ≤ x) q (let a = sound.counts c in omega arith) (λ _. sound.counts q);
  idle_done = λ q e. sound.idle_done q e ∙ sym (put_else s.arrived c (s.arrived c + count) q (λ f. busy (ap s.places (sym f) ∙ e)));
  ready_due = λ q e. at_put s.arrived c (s.arrived c + count) (λ j x. s.finished j < x → s.finished j < x) q (λ h. h) (λ _ h. h)
      (at_put s.arrived c (s.arrived c + count) (λ j x. s.places j ≡ ready → s.finished j < x) q (λ f. let a = sound.ready_due c f in omega arith) (λ _ f. sound.ready_due q f) e);
}

-- ---- events

-- the first connection of the queue is taken
takes_first : (s : Owners) (core c : ℕ) (rest : List ℕ) → IsSound s → s.queue ≡ c ∷ rest → IsSound (record (moved c (held core) s) { queue = rest })
takes_first s core c rest sound is =
    let once = subst IsDistinct is sound.once in record {
      queued = λ q. (
        at_put s.places c (held core) (λ j x. x ≡ ready → is_in j rest ≡ true) q (λ e. cc) (λ ne e. sym (in_cons c q rest ne) ∙ ap (is_in q) (sym is) ∙ (sound.queued q).0 e),
        at_put s.places c (held core) (λ j x. is_in j rest ≡ true → x ≡ ready) q (λ e. absurd (true≢false (sym e ∙ once.0))) (λ _ e. (sound.queued q).1 (ap (is_in q) is ∙ in_more c q rest e)),
      );
      once = once.1;
      counts = sound.counts;
      idle_done = λ q. at_put s.places c (held core) (λ j x. x ≡ idle → s.finished j ≡ s.arrived j) q (λ e. cc) (λ _ e. sound.idle_done q e);
      ready_due = λ q. at_put s.places c (held core) (λ j x. x ≡ ready → s.finished j < s.arrived j) q (λ e. cc) (λ _ e. sound.ready_due q e);
    }

-- a request of a connection in the hand of a core is finished
finishes : (s : Owners) (core c : ℕ) → IsSound s → s.places c ≡ held core → s.finished c < s.arrived c → IsSound (with_finished c s)
finishes s core c sound is due = record {
  queued = sound.queued;
  once = sound.once;
  counts = λ q. at_put s.finished c (s.finished c + 1) (λ j x. x ≤ s.arrived j) q (omega arith) (λ _. sound.counts q);
  idle_done = λ q e. put_else s.finished c (s.finished c + 1) q (λ f. let a = ap s.places (sym f) ∙ e in cc) ∙ sound.idle_done q e;
  ready_due = λ q e. at_put s.finished c (s.finished c + 1) (λ j x. s.places j ≡ ready → x < s.arrived j) q (λ f. cc) (λ _ f. sound.ready_due q f) e;
}

-- whether a connection is idle
pub idle_or : (place : Place) → (place ≡ idle) ⊎ (place ≢ idle)
idle_or idle = inl refl
idle_or ready = inr (λ e. cc)
idle_or (held core) = inr (λ e. cc)
idle_or returned = inr (λ e. cc)

pub keeps_sound : (home : ℕ) (s t : Owners) (e : Event) → IsSound s → happens home s e t → IsSound t
keeps_sound home s t (Arrive c count) sound h = ⊎_elim
    (λ (e : s.places c ≡ idle). subst IsSound (sym (h.1 e))
    (joins_queue s c (put s.arrived c (s.arrived c + count)) sound (λ f. cc) (λ q ne. put_else s.arrived c (s.arrived c + count) q ne)
    (let a = put_here s.arrived c (s.arrived c + count) in let b = sound.idle_done c e in let some = h.0 in omega arith)))
    (λ (ne : s.places c ≢ idle). subst IsSound (sym (h.2 ne)) (more_requests s c count sound ne))
    (idle_or (s.places c))
keeps_sound home s t (Claim core) sound h = subst IsSound (sym h.3) (takes_first s core h.0 h.1 sound h.2)
keeps_sound home s t (Handle core c) sound h = subst IsSound (sym h.2) (finishes s core c sound h.0 h.1)
keeps_sound home s t (GiveBack core c) sound h = subst IsSound (sym h.2) (goes_to s c returned sound (λ e. let a = h.0 in cc) (λ e. cc) (λ e. cc))
keeps_sound home s t (Collect c) sound h = subst IsSound (sym h.1) (goes_to s c (held home) sound (λ e. let a = h.0 in cc) (λ e. cc) (λ e. cc))
keeps_sound home s t (Settle c) sound h = dite (ℕ_discrete (s.finished c) (s.arrived c))
    (λ done. subst IsSound (sym (h.2 done)) (goes_to s c idle sound (λ e. let a = h.0 in cc) (λ e. cc) (λ _. done)))
    (λ left. let due : s.finished c < s.arrived c = (let a = sound.counts c in omega arith) in
    subst IsSound (sym (h.1 due)) (joins_queue s c s.arrived sound (λ e. let a = h.0 in cc) (λ q _. refl) due))

-- ---- runs

begins_sound : IsSound no_requests
begins_sound = record {
  queued = λ c. ((λ e. cc), (λ e. absurd (true≢false (sym e))));
  once = tt;
  counts = λ c. omega arith;
  idle_done = λ c _. refl;
  ready_due = λ c e. cc;
}

pub runs_from : (home : ℕ) (s t : Owners) (events : List Event) → IsSound s → Runs home s events t → IsSound t
runs_from home s t [] sound run = subst IsSound (sym run) sound
runs_from home s t (e ∷ es) sound run = keeps_sound home run.0 t e (runs_from home s run.0 es sound run.1) run.2

pub runs_sound : (home : ℕ) (t : Owners) (events : List Event) → Runs home no_requests events t → IsSound t
runs_sound home t events run = runs_from home no_requests t events begins_sound run
