-- The outputs of a connection's sessions, added one after another, are all of them.
use Rattle.std.specs.Prelude.{◌==◌, if◌then◌else◌}
use Rattle.std.specs.List.{concat}
use Rattle.std.proofs.Common.{◌≡◌, inl, inr, ℕ, ◌+◌, ◌<◌, ◌≤◌, ◌^◌, List, [], ◌∷◌, ◌++◌, length, Bool, true, false, refl, sym, ap, ◌∙◌, arith, eq-eqb, ne_eqb, append_assoc, append-nil, length-append, get_or, drop, subst}
use Rattle.std.proofs.lemmas.List.{drop_more, drop_all}
use Rattle.std.proofs.Math.Seq.{get_or-append_seam, set-append_seam}
use Rattle.zy_capture.specs.Capture.{connection_limit}
use Rattle.zy_capture.specs.Streams.{sessions_of}
use Rattle.zy_capture.specs.Outputs.{AllOutputs, MayAdd, with_output, with_session}
use Rattle.zy_finish.specs.Left.{bytes_between, cut_from, session_texts}
use Rattle.zy_finish.specs.Part.{added, HasAdded}

chosen : {A : Type 0} (b : Bool) (x y : A) → b ≡ true → (if b then x else y) ≡ x
chosen true x y is = refl
chosen false x y is = absurd (cc)

other : {A : Type 0} (b : Bool) (x y : A) → b ≡ false → (if b then x else y) ≡ y
other true x y is = absurd (cc)
other false x y is = refl

module _ (before : List (List (List ℕ))) where
  sessions_last : (parts : List (List ℕ)) → sessions_of (before ++ parts ∷ []) (length before) ≡ parts
  sessions_last parts = get_or-append_seam before parts [] []

  -- one further output
  with_more : (parts : List (List ℕ)) (x : List ℕ) → with_session (added before parts) (length before) x ≡ added before (parts ++ x ∷ [])
  with_more [] x = chosen (length before == length before) _ _ (eq-eqb (length before) (length before) refl)
  with_more (part ∷ parts) x =
      let size = length-append before ((part ∷ parts) ∷ []) in
      other (length before == length (before ++ (part ∷ parts) ∷ [])) _ _ (ne_eqb (length before) (length (before ++ (part ∷ parts) ∷ [])) (λ same. omega arith))
      ∙ set-append_seam before (part ∷ parts) [] (sessions_of (before ++ (part ∷ parts) ∷ []) (length before) ++ x ∷ [])
      ∙ ap (λ (old : List (List ℕ)). before ++ (old ++ x ∷ []) ∷ []) (sessions_last (part ∷ parts))

  -- one output was added
  pub one_added : (all left : List (List ℕ)) (count : ℕ) (x : List ℕ) (sessions sessions' : List (List (List ℕ)))
      → HasAdded before all count (x ∷ left) sessions → sessions' ≡ with_session sessions (length before) x → HasAdded before all (count + 1) left sessions'
  one_added all left count x sessions sessions' has is =
      let n = has.count_is in
      let size = length-append has.parts (x ∷ []) in record {
        parts = has.parts ++ x ∷ [];
        whole = append_assoc has.parts (x ∷ []) left ∙ has.whole;
        count_is = omega arith;
        sessions_are = is ∙ ap (λ (s : List (List (List ℕ))). with_session s (length before) x) has.sessions_are ∙ with_more has.parts x;
      }

  -- all were added
  pub all_added : (all : List (List ℕ)) (count : ℕ) (sessions : List (List (List ℕ))) → HasAdded before all (count + 1) [] sessions → sessions ≡ before ++ all ∷ []
  all_added all count sessions has = go has.parts has.sessions_are has.count_is has.whole
    where
      go : (parts : List (List ℕ)) → sessions ≡ added before parts → length parts ≡ count + 1 → parts ++ [] ≡ all → sessions ≡ before ++ all ∷ []
      go [] are size whole = absurd (omega arith)
      go (part ∷ parts) are size whole = are ∙ ap (λ (l : List (List ℕ)). before ++ l ∷ []) (sym (append-nil (part ∷ parts)) ∙ whole)

-- ---- the loop over the ends

module _ (before : List (List (List ℕ))) (ends : List ℕ) (texts : List (List ℕ)) where
  -- the next end
  pub next_added : (i start conn : ℕ) (outputs outputs' : AllOutputs) (bytes : List ℕ) → i < length ends → conn ≡ length before
      → HasAdded before (session_texts ends texts) i (cut_from start (drop i ends) texts) outputs.sessions
      → bytes ≡ bytes_between start (get_or ends i 0) texts → outputs' ≡ with_output outputs conn bytes
      → HasAdded before (session_texts ends texts) (i + 1) (cut_from (get_or ends i 0) (drop (i + 1) ends) texts) outputs'.sessions
  next_added i start conn outputs outputs' bytes within first has is done =
      one_added before (session_texts ends texts) (cut_from (get_or ends i 0) (drop (i + 1) ends) texts) i bytes outputs.sessions outputs'.sessions
      (subst (λ x. HasAdded before (session_texts ends texts) i (x ∷ cut_from (get_or ends i 0) (drop (i + 1) ends) texts) outputs.sessions) (sym is)
      (subst (λ l. HasAdded before (session_texts ends texts) i (cut_from start l texts) outputs.sessions) (drop_more ends i 0 within) has))
      (ap (λ (o : AllOutputs). o.sessions) done ∙ ap (λ n. with_session outputs.sessions n bytes) first)

  -- the texts after the last end
  pub last_added : (i start conn : ℕ) (outputs outputs' : AllOutputs) (bytes : List ℕ) → length ends ≤ i → conn ≡ length before
      → HasAdded before (session_texts ends texts) i (cut_from start (drop i ends) texts) outputs.sessions
      → bytes ≡ concat (drop start texts) → outputs' ≡ with_output outputs conn bytes
      → outputs'.sessions ≡ before ++ session_texts ends texts ∷ []
  last_added i start conn outputs outputs' bytes past first has is done =
      all_added before (session_texts ends texts) i outputs'.sessions
      (one_added before (session_texts ends texts) [] i bytes outputs.sessions outputs'.sessions
      (subst (λ x. HasAdded before (session_texts ends texts) i (x ∷ []) outputs.sessions) (sym is)
      (subst (λ l. HasAdded before (session_texts ends texts) i (cut_from start l texts) outputs.sessions) (drop_all i ends past) has))
      (ap (λ (o : AllOutputs). o.sessions) done ∙ ap (λ n. with_session outputs.sessions n bytes) first))
