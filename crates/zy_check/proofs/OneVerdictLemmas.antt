-- On what is given there is one verdict.
use Rattle.std.specs.List.{slice_get}
use Rattle.std.proofs.Common.{◌≡◌, inl, inr, ℕ, ◌<◌, length, Some, refl, sym, ap, ◌∙◌, subst, arith}
use Rattle.std.proofs.lemmas.Option.{slice_get_within}
use Rattle.mc_calls.specs.Order.{of_connection}
use Rattle.mc_parse.specs.Calls.{Due}
use Rattle.zy_check.specs.declared.verdict.Verdict.{Verdict}
use Rattle.zy_check.specs.declared.verdict.Verdict.TheVariants.{Yes, No}
use Rattle.zy_check.specs.declared.verdict.Cause.{Cause}
use Rattle.zy_check.specs.declared.verdict.Cause.TheVariants.{NotNext, WrongReply, Missing, WrongOutput, WrongHolds}
use Rattle.zy_check.specs.Given.{Given, IsNextAt, AreRight, due_in, HasEveryEntry, found_output, due_output}
use Rattle.zy_check.specs.Cause.{IsNotNext, IsWrongReply, IsMissing, IsWrongOutput, IsWrongHolds, IsRight, agreeing_in, HasVerdict}

-- two numbers are the same where neither is below the other
level : (a b : ℕ) → (a < b → ⊥) → (b < a → ⊥) → a ≡ b
level a b low high = omega arith

module _ (g : Given) where
  -- ---- what excludes what

  next_is_right : (at : ℕ) → IsNotNext g at → AreRight g → ⊥
  next_is_right at is right = is.wrong (right at is.within).0

  reply_is_right : (at : ℕ) → IsWrongReply g at → AreRight g → ⊥
  reply_is_right at is right = is.wrong (right at is.within).1

  not_whole : (conn index : ℕ) → IsMissing g conn index → HasEveryEntry g conn → ⊥
  not_whole conn index is whole =
      let near = slice_get_within (due_in g conn) (length (of_connection conn g.entries)) is.call is.is_due in
      omega arith

  not_next_and_wrong : (at other : ℕ) → IsNotNext g at → IsWrongReply g other → ⊥
  not_next_and_wrong at other x y =
      let same = level at other (λ low. x.wrong (y.first at low).0) (λ high. y.wrong (x.first other high).1) in
      x.wrong (subst (IsNextAt g) (sym same) y.next)

  -- ---- one cause of each kind

  one_not_next : (at other : ℕ) → IsNotNext g at → IsNotNext g other → at ≡ other
  one_not_next at other x y = level at other (λ low. x.wrong (y.first at low).0) (λ high. y.wrong (x.first other high).0)

  one_wrong_reply : (at other : ℕ) → IsWrongReply g at → IsWrongReply g other → at ≡ other
  one_wrong_reply at other x y = level at other (λ low. x.wrong (y.first at low).1) (λ high. y.wrong (x.first other high).1)

  one_missing : (conn index other number : ℕ) → IsMissing g conn index → IsMissing g other number → Missing conn index ≡ Missing other number
  one_missing conn index other number x y =
      let same = level conn other (λ low. not_whole conn index x (y.first conn low)) (λ high. not_whole other number y (x.first other high)) in
      let both : Some x.call ≡ Some y.call =
      sym x.is_due ∙ (λ i. slice_get (due_in g (same i)) (length (of_connection (same i) g.entries))) ∙ y.is_due in
      let call : x.call ≡ y.call = cc in
      let at : index ≡ number = sym x.is_of ∙ ap (λ (d : Due). d.tag.index) call ∙ y.is_of in
      λ i. Missing (same i) (at i)

  one_wrong_output : (conn session at other place until : ℕ) → IsWrongOutput g conn session at → IsWrongOutput g other place until
      → WrongOutput conn session at ≡ WrongOutput other place until
  one_wrong_output conn session at other place until x y =
      let same = level conn other (λ low. x.wrong (y.first conn session (inl low))) (λ high. y.wrong (x.first other place (inl high))) in
      let spot = level session place (λ low. x.wrong (y.first conn session (inr (same, low)))) (λ high. y.wrong (x.first other place (inr (sym same, high)))) in
      let agrees : at ≡ until =
      sym x.agrees ∙ (λ i. agreeing_in (found_output g (same i) (spot i)) (due_output g (same i) (spot i))) ∙ y.agrees in
      λ i. WrongOutput (same i) (spot i) (agrees i)

  one_wrong_holds : (conn other : ℕ) → IsWrongHolds g conn → IsWrongHolds g other → conn ≡ other
  one_wrong_holds conn other x y = level conn other (λ low. x.wrong (y.first conn low)) (λ high. y.wrong (x.first other high))

  -- ---- one cause

  one_cause : (a b : Cause) → HasVerdict g (No a) → HasVerdict g (No b) → a ≡ b
  one_cause (NotNext at) (NotNext other) x y = ap (λ (n : ℕ). NotNext n) (one_not_next at other x y)
  one_cause (NotNext at) (WrongReply other) x y = absurd (not_next_and_wrong at other x y)
  one_cause (NotNext at) (Missing conn index) x y = absurd (next_is_right at x y.right)
  one_cause (NotNext at) (WrongOutput conn session until) x y = absurd (next_is_right at x y.complete.right)
  one_cause (NotNext at) (WrongHolds conn) x y = absurd (next_is_right at x y.complete.right)
  one_cause (WrongReply at) (NotNext other) x y = absurd (not_next_and_wrong other at y x)
  one_cause (WrongReply at) (WrongReply other) x y = ap (λ (n : ℕ). WrongReply n) (one_wrong_reply at other x y)
  one_cause (WrongReply at) (Missing conn index) x y = absurd (reply_is_right at x y.right)
  one_cause (WrongReply at) (WrongOutput conn session until) x y = absurd (reply_is_right at x y.complete.right)
  one_cause (WrongReply at) (WrongHolds conn) x y = absurd (reply_is_right at x y.complete.right)
  one_cause (Missing conn index) (NotNext at) x y = absurd (next_is_right at y x.right)
  one_cause (Missing conn index) (WrongReply at) x y = absurd (reply_is_right at y x.right)
  one_cause (Missing conn index) (Missing other number) x y = one_missing conn index other number x y
  one_cause (Missing conn index) (WrongOutput other session until) x y = absurd (not_whole conn index x (y.complete.whole conn))
  one_cause (Missing conn index) (WrongHolds other) x y = absurd (not_whole conn index x (y.complete.whole conn))
  one_cause (WrongOutput conn session until) (NotNext at) x y = absurd (next_is_right at y x.complete.right)
  one_cause (WrongOutput conn session until) (WrongReply at) x y = absurd (reply_is_right at y x.complete.right)
  one_cause (WrongOutput conn session until) (Missing other index) x y = absurd (not_whole other index y (x.complete.whole other))
  one_cause (WrongOutput conn session at) (WrongOutput other place until) x y = one_wrong_output conn session at other place until x y
  one_cause (WrongOutput conn session until) (WrongHolds other) x y = absurd (x.wrong (y.outputs conn session))
  one_cause (WrongHolds conn) (NotNext at) x y = absurd (next_is_right at y x.complete.right)
  one_cause (WrongHolds conn) (WrongReply at) x y = absurd (reply_is_right at y x.complete.right)
  one_cause (WrongHolds conn) (Missing other index) x y = absurd (not_whole other index y (x.complete.whole other))
  one_cause (WrongHolds conn) (WrongOutput other session until) x y = absurd (y.wrong (x.outputs other session))
  one_cause (WrongHolds conn) (WrongHolds other) x y = ap (λ (n : ℕ). WrongHolds n) (one_wrong_holds conn other x y)

  -- what is right has no cause
  no_cause : (cause : Cause) → IsRight g → HasVerdict g (No cause) → ⊥
  no_cause (NotNext at) right x = next_is_right at x right.complete.right
  no_cause (WrongReply at) right x = reply_is_right at x right.complete.right
  no_cause (Missing conn index) right x = not_whole conn index x (right.complete.whole conn)
  no_cause (WrongOutput conn session until) right x = x.wrong (right.outputs conn session)
  no_cause (WrongHolds conn) right x = x.wrong (right.holds conn)

  pub one_verdict : (a b : Verdict) → HasVerdict g a → HasVerdict g b → a ≡ b
  one_verdict Yes Yes x y = refl
  one_verdict Yes (No cause) x y = absurd (no_cause cause x y)
  one_verdict (No cause) Yes x y = absurd (no_cause cause y x)
  one_verdict (No cause) (No other) x y = ap (λ (c : Cause). No c) (one_cause cause other x y)
