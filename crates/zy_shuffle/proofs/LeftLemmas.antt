-- The blocks that are left at the end, stated at the values that the code has.
use Rattle.std.proofs.Common.{◌≡◌, ℕ, zero, suc, ◌+◌, List, [], ◌∷◌, ◌++◌, append_assoc, append-nil, length, take, refl, sym, ap, ◌∙◌, arith}
use Rattle.std.specs.Prelude as std
use Rattle.std.specs.Prelude.{slice_get}
use mathlib.Core.Option.{some, some-ne-none}
use lib.ListN.{get_elem?}
use Rattle.atomic_table.specs.Table.{Allows, Final, Seen}
use Rattle.atomic_table.specs.Seated.{TableId}
use Rattle.zy_shuffle.proofs.CloseLemmas.{Ended, closes, shuts}
use Rattle.zy_shuffle.specs.Hand.{left_of, marked, one_left}
use Rattle.zy_shuffle.specs.Pass.{LeftSlots, held, out_of}
use Rattle.zy_shuffle.specs.PassSeat.{IsHomeSeat, bells_of}
use Rattle.zy_shuffle.specs.ShuffleRule.{ShuffleRule}
use Rattle.zy_shuffle.specs.Step.{Seated, closed}
use Rattle.zy_table.proofs.SlotLemmas.{get_of, take_snoc}
use Rattle.zy_table.specs.declared.name.Name.{Name}

module _ {T : Type 0} where
  left_snoc : (k : ℕ) (xs : List (std.Option T)) (x : std.Option T) → left_of k (xs ++ x ∷ []) ≡ left_of k xs ++ one_left (k + length xs) x
  left_snoc k [] x = append-nil (one_left k x) ∙ ap (λ n. one_left n x) (omega arith)
  left_snoc k (y ∷ ys) x = ap (λ l. one_left k y ++ l) (left_snoc (k + 1) ys x) ∙ sym (append_assoc (one_left k y) (left_of (k + 1) ys) (one_left (k + 1 + length ys) x)) ∙ ap (λ n. (one_left k y ++ left_of (k + 1) ys) ++ one_left n x) (omega arith)

  length_taken : (k : ℕ) (xs : List (std.Option T)) (x : std.Option T) → get_elem? xs k ≡ some x → length (take k xs) ≡ k
  length_taken k [] x e = absurd (some-ne-none x (sym e))
  length_taken zero (y ∷ ys) x e = refl
  length_taken (suc k) (y ∷ ys) x e = ap suc (length_taken k ys x e)

  pub left_more : (k : ℕ) (xs : List (std.Option T)) (x : std.Option T) → get_elem? xs k ≡ some x → left_of 0 (take (k + 1) xs) ≡ left_of 0 (take k xs) ++ one_left k x
  left_more k xs x e = ap (left_of 0) (take_snoc xs k x e) ∙ left_snoc 0 (take k xs) x ∙ ap (λ n. left_of 0 (take k xs) ++ one_left n x) (let a = length_taken k xs x e in omega arith)

module _ {T M : Type 0} (mark : T → M) (label : T → Name) where
  pub shuts_as : (s n t id : ℕ) (me : Seated T) → IsHomeSeat s t me → out_of me.0.role ≡ 0 → Allows (ShuffleRule mark label) n id me 0 (λ y. y) (λ _ m. closed me m)
  shuts_as s n t id me h e = shuts mark label n id t (out_of me.0.role) std.None (bells_of me.0.role) me h.0 h.1 e

  pub closes_as : (n id : ℕ) (z : TableId) (ws : List ℕ) (xs : List (std.Option T)) (m0 m1 : Seated T) → closed m0 m1 → Final (Seen (ShuffleRule mark label) id m1.0) ws xs → length xs ≡ n → LeftSlots mark label n (held z m0.0) xs
  closes_as n id z ws xs m0 m1 e final long =
      let end : Ended mark label m1.0 m0.0.hand xs = closes mark label ws xs id m1.0 m0.0.hand (ap (λ (m : Seated T). m.0.role) e) final in
      let kept = ap (λ (m : Seated T). m.0.kept) e in
      let tag = ap (λ (m : Seated T). m.0.label) e in record {
        count = long;
        taken = λ q lt h. get_of xs q std.None (end.taken q (omega arith) h);
        full = λ q lt h. let f = end.full q (omega arith) h in (f.0, get_of xs q (std.Some f.0) f.1, ap (marked mark q) (sym kept) ∙ f.2, f.3 ∙ tag);
      }
