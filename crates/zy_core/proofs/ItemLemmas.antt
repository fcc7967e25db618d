-- What the items that a home received in one call come to in a turn.
use Rattle.std.specs.Prelude.{nat_lt}
use Rattle.std.proofs.Common.{Bool, ◌≡◌, ℕ, List, [], ◌∷◌, ◌++◌, length, true, false, refl, ap, ◌∙◌, arith, length-append, append-nil}
use Rattle.std.proofs.lemmas.Bool.{ltb-true, ltb-false}
use Rattle.zy_rx.specs.declared.rx.Rx.{Rx}
use Rattle.zy_rx.specs.Ring.{Taking}
use Rattle.zy_home.specs.Home.{Homed}
use Rattle.zy_home.specs.Items.{ReceivesAll}
use Rattle.zy_core.specs.Turn.{ReceivesTo}

no_items : (items : List Rx) → length items ≡ 0 → items ≡ []
no_items [] e = refl
no_items (x ∷ xs) e = absurd (omega arith)

-- some were received, or none was
pub receives_to : (h h' : Homed) (o o' : Taking) (count : ℕ) → ReceivesAll h o h' o' count → ReceivesTo h o h' o' (nat_lt 0 count)
receives_to h h' o o' count r = go (nat_lt 0 count) refl
  where
    go : (some : Bool) → nat_lt 0 count ≡ some → ReceivesTo h o h' o' some
    go true e =
        let above = ltb-true 0 count e in
        let size = r.size in
        let long = length-append o.taken r.items in
        let taken = ap (λ (l : List Rx). length l) r.taken in
        let few = r.few in record {
          some = omega arith;
          most = omega arith;
          all = λ less. r.all (omega arith);
        }
    go false e =
        let below = ltb-false 0 count e in
        let size = r.size in
        (r.none (omega arith), r.taken ∙ ap (λ l. o.taken ++ l) (no_items r.items (omega arith)) ∙ append-nil o.taken, r.all (omega arith))
