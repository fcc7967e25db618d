-- One further hold.
use Rattle.std.proofs.Common.{◌≡◌, ℕ, ◌+◌, List, [], ◌∷◌, ◌++◌, sym, ap, ◌∙◌, subst, arith}
use Rattle.mc_calls.specs.declared.hold.Hold.{Hold}
use Rattle.mc_calls.specs.Held.{held_in}
use Rattle.zy_conn.specs.Hold.{IsHoldOf, EachIsHold, AreHolds}

held_in-push : (holds : List Hold) (hold : Hold) → held_in (holds ++ hold ∷ []) ≡ held_in holds + hold.count
held_in-push [] hold = omega arith
held_in-push (x ∷ xs) hold = omega (arith, held_in-push xs hold)

each-push : (cores connection : ℕ) (holds : List Hold) (hold : Hold) → EachIsHold cores connection holds → IsHoldOf cores connection hold → EachIsHold cores connection (holds ++ hold ∷ [])
each-push cores connection [] hold each is = (is, tt)
each-push cores connection (x ∷ xs) hold each is = (each.0, each-push cores connection xs hold each.1 is)

-- one further hold of a connection, and the number of its finished commands grows by the hold's
pub holds_more : (cores conn conn' n n' : ℕ) (holds holds' : List Hold) (hold : Hold) → AreHolds cores conn n holds → conn' ≡ conn → holds' ≡ holds ++ hold ∷ [] → n' ≡ n + hold.count
    → IsHoldOf cores conn' hold → AreHolds cores conn' n' holds'
holds_more cores conn conn' n n' holds holds' hold k same is more one =
    subst (λ l. AreHolds cores conn' n' l) (sym is) (record {
      few = k.few;
      each = each-push cores conn' holds hold (subst (λ c. EachIsHold cores c holds) (sym same) k.each) one;
      all = held_in-push holds hold ∙ ap (λ t. t + hold.count) k.all ∙ sym more;
    })
