-- Turns and naps of cores: the numbers of their turns, and what the turns of several cores come to.
use Rattle.std.proofs.Common.{◌≡◌, ◌⊎◌, ℕ, zero, suc, ◌+◌, ◌<◌, ◌≤◌, ◌^◌, List, [], ◌∷◌, map, length, set, take, Option, Some, slice_get, Bool, true, false, refl, sym, ap, ◌∙◌, subst, ⊎_elim, inl, inr, arith, add-one}
use Rattle.std.specs.Prelude.{nat_lt, if◌then◌else◌}
use Rattle.std.proofs.lemmas.Bool.{lt-ltb, le-ltb}
use Rattle.std.proofs.lemmas.List.{take_all}
use Rattle.zy_park.specs.Pass.{Passed}
use Rattle.zy_steal.specs.declared.looks.Look.{Look}
use Rattle.zy_core.specs.Core.{Cored}
use Rattle.zy_core.specs.Cores.{identities}
use Rattle.zy_rounds.specs.declared.round.Round.{Round}
use Rattle.zy_rounds.specs.Round.{with_round}
use Rattle.zy_rounds.specs.Turns.{TurnedTo, HasTurned, EachTurned, AllTurned, next_turn, turns_of, HaveTurned}
use Rattle.zy_rounds.specs.Naps.{IsAlone, NappedTo}

-- ---- the number of turns

-- one turn more, below the most
next_few : (n : ℕ) → n < 2 ^ 48 → next_turn n ≡ n + 1
next_few n lt = ap (λ (b : Bool). if b then n + 1 else n) (lt-ltb n (2 ^ 48) lt)

-- none, at the most
next_most : (n : ℕ) → 2 ^ 48 ≤ n → next_turn n ≡ n
next_most n le = ap (λ (b : Bool). if b then n + 1 else n) (le-ltb n (2 ^ 48) le)

-- after a turn
pub turn_next : (before after : Cored) (looks looks' : List (Option Look)) (round : Round) → TurnedTo before after looks looks' round → after.turns ≡ next_turn before.turns
turn_next before after looks looks' round to = ⊎_elim
    (λ took. took.1 ∙ sym (next_few before.turns took.0))
    (λ most. ap (λ (c : Cored). c.turns) most.1 ∙ sym (next_most before.turns most.0))
    to

-- after a nap
pub nap_next : (cores : ℕ) (before after : Cored) (bell bell' : Passed) (round : Round) → NappedTo cores before after bell bell' round → after.turns ≡ next_turn before.turns
nap_next cores before after bell bell' round to = ⊎_elim
    (λ took. took.1 ∙ sym (next_few before.turns took.0))
    (λ most. ap (λ (c : Cored). c.turns) most.1 ∙ sym (next_most before.turns most.0))
    to

-- of one core
pub alone_turned : (n : ℕ) (cs : List Cored) (c d : Cored) → IsAlone n (identities cs) → slice_get cs 0 ≡ Some c → d.turns ≡ next_turn c.turns → HaveTurned cs (set cs 0 d)
alone_turned n [] c d alone at is = absurd (cc)
alone_turned n (x ∷ []) c d alone at is = let here : x ≡ c = cc in ap (λ k. k ∷ []) (is ∙ ap (λ (y : Cored). next_turn y.turns) (sym here))
alone_turned n (x ∷ y ∷ xs) c d alone at is = absurd (cc)

-- ---- turns of several cores

-- one core more
turns_more : (cs ds : List Cored) (i : ℕ) (c d : Cored) (looks between looks' : List (Option Look)) (first so one : Round) → slice_get cs i ≡ Some c → slice_get ds i ≡ Some c → TurnedTo c d between looks' one
    → AllTurned (take i cs) (take i ds) looks between first so → AllTurned (take (suc i) cs) (take (suc i) (set ds i d)) looks looks' first (with_round so one)
turns_more [] ds i c d looks between looks' first so one at there to all = absurd (cc)
turns_more (x ∷ xs) [] i c d looks between looks' first so one at there to all = absurd (cc)
turns_more (x ∷ xs) (y ∷ ys) zero c d looks between looks' first so one at there to all =
    let is : x ≡ c = cc in (
      looks',
      one,
      subst (λ (l : List (Option Look)). TurnedTo x d l looks' one) all.0 (subst (λ z. TurnedTo z d between looks' one) (sym is) to),
      (refl, ap (λ r. with_round r one) all.1),
    )
turns_more (x ∷ xs) (y ∷ ys) (suc i) c d looks between looks' first so one at there to all =
    (all.0, all.1, all.2, turns_more xs ys i c d all.0 between looks' (with_round first all.1) so one at there to all.3)

pub turns_on : (cs ds : List Cored) (i : ℕ) (c d : Cored) (looks between looks' : List (Option Look)) (first so one : Round) → slice_get cs i ≡ Some c → slice_get ds i ≡ Some c → TurnedTo c d between looks' one
    → AllTurned (take i cs) (take i ds) looks between first so → AllTurned (take (i + 1) cs) (take (i + 1) (set ds i d)) looks looks' first (with_round so one)
turns_on cs ds i c d looks between looks' first so one at there to all = rw add-one (turns_more cs ds i c d looks between looks' first so one at there to all)

-- all cores
pub turns_all : (cs ds : List Cored) (i : ℕ) (looks looks' : List (Option Look)) (first round : Round) → length cs ≤ i → length ds ≤ i → AllTurned (take i cs) (take i ds) looks looks' first round → AllTurned cs ds looks looks' first round
turns_all cs ds i looks looks' first round le le' all =
    subst (λ (l : List Cored). AllTurned l ds looks looks' first round) (take_all i cs le) (subst (λ (l : List Cored). AllTurned (take i cs) l looks looks' first round) (take_all i ds le') all)

-- each took one turn more
pub turns_next : (cs ds : List Cored) (looks looks' : List (Option Look)) (first round : Round) → AllTurned cs ds looks looks' first round → HaveTurned cs ds
turns_next [] [] looks looks' first round all = refl
turns_next [] (d ∷ ds) looks looks' first round all = absurd all
turns_next (c ∷ cs) [] looks looks' first round all = absurd all
turns_next (c ∷ cs) (d ∷ ds) looks looks' first round all =
    λ i. turn_next c d looks all.0 all.1 all.2 i ∷ turns_next cs ds all.0 looks' (with_round first all.1) round all.3 i

-- or had taken the most
has_turned : (before after : Cored) (looks looks' : List (Option Look)) (round : Round) → TurnedTo before after looks looks' round → HasTurned before after
has_turned before after looks looks' round to = ⊎_elim (λ took. inl took.1) (λ most. inr (most.0, most.1)) to

pub turns_each : (cs ds : List Cored) (looks looks' : List (Option Look)) (first round : Round) → AllTurned cs ds looks looks' first round → EachTurned cs ds
turns_each [] ds looks looks' first round all i x y was is = absurd (cc)
turns_each (c ∷ cs) [] looks looks' first round all i x y was is = absurd all
turns_each (c ∷ cs) (d ∷ ds) looks looks' first round all zero x y was is =
    let before : c ≡ x = cc in let after : d ≡ y = cc in
    subst (λ z. HasTurned z y) before (subst (HasTurned c) after (has_turned c d looks all.0 all.1 all.2))
turns_each (c ∷ cs) (d ∷ ds) looks looks' first round all (suc i) x y was is = turns_each cs ds all.0 looks' (with_round first all.1) round all.3 i x y was is
