-- What a home keeps and does when it receives an item, or several.
use Rattle.std.proofs.Common.{◌≡◌, ℕ, ◌≤◌, List, [], ◌∷◌, ◌++◌, length, Option, Some, None, slice_get, refl, sym, ap, ◌∙◌, subst, arith}
use Rattle.zy_rx.specs.declared.rx.Rx.{Rx}
use Rattle.zy_shuffle.specs.Run.{was_idle}
use Rattle.zy_conn.specs.Block.{Blocked}
use Rattle.zy_home.specs.Own.{own_conns}
use Rattle.zy_home.specs.Home.{Homed, StandsMore, conns_in}
use Rattle.zy_home.specs.Place.{ComesTo, Forwards, Settles}
use Rattle.zy_home.specs.Items.{CutsEach, RefusedAmid}
use Rattle.zy_home.specs.Receiving.{CutsIn, SettlesAt, StepsIn}
use Rattle.zy_home.proofs.ReceiveLemmas.{comes_once}
use Rattle.zy_home.proofs.SettleLemmas.{settles_next}

-- ---- one item

-- an item was cut for the connection at a place, and the block of the place was settled
module _ (h m n : Homed) (p : ℕ) (item : Rx) (c : CutsIn h item m) (s : SettlesAt p m n) where
  pub one_stands : StandsMore h item n
  one_stands items e = (settles_next m m n p (record { places = []; settles = refl; stands = λ items e. e }) s).stands (items ++ item ∷ []) (c.1 items e)

  -- what was done with a block, from before the cut
  one_here : (d : Blocked) → Settles was_idle p d m n → Settles was_idle p d h n
  one_here d at =
      let past : Settles was_idle p d (record h { pass = m.pass; blocks = m.blocks }) n = record { block = at.block; met = at.met; event = at.event; makes = at.makes; idle = at.idle; knows = at.knows; behind = at.behind } in
      subst (λ z. Settles was_idle p d z n) (λ i. record h { pass = c.0.pass i; blocks = c.0.blocks i }) past

  pub one_forwards : conns_in h.links ≡ own_conns h.core h.cores h.count → ComesTo h p item → Forwards h n item
  one_forwards own comes = record {
    here = λ q d to there. let same = comes_once h own p q item comes to in
        subst (λ z. Settles was_idle z d h n) (sym same) (here s.slot s.there s.steps d (ap (λ bs. slice_get bs p) c.0.blocks ∙ ap (slice_get h.blocks) (sym same) ∙ there));
    away = λ q to none.
        let is = gone s.slot s.there s.steps (ap (λ bs. slice_get bs p) c.0.blocks ∙ ap (slice_get h.blocks) (sym (comes_once h own p q item comes to)) ∙ none) in
        (ap (λ (z : Homed). z.pass) is ∙ c.0.pass, ap (λ (z : Homed). z.blocks) is ∙ c.0.blocks, λ link e. c.0.away q to none link (ap (λ (z : Homed). slice_get z.links q) (sym is) ∙ e));
  }
    where
      here : (x : Option Blocked) → slice_get m.blocks p ≡ Some x → StepsIn p x m n → (d : Blocked) → slice_get m.blocks p ≡ Some (Some d) → Settles was_idle p d h n
      here None at is d there = absurd (let e = sym at ∙ there in cc)
      here (Some f) at step d there = let same : f ≡ d = (let e = sym at ∙ there in cc) in one_here d (subst (λ z. Settles was_idle p z m n) same step.0)

      gone : (x : Option Blocked) → slice_get m.blocks p ≡ Some x → StepsIn p x m n → slice_get m.blocks p ≡ Some None → n ≡ m
      gone None at is none = is
      gone (Some f) at step none = absurd (let e = sym at ∙ none in cc)

-- the item is for no place
pub forwards_none : (h h' : Homed) (item : Rx) → ((p : ℕ) → ComesTo h p item → ⊥) → Forwards h h' item
forwards_none h h' item none = record { here = λ p b comes at. absurd (none p comes); away = λ p comes at. absurd (none p comes) }

-- ---- several

each_on : (a b c : Homed) (items more : List Rx) → CutsEach a items b → CutsEach b more c → CutsEach a (items ++ more) c
each_on a b c [] more s t = subst (λ z. CutsEach z more c) s t
each_on a b c (x ∷ xs) more s t = (s.0, s.1, each_on s.0 b c xs more s.2 t)

-- items were cut, and then memory was refused
pub refused_on : (a b c : Homed) (items : List Rx) → CutsEach a items b → RefusedAmid b c → RefusedAmid a c
refused_on a b c items s r = record { items = items ++ r.items; cut = r.cut; cuts = each_on a b r.cut items r.items s r.cuts; places = r.places; between = r.between; settles = r.settles; hand = r.hand }

pub none_cut : (a b : Homed) (items : List Rx) → length items ≡ 0 → CutsEach a items b → b ≡ a
none_cut a b [] e s = s
none_cut a b (x ∷ xs) e s = absurd (omega arith)

pub none_left : (places : List ℕ) → length places ≤ 0 → places ≡ []
none_left [] le = refl
none_left (p ∷ ps) le = absurd (omega arith)
