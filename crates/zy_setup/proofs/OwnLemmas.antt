-- The connections of the cores, one more connection at a time.
use Rattle.std.specs.Prelude.{◌↔◌, ◌||◌, All}
use Rattle.std.specs.List.{AllByRecursion}
use Rattle.std.proofs.Common.{◌≡◌, ◌≢◌, ℕ, zero, suc, ◌+◌, ◌<◌, ◌≤◌, List, [], ◌∷◌, ◌++◌, length, true, false, slice_get, set, get_or, sym, ap, ◌∙◌, subst, arith, eq-eqb, ne_eqb, length-append, length-set}
use Rattle.std.proofs.Math.Numerals.{add-one}
use mathlib.Core.Logic.{dite}
use native.Mathlib.Decide.{ℕ_discrete}
use Rattle.std.proofs.lemmas.List.{map-append, length-map}
use Rattle.std.proofs.lemmas.List.Elements.{All-get_or}
use Rattle.std.proofs.lemmas.Option.{get_or_from_slice_get, slice_get_within}
use Rattle.atomic_table.specs.Seated.{TableId}
use Rattle.zy_table.specs.Member.{is_in}
use Rattle.zy_table.proofs.MemberLemmas.{not_in}
use Rattle.zy_table.proofs.SliceLemmas.{get_at, get_set_else, get_set_same}
use Rattle.zy_rx.specs.Flow.{home_of}
use Rattle.zy_conn.specs.Ring.{EventInlet}
use Rattle.zy_conn.specs.Block.{Blocked, label_of}
use Rattle.zy_home.specs.Own.{own_conns}
use Rattle.zy_home.specs.Parts.{IsNew, IsUnused, conns_of_blocks, rings_of_blocks, rings_of_inlets}
use Rattle.zy_home.proofs.OwnLemmas.{own-here, own-else}
use Rattle.zy_setup.proofs.ListLemmas.{all_append}
use Rattle.zy_setup.specs.declared.own_connections.OwnConnections.{OwnConnections}
use Rattle.zy_setup.specs.Make.{IsEmpty, IsConnection, HasOneMore, IsOwnOf, AreOwns}

-- ---- a core

-- a core has at most as many connections as there are
own_few : (core cores n : ℕ) → length (own_conns core cores n) ≤ n
own_few core cores zero = omega arith
own_few core cores (suc n) = dite (ℕ_discrete (home_of cores n) core)
    (λ is. let more = ap (λ (l : List ℕ). length l) (own-here core cores n is) in let size = length-append (own_conns core cores n) (n ∷ []) in let rest = own_few core cores n
    in let on = ap (λ k. length (own_conns core cores k)) (add-one n) in omega arith)
    (λ other. let same = ap (λ (l : List ℕ). length l) (own-else core cores n other) in let rest = own_few core cores n in let on = ap (λ k. length (own_conns core cores k)) (add-one n) in omega arith)

-- a core has at most as many places as there are connections
pub places_few : (store : TableId) (core cores count : ℕ) (own : OwnConnections) → IsOwnOf store core cores count own → own.places ≤ count
places_few store core cores count own is =
    let places = is.places_are in
    let size = ap (λ (l : List ℕ). length l) is.conns in
    let long = length-map own.blocks (λ (b : Blocked). b.work.conn) in
    let few = own_few core cores count in
    omega arith

module _ (store : TableId) (core cores conn : ℕ) (own : OwnConnections) (is : IsOwnOf store core cores conn own) where
  -- a connection of the core is added
  own_added : (own' : OwnConnections) (block : Blocked) (inlet : EventInlet) → home_of cores conn ≡ core → IsConnection store cores conn block inlet → HasOneMore block inlet own own' → IsOwnOf store core cores (conn + 1) own'
  own_added own' block inlet here new more = record {
    places_are = (let places = is.places_are in let one = more.places_are in let size = ap (λ (l : List Blocked). length l) more.blocks_are in let long = length-append own.blocks (block ∷ []) in omega arith);
    conns = ap conns_of_blocks more.blocks_are ∙ map-append (λ (b : Blocked). b.work.conn) own.blocks (block ∷ [])
        ∙ (λ i. is.conns i ++ new.conn_is i ∷ []) ∙ sym (own-here core cores conn here);
    new = subst (AllByRecursion (IsNew (label_of store cores))) (sym more.blocks_are) (all_append (IsNew (label_of store cores)) own.blocks (block ∷ []) is.new (new.new, tt));
    rings = ap rings_of_inlets more.inlets_are ∙ map-append (λ (x : EventInlet). x.ring) own.inlets (inlet ∷ [])
        ∙ (λ i. is.rings i ++ new.ring_is i ∷ [])
        ∙ sym (ap rings_of_blocks more.blocks_are ∙ map-append (λ (b : Blocked). b.work.ring) own.blocks (block ∷ []));
    unused = subst (AllByRecursion IsUnused) (sym more.inlets_are) (all_append IsUnused own.inlets (inlet ∷ []) is.unused (new.unused, tt));
  }

  -- a connection of another core is not one of this core
  own_kept : home_of cores conn ≢ core → IsOwnOf store core cores (conn + 1) own
  own_kept other = record {
    places_are = is.places_are;
    conns = is.conns ∙ sym (own-else core cores conn other);
    new = is.new;
    rings = is.rings;
    unused = is.unused;
  }

-- ---- all cores

module _ (store : TableId) (cores conn : ℕ) (owns : List OwnConnections) (are : AreOwns store cores conn owns) (core : ℕ) (here : core ≡ home_of cores conn) (within : core < cores)
    (own : OwnConnections) (is : own ≡ get_or owns core own) where
  own_at_core : IsOwnOf store core cores conn own
  own_at_core = let size = are.count in are.each core own (get_at owns core own own (omega arith) is)

  -- there is room for one further place
  pub own_room : conn < 4096 → own.places < 4096
  own_room below = let few = places_few store core cores conn own own_at_core in omega arith

  pub owns_next : (own' : OwnConnections) (block : Blocked) (inlet : EventInlet) → IsConnection store cores conn block inlet → HasOneMore block inlet own own' → AreOwns store cores (conn + 1) (set owns core own')
  owns_next own' block inlet new more = record {
    count = length-set owns core own' ∙ are.count;
    each = λ k x at. dite (ℕ_discrete k core)
        (λ same. let e : own' ≡ x = get_set_same owns core own' x (ap (slice_get (set owns core own')) (sym same) ∙ at) in
        subst (λ n. IsOwnOf store n cores (conn + 1) x) (sym same) (subst (IsOwnOf store core cores (conn + 1)) e (own_added store core cores conn own own_at_core own' block inlet (sym here) new more)))
        (λ other. own_kept store k cores conn x (are.each k x (sym (get_set_else owns core k own' other) ∙ at)) (λ home. other (sym home ∙ sym here)));
  }

-- ---- the passes that were given

pub given_next : (given given' : List ℕ) (conn : ℕ) → ((c : ℕ) → (is_in c given ≡ true) ↔ (c < conn)) → given' ≡ conn ∷ given → (c : ℕ) → (is_in c given' ≡ true) ↔ (c < conn + 1)
given_next given given' conn are is c = dite (ℕ_discrete c conn)
    (λ same. ((λ there. omega arith), (λ below. ap (is_in c) is ∙ ap (λ b. b || is_in c given) (eq-eqb c conn same))))
    (λ other.
    let rest : is_in c given' ≡ is_in c given = ap (is_in c) is ∙ ap (λ b. b || is_in c given) (ne_eqb c conn other) in (
      (λ there. let below = (are c).0 (sym rest ∙ there) in omega arith),
      (λ below. rest ∙ (are c).1 (omega arith)),
    ))
