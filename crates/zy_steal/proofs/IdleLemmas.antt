-- The passes after a steal and after a block was given back: their tables, and in the end their hands.
use Rattle.std.proofs.Common.{◌≡◌, ℕ, zero, suc, List, [], ◌∷◌, length, map, set, Some, slice_get, refl, sym, ap, ◌∙◌, arith}
use Rattle.atomic_table.specs.Seated.{TableId}
use Rattle.zy_table.specs.declared.name.Name.{Name}
use Rattle.zy_table.specs.Member.{without}
use Rattle.zy_table.proofs.MemberLemmas.{without_here}
use Rattle.zy_table.proofs.SliceLemmas.{set_there, set_twice}
use Rattle.zy_shuffle.specs.Pass.{Held, Ringed}
use Rattle.zy_steal.specs.Order.{number_of}
use Rattle.zy_steal.specs.Steal.{PassList, ArePasses, AreIdle, GivesTo, SeatOf, seat_of, seats_of, TakesFrom}
use Rattle.zy_steal.proofs.SeatLemmas.{seats-get, seats-length}

-- ---- tables

-- the tables of passes
abbrev pub tables_of : List SeatOf → List TableId
tables_of ss = map (λ (s : SeatOf). s.table) ss

-- one seat is changed, and its table is not
tables-set : (ss : List SeatOf) (i : ℕ) (s t : SeatOf) → slice_get ss i ≡ Some s → t.table ≡ s.table → tables_of (set ss i t) ≡ tables_of ss
tables-set [] i s t e same = refl
tables-set (x ∷ xs) zero s t e same = let is : x ≡ s = cc in ap (λ z. z ∷ tables_of xs) (same ∙ ap (λ (z : SeatOf). z.table) (sym is))
tables-set (x ∷ xs) (suc i) s t e same = ap (λ l. x.table ∷ l) (tables-set xs i s t e same)

-- there is a table for each pass
tables-length : (ss : List SeatOf) → length (tables_of ss) ≡ length ss
tables-length [] = refl
tables-length (x ∷ xs) = ap suc (tables-length xs)

module _ {T : Type 0} where
  -- the table of one pass
  tables-get : (vs : List (Held T)) (i : ℕ) (v : Held T) → slice_get vs i ≡ Some v → slice_get (tables_of (seats_of vs)) i ≡ Some v.table
  tables-get [] i v e = cc
  tables-get (x ∷ xs) zero v e = let is : x ≡ v = cc in ap (λ (z : Held T). Some z.table) is
  tables-get (x ∷ xs) (suc i) v e = tables-get xs i v e

  -- each is the table of a pass
  some_of_table : (vs : List (Held T)) (i : ℕ) (z : TableId) → slice_get (tables_of (seats_of vs)) i ≡ Some z → (v : Held T) × (slice_get vs i ≡ Some v) × (v.table ≡ z)
  some_of_table [] i z e = absurd (cc)
  some_of_table (x ∷ xs) zero z e = (x, refl, cc)
  some_of_table (x ∷ xs) (suc i) z e = some_of_table xs i z e

  -- passes with the same tables are passes on the same rings
  pub passes_tables : (rings : List Ringed) (p q : PassList T) → q.core ≡ p.core → tables_of (seats_of q.items) ≡ tables_of (seats_of p.items) → ArePasses rings p → ArePasses rings q
  passes_tables rings p q core same h = rw core (record {
    count = let a = ap length same in let b = seats-length p.items in let c = seats-length q.items in let d = tables-length (seats_of p.items) in let e = tables-length (seats_of q.items) in let f = h.count in omega arith;
    core = h.core;
    tables = λ at v r e there.
        let old = some_of_table p.items at v.table (ap (λ l. slice_get l at) (sym same) ∙ tables-get q.items at v e) in
        sym old.2 ∙ h.tables at old.0 r old.1 there;
  })

  module _ {M : Type 0} (mark : T → M) (label : T → Name) where
    -- so does a steal
    pub takes_within : (rings : List Ringed) (p q : PassList T) (core place : ℕ) (block : T) → q.core ≡ p.core → TakesFrom mark label p q core place block → ArePasses rings p → ArePasses rings q
    takes_within rings p q core place block same t h =
        passes_tables rings p q same (ap tables_of t.seats ∙ tables-set (seats_of p.items) (number_of p.core core) (seat_of t.before) (seat_of t.after) (seats-get p.items (number_of p.core core) t.before t.was) (ap (λ (s : SeatOf). s.table) t.seat)) h

    -- ---- hands

    -- a pass with an empty hand
    idle_get : (z : Name) (vs : List (Held T)) (i : ℕ) (v : Held T) → AreIdle z (seats_of vs) → slice_get vs i ≡ Some v → (v.label ≡ z) × (v.hand ≡ [])
    idle_get z [] i v idle e = absurd (cc)
    idle_get z (x ∷ xs) zero v idle e = let is : x ≡ v = cc in (ap (λ (y : Held T). y.label) (sym is) ∙ idle.0, ap (λ (y : Held T). y.hand) (sym is) ∙ idle.1)
    idle_get z (x ∷ xs) (suc i) v idle e = idle_get z xs i v idle.2 e

    -- a stolen block has the label of the passes
    pub takes_label : (z : Name) (p q : PassList T) (core place : ℕ) (block : T) → AreIdle z (seats_of p.items) → TakesFrom mark label p q core place block → label block ≡ z
    takes_label z p q core place block idle t = t.holds.labelled ∙ ap (λ (s : SeatOf). s.label) t.seat ∙ (idle_get z p.items (number_of p.core core) t.before idle t.was).0

    -- once it was given back, the hands of the passes are as before
    pub given_back : (z : Name) (p q r : PassList T) (core place : ℕ) (block given : T) → q.core ≡ p.core → AreIdle z (seats_of p.items) → TakesFrom mark label p q core place block → GivesTo q r core place given → seats_of r.items ≡ seats_of p.items
    given_back z p q r core place block given same idle t g =
        let at : ℕ = number_of p.core core in
        let at_is : number_of q.core core ≡ at = ap (λ c. number_of c core) same in
        let both : Some g.before ≡ Some t.after = sym g.was ∙ ap (slice_get q.items) at_is ∙ t.is in
        let is : g.before ≡ t.after = cc in
        let empty = (idle_get z p.items at t.before idle t.was).1 in
        let hand : without place g.before.hand ≡ t.before.hand =
        ap (λ (v : Held T). without place v.hand) is ∙ ap (λ (s : SeatOf). without place s.hand) t.seat ∙ ap (λ l. without place (place ∷ l)) empty ∙ without_here place [] ∙ sym empty in
        let seat : record { table = g.before.table; label = g.before.label; hand = without place g.before.hand } ≡ seat_of t.before =
        (λ i. record { table = (ap (λ (v : Held T). v.table) is ∙ ap (λ (s : SeatOf). s.table) t.seat) i; label = (ap (λ (v : Held T). v.label) is ∙ ap (λ (s : SeatOf). s.label) t.seat) i; hand = hand i }) in
        g.seats ∙ (λ i. set (t.seats i) (at_is i) (seat i)) ∙ set_twice (seats_of p.items) at _ (seat_of t.before) ∙ set_there (seats_of p.items) at (seat_of t.before) (seats-get p.items at t.before t.was)
