-- Sums over the first numbers, and over the entries and holds of connections.
use Rattle.std.specs.Prelude.{◌==◌, filter}
use Rattle.std.specs.List.{AllByRecursion, range_with_len, sum_by, slice_index_or}
use Rattle.std.proofs.Common.{◌≡◌, ◌≢◌, inl, inr, ℕ, zero, suc, ◌+◌, ◌-◌, ◌<◌, ◌≤◌, List, [], ◌∷◌, length, map, refl}
use Rattle.std.proofs.Common.{sym, ap, ◌∙◌, arith}
use Rattle.std.proofs.lemmas.Bool.Decides.{eqb_tells}
use Rattle.std.proofs.lemmas.List.{length-map}
use Rattle.std.proofs.lemmas.List.Sums.{sum_by-cons}
use Rattle.std.proofs.lemmas.List.FromFn.{sum_by-map-range_with_len_more}
use Rattle.mc_calls.specs.declared.entry.Entry.{Entry}
use Rattle.mc_calls.specs.declared.hold.Hold.{Hold}
use Rattle.mc_calls.specs.Order.{of_connection}
use Rattle.mc_calls.specs.Replies.{replies_at}
use Rattle.zy_base.proofs.FilterLemmas.{filter-here, filter-other}
use Rattle.mc_calls.proofs.EntryLemmas.{of_connection-here, of_connection-other}
use Rattle.zy_run.specs.Run.{AreOfConnections}
use Rattle.zy_run.specs.Spans.{held_of, AreHoldsOf}
use mathlib.Core.Logic.{dite}
use native.Mathlib.Decide.{ℕ_discrete}

-- ---- totals

-- the sum over the numbers below one
abbrev pub total : (ℕ → ℕ) → ℕ → ℕ
total f zero = 0
total f (suc n) = total f n + f n

pub total-le : (f g : ℕ → ℕ) (n : ℕ) → ((k : ℕ) → k < n → f k ≤ g k) → total f n ≤ total g n
total-le f g zero each = omega arith
total-le f g (suc n) each = omega (arith, total-le f g n (λ k less. each k (omega arith)), each n (omega arith))

total-none : (f : ℕ → ℕ) (n : ℕ) → ((k : ℕ) → f k ≡ 0) → total f n ≡ 0
total-none f zero each = refl
total-none f (suc n) each = omega (arith, total-none f n each, each n)

-- one of the numbers counts more
total-more : (f g : ℕ → ℕ) (at n : ℕ) → at < n → ((k : ℕ) → f k ≤ g k) → f at < g at → total f n < total g n
total-more f g at zero within each here = absurd (omega arith)
total-more f g at (suc n) within each here = dite (ℕ_discrete at n)
    (λ is.
    let last : f n < g n = rw is at here in
    omega (arith, total-le f g n (λ k less. each k), last))
    (λ other. omega (arith, total-more f g at n (omega arith) each here, each n))

-- only one of the numbers counts more, and that by one
total-one : (f g : ℕ → ℕ) (at n : ℕ) → ((k : ℕ) → at ≢ k → g k ≤ f k) → g at ≤ f at + 1 → total g n ≤ total f n + 1
total-one f g at zero each here = omega arith
total-one f g at (suc n) each here = dite (ℕ_discrete at n)
    (λ is.
    let last : g n ≤ f n + 1 = rw is at here in
    omega (arith, total-le g f n (λ k less. each k (λ same. omega arith)), last))
    (λ other. omega (arith, total-one f g at n each here, each n other))

-- the first number, and those after it
pub total-first : (f : ℕ → ℕ) (n : ℕ) → total f (suc n) ≡ f 0 + total (λ k. f (suc k)) n
total-first f zero = omega arith
total-first f (suc n) = let rest = total-first f n in omega (arith, rest)

-- each number counts no more than all
pub total-at : (f : ℕ → ℕ) (at n : ℕ) → at < n → f at ≤ total f n
total-at f at zero within = absurd (omega arith)
total-at f at (suc n) within = dite (ℕ_discrete at n)
    (λ is.
    let last : f at ≤ f n = rw is (omega arith) in
    omega (arith, last))
    (λ other. omega (arith, total-at f at n (omega arith)))

-- the sum of a list is that of its places
pub total-list : {X : Type 0} (g : X → ℕ) (none : X) (xs : List X) → sum_by g xs ≡ total (λ k. g (slice_index_or xs k none)) (length xs)
total-list g none [] = refl
total-list g none (x ∷ xs) =
    omega (arith, sum_by-cons g x xs, total-list g none xs, total-first (λ k. g (slice_index_or (x ∷ xs) k none)) (length xs))

-- the sum of what is made of the first numbers
pub total-map : {X : Type 0} (g : X → ℕ) (f : ℕ → X) (n : ℕ) → sum_by g (map f (range_with_len 0 n)) ≡ total (λ k. g (f k)) n
total-map g f zero = refl
total-map g f (suc n) =
    let on : n + 1 ≡ suc n = omega arith in
    let step : sum_by g (map f (range_with_len 0 (n + 1))) ≡ sum_by g (map f (range_with_len 0 n)) + g (f n) = sum_by-map-range_with_len_more g f 0 n n (omega arith) in
    ap (λ (m : ℕ). sum_by g (map f (range_with_len 0 m))) (sym on) ∙ step ∙ ap (λ (m : ℕ). m + g (f n)) (total-map g f n)

-- ---- entries and holds of connections

-- all entries are counted with their connections
pub entries_counted : (count : ℕ) (es : List Entry) → AreOfConnections count es → length es ≤ total (λ conn. length (of_connection conn es)) count
entries_counted count [] of = omega arith
entries_counted count (e ∷ es) of =
    let more = total-more (λ conn. length (of_connection conn es)) (λ conn. length (of_connection conn (e ∷ es))) e.tag.conn count of.0 each here in
    omega (arith, more, entries_counted count es of.1)
  where
    here : length (of_connection e.tag.conn es) < length (of_connection e.tag.conn (e ∷ es))
    here = let is = ap (λ (l : List Entry). length l) (of_connection-here e.tag.conn e es refl) in omega (arith, is)

    each : (conn : ℕ) → length (of_connection conn es) ≤ length (of_connection conn (e ∷ es))
    each conn = dite (ℕ_discrete e.tag.conn conn)
        (λ is. let long = ap (λ (l : List Entry). length l) (of_connection-here conn e es is) in omega (arith, long))
        (λ other. let same = ap (λ (l : List Entry). length l) (of_connection-other conn e es other) in omega (arith, same))

-- and all holds, each of which counts a command
pub holds_counted : (count : ℕ) (hs : List Hold) → AreHoldsOf count hs → AllByRecursion (λ (h : Hold). 0 < h.count) hs → length hs ≤ total (λ conn. held_of conn hs) count
holds_counted count [] of some = omega arith
holds_counted count (h ∷ hs) of some =
    let more = total-more (λ conn. held_of conn hs) (λ conn. held_of conn (h ∷ hs)) h.conn count of.0 each here in
    omega (arith, more, holds_counted count hs of.1 some.1)
  where
    here : held_of h.conn hs < held_of h.conn (h ∷ hs)
    here = elim (eqb_tells h.conn h.conn) [ inl same ↦ rw same.0 (let one = some.0 in omega (arith, one)) | inr other ↦ absurd (other.1 refl) ]

    each : (conn : ℕ) → held_of conn hs ≤ held_of conn (h ∷ hs)
    each conn = elim (eqb_tells h.conn conn) [ inl same ↦ rw same.0 (omega arith) | inr other ↦ rw other.0 (omega arith) ]

-- ---- replies of commands

-- the replies of different commands are replies of different entries
pub replies_counted : (from n : ℕ) (own : List Entry) → total (λ k. length (replies_at (from + k) own)) n ≤ length own
replies_counted from n [] = let none = total-none (λ k. length (replies_at (from + k) [])) n (λ k. refl) in omega (arith, none)
replies_counted from n (e ∷ own) =
    let more = total-one (λ k. length (replies_at (from + k) own)) (λ k. length (replies_at (from + k) (e ∷ own))) (e.tag.index - from) n
    (λ k other. past (from + k) (λ same. other (omega arith))) (one (from + (e.tag.index - from))) in
    omega (arith, more, replies_counted from n own)
  where
    size : (index : ℕ) (es : List Entry) → length (replies_at index es) ≡ length (filter (λ (x : Entry). x.tag.index == index) es)
    size index es = length-map (filter (λ (x : Entry). x.tag.index == index) es) (λ (x : Entry). x.reply)

    past : (index : ℕ) → e.tag.index ≢ index → length (replies_at index (e ∷ own)) ≤ length (replies_at index own)
    past index other = elim (eqb_tells e.tag.index index) [
      | inl same ↦ absurd (other same.1)
      | inr t ↦
          let is = ap (λ (l : List Entry). length l) (filter-other (λ (x : Entry). x.tag.index == index) e own t.0) in
          omega (arith, is, size index own, size index (e ∷ own))
    ]

    one : (index : ℕ) → length (replies_at index (e ∷ own)) ≤ length (replies_at index own) + 1
    one index = elim (eqb_tells e.tag.index index) [
      | inl t ↦
          let is = ap (λ (l : List Entry). length l) (filter-here (λ (x : Entry). x.tag.index == index) e own t.0) in
          omega (arith, is, size index own, size index (e ∷ own))
      | inr t ↦
          let is = ap (λ (l : List Entry). length l) (filter-other (λ (x : Entry). x.tag.index == index) e own t.0) in
          omega (arith, is, size index own, size index (e ∷ own))
    ]
