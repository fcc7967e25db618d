-- Lists of entries have the same length if each connection has the same number of entries in both.
use Rattle.std.proofs.Common.{◌≡◌, ℕ, zero, suc, ◌+◌, ◌<◌, ◌≤◌, List, [], ◌∷◌, length, refl, sym, ap, ◌∙◌, arith}
use Rattle.std.specs.List.{AllByRecursion}
use mathlib.Core.Logic.{dite}
use native.Mathlib.Decide.{ℕ_discrete}
use Rattle.mc_calls.specs.declared.entry.Entry.{Entry}
use Rattle.mc_calls.specs.Order.{of_connection}
use Rattle.mc_calls.proofs.EntryLemmas.{of_connection-here, of_connection-other}

-- the number of entries of the first connections, counted connection by connection
tally : ℕ → List Entry → ℕ
tally zero es = 0
tally (suc n) es = tally n es + length (of_connection n es)

tally-none : (n : ℕ) → tally n [] ≡ 0
unfolding tally
tally-none zero = refl
tally-none (suc n) = let rest = tally-none n in omega arith

-- an entry of a later connection is not counted
tally-past : (n : ℕ) (e : Entry) (es : List Entry) → n ≤ e.tag.conn → tally n (e ∷ es) ≡ tally n es
unfolding tally
tally-past zero e es past = refl
tally-past (suc n) e es past =
    let rest = tally-past n e es (omega arith) in
    let here : length (of_connection n (e ∷ es)) ≡ length (of_connection n es) = ap length (of_connection-other n e es (λ is. omega arith)) in
    omega arith

-- an entry of one of these connections is counted
tally-more : (n : ℕ) (e : Entry) (es : List Entry) → e.tag.conn < n → tally n (e ∷ es) ≡ tally n es + 1
unfolding tally
tally-more zero e es within = absurd (omega arith)
tally-more (suc n) e es within = dite (ℕ_discrete e.tag.conn n)
    (λ is.
    let rest = tally-past n e es (omega arith) in
    let here : length (of_connection n (e ∷ es)) ≡ suc (length (of_connection n es)) = ap length (of_connection-here n e es is) in
    omega arith)
    (λ other.
    let rest = tally-more n e es (omega arith) in
    let here : length (of_connection n (e ∷ es)) ≡ length (of_connection n es) = ap length (of_connection-other n e es other) in
    omega arith)

-- all entries are counted
tally-all : (count : ℕ) (es : List Entry) → AllByRecursion (λ e. e.tag.conn < count) es → length es ≡ tally count es
tally-all count [] of = sym (tally-none count)
tally-all count (e ∷ es) of = let rest = tally-all count es of.1 in let more = tally-more count e es of.0 in omega arith

tally-same : (n : ℕ) (es others : List Entry) → ((conn : ℕ) → conn < n → length (of_connection conn es) ≡ length (of_connection conn others)) → tally n es ≡ tally n others
unfolding tally
tally-same zero es others same = refl
tally-same (suc n) es others same =
    let rest = tally-same n es others (λ conn within. same conn (omega arith)) in
    let here : length (of_connection n es) ≡ length (of_connection n others) = same n (omega arith) in
    omega arith

-- two lists in which each connection has the same number of entries have the same length
pub length-same : (count : ℕ) (es others : List Entry) → AllByRecursion (λ e. e.tag.conn < count) es → AllByRecursion (λ e. e.tag.conn < count) others
    → ((conn : ℕ) → conn < count → length (of_connection conn es) ≡ length (of_connection conn others)) → length es ≡ length others
length-same count es others of of_others same = tally-all count es of ∙ tally-same count es others same ∙ sym (tally-all count others of_others)
