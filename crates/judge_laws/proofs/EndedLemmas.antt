-- The numbers of commands, and of those that some mark ends.
use Rattle.std.specs.List.{slice_get}
use Rattle.std.proofs.Common.{◌≡◌, ◌↔◌, ℕ, zero, suc, ◌<◌, ◌≤◌, Bool, true, false, List, [], ◌∷◌, length, Some, refl, ap, sym, ◌∙◌, arith}
use mathlib.Core.Logic.{dite}
use native.Mathlib.Decide.{dec_lt}
use Rattle.mc_calls.specs.declared.entry.Entry.{Entry}
use Rattle.zy_run.specs.Commands.{commands_in}
use Rattle.zy_check.proofs.ListLemmas.{there, same_lists}
use Rattle.zy_times.specs.Recording.{Recording}
use Rattle.zy_times.specs.Times.{trues}
use Rattle.zy_times.specs.InTime.{IsEntryEnded, AreEndedFlags, EndedOfAll, commands_of_all, total_below}

-- ---- sums

sum_same : (f g : ℕ → ℕ) (count : ℕ) → ((k : ℕ) → k < count → f k ≡ g k) → total_below f count ≡ total_below g count
sum_same f g zero each = refl
sum_same f g (suc count) each =
    let rest = sum_same f g count (λ k low. each k (omega (arith, low))) in
    let last = each count (omega arith) in
    omega (arith, rest, last)

sum_few : (f g : ℕ → ℕ) (count : ℕ) → ((k : ℕ) → k < count → f k ≤ g k) → total_below f count ≤ total_below g count
sum_few f g zero each = omega arith
sum_few f g (suc count) each =
    let rest = sum_few f g count (λ k low. each k (omega (arith, low))) in
    let last = each count (omega arith) in
    omega (arith, rest, last)

-- if no number is larger than its counterpart, and the sums are the same, all are
pub each_full : (f g : ℕ → ℕ) (count : ℕ) → ((k : ℕ) → k < count → f k ≤ g k) → total_below f count ≡ total_below g count → (k : ℕ) → k < count → f k ≡ g k
each_full f g zero each same k low = absurd (omega (arith, low))
each_full f g (suc count) each same k low =
    let rest = sum_few f g count (λ j below. each j (omega (arith, below))) in
    let last = each count (omega arith) in
    dite (dec_lt k count)
    (λ below. each_full f g count (λ j under. each j (omega (arith, under))) (omega (arith, same, rest, last)) k below)
    (λ not_below.
    let here : k ≡ count = omega (arith, low, not_below) in
    ap f here ∙ omega (arith, same, rest, last) ∙ ap g (sym here))

-- ---- flags

trues_few : (flags : List Bool) → trues flags ≤ length flags
trues_few [] = omega arith
trues_few (true ∷ flags) = let rest = trues_few flags in omega (arith, rest)
trues_few (false ∷ flags) = let rest = trues_few flags in omega (arith, rest)

all_true : (flags : List Bool) → trues flags ≡ length flags → (index : ℕ) (flag : Bool) → slice_get flags index ≡ Some flag → flag ≡ true
all_true [] full index flag is = absurd (cc)
all_true (true ∷ flags) full zero flag is = let same : true ≡ flag = cc in sym same
all_true (true ∷ flags) full (suc index) flag is = all_true flags (omega (arith, full)) index flag is
all_true (false ∷ flags) full index flag is = let few = trues_few flags in absurd (omega (arith, full, few))

same_flag : (one other : Bool) (P : Type 0) → (one ≡ true ↔ P) → (other ≡ true ↔ P) → one ≡ other
same_flag true true P first second = refl
same_flag true false P first second = sym (second.1 (first.0 refl))
same_flag false true P first second = first.1 (second.0 refl)
same_flag false false P first second = refl

flags_same : (r : Recording) (conn : ℕ) (one other : List Bool) → AreEndedFlags r conn one → AreEndedFlags r conn other → one ≡ other
flags_same r conn one other first second =
    let long = first.size in
    let size = second.size in
    same_lists one other (omega (arith, long, size)) (λ j low.
    let at = there one j low in
    let too = there other j (omega (arith, long, size, low)) in
    at.1 ∙ ap (λ (b : Bool). Some b) (same_flag at.0 too.0 _ (first.each j at.0 at.1) (second.each j too.0 too.1)) ∙ sym too.1)

-- a recording has one number of commands that some mark ends
pub one_number : (r : Recording) (count one other : ℕ) → EndedOfAll r count one → EndedOfAll r count other → one ≡ other
one_number r count one other first second =
    first.adds
    ∙ sum_same (λ conn. trues (first.flags conn)) (λ conn. trues (second.flags conn)) count
    (λ conn low. ap (λ (l : List Bool). trues l) (flags_same r conn (first.flags conn) (second.flags conn) (first.each conn low) (second.each conn low)))
    ∙ sym second.adds

-- if it is the number of all commands, each is ended at the last moment
pub all_ended : (r : Recording) (count number : ℕ) → EndedOfAll r count number → number ≡ commands_of_all r count → (e : Entry) → e.tag.conn < count → e.tag.index < length (commands_in r.records e.tag.conn)
    → IsEntryEnded r e (length r.records)
all_ended r count number ended is e low within =
    let flags = ended.flags e.tag.conn in
    let own = ended.each e.tag.conn low in
    let long = own.size in
    let full : trues flags ≡ length (commands_in r.records e.tag.conn) =
    each_full (λ conn. trues (ended.flags conn)) (λ conn. length (commands_in r.records conn)) count
    (λ conn below. let size = (ended.each conn below).size in let few = trues_few (ended.flags conn) in omega (arith, size, few)) (sym ended.adds ∙ is) e.tag.conn low in
    let at = there flags e.tag.index (omega (arith, within, long)) in
    (own.each e.tag.index at.0 at.1).0 (all_true flags (omega (arith, full, long)) e.tag.index at.0 at.1)
