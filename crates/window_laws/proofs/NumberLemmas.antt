-- The numbers of commands of two windows, and of those that some mark ends, add up.
use Rattle.std.proofs.Common.{◌≡◌, ℕ, zero, suc, ◌+◌, ◌<◌, List, length, refl, ap, ◌∙◌, arith}
use Rattle.mc_parse.specs.declared.command.Command.{Command}
use Rattle.zy_capture.specs.Streams.{closes}
use Rattle.zy_times.specs.InTime.{total_below}
use Rattle.zy_times.specs.Times.{marks_in}
use Rattle.zy_verdict.specs.Recorded.{Recorded, session_commands}
use Rattle.zy_verdict.specs.Explained.{OutputCuts, answered_by_cut}
use Rattle.zy_verdict.specs.Numbers.{ended_among, total_of, number_of_commands, number_ended}
use Rattle.zy_items.specs.Standing.{Standing, IsStanding}
use Rattle.zy_verdict.specs.Between.{IsExplainedBetweenWith}
use Rattle.window_laws.specs.Joined.{HasConnections, joined_windows, AreOfOneServer}
use Rattle.window_laws.proofs.RecordLemmas.{first_marks, first_closes, later_marks, later_closes}
use Rattle.window_laws.proofs.WindowLemmas.{first_commands, later_commands}
use Rattle.window_laws.proofs.OutputLemmas.{joined_cuts}
use Rattle.window_laws.proofs.EntryLemmas.{both}
use Rattle.window_laws.proofs.JoinLemmas.{first_answered, later_answered, both_explained, both_lead}

-- ---- totals

total_same : (f g : ℕ → ℕ) (n : ℕ) → ((k : ℕ) → k < n → f k ≡ g k) → total_below f n ≡ total_below g n
total_same f g zero same = refl
total_same f g (suc n) same =
    let rest = total_same f g n (λ k low. same k (omega (arith, low))) in
    let last = same n (omega arith) in
    omega (arith, rest, last)

total_split : (f : ℕ → ℕ) (n m : ℕ) → total_below f (n + m) ≡ total_below f n + total_below (λ k. f (n + k)) m
total_split f n zero = let none : n + 0 ≡ n = omega arith in ap (total_below f) none ∙ plus_none (total_below f n)
  where
    plus_none : (k : ℕ) → k ≡ k + 0
    plus_none k = omega arith
total_split f n (suc m) =
    let next : n + suc m ≡ suc (n + m) = omega arith in
    let rest = total_split f n m in
    ap (total_below f) next ∙ add_last (total_below f (n + m)) (total_below f n) (total_below (λ k. f (n + k)) m) (f (n + m)) rest
  where
    add_last : (all front back last : ℕ) → all ≡ front + back → all + last ≡ front + (back + last)
    add_last all front back last is = omega (arith, is)

module _ (r next : Recorded) (own : HasConnections r) where
  total_both : (of one other : ℕ → ℕ → ℕ) → ((conn session : ℕ) → conn < r.count → of conn session ≡ one conn session) → ((conn session : ℕ) → of (r.count + conn) session ≡ other conn session)
      → total_of (joined_windows r next) of ≡ total_of r one + total_of next other
  total_both of one other first later =
      let all = λ (conn : ℕ). total_below (of conn) (closes conn (joined_windows r next).records + 1) in
      let front = total_same all (λ conn. total_below (one conn) (closes conn r.records + 1)) r.count
      (λ conn within.
      ap (λ (n : ℕ). total_below (of conn) (n + 1)) (first_closes r.count conn within r.records next.records)
      ∙ total_same (of conn) (one conn) (closes conn r.records + 1) (λ session _. first conn session within)) in
      let back = total_same (λ k. all (r.count + k)) (λ conn. total_below (other conn) (closes conn next.records + 1)) next.count
      (λ conn _.
      ap (λ (n : ℕ). total_below (of (r.count + conn)) (n + 1)) (later_closes r.count conn r.records next.records own)
      ∙ total_same (of (r.count + conn)) (other conn) (closes conn next.records + 1) (λ session _. later conn session)) in
      let split = total_split all r.count next.count in
      omega (arith, split, front, back)

  commands_both : number_of_commands (joined_windows r next) ≡ number_of_commands r + number_of_commands next
  commands_both =
      total_both (λ conn session. length (session_commands (joined_windows r next) conn session)) (λ conn session. length (session_commands r conn session)) (λ conn session. length (session_commands next conn session))
      (λ conn session within. ap (λ (l : List Command). length l) (first_commands r next conn session within))
      (λ conn session. ap (λ (l : List Command). length l) (later_commands r next own conn session))

  ended_both : (cuts later : OutputCuts) → number_ended (joined_windows r next) (joined_cuts r.count cuts later) ≡ number_ended r cuts + number_ended next later
  ended_both cuts later =
      let all = joined_cuts r.count cuts later in
      total_both (λ conn session. ended_among (marks_in (joined_windows r next).records conn session) (answered_by_cut all conn session))
      (λ conn session. ended_among (marks_in r.records conn session) (answered_by_cut cuts conn session))
      (λ conn session. ended_among (marks_in next.records conn session) (answered_by_cut later conn session))
      (λ conn session within.
      ap (λ (n : ℕ). ended_among n (answered_by_cut all conn session)) (first_marks r.count conn session within r.records next.records 0)
      ∙ ap (ended_among (marks_in r.records conn session)) (first_answered r cuts later conn session within))
      (λ conn session.
      ap (λ (n : ℕ). ended_among n (answered_by_cut all (r.count + conn) session)) (later_marks r.count conn session r.records next.records 0 own)
      ∙ ap (ended_among (marks_in next.records conn session)) (later_answered r cuts later conn session))

pub joined_with : (r next : Recorded) (a b c : Standing) (commands ended more more_ended : ℕ) → HasConnections r → AreOfOneServer r next → IsStanding a
    → IsExplainedBetweenWith r a b commands ended → IsExplainedBetweenWith next b c more more_ended
    → IsExplainedBetweenWith (joined_windows r next) a c (commands + more) (ended + more_ended)
joined_with r next a b c commands ended more more_ended own server valid one two =
    let commands_is = one.commands_are in
    let ended_is = one.ended_are in
    let more_is = two.commands_are in
    let more_ended_is = two.ended_are in
    let all = commands_both r next own in
    let all_ended = ended_both r next own one.cuts two.cuts in
    record {
      cuts = joined_cuts r.count one.cuts two.cuts;
      entries = both r.count (length r.records) one.entries two.entries;
      explained = both_explained r next own server one.cuts two.cuts one.entries two.entries one.explained two.explained a b c valid one.leads two.leads;
      leads = both_lead r next own server one.cuts two.cuts one.entries two.entries one.explained two.explained a b c valid one.leads two.leads;
      commands_are = omega (arith, commands_is, more_is, all);
      ended_are = omega (arith, ended_is, more_ended_is, all_ended);
    }
