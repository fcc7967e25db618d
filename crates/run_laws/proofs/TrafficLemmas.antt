-- How many commands generated traffic has.
use Rattle.zy_gen.proofs.ApartLemmas.{records, gives, commands_is}
use Rattle.std.proofs.Common.{◌≡◌, ℕ, ◌+◌, ◌<◌, ◌≤◌, length, ap, ◌∙◌, arith, zero, suc, ◌*◌}
use Rattle.std.specs.List.{range_with_len, sum_by}
use Rattle.std.proofs.lemmas.List.{length-map}
use Rattle.std.proofs.lemmas.List.Sums.{sum_by-cons}
use Rattle.std.proofs.Math.Nat.{suc-mul}
use Rattle.zy_frame.specs.Frame.{frame_of, command_of}
use Rattle.zy_run.specs.Commands.{commands_in}
use Rattle.zy_run.specs.Summary.{count_of_commands}
use Rattle.zy_gen.specs.Traffic.{traffic_records, IsTraffic}

-- ---- commands

-- their number is the one that was asked for
pub length-commands : (number connections commands conn : ℕ) → IsTraffic number connections commands → conn < connections → length (commands_in (traffic_records number connections commands) conn) ≡ commands
unfolding records
length-commands number connections commands conn is within =
    let own = gives number connections commands conn is within in
    ap length (commands_is number connections commands conn is within) ∙ length-map own.texts (λ text. command_of (frame_of text)) ∙ own.count

-- ---- the number of commands

counted : (f : ℕ → ℕ) (first n k : ℕ) → ((c : ℕ) → first ≤ c → c < first + n → f c ≡ k) → sum_by f (range_with_len first n) ≡ n * k
counted f first zero k each = omega arith
counted f first (suc n) k each =
    let here : f first ≡ k = each first (omega arith) (omega arith) in
    let rest : sum_by f (range_with_len (first + 1) n) ≡ n * k = counted f (first + 1) n k (λ c low high. each c (omega arith) (omega arith)) in
    let both : sum_by f (range_with_len first (suc n)) ≡ f first + sum_by f (range_with_len (first + 1) n) = sum_by-cons f first (range_with_len (first + 1) n) in
    let more : suc n * k ≡ n * k + k = suc-mul n k in
    omega arith

-- all connections together have `connections * commands` commands
pub traffic_count : (number connections commands : ℕ) → IsTraffic number connections commands → count_of_commands connections (commands_in (traffic_records number connections commands)) ≡ connections * commands
traffic_count number connections commands is =
    counted (λ conn. length (commands_in (traffic_records number connections commands) conn)) 0 connections commands (λ conn low high. length-commands number connections commands conn is (omega arith))
