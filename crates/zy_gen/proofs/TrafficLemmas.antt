-- Generated traffic is the encoding of a capture that is not too long.
use Rattle.std.proofs.Common.{◌≡◌, inl, ℕ, zero, suc, ◌+◌, ◌*◌, ◌<◌, ◌≤◌, Bool, true, false, List, [], ◌∷◌, ◌++◌, length, take, drop, refl, ap, subst, arith, length-append}
use Rattle.std.specs.Prelude.{◌==◌, nat_lt, if◌then◌else◌, flat_map}
use Rattle.std.specs.List.{AllByRecursion}
use Rattle.std.proofs.lemmas.List.{length-take, length-drop}
use Rattle.std.proofs.lemmas.Grind.{flat_map-append}
use Rattle.rand_pcg.specs.Lcg.{Lcg}
use Rattle.zy_capture.specs.declared.record.Record.{Record}
use Rattle.zy_capture.specs.Capture.{spelled, spelling, IsRecordOf, Spells, capture_limit}
use Rattle.zy_gen.specs.Draw.{DrawnRequest, draw, draw_set, draw_request, draw_command, words_of}
use Rattle.zy_gen.specs.Traffic.{command_text, IsSmall, segment_record, cut, one_command, one_round, rounds, traffic_records, gen_bytes, IsTraffic}
use Rattle.zy_gen.proofs.LengthLemmas.{text_few}

-- ---- what is drawn

drawn_below : (below : ℕ) (words : Lcg) → 0 < below → (draw below words).value < below
unfolding draw
drawn_below below words some = omega (arith, some)

-- what holds in both cases of a test
either : {S : Type 0} (P : S → Type 0) (test : Bool) (x y : S) → P x → P y → P (if test then x else y)
either P test x y first second = elim test as (λ (t : Bool). P (if t then x else y)) [ true ↦ first | false ↦ second ]

set_small : (quiet : Bool) (words : Lcg) → IsSmall (draw_set quiet words).request
set_small quiet words = (drawn_below 65536 words (omega arith), drawn_below 256 (draw 65536 words).left (omega arith))

request_small : (kind : ℕ) (words : Lcg) → IsSmall (draw_request kind words).request
request_small kind words =
    let P : DrawnRequest → Type 0 = λ (d : DrawnRequest). IsSmall d.request in
    either P (nat_lt kind 8) _ _ tt (either P (kind == 8) _ _ tt (either P (nat_lt kind 11) _ _ (set_small false words) (either P (kind == 11) _ _ (set_small true words) (either P (kind == 12) _ _ tt (either P (kind == 13) _ _ tt (either P (kind == 14) _ _ tt tt))))))

-- the flags and the block of a command that is drawn are small
pub command_small : (words : Lcg) → IsSmall (draw_command words).command.request
command_small words = request_small (draw 16 words).value (draw 64 (draw 16 words).left).left

-- ---- segments

all_on : (P : Record → Type 0) (xs ys : List Record) → AllByRecursion P xs → AllByRecursion P ys → AllByRecursion P (xs ++ ys)
all_on P [] ys first second = second
all_on P (x ∷ xs) ys first second = (first.0, all_on P xs ys first.1 second)

-- some segments are lawful, and have at most `most` bytes together
record AreFew (connections most : ℕ) (items : List Record) : Type 0 where
  lawful : AllByRecursion (IsRecordOf 1 connections) items
  few : length (flat_map spelled items) ≤ most

few_on : (connections most more : ℕ) (xs ys : List Record) → AreFew connections most xs → AreFew connections more ys → AreFew connections (most + more) (xs ++ ys)
few_on connections most more xs ys first second = record {
  lawful = all_on (IsRecordOf 1 connections) xs ys first.lawful second.lawful;
  few = omega (arith, first.few, second.few, ap (λ (l : List ℕ). length l) (flat_map-append spelled xs ys), length-append (flat_map spelled xs) (flat_map spelled ys));
}

cut_few : (connections connection at : ℕ) (bytes : List ℕ) → connection < connections → length bytes ≤ 455 → AreFew connections 473 (cut connection bytes at)
cut_few connections connection at bytes within few =
    let both : length (take at bytes) + length (drop at bytes) ≡ length bytes = omega (arith, length-take at bytes, length-drop at bytes) in
    let second : List ℕ = spelled (segment_record connection (drop at bytes)) ++ [] in
    let seconds : length second ≡ 9 + length (drop at bytes) = omega (arith, length-append (drop at bytes) []) in
    record {
      lawful = ((within, omega (arith, both, few)), ((within, omega (arith, both, few)), tt));
      few = omega (arith, both, few, seconds, length-append (take at bytes) second);
    }

command_few : (connections connection : ℕ) (words : Lcg) → connection < connections → connection < 4096 → AreFew connections 473 (one_command connection words).items
unfolding one_command
command_few connections connection words within small =
    let drawn = draw_command words in
    let bytes : List ℕ = command_text connection drawn.command in
    cut_few connections connection (draw (length bytes + 1) drawn.left).value bytes within (text_few connection drawn.command.item drawn.command.request small (command_small words))

round_few : (connections connection count : ℕ) (words : Lcg) → connection + count ≤ connections → connections ≤ 4096 → AreFew connections (473 * count) (one_round connection count words).items
unfolding one_round
round_few connections connection zero words within few = record { lawful = tt; few = omega arith }
round_few connections connection (suc count) words within few =
    let first = command_few connections connection words (omega (arith, within)) (omega (arith, within, few)) in
    let rest = round_few connections (connection + 1) count (one_command connection words).left (omega (arith, within)) few in
    subst (λ (n : ℕ). AreFew connections n ((one_command connection words).items ++ (one_round (connection + 1) count (one_command connection words).left).items)) (omega arith)
    (few_on connections 473 (473 * count) (one_command connection words).items (one_round (connection + 1) count (one_command connection words).left).items first rest)

rounds_few : (connections count : ℕ) (words : Lcg) → connections ≤ 4096 → AreFew connections (count * (473 * connections)) (rounds connections count words).items
unfolding rounds
rounds_few connections zero words few = record { lawful = tt; few = omega arith }
rounds_few connections (suc count) words few =
    let first = round_few connections 0 connections words (omega arith) few in
    let rest = rounds_few connections count (one_round 0 connections words).left few in
    subst (λ (n : ℕ). AreFew connections n ((one_round 0 connections words).items ++ (rounds connections count (one_round 0 connections words).left).items)) (omega arith)
    (few_on connections (473 * connections) (count * (473 * connections)) (one_round 0 connections words).items (rounds connections count (one_round 0 connections words).left).items first rest)

-- ---- the capture

short : (connections : ℕ) (items : List Record) → length (flat_map spelled items) ≤ 473000000 → length (spelling 1 connections items) ≤ capture_limit
unfolding spelling
short connections items few = omega (arith, few, length-append (flat_map spelled items) (69 ∷ []))

pub traffic_spells : (number connections commands : ℕ) → IsTraffic number connections commands → Spells (gen_bytes number connections commands) 1 connections (traffic_records number connections commands)
traffic_spells number connections commands is =
    let all = rounds_few connections commands (words_of number) is.few_connections in
    record {
      valid = record { known = inl refl; few = is.few_connections; lawful = all.lawful };
      spelled = refl;
      short = short connections (traffic_records number connections commands) (omega (arith, all.few, is.few_commands));
    }
