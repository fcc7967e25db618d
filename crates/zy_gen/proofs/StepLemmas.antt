-- What each iteration of the loops that write appends.
use Rattle.std.proofs.Common.{◌≡◌, ℕ, suc, ◌+◌, ◌-◌, ◌%◌, ◌<◌, ◌≤◌, List, [], ◌∷◌, ◌++◌, take, drop, refl, sym, ◌∙◌, ap, arith, append_assoc}
use Rattle.std.specs.Prelude.{flat_map}
use Rattle.std.proofs.lemmas.List.{append-nil}
use Rattle.std.proofs.lemmas.Grind.{flat_map-append}
use Rattle.rand_pcg.specs.Lcg.{Lcg}
use Rattle.zy_capture.specs.declared.record.Record.{Record}
use Rattle.zy_capture.specs.Capture.{spelled}
use Rattle.zy_gen.specs.Traffic.{traffic_key, keys, block, Made, behind, one_command, one_round, rounds, segment_record, cut}

-- ---- keys

keys_next : (connection item left : ℕ) → keys connection item (suc left) ≡ 32 ∷ (traffic_key connection item ++ keys connection (item + 1) left)
unfolding keys
keys_next connection item left = refl

-- one further key
pub keys_step : (out total : List ℕ) (connection item i count : ℕ) → i < count → out ++ keys connection (item + i) (count - i) ≡ total
    → (out ++ (32 ∷ (traffic_key connection (item + i) ++ []))) ++ keys connection (item + (i + 1)) (count - (i + 1)) ≡ total
keys_step out total connection item i count within is =
    let left : count - i ≡ suc (count - (i + 1)) = omega arith in
    let next : item + i + 1 ≡ item + (i + 1) = omega arith in
    let k : List ℕ = traffic_key connection (item + i) in
    let rest : List ℕ = keys connection (item + (i + 1)) (count - (i + 1)) in
    append_assoc out (32 ∷ (k ++ [])) rest
    ∙ ap (λ (l : List ℕ). out ++ 32 ∷ (l ++ rest)) (append-nil k)
    ∙ ap (λ (n : ℕ). out ++ 32 ∷ (k ++ keys connection n (count - (i + 1)))) (sym next)
    ∙ ap (λ (l : List ℕ). out ++ l) (sym (keys_next connection (item + i) (count - (i + 1))))
    ∙ ap (λ (n : ℕ). out ++ keys connection (item + i) n) (sym left)
    ∙ is

-- no key is left
pub keys_end : (out total : List ℕ) (connection item i count : ℕ) → count ≤ i → out ++ keys connection (item + i) (count - i) ≡ total → out ≡ total
unfolding keys
keys_end out total connection item i count over is =
    let none : count - i ≡ 0 = omega arith in
    sym (append-nil out) ∙ ap (λ (n : ℕ). out ++ keys connection (item + i) n) (sym none) ∙ is

pub keys_start : (out : List ℕ) (connection item count : ℕ) → out ++ keys connection (item + 0) (count - 0) ≡ out ++ keys connection item count
keys_start out connection item count =
    let a : item + 0 ≡ item = omega arith in
    let b : count - 0 ≡ count = omega arith in
    ap (λ (n : ℕ). out ++ keys connection n (count - 0)) a ∙ ap (λ (n : ℕ). out ++ keys connection item n) b

-- ---- blocks

block_next : (letter left : ℕ) → block letter (suc left) ≡ (97 + letter % 26) ∷ block (letter + 1) left
unfolding block
block_next letter left = refl

-- one further letter
pub block_step : (out total : List ℕ) (letter i size : ℕ) → i < size → out ++ block (letter + i) (size - i) ≡ total
    → (out ++ (97 + (letter + i) % 26) ∷ []) ++ block (letter + (i + 1)) (size - (i + 1)) ≡ total
block_step out total letter i size within is =
    let left : size - i ≡ suc (size - (i + 1)) = omega arith in
    let next : letter + i + 1 ≡ letter + (i + 1) = omega arith in
    append_assoc out ((97 + (letter + i) % 26) ∷ []) (block (letter + (i + 1)) (size - (i + 1)))
    ∙ ap (λ (n : ℕ). out ++ (97 + (letter + i) % 26) ∷ block n (size - (i + 1))) (sym next)
    ∙ ap (λ (l : List ℕ). out ++ l) (sym (block_next (letter + i) (size - (i + 1))))
    ∙ ap (λ (n : ℕ). out ++ block (letter + i) n) (sym left)
    ∙ is

-- no letter is left
pub block_end : (out total : List ℕ) (letter i size : ℕ) → size ≤ i → out ++ block (letter + i) (size - i) ≡ total → out ≡ total
unfolding block
block_end out total letter i size over is =
    let none : size - i ≡ 0 = omega arith in
    sym (append-nil out) ∙ ap (λ (n : ℕ). out ++ block (letter + i) n) (sym none) ∙ is

pub block_start : (out : List ℕ) (letter size : ℕ) → out ++ block (letter + 0) (size - 0) ≡ out ++ block letter size
block_start out letter size =
    let a : letter + 0 ≡ letter = omega arith in
    let b : size - 0 ≡ size = omega arith in
    ap (λ (n : ℕ). out ++ block n (size - 0)) a ∙ ap (λ (n : ℕ). out ++ block letter n) b

-- ---- rounds

round_next : (connection left : ℕ) (words : Lcg) → one_round connection (suc left) words ≡ behind (one_command connection words).items (one_round (connection + 1) left (one_command connection words).left)
unfolding one_round
round_next connection left words = refl

-- one further command
pub round_step : (out total : List ℕ) (connection count : ℕ) (words : Lcg) → connection < count → out ++ flat_map spelled (one_round connection (count - connection) words).items ≡ total
    → (out ++ flat_map spelled (one_command connection words).items) ++ flat_map spelled (one_round (connection + 1) (count - (connection + 1)) (one_command connection words).left).items ≡ total
round_step out total connection count words within is =
    let left : count - connection ≡ suc (count - (connection + 1)) = omega arith in
    let first : List Record = (one_command connection words).items in
    let rest : Made = one_round (connection + 1) (count - (connection + 1)) (one_command connection words).left in
    append_assoc out (flat_map spelled first) (flat_map spelled rest.items)
    ∙ ap (λ (l : List ℕ). out ++ l) (sym (flat_map-append spelled first rest.items))
    ∙ ap (λ (m : Made). out ++ flat_map spelled m.items) (sym (round_next connection (count - (connection + 1)) words))
    ∙ ap (λ (n : ℕ). out ++ flat_map spelled (one_round connection n words).items) (sym left)
    ∙ is

pub round_left : (connection count : ℕ) (words left : Lcg) → connection < count → (one_round connection (count - connection) words).left ≡ left
    → (one_round (connection + 1) (count - (connection + 1)) (one_command connection words).left).left ≡ left
round_left connection count words left within is =
    let more : count - connection ≡ suc (count - (connection + 1)) = omega arith in
    ap (λ (m : Made). m.left) (sym (round_next connection (count - (connection + 1)) words))
    ∙ ap (λ (n : ℕ). (one_round connection n words).left) (sym more)
    ∙ is

round_none : (connection : ℕ) (words : Lcg) → one_round connection 0 words ≡ record { items = []; left = words }
unfolding one_round
round_none connection words = refl

-- no command is left
pub round_end : (out total : List ℕ) (connection count : ℕ) (words : Lcg) → count ≤ connection → out ++ flat_map spelled (one_round connection (count - connection) words).items ≡ total → out ≡ total
round_end out total connection count words over is =
    let none : count - connection ≡ 0 = omega arith in
    sym (append-nil out) ∙ ap (λ (m : Made). out ++ flat_map spelled m.items) (sym (round_none connection words)) ∙ ap (λ (n : ℕ). out ++ flat_map spelled (one_round connection n words).items) (sym none) ∙ is

pub round_end_left : (connection count : ℕ) (words left : Lcg) → count ≤ connection → (one_round connection (count - connection) words).left ≡ left → words ≡ left
round_end_left connection count words left over is =
    let none : count - connection ≡ 0 = omega arith in
    ap (λ (m : Made). m.left) (sym (round_none connection words)) ∙ ap (λ (n : ℕ). (one_round connection n words).left) (sym none) ∙ is

rounds_next : (connections left : ℕ) (words : Lcg) → rounds connections (suc left) words ≡ behind (one_round 0 connections words).items (rounds connections left (one_round 0 connections words).left)
unfolding rounds
rounds_next connections left words = refl

-- one further round
pub rounds_step : (out total : List ℕ) (connections i count : ℕ) (words : Lcg) → i < count → out ++ flat_map spelled (rounds connections (count - i) words).items ≡ total
    → (out ++ flat_map spelled (one_round 0 connections words).items) ++ flat_map spelled (rounds connections (count - (i + 1)) (one_round 0 connections words).left).items ≡ total
rounds_step out total connections i count words within is =
    let left : count - i ≡ suc (count - (i + 1)) = omega arith in
    let first : List Record = (one_round 0 connections words).items in
    let rest : Made = rounds connections (count - (i + 1)) (one_round 0 connections words).left in
    append_assoc out (flat_map spelled first) (flat_map spelled rest.items)
    ∙ ap (λ (l : List ℕ). out ++ l) (sym (flat_map-append spelled first rest.items))
    ∙ ap (λ (m : Made). out ++ flat_map spelled m.items) (sym (rounds_next connections (count - (i + 1)) words))
    ∙ ap (λ (n : ℕ). out ++ flat_map spelled (rounds connections n words).items) (sym left)
    ∙ is

rounds_none : (connections : ℕ) (words : Lcg) → rounds connections 0 words ≡ record { items = []; left = words }
unfolding rounds
rounds_none connections words = refl

-- no round is left
pub rounds_end : (out total : List ℕ) (connections i count : ℕ) (words : Lcg) → count ≤ i → out ++ flat_map spelled (rounds connections (count - i) words).items ≡ total → out ≡ total
rounds_end out total connections i count words over is =
    let none : count - i ≡ 0 = omega arith in
    sym (append-nil out) ∙ ap (λ (m : Made). out ++ flat_map spelled m.items) (sym (rounds_none connections words)) ∙ ap (λ (n : ℕ). out ++ flat_map spelled (rounds connections n words).items) (sym none) ∙ is

-- ---- segments

-- two segments
pub cut_on : (out bytes : List ℕ) (connection at : ℕ) → (out ++ spelled (segment_record connection (take at bytes))) ++ spelled (segment_record connection (drop at bytes)) ≡ out ++ flat_map spelled (cut connection bytes at)
cut_on out bytes connection at =
    append_assoc out (spelled (segment_record connection (take at bytes))) (spelled (segment_record connection (drop at bytes)))
    ∙ ap (λ (l : List ℕ). out ++ (spelled (segment_record connection (take at bytes)) ++ l)) (sym (append-nil (spelled (segment_record connection (drop at bytes)))))
