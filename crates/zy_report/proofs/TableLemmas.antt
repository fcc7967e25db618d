-- Lines one after the other.
use Rattle.std.proofs.Common.{◌≡◌, ℕ, ◌+◌, ◌-◌, ◌<◌, ◌≤◌, List, [], ◌∷◌, ◌++◌, length, take, get_or, sym, ap, ◌∙◌, arith, append_assoc}
use Rattle.std.specs.Prelude.{OnOk, Result, Ok, Err, ⊤, codes, replicate}
use Rattle.std.proofs.lemmas.List.{append-nil, take_more, take-replicate, length-take-le}
use Rattle.zy_base.specs.declared.outside.NoMemory.{NoMemory}
use Rattle.mc_calls.specs.declared.tallied.Tallied.{Tallied}
use Rattle.zy_report.specs.Report.{right, count_text, line_text, shard_text, shards_text}

-- what follows from an answer
pub on_ok : {P Q : Type 0} (answer : Result ⊤ NoMemory) → (P → Q) → OnOk answer P → OnOk answer Q
on_ok (Ok u) implies holds = implies holds
on_ok (Err e) implies holds = tt

shards_text-append : (from : ℕ) (some others : List Tallied) → shards_text from (some ++ others) ≡ shards_text from some ++ shards_text (from + length some) others
shards_text-append from [] others = ap (λ n. shards_text n others) (let none : from ≡ from + 0 = omega arith in none)
shards_text-append from (counts ∷ some) others =
    let next : (from + 1) + length some ≡ from + length (counts ∷ some) = omega arith in
    ap (λ l. shard_text from counts ++ l) (shards_text-append (from + 1) some others ∙ ap (λ n. shards_text (from + 1) some ++ shards_text n others) next)
    ∙ sym (append_assoc (shard_text from counts) (shards_text (from + 1) some) (shards_text (from + length (counts ∷ some)) others))

-- the line of one further shard
pub shards_more : (counts : List Tallied) (i : ℕ) (d : Tallied) → i < length counts → shards_text 0 (take i counts) ++ shard_text i (get_or counts i d) ≡ shards_text 0 (take (i + 1) counts)
shards_more counts i d within =
    let size : length (take i counts) ≡ i = length-take-le i counts (omega (arith, within)) in
    let at : i ≡ 0 + length (take i counts) = omega (arith, size) in
    ap (λ l. shards_text 0 (take i counts) ++ l) (sym (append-nil (shard_text i (get_or counts i d))) ∙ ap (λ n. shard_text n (get_or counts i d) ++ []) at)
    ∙ sym (shards_text-append 0 (take i counts) (get_or counts i d ∷ [])) ∙ ap (shards_text 0) (sym (take_more counts i d within))

-- some spaces of twelve
pub spaces : (n : ℕ) → n ≤ 12 → take {A = ℕ} n (32 ∷ 32 ∷ 32 ∷ 32 ∷ 32 ∷ 32 ∷ 32 ∷ 32 ∷ 32 ∷ 32 ∷ 32 ∷ 32 ∷ []) ≡ replicate n 32
spaces n few = let space : ℕ = 32 in take-replicate n 12 space few

-- bytes behind the spaces before them
pub right_is : (t t0 t1 bytes : List ℕ) (places n : ℕ) → places ≤ 12 → n ≡ places - length bytes → t0 ≡ t ++ take {A = ℕ} n (32 ∷ 32 ∷ 32 ∷ 32 ∷ 32 ∷ 32 ∷ 32 ∷ 32 ∷ 32 ∷ 32 ∷ 32 ∷ 32 ∷ []) → t1 ≡ t0 ++ bytes → t1 ≡ t ++ right places bytes
right_is t t0 t1 bytes places n few is one two =
    let within : n ≤ 12 = omega (arith, few, is) in
    two ∙ ap (λ l. l ++ bytes) (one ∙ ap (λ l. t ++ l) (spaces n within ∙ ap (λ m. replicate m 32) is)) ∙ append_assoc t (replicate (places - length bytes) 32) bytes

-- the texts of a line, one after the other
pub line_is : (t t0 t1 t2 t3 t4 t5 t6 name : List ℕ) (counts : Tallied) → t0 ≡ t ++ right 3 name → t1 ≡ t0 ++ count_text counts.gets → t2 ≡ t1 ++ count_text counts.sets → t3 ≡ t2 ++ count_text counts.hits → t4 ≡ t3 ++ count_text counts.misses
    → t5 ≡ t4 ++ count_text counts.items → t6 ≡ t5 ++ codes "\n" → t6 ≡ t ++ line_text name counts
line_is t t0 t1 t2 t3 t4 t5 t6 name counts one two three four five six seven =
    seven ∙ ap (λ l. l ++ codes "\n") six ∙ append_assoc t4 (count_text counts.items) (codes "\n") ∙ ap (λ l. l ++ (count_text counts.items ++ codes "\n")) five
    ∙ append_assoc t3 (count_text counts.misses) (count_text counts.items ++ codes "\n") ∙ ap (λ l. l ++ (count_text counts.misses ++ (count_text counts.items ++ codes "\n"))) four
    ∙ append_assoc t2 (count_text counts.hits) (count_text counts.misses ++ (count_text counts.items ++ codes "\n")) ∙ ap (λ l. l ++ (count_text counts.hits ++ (count_text counts.misses ++ (count_text counts.items ++ codes "\n")))) three
    ∙ append_assoc t1 (count_text counts.sets) (count_text counts.hits ++ (count_text counts.misses ++ (count_text counts.items ++ codes "\n")))
    ∙ ap (λ l. l ++ (count_text counts.sets ++ (count_text counts.hits ++ (count_text counts.misses ++ (count_text counts.items ++ codes "\n"))))) two
    ∙ append_assoc t0 (count_text counts.gets) (count_text counts.sets ++ (count_text counts.hits ++ (count_text counts.misses ++ (count_text counts.items ++ codes "\n"))))
    ∙ ap (λ l. l ++ (count_text counts.gets ++ (count_text counts.sets ++ (count_text counts.hits ++ (count_text counts.misses ++ (count_text counts.items ++ codes "\n")))))) one
    ∙ append_assoc t (right 3 name) (count_text counts.gets ++ (count_text counts.sets ++ (count_text counts.hits ++ (count_text counts.misses ++ (count_text counts.items ++ codes "\n")))))
