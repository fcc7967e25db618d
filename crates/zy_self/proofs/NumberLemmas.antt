-- What the holds of a run add up to is the number of its commands.
use Rattle.std.proofs.Common.{◌≡◌, ℕ, zero, suc, ◌+◌, ◌<◌, ◌≤◌, Bool, true, false, List, [], ◌∷◌, length, refl, sym, ◌∙◌, ap, arith}
use Rattle.std.specs.Prelude.{◌==◌, if◌then◌else◌}
use Rattle.std.specs.List.{sum_by, range_with_len}
use Rattle.std.proofs.lemmas.Bool.Decides.{nat_tests}
use Rattle.std.proofs.lemmas.List.Sums.{sum_by-cons}
use Rattle.mc_calls.specs.declared.hold.Hold.{Hold}
use Rattle.mc_parse.specs.declared.command.Command.{Command}
use Rattle.mc_calls.specs.declared.entry.Entry.{Entry}
use Rattle.zy_capture.specs.declared.record.Record.{Record}
use Rattle.zy_capture.specs.Outputs.{AllOutputs}
use Rattle.zy_run.specs.Commands.{streams_in, commands_in}
use Rattle.zy_run.specs.Output.{all_outputs}
use Rattle.zy_run.specs.Spans.{held_of, AreHoldsOf, Spans}
use Rattle.zy_run.specs.declared.summary.Summary.{Summary}
use Rattle.zy_run.specs.Summary.{count_of_commands, count_of_bytes, summary_of_run}
use Rattle.zy_serving.specs.Headline.{outputs_of_records}
use Rattle.zy_self.specs.Numbers.{all_held}

-- the same is added up for each number
same_sums : (f g : ℕ → ℕ) (a n : ℕ) → ((c : ℕ) → a ≤ c → c < a + n → f c ≡ g c) → sum_by f (range_with_len a n) ≡ sum_by g (range_with_len a n)
same_sums f g a zero each = refl
same_sums f g a (suc n) each =
    let here : f a ≡ g a = each a (omega arith) (omega arith) in
    let rest = same_sums f g (a + 1) n (λ c low high. each c (omega (arith, low)) (omega (arith, high))) in
    let one = sum_by-cons f a (range_with_len (a + 1) n) in
    let other = sum_by-cons g a (range_with_len (a + 1) n) in
    one ∙ omega (arith, here, rest) ∙ sym other

-- the value at one number is greater by `more`
abbrev more_at : ℕ → ℕ → (ℕ → ℕ) → ℕ → ℕ
more_at at more f c = if at == c then more + f c else f c

more_here : (at more : ℕ) (f : ℕ → ℕ) (c : ℕ) → at ≡ c → more_at at more f c ≡ more + f c
more_here at more f c same = let test : (at == c) ≡ true = grind (arith, nat_tests) in rw test refl

more_not : (at more : ℕ) (f : ℕ → ℕ) (c : ℕ) → at < c → more_at at more f c ≡ f c
more_not at more f c less = let test : (at == c) ≡ false = grind (arith, nat_tests) in rw test refl

more_later : (at more : ℕ) (f : ℕ → ℕ) (c : ℕ) → c < at → more_at at more f c ≡ f c
more_later at more f c less = let test : (at == c) ≡ false = grind (arith, nat_tests) in rw test refl

one_more : (at more : ℕ) (f : ℕ → ℕ) (a n : ℕ) → a ≤ at → at < a + n → sum_by (more_at at more f) (range_with_len a n) ≡ more + sum_by f (range_with_len a n)
one_more at more f a zero low high = omega (arith, low, high)
one_more at more f a (suc n) low high = go (at == a) refl (λ above below. one_more at more f (a + 1) n above below)
  where
    one : sum_by (more_at at more f) (range_with_len a (suc n)) ≡ more_at at more f a + sum_by (more_at at more f) (range_with_len (a + 1) n)
    one = sum_by-cons (more_at at more f) a (range_with_len (a + 1) n)

    other : sum_by f (range_with_len a (suc n)) ≡ f a + sum_by f (range_with_len (a + 1) n)
    other = sum_by-cons f a (range_with_len (a + 1) n)

    go : (b : Bool) → (at == a) ≡ b
        → (a + 1 ≤ at → at < a + 1 + n → sum_by (more_at at more f) (range_with_len (a + 1) n) ≡ more + sum_by f (range_with_len (a + 1) n))
        → sum_by (more_at at more f) (range_with_len a (suc n)) ≡ more + sum_by f (range_with_len a (suc n))
    go true is later =
        let same : at ≡ a = grind (arith, nat_tests) in
        let here = more_here at more f a same in
        let rest = same_sums (more_at at more f) f (a + 1) n (λ c above below. more_not at more f c (omega (arith, above, same))) in
        omega (arith, one, other, here, rest)
    go false is later =
        let less : a < at = grind (arith, nat_tests) in
        let here = more_later at more f a less in
        let rest = later (omega (arith, less)) (omega (arith, high)) in
        omega (arith, one, other, here, rest)

no_sum : (a n : ℕ) → sum_by (λ c. 0) (range_with_len a n) ≡ 0
no_sum a zero = refl
no_sum a (suc n) = let one = sum_by-cons (λ c. 0) a (range_with_len (a + 1) n) in let rest = no_sum (a + 1) n in omega (arith, one, rest)

-- all holds together are the holds of each connection together
by_connection : (count : ℕ) (holds : List Hold) → AreHoldsOf count holds → all_held holds ≡ sum_by (λ conn. held_of conn holds) (range_with_len 0 count)
by_connection count [] of = sym (no_sum 0 count)
by_connection count (h ∷ hs) of =
    let rest = by_connection count hs of.1 in
    let within = of.0 in
    let more = one_more h.conn h.count (λ conn. held_of conn hs) 0 count (omega arith) (omega (arith, within)) in
    let one = sum_by-cons (λ (hold : Hold). hold.count) h hs in
    one ∙ ap (λ n. h.count + n) rest ∙ sym more

-- where the holds span the commands, they add up to their number
pub held_in_all : (holds : List Hold) (count : ℕ) (commands : ℕ → List Command) → Spans holds count commands → all_held holds ≡ count_of_commands count commands
held_in_all holds count commands spans =
    by_connection count holds spans.connections
    ∙ same_sums (λ conn. held_of conn holds) (λ conn. length (commands conn)) 0 count (λ conn low below. spans.counts conn (omega (arith, below)))

-- the numbers of a served run
pub numbers_of : (commands calls bytes : ℕ) (holds : List Hold) (entries : List Entry) (outputs : AllOutputs) (count version : ℕ) (records : List Record)
    → commands ≡ all_held holds → calls ≡ length entries → bytes ≡ count_of_bytes outputs.sessions
    → Spans holds count (commands_in records) → outputs ≡ outputs_of_records version count records entries
    → record { commands = commands; calls = calls; reply_bytes = bytes } ≡ summary_of_run count (streams_in records) entries
numbers_of commands calls bytes holds entries outputs count version records held made sent spans are =
    let all : commands ≡ count_of_commands count (commands_in records) = held ∙ held_in_all holds count (commands_in records) spans in
    let told : bytes ≡ count_of_bytes (all_outputs count (streams_in records) entries) = sent ∙ ap (λ (o : AllOutputs). count_of_bytes o.sessions) are in
    rw (all, made, told) refl
