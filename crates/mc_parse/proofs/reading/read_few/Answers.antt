use Rattle.std.proofs.Common.{◌≡◌, ℕ, ◌+◌, ◌-◌, ◌<◌, true, false, ◌&&◌, List, [], ◌∷◌, length, take, ap, sym, ◌∙◌, arith, rules}
use Rattle.std.specs.Prelude.{Option, nat_lt}
use Rattle.std.specs.Borrow.{Bor}
use Rattle.std.proofs.lemmas.List.{length-map}
use Rattle.mc_parse.specs.declared.error_line.ErrorLine.TheVariants.{Unknown}
use Rattle.mc_parse.specs.declared.arity.Arity.{Arity}
use Rattle.mc_parse.specs.declared.name.Name.{Name}
use Rattle.mc_parse.specs.Words.{words}
use Rattle.mc_parse.specs.Line.{texts}
use Rattle.mc_parse.specs.Name.{arity_of}
use Rattle.mc_parse.specs.Arity.{Following, has_count, lacks_noreply, asks_silence}
use Rattle.mc_parse.specs.Form.{find, form_with, form_after}
use Rattle.mc_parse.proofs.ArityLemmas.{both, but_last-take, follows_by}
use Rattle.mc_parse.proofs.reading.read_few.Goals as goal

-- with noreply after them, the words but the last follow the name quietly
says_silently : (name : Name) (held : List (Bor (List ℕ))) (all : List (List ℕ)) → texts held ≡ all → asks_silence (arity_of name) (texts held) ≡ true
    → has_count (arity_of name) (length held) ≡ true → lacks_noreply (arity_of name) (texts held) ≡ false → (n : ℕ) → n + 1 ≡ length held
    → form_with name (record { words = texts (take n held); quiet = true }) ≡ form_after name all
says_silently name held all is asks has lacks n last =
    let size = length-map held (λ (word : Bor (List ℕ)). word.now) in
    let counted : has_count (arity_of name) (length (texts held)) ≡ true = ap (has_count (arity_of name)) size ∙ has in
    let follows = follows_by (has_count (arity_of name) (length (texts held))) (lacks_noreply (arity_of name) (texts held)) (asks_silence (arity_of name) (texts held))
    (texts held) (texts (take n held)) counted lacks asks (but_last-take held n last) in
    sym (ap (λ (found : Option Following). find found Unknown (λ following. form_with name following)) follows)
    ∙ ap (λ (words : List (List ℕ)). form_after name words) is

-- words that ask for no answer are not empty
silence_some : (arity : Arity) (words : List (List ℕ)) → asks_silence arity words ≡ true → 0 < length words
silence_some arity [] asks = let no = both (arity.noreply && nat_lt arity.least 0) false asks in absurd (cc)
silence_some arity (word ∷ words) asks = omega arith

pub returns-then-asks_silence : goal.returns-then-asks_silence
returns-then-asks_silence c =
    let arity = c.arity_of-arity.ensures.value in
    let held : List (Bor (List ℕ)) = c.words-words.result.now in
    let all = c.words-words.ensures.value ∙ c.in-Some.ensures.value in
    let asks = sym (ap (λ a. asks_silence a (texts held)) arity) ∙ sym c.if-asks_silence.ensures.value in
    let some = silence_some (arity_of c.args.name) (texts held) asks in
    let size = length-map held (λ (word : Bor (List ℕ)). word.now) in
    let has : has_count (arity_of c.args.name) (length held) ≡ true = sym (ap (λ a. has_count a (length held)) arity) ∙ search rules in
    let lacks = sym (ap (λ a. lacks_noreply a (texts held)) arity) ∙ sym c.if-lacks_noreply.ensures.value in
    record { value = c.read_with.ensures.value ∙ says_silently c.args.name held (words c.args.text.now) all asks has lacks (length held - 1) (omega (arith, some, size)) }
