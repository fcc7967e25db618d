use Rattle.std.proofs.Common.{◌≡◌, ℕ, ◌+◌, ◌<◌, ◌≤◌, List, [], ◌∷◌, ◌++◌, length, take, ap, sym, ◌∙◌, append_assoc, arith, length-append}
use Rattle.std.specs.Prelude.{slice_set}
use Rattle.std.specs.Borrow.{Bor}
use Rattle.std.proofs.lemmas.List.{length-map, length-take-le, take_more_set, map-append, length-set}
use Rattle.mc_parse.specs.Words.{words}
use Rattle.mc_parse.specs.Line.{texts}
use Rattle.mc_parse.proofs.args.Args.of.Goals as goal

-- one word after the first words
one_more : (held : List (Bor (List ℕ))) (count : ℕ) (word : Bor (List ℕ)) (more all : List (List ℕ)) → count < length held
    → texts (take count held) ++ word.now ∷ more ≡ all → texts (take (count + 1) (slice_set held count word)) ++ more ≡ all
one_more held count word more all within is =
    ap (λ (words : List (Bor (List ℕ))). texts words ++ more) (take_more_set held count word within)
    ∙ ap (λ (words : List (List ℕ)). words ++ more) (map-append (λ (w : Bor (List ℕ)). w.now) (take count held) (word ∷ []))
    ∙ append_assoc (texts (take count held)) (word.now ∷ []) more
    ∙ is

-- a word after three words
too_many : (held : List (Bor (List ℕ))) (count : ℕ) (word : List ℕ) (more all : List (List ℕ)) → 3 ≤ count → count ≤ length held
    → texts (take count held) ++ word ∷ more ≡ all → 3 < length all
too_many held count word more all some within is =
    let size = ap (λ (words : List (List ℕ)). length words) is in
    omega (arith, size, length-append (texts (take count held)) (word ∷ more), length-map (take count held) (λ (w : Bor (List ℕ)). w.now), length-take-le count held within)

pub returns-then-count-ge3-clause-value : goal.returns-then-count-ge3-clause-value
returns-then-count-ge3-clause-value c =
    too_many c.loop-split.words c.loop-split.count c.in-Some.split.word.now (words c.in-Some.split.rest.now) (words c.args.text.now) (omega arith) (omega arith)
    (ap (λ (more : List (List ℕ)). texts (take c.loop-split.count c.loop-split.words) ++ more) (sym c.in-Some.ensures.found) ∙ c.loop-split.invariant.2)

pub loop-split-preserved : goal.loop-split-preserved
loop-split-preserved c = (
  length-set c.loop-split.words c.loop-split.count c.in-Some.split.word ∙ c.loop-split.invariant.0,
  omega arith,
  one_more c.loop-split.words c.loop-split.count c.in-Some.split.word (words c.in-Some.split.rest.now) (words c.args.text.now) (omega arith)
      (ap (λ (more : List (List ℕ)). texts (take c.loop-split.count c.loop-split.words) ++ more) (sym c.in-Some.ensures.found) ∙ c.loop-split.invariant.2),
)
