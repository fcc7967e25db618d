use Rattle.std.proofs.Common.{rules, List, ℕ, [], ◌∷◌, ◌++◌, append_assoc, ap, sym, ◌∙◌}
use Rattle.zy_base.proofs.RestLemmas.{rest_on}
use Rattle.mc_parse.specs.Words.{words}
use Rattle.mc_parse.proofs.ParsedLemmas.{parts_rest}
use Rattle.mc_parse.proofs.parse.take_keys.Goals as goal

pub take_key-requires : goal.take_key-requires
take_key-requires c = record {
  rest = parts_rest c.args.line.now c.loop-split.rest.now c.in-Some.split.word.now c.in-Some.split.rest.now c.loop-split.invariant.2 c.in-Some.ensures.parts;
}

pub loop-split-preserved : goal.loop-split-preserved
loop-split-preserved c =
    let word = c.in-Some.split.word.now in
    let rest = c.in-Some.split.rest.now in
    let of = parts_rest c.args.line.now c.loop-split.rest.now word rest c.loop-split.invariant.2 c.in-Some.ensures.parts in (
      ap (λ (keys : List (List ℕ)). keys ++ words rest) c.in_ok-take_key.ensures.ok
          ∙ append_assoc c.loop-split.keys (word ∷ []) (words rest)
          ∙ ap (λ (left : List (List ℕ)). c.loop-split.keys ++ left) (sym c.in-Some.ensures.found)
          ∙ c.loop-split.invariant.0,
      search rules,
      rest_on word rest c.args.line.now of,
    )
