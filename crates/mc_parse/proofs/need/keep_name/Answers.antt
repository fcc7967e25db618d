use Rattle.std.proofs.Common.{◌-◌, length, ap, sym, ◌∙◌, List, ℕ, arith}
use Rattle.mc_parse.specs.Words.{words}
use Rattle.mc_parse.specs.Form.{form_after}
use Rattle.mc_parse.proofs.StoringLemmas.{rest_at, parts_length}
use Rattle.mc_parse.proofs.need.keep_name.Goals as goal

pub returns : goal.returns
returns c =
    let line = c.args.line.now in
    let rest = c.args.first.rest.now in
    let size = parts_length line c.args.first.word.now rest c.requires.parts in
    record {
      parsed = record {
        within = omega (arith, size);
        says = c.requires.says ∙ ap (λ (text : List ℕ). form_after c.args.name (words text)) (sym (rest_at line c.args.first.word.now rest (length line - length rest) c.requires.parts (omega (arith, size))));
      };
    }
