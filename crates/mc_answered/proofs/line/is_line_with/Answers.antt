use Rattle.std.proofs.Common.{ap, sym, ◌∙◌, length, take, ◌-◌}
use Rattle.std.specs.Prelude.{option_copied}
use Rattle.std.proofs.lemmas.Bool.Decides.{Decides-eqb}
use Rattle.std.proofs.lemmas.Slice.Eq.{ends_is}
use Rattle.mc_reply.specs.Text.{line_end}
use Rattle.mc_answered.proofs.TextLemmas.{line_with, line_with_rest, line_with_none}
use Rattle.mc_answered.proofs.line.is_line_with.Goals as goal

pub returns-in-Some : goal.returns-in-Some
returns-in-Some c =
    let rest = c.in-Some.rest.now in
    let there = sym c.after_front.ensures.value ∙ ap option_copied c.in-Some.is in
    let ends = ends_is Decides-eqb rest line_end c.ends_with.result c.ends_with.ensures.value in
    record {
      value = (
        λ is. line_with c.args.front.now c.args.line.now rest (take (length rest - length line_end) rest) c.requires.line there (ends.0 is),
        λ one. ends.1 one.rest (line_with_rest c.args.front.now c.args.line.now rest there one),
      );
    }

pub returns-in-None : goal.returns-in-None
returns-in-None c =
    let there = sym c.after_front.ensures.value ∙ ap option_copied c.in-None.is in
    record { value = (λ is. absurd (cc), λ one. absurd (line_with_none c.args.front.now c.args.line.now there one)) }
