use Rattle.std.proofs.Common.{sym, ap, subst, ◌∙◌}
use Rattle.std.specs.Prelude.{IfOk}
use Rattle.mc_parse.specs.Words.{words}
use Rattle.mc_parse.specs.Form.{form_after}
use Rattle.mc_parse.specs.Need.{need_for}
use Rattle.mc_parse.specs.Parsed.{IsParsedBy}
use Rattle.mc_parse.specs.Storing.{Parts}
use Rattle.mc_parse.proofs.NeedLemmas.{others_need}
use Rattle.mc_parse.proofs.ParsedLemmas.{quit_parsed}
use Rattle.mc_parse.proofs.StoringLemmas.{parts_further}
use Rattle.mc_parse.proofs.need.named_need.Goals as goal
use Rattle.mc_parse.proofs.need.named_need.Goals.{in-Store, in-Cas}

pub returns-in-Quit-clause-parsed : goal.returns-in-Quit-clause-parsed
returns-in-Quit-clause-parsed c =
    let ws = words c.args.first.rest.now in
    subst (λ what. IsParsedBy what c.args.line.now c.keep_name.new.parsed)
    (sym (c.need_for.ensures.value ∙ ap need_for (c.read_after.ensures.value ∙ ap (λ name. form_after name ws) c.in-Quit.is)))
    (quit_parsed ws c.args.line.now c.keep_name.new.parsed c.keep_name.ensures.parsed)

pub returns-in_default : goal.returns-in_default
returns-in_default c = record {
  value = sym (ap need_for c.requires.says ∙ others_need c.args.name (words c.args.first.rest.now) c.in_default.not-Store c.in_default.not-Cas c.in_default.not-Quit);
  parsed = c.keep_name-in_default.ensures.parsed;
}

pub keep_storing-requires-clause-parts : goal.keep_storing-requires-clause-parts
keep_storing-requires-clause-parts c =
    let text = c.args.first.rest.now in
    parts_further c.args.line.now c.args.first.word.now text c.in-Ok.said.key.now c.in-Ok.said.after.now c.requires.parts
    (elim c.match-name.branch [
      | in-Store w ↦ subst (λ said. IfOk said (λ said. Parts text said.key.now said.after.now)) (sym w.said-is ∙ c.in-Ok.is) w.read_store-said.ensures.parts
      | in-Cas w ↦ subst (λ said. IfOk said (λ said. Parts text said.key.now said.after.now)) (sym w.said-is ∙ c.in-Ok.is) w.read_cas-said.ensures.parts
    ])
