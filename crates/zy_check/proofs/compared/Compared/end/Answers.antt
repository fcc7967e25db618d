use Rattle.std.proofs.Common.{◌≡◌, ◌∙◌, true, is_some, ap}
use Rattle.zy_check.proofs.CompareLemmas.{ended_more}
use Rattle.zy_check.proofs.compared.Compared.end.Goals as goal

pub returns-then-self-found : goal.returns-then-self-found
returns-then-self-found c =
    let t = c.args.self.now in
    rw (c.in-Some.is, c.differ-then-self-found.ensures.value) (record {
      ended = record {
        kept = λ d is. let some : is_some t.differing ≡ true = ap is_some is in let so = c.is_some.ensures ∙ some in let no = c.if-is_some.false in absurd (cc);
        ended = λ none made first. ended_more c.in-Some.found.now made t.at first c.args.session c.if-self-found.true;
      };
    })
