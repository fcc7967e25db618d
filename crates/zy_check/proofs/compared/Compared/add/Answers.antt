use Rattle.std.proofs.Common.{◌≡◌, ◌∙◌, true, is_some, ap}
use Rattle.zy_check.proofs.CompareLemmas.{added_short, added_whole}
use Rattle.zy_check.proofs.compared.Compared.add.Goals as goal

pub returns-then-same-text : goal.returns-then-same-text
returns-then-same-text c =
    let t = c.args.self.now in
    let agrees = rw c.behind.ensures.value at c.agreeing-same.ensures.value in
    let short = rw agrees at c.if-same-text.true in
    rw (c.in-Some.is, c.differ-then-same-text.ensures.value, agrees) (record {
      added = record {
        kept = λ d is. let some : is_some t.differing ≡ true = ap is_some is in let so = c.is_some.ensures ∙ some in let no = c.if-is_some.false in absurd (cc);
        added = λ none made first. added_short c.in-Some.found.now made t.at c.args.text.now first c.args.session short;
      };
    })

pub returns-else-same-text : goal.returns-else-same-text
returns-else-same-text c =
    let t = c.args.self.now in
    let agrees = rw c.behind.ensures.value at c.agreeing-same.ensures.value in
    let whole = rw agrees at c.if-same-text.false in
    rw (c.in-Some.is, agrees) (record {
      added = record {
        kept = λ d is. let some : is_some t.differing ≡ true = ap is_some is in let so = c.is_some.ensures ∙ some in let no = c.if-is_some.false in absurd (cc);
        added = λ none made first. rw none (added_whole c.in-Some.found.now made t.at c.args.text.now first whole);
      };
    })
