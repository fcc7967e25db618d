use Rattle.std.proofs.Common.{◌≡◌, true, arith}
use Rattle.std.proofs.lemmas.Bool.Decides.{Decides-eqb}
use Rattle.std.proofs.lemmas.Slice.Eq.{starts_is}
use Rattle.zy_confirm.proofs.BeginLemmas.{begins_by}
use Rattle.zy_confirm.proofs.beginning.is_beginning.Goals as goal

pub returns : goal.returns
returns c =
    let whole = c.args.whole.now in
    let bytes = c.args.bytes.now in
    let short = c.if-whole-bytes.false in
    let is : c.starts_with.result ≡ true = let t = c.if-not-starts_with.false in grind (arith, t) in
    record {
      begins = begins_by c.args.command.now c.args.saids.now bytes whole ((starts_is Decides-eqb whole bytes c.starts_with.result c.starts_with.ensures.value).0 is) (omega (arith, short)) c.is_answer.result c.is_answer.ensures.answer;
    }
