use Rattle.std.proofs.Common.{arith}
use Rattle.std.proofs.lemmas.Bool.Decides.{Decides-eqb}
use Rattle.std.proofs.lemmas.Slice.Eq.{starts_is}
use Rattle.mc_reply.specs.Text.{line_end}
use Rattle.mc_kind.proofs.ListingLemmas.{value_line}
use Rattle.mc_kind.proofs.piece.value_length.Goals as goal

pub returns-then-starts_with : goal.returns-then-starts_with
returns-then-starts_with c =
    let rest = c.text_from.result.now in
    let short = c.if-bytes-count.false in
    let large = c.if-count.false in
    let ends = (starts_is Decides-eqb rest line_end c.starts_with.result c.starts_with.ensures.value).0 c.if-starts_with.true in
    record { value = value_line c.args.bytes.now rest c.args.count (omega arith) (omega arith) c.text_from.ensures.value ends }
