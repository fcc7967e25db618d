use Rattle.std.proofs.Common.{arith}
use Rattle.zy_read.proofs.ByteLemmas.{each_byte}
use Rattle.zy_read.proofs.bytes.are_bytes.Goals as goal

pub returns : goal.returns
returns c = record { value = each_byte c.args.bytes.now (λ i. omega (arith, c.type_inv.bytes i)) }
