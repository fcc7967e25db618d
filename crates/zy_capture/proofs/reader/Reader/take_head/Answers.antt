use Rattle.std.proofs.Common.{rules, arith}
use Rattle.zy_capture.proofs.HeadLemmas.{head_of}
use Rattle.zy_capture.proofs.reader.Reader.take_head.Goals as goal

pub returns-else-conn-self-clause-fed : goal.returns-else-conn-self-clause-fed
returns-else-conn-self-clause-fed c =
    λ yes. head_of c.args.self.now c.go_to_length.new.self c.args.head.now c.from_be_bytes-conn.result
    (search rules) c.requires.none (search rules) (omega (arith, c.in-Tag-eq83.len_at_least, c.in-Tag-eq83.len_below)) (search rules) (search rules) (search rules) (search rules) c.go_to_length.ensures.value
