use Rattle.zygos_run.proofs.self_test.test_traffic.Goals as goal

pub returns-in-Err-write_line-clause-ends : goal.returns-in-Err-write_line-clause-ends
returns-in-Err-write_line-clause-ends g c = λ source.
    let writes = c.in-Err-write_line.ensures.writes in
    (((c.in-Ok.journal, c.in-Ok.summary), (c.in-Ok.ensures.tested, writes.part)), writes.cause)
