use Rattle.zygos_linear.proofs.judging.find.Goals as goal

pub returns-clause-ends : goal.returns-clause-ends
returns-clause-ends g c =
    let parts = c.in_ok-parts.parts in
    let read = c.in_ok-parts.ensures.parts in
    let capture = read.2.parts.of_capture in (
      read.0,
      read.1,
      record {
        streams = parts.capture.streams;
        journal = parts.journal;
        outputs = parts.outputs;
        parts = read.2.parts;
        lawful = read.3;
        holds = c.in_ok-found.ensures.found capture.count capture.records (record { joined = capture.joined; times_hold = read.2.noted });
      },
    )
