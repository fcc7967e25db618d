use Rattle.mc_calls.specs.declared.hold.Hold.{Hold}
use Rattle.zy_journal_reader.proofs.FoundLemmas.{hold_found}
use Rattle.zy_journal_reader.proofs.records.hold.Goals as goal

pub returns-then-count-le-HOLD_LIMIT : goal.returns-then-count-le-HOLD_LIMIT
returns-then-count-le-HOLD_LIMIT c =
    let found : Hold = record { core = c.in_ok-core.core; conn = c.in_ok-conn.conn; count = c.in_ok-count.count } in
    record {
      value = hold_found c.args.past found c.args.bytes.now c.in_ok-numbers.numbers.now c.in_ok-conn.after_conn.now c.in_ok-core.after_core.now c.in_ok-count.rest.now c.in_ok-numbers.ensures.value
          c.in_ok-conn.ensures.value c.in_ok-core.ensures.value c.in_ok-count.ensures.value c.if-past-conn.true c.if-conn-lt-CONNECTION_LIMIT.true c.if-core-lt-CORE_LIMIT.true c.if-count-ge1.true c.if-count-le-HOLD_LIMIT.true;
    }
