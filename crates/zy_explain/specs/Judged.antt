-- What is judged.
use Rattle.std.specs.Prelude.{ℕ, List, []}
use Rattle.zy_capture.specs.declared.record.Record.{Record}
use Rattle.zy_verdict.specs.Recorded.{Recorded}
use Rattle.zy_explain.specs.declared.rules.Rules.{Rules}

-- the recording of these records and outputs, if its server may have been so, and an exptime other than 0 was given to
-- these keys before
abbrev pub judged_after : List (List ℕ) → Rules → ℕ → List Record → List (List (List ℕ)) → Recorded
judged_after lasting rules count records outputs = record {
  count = count;
  records = records;
  outputs = outputs;
  shards = rules.shards;
  warm = rules.warm;
  forget = rules.forget;
  lasting = lasting;
}

-- the recording of these records and outputs, if its server may have been so, and nothing is known of what came before
abbrev pub judged : Rules → ℕ → List Record → List (List (List ℕ)) → Recorded
judged rules count records outputs = judged_after [] rules count records outputs
