-- The records of a capture are those of its connections.
use Rattle.std.proofs.Common.{ℕ, List, [], ◌∷◌, All}
use Rattle.std.specs.List.{AllByRecursion}
use Rattle.std.proofs.lemmas.List.Elements.{All-nil, All-cons}
use Rattle.zy_capture.specs.declared.record.Record.{Record}
use Rattle.zy_capture.specs.declared.record.Record.TheVariants as Kinds
use Rattle.zy_capture.specs.Capture.{IsRecordOf, IsCapture}
use Rattle.zy_verdict.specs.Recorded.{Recorded}
use Rattle.window_laws.specs.Joined.{IsOfFirst, HasConnections}

of_first : (version count : ℕ) (records : List Record) → AllByRecursion (IsRecordOf version count) records → All (IsOfFirst count) records
of_first version count [] are = All-nil (IsOfFirst count)
of_first version count (Kinds.Segment s ∷ records) are = All-cons (IsOfFirst count) (Kinds.Segment s) records are.0.0 (of_first version count records are.1)
of_first version count (Kinds.Close conn ∷ records) are = All-cons (IsOfFirst count) (Kinds.Close conn) records are.0.1 (of_first version count records are.1)

pub capture_connections : (version : ℕ) (r : Recorded) → IsCapture version r.count r.records → HasConnections r
capture_connections version r is = of_first version r.count r.records is.lawful
