use Rattle.std.proofs.Common.{◌≤◌, ℕ, List, []}
use Rattle.zy_input.specs.Reading.{IsPartOpen, IsReading}
use Rattle.zy_input.proofs.part.feed_all.Given as goal

-- some bytes of the part were fed, and it goes on
abbrev pub invariant-loop : goal.invariant-loop
invariant-loop g l = record {
  live : IsPartOpen g.P.Part.kind l.part;
  count : g.S.Source.faults l.initial.source ≤ g.S.Source.faults l.source;
  read : (setting : g.P.Part.Setting) (first : g.row.S.Denot) (before : List ℕ) → IsReading (g.P.Part.kind setting) g.S.Source.rest g.S.Source.faults first l.initial.source l.initial.pieces before [] l.initial.part
      → (bytes : List ℕ) × IsReading (g.P.Part.kind setting) g.S.Source.rest g.S.Source.faults first l.source l.pieces before bytes l.part;
}
