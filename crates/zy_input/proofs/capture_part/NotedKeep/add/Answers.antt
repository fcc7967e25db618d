use Rattle.std.proofs.Common.{subst}
use Rattle.zy_input.specs.Keeping.{KeepsRecords}
use Rattle.zy_input.specs.Kinds.{capture_keeping}
use Rattle.zy_input.proofs.CaptureLemmas.{record_kept}
use Rattle.zy_input.proofs.LawfulLemmas.{streams_made, may_keep}
use Rattle.zy_input.proofs.capture_part.NotedKeep.add.Goals as goal

pub add_noted-added-requires : goal.add_noted-added-requires
add_noted-added-requires g c =
    let may = may_keep g.N.Notes.holds c.requires.adding.0 c.args.made.now c.args.item c.in-Some.kept c.requires.adding.1 c.in-Some.is in
    record { may = may.0; notes = may.1 }

pub unreachable-requires : goal.unreachable-requires
unreachable-requires g c = absurd (streams_made g.N.Notes.holds c.requires.adding.0 c.args.made.now c.args.item c.requires.adding.1 c.in-None.is)

pub returns : goal.returns
returns g c = record {
  value = λ given number kept.
      let may = may_keep g.N.Notes.holds c.requires.adding.0 c.args.made.now c.args.item c.in-Some.kept c.requires.adding.1 c.in-Some.is in
      record_kept g.N.Notes.holds c.in-Some.kept c.add_noted-added.new.kept number c.args.item given c.add_noted-added.result may.0 c.add_noted-added.ensures.streams c.add_noted-added.ensures.notes (subst (λ o. KeepsRecords (capture_keeping g.N.Notes.holds) o number given) c.in-Some.is kept);
}
