use Rattle.zy_report.proofs.AllLemmas.{none_read, room_at}
use Rattle.zy_report.proofs.tallies.add_all.Goals as goal

pub loop-entry-init : goal.loop-entry-init
loop-entry-init c = none_read c.args.tallies.now.items c.args.entries c.requires.none

pub add-requires : goal.add-requires
add-requires c = record {
  room = room_at c.loop-entry.tallies.items c.args.entries c.loop-entry.left c.next.new.self c.in-Some.entry c.loop-entry.invariant c.in-Some.ensures.some c.requires.few;
}
