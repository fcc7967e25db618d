use Rattle.std.proofs.Common.{rules, ◌≡◌, ◌≤◌, List, ◌∙◌, arith}
use Rattle.zy_rx.specs.Feed.{sent_by}
use Rattle.zy_core.specs.Cores.{identities}
use Rattle.zy_core.proofs.RunningLemmas.{inlet_count}
use Rattle.zy_feed.specs.Reads.{StopsIntakeBy}
use Rattle.zy_feed.specs.Feeding.{HasFedAll}
use Rattle.zy_serving.proofs.FeedLemmas.{none_sent, fed, stopped_for, counted}
use Rattle.zy_serving.proofs.drive.drive_capture.Goals as goal

pub returns-in-Ok-clause-fed : goal.returns-in-Ok-clause-fed
returns-in-Ok-clause-fed g c = λ first header begins.
    let f = c.new-feeder.result in
    let h = c.drive_cores-driven.new.feeder in
    let ended = (c.drive_cores-driven.ensures.settled c.in-Ok.ensures.ok.0).0 in
    let all : HasFedAll g.S.Source.rest g.S.Source.faults first h.source.now header (sent_by h.inlets) = fed g.S.Source.rest g.S.Source.faults first header c.args.source.now f.source.now h.source.now c.args.intake f.intake h.intake c.args.running.inlets.items f.inlets h.inlets f.stage h.stage begins (none_sent c.args.running.inlets.items c.requires.fresh) c.new-feeder.ensures.now c.new-feeder.ensures.intake (c.new-feeder.ensures.inlets ∙ c.new.ensures.value) c.new-feeder.ensures.stage c.drive_cores-driven.ensures.leads.1 ended in
    search rules

pub returns-in-Err-clause-stopped : goal.returns-in-Err-clause-stopped
returns-in-Err-clause-stopped g c = λ first header begins.
    let f = c.new-feeder.result in
    let h = c.drive_cores-driven.new.feeder in
    let cause : StopsIntakeBy g.S.Source.rest g.S.Source.faults first h.source.now c.in-Err.stop = stopped_for g.S.Source.rest g.S.Source.faults first header c.args.source.now f.source.now h.source.now c.args.intake f.intake h.intake c.args.running.inlets.items f.inlets h.inlets f.stage h.stage begins (none_sent c.args.running.inlets.items c.requires.fresh) c.new-feeder.ensures.now c.new-feeder.ensures.intake (c.new-feeder.ensures.inlets ∙ c.new.ensures.value) c.new-feeder.ensures.stage c.drive_cores-driven.ensures.leads.1 _ c.in-Err.stop c.into_parts-source.ensures.stop c.in-Err.ensures.err in
    search rules

pub returns-in-Ok-clause-reads : goal.returns-in-Ok-clause-reads
returns-in-Ok-clause-reads g c = λ first header begins.
    let f = c.new-feeder.result in
    let h = c.drive_cores-driven.new.feeder in
    let count : g.S.Source.faults first ≤ g.S.Source.faults h.source.now = counted g.S.Source.rest g.S.Source.faults first header c.args.source.now f.source.now h.source.now c.args.intake f.intake h.intake c.args.running.inlets.items f.inlets h.inlets f.stage h.stage begins (none_sent c.args.running.inlets.items c.requires.fresh) c.new-feeder.ensures.now c.new-feeder.ensures.intake (c.new-feeder.ensures.inlets ∙ c.new.ensures.value) c.new-feeder.ensures.stage c.drive_cores-driven.ensures.leads.1 in
    search rules

pub returns-in-Err-clause-reads : goal.returns-in-Err-clause-reads
returns-in-Err-clause-reads g c = λ first header begins.
    let f = c.new-feeder.result in
    let h = c.drive_cores-driven.new.feeder in
    let count : g.S.Source.faults first ≤ g.S.Source.faults h.source.now = counted g.S.Source.rest g.S.Source.faults first header c.args.source.now f.source.now h.source.now c.args.intake f.intake h.intake c.args.running.inlets.items f.inlets h.inlets f.stage h.stage begins (none_sent c.args.running.inlets.items c.requires.fresh) c.new-feeder.ensures.now c.new-feeder.ensures.intake (c.new-feeder.ensures.inlets ∙ c.new.ensures.value) c.new-feeder.ensures.stage c.drive_cores-driven.ensures.leads.1 in
    search rules

pub new-requires : goal.new-requires
new-requires g c =
    let same = inlet_count c.args.running.shared (identities c.args.running.cores) c.args.running.inlets.items c.requires.cores c.requires.rings in
    let count = c.requires.cores.count in
    let some = c.requires.cores.some in
    let few = c.requires.cores.few in
    record { some = omega arith; few = omega arith }
