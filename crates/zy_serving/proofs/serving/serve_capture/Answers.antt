use Rattle.std.proofs.Common.{◌∙◌, ℕ, sym, ap, subst, length}
use Rattle.std.specs.List.{AllByRecursion}
use Rattle.zy_rx.specs.Feed.{sent_by}
use Rattle.zy_core.specs.Share.{Sharing}
use Rattle.zy_core.proofs.RunningLemmas.{core_count, still_running}
use Rattle.zy_finish.specs.Finish.{IsResultOfRun, IsHoldBy}
use Rattle.zy_serving.proofs.ServedLemmas.{runs_to}
use Rattle.zy_serving.proofs.serving.serve_capture.Goals as goal

pub finish-requires-clause-version : goal.finish-requires-clause-version
finish-requires-clause-version g c =
    (c.in_ok-driven.ensures.fed c.args.source.now c.in_ok-intake.header c.in_ok-intake.ensures.ok).lawful.known

pub finish-requires-clause-run : goal.finish-requires-clause-run
finish-requires-clause-run g c =
    still_running c.in_ok-intake.header.count c.in-Ok.running c.in_ok-driven.driven c.in-Ok.ensures.run c.in_ok-driven.ensures.same

pub returns-clause-ends : goal.returns-clause-ends
returns-clause-ends g c =
    let header = c.in_ok-intake.header in
    let same = c.in_ok-driven.ensures.same in
    let run = still_running header.count c.in-Ok.running c.in_ok-driven.driven c.in-Ok.ensures.run same in
    let shards = ap (λ (s : Sharing). s.store.shards) same.shared ∙ c.in-Ok.ensures.shards in
    let cores = core_count c.in_ok-driven.driven.shared c.in_ok-driven.driven.cores run.cores ∙ ap (λ (s : Sharing). length s.rings) same.shared ∙ c.in-Ok.ensures.count in
    runs_to g.S.Source.rest g.S.Source.faults c.args.run c.args.source.now c.drive_capture.new.source header (sent_by c.in_ok-driven.driven.inlets.items) c.in_ok-finished.finished
    c.a_capture_is_good_exactly_where_it_is_a_spelling.ensures.exactly (c.in_ok-driven.ensures.fed c.args.source.now header c.in_ok-intake.ensures.ok)
    (λ records lawful sent. subst (λ (n : ℕ). IsResultOfRun n header.version header.count records c.in_ok-finished.finished) shards (c.in_ok-finished.ensures.finished records lawful sent))
    (subst (λ (n : ℕ). AllByRecursion (IsHoldBy n) c.in_ok-finished.finished.journal.holds) cores c.in_ok-finished.ensures.held)
