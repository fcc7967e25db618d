use Rattle.std.proofs.Common.{length, sym, subst, arith}
use Rattle.std.proofs.lemmas.Option.{slice_get_within}
use Rattle.zy_check.specs.Track.{HasMadeCalls}
use Rattle.zy_check.specs.Cause.{IsMissing}
use Rattle.zy_check.proofs.StepLemmas.{tracked_at, has_made, all_before, call_missing, ends_more, ends_whole, all_ended}
use Rattle.zy_check.proofs.missing.first_missing.Goals as goal

pub returns-then-branch : goal.returns-then-branch
returns-then-branch c =
    let g = c.args.files.now in
    let conn = c.loop-conn.conn in
    let tracks = c.loop-conn.tracks in
    let tracked = c.loop-conn.invariant.tracked in
    let size = tracked.count in
    let count = c.count-conn-end.ensures.value in
    let near = c.loop-conn-test.true in
    let has = has_made g (length g.entries) tracks tracked conn c.index-tracks-conn.result c.go_on.new.self (omega arith) c.in_ok-go_on.ensures.kept in
    let missing = call_missing g conn c.go_on.new.self c.requires.right (ends_whole g tracks conn (omega arith) tracked c.loop-conn.invariant.ends)
    (subst (HasMadeCalls g conn c.go_on.new.self) (all_before g conn) has) (c.in_ok-go_on.ensures.next c.if-branch.true) in
    record { found = subst (IsMissing g conn) (sym c.commands-index.ensures.value) missing }

pub loop-conn-preserved : goal.loop-conn-preserved
loop-conn-preserved c =
    let g = c.args.files.now in
    let tracked = c.loop-conn.invariant.tracked in
    let size = tracked.count in
    let count = c.count-conn-end.ensures.value in
    let near = c.loop-conn-test.true in record {
      tracked = tracked_at g (length g.entries) c.loop-conn.tracks tracked c.loop-conn.conn c.index-tracks-conn.result c.go_on.new.self (omega arith) c.in_ok-go_on.ensures.kept;
      ends = ends_more g c.loop-conn.tracks c.loop-conn.conn c.go_on.new.self (omega arith) c.loop-conn.invariant.ends (c.in_ok-go_on.ensures.end c.if-branch.false);
    }

pub returns : goal.returns
returns c =
    let g = c.args.files.now in
    let tracks = c.loop-conn.tracks in
    let tracked = c.loop-conn.invariant.tracked in
    let size = tracked.count in
    let count = c.count-conn-end.ensures.value in
    let end = c.loop-conn-test.false in record {
      found = all_ended g tracks c.requires.right tracked (λ k t is. let within = slice_get_within tracks k t is in c.loop-conn.invariant.ends k t (omega arith) is);
    }
