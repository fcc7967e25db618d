use Rattle.std.proofs.Common.{◌<◌, length, arith}
use Rattle.zy_check.proofs.StepLemmas.{tracked_at, has_made, end_not_next, next_exact, next_in}
use Rattle.zy_check.proofs.walk.is_next.Goals as goal

pub returns-then-not-branch-clause-kept : goal.returns-then-not-branch-clause-kept
returns-then-not-branch-clause-kept c at tracked =
    tracked_at c.args.files.now at c.args.tracks.now tracked c.tag-conn.result.conn c.index-tracks-conn.result c.go_on.new.self c.if-tracks-conn.false c.in_ok-go_on.ensures.kept

pub returns-then-not-branch-clause-exact : goal.returns-then-not-branch-clause-exact
returns-then-not-branch-clause-exact c at tracked =
    let g = c.args.files.now in
    let e = c.args.entry.now in
    let tag = c.tag-conn.ensures.value in
    let has = has_made g at c.args.tracks.now tracked c.tag-conn.result.conn c.index-tracks-conn.result c.go_on.new.self c.if-tracks-conn.false c.in_ok-go_on.ensures.kept in (
      (λ no. absurd (cc)),
      (λ next. absurd (end_not_next g at e c.go_on.new.self (rw tag at has) (rw tag at (c.in_ok-go_on.ensures.end c.if-not-branch.true)) next)),
    )

pub returns-clause-kept : goal.returns-clause-kept
returns-clause-kept c at tracked =
    tracked_at c.args.files.now at c.args.tracks.now tracked c.tag-conn.result.conn c.index-tracks-conn.result c.go_on.new.self c.if-tracks-conn.false c.in_ok-go_on.ensures.kept

pub returns-clause-exact : goal.returns-clause-exact
returns-clause-exact c at tracked =
    let g = c.args.files.now in
    let e = c.args.entry.now in
    let tag = c.tag-conn.ensures.value in
    let has = has_made g at c.args.tracks.now tracked c.tag-conn.result.conn c.index-tracks-conn.result c.go_on.new.self c.if-tracks-conn.false c.in_ok-go_on.ensures.kept in
    let size = c.requires.same in
    let within = c.if-tracks-conn.false in
    let inside : c.tag-conn.result.conn < length g.streams = omega (arith, size, within) in
    next_exact g at e c.go_on.new.self c.is_due.result (rw tag at inside) (rw tag at has) (c.in_ok-go_on.ensures.next c.if-not-branch.false) (rw tag at c.is_due.ensures.exact)

pub returns-clause-there : goal.returns-clause-there
returns-clause-there c so =
    let tag = c.tag-conn.ensures.value in
    rw tag (next_in c.args.entry.now c.args.tracks.now c.go_on.new.self c.is_due.result (rw tag at c.if-tracks-conn.false) (c.in_ok-go_on.ensures.next c.if-not-branch.false) (rw tag at c.is_due.ensures.exact) so)
