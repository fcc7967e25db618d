use Rattle.std.proofs.Common.{◌≡◌, ◌+◌, ℕ, length, slice_get, Some, refl, sym, subst, arith}
use Rattle.std.proofs.lemmas.Option.{slice_get_read}
use Rattle.zy_verdict.specs.Entries.{name_at}
use Rattle.zy_outputs.specs.declared.seen.Seen.{Seen}
use Rattle.zy_outputs.specs.Adding.{AddsCalls}
use Rattle.zy_outputs.proofs.SessionLemmas.{KnowsSession, knows_next, early_ends, session_ends}
use Rattle.zy_outputs.proofs.session.add_commands.Goals as goal

pub returns-then-is_early : goal.returns-then-is_early
returns-then-is_early c =
    let sent : slice_get c.args.session.now.sent.items c.loop-index.index ≡ Some c.in-Some.sent = let one = c.in-Some.ensures.value in let slice = c.deref.ensures.value in cc in
    let mark : c.moment_at-mark.result ≡ slice_get c.args.session.now.marks.items c.loop-index.before = let one = c.moment_at-mark.ensures.value in let slice = c.deref-in-loop-index.ensures.value in cc in
    record {
      added = early_ends c.args.rules c.args.name c.args.session.now c.args.output.now c.args.texts.now c.args.all c.args.calls.now c.loop-index.index c.loop-index.before c.loop-index.calls c.loop-index.invariant
          c.in-Some.sent c.moment_at-mark.result c.early_end.result c.loop-index.calls sent mark (c.if-is_early.ensures.early refl) c.early_end.ensures.value;
    }

pub loop-index-preserved : goal.loop-index-preserved
loop-index-preserved c =
    let near = c.loop-index-test.true in
    let index = c.loop-index.index in
    let before = c.loop-index.before in
    let s = c.args.session.now in
    let now = c.loop-index.calls in
    let new = c.add_calls.new.calls in
    let command = c.index.result.now in
    let mark_at = c.moment_at-mark.result in
    let own = c.in-Some.sent in
    let name = c.args.name in
    let text = c.known_bytes.result.now in
    let sent : slice_get s.sent.items index ≡ Some own = let one = c.in-Some.ensures.value in let slice = c.deref.ensures.value in cc in
    let mark : mark_at ≡ slice_get s.marks.items before = let one = c.moment_at-mark.ensures.value in let slice = c.deref-in-loop-index.ensures.value in cc in
    let is = slice_get_read s.commands.items (length s.commands.items) index command refl (omega arith) c.index.ensures in
    let added = subst (λ (seen : Seen). AddsCalls c.args.rules (name_at name.conn name.session index name.part) command text seen now new) c.seen_by.ensures.value c.in_ok-add_calls.ensures.added in
    subst (λ (n : ℕ). KnowsSession c.args.rules name s c.args.output.now c.args.texts.now c.args.all c.args.calls.now (index + 1) (before + n) new) (sym c.number_if-before.ensures.value)
    (knows_next c.args.rules name s c.args.output.now c.args.texts.now c.args.all c.args.calls.now index before now c.loop-index.invariant c.requires.texts name.part c.sure_below-sure.result own command mark_at text new
    c.may_be_answered.result is sent mark c.sure_below-sure.ensures.value c.known_bytes.ensures.value c.may_be_answered.ensures.value added)

pub returns : goal.returns
returns c =
    let past = c.loop-index-test.false in
    let end = c.loop-index.auto.index-end in
    let mark : c.moment_at-2.result ≡ slice_get c.args.session.now.marks.items c.loop-index.before = let one = c.moment_at-2.ensures.value in let slice = c.deref-2.ensures.value in cc in
    record {
      added = session_ends c.args.rules c.args.name c.args.session.now c.args.output.now c.args.texts.now c.args.all c.args.calls.now c.loop-index.index c.loop-index.before c.loop-index.calls c.loop-index.invariant
          (omega arith) c.moment_at-2.result c.early_end-2.result mark c.early_end-2.ensures.value;
    }
