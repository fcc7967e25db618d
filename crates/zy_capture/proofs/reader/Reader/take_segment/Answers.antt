use Rattle.std.proofs.Common.{◌≡◌, ◌+◌, ◌<◌, ℕ, [], take, drop, refl, sym, ap, ◌∙◌, rules}
use Rattle.zy_capture.specs.Steps.{CaptureProgress}
use Rattle.zy_capture.proofs.SegmentLemmas.{at_tag, segment_fed, segment_exact, front_fed, front_end}
use Rattle.zy_capture.proofs.reader.Reader.take_segment.Goals as goal

pub returns-in-Ok-clause-fed : goal.returns-in-Ok-clause-fed
returns-in-Ok-clause-fed c =
    let size : ℕ = c.args.head.size in
    let none : c.args.self.now.seen ≡ [] =
    sym (ap (λ (x : CaptureProgress). x.seen) c.self.view_is) ∙ at_tag c.self.inside.state.due c.self.inside.fault _ _ _ _
    (ap (λ (x : CaptureProgress). x.state.due) c.self.view_is ∙ c.requires.takes.due) (ap (λ (x : CaptureProgress). x.fault) c.self.view_is ∙ c.requires.takes.none) c.self.invariant.1 in
    let paid : c.in-Ok.payload ≡ take size (drop 9 c.args.bytes.now) = search rules in
    segment_fed c.args.self.now _ c.args.bytes.now c.in-Ok.payload c.args.head.conn size c.requires.takes none
    paid (ap (λ (x : CaptureProgress). record x { at = x.at + (9 + size) }) c.self.view_is)

pub returns-in-Ok-clause-exact : goal.returns-in-Ok-clause-exact
returns-in-Ok-clause-exact c =
    let size : ℕ = c.args.head.size in
    let none : c.args.self.now.seen ≡ [] =
    sym (ap (λ (x : CaptureProgress). x.seen) c.self.view_is) ∙ at_tag c.self.inside.state.due c.self.inside.fault _ _ _ _
    (ap (λ (x : CaptureProgress). x.state.due) c.self.view_is ∙ c.requires.takes.due) (ap (λ (x : CaptureProgress). x.fault) c.self.view_is ∙ c.requires.takes.none) c.self.invariant.1 in
    let paid : c.in-Ok.payload ≡ take size (drop 9 c.args.bytes.now) = search rules in
    segment_exact c.args.self.now (record c.args.self.now { at = c.args.self.now.at + (9 + size) }) c.args.bytes.now c.in-Ok.payload c.args.head.conn size c.requires.takes none
    paid refl

pub returns-in-Err-clause-fed : goal.returns-in-Err-clause-fed
returns-in-Err-clause-fed c =
    let none : c.args.self.now.seen ≡ [] =
    sym (ap (λ (x : CaptureProgress). x.seen) c.self.view_is) ∙ at_tag c.self.inside.state.due c.self.inside.fault _ _ _ _
    (ap (λ (x : CaptureProgress). x.state.due) c.self.view_is ∙ c.requires.takes.due) (ap (λ (x : CaptureProgress). x.fault) c.self.view_is ∙ c.requires.takes.none) c.self.invariant.1 in
    front_fed c.args.self.now c.go_to_length.new.self c.args.bytes.now c.args.head.conn c.args.head.size c.requires.takes none c.go_to_length.ensures.value

pub returns-in-Err-clause-memory : goal.returns-in-Err-clause-memory
returns-in-Err-clause-memory c = λ e.
    let some : 0 < c.args.head.size = search rules in
    front_end c.args.self.now c.go_to_length.new.self c.args.bytes.now c.args.head.conn c.args.head.size c.requires.takes some c.go_to_length.ensures.value
