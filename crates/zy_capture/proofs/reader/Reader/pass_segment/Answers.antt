use Rattle.std.proofs.Common.{◌≡◌, ◌+◌, ℕ, [], refl, sym, ap, ◌∙◌}
use Rattle.zy_capture.specs.Steps.{CaptureProgress}
use Rattle.zy_capture.proofs.SegmentLemmas.{at_tag, segment_fed, segment_exact}
use Rattle.zy_capture.proofs.reader.Reader.pass_segment.Goals as goal

pub returns-clause-fed : goal.returns-clause-fed
returns-clause-fed c =
    let size : ℕ = c.args.head.size in
    let none : c.args.self.now.seen ≡ [] =
    sym (ap (λ (x : CaptureProgress). x.seen) c.self.view_is) ∙ at_tag c.self.inside.state.due c.self.inside.fault _ _ _ _
    (ap (λ (x : CaptureProgress). x.state.due) c.self.view_is ∙ c.requires.takes.due) (ap (λ (x : CaptureProgress). x.fault) c.self.view_is ∙ c.requires.takes.none) c.self.invariant.1 in
    segment_fed c.args.self.now _ c.args.bytes.now c.args.payload c.args.head.conn size c.requires.takes none
    c.requires.payload (ap (λ (x : CaptureProgress). record x { at = x.at + (9 + size) }) c.self.view_is)

pub returns-clause-exact : goal.returns-clause-exact
returns-clause-exact c =
    let size : ℕ = c.args.head.size in
    let none : c.args.self.now.seen ≡ [] =
    sym (ap (λ (x : CaptureProgress). x.seen) c.self.view_is) ∙ at_tag c.self.inside.state.due c.self.inside.fault _ _ _ _
    (ap (λ (x : CaptureProgress). x.state.due) c.self.view_is ∙ c.requires.takes.due) (ap (λ (x : CaptureProgress). x.fault) c.self.view_is ∙ c.requires.takes.none) c.self.invariant.1 in
    segment_exact c.args.self.now (record c.args.self.now { at = c.args.self.now.at + (9 + size) }) c.args.bytes.now c.args.payload c.args.head.conn size c.requires.takes none
    c.requires.payload refl
