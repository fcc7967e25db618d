use Rattle.std.proofs.Common.{◌≡◌, ℕ, List, Option, Some, None, [], ◌∷◌, ◌++◌, sym, ◌∙◌, ap, subst}
use Rattle.zy_check.specs.Begun.{Begun}
use Rattle.zy_check.specs.Track.{StandsAtSession}
use Rattle.mc_reply.specs.Text.{text}
use Rattle.zy_check.specs.Answered.{has_bytes}
use Rattle.zy_check.proofs.TrackLemmas.{finished}
use Rattle.zy_check.proofs.track.Track.finish.Goals as goal

pub returns-clause-kept : goal.returns-clause-kept
returns-clause-kept c made has =
    let g = c.args.files.now in
    let t = c.args.self.now in
    let some = c.is_none.ensures.some c.if-is_none.false in
    let b = some.0 in
    let h : StandsAtSession g c.args.conn t.session t.cursor (Some b) t.commands t.compared t.answered.items made = subst (λ (o : Option Begun). StandsAtSession g c.args.conn t.session t.cursor o t.commands t.compared t.answered.items made) some.1 has in
    let all = rw some.1 at c.requires.done in
    let said : c.write_text.new.out ≡ text b.command b.replies = c.in_ok-write_text.ensures.value b some.1 in
    let adds = rw (c.output.ensures.value, c.bytes.ensures.value, said) at c.add.ensures.added in
    let noted : c.note.new.answered.items ≡ t.answered.items ++ has_bytes (text b.command b.replies) ∷ [] =
    c.in_ok-note.ensures.more ∙ ap (λ (l : List ℕ). t.answered.items ++ has_bytes l ∷ []) (c.bytes-2.ensures.value ∙ said) in
    rw (c.end.ensures.none, noted)
    (subst (λ (n : ℕ). StandsAtSession g c.args.conn t.session t.cursor None n c.add.new.self (t.answered.items ++ has_bytes (text b.command b.replies) ∷ []) made) (sym c.in-Some.ensures.1)
    (finished g c.args.conn t.session t.cursor b t.commands t.compared t.answered.items made h all c.add.new.self adds))
