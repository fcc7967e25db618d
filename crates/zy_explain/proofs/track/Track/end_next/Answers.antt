use Rattle.std.proofs.Common.{◌≡◌, ℕ, List, Option, IfSome, subst, sym, refl, ◌∙◌, ap, drop, length, arith}
use Rattle.std.specs.List.{slice_get}
use Rattle.std.proofs.lemmas.Option.{slice_get_read}
use Rattle.mc_allows.specs.declared.said.Said.{Said}
use Rattle.mc_answers.specs.Said.{said_calls}
use Rattle.zy_confirm.specs.NextText.{IsNextText}
use Rattle.zy_explain.proofs.TrackLemmas.{track_ended}
use Rattle.zy_explain.proofs.track.Track.end_next.Goals as goal

pub returns : goal.returns
returns c =
    let old = c.args.self.now in
    let s = c.args.session.now in
    let command = c.index-command.result.now in
    let within = c.if-index-len.false in
    let long = c.len.ensures in
    let n = c.in-Some-2.length in
    let at : length old.answered.items ≡ c.len-index.result = let near = c.len-index.ensures in omega (arith, near) in
    let part : length old.saids.items ≡ c.len-2.result = let near = c.len-2.ensures in omega (arith, near) in
    let found = subst (λ (f : Option ℕ). IfSome f (IsNextText command c.deref.result.now (drop old.at c.args.output.now))) c.in-Some-2.is c.in_ok-length.ensures.value in
    record {
      settled = track_ended c.args.rules.shards c.args.rules.forget s c.args.output.now old c.note_text.new.self command n
          (ap (slice_get s.commands.items) at ∙ slice_get_read s.commands.items (length s.commands.items) c.len-index.result command refl (omega (arith, within, long)) c.index-command.ensures)
          (ap (slice_get (said_calls c.args.rules.shards command)) part ∙ sym c.in_ok-call.ensures.value ∙ c.in_default.is)
          (subst (λ (l : List Said). IsNextText command l (drop old.at c.args.output.now) n) c.deref.ensures.value found)
          c.in_ok-note_text.ensures.noted;
    }
