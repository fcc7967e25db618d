-- Connections at their ends know which of their commands are answered.
use Rattle.std.specs.List.{slice_get}
use Rattle.std.proofs.Common.{◌≡◌, ℕ, List, Bool, Option, None, Some, refl, sym, ◌∙◌, subst}
use Rattle.std.proofs.lemmas.List.{length-map}
use Rattle.std.proofs.lemmas.Option.{slice_get-map}
use Rattle.mc_calls.specs.Order.{of_connection}
use Rattle.mc_parse.specs.Calls.{dues_of}
use Rattle.zy_run.specs.Commands.{commands_held}
use Rattle.zy_check.specs.declared.track.Track.{Track}
use Rattle.zy_check.specs.Given.{Given}
use Rattle.zy_check.specs.Cause.{IsComplete}
use Rattle.zy_check.specs.Answered.{answered_by, AreAnswered}
use Rattle.zy_check.specs.Begun.{Begun}
use Rattle.zy_check.specs.Missing.{AreEnded}
use Rattle.zy_check.specs.Track.{StandsAtSession, flags_of}
use Rattle.zy_check.proofs.TrackLemmas.{answered_all}

-- the flags of a connection at its end
end_answered : (g : Given) (tracks : List Track) (conn : ℕ) (t : Track) → IsComplete g → AreEnded g tracks → slice_get tracks conn ≡ Some t → t.answered.items ≡ answered_by (commands_held g.streams conn) (of_connection conn g.entries)
end_answered g tracks conn t complete ended is =
    let has = ended.each conn t is in
    let made = dues_of (of_connection conn g.entries) in
    let h : StandsAtSession g conn t.session t.cursor None t.commands t.compared t.answered.items made = subst (λ (o : Option Begun). StandsAtSession g conn t.session t.cursor o t.commands t.compared t.answered.items made) has.1.0 has.0 in
    answered_all g conn t.session t.cursor t.commands t.compared t.answered.items made h has.1.1 complete

-- the track whose flags are found at a place
track_there : (tracks : List Track) (conn : ℕ) (flags : List Bool) → slice_get (flags_of tracks) conn ≡ Some flags → (t : Track) × (slice_get tracks conn ≡ Some t) × (flags ≡ t.answered.items)
track_there tracks conn flags is = go (slice_get tracks conn) refl (sym (slice_get-map (λ (t : Track). t.answered.items) tracks conn) ∙ is)
  where
    go : (o : Option Track) → slice_get tracks conn ≡ o → elim o [ None ↦ None | Some x ↦ Some x.answered.items ] ≡ Some flags → (t : Track) × (slice_get tracks conn ≡ Some t) × (flags ≡ t.answered.items)
    go None at same = cc
    go (Some t) at same = (t, at, let back : t.answered.items ≡ flags = cc in sym back)

pub are_answered : (g : Given) (tracks : List Track) → IsComplete g → AreEnded g tracks → AreAnswered g (flags_of tracks)
are_answered g tracks complete ended = record {
  count = length-map tracks (λ (t : Track). t.answered.items) ∙ ended.count;
  each = λ conn flags is. let at = track_there tracks conn flags is in at.2 ∙ end_answered g tracks conn at.0 complete ended at.1;
}
