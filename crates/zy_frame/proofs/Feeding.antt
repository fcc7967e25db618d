-- The frames that several steps give together, and what feeding a piece means for every stream that
-- may have brought a framer to where it is.
use Rattle.std.specs.Prelude.{Result, Ok, Err, IfOk, option_to_list}
use Rattle.std.proofs.Common.{◌≡◌, ℕ, ◌≤◌, false, List, [], ◌∷◌, ◌++◌, length, drop, arith, refl, sym, ap, ◌∙◌, subst, append_assoc}
use Rattle.std.proofs.lemmas.Bool.{lt-ltb}
use Rattle.std.proofs.lemmas.List.{append-nil, drop_all}
use Rattle.zy_frame.specs.declared.frame_kind.FrameKind.{FrameKind}
use Rattle.zy_frame.specs.declared.state.State.{State}
use Rattle.zy_frame.specs.declared.state.State.TheVariants.{Line, Long, Block, Large, Quit, Refused}
use Rattle.zy_frame.specs.Cut.{frames_of, meets_quit}
use Rattle.zy_frame.specs.Progress.{Progress, in_line, in_long_line, in_block, in_large_block, behind_quit, without_memory, Keeps, Outcome, outcome_of, with_frames, goes_on, StandsFor, is_quit}
use Rattle.zy_frame.specs.Feed.{Appends, AppendsFirst}
use Rattle.zy_frame.specs.Steps.{progress_of, Gives, Moves}
use Rattle.zy_frame.proofs.GoingOn.{outcome_of-unended}

with_frames-append : (given more : List FrameKind) (o : Outcome) → with_frames given (with_frames more o) ≡ with_frames (given ++ more) o
with_frames-append given more o = ap (λ (l : List FrameKind). record { frames = l; quit = o.quit }) (sym (append_assoc given more o.frames))

-- ---- with no further byte

-- no frame comes
pub at_rest : (framer : Progress) → Keeps framer → goes_on framer [] ≡ record { frames = []; quit = is_quit framer }
unfolding goes_on
at_rest (in_line kept) keeps = ap outcome_of (append-nil kept) ∙ outcome_of-unended kept keeps.no_feed
at_rest in_long_line keeps = refl
at_rest (in_block awaited block) keeps = rw (lt-ltb 0 awaited.left keeps.awaits.some) refl
at_rest (in_large_block awaited) keeps = rw (lt-ltb 0 awaited.left keeps.awaits.some) refl
at_rest behind_quit keeps = refl
at_rest without_memory keeps = refl

-- a quit line was met where the framer says so
pub quit_exact : (framer : Progress) (fed : List ℕ) → Keeps framer → StandsFor framer fed → is_quit framer ≡ meets_quit fed
unfolding StandsFor
quit_exact framer fed keeps stands =
    sym (ap meets_quit (sym (append-nil fed)) ∙ ap (λ (o : Outcome). o.quit) (stands []) ∙ ap (λ (o : Outcome). o.quit) (at_rest framer keeps))

-- ---- a whole piece

-- all of a piece was taken
pub record Taken (old new : Progress) (before after : List FrameKind) (piece : List ℕ) : Type 0 where
  pub keeps : Keeps new
  pub given : List FrameKind
  pub appended : after ≡ before ++ given
  pub on : (more : List ℕ) → goes_on old (piece ++ more) ≡ with_frames given (goes_on new more)

pub taken_all : (old new : Progress) (before after : List FrameKind) (piece : List ℕ) (at : ℕ) → length piece ≤ at → Gives old new before after piece at → Taken old new before after piece
taken_all old new before after piece at all g = record {
  keeps = g.keeps;
  given = g.given;
  appended = g.appended;
  on = λ more. g.on more ∙ ap (λ (l : List ℕ). with_frames g.given (goes_on new (l ++ more))) (drop_all at piece all);
}

joined_on : (old : Progress) (fed piece more : List ℕ) → ((rest : List ℕ) → outcome_of (fed ++ rest) ≡ with_frames (frames_of fed) (goes_on old rest))
    → outcome_of ((fed ++ piece) ++ more) ≡ with_frames (frames_of fed) (goes_on old (piece ++ more))
joined_on old fed piece more stands = ap outcome_of (append_assoc fed piece more) ∙ stands (piece ++ more)

-- what the stream with the piece gives, whatever follows
whole : (old new : Progress) (before after : List FrameKind) (fed piece : List ℕ) (t : Taken old new before after piece)
    → ((rest : List ℕ) → outcome_of (fed ++ rest) ≡ with_frames (frames_of fed) (goes_on old rest))
    → (more : List ℕ) → outcome_of ((fed ++ piece) ++ more) ≡ with_frames (frames_of fed ++ t.given) (goes_on new more)
whole old new before after fed piece t stands more =
    joined_on old fed piece more stands ∙ ap (with_frames (frames_of fed)) (t.on more) ∙ with_frames-append (frames_of fed) t.given (goes_on new more)

-- the frames appended are the expected ones
due : (old new : Progress) (before after : List FrameKind) (fed piece : List ℕ) (t : Taken old new before after piece)
    → ((rest : List ℕ) → outcome_of (fed ++ rest) ≡ with_frames (frames_of fed) (goes_on old rest))
    → frames_of (fed ++ piece) ≡ frames_of fed ++ t.given
due old new before after fed piece t stands =
    ap frames_of (sym (append-nil (fed ++ piece))) ∙ ap (λ (o : Outcome). o.frames) (whole old new before after fed piece t stands [])
    ∙ ap (λ (o : Outcome). (frames_of fed ++ t.given) ++ o.frames) (at_rest new t.keeps) ∙ append-nil (frames_of fed ++ t.given)

pub appends : (old new : Progress) (before after : List FrameKind) (fed piece : List ℕ) → Taken old new before after piece → StandsFor old fed → Appends fed piece before after
unfolding StandsFor
appends old new before after fed piece t stands = record { given = t.given; appended = t.appended; due = due old new before after fed piece t stands }

-- the framer is where the stream followed by the piece brings it
pub stands_on : (old new : Progress) (before after : List FrameKind) (fed piece : List ℕ) → Taken old new before after piece → StandsFor old fed → StandsFor new (fed ++ piece)
unfolding StandsFor
stands_on old new before after fed piece t stands more =
    whole old new before after fed piece t stands more
    ∙ ap (λ (l : List FrameKind). with_frames l (goes_on new more)) (sym (due old new before after fed piece t stands))

-- a part of the piece was taken, and then memory was refused
pub appends_first : (old middle : Progress) (before after : List FrameKind) (fed piece : List ℕ) (at : ℕ) → Gives old middle before after piece at → StandsFor old fed → AppendsFirst fed piece before after
unfolding StandsFor
appends_first old middle before after fed piece at g stands = record {
  given = g.given;
  lost = (goes_on middle (drop at piece ++ [])).frames;
  appended = g.appended;
  due = ap frames_of (sym (append-nil (fed ++ piece))) ∙ ap (λ (o : Outcome). o.frames) (joined_on old fed piece [] stands ∙ ap (with_frames (frames_of fed)) (g.on []));
}

-- nothing was taken, and memory had been refused before
pub appends_none : (old : Progress) (frames : List FrameKind) (fed piece : List ℕ) → StandsFor old fed → AppendsFirst fed piece frames frames
unfolding StandsFor
appends_none old frames fed piece stands = record {
  given = [];
  lost = (goes_on old (piece ++ [])).frames;
  appended = sym (append-nil frames);
  due = ap frames_of (sym (append-nil (fed ++ piece))) ∙ ap (λ (o : Outcome). o.frames) (joined_on old fed piece [] stands);
}

taken_behind_quit : (frames : List FrameKind) (piece : List ℕ) → Taken behind_quit behind_quit frames frames piece
unfolding goes_on
taken_behind_quit frames piece = record { keeps = tt; given = []; appended = sym (append-nil frames); on = λ more. refl }

-- after a quit line
pub taken_quit : (framer : Progress) (frames : List FrameKind) (piece : List ℕ) → framer ≡ behind_quit → Taken framer framer frames frames piece
taken_quit framer frames piece is = subst (λ (s : Progress). Taken s s frames frames piece) (sym is) (taken_behind_quit frames piece)

-- ---- a piece that is one request

-- it was taken at the start of a line
single_taken : (framer : Progress) (piece : List ℕ) (frame : FrameKind) → framer ≡ in_line [] → Moves (Line []) (Line []) [] (frame ∷ []) piece (length piece) → Taken framer framer [] (frame ∷ []) piece
single_taken framer piece frame is m =
    let gives : Gives (in_line []) (in_line []) [] (frame ∷ []) piece (length piece) = record { keeps = m.goes.keeps; given = option_to_list m.frame; appended = m.appended; on = m.goes.on } in
    subst (λ (s : Progress). Taken s s [] (frame ∷ []) piece) (sym is) (taken_all (in_line []) (in_line []) [] (frame ∷ []) piece (length piece) (omega arith) gives)

module _ (framer : Progress) (piece : List ℕ) (is : framer ≡ in_line []) where
  pub single_fed : (r : Result FrameKind (List ℕ)) → IfOk r (λ frame. Moves (Line []) (Line []) [] (frame ∷ []) piece (length piece)) → IfOk r (λ _. (fed : List ℕ) → StandsFor framer fed → StandsFor framer (fed ++ piece))
  single_fed (Ok frame) m = λ fed stands. stands_on framer framer [] (frame ∷ []) fed piece (single_taken framer piece frame is m) stands
  single_fed (Err back) m = tt

  pub single_due : (r : Result FrameKind (List ℕ)) → IfOk r (λ frame. Moves (Line []) (Line []) [] (frame ∷ []) piece (length piece))
      → IfOk r (λ frame. (fed : List ℕ) → StandsFor framer fed → frames_of (fed ++ piece) ≡ frames_of fed ++ frame ∷ [])
  single_due (Ok frame) m = λ fed stands.
      let a = appends framer framer [] (frame ∷ []) fed piece (single_taken framer piece frame is m) stands in
      a.due ∙ ap (λ (l : List FrameKind). frames_of fed ++ l) (sym a.appended)
  single_due (Err back) m = tt

-- ---- states

-- any other state
pub not_quit : (state : State) → (state ≡ Quit → ⊥) → false ≡ is_quit (progress_of state)
not_quit (Line kept) other = refl
not_quit Long other = refl
not_quit (Block wanted block) other = refl
not_quit (Large wanted) other = refl
not_quit Quit other = absurd (other refl)
not_quit Refused other = refl

-- a framer that is after a quit line is in that state
pub quit_state : (state : State) → progress_of state ≡ behind_quit → state ≡ Quit
quit_state (Line kept) is = absurd (cc)
quit_state Long is = absurd (cc)
quit_state (Block wanted block) is = absurd (cc)
quit_state (Large wanted) is = absurd (cc)
quit_state Quit is = refl
quit_state Refused is = absurd (cc)

-- so is one that was refused memory
pub refused_state : (state : State) → progress_of state ≡ without_memory → state ≡ Refused
refused_state (Line kept) is = absurd (cc)
refused_state Long is = absurd (cc)
refused_state (Block wanted block) is = absurd (cc)
refused_state (Large wanted) is = absurd (cc)
refused_state Quit is = absurd (cc)
refused_state Refused is = refl
