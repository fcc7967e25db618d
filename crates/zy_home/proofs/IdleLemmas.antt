-- When nothing is left to be done for a connection.
use Rattle.std.specs.Prelude.{◌||◌, nat_lt}
use Rattle.std.proofs.Common.{◌≡◌, ◌≢◌, ◌+◌, ◌≤◌, List, [], ◌∷◌, ◌++◌, length, false, refl, sym, ap, ◌∙◌, arith, append-nil}
use Rattle.std.proofs.lemmas.Bool.Decides.{nat_tests}
use Rattle.zy_frame.specs.declared.frame_kind.FrameKind.{FrameKind}
use Rattle.zy_conn.specs.Ring.{EventInlet}
use Rattle.zy_conn.specs.Work.{Start, idle, raw, going, Worked, is_begun, has_event}
use Rattle.zy_conn.specs.Block.{Blocked}
use Rattle.zy_home.specs.Link.{Link}
use Rattle.zy_home.specs.Offer.{IsFilled}
use Rattle.zy_home.specs.Idle.{IsIdleWith}
use Rattle.zy_home.specs.Place.{MeetsInlet}

none_known : (frames : List FrameKind) → nat_lt 0 (length frames) ≡ false → frames ≡ []
none_known [] e = refl
none_known (frame ∷ frames) e = absurd (grind (arith, nat_tests))

-- nothing is begun and no frame is known
pub no_event : (begun : Start) (known : List FrameKind) → (is_begun begun || nat_lt 0 (length known)) ≡ false → (begun ≡ idle) × (known ≡ [])
no_event idle known e = (refl, none_known known e)
no_event (raw frame) known e = absurd (cc)
no_event (going command calls replies) known e = absurd (cc)

-- where the ring has room for 64 frames and none is known, none waits
waiting_gone : (taken left : List FrameKind) (a b : EventInlet) → 64 + length taken ≤ length a.sent + a.free → IsFilled a b left → b.sent ≡ taken → left ≡ []
waiting_gone taken [] a b room filled same = refl
waiting_gone taken (x ∷ xs) a b room filled same =
    let some : x ∷ xs ≢ [] = λ e. absurd (cc) in
    let full = filled some (64 + length taken) room in
    let size = ap (λ (l : List FrameKind). length l) same in absurd (omega arith)

-- w is the block's work after the last look, and m the connection then; a and b are the inlet before and after what waited was offered
pub settled_idle : (w : Worked) (m : Link) (a b : EventInlet) (taken : List FrameKind) → has_event w ≡ false → w.batch ≡ [] → w.taken ≡ taken → m.output.finished ≡ w.finished
    → m.inlet.sent ≡ w.taken ++ w.known → b.sent ≡ m.inlet.sent → 64 + length taken ≤ length a.sent + a.free → IsFilled a b m.waiting → IsIdleWith w m
settled_idle w m a b taken none batch same finished all sent room filled =
    let is = no_event w.begun w.known none in
    let is_taken : m.inlet.sent ≡ w.taken = all ∙ ap (λ l. w.taken ++ l) is.1 ∙ append-nil w.taken in record {
      begun = is.0;
      known = is.1;
      batch = batch;
      taken = sym is_taken;
      waiting = waiting_gone taken m.waiting a b room filled (sent ∙ is_taken ∙ same);
      finished = finished;
    }

-- ---- what is settled

-- a block whose batch was taken, and which then met its inlet twice
pub met_twice : (a b c d : Blocked) → b ≡ record a { work = record a.work { shown = a.work.finished; batch = [] } } → c ≡ record b { work = record b.work { known = c.work.known } }
    → d ≡ record c { work = record c.work { known = d.work.known } } → MeetsInlet a d
met_twice a b c d taken met again =
    again ∙ ap (λ (z : Blocked). record z { work = record z.work { known = d.work.known } }) (met ∙ ap (λ (z : Blocked). record z { work = record z.work { known = c.work.known } }) taken)
