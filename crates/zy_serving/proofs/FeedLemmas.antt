-- A feeder that was made from an intake that has begun, and from inlets to which nothing was sent.
use Rattle.std.proofs.Common.{◌≡◌, ◌⊎◌, inl, inr, ℕ, ◌≤◌, List, sym, ap, ◌∙◌, subst}
use Rattle.std.specs.Prelude.{Option, Some}
use Rattle.zy_rx.specs.Ring.{Offering}
use Rattle.zy_rx.specs.Feed.{sent_by}
use Rattle.zy_read.specs.declared.stop.Stop.{Stop}
use Rattle.zy_read.specs.declared.stop.Stop.TheVariants.{NoMemory}
use Rattle.zy_capture.specs.declared.capture_fault.CaptureFault.{CaptureFault}
use Rattle.zy_feed.specs.declared.stage.Stage.{Stage}
use Rattle.zy_feed.specs.declared.stage.Stage.TheVariants.{Cutting, Ended}
use Rattle.zy_feed.specs.declared.intake.Header.{Header}
use Rattle.zy_feed.specs.Reads.{Intake, HasBegun, StopsIntakeBy}
use Rattle.zy_feed.specs.Feeding.{feeding, stop_in, AreUnsent, HasFedAll, LeadsTo}
use Rattle.zy_core.proofs.ListLemmas.{map_get}
use Rattle.zy_setup.specs.New.{AreUnusedRings}
use Rattle.zy_feed.proofs.WholeLemmas.{fed_all, has_cause, counts_on}

-- nothing was sent to new rings
pub none_sent : (inlets : List Offering) → AreUnusedRings inlets → AreUnsent (sent_by inlets)
none_sent inlets fresh i sent at =
    let o = map_get (λ (x : Offering). x.sent) inlets i sent at in sym o.2 ∙ ap (λ (x : Offering). x.sent) (fresh i o.0 o.1).unused

-- what it was made of, and what it is later
module _ {S : Type 0} (rest : S → Option (List ℕ)) (faults : S → ℕ) (first : S) (header : Header) (given now later : S) (intake made further : Intake) (inlets ends after : List Offering) (stage stage' : Stage) (begins : HasBegun rest faults first given intake header) (unsent : AreUnsent (sent_by inlets)) (same : now ≡ given) (is : made ≡ intake) (are : ends ≡ inlets) (cutting : stage ≡ Cutting) (leads : LeadsTo rest faults (feeding now made ends stage) (feeding later further after stage')) where
  begun : HasBegun rest faults first now made header
  begun = subst (λ (s : S). HasBegun rest faults first s made header) (sym same) (subst (λ (i : Intake). HasBegun rest faults first given i header) (sym is) begins)

  none : AreUnsent (sent_by ends)
  none = subst (λ (l : List Offering). AreUnsent (sent_by l)) (sym are) unsent

  pub fed : stage' ≡ Ended → HasFedAll rest faults first later header (sent_by after)
  fed ended = fed_all rest faults first header (feeding now made ends stage) (feeding later further after stage') begun none cutting ended leads

  stopped : (stop : Stop CaptureFault) → stop_in stage' ≡ Some stop → StopsIntakeBy rest faults first later stop
  stopped stop broken = (has_cause rest faults first header (feeding now made ends stage) (feeding later further after stage') stop begun none cutting broken leads).cause

  -- the cause in its stage, or that memory was refused
  pub stopped_for : (found : Option (Stop CaptureFault)) (stop : Stop CaptureFault) → found ≡ stop_in stage' → (found ≡ Some stop) ⊎ (stop ≡ NoMemory) → StopsIntakeBy rest faults first later stop
  stopped_for found stop is (inl at) = stopped stop (sym is ∙ at)
  stopped_for found stop is (inr none) = subst (StopsIntakeBy rest faults first later) (sym none) tt

  pub counted : faults first ≤ faults later
  counted = counts_on rest faults first header (feeding now made ends stage) (feeding later further after stage') begun none cutting leads
