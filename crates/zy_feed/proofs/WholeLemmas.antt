-- What a feeder has done when it ended or broke.
use Rattle.std.proofs.Common.{◌≡◌, ℕ, List, [], ◌++◌, sym, ◌∙◌, ap, subst}
use Rattle.std.specs.Prelude.{Option, Some, ◌≤◌}
use Rattle.std.specs.Io.KnownBytes.{Consumes}
use Rattle.std.proofs.lemmas.List.{append-nil}
use Rattle.zy_read.specs.declared.stop.Stop.{Stop}
use Rattle.zy_read.specs.Bytes.{AreBytes}
use Rattle.zy_read.proofs.ByteLemmas.{bytes_front}
use Rattle.zy_read.proofs.Feeding.{given_here}
use Rattle.zy_capture.specs.Verdict.{captures, verdict}
use Rattle.zy_capture.specs.Verdict.Verdict.{Good}
use Rattle.zy_capture.proofs.WholeLemmas.{good_spells}
use Rattle.zy_capture.specs.declared.capture_fault.CaptureFault.{CaptureFault}
use Rattle.zy_feed.specs.declared.stage.Stage.{Stage}
use Rattle.zy_capture.specs.declared.record.Record.{Record}
use Rattle.zy_feed.specs.declared.stage.Stage.TheVariants.{Cutting, Waiting, Ending, Ended, Broken}
use Rattle.zy_feed.specs.declared.intake.Header.{Header}
use Rattle.zy_feed.specs.Reads.{Intake, HasReadAll, HasBegun}
use Rattle.zy_feed.specs.Feeding.{Feeding, stop_in, IsReadTo, AreSent, Stands, LeadsTo, HasStoppedFeeding, AreUnsent, HasFedAll}
use Rattle.zy_feed.proofs.ReadLemmas.{told_stays, good_as_told, few_closes}

-- at the start
begun : {S : Type 0} (rest : S → Option (List ℕ)) (faults : S → ℕ) (first : S) (header : Header) (f : Feeding S) (begun : HasBegun rest faults first f.source f.intake header) → AreUnsent f.sents → f.stage ≡ Cutting
    → Stands rest faults first f [] begun.bytes
begun rest faults first header f begins unsent is = record {
  read = subst (λ (s : Stage). IsReadTo rest faults first f.source f.intake s [] begins.bytes) (sym is) begins.reads;
  sent = subst (λ (s : Stage). AreSent f.sents s []) (sym is) (λ core sent there. unsent core sent there);
}

pub fed_all : {S : Type 0} (rest : S → Option (List ℕ)) (faults : S → ℕ) (first : S) (header : Header) (f g : Feeding S) → HasBegun rest faults first f.source f.intake header → AreUnsent f.sents → f.stage ≡ Cutting → g.stage ≡ Ended → LeadsTo rest faults f g
    → HasFedAll rest faults first g.source header g.sents
fed_all rest faults first header f g begins unsent start ended leads =
    let end = leads first [] begins.bytes (begun rest faults first header f begins unsent start) in
    let bytes : List ℕ = begins.bytes ++ end.1.0 in
    let all : HasReadAll rest faults first g.source g.intake end.0 bytes = subst (λ (s : Stage). IsReadTo rest faults first g.source g.intake s end.0 bytes) ended end.1.1.read in
    let small : AreBytes bytes = bytes_front bytes g.intake.left all.reads.given.bytes in
    let good : verdict bytes ≡ Good header.version header.count end.0 = good_as_told end.0 bytes header small all.good (told_stays begins.bytes end.1.0 header (bytes_front begins.bytes end.1.0 small) begins.told) in
    record {
      records = end.0;
      bytes = bytes;
      small = small;
      good = good;
      lawful = (good_spells bytes header.version header.count end.0 small good).valid;
      few = λ conn. few_closes end.0 bytes conn small all.reads.clean (given_here captures g.intake.reader end.0 bytes all.reads.reader);
      source = subst (λ (l : List ℕ). Consumes (rest first) (rest g.source) l) (ap (λ (l : List ℕ). bytes ++ l) all.none ∙ append-nil bytes) all.reads.given.source;
      end = all.end;
      count = all.reads.given.count;
      sent = subst (λ (s : Stage). AreSent g.sents s end.0) ended end.1.1.sent;
    }

-- it broke by this stop
stop_is : (stage : Stage) (stop : Stop CaptureFault) → stop_in stage ≡ Some stop → stage ≡ Broken stop
stop_is (Broken found) stop is = cc
stop_is stage stop is = cc

pub has_cause : {S : Type 0} (rest : S → Option (List ℕ)) (faults : S → ℕ) (first : S) (header : Header) (f g : Feeding S) (stop : Stop CaptureFault) → HasBegun rest faults first f.source f.intake header → AreUnsent f.sents → f.stage ≡ Cutting → stop_in g.stage ≡ Some stop → LeadsTo rest faults f g
    → HasStoppedFeeding rest faults first g.source stop
has_cause rest faults first header f g stop begins unsent start broken leads =
    let end = leads first [] begins.bytes (begun rest faults first header f begins unsent start) in
    subst (λ (s : Stage). IsReadTo rest faults first g.source g.intake s end.0 (begins.bytes ++ end.1.0)) (stop_is g.stage stop broken) end.1.1.read

-- wherever it is
counts_to : {S : Type 0} (rest : S → Option (List ℕ)) (faults : S → ℕ) (first now : S) (intake : Intake) (stage : Stage) (records : List Record) (bytes : List ℕ) → IsReadTo rest faults first now intake stage records bytes
    → faults first ≤ faults now
counts_to rest faults first now intake Cutting records bytes read = read.given.count
counts_to rest faults first now intake (Waiting item) records bytes read = read.given.count
counts_to rest faults first now intake (Ending core) records bytes read = read.reads.given.count
counts_to rest faults first now intake Ended records bytes read = read.reads.given.count
counts_to rest faults first now intake (Broken stop) records bytes read = read.count

pub counts_on : {S : Type 0} (rest : S → Option (List ℕ)) (faults : S → ℕ) (first : S) (header : Header) (f g : Feeding S) → HasBegun rest faults first f.source f.intake header → AreUnsent f.sents → f.stage ≡ Cutting → LeadsTo rest faults f g
    → faults first ≤ faults g.source
counts_on rest faults first header f g begins unsent start leads =
    let end = leads first [] begins.bytes (begun rest faults first header f begins unsent start) in
    counts_to rest faults first g.source g.intake g.stage end.0 (begins.bytes ++ end.1.0) end.1.1.read
