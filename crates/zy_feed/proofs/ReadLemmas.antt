-- What is read of a capture, piece after piece.
use Rattle.std.proofs.Common.{◌≡◌, inl, inr, ℕ, ◌^◌, ◌<◌, ◌≤◌, List, [], ◌∷◌, ◌++◌, length, refl, sym, ◌∙◌, ap, subst, arith, length-append}
use Rattle.std.specs.Prelude.{Option, None, Some, Ok, option_to_list}
use Rattle.std.specs.Io.KnownBytes.{Consumes}
use Rattle.zy_read.specs.Format.{Reading, reading_of, read_on, fault_met}
use Rattle.zy_read.specs.Standing.{StandsAs}
use Rattle.zy_read.specs.Bytes.{AreBytes}
use Rattle.zy_read.proofs.Feeding.{read_more, verdict_here}
use Rattle.zy_read.proofs.ByteLemmas.{bytes_front}
use Rattle.zy_read.proofs.SourceLemmas.{consumed_none}
use Rattle.zy_capture.specs.declared.record.Record.{Record}
use Rattle.zy_capture.specs.declared.capture_fault.CaptureFault.{CaptureFault}
use Rattle.zy_capture.specs.declared.due.Due.TheVariants.{Nothing}
use Rattle.zy_capture.specs.Capture.{capture_limit}
use Rattle.zy_read.specs.Fields.{step}
use Rattle.zy_capture.specs.Steps.{CaptureProgress, fields}
use Rattle.zy_capture.specs.Verdict.{captures, is_good, verdict, fault_of, count_of, records_of}
use Rattle.zy_capture.specs.Verdict.Verdict.{Good}
use Rattle.zy_capture.specs.Standing.{StandsForRecords, EndsAs}
use Rattle.zy_capture.proofs.Feeding.{count_here, good_ended}
use Rattle.zy_read.specs.declared.stop.Stop.{Stop}
use Rattle.zy_feed.specs.declared.intake.Header.{Header}
use Rattle.zy_feed.specs.Reads.{Intake, IsUnread, HasRead, HasReadAll, StopsIntakeBy, TakesFirst, TellsHeader, TellsNoHeader}
use Rattle.zy_capture.specs.Streams.{closes}
use Rattle.zy_capture.proofs.SoFarLemmas.{spells_tells, records_so_far}
use Rattle.zy_capture.proofs.TellLemmas.{IsPastCount, past_count, version_stays, count_stays, version_read}
use Rattle.zy_capture.proofs.WholeLemmas.{clean_short, good_spells}
use Rattle.zy_feed.proofs.StepLemmas.{step_gave}

-- ---- no capture has more bytes than the limit

pub has_few : {S : Type 0} (rest : S → Option (List ℕ)) (faults : S → ℕ) (first now : S) (p : Intake) (records : List Record) (bytes : List ℕ) → HasRead rest faults first now p records bytes → length bytes ≤ capture_limit
has_few rest faults first now p records bytes has = clean_short bytes has.clean

-- so after this many bytes no stop needs a cause
pub too_long : {S : Type 0} (rest : S → Option (List ℕ)) (faults : S → ℕ) (first now : S) (p : Intake) (records : List Record) (bytes more : List ℕ) (n : ℕ) (stop : Stop CaptureFault) → 18446744073709551615 ≤ n → n ≤ length more → HasRead rest faults first now p records (bytes ++ more) → StopsIntakeBy rest faults first now stop
too_long rest faults first now p records bytes more n stop over within has = absurd (omega (arith, over, within, length-append bytes more, has_few rest faults first now p records (bytes ++ more) has))

-- ---- version and count

-- after the count, version and count are read
not_early : (p : CaptureProgress) (given : List Record) (b : List ℕ) → AreBytes b → StandsForRecords p given b → IsPastCount p.state.due → TellsNoHeader b → ⊥
not_early p given b small stands past none = go none
  where
    told : count_of b ≡ Some p.state.count
    told = count_here p given b stands ∙ past_count p.state.due p.state.count past

    go : TellsNoHeader b → ⊥
    go (inl none) = let read = version_read b p.state.count small told in cc
    go (inr none) = let read : count_of b ≡ Some p.state.count = told in cc

-- the first record ends after the count
record_late : (p q : CaptureProgress) (b more : List ℕ) (r : Record) → StandsForRecords p [] b → StandsForRecords q (r ∷ []) (b ++ more) → length more ≤ 1 → IsPastCount p.state.due
unfolding StandsAs read_on
record_late p q b [] r first second few =
    let given : [] ≡ r ∷ [] = ap (λ (x : Reading CaptureProgress Record). x.given) (sym (read_more captures p [] b [] first) ∙ second) in cc
record_late p q b (byte ∷ []) r first second few =
    let given : option_to_list (step fields p byte).gave ++ [] ≡ r ∷ [] = ap (λ (x : Reading CaptureProgress Record). x.given) (sym (read_more captures p [] b (byte ∷ []) first) ∙ second) in
    go (step fields p byte).gave refl given
  where
    go : (gave : Option Record) → (step fields p byte).gave ≡ gave → option_to_list gave ++ [] ≡ r ∷ [] → IsPastCount p.state.due
    go None is given = cc
    go (Some s) is given = step_gave p byte s is
record_late p q b (byte ∷ next ∷ more) r first second few = absurd (omega (arith, few))

pub record_absurd : {S : Type 0} (rest : S → Option (List ℕ)) (faults : S → ℕ) (first now : S) (p q : Intake) (bytes : List ℕ) (r : Record) → HasRead rest faults first now p [] bytes → TellsNoHeader bytes → TakesFirst 1 p q (Ok (Some r)) → ⊥
record_absurd rest faults first now p q bytes r has none takes =
    not_early p.reader [] bytes (bytes_front bytes p.left has.given.bytes) has.reader (record_late p.reader q.reader bytes takes.fed r has.reader (takes.feeds [] bytes has.reader) takes.few) none

whole_due : (p : CaptureProgress) (given : List Record) (b : List ℕ) → StandsForRecords p given b → EndsAs given (Ok tt) (verdict b) → p.state.due ≡ Nothing
whole_due p given b stands good =
    let ends : captures.ended p given ≡ Good good.0 good.1 given = sym (verdict_here captures p given b stands) ∙ good.2 in
    (good_ended p given (ap is_good ends)).due

pub end_absurd : {S : Type 0} (rest : S → Option (List ℕ)) (faults : S → ℕ) (first now : S) (q : Intake) (bytes : List ℕ) → TellsNoHeader bytes → HasReadAll rest faults first now q [] bytes → ⊥
end_absurd rest faults first now q bytes none all =
    not_early q.reader [] bytes (bytes_front bytes q.left all.reads.given.bytes) all.reads.reader (subst IsPastCount (sym (whole_due q.reader [] bytes all.reads.reader all.good)) tt) none

-- what was read stays
pub told_stays : (text more : List ℕ) (header : Header) → AreBytes text → TellsHeader text header → TellsHeader (text ++ more) header
told_stays text more header small told = (version_stays text more header.version told.0, count_stays text more header.count small told.1)

some_same : {a b : ℕ} → Some a ≡ Some b → a ≡ b
some_same is = cc

some_records : (first : Record) (records : List Record) → first ∷ records ≡ [] → ⊥
some_records first records is = cc

-- a capture has the version and the count that were read
pub good_as_told : (records : List Record) (text : List ℕ) (header : Header) → AreBytes text → EndsAs records (Ok tt) (verdict text) → TellsHeader text header → verdict text ≡ Good header.version header.count records
good_as_told records text header small good told =
    let spells = good_spells text good.0 good.1 records small good.2 in
    let tells = spells_tells text good.0 good.1 records spells in
    let version : good.0 ≡ header.version = some_same (sym tells.version_is ∙ told.0) in
    let count : good.1 ≡ header.count = some_same (sym tells.count_is ∙ told.1) in
    good.2 ∙ ap (λ (v : ℕ). Good v good.1 records) version ∙ ap (λ (n : ℕ). Good header.version n records) count

-- few of its records are closes
pub few_closes : (records : List Record) (text : List ℕ) (conn : ℕ) → AreBytes text → fault_of text ≡ None → records_of text ≡ records → closes conn records < 2 ^ 31
few_closes [] text conn small clean is = omega arith
few_closes (first ∷ records) text conn small clean is =
    subst (λ (l : List Record). closes conn l < 2 ^ 31) is ((records_so_far text small clean (λ none. some_records first records (sym is ∙ none))).few conn)

-- ---- before the first byte

pub fresh_read : {S : Type 0} (rest : S → Option (List ℕ)) (faults : S → ℕ) (first : S) (p : Intake) → IsUnread p → HasRead rest faults first first p [] []
unfolding fault_met reading_of read_on
fresh_read rest faults first p fresh = record {
  reader = fresh.0;
  clean = refl;
  given = record {
    source = subst (λ (l : List ℕ). Consumes (rest first) (rest first) l) (sym fresh.1) (consumed_none (rest first));
    bytes = subst AreBytes (sym fresh.1) tt;
    count = omega arith;
  };
}
