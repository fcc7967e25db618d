-- What a reader of captures knows of the bytes that it was fed.
use Rattle.std.proofs.Common.{◌≡◌, ℕ, true, List, refl, sym, ◌∙◌, ap}
use Rattle.std.specs.Prelude.{if◌then◌else◌, Option, None, Some}
use Rattle.zy_read.specs.Format.{Reading}
use Rattle.zy_read.specs.Standing.{StandsAs}
use Rattle.zy_read.specs.Fields.{ended_by}
use Rattle.zy_read.specs.Magic.{version_in}
use Rattle.zy_capture.specs.declared.record.Record.{Record}
use Rattle.zy_capture.specs.declared.capture_fault.CaptureFault.{CaptureFault}
use Rattle.zy_capture.specs.declared.capture_fault.CaptureFault.TheVariants.{Truncated}
use Rattle.zy_capture.specs.declared.due.Due.{Due}
use Rattle.zy_capture.specs.declared.due.Due.TheVariants.{Nothing}
use Rattle.zy_capture.specs.Steps.{CaptureProgress, is_nothing, fields}
use Rattle.zy_capture.specs.Verdict.{version_of, count_of, count_in, is_within_by, is_within_record, captures, good, is_good}
use Rattle.zy_capture.specs.Verdict.Verdict.{Good, Bad}
use Rattle.zy_capture.specs.Standing.{StandsForRecords}

pub version_here : (p : CaptureProgress) (given : List Record) (b : List ℕ) → StandsForRecords p given b → version_of b ≡ version_in p.state.version
unfolding version_of StandsAs
version_here p given b stands = ap (λ (r : Reading CaptureProgress Record). version_in r.last.state.version) stands

pub count_here : (p : CaptureProgress) (given : List Record) (b : List ℕ) → StandsForRecords p given b → count_of b ≡ count_in p.state.due p.state.count
unfolding count_of StandsAs
count_here p given b stands = ap (λ (r : Reading CaptureProgress Record). count_in r.last.state.due r.last.state.count) stands

pub within_here : (p : CaptureProgress) (given : List Record) (b : List ℕ) → StandsForRecords p given b → is_within_record b ≡ is_within_by p.fault p.state.due
unfolding is_within_record StandsAs
within_here p given b stands = ap (λ (r : Reading CaptureProgress Record). is_within_by r.last.fault r.last.state.due) stands

-- ---- where a text is a capture

-- the end was read, and no fault was met
pub record IsEnded (p : CaptureProgress) : Type 0 where
  pub none : p.fault ≡ None
  pub due : p.state.due ≡ Nothing

end_due : (due : Due) (p : CaptureProgress) (given : List Record) → is_good (if is_nothing due then good p.state given else Bad (Truncated p.at)) ≡ true → due ≡ Nothing
end_due Nothing p given is = refl
end_due due p given is = cc

ended_at : (fault : Option CaptureFault) (p : CaptureProgress) (given : List Record) → p.fault ≡ fault → is_good (ended_by fault fields good Bad p given) ≡ true → IsEnded p
ended_at None p given none is = record { none = none; due = end_due p.state.due p given is }
ended_at (Some fault) p given met is = cc

pub good_ended : (p : CaptureProgress) (given : List Record) → is_good (captures.ended p given) ≡ true → IsEnded p
good_ended p given is = ended_at p.fault p given refl is

-- its count was read
pub good_count : (p : CaptureProgress) (given items : List Record) (version count : ℕ) → captures.ended p given ≡ Good version count items → count_in p.state.due p.state.count ≡ Some count
good_count p given items version count is =
    let ended : IsEnded p = good_ended p given (rw is refl) in
    let none : p.fault ≡ None = ended.none in
    let due : p.state.due ≡ Nothing = ended.due in
    let here : captures.ended p given ≡ Good p.state.version p.state.count given = rw (none, due) refl in
    let same : p.state.count ≡ count = (let both = sym here ∙ is in cc) in
    rw due (ap (λ (n : ℕ). Some n) same)
