-- The version and the outputs that are read of a good replies file, and of a text without a fault so far.
use Rattle.std.proofs.Common.{◌≡◌, ◌≢◌, ℕ, Bool, true, false, List, [], ◌∙◌, ap, subst}
use Rattle.std.specs.Prelude.{Option, None, Some, if◌then◌else◌}
use Rattle.std.specs.List.{concat}
use Rattle.zy_base.specs.declared.file_fault.FileFault.{FileFault}
use Rattle.zy_base.specs.declared.file_fault.FileFault.TheVariants.{Truncated}
use Rattle.zy_read.specs.Bytes.{AreBytes}
use Rattle.zy_read.specs.Format.{Reading, reading_of, verdict_on, fault_met, given_by}
use Rattle.zy_read.specs.Fields.{at_state, ended_by}
use Rattle.zy_read.proofs.MagicLemmas.{IsVersion}
use Rattle.zy_read.proofs.OutcomeLemmas.{IsRead, text_read}
use Rattle.zy_read.specs.Magic.{version_in}
use Rattle.zy_read.proofs.MagicFieldLemmas.{known_version}
use Rattle.zy_capture.specs.declared.session_bytes.SessionBytes.{SessionBytes}
use Rattle.zy_capture.specs.declared.replies_due.RepliesDue.{RepliesDue}
use Rattle.zy_capture.specs.declared.replies_due.RepliesDue.TheVariants.{Magic, Tag, Connection, Session, Length, Output, Nothing}
use Rattle.zy_capture.specs.declared.replies_state.RepliesState.{RepliesState}
use Rattle.zy_capture.specs.RepliesSteps.{RepliesPlace, start, is_last, replies_fields}
use Rattle.zy_capture.specs.RepliesVerdict.{good, verdict, read_from, version_of, outputs_of, fault_of}
use Rattle.zy_capture.specs.RepliesVerdict.Verdict.{Good, Bad}
use Rattle.zy_capture.specs.RepliesLaws.{lawful}
use Rattle.zy_capture.specs.SoFar.{IsRepliesSoFar}
use Rattle.zy_capture.proofs.RepliesWholeLemmas.{IsReadTo, AreSoFar, reached}

-- the version and the outputs of a replies file are read
pub record Tells (text : List ℕ) (version : ℕ) (items : List SessionBytes) : Type 0 where
  pub version_is : version_of text ≡ Some version
  pub outputs_are : outputs_of text ≡ items

-- what is good is good with what was read
end_good : (is_end : Bool) (p : RepliesPlace) (given : List SessionBytes) (version : ℕ) (items : List SessionBytes) → (if is_end then Good p.state.version given else Bad (Truncated p.at)) ≡ Good version items → (p.state.version ≡ version) × (given ≡ items)
end_good true p given version items is = (cc, cc)
end_good false p given version items is = cc

ends_good : (fault : Option FileFault) (p : RepliesPlace) (given : List SessionBytes) (version : ℕ) (items : List SessionBytes) → ended_by fault replies_fields good Bad p given ≡ Good version items → (p.state.version ≡ version) × (given ≡ items)
ends_good None p given version items is = end_good (is_last p.state.due) p given version items is
ends_good (Some fault) p given version items is = cc

pub good_tells : (text : List ℕ) (version : ℕ) (items : List SessionBytes) → IsVersion version → verdict text ≡ Good version items → Tells text version items
unfolding verdict_on version_of given_by reading_of
good_tells text version items known is =
    let r : Reading RepliesPlace SessionBytes = read_from (at_state start 0) text in
    let told = ends_good r.last.fault r.last r.given version items is in
    record { version_is = ap (λ (v : ℕ). version_in v) told.0 ∙ known_version version known; outputs_are = told.1 }

-- where records were given, they are those of a file with the version of the state
so_far : (due : RepliesDue) (s : RepliesState) (text : List ℕ) (given : List SessionBytes) → given ≢ [] → IsReadTo due s text given → AreSoFar s given
so_far (Magic part) s text given some read = absurd (some read.valid.0.none)
so_far Tag s text given some read = read.valid
so_far Connection s text given some read = read.valid
so_far (Session conn) s text given some read = read.valid.0
so_far (Length conn number) s text given some read = read.valid.0
so_far (Output conn number others) s text given some read = read.valid.0
so_far Nothing s text given some read = read.valid

-- the outputs of a text without a fault so far are those of a replies file
pub outputs_so_far : (text : List ℕ) → AreBytes text → fault_of text ≡ None → outputs_of text ≢ [] → IsRepliesSoFar text
unfolding fault_met version_of given_by reading_of
outputs_so_far text all none some =
    let r : Reading RepliesPlace SessionBytes = read_from (at_state start 0) text in
    let read = subst (λ (o : Option FileFault). IsRead replies_fields o r.last r.given text) none (text_read replies_fields lawful text) in
    let keeps : AreSoFar r.last.state r.given = so_far r.last.state.due r.last.state (concat read.begins.parts) r.given some (reached text r.last.state r.given r.last.seen read.begins all) in
    record {
      version = r.last.state.version;
      version_is = known_version r.last.state.version keeps.known;
      lawful = record { known = keeps.known; ordered = keeps.ordered };
    }
