use Rattle.std.proofs.Common.{◌≡◌, ℕ, List}
use Rattle.zy_read.specs.Bytes.{AreBytes}
use Rattle.zy_capture.specs.declared.record.Record.{Record}
use Rattle.zy_capture.specs.Verdict.Verdict.{Good}
use Rattle.zy_capture.specs.Verdict.{verdict}
use Rattle.zy_capture.proofs.SoFarLemmas.{Tells, spells_tells}
use Rattle.zy_capture.proofs.WholeLemmas.{good_spells}
use Rattle.format_laws.proofs.captures.a_good_capture_tells_its_parts.Goals as goal

tells : (text : List ℕ) (version count : ℕ) (items : List Record) → AreBytes text → verdict text ≡ Good version count items → Tells text version count items
tells text version count items all good = spells_tells text version count items (good_spells text version count items all good)

pub returns : goal.returns
returns c = record {
  version = λ text version count items all good. (tells text version count items all good).version_is;
  count = λ text version count items all good. (tells text version count items all good).count_is;
  records = λ text version count items all good. (tells text version count items all good).records_are;
}
