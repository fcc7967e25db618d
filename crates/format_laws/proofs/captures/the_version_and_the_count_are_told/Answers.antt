use Rattle.std.proofs.Common.{◌≡◌, ℕ, List}
use Rattle.std.specs.Prelude.{Some}
use Rattle.zy_read.specs.Format.{reading_of}
use Rattle.zy_read.proofs.MagicFieldLemmas as Magics
use Rattle.zy_capture.specs.declared.capture_fault.CaptureFault.TheVariants.{BadMagic}
use Rattle.zy_capture.specs.Capture.{letters}
use Rattle.zy_capture.specs.Steps.{fields}
use Rattle.zy_capture.specs.SoFar.{BeginsWithMagic}
use Rattle.zy_capture.specs.Verdict.{version_of}
use Rattle.zy_capture.proofs.PartLemmas.{part_state, after_state, reads_magic}
use Rattle.zy_capture.proofs.TellLemmas.{IsPastIn, known_in, knows, magic_told, count_told, told_count}
use Rattle.zy_capture.proofs.WholeLemmas.{lawful}
use Rattle.format_laws.proofs.captures.the_version_and_the_count_are_told.Goals as goal

told_magic : (text : List ℕ) (version : ℕ) → version_of text ≡ Some version → BeginsWithMagic text version
unfolding version_of reading_of
told_magic = Magics.told_magic fields lawful letters part_state after_state BadMagic reads_magic known_in IsPastIn knows

pub returns : goal.returns
returns c = record {
  version = λ text version. (told_magic text version, magic_told text version);
  count = count_told;
  exactly = λ text count all. (told_count text count all, count_told text count);
}
