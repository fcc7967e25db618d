use Rattle.zy_capture.proofs.RepliesTellLemmas.{IsPastIn, known_in, knows, told_magic}
use Rattle.std.proofs.Common.{◌≡◌, ℕ, List}
use Rattle.std.specs.Prelude.{Some}
use Rattle.zy_base.specs.declared.file_fault.FileFault.TheVariants.{Form}
use Rattle.zy_read.specs.Format.{reading_of}
use Rattle.zy_read.proofs.MagicFieldLemmas as Magics
use Rattle.zy_capture.specs.Replies.{letters}
use Rattle.zy_capture.specs.RepliesSteps.{replies_fields}
use Rattle.zy_capture.specs.RepliesVerdict.{version_of}
use Rattle.zy_capture.specs.RepliesLaws.{lawful}
use Rattle.zy_capture.specs.SoFar.{BeginsWithRepliesMagic}
use Rattle.zy_capture.proofs.RepliesSpelledLemmas.{part_state, after_state, reads_magic}
use Rattle.format_laws.proofs.replies.the_version_of_a_replies_file_is_told.Goals as goal

magic_told : (text : List ℕ) (version : ℕ) → BeginsWithRepliesMagic text version → version_of text ≡ Some version
unfolding version_of reading_of
magic_told = Magics.magic_told replies_fields lawful letters part_state after_state Form reads_magic known_in IsPastIn knows

pub returns : goal.returns
returns c = record { version = λ text version. (told_magic text version, magic_told text version) }
