-- What is found by a check.
use Rattle.std.specs.Prelude.{ℕ, List}
use Rattle.zy_capture.specs.Outputs.{AllOutputs, AreOutputs}
use Rattle.zy_journal.specs.declared.journal.Journal.{Journal}
use Rattle.zy_input.specs.Parts.{IsMadeOfParts}
use Rattle.zy_check.specs.declared.verdict.Verdict.{Verdict as Certified}
use Rattle.zy_check.specs.Given.{all_given}
use Rattle.zy_check.specs.Cause.{HasVerdict}

-- the bytes are a capture, a journal and a replies file, one after the other, and this is the verdict on them
pub record IsChecked (shards : ℕ) (bytes : List ℕ) (verdict : Certified) : Type 0 where
  pub streams : List (List (List ℕ))
  pub journal : Journal
  pub outputs : AllOutputs
  pub parts : IsMadeOfParts bytes streams journal outputs
  pub lawful : AreOutputs outputs
  pub verdict_is : HasVerdict (all_given shards streams journal outputs) verdict
