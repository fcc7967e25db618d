-- The search for the first session whose output is not the expected one. No public clause cites
-- this module.
use Rattle.std.specs.Prelude.{◌≡◌, ℕ, ◌<◌, Option, None, Some}
use Rattle.zy_check.specs.declared.compared.Differing.{Differing}
use Rattle.zy_check.specs.declared.verdict.Cause.{Cause}
use Rattle.zy_check.specs.declared.verdict.Verdict.TheVariants.{No}
use Rattle.zy_check.specs.Given.{Given, found_output, due_output, IsOutput}
use Rattle.zy_check.specs.Cause.{agreeing_in, HasVerdict}

-- this is the first session of a connection whose output is not the expected one
pub record IsDiffering (g : Given) (conn session at : ℕ) : Type 0 where
  pub first : (s : ℕ) → s < session → IsOutput g conn s
  pub wrong : IsOutput g conn session → ⊥
  pub agrees : agreeing_in (found_output g conn session) (due_output g conn session) ≡ at

-- each output of a connection is the expected one, or this is the first that is not
abbrev pub FoundDiffering : Given → ℕ → Option Differing → Type 0
FoundDiffering g conn None = (session : ℕ) → IsOutput g conn session
FoundDiffering g conn (Some d) = IsDiffering g conn d.session d.at

-- each output is the expected one, or this is the first cause
abbrev pub FoundOutput : Given → Option Cause → Type 0
FoundOutput g None = (conn session : ℕ) → IsOutput g conn session
FoundOutput g (Some cause) = HasVerdict g (No cause)
