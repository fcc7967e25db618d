-- A verdict and, for a run, which of its commands are answered.
use Rattle.zy_check.specs.declared.answered.Checked.{Checked}
use Rattle.zy_check.specs.declared.answered.Checked.TheVariants as Found
use Rattle.zy_check.specs.declared.verdict.Verdict.TheVariants.{Yes, No}
use Rattle.zy_check.specs.Given.{Given}
use Rattle.zy_check.specs.Cause.{HasVerdict}
use Rattle.zy_check.specs.Answered.{AreAnswered}

-- what is given has this verdict, and if that is yes, these commands are answered
abbrev pub IsCheckedAs : Given → Checked → Type 0
IsCheckedAs g (Found.Yes answered) = HasVerdict g Yes × AreAnswered g answered
IsCheckedAs g (Found.No cause) = HasVerdict g (No cause)
