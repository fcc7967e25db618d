use Rattle.format_laws.proofs.PieceLemmas.{same_given, same_state}
use Rattle.zy_capture.specs.Verdict.{captures}
use Rattle.format_laws.proofs.captures.what_is_given_depends_on_the_bytes_alone.Goals as goal

pub returns : goal.returns
returns c = record { given = same_given captures; state = same_state captures }
