use Rattle.format_laws.proofs.PieceLemmas.{pieces_fed}
use Rattle.zy_capture.specs.Verdict.{captures}
use Rattle.format_laws.proofs.captures.how_a_capture_is_cut_does_not_matter.Goals as goal

pub returns : goal.returns
returns c = record { whole = pieces_fed captures }
