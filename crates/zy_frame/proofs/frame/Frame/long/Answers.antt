use Rattle.zy_frame.proofs.GoingOn.{is_long_frame}
use Rattle.zy_frame.proofs.frame.Frame.long.Goals as goal

pub invariant_of-result : goal.invariant_of-result
invariant_of-result c = (is_long_frame, tt, tt)
