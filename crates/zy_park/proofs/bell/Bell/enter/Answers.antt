use Rattle.zy_park.proofs.TokenLemmas.{enters}
use Rattle.zy_park.proofs.bell.Bell.enter.Goals as goal

pub pass-requires : goal.pass-requires
pass-requires c = enters
