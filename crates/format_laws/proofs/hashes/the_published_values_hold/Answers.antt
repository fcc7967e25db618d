use Rattle.std.proofs.Common.{refl}
use Rattle.zy_rss.specs.Toeplitz.{hash_of_first, window}
use Rattle.format_laws.proofs.hashes.the_published_values_hold.Goals as goal

pub returns : goal.returns
unfolding hash_of_first window
returns c = record { first = refl; second = refl; third = refl; fourth = refl; fifth = refl }
