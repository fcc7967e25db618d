-- Each core of a run fits the shared parts.
use Rattle.std.proofs.Common.{◌≡◌, ℕ, List, Some, slice_get}
use Rattle.zy_core.specs.Share.{Sharing}
use Rattle.zy_core.specs.Core.{Identity, Fits}
use Rattle.zy_core.specs.Cores.{EachFits}

pub all_fit : (shared : Sharing) (ids : List Identity) → ((i : ℕ) (d : Identity) → slice_get ids i ≡ Some d → Fits shared d) → EachFits shared ids
unfolding EachFits
all_fit shared ids all = all

pub fits_at : (shared : Sharing) (ids : List Identity) → EachFits shared ids → (i : ℕ) (d : Identity) → slice_get ids i ≡ Some d → Fits shared d
unfolding EachFits
fits_at shared ids all = all
