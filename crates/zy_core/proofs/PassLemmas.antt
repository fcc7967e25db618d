-- The passes of a core fit the rings of the others.
use Rattle.std.proofs.Common.{◌<◌, slice_get, sym, ap, ◌∙◌, arith}
use Rattle.zy_steal.specs.Order.{other_core}
use Rattle.zy_steal.specs.Steal.{ArePasses, seat_of}
use Rattle.zy_steal.proofs.SeatLemmas.{seats-get}
use Rattle.zy_core.specs.Share.{Sharing}
use Rattle.zy_core.specs.Core.{Cored, AreOfOne, identity_of, Fits}

pub passes_fit : (s : Sharing) (c : Cored) → c.home.core < c.home.cores → AreOfOne c.home c.thief c.passes → Fits s (identity_of c) → ArePasses s.rings c.passes
passes_fit s c lt one fits = record {
  count = one.passes_count ∙ sym fits.cores;
  core = (let a = one.passes_core in let b = fits.cores in omega arith);
  tables = λ at v r e there. fits.others at (seat_of v) r (seats-get c.passes.items at v e) (ap (λ k. slice_get s.rings (other_core k at)) (sym one.passes_core) ∙ there);
}
