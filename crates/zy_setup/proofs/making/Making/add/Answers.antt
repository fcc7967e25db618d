use Rattle.std.proofs.Common.{sym, ap, ◌∙◌, subst}
use Rattle.zy_core.specs.Core.{Cored, Fits, identity_of}
use Rattle.zy_setup.proofs.MakeLemmas.{fits_new}
use Rattle.zy_setup.proofs.making.Making.add.Goals as goal

pub returns : goal.returns
returns c = record {
  ok = record {
    core = c.new-core.result;
    inlet = c.in-Ok.ends.0;
    cores = c.in_ok-keep.ensures.cores;
    inlets = c.in_ok-keep.ensures.inlets;
    root = c.in_ok-keep.ensures.root ∙ c.in-Ok-seat.ensures.ok;
    home_is = ap (λ (x : Cored). x.home) c.new-core.ensures.value;
    passes_are = ap (λ (x : Cored). x.passes) c.new-core.ensures.value;
    fits = subst (λ (x : Cored). Fits c.args.shared.now (identity_of x)) (sym c.new-core.ensures.value)
        (fits_new c.args.shared.now _ c.args.home c.new.result c.args.passes c.in-Ok.ends.1 c.in-Ok-seat.pass c.requires.home c.requires.passes
        (ap (λ p. p.table) c.in-Ok-seat.ensures.value ∙ ap (λ r. r.table) c.requires.root));
    ring = ap (λ (x : Cored). x.outlet.ring) c.new-core.ensures.value ∙ sym c.in-Ok.ensures.ok;
    fresh = record { unused = c.in-Ok.ensures.inlet; slots = c.in-Ok.ensures.capacity };
  };
}
