use Rattle.std.proofs.Common.{length, ap, ◌∙◌}
use Rattle.mc_store.specs.Pass.{Rooted, Stored}
use Rattle.zy_core.specs.Cores.{identities}
use Rattle.zy_core.proofs.RunningLemmas.{inlet_count, inlets_by_number}
use Rattle.zy_setup.proofs.MadeLemmas.{ready_of}
use Rattle.zy_setup.proofs.RunLemmas.{new_cores, new_run}
use Rattle.zy_setup.proofs.running.make_run.Goals as goal

pub make_cores-requires : goal.make_cores-requires
make_cores-requires c =
    record { ready = ready_of c.in_ok-store.store c.args.cores c.args.count c.in-Ok.parts c.in-Ok.ensures.made c.in-Ok.ensures.all c.requires.some_cores c.requires.few_cores }

pub returns : goal.returns
returns c =
    let made = c.in-Ok.ensures.made in
    let ready = ready_of c.in_ok-store.store c.args.cores c.args.count c.in-Ok.parts made c.in-Ok.ensures.all c.requires.some_cores c.requires.few_cores in
    let is = c.in_ok-made.ensures in
    let count = ap length is.shared.0 ∙ made.same ∙ c.in-Ok.ensures.all in
    let run = new_run c.args.count c.in-Ok.parts c.in_ok-store.store c.in_ok-made.made ready made.counts is.homes is.passes is.shared.0 is.shared.1 is.cores is.inlets c.parts_of.new.root
    (record {
      table_is = c.in-Ok.ensures.table ∙ ap (λ (r : Rooted). r.table) c.in_ok-store.ensures.root;
      given = c.in-Ok.ensures.given;
      none = c.in-Ok.ensures.joined ∙ ap (λ (r : Rooted). r.joined) c.in_ok-store.ensures.root;
    }) is.root in
    record {
      run = run;
      inlets = inlets_by_number c.in_ok-made.made.shared (identities c.in_ok-made.made.cores) c.in_ok-made.made.inlets.items is.cores is.inlets;
      count = count;
      ends = inlet_count c.in_ok-made.made.shared (identities c.in_ok-made.made.cores) c.in_ok-made.made.inlets.items is.cores is.inlets ∙ count;
      shards = ap (λ (s : Stored). s.shards) is.shared.1 ∙ c.in_ok-store.ensures.shards;
      new = new_cores c.args.count c.in-Ok.parts c.in_ok-store.store c.in_ok-made.made ready made.counts is.homes is.passes is.shared.0 is.shared.1;
      fresh = is.fresh;
    }
