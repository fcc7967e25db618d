use Rattle.std.proofs.Common.{ℕ, List, length, sym, ap, ◌∙◌, subst}
use Rattle.std.proofs.lemmas.List.{length-map}
use Rattle.std.specs.List.{AllByRecursion}
use Rattle.mc_store.specs.Pass.{Stored}
use Rattle.mc_store.specs.Root.{IsRootOf}
use Rattle.zy_home.specs.Home.{Homed}
use Rattle.zy_core.specs.Core.{Cored}
use Rattle.zy_finish.specs.Finish.{HaveReceived, IsResultOfRun, IsHoldBy}
use Rattle.zy_finish.specs.Over.{AreOver}
use Rattle.zy_finish.proofs.TakeLemmas.{over_of, all_received}
use Rattle.zy_finish.proofs.finishing.finish.Goals as goal

pub finish_homes-requires-clause-homes : goal.finish_homes-requires-clause-homes
finish_homes-requires-clause-homes c =
    subst (λ (s : Stored). AreOver s.id c.args.header.count c.take_homes-homes.result.items) (sym c.into_parts-store.ensures.value.1)
    (subst (AreOver c.args.running.shared.store.id c.args.header.count) (sym c.take_homes-homes.ensures.homes)
    (over_of c.args.header.count c.args.running c.requires.few c.requires.run c.requires.settled))

pub finish_homes-requires-clause-root : goal.finish_homes-requires-clause-root
finish_homes-requires-clause-root c =
    subst (λ (s : Stored). IsRootOf s.id c.args.header.count c.args.running.root) (sym c.into_parts-store.ensures.value.1) c.requires.run.root

pub returns : goal.returns
returns c =
    let homes = c.take_homes-homes.ensures.homes in
    record {
      finished = λ records lawful sent.
          subst (λ (s : Stored). IsResultOfRun s.shards c.args.header.version c.args.header.count records c.in_ok-finished.finished) c.into_parts-store.ensures.value.1
          (c.in_ok-finished.ensures.finished records lawful (subst (λ (l : List Homed). HaveReceived l records) (sym homes)
          (all_received c.args.running.shared c.args.running.cores c.args.running.inlets.items c.requires.run.cores c.requires.run.rings c.take_homes-homes.ensures.shown c.requires.settled records sent)));
      held = subst (λ (n : ℕ). AllByRecursion (IsHoldBy n) c.in_ok-finished.finished.journal.holds) (ap length homes ∙ length-map c.args.running.cores (λ (x : Cored). x.home)) c.in_ok-finished.ensures.held;
    }
