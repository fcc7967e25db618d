use Rattle.std.proofs.Common.{◌≡◌, ◌++◌, ◌∷◌, [], ℕ, List, length, sym, ap, ◌∙◌, subst, drop, refl, arith, rules}
use Rattle.std.specs.Vec.{with_items}
use Rattle.std.proofs.lemmas.List.{take_at}
use Rattle.zy_shuffle.specs.Pass.{Held, newly_given}
use Rattle.zy_steal.specs.Steal.{PassList}
use Rattle.zy_conn.specs.Block.{Blocked, label_of}
use Rattle.zy_setup.specs.New.{IsNewHome}
use Rattle.zy_setup.specs.Make.{GivesPass}
use Rattle.zy_setup.proofs.OwnLemmas.{places_few}
use Rattle.zy_setup.proofs.MadeLemmas.{made_next, new_home}
use Rattle.zy_setup.proofs.core_parts.CoreParts.add.Goals as goal

pub ring_of-requires : goal.ring_of-requires
ring_of-requires c =
    let few = places_few c.args.store.now.id (length c.args.self.now.homes.items) c.args.cores c.args.count c.args.own c.requires.own in
    let most = c.requires.few in
    record { few = omega arith }

pub returns-clause-made : goal.returns-clause-made
returns-clause-made c =
    let core : c.len-core.result ≡ length c.args.self.now.homes.items = omega arith in
    let before : c.deref_mut.result.now ≡ c.args.self.now.passes.items = search rules in
    let homes : c.keep.new.self.homes.items ≡ c.args.self.now.homes.items ++ c.in-Ok-home_of.home ∷ [] = search rules in
    let rings : c.keep.new.self.rings ≡ c.args.self.now.rings ++ c.in-Ok.made.0 ∷ [] = search rules in
    let size : length c.give_passes.new.passes ≡ length c.args.self.now.passes.items = search rules in
    let long : length c.give_passes.new.passes ≡ c.args.self.now.passes.len = omega arith in
    let given : (with_items c.args.self.now.passes c.give_passes.new.passes).items ≡ c.give_passes.new.passes =
    take_at c.give_passes.new.passes (drop (length c.give_passes.new.passes) c.args.self.now.passes.items) c.args.self.now.passes.len long in
    let passes : c.keep.new.self.passes.items ≡ c.give_passes.new.passes = ap (λ v. v.items) c.in_ok-keep.ensures.passes ∙ given in
    let is = c.in-Ok-home_of.ensures.ok in
    made_next c.args.store.now.id c.args.cores c.args.count c.args.self.now c.keep.new.self c.requires.made c.in-Ok-home_of.home c.in-Ok.made.0 (newly_given c.in-Ok.made.1)
    homes rings c.give_passes.new.passes passes
    (subst (λ (n : ℕ). GivesPass n (newly_given c.in-Ok.made.1) c.args.self.now.passes.items c.give_passes.new.passes) core
    (subst (λ (l : List (PassList Blocked)). GivesPass c.len-core.result (newly_given c.in-Ok.made.1) l c.give_passes.new.passes) before c.in_default.ensures.gives))
    size
    (subst (λ (n : ℕ). IsNewHome c.keep.new.self.rings (label_of c.args.store.now.id c.args.cores) c.args.cores n c.in-Ok-home_of.home) core
    (new_home c.args.store.now.id c.args.self.now.rings c.keep.new.self.rings c.len-core.result c.args.cores c.args.count c.args.own.places c.in-Ok.made.0 c.in-Ok.made.1 c.give_passes.new.home _ c.in-Ok-home_of.home
    rings (core ∙ sym c.requires.made.same) c.in-Ok.ensures.pass c.in_default.ensures.home is c.in-Ok-home_of.ensures.stands))
    is.count_is
    (ap (λ (v : Held Blocked). v.table) c.in-Ok.ensures.pass) (ap (λ (v : Held Blocked). v.label) c.in-Ok.ensures.pass) refl
