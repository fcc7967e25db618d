use Rattle.std.proofs.Common.{◌≤◌, sym, ap, ◌∙◌, subst, arith}
use Rattle.mc_store.specs.Joined.{Joined, is_joined}
use Rattle.zy_table.specs.Member.{is_in}
use Rattle.zy_finish.specs.Rest.{HasGathered, AreMerged}
use Rattle.zy_finish.proofs.FinishLemmas.{is_finished, joined_all, all_held_by}
use Rattle.zy_finish.proofs.HomeLemmas.{is_there}
use Rattle.zy_finish.proofs.finishing.finish_homes.Goals as goal

pub take_all-requires-clause-there : goal.take_all-requires-clause-there
take_all-requires-clause-there c conn within =
    is_there c.args.store.id c.args.header.count c.args.homes.items c.requires.homes c.in-Ok.ensures.keeps conn within c.in-Ok.rests.items c.in-Ok.ensures.value

pub journal_of-requires-clause-all : goal.journal_of-requires-clause-all
journal_of-requires-clause-all c conn given =
    ap (is_joined conn) c.in-Ok-take_all.ensures.ok.joined
    ∙ joined_all c.in-Ok.rests.items c.args.header.count conn ((c.requires.root.given conn).0 (sym (ap (is_in conn) c.in-Ok-take_all.ensures.given) ∙ given))

pub returns-in-Ok-journal_of : goal.returns-in-Ok-journal_of
returns-in-Ok-journal_of c =
    let shards = c.shards-shards.ensures.value in
    let most = c.shards-shards.ensures.few in
    let few : c.args.store.shards ≤ 256 = omega arith in
    let has = subst (λ v. HasGathered v c.in-Ok.rests.items c.args.header.count c.take_all.new.self) c.new-2.ensures.version c.in-Ok-take_all.ensures.ok in record {
      finished = is_finished c.args.store.id c.args.store.shards c.args.header.version c.args.header.count c.args.homes.items c.requires.homes c.in-Ok.ensures.keeps
          c.in-Ok.rests.items c.in-Ok.ensures.value (sym shards ∙ c.shards-shards.ensures.slots) few has.kept
          (record { journal = c.in-Ok-journal_of.journal; outputs = c.take_all.new.self.outputs })
          (subst (λ (j : Joined). AreMerged c.args.store.shards j c.in-Ok-journal_of.journal.entries) has.joined c.in-Ok-journal_of.ensures.entries)
          (c.in-Ok-journal_of.ensures.holds ∙ c.from_vec.ensures.value ∙ has.holds)
          has.sessions has.version_is c.version-version.ensures.lawful;
      held = all_held_by c.args.store.id c.args.header.version c.args.header.count c.args.homes.items c.requires.homes c.in-Ok.ensures.keeps c.in-Ok.rests.items c.in-Ok.ensures.value has.kept
          (record { journal = c.in-Ok-journal_of.journal; outputs = c.take_all.new.self.outputs }) (c.in-Ok-journal_of.ensures.holds ∙ c.from_vec.ensures.value ∙ has.holds);
    }
