use Rattle.std.proofs.Common.{◌≡◌, ◌+◌, ◌<◌, ◌^◌, refl, ap, sym, subst, ◌∙◌, arith}
use Rattle.std.specs.Prelude.{Option, option_copied}
use Rattle.mc_calls.specs.declared.item.Item.{Item}
use Rattle.mc_calls.specs.declared.tallied.Tallied.{Tallied}
use Rattle.mc_calls.specs.Kind.{MayAnswer}
use Rattle.mc_calls.specs.Call.{key_of}
use Rattle.mc_calls.specs.Shard.{State, Outcome, tallied, item_at, outcome_of, reply_to}
use Rattle.mc_calls.proofs.KindLemmas.{outcome_answers}
use Rattle.mc_shard.specs.Step.{effect_in, outcome_in}
use Rattle.mc_calls.specs.declared.call_reply.CallReply.{CallReply}
use Rattle.mc_shard.specs.Shard.{TallyCounts, state_of, entry_of, with_entry}
use Rattle.mc_shard.specs.Places.{all_keys}
use Rattle.mc_shard.specs.Index.{contents_in, items_at}
use Rattle.mc_shard.proofs.IndexLemmas.{places_within}
use Rattle.mc_shard.proofs.GetLemmas.{gets_fit, sets_fit}
use Rattle.mc_shard.proofs.SoundLemmas.{calls-made, tally_counts}
use Rattle.mc_shard.proofs.StoreLemmas.{tallied_is, found_is, indexed_made, view_made}
use Rattle.mc_shard.proofs.shard.Shard.make_shared.Goals as goal

pub item_at-found-requires : goal.item_at-found-requires
item_at-found-requires c = record { within = places_within c.self.inside.ledger.stored (all_keys c.self.inside.ledger.stored c.self.inside.contents.places) c.args.key c.place_at-place.result c.place_at-place.ensures.value c.self.invariant.index.places }

-- the outcome is that of the table
outcome_is : (c : goal.After-self-1) → outcome_in c.args.key c.in-Ok.step
    ≡ outcome_of (tallied (contents_in c.self.inside.ledger.stored c.self.inside.contents)) c.args.call (item_at (items_at c.self.inside.ledger.stored (all_keys c.self.inside.ledger.stored c.self.inside.contents.places)) (key_of c.args.call))
outcome_is c =
    let stored = c.self.inside.ledger.stored in
    let contents = c.self.inside.contents in
    ap (λ key. outcome_in key c.in-Ok.step) c.requires.key ∙ c.in-Ok.ensures.value
    ∙ ap (λ (counts : Tallied). outcome_of counts c.args.call (option_copied c.item_at-found.result)) (c.tallied.ensures.value ∙ tallied_is stored contents c.self.invariant.index)
    ∙ ap (λ (found : Option Item). outcome_of (tallied (contents_in stored contents)) c.args.call found)
    (c.item_at-found.ensures.value ∙ found_is stored contents c.args.key c.place_at-place.result c.place_at-place.ensures.value
    ∙ ap (item_at (items_at stored (all_keys stored contents.places))) c.requires.key)

-- the reply is of the table
pub note_of-noted-requires : goal.note_of-noted-requires
note_of-noted-requires c = record {
  answers = subst (MayAnswer c.args.call) (sym (ap (λ (o : Outcome). o.reply) c.in-Ok.ensures.value)) (outcome_answers c.tallied.result c.args.call (option_copied c.item_at-found.result));
}

pub carry_out-requires : goal.carry_out-requires
carry_out-requires c = record {
  within = c.self.invariant.sound.within;
  few = c.self.invariant.sound.few;
  room = subst (λ (s : State). s.count < 2 ^ 52) (sym (c.self.invariant.sound.contents_are ∙ ap state_of c.self.view_is)) c.requires.count;
  index = c.self.invariant.index;
}

pub note-requires-clause-gets : goal.note-requires-clause-gets
note-requires-clause-gets c =
    subst (λ calls. calls.gets < 2 ^ 60) (sym (calls-made c.self.inside.shards c.self.inside.number (contents_in c.self.inside.ledger.stored c.self.inside.contents) (contents_in c.carry_out.new.ledger.stored c.carry_out.new.contents)
    (effect_in c.args.key c.in-Ok.step.change) c.in-Ok-carry_out.ensures.ok))
    (gets_fit c.self.inside.number c.self.inside.shards c.self.inside.last c.self.inside.contents c.self.inside.ledger c.args.self.now c.self.view_is c.self.invariant c.requires.last)

pub note-requires-clause-sets : goal.note-requires-clause-sets
note-requires-clause-sets c =
    subst (λ calls. calls.sets < 2 ^ 60) (sym (calls-made c.self.inside.shards c.self.inside.number (contents_in c.self.inside.ledger.stored c.self.inside.contents) (contents_in c.carry_out.new.ledger.stored c.carry_out.new.contents)
    (effect_in c.args.key c.in-Ok.step.change) c.in-Ok-carry_out.ensures.ok))
    (sets_fit c.self.inside.number c.self.inside.shards c.self.inside.last c.self.inside.contents c.self.inside.ledger c.args.self.now c.self.view_is c.self.invariant c.requires.last)

pub note-requires-clause-hits : goal.note-requires-clause-hits
note-requires-clause-hits c = c.in-Ok-carry_out.ensures.index.counts_are.few_hits

pub note-requires-clause-misses : goal.note-requires-clause-misses
note-requires-clause-misses c = c.in-Ok-carry_out.ensures.index.counts_are.few_misses

pub invariant_of-self : goal.invariant_of-self
invariant_of-self c =
    indexed_made c.self.inside.number c.self.inside.shards c.self.inside.last (c.max-stamp.result + 1) c.self.inside.contents c.carry_out.new.contents c.note.new.self c.self.inside.ledger c.carry_out.new.ledger
    c.args.tag c.args.call c.in-Ok.step.reply c.note_of-noted.result (outcome_in c.args.key c.in-Ok.step) c.self.invariant (outcome_is c) refl
    c.in-Ok-carry_out.ensures.ok c.in-Ok-carry_out.ensures.index c.in-Ok-carry_out.ensures.entries c.note.ensures.value
    (c.note_of-noted.ensures.value c.carry_out.new.contents.counts) (omega arith)
    (record { part = c.numbers_fit.ensures.part; call = c.numbers_fit.ensures.call; reply = c.numbers_fit.ensures.reply })

pub returns-in-Ok-carry_out-clause-sound : goal.returns-in-Ok-carry_out-clause-sound
returns-in-Ok-carry_out-clause-sound c = (invariant_of-self c).sound.history_is

pub returns-in-Ok-carry_out-clause-reply : goal.returns-in-Ok-carry_out-clause-reply
returns-in-Ok-carry_out-clause-reply c =
    c.in-Ok-copy.ensures.value ∙ ap (λ (o : Outcome). o.reply) (outcome_is c) ∙ ap (λ (s : State). reply_to s c.args.call) (c.self.invariant.sound.contents_are ∙ ap state_of c.self.view_is)

pub returns-in-Ok-carry_out-clause-ok : goal.returns-in-Ok-carry_out-clause-ok
returns-in-Ok-carry_out-clause-ok c =
    view_made c.self.inside.number c.self.inside.shards c.self.inside.last (c.max-stamp.result + 1) c.self.inside.contents c.carry_out.new.contents c.note.new.self c.self.inside.ledger c.carry_out.new.ledger
    c.args.tag c.args.call c.in-Ok.step.reply c.note_of-noted.result (outcome_in c.args.key c.in-Ok.step) c.self.invariant (outcome_is c) refl
    c.in-Ok-carry_out.ensures.ok c.in-Ok-carry_out.ensures.index c.in-Ok-carry_out.ensures.entries c.args.self.now c.self.view_is
    ∙ ap (λ (r : CallReply). with_entry c.args.self.now (entry_of c.args.tag c.args.self.now.number c.args.call r (c.max-stamp.result + 1))) (sym c.in-Ok-copy.ensures.value)

-- a tally answers what is counted of the history
pub returns-in-Ok-carry_out-clause-counts : goal.returns-in-Ok-carry_out-clause-counts
returns-in-Ok-carry_out-clause-counts c =
    subst (λ s. TallyCounts c.args.call c.in-Ok-copy.copy s.history) c.self.view_is
    (tally_counts c.self.inside.shards c.self.inside.number c.self.inside.ledger.entries c.args.call c.in-Ok-copy.copy c.self.invariant.sound.history_is
    (c.in-Ok-copy.ensures.value ∙ ap (λ (o : Outcome). o.reply) (outcome_is c) ∙ ap (λ (s : State). reply_to s c.args.call) c.self.invariant.sound.contents_are))
