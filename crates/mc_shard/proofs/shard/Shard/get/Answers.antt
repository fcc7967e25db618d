use Rattle.std.proofs.Common.{◌+◌, ap, sym, ◌∙◌, arith}
use Rattle.mc_calls.specs.declared.call.Call.TheVariants.{Get}
use Rattle.mc_calls.specs.declared.call_reply.CallReply.{CallReply}
use Rattle.mc_stats.specs.Counts.{with_get}
use Rattle.mc_shard.specs.Shard.{kept, entry_of, with_entry}
use Rattle.mc_shard.specs.Places.{place_in, all_keys}
use Rattle.mc_shard.proofs.IndexLemmas.{is_for}
use Rattle.mc_shard.proofs.SoundLemmas.{state_longer}
use Rattle.mc_shard.proofs.GetLemmas.{gets_fit, sets_fit, indexed_got, reply_got, view_got}
use Rattle.mc_shard.proofs.shard.Shard.get.Goals as goal

pub take_get-requires : goal.take_get-requires
take_get-requires c = record {
  found = is_for c.self.inside.ledger.stored (all_keys c.self.inside.ledger.stored c.self.inside.contents.places) c.args.key c.place_of-found.result (c.place_of-found.ensures.value ∙ ap (place_in (all_keys c.self.inside.ledger.stored c.self.inside.contents.places)) c.with_hash.ensures.value) c.self.invariant.index.places;
}

pub note-requires-clause-gets : goal.note-requires-clause-gets
note-requires-clause-gets c =
    gets_fit c.self.inside.number c.self.inside.shards c.self.inside.last c.self.inside.contents c.self.inside.ledger c.args.self.now c.self.view_is c.self.invariant c.requires.last

pub note-requires-clause-sets : goal.note-requires-clause-sets
note-requires-clause-sets c =
    sets_fit c.self.inside.number c.self.inside.shards c.self.inside.last c.self.inside.contents c.self.inside.ledger c.args.self.now c.self.view_is c.self.invariant c.requires.last

pub note-requires-clause-hits : goal.note-requires-clause-hits
note-requires-clause-hits c = c.self.invariant.index.counts_are.few_hits

pub note-requires-clause-misses : goal.note-requires-clause-misses
note-requires-clause-misses c = c.self.invariant.index.counts_are.few_misses

pub invariant_of-self-2 : goal.invariant_of-self-2
invariant_of-self-2 c =
    indexed_got c.self.inside.number c.self.inside.shards c.self.inside.last (c.max-stamp.result + 1) c.self.inside.contents c.note.new.self c.self.inside.ledger c.take_get.new.ledger
    c.args.tag c.args.key c.place_of-found.result c.self.invariant (c.place_of-found.ensures.value ∙ ap (place_in (all_keys c.self.inside.ledger.stored c.self.inside.contents.places)) c.with_hash.ensures.value) c.in-Ok.ensures.ok
    (c.note.ensures.value ∙ ap (λ hit. record c.self.inside.contents { counts = with_get hit c.self.inside.contents.counts }) c.is_some.ensures)
    (omega arith) c.in-Ok.ensures.part c.in-Ok.ensures.fits

pub returns-clause-reply : goal.returns-clause-reply
returns-clause-reply c =
    c.in-Ok.ensures.reply
    ∙ reply_got c.self.inside.number c.self.inside.shards c.self.inside.last (c.max-stamp.result + 1) c.self.inside.contents c.note.new.self c.self.inside.ledger c.take_get.new.ledger
    c.args.tag c.args.key c.place_of-found.result c.self.invariant (c.place_of-found.ensures.value ∙ ap (place_in (all_keys c.self.inside.ledger.stored c.self.inside.contents.places)) c.with_hash.ensures.value) c.in-Ok.ensures.ok c.args.self.now c.self.view_is

pub returns-clause-ok : goal.returns-clause-ok
returns-clause-ok c =
    view_got c.self.inside.number c.self.inside.shards c.self.inside.last (c.max-stamp.result + 1) c.self.inside.contents c.note.new.self c.self.inside.ledger c.take_get.new.ledger
    c.args.tag c.args.key c.place_of-found.result c.self.invariant (c.place_of-found.ensures.value ∙ ap (place_in (all_keys c.self.inside.ledger.stored c.self.inside.contents.places)) c.with_hash.ensures.value) c.in-Ok.ensures.ok c.args.self.now c.self.view_is
    ∙ ap (λ (r : CallReply). with_entry c.args.self.now (entry_of c.args.tag c.args.self.now.number (Get c.args.key) r (c.max-stamp.result + 1))) (sym (returns-clause-reply c))

pub returns-clause-sound : goal.returns-clause-sound
returns-clause-sound c = (invariant_of-self-2 c).sound.history_is

pub returns-clause-state : goal.returns-clause-state
returns-clause-state c =
    state_longer c.args.self.now (kept c.self.inside.number c.self.inside.shards c.take_get.new.ledger.entries) c.args.tag (Get c.args.key) c.in-Ok.reply (c.max-stamp.result + 1) (returns-clause-ok c)
