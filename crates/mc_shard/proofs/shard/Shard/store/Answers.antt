use Rattle.std.proofs.Common.{◌+◌, ◌<◌, ◌^◌, ℕ, List, refl, ap, sym, subst, ◌∙◌, arith}
use Rattle.std.specs.Prelude.{Some}
use Rattle.mc_calls.specs.declared.call.Call.TheVariants.{Set}
use Rattle.mc_calls.specs.declared.call_reply.CallReply.TheVariants.{Stored}
use Rattle.mc_calls.specs.Shard.{State, stored}
use Rattle.mc_shard.specs.declared.contents.Noted.TheVariants as Noting
use Rattle.mc_shard.specs.Contents.{with_item}
use Rattle.mc_shard.specs.Shard.{kept, entry_of, with_entry}
use Rattle.mc_shard.specs.Index.{contents_in}
use Rattle.mc_shard.proofs.SoundLemmas.{state_longer}
use Rattle.mc_shard.proofs.GetLemmas.{gets_fit, sets_fit}
use Rattle.mc_shard.proofs.StoreLemmas.{has_set, indexed_made, view_made}
use Rattle.mc_shard.proofs.shard.Shard.store.Goals as goal

pub note-requires-clause-gets : goal.note-requires-clause-gets
note-requires-clause-gets c =
    subst (λ (n : ℕ). n < 2 ^ 60) (sym (ap (λ (s : State). s.calls.gets) c.in-Ok.ensures.put))
    (gets_fit c.self.inside.number c.self.inside.shards c.self.inside.last c.self.inside.contents c.self.inside.ledger c.args.self.now c.self.view_is c.self.invariant c.requires.last)

pub note-requires-clause-sets : goal.note-requires-clause-sets
note-requires-clause-sets c =
    subst (λ (n : ℕ). n < 2 ^ 60) (sym (ap (λ (s : State). s.calls.sets) c.in-Ok.ensures.put))
    (sets_fit c.self.inside.number c.self.inside.shards c.self.inside.last c.self.inside.contents c.self.inside.ledger c.args.self.now c.self.view_is c.self.invariant c.requires.last)

pub note-requires-clause-hits : goal.note-requires-clause-hits
note-requires-clause-hits c = c.in-Ok.ensures.index.counts_are.few_hits

pub note-requires-clause-misses : goal.note-requires-clause-misses
note-requires-clause-misses c = c.in-Ok.ensures.index.counts_are.few_misses

pub invariant_of-self : goal.invariant_of-self
invariant_of-self c =
    let key = c.share.new.self in
    let value = c.share-else-is_err.new.self in
    let old = c.self.inside.contents in
    let ledger = c.self.inside.ledger in
    indexed_made c.self.inside.number c.self.inside.shards c.self.inside.last (c.max-stamp.result + 1) old c.put.new.contents c.note.new.self ledger c.put.new.ledger
    c.args.tag (Set key c.args.flags value) Stored Noting.Set (stored key c.args.flags value) c.self.invariant refl refl
    (c.in-Ok.ensures.put ∙ ap (λ (u : ℕ). with_item (contents_in ledger.stored old) (Some key) (record { flags = c.args.flags; value = value; unique = u })) c.unique-unique.ensures.value)
    c.in-Ok.ensures.index
    (has_set ledger c.put.new.ledger c.args.tag (c.max-stamp.result + 1) key (record { flags = c.args.flags; value = value; unique = c.unique-unique.result }) c.in-Ok.ensures.ok)
    c.note.ensures.value refl (omega arith)
    (record { part = c.numbers_fit.ensures.part; call = (c.numbers_fit.ensures.flags, tt); reply = ((tt, tt), tt) })

pub returns-in-Ok-clause-ok : goal.returns-in-Ok-clause-ok
returns-in-Ok-clause-ok c =
    let key = c.share.new.self in
    let value = c.share-else-is_err.new.self in
    let old = c.self.inside.contents in
    let ledger = c.self.inside.ledger in
    let stamp = c.max-stamp.result + 1 in
    view_made c.self.inside.number c.self.inside.shards c.self.inside.last stamp old c.put.new.contents c.note.new.self ledger c.put.new.ledger
    c.args.tag (Set key c.args.flags value) Stored Noting.Set (stored key c.args.flags value) c.self.invariant refl refl
    (c.in-Ok.ensures.put ∙ ap (λ (u : ℕ). with_item (contents_in ledger.stored old) (Some key) (record { flags = c.args.flags; value = value; unique = u })) c.unique-unique.ensures.value)
    c.in-Ok.ensures.index
    (has_set ledger c.put.new.ledger c.args.tag stamp key (record { flags = c.args.flags; value = value; unique = c.unique-unique.result }) c.in-Ok.ensures.ok)
    c.args.self.now c.self.view_is
    ∙ ap (λ (k : List ℕ). with_entry c.args.self.now (entry_of c.args.tag c.args.self.now.number (Set k c.args.flags value) Stored stamp)) c.share.ensures.value
    ∙ ap (λ (v : List ℕ). with_entry c.args.self.now (entry_of c.args.tag c.args.self.now.number (Set c.args.key c.args.flags v) Stored stamp)) c.share-else-is_err.ensures.value

pub returns-in-Ok-clause-sound : goal.returns-in-Ok-clause-sound
returns-in-Ok-clause-sound c = (invariant_of-self c).sound.history_is

pub returns-in-Ok-clause-state : goal.returns-in-Ok-clause-state
returns-in-Ok-clause-state c =
    state_longer c.args.self.now (kept c.self.inside.number c.self.inside.shards c.put.new.ledger.entries) c.args.tag (Set c.args.key c.args.flags c.args.value) Stored (c.max-stamp.result + 1) (returns-in-Ok-clause-ok c)
