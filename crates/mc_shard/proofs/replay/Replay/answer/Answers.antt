use Rattle.std.proofs.Common.{◌≡◌, ap, ◌∙◌}
use Rattle.std.specs.Prelude.{Option, option_copied}
use Rattle.mc_calls.specs.declared.item.Item.{Item}
use Rattle.mc_calls.specs.declared.tallied.Tallied.{Tallied}
use Rattle.mc_calls.specs.Call.{key_of}
use Rattle.mc_calls.specs.Counted.{calls_with}
use Rattle.mc_calls.specs.Shard.{State, Outcome, tallied, outcome_of, outcome_on, reply_to, state_with, with_calls}
use Rattle.mc_shard.specs.declared.change.Step.{Step}
use Rattle.mc_shard.specs.Step.{effect_in, outcome_in}
use Rattle.mc_shard.specs.Replay.{Replayed, replaying, state_replayed}
use Rattle.mc_shard.specs.Places.{all_keys}
use Rattle.mc_shard.specs.Index.{contents_in, place_at}
use Rattle.mc_shard.proofs.StoreLemmas.{tallied_is, found_is, contents_noted}
use Rattle.mc_shard.proofs.replay.Replay.answer.Goals as goal

-- the outcome is that of the table
outcome_is : (c : goal.After-note) → outcome_in (key_of c.args.call.now) c.in-Ok.step ≡ outcome_on (contents_in c.self.inside.stored.items c.self.inside.contents) c.args.call.now
outcome_is c =
    let stored = c.self.inside.stored.items in
    let contents = c.self.inside.contents in
    c.in-Ok.ensures.value
    ∙ ap (λ (counts : Tallied). outcome_of counts c.args.call.now (option_copied c.item_at-found.result)) (c.tallied-counts.ensures.value ∙ tallied_is stored contents c.self.invariant.2)
    ∙ ap (λ (found : Option Item). outcome_of (tallied (contents_in stored contents)) c.args.call.now found)
    (c.item_at-found.ensures.value ∙ found_is stored contents (key_of c.args.call.now) c.place_of-place.result
    (c.place_of-place.ensures.value ∙ ap (place_at (all_keys stored contents.places)) c.of_call-key.ensures.value))

pub returns-in-Ok-carry_out-clause-reply : goal.returns-in-Ok-carry_out-clause-reply
returns-in-Ok-carry_out-clause-reply c =
    ap (λ (s : Step). s.reply) c.share.ensures.value ∙ ap (λ (o : Outcome). o.reply) (outcome_is c) ∙ ap (λ (r : Replayed). reply_to r.state c.args.call.now) c.self.view_is

pub returns-in-Ok-carry_out-clause-ok : goal.returns-in-Ok-carry_out-clause-ok
returns-in-Ok-carry_out-clause-ok c =
    let number = c.self.inside.number in
    let shards = c.self.inside.shards in
    let old : State = contents_in c.self.inside.stored.items c.self.inside.contents in
    let call = c.args.call.now in
    let key_is = c.of_call-key.ensures.value in
    ap (replaying number shards)
    (contents_noted c.carry_out.new.stored.items c.carry_out.new.contents c.note.new.self c.note_of.result shards number old (effect_in c.of_call-key.result c.share.new.step.change) call c.share.new.step.reply
    c.in-Ok-carry_out.ensures.ok c.note.ensures.value (c.note_of.ensures.value c.carry_out.new.contents.counts)
    ∙ ap (λ key. with_calls (state_with shards number old (effect_in key c.share.new.step.change)) (calls_with old.calls call c.share.new.step.reply)) key_is
    ∙ ap (λ (s : Step). with_calls (state_with shards number old (effect_in (key_of call) s.change)) (calls_with old.calls call s.reply)) c.share.ensures.value
    ∙ ap (λ (o : Outcome). with_calls (state_with shards number old o.effect) (calls_with old.calls call o.reply)) (outcome_is c))
    ∙ ap (λ (r : Replayed). state_replayed r call) c.self.view_is
