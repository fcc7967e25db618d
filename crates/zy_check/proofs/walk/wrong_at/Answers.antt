use Rattle.std.proofs.Common.{◌≡◌, ◌+◌, ap, take, get_or, ◌∙◌, refl, sym, subst, slice_set, arith}
use Rattle.std.specs.Prelude.{Some}
use Rattle.std.specs.List.{slice_get}
use Rattle.std.proofs.lemmas.Option.{slice_get_read, slice_get-get_or}
use Rattle.mc_calls.specs.declared.entry.Tag.{Tag}
use Rattle.zy_check.specs.Walk.{AreTracked, AreReplayed, IsDueIn}
use Rattle.zy_check.proofs.WalkLemmas.{next_within, next_at, is_wrong_reply, answered_at, replayed_step, right_step}
use Rattle.zy_check.proofs.StepLemmas.{due_at_call, due_kind, taken, tracked_on}
use Rattle.zy_check.proofs.walk.wrong_at.Goals as goal

pub index_mut-requires : goal.index_mut-requires
index_mut-requires c =
    let g = c.args.files.now in
    let e = c.args.entry.now in
    let next = (c.in_ok-is_next.ensures.exact c.args.at c.requires.here.tracked).0 c.if-not-branch.false in
    let shard = next_within g (take c.args.at g.entries) e c.requires.here.some next in
    let size = c.requires.here.replays.count in
    let shard_is = c.shard.ensures.value in
    omega arith

pub returns-then-not-is_reply : goal.returns-then-not-is_reply
returns-then-not-is_reply c =
    let g = c.args.files.now in
    let e = c.args.entry.now in
    let old = c.index_mut.result.now in
    let is = c.requires.is in
    let next = (c.in_ok-is_next.ensures.exact c.args.at c.requires.here.tracked).0 c.if-not-branch.false in
    let shard = next_within g (take c.args.at g.entries) e c.requires.here.some next in
    let size = c.requires.here.replays.count in
    let shard_is = c.shard.ensures.value in
    let found = subst (λ n. slice_get c.args.states.now.items n ≡ Some old) shard_is (slice_get_read c.args.states.now.items _ c.shard.result old refl (omega arith) c.index_mut.ensures.value) in record {
      found = is_wrong_reply g c.args.at e is c.args.states.now.items old c.requires.here.replays shard found c.requires.here.right next
          (λ same. let so = c.is_reply.ensures.exact.1 (same ∙ sym c.in_ok-reply.ensures.reply) in let no = c.if-not-is_reply.true in absurd (cc));
    }

pub answer-requires-clause-next : goal.answer-requires-clause-next
answer-requires-clause-next c =
    let e = c.args.entry.now in
    let conn = c.tag.result.conn in
    let conn_is : conn ≡ e.tag.conn = ap (λ (t : Tag). t.conn) c.tag.ensures.value in
    let tracks = c.is_next.new.tracks in
    let next = c.in_ok-is_next.ensures.there c.if-not-branch.false in
    let t = get_or tracks conn c.index-tracks-tag.result in
    let within = next.within in
    due_at_call t.begun t.commands e (next.due t (subst (λ n. slice_get tracks n ≡ Some t) conn_is (slice_get-get_or tracks conn c.index-tracks-tag.result (omega (arith, within, conn_is)))))

pub answer-requires-clause-kind : goal.answer-requires-clause-kind
answer-requires-clause-kind c b call begun there =
    let e = c.args.entry.now in
    let conn = c.tag.result.conn in
    let conn_is : conn ≡ e.tag.conn = ap (λ (t : Tag). t.conn) c.tag.ensures.value in
    let tracks = c.is_next.new.tracks in
    let next = c.in_ok-is_next.ensures.there c.if-not-branch.false in
    let t = get_or tracks conn c.index-tracks-tag.result in
    let within = next.within in
    let due = next.due t (subst (λ n. slice_get tracks n ≡ Some t) conn_is (slice_get-get_or tracks conn c.index-tracks-tag.result (omega (arith, within, conn_is)))) in
    due_kind t.commands e c.index_mut.result.now.state c.in_ok-reply.reply b call (subst (λ o. IsDueIn o t.commands e) begun due)
    c.in_ok-reply.ensures.reply there

pub returns : goal.returns
returns c =
    let g = c.args.files.now in
    let e = c.args.entry.now in
    let here = c.requires.here in
    let old = c.index_mut.result.now in
    let is = c.requires.is in
    let next = (c.in_ok-is_next.ensures.exact c.args.at here.tracked).0 c.if-not-branch.false in
    let shard = next_within g (take c.args.at g.entries) e here.some next in
    let size = here.replays.count in
    let states = c.args.states.now.items in
    let shard_is = c.shard.ensures.value in
    let found = subst (λ n. slice_get states n ≡ Some old) shard_is (slice_get_read states _ c.shard.result old refl (omega arith) c.index_mut.ensures.value) in
    let same = c.is_reply.ensures.exact.0 c.if-not-is_reply.false in
    let in_tracks = c.in_ok-is_next.ensures.there c.if-not-branch.false in
    let tracked = c.in_ok-is_next.ensures.kept c.args.at here.tracked in
    let conn = c.tag.result.conn in
    let conn_is : conn ≡ e.tag.conn = ap (λ (t : Tag). t.conn) c.tag.ensures.value in
    let tracks = c.is_next.new.tracks in
    let t = get_or tracks conn c.index-tracks-tag.result in
    let within = in_tracks.within in
    let t_is = subst (λ n. slice_get tracks n ≡ Some t) conn_is (slice_get-get_or tracks conn c.index-tracks-tag.result (omega (arith, within, conn_is))) in
    let has = taken g c.args.at e t c.in_ok-reply.reply (tracked.each e.tag.conn t t_is) (in_tracks.due t t_is) is (sym same) in record {
      found = record {
        some = here.some;
        tracked = subst (λ n. AreTracked g (c.args.at + 1) (slice_set tracks n c.answer.new.self)) (sym conn_is)
            (tracked_on g c.args.at tracks tracked e c.answer.new.self is in_tracks.within (rw c.in_ok-answer.ensures.ok has));
        replays = subst (λ n. AreReplayed g.shards (take (c.args.at + 1) g.entries) (slice_set states n c.answer_again.new.state)) (sym shard_is)
            (replayed_step g.shards c.args.at g.entries e states old c.answer_again.new.state here.replays is shard found c.in_ok-reply.ensures.ok);
        right = right_step g c.args.at here.right (next_at g c.args.at e is next)
            (answered_at g c.args.at e is states old here.replays shard found (same ∙ c.in_ok-reply.ensures.reply));
      };
    }
