use Rattle.std.proofs.Common.{◌∙◌, refl, subst, arith}
use Rattle.std.specs.Prelude.{length}
use Rattle.zy_conn.specs.Block.{label_in, label_of}
use Rattle.zy_conn.proofs.LabelLemmas.{same_store, same_cores}
use Rattle.zy_conn.specs.Hold.{IsRecorded}
use Rattle.zy_steal.proofs.IdleLemmas.{takes_label, given_back}
use Rattle.zy_home.specs.Idle.{mark_in}
use Rattle.zy_core.proofs.stealing.steal_once.Goals as goal

pub hold-end-requires-clause-table : goal.hold-end-requires-clause-table
hold-end-requires-clause-table g c =
    same_store _ _ _ _ (takes_label mark_in label_in (label_of c.args.store.now.id (length c.args.rings.now)) c.args.passes.now c.steal_into.new.passes c.in-Some.stolen.victim c.in-Some.stolen.place c.in-Some.stolen.block c.requires.idle c.in-Some.ensures.taken)

pub hold-end-requires-clause-core : goal.hold-end-requires-clause-core
hold-end-requires-clause-core g c =
    let cores = same_cores _ _ _ _ (takes_label mark_in label_in (label_of c.args.store.now.id (length c.args.rings.now)) c.args.passes.now c.steal_into.new.passes c.in-Some.stolen.victim c.in-Some.stolen.place c.in-Some.stolen.block c.requires.idle c.in-Some.ensures.taken) in
    let near = c.requires.within.core in
    let same = c.requires.core.0 in
    omega arith

pub returns-in_ok-end-in-Some-clause-same : goal.returns-in_ok-end-in-Some-clause-same
returns-in_ok-end-in-Some-clause-same g c =
    (c.give_back.ensures.kept ∙ c.steal_into.ensures.kept, given_back mark_in label_in (label_of c.args.store.now.id (length c.args.rings.now)) c.args.passes.now c.steal_into.new.passes c.give_back.new.self c.in-Some.stolen.victim c.in-Some.stolen.place c.in-Some.stolen.block c.hold-end.new.self c.steal_into.ensures.kept c.requires.idle c.in-Some.ensures.taken c.give_back.ensures.value)

pub returns-in_err-end-in-Some-clause-same : goal.returns-in_err-end-in-Some-clause-same
returns-in_err-end-in-Some-clause-same g c =
    (c.give_back.ensures.kept ∙ c.steal_into.ensures.kept, given_back mark_in label_in (label_of c.args.store.now.id (length c.args.rings.now)) c.args.passes.now c.steal_into.new.passes c.give_back.new.self c.in-Some.stolen.victim c.in-Some.stolen.place c.in-Some.stolen.block c.hold-end.new.self c.steal_into.ensures.kept c.requires.idle c.in-Some.ensures.taken c.give_back.ensures.value)

pub returns-in_ok-end-in-Some-clause-value : goal.returns-in_ok-end-in-Some-clause-value
returns-in_ok-end-in-Some-clause-value g c = (
  record {
    victim = c.in-Some.stolen.victim;
    place = c.in-Some.stolen.place;
    block = c.in-Some.stolen.block;
    between = c.steal_into.new.passes;
    takes = c.in-Some.ensures.taken;
    held = c.hold-end.new.self;
    end = c.in_ok-end-in-Some.field-0;
    holds = record {
      ends = c.in_ok-end-in-Some.ensures.end;
      recorded = subst (λ n. IsRecorded n c.in-Some.stolen.block c.hold-end.new.self) c.requires.core.0 c.hold-end.ensures.holds;
      more = c.hold-end.ensures.more;
      limit = c.hold-end.ensures.limit;
      mark = c.hold-end.ensures.mark;
      label = (λ i. label_of (c.hold-end.ensures.table i) (c.hold-end.ensures.cores i));
    };
    gives = c.give_back.ensures.value;
  },
  refl,
)
