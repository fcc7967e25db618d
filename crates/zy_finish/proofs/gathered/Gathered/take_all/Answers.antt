use Rattle.std.proofs.Common.{◌≡◌, ◌<◌, ℕ, length, ap, ◌∙◌, subst, arith, length-set}
use Rattle.zy_rx.specs.Flow.{home_of}
use Rattle.zy_finish.specs.Rest.{HasGathered}
use Rattle.zy_finish.proofs.GatherLemmas.{sent_count, has_block, has_end, table_of, next_taken, next_gathered}
use Rattle.zy_finish.proofs.gathered.Gathered.take_all.Goals as goal

pub next-last-requires-clause-block : goal.next-last-requires-clause-block
next-last-requires-clause-block c =
    let cores : c.new-homes.result ≡ length c.args.rests.now.items = omega arith in
    let size = c.loop-conn.invariant.cores in
    let near : c.home_of-core.result < length c.loop-conn.rests.items = omega arith in
    has_block c.args.store.now.id c.args.rests.now.items c.loop-conn.conn (c.requires.there c.loop-conn.conn c.loop-conn-test.true) c.loop-conn.rests.items c.loop-conn.invariant.taken
    c.home_of-core.result (c.home_of-core.ensures.value ∙ ap (λ n. home_of n c.loop-conn.conn) cores) near c.index_mut.result.now c.index_mut.ensures.value

pub next-last-requires-clause-end : goal.next-last-requires-clause-end
next-last-requires-clause-end c =
    let cores : c.new-homes.result ≡ length c.args.rests.now.items = omega arith in
    let size = c.loop-conn.invariant.cores in
    let near : c.home_of-core.result < length c.loop-conn.rests.items = omega arith in
    has_end c.args.store.now.id c.args.rests.now.items c.loop-conn.conn (c.requires.there c.loop-conn.conn c.loop-conn-test.true) c.loop-conn.rests.items c.loop-conn.invariant.taken
    c.home_of-core.result (c.home_of-core.ensures.value ∙ ap (λ n. home_of n c.loop-conn.conn) cores) near c.index_mut.result.now c.index_mut.ensures.value

pub take-requires-clause-block : goal.take-requires-clause-block
take-requires-clause-block c =
    let cores : c.new-homes.result ≡ length c.args.rests.now.items = omega arith in
    let size = c.loop-conn.invariant.cores in
    let near : c.home_of-core.result < length c.loop-conn.rests.items = omega arith in
    table_of c.args.store.now.id c.args.rests.now.items c.loop-conn.conn (c.requires.there c.loop-conn.conn c.loop-conn-test.true) c.loop-conn.rests.items c.loop-conn.invariant.taken
    c.home_of-core.result (c.home_of-core.ensures.value ∙ ap (λ n. home_of n c.loop-conn.conn) cores) near c.index_mut.result.now c.index_mut.ensures.value
    c.next-last.new.self c.next-last.result c.next-last.ensures.block c.next-last.ensures.end

pub take-requires-clause-next : goal.take-requires-clause-next
take-requires-clause-next c = sent_count c.args.self.now.outputs.version c.args.rests.now.items c.loop-conn.conn c.loop-conn.self c.loop-conn.invariant.gathered

pub loop-conn-preserved : goal.loop-conn-preserved
loop-conn-preserved c =
    let cores : c.new-homes.result ≡ length c.args.rests.now.items = omega arith in
    let size = c.loop-conn.invariant.cores in
    let near : c.home_of-core.result < length c.loop-conn.rests.items = omega arith in
    let at = c.home_of-core.ensures.value ∙ ap (λ n. home_of n c.loop-conn.conn) cores in
    let there = c.requires.there c.loop-conn.conn c.loop-conn-test.true in record {
      cores = length-set c.loop-conn.rests.items c.home_of-core.result c.next-last.new.self ∙ size;
      table = c.in_ok-take.ensures.ok.table ∙ c.loop-conn.invariant.table;
      given = c.in_ok-take.ensures.ok.given ∙ c.loop-conn.invariant.given;
      taken = next_taken c.args.store.now.id c.args.rests.now.items c.loop-conn.conn there c.loop-conn.rests.items c.loop-conn.invariant.taken
          c.home_of-core.result at near c.index_mut.result.now c.index_mut.ensures.value
          c.next-last.new.self c.next-last.result c.next-last.ensures.block c.next-last.ensures.end;
      gathered = next_gathered c.args.store.now.id c.args.rests.now.items c.loop-conn.conn there c.loop-conn.rests.items c.loop-conn.invariant.taken
          c.home_of-core.result at near c.index_mut.result.now c.index_mut.ensures.value
          c.next-last.new.self c.next-last.result c.next-last.ensures.block c.next-last.ensures.end
          c.args.self.now.outputs.version c.loop-conn.self c.take.new.self c.loop-conn.invariant.gathered c.in_ok-take.ensures.ok;
    }

pub returns-clause-ok : goal.returns-clause-ok
returns-clause-ok c =
    let all : c.loop-conn.conn ≡ c.args.count = omega arith in
    subst (λ (n : ℕ). HasGathered c.args.self.now.outputs.version c.args.rests.now.items n c.loop-conn.self) all c.loop-conn.invariant.gathered
