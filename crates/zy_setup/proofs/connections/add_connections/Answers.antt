use Rattle.std.proofs.Common.{◌≡◌, ◌<◌, ℕ, ap, ◌∙◌, subst, arith}
use Rattle.zy_rx.specs.Flow.{home_of}
use Rattle.mc_store.specs.Pass.{Rooted}
use Rattle.zy_setup.specs.Make.{AreOwns}
use Rattle.zy_setup.proofs.OwnLemmas.{own_room, owns_next, given_next}
use Rattle.zy_setup.proofs.connections.add_connections.Goals as goal

pub push-requires : goal.push-requires
push-requires c =
    let cores = c.new-homes.ensures.value in
    let less = c.home_of-core.ensures.limit in
    let near : c.home_of-core.result < c.args.cores = omega arith in
    let most = c.requires.few in
    let below : c.loop-conn.conn < 4096 = omega arith in record {
      few = own_room c.args.store.now.id c.args.cores c.loop-conn.conn c.loop-conn.owns.items c.loop-conn.invariant.owns c.home_of-core.result
          (c.home_of-core.ensures.value ∙ ap (λ n. home_of n c.loop-conn.conn) cores) near c.index_mut.result.now c.index_mut.ensures.value below;
    }

pub loop-conn-preserved : goal.loop-conn-preserved
loop-conn-preserved c =
    let cores = c.new-homes.ensures.value in
    let less = c.home_of-core.ensures.limit in
    let near : c.home_of-core.result < c.args.cores = omega arith in
    let root = c.in_ok-block.ensures.root in record {
      owns = owns_next c.args.store.now.id c.args.cores c.loop-conn.conn c.loop-conn.owns.items c.loop-conn.invariant.owns c.home_of-core.result
          (c.home_of-core.ensures.value ∙ ap (λ n. home_of n c.loop-conn.conn) cores) near c.index_mut.result.now c.index_mut.ensures.value
          c.push.new.self _ _ c.in_ok-block.ensures.new c.in_ok-push.ensures.ok;
      table = ap (λ (r : Rooted). r.table) root ∙ c.loop-conn.invariant.table;
      joined = ap (λ (r : Rooted). r.joined) root ∙ c.loop-conn.invariant.joined;
      given = given_next c.loop-conn.root.given c.connection.new.root.given c.loop-conn.conn c.loop-conn.invariant.given (ap (λ (r : Rooted). r.given) root);
    }

pub returns-clause-owns : goal.returns-clause-owns
returns-clause-owns c =
    let all : c.loop-conn.conn ≡ c.args.count = omega arith in
    subst (λ (n : ℕ). AreOwns c.args.store.now.id c.args.cores n c.loop-conn.owns.items) all c.loop-conn.invariant.owns
