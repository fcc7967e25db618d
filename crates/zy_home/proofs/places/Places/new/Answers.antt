use Rattle.std.proofs.Common.{◌≡◌, ◌≢◌, ◌+◌, ℕ, List, [], ◌∷◌, length, Option, None, Some, sym, ap, ◌∙◌, subst, arith, length-append}
use Rattle.zy_rx.specs.Flow.{home_of}
use Rattle.zy_home.specs.Own.{IsTable, own_conns}
use Rattle.zy_home.proofs.OwnLemmas.{own-here, own-else}
use Rattle.zy_home.proofs.TableLemmas.{table_here, table_else}
use Rattle.zy_home.proofs.places.Places.new.Goals as goal

-- a connection of another core
pub loop-conn-preserved-then-home_of-core : goal.loop-conn-preserved-then-home_of-core
loop-conn-preserved-then-home_of-core c =
    let i = c.loop-conn.invariant in
    let conn : ℕ = c.loop-conn.conn in
    let items = c.push_reserved.ensures.items in
    let home : c.home_of.result ≡ home_of c.args.cores conn = c.home_of.ensures.value ∙ ap (λ (n : ℕ). home_of n conn) c.new-homes.ensures.value in
    let away : home_of c.args.cores conn ≢ c.args.core = λ e. c.if-home_of-core.true (home ∙ e) in
    record {
      size = ap (λ (l : List (Option ℕ)). length l) items ∙ length-append c.loop-conn.table.items (None ∷ []) ∙ ap (λ (n : ℕ). n + 1) i.size;
      next = i.next ∙ ap (λ (l : List ℕ). length l) (sym (own-else c.args.core c.args.cores conn away));
      few = (let few = i.few in omega arith);
      table = subst (λ (l : List (Option ℕ)). IsTable (own_conns c.args.core c.args.cores (conn + 1)) l) (sym items) (table_else c.args.core c.args.cores conn c.loop-conn.table.items i.table away);
      room = c.push_reserved.ensures.capacity ∙ i.room;
    }

-- one of this core
pub loop-conn-preserved : goal.loop-conn-preserved
loop-conn-preserved c =
    let i = c.loop-conn.invariant in
    let conn : ℕ = c.loop-conn.conn in
    let items = c.push_reserved-in-loop-conn.ensures.items in
    let home : c.home_of.result ≡ home_of c.args.cores conn = c.home_of.ensures.value ∙ ap (λ (n : ℕ). home_of n conn) c.new-homes.ensures.value in
    let own : home_of c.args.cores conn ≡ c.args.core = sym home ∙ c.if-home_of-core.false in
    let more = own-here c.args.core c.args.cores conn own in
    record {
      size = ap (λ (l : List (Option ℕ)). length l) items ∙ length-append c.loop-conn.table.items (Some c.loop-conn.next ∷ []) ∙ ap (λ (n : ℕ). n + 1) i.size;
      next = ap (λ (n : ℕ). n + 1) i.next ∙ sym (ap (λ (l : List ℕ). length l) more ∙ length-append (own_conns c.args.core c.args.cores conn) (conn ∷ []));
      few = (let few = i.few in omega arith);
      table = subst (λ (l : List (Option ℕ)). IsTable (own_conns c.args.core c.args.cores (conn + 1)) l) (sym items) (table_here c.args.core c.args.cores conn c.loop-conn.next c.loop-conn.table.items i.table i.size i.next own);
      room = c.push_reserved-in-loop-conn.ensures.capacity ∙ i.room;
    }
