use Rattle.std.proofs.Common.{◌-◌, sym, ◌∙◌, arith}
use Rattle.mc_shard.proofs.LineLemmas.{eqb_is, none_without}
use Rattle.mc_shard.proofs.TableLemmas.{made_table, made_same, twice_table, twice_same}
use Rattle.mc_shard.proofs.places.Places.grow.Goals as goal

pub invariant_of-self : goal.invariant_of-self
invariant_of-self c =
    let zero = eqb_is _ 0 (sym c.is_empty.ensures ∙ c.if-is_empty.true) in
    let none = none_without c.self.inside.lines.items (omega (arith, zero, c.self.inside.lines.ok.0)) in
    rw (c.replace.ensures.after) (made_table c.self.inside.shift c.self.inside.lines.items c.in_ok-lines.lines.items c.self.inside.tree.entries none c.in_ok-lines.ensures.empty c.self.invariant)

pub returns-in_ok-lines : goal.returns-in_ok-lines
returns-in_ok-lines c =
    let zero = eqb_is _ 0 (sym c.is_empty.ensures ∙ c.if-is_empty.true) in
    let none = none_without c.self.inside.lines.items (omega (arith, zero, c.self.inside.lines.ok.0)) in
    rw (← c.self.view_is, c.replace.ensures.after)
    (record { same = made_same c.self.inside.shift c.self.inside.lines.items c.in_ok-lines.lines.items c.self.inside.tree.entries none c.in_ok-lines.ensures.empty })

pub invariant_of-self-in-Ok : goal.invariant_of-self-in-Ok
invariant_of-self-in-Ok c =
    rw (c.replace-in-Ok.ensures.after, c.in-Ok.ensures.lines)
    (twice_table c.self.inside.shift (c.self.inside.shift - 1) c.self.inside.lines.items c.self.inside.tree.entries (omega (arith, c.if-self-gt0.true)) c.self.invariant)

pub returns-in-Ok : goal.returns-in-Ok
returns-in-Ok c =
    rw (← c.self.view_is, c.replace-in-Ok.ensures.after, c.in-Ok.ensures.lines)
    (record { same = twice_same c.self.inside.shift (c.self.inside.shift - 1) c.self.inside.lines.items c.self.inside.tree.entries (omega (arith, c.if-self-gt0.true)) })
