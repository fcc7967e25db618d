use Rattle.std.proofs.Common.{ℕ, List, Some}
use Rattle.mc_calls.specs.declared.call.Call.TheVariants.{Incr, Decr}
use Rattle.zy_confirm.specs.Choosing.{IsAnyChosen}
use Rattle.zy_confirm.proofs.ChooseLemmas.{at_one}
use Rattle.zy_confirm.proofs.choosing.with.Goals as goal

pub returns-in_ok-exchange-in-Cas : goal.returns-in_ok-exchange-in-Cas
returns-in_ok-exchange-in-Cas c = rw c.in-Cas.is (record { chosen = c.in_ok-exchange-in-Cas.ensures.chosen c.in-Cas.key })

pub returns-in-Incr : goal.returns-in-Incr
returns-in-Incr c = rw c.in-Incr.is (record { chosen = at_one (λ (key : List ℕ). IsAnyChosen (Some c.args.item.now) (Incr key c.in-Incr.amount)) c.in-Incr.key c.count_up.result c.count_up.ensures.chosen })

pub returns-in-Decr : goal.returns-in-Decr
returns-in-Decr c = rw c.in-Decr.is (record { chosen = at_one (λ (key : List ℕ). IsAnyChosen (Some c.args.item.now) (Decr key c.in-Decr.amount)) c.in-Decr.key c.count_down.result c.count_down.ensures.chosen })
