use Rattle.std.proofs.Common.{◌≡◌, filter, take}
use Rattle.zy_observed.specs.AtKey.{is_call_at_key}
use Rattle.zy_observed.proofs.collecting.collected.Given as goal

-- the calls so far that are at the key are copied
abbrev pub invariant-loop-call : goal.invariant-loop-call
invariant-loop-call l = l.own.items ≡ filter (is_call_at_key l.shards l.key) (take l.call-index l.calls)
