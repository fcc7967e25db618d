use Rattle.std.proofs.Common.{◌≡◌, ◌-◌, length, take}
use Rattle.mc_parse.specs.Calls.{calls_of}
use Rattle.mc_parse.proofs.listing.calls.Given as goal

-- fewer calls are left
abbrev pub decreases-loop-call : goal.decreases-loop-call
decreases-loop-call l = length (calls_of l.shards l.command) - length l.calls

-- the calls so far are the first of the command's
abbrev pub invariant-loop-call : goal.invariant-loop-call
invariant-loop-call l = take (length l.calls) (calls_of l.shards l.command) ≡ l.calls
