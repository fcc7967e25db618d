-- Calls without a key, which a command makes on all shards. No public clause cites this module.
use Rattle.mc_calls.specs.declared.call.Call.{Call}
use Rattle.mc_calls.specs.declared.call.Call.TheVariants as Calls
use Rattle.mc_parse.specs.declared.on_all.OnAll.{OnAll}
use Rattle.mc_parse.specs.declared.on_all.OnAll.TheVariants.{Flush, Tally}

-- the call
abbrev pub made_by : OnAll → Call
made_by Flush = Calls.Flush
made_by Tally = Calls.Tally
