-- Any number of windows that follow each other are explained as one.
use Rattle.std.proofs.Common.{ℕ, List, [], ◌∷◌, ◌++◌}
use Rattle.zy_verdict.specs.Recorded.{Recorded}
use Rattle.zy_items.specs.Standing.{Standing, IsStanding}
use Rattle.zy_verdict.specs.Between.{IsExplainedBetweenWith}
use Rattle.window_laws.specs.Joined.{HasConnections, joined_all, AreOfOneServer, Window, last_standing, last_recording, all_commands, all_ended, AreExplainedFrom}
use Rattle.window_laws.proofs.NumberLemmas.{joined_with}

-- a recording of the windows after one is of its server too
joined_server : (r next : Recorded) (windows : List Window) → AreOfOneServer r next → AreOfOneServer r (joined_all next windows)
joined_server r next [] server = server
joined_server r next (window ∷ windows) server = record { shards = server.shards; forget = server.forget }

pub chained_with : (r : Recorded) (from to : Standing) (commands ended : ℕ) (windows : List Window) → IsStanding from
    → IsExplainedBetweenWith r from to commands ended → AreExplainedFrom r to windows
    → IsExplainedBetweenWith (joined_all r windows) from (last_standing to windows) (all_commands commands windows) (all_ended ended windows)
chained_with r from to commands ended [] valid explained others = explained
chained_with r from to commands ended (window ∷ windows) valid explained others =
    joined_with r (joined_all window.recording windows) from to (last_standing window.to windows) commands ended (all_commands window.commands windows) (all_ended window.ended windows)
    others.0 (joined_server r window.recording windows others.2) valid explained
    (chained_with window.recording to window.to window.commands window.ended windows others.1 others.3 others.4)

-- a window more makes a chain longer
pub more_from : (r : Recorded) (from : Standing) (windows : List Window) (next : Window) → AreExplainedFrom r from windows → HasConnections (last_recording r windows) → IsStanding (last_standing from windows)
    → AreOfOneServer (last_recording r windows) next.recording → IsExplainedBetweenWith next.recording (last_standing from windows) next.to next.commands next.ended
    → AreExplainedFrom r from (windows ++ next ∷ [])
more_from r from [] next chain own valid server is = (own, valid, server, is, tt)
more_from r from (window ∷ windows) next chain own valid server is =
    (chain.0, chain.1, chain.2, chain.3, more_from window.recording window.to windows next chain.4 own valid server is)
