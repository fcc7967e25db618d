-- Each session has its output.
use Rattle.std.proofs.Common.{◌≡◌, ℕ, ◌<◌, List, [], length, arith}
use Rattle.std.specs.List.{slice_index_or}
use Rattle.std.proofs.lemmas.List.FromFn.{length-map-range_with_len, get_or-map-range_with_len}
use Rattle.mc_calls.specs.declared.entry.Entry.{Entry}
use Rattle.zy_run.specs.Output.{session_output, connection_outputs}

pub length-outputs_of : (conn : ℕ) (streams : List (List ℕ)) (es : List Entry) → length (connection_outputs conn streams es) ≡ length streams
length-outputs_of conn streams es = length-map-range_with_len (λ session. session_output conn session streams es) 0 (length streams)

pub outputs_of-at : (conn session : ℕ) (streams : List (List ℕ)) (es : List Entry) → session < length streams
    → slice_index_or (connection_outputs conn streams es) session [] ≡ session_output conn session streams es
outputs_of-at conn session streams es within =
    get_or-map-range_with_len (λ k. session_output conn k streams es) 0 (length streams) session session [] within (omega arith)
