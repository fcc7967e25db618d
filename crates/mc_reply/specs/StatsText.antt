-- The text that answers `stats`: memcached's protocol.txt, "General-purpose statistics". It has five of its numbers,
-- which are sums over all shards.
use Rattle.std.specs.Prelude.{ℕ, List, ◌++◌, codes, decimal, sum_by}
use Rattle.mc_calls.specs.declared.call_reply.CallReply.{CallReply}
use Rattle.mc_calls.specs.declared.call_reply.CallReply.TheVariants.{Tally}
use Rattle.mc_reply.specs.declared.stats.Stat.{Stat}
use Rattle.mc_reply.specs.declared.stats.Stat.TheVariants.{Gets, Sets, Hits, Misses, Items}
use Rattle.mc_reply.specs.Line.{line}

-- ---- one number

-- the name of a number
abbrev pub stat_name : Stat → List ℕ
stat_name Gets = codes "cmd_get"
stat_name Sets = codes "cmd_set"
stat_name Hits = codes "get_hits"
stat_name Misses = codes "get_misses"
stat_name Items = codes "curr_items"

-- the number in a tally; a reply of another kind counts nothing
abbrev pub stat_in : Stat → CallReply → ℕ
stat_in Gets (Tally gets sets hits misses items) = gets
stat_in Sets (Tally gets sets hits misses items) = sets
stat_in Hits (Tally gets sets hits misses items) = hits
stat_in Misses (Tally gets sets hits misses items) = misses
stat_in Items (Tally gets sets hits misses items) = items
stat_in stat reply = 0

-- its sum over all tallies
abbrev pub sum_in : Stat → List CallReply → ℕ
sum_in stat replies = sum_by (stat_in stat) replies

-- ---- the text

-- the line of a number
abbrev pub stat_line : Stat → ℕ → List ℕ
stat_line stat number = line (codes "STAT " ++ stat_name stat ++ codes " " ++ decimal number)

-- the line of a sum
abbrev pub sum_line : Stat → List CallReply → List ℕ
sum_line stat replies = stat_line stat (sum_in stat replies)

-- the lines of the five sums, and the end
abbrev pub stats_text : List CallReply → List ℕ
stats_text replies =
    sum_line Gets replies ++ (sum_line Sets replies ++ (sum_line Hits replies ++ (sum_line Misses replies
    ++ (sum_line Items replies ++ line (codes "END")))))
