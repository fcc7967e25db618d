-- The replies that a command got, by the numbers in the tags of its entries.
use Rattle.std.specs.Prelude.{ℕ, ◌==◌, List, map, filter}
use Rattle.mc_calls.specs.declared.call_reply.CallReply.{CallReply}
use Rattle.mc_calls.specs.declared.entry.Entry.{Entry}

-- the replies of the entries whose command has this number, in the list's order
abbrev pub replies_at : ℕ → List Entry → List CallReply
replies_at index es = map (λ (e : Entry). e.reply) (filter (λ (e : Entry). e.tag.index == index) es)
