-- What a settled home hands out at the end, and outputs cut at the ends of sessions.
use Rattle.std.specs.Prelude.{ℕ, ◌+◌, ◌-◌, List, [], ◌∷◌, length, take, drop, ◌≡◌, Some, slice_get, ⊤}
use Rattle.mc_calls.specs.declared.entry.Entry.{Entry}
use Rattle.mc_reply.specs.Texts.{texts_from}
use Rattle.zy_frame.specs.Cut.{commands_of}
use Rattle.zy_home.specs.Home.{Homed}
use Rattle.zy_conn.specs.Block.{Blocked}
use Rattle.zy_home.specs.Link.{Link}
use Rattle.zy_rx.specs.Session.{Sessions}
use Rattle.zy_conn.specs.Kept.{KeepsCommands}
use Rattle.zy_home.specs.Finish.{ConnEnd}
use Rattle.zy_home.specs.End.{EndedOutput, HasLabel}
use Rattle.zy_table.specs.declared.name.Name.{Name}

-- ---- the outputs of sessions

-- the texts of each of these sessions, from the replies of these entries; the first command has
-- this index
abbrev pub outputs_from : ℕ → List (List ℕ) → List Entry → List (List (List ℕ))
outputs_from index [] entries = []
outputs_from index (stream ∷ streams) entries =
    texts_from index (commands_of stream) entries
    ∷ outputs_from (index + length (commands_of stream)) streams entries

-- texts cut at these places, counted so that the first text has the place `first`
abbrev pub cut_at : ℕ → List ℕ → List (List ℕ) → List (List (List ℕ))
cut_at first [] texts = texts ∷ []
cut_at first (end ∷ ends) texts = take (end - first) texts ∷ cut_at end ends (drop (end - first) texts)

-- ---- the rule

-- the block of this connection is in the hand of the home
abbrev pub IsInHand : Homed → ℕ → Blocked → Link → Type 0
IsInHand h p block link = (slice_get h.blocks p ≡ Some (Some block)) × (slice_get h.links p ≡ Some link)

-- what a home hands out for a connection that received these sessions: its block, which has the
-- label, and its output with the ends of its sessions; the block's work is kept, and so the
-- connection is finished
pub record IsHandedOut (label : Name) (received : ℕ → Sessions) (block : Blocked) (end : EndedOutput) : Type 0 where
  pub conn : block.work.conn ≡ end.output.conn
  pub labelled : HasLabel label block
  pub finished : KeepsCommands block.work
      → ConnEnd block.work.table.slots block.work.calls (received end.output.conn) end.output end.ends

-- the same holds of each connection of a home, by rising number
abbrev pub AreFinished : Name → (ℕ → Sessions) → List Blocked → List EndedOutput → Type 0
AreFinished label received [] [] = ⊤
AreFinished label received (block ∷ blocks) (end ∷ ends) =
    IsHandedOut label received block end × AreFinished label received blocks ends
AreFinished label received blocks ends = ⊥
