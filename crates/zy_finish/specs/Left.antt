-- A connection, when all of it is served.
use Rattle.std.specs.Prelude.{◌≡◌, ℕ, ◌+◌, ◌-◌, List, [], ◌∷◌, length, take, drop, ⊤}
use Rattle.std.specs.List.{concat}
use Rattle.mc_calls.specs.declared.entry.Entry.{Entry}
use Rattle.mc_calls.specs.declared.hold.Hold.{Hold}
use Rattle.mc_calls.specs.Held.{held_in}
use Rattle.mc_parse.specs.Calls.{due, dues_of}
use Rattle.mc_reply.specs.Texts.{texts_of}
use Rattle.zy_frame.specs.Cut.{commands_of}
use Rattle.zy_run.specs.Commands.{commands_over}

-- ---- the ends of sessions

-- the number of commands that a connection with these streams has at the end of each of its
-- sessions but the last, which is open, after `before` commands
abbrev pub ends_after : ℕ → List (List ℕ) → List ℕ
ends_after before [] = []
ends_after before (stream ∷ []) = []
ends_after before (stream ∷ next ∷ streams) =
    let after = before + length (commands_of stream) in after ∷ ends_after after (next ∷ streams)

-- how many commands a connection with these streams has at the end of each of its sessions but the last
abbrev pub ends_of : List (List ℕ) → List ℕ
ends_of streams = ends_after 0 streams

-- the bytes of the texts from one number up to another
abbrev pub bytes_between : ℕ → ℕ → List (List ℕ) → List ℕ
bytes_between start stop texts = concat (take (stop - start) (drop start texts))

-- texts cut at these numbers, from one on: the bytes of each part, and last those of all that is left
abbrev pub cut_from : ℕ → List ℕ → List (List ℕ) → List (List ℕ)
cut_from start [] texts = concat (drop start texts) ∷ []
cut_from start (stop ∷ stops) texts = bytes_between start stop texts ∷ cut_from stop stops texts

-- texts cut at these numbers: the bytes of each part
abbrev pub session_texts : List ℕ → List (List ℕ) → List (List ℕ)
session_texts stops texts = cut_from 0 stops texts

-- ---- holds

-- every hold is of this connection
abbrev pub AreOf : ℕ → List Hold → Type 0
AreOf conn [] = ⊤
AreOf conn (h ∷ hs) = (h.conn ≡ conn) × AreOf conn hs

-- ---- a connection

-- a connection at the end: the texts that it was sent, the number of them at the end of each closed
-- session, and its holds
pub record Left : Type 0 where
  pub texts : List (List ℕ)
  pub ends : List ℕ
  pub holds : List Hold

-- all of a connection with these streams was served, by these calls
pub record IsCarriedOut (shards conn : ℕ) (streams : List (List ℕ)) (calls : List Entry) (left : Left) : Type 0 where
  -- the calls are its expected calls, each once and in order
  pub calls_are : dues_of calls ≡ due shards conn (commands_over streams)
  -- it was sent the texts of its commands, each from the replies of its own calls
  pub texts_are : left.texts ≡ texts_of (commands_over streams) calls
  -- its sessions ended where their streams do
  pub ends_are : left.ends ≡ ends_of streams
  -- its holds are all of this connection
  pub holds_are : AreOf conn left.holds
  -- and their counts add up to the number of its commands
  pub held : held_in left.holds ≡ length (commands_over streams)
