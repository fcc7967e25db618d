-- The faults of a replies file, docs/FORMATS.md, "Replies": which texts have one of them. Each is the first wrong byte
-- or number, after bytes that encode the beginning of a replies file. That the verdict on a text is bad with a fault if
-- and only if the text has it is a law in src/replies.rt.
use Rattle.zy_capture.specs.Replies.{front_text, connections_after, sessions_after, letters, spelling, IsNextSession}
use Rattle.zy_capture.specs.Replies.{IsRepliesFile, SpellsReplies, replies_limit}
use Rattle.std.specs.Prelude.{◌≡◌, ◌⊎◌, ℕ, ◌+◌, ◌^◌, ◌<◌, ◌≤◌, List, ◌∷◌, ◌++◌, length}
use Rattle.std.specs.Int.{to_be_bytes, w32}
use Rattle.zy_base.specs.declared.file_fault.FileFault.{FileFault}
use Rattle.zy_base.specs.declared.file_fault.FileFault.TheVariants.{Truncated, TooLong}
use Rattle.format_laws.specs.BadMagic.{IsBadMagic}
use Rattle.format_laws.specs.Faults.{IsWrongForm, HasFaultBy}
use Rattle.zy_capture.specs.declared.session_bytes.SessionBytes.{SessionBytes}
use Rattle.zy_capture.specs.Capture.{connection_limit}

-- ---- beginnings

-- a text goes on with `tail` after the records of a replies file, which have `at` bytes with the
-- magic before them
pub record RepliesGoOn (text : List ℕ) (version : ℕ) (items : List SessionBytes) (at : ℕ) (tail : List ℕ) : Type 0 where
  pub valid : IsRepliesFile version items
  pub whole : text ≡ front_text version items ++ tail
  pub place : at ≡ length (front_text version items)

-- ---- counts

-- after these records one of this connection is valid: it is the next connection or, in version 2,
-- the last one again
abbrev pub IsLawfulConnection : ℕ → List SessionBytes → ℕ → Type 0
IsLawfulConnection version items conn =
    (conn < connection_limit)
    × ((conn ≡ connections_after 0 items) ⊎ ((version ≡ 2) × (conn + 1 ≡ connections_after 0 items)))

-- after these records this session of a connection is valid: it is the expected one
abbrev pub IsLawfulSession : ℕ → List SessionBytes → ℕ → ℕ → Type 0
IsLawfulSession version items conn session =
    IsNextSession version (connections_after 0 items) (sessions_after 0 items) conn session × (session < 2 ^ 31)

-- ---- a byte or a number that is wrong

-- where a record or the end is expected, there is a byte which is neither the tag nor the end
pub record IsBadTag (text : List ℕ) (at : ℕ) : Type 0 where
  pub version : ℕ
  pub items : List SessionBytes
  pub byte : ℕ
  pub rest : List ℕ
  pub front : RepliesGoOn text version items at (byte ∷ rest)
  pub no_record : byte ≡ 82 → ⊥
  pub no_end : byte ≡ 69 → ⊥
  pub within : at < replies_limit

-- the connection of a record is invalid
pub record IsBadConnection (text : List ℕ) (at : ℕ) : Type 0 where
  pub version : ℕ
  pub items : List SessionBytes
  pub tag_at : ℕ
  pub number : ℕ
  pub rest : List ℕ
  pub front : RepliesGoOn text version items tag_at (82 ∷ (to_be_bytes w32 number ++ rest))
  pub place : at ≡ tag_at + 1
  pub wrong : IsLawfulConnection version items number → ⊥
  pub fits : number < 2 ^ 32
  pub within : at + 3 < replies_limit

-- in version 2, the session of a record whose connection is valid is not
pub record IsBadSession (text : List ℕ) (at : ℕ) : Type 0 where
  pub version : ℕ
  pub second : version ≡ 2
  pub items : List SessionBytes
  pub tag_at : ℕ
  pub conn : ℕ
  pub number : ℕ
  pub rest : List ℕ
  pub front : RepliesGoOn text version items tag_at (82 ∷ (to_be_bytes w32 conn ++ (to_be_bytes w32 number ++ rest)))
  pub place : at ≡ tag_at + 5
  pub lawful : IsLawfulConnection version items conn
  pub wrong : IsLawfulSession version items conn number → ⊥
  pub fits : number < 2 ^ 32
  pub within : at + 3 < replies_limit

-- a byte follows a replies file
pub record IsTrailing (text : List ℕ) (at : ℕ) : Type 0 where
  pub version : ℕ
  pub items : List SessionBytes
  pub byte : ℕ
  pub rest : List ℕ
  pub valid : IsRepliesFile version items
  pub whole : text ≡ spelling version items ++ byte ∷ rest
  pub place : at ≡ length (spelling version items)
  pub within : at ≤ replies_limit

-- ---- faults

-- a byte or a number of the text is wrong, or comes after the end
abbrev pub IsWrongReplies : List ℕ → ℕ → Type 0
IsWrongReplies text at =
    IsBadMagic letters text at
    ⊎ (IsBadTag text at ⊎ (IsBadConnection text at ⊎ (IsBadSession text at ⊎ IsTrailing text at)))

-- the text is a replies file
abbrev pub IsAnyReplies : List ℕ → Type 0
IsAnyReplies text = (version : ℕ) × ((items : List SessionBytes) × SpellsReplies text version items)

-- the text has this fault
abbrev pub HasFaultAsReplies : List ℕ → FileFault → Type 0
HasFaultAsReplies text fault =
    HasFaultBy replies_limit Truncated TooLong IsAnyReplies (IsWrongForm IsWrongReplies) text fault
