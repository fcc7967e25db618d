-- The faults of a capture, docs/FORMATS.md, "Capture": which texts have one of them. Each is the first wrong byte or
-- number, after bytes that encode the beginning of a capture. That the verdict on a text is bad with a fault if and
-- only if the text has it is a law in src/captures.rt.
use Rattle.zy_capture.specs.Capture.{front_text, letters, capture_magic, spelling, IsCapture, Spells, capture_limit}
use Rattle.zy_capture.specs.Capture.{connection_limit, segment_limit}
use Rattle.std.specs.Prelude.{◌≡◌, ◌⊎◌, ℕ, ◌+◌, ◌^◌, ◌<◌, ◌≤◌, List, ◌∷◌, ◌++◌, length}
use Rattle.std.specs.Int.{to_be_bytes, w32}
use Rattle.format_laws.specs.BadMagic.{IsBadMagic}
use Rattle.format_laws.specs.Faults.{HasFaultBy}
use Rattle.zy_capture.specs.declared.record.Record.{Record}
use Rattle.zy_capture.specs.declared.capture_fault.CaptureFault.{CaptureFault}
use Rattle.zy_capture.specs.declared.capture_fault.CaptureFault.TheVariants.{BadMagic, ConnCount, BadTag, ConnRange}
use Rattle.zy_capture.specs.declared.capture_fault.CaptureFault.TheVariants.{SegmentLength, Truncated, Trailing}
use Rattle.zy_capture.specs.declared.capture_fault.CaptureFault.TheVariants.{TooLong}

-- ---- beginnings

-- a text goes on with `tail` after the records of a capture, which have `at` bytes with what comes
-- before them
pub record CaptureGoesOn (text : List ℕ) (version count : ℕ) (items : List Record) (at : ℕ) (tail : List ℕ)
    : Type 0 where
  pub valid : IsCapture version count items
  pub whole : text ≡ front_text version count items ++ tail
  pub place : at ≡ length (front_text version count items)

-- ---- faults

-- a count of over 4,096 follows the magic
pub record IsCountOver (text : List ℕ) (number : ℕ) : Type 0 where
  pub version : ℕ
  pub rest : List ℕ
  pub known : (version ≡ 1) ⊎ (version ≡ 2)
  pub whole : text ≡ capture_magic version ++ to_be_bytes w32 number ++ rest
  pub over : connection_limit < number
  pub fits : number < 2 ^ 32

-- where a record or the end is expected, there is this byte, which is neither a tag nor the end
pub record IsBadTag (text : List ℕ) (at byte : ℕ) : Type 0 where
  pub version : ℕ
  pub count : ℕ
  pub items : List Record
  pub rest : List ℕ
  pub front : CaptureGoesOn text version count items at (byte ∷ rest)
  pub no_segment : byte ≡ 83 → ⊥
  pub no_end : byte ≡ 69 → ⊥
  pub no_close : version ≡ 2 → byte ≡ 67 → ⊥
  pub within : at < capture_limit

-- the connection of a segment or, in version 2, of a close record is not below the count
pub record IsConnectionOver (text : List ℕ) (at number : ℕ) : Type 0 where
  pub version : ℕ
  pub count : ℕ
  pub items : List Record
  pub tag_at : ℕ
  pub tag : ℕ
  pub rest : List ℕ
  pub front : CaptureGoesOn text version count items tag_at (tag ∷ (to_be_bytes w32 number ++ rest))
  pub known : (tag ≡ 83) ⊎ ((tag ≡ 67) × (version ≡ 2))
  pub place : at ≡ tag_at + 1
  pub over : count ≤ number
  pub fits : number < 2 ^ 32
  pub within : at + 3 < capture_limit

-- the length of a segment is over 65,535
pub record IsLengthOver (text : List ℕ) (at number : ℕ) : Type 0 where
  pub version : ℕ
  pub count : ℕ
  pub items : List Record
  pub tag_at : ℕ
  pub conn : ℕ
  pub rest : List ℕ
  pub front : CaptureGoesOn text version count items tag_at
      (83 ∷ (to_be_bytes w32 conn ++ (to_be_bytes w32 number ++ rest)))
  pub below : conn < count
  pub place : at ≡ tag_at + 5
  pub over : segment_limit < number
  pub fits : number < 2 ^ 32
  pub within : at + 3 < capture_limit

-- a byte follows a capture
pub record IsTrailing (text : List ℕ) (at : ℕ) : Type 0 where
  pub version : ℕ
  pub count : ℕ
  pub items : List Record
  pub byte : ℕ
  pub rest : List ℕ
  pub valid : IsCapture version count items
  pub whole : text ≡ spelling version count items ++ byte ∷ rest
  pub place : at ≡ length (spelling version count items)
  pub within : at ≤ capture_limit

-- a byte or a number of the text is wrong, or comes after the end
abbrev pub IsWrongCapture : List ℕ → CaptureFault → Type 0
IsWrongCapture text (BadMagic at) = IsBadMagic letters text at
IsWrongCapture text (ConnCount number) = IsCountOver text number
IsWrongCapture text (BadTag at byte) = IsBadTag text at byte
IsWrongCapture text (ConnRange at number) = IsConnectionOver text at number
IsWrongCapture text (SegmentLength at number) = IsLengthOver text at number
IsWrongCapture text (Trailing at) = IsTrailing text at
IsWrongCapture text (Truncated at) = ⊥
IsWrongCapture text TooLong = ⊥

-- the text is a capture
abbrev pub IsAnyCapture : List ℕ → Type 0
IsAnyCapture text = (version : ℕ) × ((count : ℕ) × ((items : List Record) × Spells text version count items))

-- the text has this fault
abbrev pub HasFaultAsCapture : List ℕ → CaptureFault → Type 0
HasFaultAsCapture text fault = HasFaultBy capture_limit Truncated TooLong IsAnyCapture IsWrongCapture text fault
