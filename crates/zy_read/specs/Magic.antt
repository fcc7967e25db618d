-- The magic with which a text begins, byte after byte: six letters, the digit of a version, which is 1 or 2, and a line
-- feed.
use Rattle.std.specs.Prelude.{◌≡◌, ◌⊎◌, ℕ, ◌+◌, ◌<◌, ◌≤◌, ◌==◌, if◌then◌else◌, List, [], ◌∷◌, ◌++◌, length, take}
use Rattle.std.specs.Prelude.{Option, None, Some, ⊤}
use Rattle.std.specs.List.{slice_index}
use Rattle.zy_read.specs.Fields.{Judged, Fields}
use Rattle.zy_read.specs.Fields.Judged.{Then, Wrong as IsFault}
use Rattle.zy_read.specs.declared.magic.MagicPart.{MagicPart}
use Rattle.zy_read.specs.declared.magic.MagicPart.TheVariants.{Letters, Digit, LineFeed}
use Rattle.zy_read.specs.declared.magic.MagicStep.{MagicStep}
use Rattle.zy_read.specs.declared.magic.MagicStep.TheVariants.{Next, Whole, Wrong}

-- what a byte does at a letter
abbrev pub letter : List ℕ → ℕ → ℕ → MagicStep
letter letters at byte =
    if byte == slice_index letters at then (if at == 5 then Next Digit else Next Letters) else Wrong

-- what a byte does at the digit of the version
abbrev pub digit : ℕ → MagicStep
digit byte = if byte == 49 then Next (LineFeed 1) else if byte == 50 then Next (LineFeed 2) else Wrong

-- what a byte does at the line feed
abbrev pub line_feed : ℕ → ℕ → MagicStep
line_feed version byte = if byte == 10 then Whole version else Wrong

-- what a byte does when this part of the magic with these letters is next and this many bytes were read
abbrev pub magic_step : MagicPart → List ℕ → ℕ → ℕ → MagicStep
magic_step Letters letters at byte = letter letters at byte
magic_step Digit letters at byte = digit byte
magic_step (LineFeed version) letters at byte = line_feed version byte

-- the place is one of the part
abbrev pub IsInMagic : MagicPart → ℕ → Type 0
IsInMagic Letters at = at < 6
IsInMagic part at = ⊤

-- the bytes of a magic before this part, of which this many are read
abbrev pub magic_before : MagicPart → List ℕ → ℕ → List ℕ
magic_before Letters letters at = take at letters
magic_before Digit letters at = letters
magic_before (LineFeed version) letters at = letters ++ (48 + version) ∷ []

-- ---- texts

-- the magic of a version: the letters, the version's digit and a line feed
abbrev pub magic_of : List ℕ → ℕ → List ℕ
magic_of letters version = letters ++ (48 + version) ∷ 10 ∷ []

-- the text begins with the magic of a version
pub record HasMagic (letters text : List ℕ) (version : ℕ) : Type 0 where
  pub rest : List ℕ
  pub known : (version ≡ 1) ⊎ (version ≡ 2)
  pub whole : text ≡ magic_of letters version ++ rest

-- the version of a magic; the number is 0 until the magic was read whole
abbrev pub version_in : ℕ → Option ℕ
version_in version = if version == 0 then None else Some version

-- ---- fields

-- what a byte of the magic does: another part is next, or the magic is whole and the state after it is next, or it is
-- this fault
abbrev pub magic_judged : {S G F : Type 0} → (MagicPart → S) → (ℕ → S) → F → MagicStep → Judged S G F
magic_judged part_next after fault (Next part) = Then (part_next part)
magic_judged part_next after fault (Whole version) = Then (after version)
magic_judged part_next after fault Wrong = IsFault fault

-- the first fields are the bytes of a magic with these letters
pub record ReadsMagic {S G F : Type 0} (fields : Fields S G F) (letters : List ℕ) (part_next : MagicPart → S)
    (after : ℕ → S) (form : ℕ → F) : Type 0 where
  pub six : length letters ≡ 6
  pub start_is : fields.start ≡ part_next Letters
  pub widths : (part : MagicPart) → fields.width (part_next part) ≡ 1
  pub judges : (part : MagicPart) (at byte : ℕ) → fields.judge (part_next part) at (byte ∷ [])
      ≡ magic_judged part_next after (form at) (magic_step part letters at byte)
  pub room : 8 ≤ fields.limit
