-- Bytes that are kept by their offsets: the first ones in a row, and those after a gap in runs. No public clause cites
-- this module.
use Rattle.std.specs.Prelude.{◌≡◌, ℕ, ◌+◌, ◌-◌, ◌^◌, ◌<◌, ◌≤◌, nat_le, nat_lt, if◌then◌else◌, ◌&&◌, List, [], ◌∷◌}
use Rattle.std.specs.Prelude.{length, min, Option, None, Some, slice_get, slice_index, slice_range, Bool, false, ⊤}
use Rattle.std.specs.List.{AllByRecursion}
use Rattle.std.specs.BTreeMap.{is_at}
use Rattle.std.specs.Map.{lookup}
use Rattle.std.specs.Ordering.{nat_cmp}
use Rattle.zy_pcap.specs.declared.held.HeldBytes.{HeldBytes}
use Rattle.zy_pcap.specs.Session.{byte_or_other}

-- the byte at an offset, of bytes that begin at some offset
abbrev pub covered : List ℕ → ℕ → ℕ → Option ℕ
covered bytes from at =
    if nat_le from at && nat_lt at (from + length bytes) then Some (slice_index bytes (at - from)) else None

-- bytes that begin at an offset
abbrev pub Run : Type 0
Run = ℕ × List ℕ

-- the byte at an offset, of the first of some runs that has it
abbrev pub runs_at : List Run → ℕ → Option ℕ
runs_at [] at = None
runs_at (run ∷ runs) at = byte_or_other (covered run.1 run.0 at) (runs_at runs at)

-- each run begins where those before it do, or later
abbrev pub Rise : List Run → Type 0
Rise [] = ⊤
Rise (run ∷ runs) = AllByRecursion (λ (other : Run). run.0 ≤ other.0) runs × Rise runs

-- all bytes are as they were
abbrev pub HoldsSame : (ℕ → Option ℕ) → (ℕ → Option ℕ) → Type 0
HoldsSame old new = (at : ℕ) → new at ≡ old at

-- each offset has the byte that it had; an offset without one has that of the second, if it has one
abbrev pub HoldsBoth : (ℕ → Option ℕ) → (ℕ → Option ℕ) → (ℕ → Option ℕ) → Type 0
HoldsBoth old new more = (at : ℕ) → new at ≡ byte_or_other (old at) (more at)

-- ---- the row, and the runs

-- the byte at an offset, of a row of the first ones or else of runs
abbrev pub byte_in : List ℕ → List Run → ℕ → Option ℕ
byte_in front runs at = byte_or_other (covered front 0 at) (runs_at runs at)

-- bytes that are kept by their offsets
pub record HeldParts : Type 0 where
  -- those from the first one on, in a row
  pub front : List ℕ
  -- others, in runs
  pub runs : List Run

-- the byte at an offset
unfoldable pub byte_held : HeldParts → ℕ → Option ℕ
byte_held parts at = byte_in parts.front parts.runs at

-- what is kept
abbrev pub parts : HeldBytes → HeldParts
parts held = record { front = held.front.items; runs = held.runs.entries }

-- the most bytes of a row
abbrev pub row_limit : ℕ
row_limit = 2 ^ 31

-- a row has all bytes up to the first one that is missing
abbrev pub IsWholeRow : List ℕ → List Run → Type 0
IsWholeRow front runs = (length front ≤ row_limit) × (length front < row_limit → runs_at runs (length front) ≡ None)

-- the row that is kept has
abbrev pub IsWhole : HeldBytes → Type 0
IsWhole held = IsWholeRow held.front.items held.runs.entries

-- the row has come to the end of the first run
abbrev pub IsOver : HeldBytes → Type 0
IsOver held =
    (run : Run) × ((slice_get held.runs.entries 0 ≡ Some run) × (run.0 + length run.1 ≤ length held.front.items))

-- ---- bytes that come

-- the byte at an offset, of runs or else of bytes that come
abbrev pub woven_at : List Run → List ℕ → ℕ → ℕ → Option ℕ
woven_at runs bytes from at = byte_or_other (runs_at runs at) (covered bytes from at)

-- these are the bytes from an offset on
abbrev pub AreThere : (ℕ → Option ℕ) → ℕ → List ℕ → Type 0
AreThere byte from bytes = (d : ℕ) → d < length bytes → byte (from + d) ≡ Some (slice_index bytes d)

-- the same, up to the first one that is missing or to a limit
pub record AreAll (byte : ℕ → Option ℕ) (from limit : ℕ) (bytes : List ℕ) : Type 0 where
  pub there : AreThere byte from bytes
  pub within : from + length bytes ≤ limit
  pub ends : from + length bytes < limit → byte (from + length bytes) ≡ None

-- those of bytes that begin at one offset that are from another one on, up to an end
abbrev pub next_of : ℕ → ℕ → List ℕ → ℕ → List ℕ
next_of at begin bytes end = slice_range bytes (at - begin) (min (length bytes) (end - begin))

-- there is a run, and it has at least this many bytes
abbrev pub is_long : Option (List ℕ) → ℕ → Bool
is_long None size = false
is_long (Some run) size = nat_le size (length run)

-- there is a run that begins at an offset, with at least this many bytes
abbrev pub has_run : List Run → ℕ → ℕ → Bool
has_run runs from size = is_long (lookup (is_at (nat_cmp from)) runs) size
