-- What was read of a line: its name with the place of the text after it, or what a storage line says.
use Rattle.std.specs.Prelude.{◌≡◌, ℕ, ◌-◌, ◌≤◌, List, length, take, drop, ⊤, false, None, MatchOption}
use Rattle.mc_parse.specs.declared.name.Name.{Name}
use Rattle.mc_parse.specs.declared.name.Name.TheVariants.{Store}
use Rattle.mc_parse.specs.declared.need.Need.{Need}
use Rattle.mc_parse.specs.declared.need.Need.TheVariants.{Nothing, Block, Quit}
use Rattle.mc_parse.specs.declared.parsed.Parsed.{Parsed}
use Rattle.mc_meta.specs.Meta.{meta_line}
use Rattle.mc_parse.specs.Words.{words}
use Rattle.mc_parse.specs.Form.{Ask, stores, exchanges, asks, form_after, meta_form, line_form}
use Rattle.mc_parse.specs.Need.{need}

-- nothing yet
abbrev pub nothing_parsed : Parsed
nothing_parsed =
    record { unique = 0; flags = 0; from = 0; to = 0; name = None; quiet = false }

-- ---- names

-- a line has no name, and says what it says as a meta command
abbrev pub IsUnnamed : List ℕ → Type 0
IsUnnamed line = line_form line ≡ meta_form line (meta_line line)

-- a line says what this name says with the words after a place
pub record IsNamed (line : List ℕ) (parsed : Parsed) (name : Name) : Type 0 where
  pub within : parsed.from ≤ length line
  pub says : line_form line ≡ form_after name (words (drop parsed.from line))

-- ---- a storage line

-- what a storage line asks for: a verb stores as it says, and any other name is `cas`
abbrev pub stored_ask : Name → List ℕ → ℕ → ℕ → ℕ → Ask
stored_ask (Store verb) key flags bytes unique = stores verb key flags bytes
stored_ask name key flags bytes unique = exchanges key flags bytes unique

-- the key of a line, at its place
abbrev pub line_key : List ℕ → Parsed → List ℕ
line_key line parsed = take (parsed.to - parsed.from) (drop parsed.from line)

-- a line asks to store, as this name does, some number of bytes under the key at its place
pub record IsStoring (line : List ℕ) (parsed : Parsed) (name : Name) : Type 0 where
  pub order : parsed.from ≤ parsed.to
  pub within : parsed.to ≤ length line
  pub bytes : ℕ
  pub says : line_form line
      ≡ asks (stored_ask name (line_key line parsed) parsed.flags bytes parsed.unique) parsed.quiet

-- ---- lines

-- this is what may be read of a line with this need
abbrev pub IsParsedBy : Need → List ℕ → Parsed → Type 0
IsParsedBy Nothing line parsed = MatchOption parsed.name (IsUnnamed line) (IsNamed line parsed)
IsParsedBy (Block bytes) line parsed = MatchOption parsed.name (IsUnnamed line) (IsStoring line parsed)
IsParsedBy Quit line parsed = ⊤

-- this was read of a line
unfoldable pub IsParsed : List ℕ → Parsed → Type 0
IsParsed line parsed = IsParsedBy (need line) line parsed
