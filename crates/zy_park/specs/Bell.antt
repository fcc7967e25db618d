-- The seats at the tokens and the parkers of the cores. No public clause cites this module.
use Rattle.std.specs.Prelude.{◌≡◌, Bool, true, false, List, [], ◌∷◌, map, Option, Some, None, ⊤}
use Rattle.atomic_table.specs.Seated.{TableId}
use Rattle.zy_park.specs.declared.view.View.{View}
use Rattle.zy_park.specs.Token.{unrung}

-- a seat: the table that the token is in, and what the seat knows
pub record Seated : Type 0 where
  pub table : TableId
  pub view : View

-- the seat with these parts
abbrev pub seated : TableId → View → Seated
seated table view = record { table = table; view = view }

-- the tables of seats
abbrev pub tables_of : List Seated → List TableId
tables_of seats = map (λ (s : Seated). s.table) seats

-- what each of some seats knows
abbrev pub views_of : List Seated → List View
views_of seats = map (λ (s : Seated). s.view) seats

-- a parker was given if it is no longer there
abbrev pub is_given : Option TableId → Bool
is_given None = true
is_given (Some table) = false

-- which parkers were given
abbrev pub given_of : List (Option TableId) → List Bool
given_of sleepers = map is_given sleepers

-- a new seat at the bell of this table
abbrev pub new_seat : TableId → Seated
new_seat table = seated table unrung

-- a parker that is there is of this table
abbrev pub IsParker : TableId → Option TableId → Type 0
IsParker table None = ⊤
IsParker table (Some own) = own ≡ table

-- there is an entry for the parker of each table
abbrev pub AreParkers : List TableId → List (Option TableId) → Type 0
AreParkers [] [] = ⊤
AreParkers [] (s ∷ ss) = ⊥
AreParkers (t ∷ ts) [] = ⊥
AreParkers (t ∷ ts) (s ∷ ss) = IsParker t s × AreParkers ts ss
