-- The rows that the parser keeps, and its rules, in terms of the names of options.
use Rattle.std.proofs.Common.{◌≡◌, ◌<◌, ◌+◌, ℕ, suc, arith, List, [], ◌∷◌, ◌++◌, map, take, length, get_or, refl, sym, ◌∙◌, ap, Bool, true, false, Bor}
use Rattle.std.proofs.Math.Seq.{take-suc}
use Rattle.std.proofs.lemmas.List.{map-append}
use Rattle.clap.specs.Words.{with_rule}
use Rattle.std.specs.Prelude.{Option, Some, None, ◌||◌, find, if◌then◌else◌, fold, option_and_then, slice_get}
use Rattle.std.specs.Str.{bytes_eq}
use Rattle.std.specs.List.{list_any, list_all}
use Rattle.std.proofs.lemmas.List.{append-nil}
use Rattle.std.proofs.lemmas.List.Folds.{list_any-append}
use Rattle.std.proofs.lemmas.Slice.Eq.{bytes_eq-Decides}
use Rattle.clap.specs.Walk.{Row, Rule, Text, has_row, at_row, more_values, with_values, reading_by, used, arg_by_long, arg_by_id, arg_by_index, with_default, first_of, is_early_multiple}
use Rattle.clap.specs.Simple.{filled_from, is_simple}
use Rattle.clap.specs.Faults.{is_simple_and_free}
use Rattle.clap.specs.declared.parser.matches.ValueSource.TheVariants.{CommandLine}
use Rattle.zy_command_line.specs.Grammar.{Options, is_among, value_of}
use Rattle.zy_command_line.specs.Splitting.{option_rule, plain_rule, app_with, app_named, row_of_option, rows_for}

-- ---- rules

-- the rules as the parser builds them
pub filled_names : (names : List Text) → filled_from 1 (map option_rule names) ≡ map plain_rule names
filled_names [] = refl
filled_names (n ∷ names) = ap (λ (rules : List Rule). plain_rule n ∷ rules) (filled_names names)

pub by_index : (names : List Text) (at : ℕ) → arg_by_index (map plain_rule names) at ≡ None
by_index [] at = refl
by_index (n ∷ names) at = by_index names at

abbrev pub when : Bool → Text → Option Rule
when there name = if there then Some (plain_rule name) else None

same_name : (n name : Text) (later : Option Rule) (test : Bool) → bytes_eq n name ≡ test → (known : Bool) → later ≡ when known name
    → (if test || false then Some (plain_rule n) else later) ≡ when (test || known) name
same_name n name later true is known rest = let same : n ≡ name = (bytes_eq-Decides n name).0 is in ap (λ m. Some (plain_rule m)) same
same_name n name later false is known rest = rest

pub by_long : (names : List Text) (name : Text) → arg_by_long (map plain_rule names) name ≡ when (is_among names name) name
by_long [] name = refl
by_long (n ∷ names) name = same_name n name (arg_by_long (map plain_rule names) name) (bytes_eq n name) refl (is_among names name) (by_long names name)

same_id : (n name : Text) (later : Option Rule) (test : Bool) → bytes_eq n name ≡ test → (known : Bool) → later ≡ when known name
    → (if test then Some (plain_rule n) else later) ≡ when (test || known) name
same_id n name later true is known rest = let same : n ≡ name = (bytes_eq-Decides n name).0 is in ap (λ m. Some (plain_rule m)) same
same_id n name later false is known rest = rest

pub by_id : (names : List Text) (name : Text) → arg_by_id (map plain_rule names) name ≡ when (is_among names name) name
by_id [] name = refl
by_id (n ∷ names) name = same_id n name (arg_by_id (map plain_rule names) name) (bytes_eq n name) refl (is_among names name) (by_id names name)

-- ---- the command is a simple one

all_simple : (names : List Text) → list_all (λ (a : Rule). a.is_simple) (map option_rule names) ≡ true
all_simple [] = refl
all_simple (n ∷ names) = all_simple names

all_built_simple : (names : List Text) → list_all (λ (a : Rule). a.is_simple) (map plain_rule names) ≡ true
all_built_simple [] = refl
all_built_simple (n ∷ names) = all_built_simple names

all_free : (names : List Text) → list_all (λ (a : Rule). a.is_free) (map plain_rule names) ≡ true
all_free [] = refl
all_free (n ∷ names) = all_free names

none_early : (count : ℕ) (names : List Text) → list_any (is_early_multiple count) (map plain_rule names) ≡ false
none_early count [] = refl
none_early count (n ∷ names) = none_early count names

pub simple : (command : Text) (names : List Text) → is_simple (app_named command names) ≡ true
simple command names = rw (all_simple names, filled_names names, all_built_simple names, none_early _ names) refl

pub free : (command : Text) (names : List Text) → is_simple_and_free (app_named command names) ≡ true
free command names = rw (simple command names, filled_names names, all_free names) refl

-- ---- rows

pub or_false : (b : Bool) → (b || false) ≡ b
or_false true = refl
or_false false = refl

pub or_swap : (a b : Bool) → (a || b) ≡ (b || a)
or_swap true true = refl
or_swap true false = refl
or_swap false true = refl
or_swap false false = refl

-- a row that is not there yet is put at the end
at_end_by : (id : Text) (change : Row → List Row) (missing : List Row) (r : Row) (rows : List Row) (test : Bool) → (test || has_row id rows) ≡ false
    → at_row id change missing rows ≡ rows ++ missing → (if test then change r ++ rows else r ∷ at_row id change missing rows) ≡ r ∷ (rows ++ missing)
at_end_by id change missing r rows true none later = cc
at_end_by id change missing r rows false none later = ap (λ (l : List Row). r ∷ l) later

no_row : (a b : Bool) → (a || b) ≡ false → b ≡ false
no_row true b e = cc
no_row false b e = e

at_end : (id : Text) (change : Row → List Row) (missing rows : List Row) → has_row id rows ≡ false → at_row id change missing rows ≡ rows ++ missing
at_end id change missing [] none = refl
at_end id change missing (r ∷ rows) none =
    at_end_by id change missing r rows (bytes_eq r.id id) none (at_end id change missing rows (no_row _ _ none))

-- the rows after an option was used for the first time
pub rows_used : (name value : Text) (rows : List Row) → has_row name rows ≡ false → used (plain_rule name) (value ∷ []) rows ≡ rows ++ row_of_option name value ∷ []
rows_used name value rows fresh =
    let kept : at_row name (λ _. []) [] rows ≡ rows = at_end name (λ _. []) [] rows fresh ∙ append-nil rows in
    ap (λ (l : List Row). with_values name (reading_by (plain_rule name)) CommandLine (value ∷ []) l) kept
    ∙ at_end name (more_values CommandLine (value ∷ [])) (row_of_option name value ∷ []) rows fresh

-- there is a row for each option that was used, and for no other
abbrev pub SameUse : List Row → List Text → Type 0
SameUse rows names = (name : Text) → has_row name rows ≡ is_among names name

pub same_use : (name value : Text) (rows : List Row) (names : List Text) → SameUse rows names → SameUse (rows ++ row_of_option name value ∷ []) (name ∷ names)
same_use name value rows names same n =
    list_any-append (λ (r : Row). bytes_eq r.id n) rows (row_of_option name value ∷ []) ∙ ap (λ b. has_row n rows || b) (or_false (bytes_eq name n))
    ∙ or_swap (has_row n rows) (bytes_eq name n) ∙ ap (λ b. bytes_eq name n || b) (same n)

-- options without a default add no row
defaults_by : (n : Text) (names : List Text) (rows : List Row) (there : Bool) → fold with_default rows (map plain_rule names) ≡ rows
    → fold with_default (if there then rows else rows) (map plain_rule names) ≡ rows
defaults_by n names rows true later = later
defaults_by n names rows false later = later

pub no_defaults : (names : List Text) (rows : List Row) → fold with_default rows (map plain_rule names) ≡ rows
no_defaults [] rows = refl
no_defaults (n ∷ names) rows = defaults_by n names rows (has_row n rows) (no_defaults names rows)

-- the value of an option is that in its row
value_by : (id : Text) (option : Text × Text) (options : Options) (test : Bool) → first_of id (rows_for options) ≡ value_of id options
    → option_and_then (λ (r : Row). slice_get r.values 0) (if test then Some (row_of_option option.0 option.1) else find (λ (r : Row). bytes_eq r.id id) (rows_for options))
    ≡ (if test then Some option.1 else value_of id options)
value_by id option options true later = refl
value_by id option options false later = later

pub value_is : (id : Text) (options : Options) → first_of id (rows_for options) ≡ value_of id options
value_is id [] = refl
value_is id (option ∷ options) = value_by id option options (bytes_eq option.0 id) (value_is id options)

-- a command with one further option
pub one_more : (command : Text) (names : List (Bor Text)) (i : ℕ) (d : Bor Text) → i < length names
    → with_rule (app_with command (map option_rule (map (λ n. n.now) (take i names)))) (option_rule (get_or names i d).now)
    ≡ app_with command (map option_rule (map (λ n. n.now) (take (i + 1) names)))
one_more command names i d near =
    let longer : take (i + 1) names ≡ take i names ++ get_or names i d ∷ [] = (let n : i + 1 ≡ suc i = omega arith in rw n (take-suc names i d near)) in
    ap (app_with command) (sym (ap (λ (l : List (Bor Text)). map option_rule (map (λ n. n.now) l)) longer
    ∙ ap (map option_rule) (map-append (λ (n : Bor Text). n.now) (take i names) (get_or names i d ∷ [])) ∙ map-append option_rule (map (λ n. n.now) (take i names)) ((get_or names i d).now ∷ [])))
