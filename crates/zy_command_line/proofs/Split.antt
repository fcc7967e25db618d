-- A command with these options is split if and only if its words spell options.
use Rattle.std.proofs.Common.{inl, inr, ◌≡◌, List, [], ◌∷◌, map, refl, sym, ◌∙◌, ap, subst, Bool, true, false}
use Rattle.std.specs.Prelude.{Option, Some, None, ◌&&◌, ◌||◌, not, is_some, if◌then◌else◌}
use Rattle.std.specs.List.{list_any, list_all}
use Rattle.clap.specs.Kinds.{Kinds, or_else, check_kinds, HasKind, IsAmong}
use Rattle.clap.specs.Takes.{is_given}
use Rattle.clap.specs.Walk.{Row, Rule, Text, walk, walk_from, nothing_held, has_row, finished, settled, rows_of, first_of}
use Rattle.clap.specs.Simple.{App, built, entered, matches_of, HasMatchesOf}
use Rattle.clap.specs.Faults.{is_simple_and_free, fault_of, built_fault, level_fault, walk_fault, settle_fault, defaults_fault, given_default_fault, check_fault, entered_fault}
use Rattle.clap.specs.Matches.{found_of, first_value}
use Rattle.clap.specs.declared.parser.matches.ArgMatches.{ArgMatches}
use Rattle.clap.specs.declared.error.kind.ErrorKind.{ErrorKind}
use Rattle.clap.specs.declared.error.kind.ErrorKind.TheVariants as kind
use Rattle.clap.specs.declared.error.Error.{Error}
use Rattle.clap.specs.Values.{kind_of}
use Rattle.clap.proofs.WalkLemmas.{first_value-rows}
use Rattle.zy_command_line.specs.Grammar.{Options, is_plain, options_from, options_of, value_of}
use Rattle.zy_command_line.specs.Splitting.{plain_rule, app_named, shape_with, HasOptions, SplitsTo}
use Rattle.zy_command_line.proofs.Rows.{filled_names, no_defaults, value_is, simple, free}
use Rattle.zy_command_line.proofs.Turns.{IsWord, word_is, S, faults, end_rows}
use Rattle.zy_command_line.proofs.Spelling.{Outcome, AreWords, reads}

-- ---- only the walk finds faults

abbrev built_app : Text → List Rule → App
built_app command rules = record { top = shape_with command rules; subs = [] }

built_is : (command : Text) (names : List Text) → built (app_named command names) ≡ built_app command (map plain_rule names)
built_is command names = ap (built_app command) (filled_names names)

or_nothing : (ks : Kinds) → or_else ks [] ≡ ks
or_nothing [] = refl
or_nothing (k ∷ ks) = refl

default_by : (n : Text) (names : List Text) (rows : List Row) (there : Bool) → defaults_fault rows (map plain_rule names) ≡ []
    → or_else (if there || true then [] else given_default_fault (plain_rule n) []) (defaults_fault (if there then rows else rows) (map plain_rule names)) ≡ []
default_by n names rows true later = later
default_by n names rows false later = later

no_default_fault : (names : List Text) (rows : List Row) → defaults_fault rows (map plain_rule names) ≡ []
unfolding defaults_fault
no_default_fault [] rows = refl
no_default_fault (n ∷ names) rows = default_by n names rows (has_row n rows) (no_default_fault names rows)

none_required : (names : List Text) (rows : List Row) → list_any (λ (a : Rule). a.required && not (is_given a.id rows)) (map plain_rule names) ≡ false
none_required [] rows = refl
none_required (n ∷ names) rows = none_required names rows

no_check_fault : (command : Text) (names : List Text) (rows : List Row) → check_fault (S command names) rows false ≡ []
no_check_fault command names rows = ap (λ b. check_kinds false false b) (none_required names rows)

level_is : (command : Text) (names words : List Text) → level_fault (S command names) [] nothing_held words false [] ≡ faults (S command names) (walk_from nothing_held) words
level_is command names words =
    let s = S command names in
    let end = (walk s.rules [] nothing_held words).held in
    ap (λ (ks : Kinds). or_else (walk_fault s [] (walk_from nothing_held) words) (or_else (settle_fault s.rules false end) ks))
    (ap (λ (ks : Kinds). or_else ks (check_fault s (finished s.rules end) false)) (no_default_fault names (settled s.rules end).rows) ∙ no_check_fault command names (finished s.rules end))
    ∙ ap (λ (ks : Kinds). or_else (walk_fault s [] (walk_from nothing_held) words) ks) (or_nothing (settle_fault s.rules false end))

by_stop : (command : Text) (names words : List Text) (stop : Option (Text × List Text))
    → level_fault (S command names) [] nothing_held words (is_some (entered (built_app command (map plain_rule names)) stop)) (entered_fault (built_app command (map plain_rule names)) stop)
    ≡ level_fault (S command names) [] nothing_held words false []
by_stop command names words None = refl
by_stop command names words (Some p) = refl

fault_is : (command : Text) (names words : List Text) → fault_of (app_named command names) words ≡ faults (S command names) (walk_from nothing_held) words
fault_is command names words =
    ap (λ (a : App). built_fault a nothing_held words) (built_is command names)
    ∙ by_stop command names words (walk (S command names).rules [] nothing_held words).stopped ∙ level_is command names words

rows_are : (command : Text) (names words : List Text) → matches_of (app_named command names) words ≡ end_rows (S command names) (walk_from nothing_held) words
rows_are command names words =
    ap (λ (rules : List Rule). matches_of (record { top = record (shape_with command rules) { disable_help_subcommand = true }; subs = [] }) words) (filled_names names)
    ∙ no_defaults names (end_rows (S command names) (walk_from nothing_held) words)

-- ---- what the words spell

each_word : (first : Bool) (w : Text) (ws : List Text) → is_plain w ≡ first → (first && list_all is_plain ws) ≡ true → IsWord w × (list_all is_plain ws ≡ true)
each_word true w ws is e = (word_is w is, e)
each_word false w ws is e = cc

words_are : (command : Text) (names words : List Text) → list_all is_plain words ≡ true → AreWords command names words
words_are command names [] e = tt
words_are command names (w ∷ ws) e = let each = each_word (is_plain w) w ws refl e in (each.0, words_are command names ws each.1)

pub spelled : (command : Text) (names words : List Text) → list_all is_plain words ≡ true
    → Outcome (fault_of (app_named command names) words) (matches_of (app_named command names) words) [] (options_from names [] None words)
spelled command names words plain =
    rw (fault_is command names words, rows_are command names words) ((reads command names words (words_are command names words plain)).start [] [] (λ name. refl))

-- the options found are those that the words spell
spelled_of : (command : Text) (names words : List Text) → list_all is_plain words ≡ true
    → Outcome (fault_of (app_named command names) words) (matches_of (app_named command names) words) [] (options_of names words)
spelled_of command names words plain = rw plain (spelled command names words plain)

found_by : (o : Option Options) (ks : Kinds) (after : List Row) (m : ArgMatches) → Outcome ks after [] o → ks ≡ [] → rows_of (found_of m) ≡ after → SplitsTo o (Some m)
found_by None ks after m out none rows = let bad : ks ≡ out.kind ∷ out.others = out.is in cc
found_by (Some options) ks after m out none rows = rows ∙ out.1

-- if the words have no fault, the parser found what they spell
pub found_all : (command : Text) (names words : List Text) (m : ArgMatches) → list_all is_plain words ≡ true → fault_of (app_named command names) words ≡ []
    → rows_of (found_of m) ≡ matches_of (app_named command names) words → SplitsTo (options_of names words) (Some m)
found_all command names words m plain none rows = found_by (options_of names words) _ _ m (spelled_of command names words plain) none rows

refused_by : (o : Option Options) (ks : Kinds) (after : List Row) (k : ErrorKind) → Outcome ks after [] o → IsAmong k ks → SplitsTo o None
refused_by None ks after k out among = tt
refused_by (Some options) ks after k out among = let bad : IsAmong k [] = rw out.0 at among in absurd bad

-- if the words have a fault, they spell no options
pub found_none : (command : Text) (names words : List Text) (k : ErrorKind) → list_all is_plain words ≡ true → IsAmong k (fault_of (app_named command names) words) → SplitsTo (options_of names words) None
found_none command names words k plain among = refused_by (options_of names words) _ _ k (spelled_of command names words plain) among

-- the value of an option is the one that was found
pub value_found : (m : ArgMatches) (options : Options) (name : Text) → HasOptions options m → first_value (found_of m) name ≡ value_of name options
value_found m options name has = first_value-rows (found_of m) name ∙ ap (first_of name) has ∙ value_is name options

-- ---- the same for a command that was built

pub found_all_at : (a : App) (command : Text) (names words : List Text) (m : ArgMatches) → a ≡ app_named command names → list_all is_plain words ≡ true
    → (is_simple_and_free a ≡ true → fault_of a words ≡ []) → HasMatchesOf a words m → SplitsTo (options_of names words) (Some m)
found_all_at a command names words m is plain kinds matches =
    subst (λ (b : App). (is_simple_and_free b ≡ true → fault_of b words ≡ []) → HasMatchesOf b words m → SplitsTo (options_of names words) (Some m)) (sym is)
    (λ none rows. found_all command names words m plain (none (free command names)) (rows (simple command names)).0) kinds matches

pub found_none_at : (a : App) (command : Text) (names words : List Text) (k : ErrorKind) → a ≡ app_named command names → list_all is_plain words ≡ true
    → (is_simple_and_free a ≡ true → IsAmong k (fault_of a words)) → SplitsTo (options_of names words) None
found_none_at a command names words k is plain kinds =
    subst (λ (b : App). (is_simple_and_free b ≡ true → IsAmong k (fault_of b words)) → SplitsTo (options_of names words) None) (sym is)
    (λ among. found_none command names words k plain (among (free command names))) kinds

pub found_none_by : (a : App) (command : Text) (names words : List Text) (e : Error) → a ≡ app_named command names → list_all is_plain words ≡ true
    → (is_simple_and_free a ≡ true → HasKind (fault_of a words) e) → (kind_of e ≡ kind.OutOfMemory → ⊥) → SplitsTo (options_of names words) None
found_none_by a command names words e is plain kinds other =
    found_none_at a command names words (kind_of e) is plain (λ s. elim (kinds s) [ inl memory ↦ absurd (other memory) | inr among ↦ among ])
