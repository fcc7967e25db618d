-- The view that the argument parser `clap` has of a command whose options each take one value. No
-- public clause cites this module.
use Rattle.std.specs.Prelude.{◌≡◌, List, [], ◌∷◌, map, Option, Some, None, true, ⊤}
use Rattle.clap.specs.Walk.{Row, Rule, Text, reading_by, rows_of}
use Rattle.clap.specs.Matches.{found_of}
use Rattle.clap.specs.declared.parser.matches.ArgMatches.{ArgMatches}
use Rattle.clap.specs.Simple.{App, Shape, new_rule, new_shape, filled}
use Rattle.clap.specs.declared.builder.ArgAction.TheVariants.{Set}
use Rattle.clap.specs.declared.parser.matches.ValueSource.TheVariants.{CommandLine}
use Rattle.zy_command_line.specs.Grammar.{Options}

-- an option that takes one value
abbrev pub option_rule : Text → Rule
option_rule name = record (new_rule name) { long = Some name; action = Some Set }

-- the option, with the parts that the parser fills in
abbrev pub plain_rule : Text → Rule
plain_rule name = filled (option_rule name)

-- a command with these options, that expects no word for its own name, and has no options for help or a version
abbrev pub app_with : Text → List Rule → App
app_with command rules = record {
  top = record (new_shape command) {
    rules = rules;
    no_binary_name = true;
    disable_help_flag = true;
    disable_version_flag = true;
  };
  subs = [];
}

-- the same, built
abbrev pub shape_with : Text → List Rule → Shape
shape_with command rules = record (new_shape command) {
  rules = rules;
  no_binary_name = true;
  disable_help_flag = true;
  disable_help_subcommand = true;
  disable_version_flag = true;
  is_built = true;
}

-- the command whose options have these names
abbrev pub app_named : Text → List Text → App
app_named command names = app_with command (map option_rule names)

-- what the parser keeps of an option with its value
abbrev pub row_of_option : Text → Text → Row
row_of_option name value =
    record {
      id = name;
      values = value ∷ [];
      count = None;
      source = Some CommandLine;
      reading = reading_by (plain_rule name);
    }

-- what the parser keeps of all options
abbrev pub rows_for : Options → List Row
rows_for options = map (λ option. row_of_option option.0 option.1) options

-- ---- what is found

-- the matches have the values of these options
abbrev pub HasOptions : Options → ArgMatches → Type 0
HasOptions options matches = rows_of (found_of matches) ≡ rows_for options

-- there are matches exactly if the words spell options, and the matches have the values of these
abbrev pub SplitsTo : Option Options → Option ArgMatches → Type 0
SplitsTo None None = ⊤
SplitsTo (Some options) (Some matches) = HasOptions options matches
SplitsTo None (Some matches) = ⊥
SplitsTo (Some options) None = ⊥
