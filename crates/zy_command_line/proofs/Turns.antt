-- The parser's walk at one word: a fault, or a step to another state.
use Rattle.std.proofs.Common.{◌≡◌, List, [], ◌∷◌, map, refl, ◌∙◌, ap, ap₂, subst, Bool, true, false}
use Rattle.std.specs.Prelude.{Option, Some, None, ◌&&◌, ◌||◌, not, is_some, fold}
use Rattle.std.specs.Str.{bytes_eq}
use Rattle.std.proofs.lemmas.Slice.Eq.{bytes_eq-Decides}
use Rattle.clap.specs.Lexer.{long_of, short_of}
use Rattle.clap.specs.declared.error.kind.ErrorKind.TheVariants as kind
use Rattle.clap.specs.declared.error.kind.ErrorKind.{ErrorKind}
use Rattle.clap.specs.Kinds.{Kinds, or_else}
use Rattle.clap.specs.Walk.{Row, Text, Held, Walk, walked, has_row, Waiting, idle, option, long_or_other, after_step, used, settled}
use Rattle.clap.specs.Simple.{Shape}
use Rattle.clap.specs.Faults.{walk_fault, turn_fault, settle_fault, flag_word_fault, step_fault}
use Rattle.zy_command_line.specs.Grammar.{is_among, option_in, is_option, is_plain, is_ascii, has_hyphen}
use Rattle.zy_command_line.specs.Splitting.{plain_rule, shape_with}
use Rattle.zy_command_line.proofs.Rows.{by_index, by_long, by_id}
use Rattle.zy_command_line.proofs.Words.{option_in_is}

abbrev pub held : List Row → Option (Text × List Text) → Held
held rows pending = record { rows = rows; pending = pending; skip = 0 }

abbrev pub standing : Held → Waiting → Walk
standing h waiting = record { held = h; waiting = waiting; position = 1; is_trailing = false; stopped = None }

-- a fault, whatever comes after it
pub record Fails (ks : Kinds) : Type 0 where
  pub kind : ErrorKind
  pub others : Kinds
  pub is : ks ≡ kind ∷ others

-- ---- plain words

abbrev dashes : Text
dashes = 45 ∷ 45 ∷ []

-- a word that is an option if it begins with a hyphen
pub record IsWord (word : Text) : Type 0 where
  pub apart : bytes_eq word dashes ≡ false
  pub no_flags : long_of word ≡ None → short_of word ≡ None

both : (a b : Bool) → (a && b) ≡ true → b ≡ true
both true b e = e
both false b e = cc

-- it is an option, or does not begin with a hyphen
hyphen_told : (option hyphen : Bool) → (option || not hyphen) ≡ true → option ≡ false → hyphen ≡ false
hyphen_told true h e off = cc
hyphen_told false true e off = cc
hyphen_told false false e off = refl

long_told : (lo : Option (Text × Option Text)) → lo ≡ None → is_some lo ≡ false
long_told None e = refl
long_told (Some p) e = cc

short_told : (word : Text) → has_hyphen word ≡ false → short_of word ≡ None
short_told [] e = refl
short_told (b ∷ word) e = rw e refl

not_dashes : (word : Text) → (is_option word || not (has_hyphen word)) ≡ true → (test : Bool) → bytes_eq word dashes ≡ test → test ≡ false
not_dashes word e false is = refl
not_dashes word e true is =
    let same : word ≡ dashes = (bytes_eq-Decides word dashes).0 is in
    let at : (is_option dashes || not (has_hyphen dashes)) ≡ true = subst (λ w. (is_option w || not (has_hyphen w)) ≡ true) same e in cc

pub word_is : (word : Text) → is_plain word ≡ true → IsWord word
word_is word plain =
    let e = both (is_ascii word) (is_option word || not (has_hyphen word)) plain in
    record { apart = not_dashes word e (bytes_eq word dashes) refl; no_flags = λ none. short_told word (hyphen_told (is_option word) (has_hyphen word) e (long_told (option_in word) (option_in_is word ∙ none))) }

-- ---- one turn

-- the fault of one turn, by the form of the word
abbrev pub turn_by : Shape → Option (Text × Option Text) → Text → Held → Waiting → Kinds
turn_by s lo word h waiting =
    let met = long_or_other s.rules waiting word lo h in
    or_else (flag_word_fault s.rules s.args_override_self lo word h) (step_fault s 1 met.0 met.1)

-- the state after one turn, by the form of the word
abbrev pub walk_by : Shape → Option (Text × Option Text) → Text → Held → Waiting → Walk
walk_by s lo word h waiting =
    let met = long_or_other s.rules waiting word lo h in
    after_step s.rules word (standing h waiting) met.0 met.1

turn_is : (s : Shape) (h : Held) (waiting : Waiting) (word : Text) → bytes_eq word dashes ≡ false → turn_fault s [] (standing h waiting) word ≡ turn_by s (long_of word) word h waiting
turn_is s h idle word apart = rw apart refl
turn_is s h (option id) word apart = rw apart refl
turn_is s h Waiting.positional word apart = rw apart refl

walked_is : (s : Shape) (h : Held) (waiting : Waiting) (word : Text) → bytes_eq word dashes ≡ false → walked s.rules [] (standing h waiting) word ≡ walk_by s (long_of word) word h waiting
unfolding walked
walked_is s h idle word apart = rw apart refl
walked_is s h (option id) word apart = rw apart refl
walked_is s h Waiting.positional word apart = rw apart refl

-- ---- all words

-- the faults from a state on
abbrev pub faults : Shape → Walk → List Text → Kinds
faults s w words = or_else (walk_fault s [] w words) (settle_fault s.rules false (fold (walked s.rules []) w words).held)

-- the rows at the end of the words
abbrev pub end_rows : Shape → Walk → List Text → List Row
end_rows s w words = (settled s.rules (fold (walked s.rules []) w words).held).rows

or_else_assoc : (a b c : Kinds) → or_else (or_else a b) c ≡ or_else a (or_else b c)
or_else_assoc [] b c = refl
or_else_assoc (k ∷ ks) b c = refl

faults_step : (s : Shape) (w : Walk) (word : Text) (words : List Text) → faults s w (word ∷ words) ≡ or_else (turn_fault s [] w word) (faults s (walked s.rules [] w word) words)
unfolding walk_fault
faults_step s w word words = or_else_assoc (turn_fault s [] w word) (walk_fault s [] (walked s.rules [] w word) words) _

pub faults_turn : (s : Shape) (h : Held) (waiting : Waiting) (word : Text) (words : List Text) → IsWord word
    → faults s (standing h waiting) (word ∷ words) ≡ or_else (turn_by s (long_of word) word h waiting) (faults s (walk_by s (long_of word) word h waiting) words)
faults_turn s h waiting word words is =
    faults_step s (standing h waiting) word words ∙ ap₂ (λ (a : Kinds) (m : Walk). or_else a (faults s m words)) (turn_is s h waiting word is.apart) (walked_is s h waiting word is.apart)

pub rows_turn : (s : Shape) (h : Held) (waiting : Waiting) (word : Text) (words : List Text) → IsWord word
    → end_rows s (standing h waiting) (word ∷ words) ≡ end_rows s (walk_by s (long_of word) word h waiting) words
rows_turn s h waiting word words is = ap (λ (m : Walk). end_rows s m words) (walked_is s h waiting word is.apart)

-- ---- what a turn does

module _ (command : Text) (names : List Text) where
  abbrev pub S : Shape
  S = shape_with command (map plain_rule names)

  -- a word that is not an option, where no option waits
  pub stray : (word : Text) (rows : List Row) (pending : Option (Text × List Text)) → short_of word ≡ None → Fails (turn_by S None word (held rows pending) idle)
  stray word rows pending plain = record { kind = kind.UnknownArgument; others = []; is = rw (plain, by_index names 1) refl }

  -- an option that does not exist
  pub unknown : (h : Held) (waiting : Waiting) (word name : Text) (text : Option Text) → is_among names name ≡ false → Fails (turn_by S (Some (name, text)) word h waiting)
  unknown h waiting word name text strange = record { kind = kind.UnknownArgument; others = []; is = rw (by_long names name, strange) refl }

  -- an option with its value in one word
  pub one_word : (rows : List Row) (word name text : Text) → is_among names name ≡ true → has_row name rows ≡ false
      → (turn_by S (Some (name, Some text)) word (held rows None) idle ≡ []) × (walk_by S (Some (name, Some text)) word (held rows None) idle ≡ standing (held (used (plain_rule name) (text ∷ []) rows) None) idle)
  one_word rows word name text known fresh = (rw (by_long names name, known, fresh) refl, rw (by_long names name, known) refl)

  -- the same again
  pub repeated : (rows : List Row) (word name text : Text) → is_among names name ≡ true → has_row name rows ≡ true → Fails (turn_by S (Some (name, Some text)) word (held rows None) idle)
  repeated rows word name text known again = record { kind = kind.ArgumentConflict; others = []; is = rw (by_long names name, known, again) refl }

  -- an option that waits for its value
  pub alone : (rows : List Row) (word name : Text) → is_among names name ≡ true
      → (turn_by S (Some (name, None)) word (held rows None) idle ≡ []) × (walk_by S (Some (name, None)) word (held rows None) idle ≡ standing (held rows (Some (name, []))) (option name))
  alone rows word name known = (rw (by_long names name, known) refl, rw (by_long names name, known) refl)

  -- an option that waits gets another option
  missing_by : (rows : List Row) (id word name : Text) (text : Option Text) (known : Bool) → is_among names id ≡ true → is_among names name ≡ known → Fails (turn_by S (Some (name, text)) word (held rows (Some (id, []))) (option id))
  missing_by rows id word name text false waits strange = unknown (held rows (Some (id, []))) (option id) word name text strange
  missing_by rows id word name None true waits known = record { kind = kind.InvalidValue; others = []; is = rw (by_long names name, known, by_id names id, waits) refl }
  missing_by rows id word name (Some text) true waits known = record { kind = kind.InvalidValue; others = []; is = rw (by_long names name, known, by_id names id, waits) refl }

  pub missing : (rows : List Row) (id word name : Text) (text : Option Text) → is_among names id ≡ true → Fails (turn_by S (Some (name, text)) word (held rows (Some (id, []))) (option id))
  missing rows id word name text waits = missing_by rows id word name text (is_among names name) waits refl

  -- an option that waits gets its value
  pub given : (rows : List Row) (id word : Text) → is_among names id ≡ true → short_of word ≡ None
      → (turn_by S None word (held rows (Some (id, []))) (option id) ≡ []) × (walk_by S None word (held rows (Some (id, []))) (option id) ≡ standing (held rows (Some (id, word ∷ []))) idle)
  given rows id word waits plain =
      let same : bytes_eq id id ≡ true = (bytes_eq-Decides id id).1 refl in (rw plain refl, rw (plain, by_id names id, waits, same) refl)

  -- an option that has its value is as good as one that was used
  pub settled_turn : (rows : List Row) (id text word name : Text) (more : Option Text) → is_among names id ≡ true → has_row id rows ≡ false → is_among names name ≡ true
      → (turn_by S (Some (name, more)) word (held rows (Some (id, text ∷ []))) idle ≡ turn_by S (Some (name, more)) word (held (used (plain_rule id) (text ∷ []) rows) None) idle)
      × (walk_by S (Some (name, more)) word (held rows (Some (id, text ∷ []))) idle ≡ walk_by S (Some (name, more)) word (held (used (plain_rule id) (text ∷ []) rows) None) idle)
  settled_turn rows id text word name None has fresh known =
      (rw (by_long names name, known, by_id names id, has, fresh) refl, rw (by_long names name, known, by_id names id, has) refl)
  settled_turn rows id text word name (Some more) has fresh known =
      (rw (by_long names name, known, by_id names id, has, fresh) refl, rw (by_long names name, known, by_id names id, has) refl)

  -- an option that has its value, and was used before
  settled_again_by : (rows : List Row) (id text word name : Text) (more : Option Text) (known : Bool) → is_among names id ≡ true → has_row id rows ≡ true → is_among names name ≡ known
      → Fails (turn_by S (Some (name, more)) word (held rows (Some (id, text ∷ []))) idle)
  settled_again_by rows id text word name more false has again strange = unknown (held rows (Some (id, text ∷ []))) idle word name more strange
  settled_again_by rows id text word name None true has again known = record { kind = kind.ArgumentConflict; others = []; is = rw (by_long names name, known, by_id names id, has, again) refl }
  settled_again_by rows id text word name (Some more) true has again known = record { kind = kind.ArgumentConflict; others = []; is = rw (by_long names name, known, by_id names id, has, again) refl }

  pub settled_again : (rows : List Row) (id text word name : Text) (more : Option Text) → is_among names id ≡ true → has_row id rows ≡ true → Fails (turn_by S (Some (name, more)) word (held rows (Some (id, text ∷ []))) idle)
  settled_again rows id text word name more has again = settled_again_by rows id text word name more (is_among names name) has again refl

  -- at the end of the words
  pub end_waits : (rows : List Row) (id : Text) → is_among names id ≡ true → Fails (settle_fault S.rules false (held rows (Some (id, []))))
  end_waits rows id has = record { kind = kind.InvalidValue; others = []; is = rw (by_id names id, has) refl }

  pub end_again : (rows : List Row) (id text : Text) → is_among names id ≡ true → has_row id rows ≡ true → Fails (settle_fault S.rules false (held rows (Some (id, text ∷ []))))
  end_again rows id text has again = record { kind = kind.ArgumentConflict; others = []; is = rw (by_id names id, has, again) refl }

  pub end_given : (rows : List Row) (id text : Text) → is_among names id ≡ true → has_row id rows ≡ false
      → (settle_fault S.rules false (held rows (Some (id, text ∷ []))) ≡ []) × ((settled S.rules (held rows (Some (id, text ∷ [])))).rows ≡ used (plain_rule id) (text ∷ []) rows)
  end_given rows id text has fresh = (rw (by_id names id, has, fresh) refl, rw (by_id names id, has) refl)
