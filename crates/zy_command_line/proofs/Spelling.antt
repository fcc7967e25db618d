-- The words that the parser accepts are those that spell options, and it keeps what they spell.
use Rattle.std.proofs.Common.{◌≡◌, List, [], ◌∷◌, ◌++◌, refl, sym, ◌∙◌, ap, ap₂, append_assoc, Bool, true, false}
use Rattle.std.specs.Prelude.{Option, Some, None, ◌&&◌, not, is_some, if◌then◌else◌, option_and_then, ⊤}
use Rattle.std.proofs.lemmas.List.{append-nil}
use Rattle.clap.specs.Lexer.{long_of}
use Rattle.clap.specs.Kinds.{Kinds, or_else}
use Rattle.clap.specs.Walk.{Row, Text, Held, Walk, has_row, Waiting, idle, option}
use Rattle.clap.specs.Faults.{walk_fault}
use Rattle.zy_command_line.specs.Grammar.{Options, option_in, is_among, with_first, value_then, option_then, options_from}
use Rattle.zy_command_line.specs.Splitting.{row_of_option, rows_for}
use Rattle.zy_command_line.proofs.Rows.{SameUse, same_use, rows_used}
use Rattle.zy_command_line.proofs.Words.{option_in_is}
use Rattle.zy_command_line.proofs.Turns.{Fails, IsWord, held, standing, turn_by, walk_by, faults, end_rows, faults_turn, rows_turn, S, stray, unknown, one_word, repeated, alone, missing, given, settled_turn, settled_again, end_waits, end_again, end_given}

-- the words have a fault if and only if they spell no options; otherwise they leave the rows of the
-- options that they spell
abbrev pub Outcome : Kinds → List Row → List Row → Option Options → Type 0
Outcome ks after before None = Fails ks
Outcome ks after before (Some options) = (ks ≡ []) × (after ≡ before ++ rows_for options)

moved : (rows : List Row) (r : Row) (more : List Row) → (rows ++ r ∷ []) ++ more ≡ rows ++ r ∷ more
moved rows r more = append_assoc rows (r ∷ []) more

-- an option was spelled before the others
first : (ks : Kinds) (after rows : List Row) (name text : Text) (o : Option Options) → Outcome ks after (rows ++ row_of_option name text ∷ []) o → Outcome ks after rows (with_first name text o)
first ks after rows name text None out = out
first ks after rows name text (Some options) out = (out.0, out.1 ∙ moved rows (row_of_option name text) (rows_for options))

fails_first : (a b : Kinds) → Fails a → Fails (or_else a b)
fails_first a b f = record { kind = f.kind; others = f.others; is = rw f.is refl }

module _ (command : Text) (names : List Text) where
  abbrev At : Walk → List Text → List Row → Option Options → Type 0
  At w words rows o = Outcome (faults (S command names) w words) (end_rows (S command names) w words) rows o

  abbrev at : List Row → Option (Text × List Text) → Waiting → Walk
  at rows pending waiting = standing (held rows pending) waiting

  -- a turn that has a fault
  stops : (h : Held) (waiting : Waiting) (w : Text) (ws : List Text) (rows : List Row) → IsWord w → Fails (turn_by (S command names) (long_of w) w h waiting) → At (standing h waiting) (w ∷ ws) rows None
  stops h waiting w ws rows is f = rw (faults_turn (S command names) h waiting w ws is) (fails_first _ _ f)

  -- a turn that has no fault
  passes : (h : Held) (waiting : Waiting) (w : Text) (ws : List Text) (rows : List Row) (o : Option Options) (next : Walk) → IsWord w
      → turn_by (S command names) (long_of w) w h waiting ≡ [] → walk_by (S command names) (long_of w) w h waiting ≡ next → At next ws rows o → At (standing h waiting) (w ∷ ws) rows o
  passes h waiting w ws rows o next is none to out =
      let all : faults (S command names) (standing h waiting) (w ∷ ws) ≡ faults (S command names) next ws =
      faults_turn (S command names) h waiting w ws is ∙ ap₂ (λ (a : Kinds) (m : Walk). or_else a (faults (S command names) m ws)) none to in
      let end : end_rows (S command names) (standing h waiting) (w ∷ ws) ≡ end_rows (S command names) next ws =
      rows_turn (S command names) h waiting w ws is ∙ ap (λ (m : Walk). end_rows (S command names) m ws) to in
      rw (all, end) out

  -- the outcome of the words from each state: no option waits; an option waits for its value; an
  -- option has it; and the last two for an option that was used before
  pub record Reads (words : List Text) : Type 0 where
    pub start : (rows : List Row) (before : List Text) → SameUse rows before → At (at rows None idle) words rows (options_from names before None words)
    pub waits : (rows : List Row) (before : List Text) (id : Text) → SameUse rows before → is_among names id ≡ true → has_row id rows ≡ false
        → At (at rows (Some (id, [])) (option id)) words rows (options_from names before (Some id) words)
    pub has : (rows : List Row) (before : List Text) (id text : Text) → SameUse rows before → is_among names id ≡ true → has_row id rows ≡ false
        → At (at rows (Some (id, text ∷ [])) idle) words rows (with_first id text (options_from names (id ∷ before) None words))
    pub waits_again : (rows : List Row) (id : Text) → is_among names id ≡ true → has_row id rows ≡ true → At (at rows (Some (id, [])) (option id)) words rows None
    pub has_again : (rows : List Row) (id text : Text) → is_among names id ≡ true → has_row id rows ≡ true → At (at rows (Some (id, text ∷ [])) idle) words rows None

  -- ---- no option waits

  abbrev next_of : List Text → Text → Option Text → List Text → Option Options
  next_of before name text ws = option_then name text (options_from names (name ∷ before) None ws) (options_from names before (Some name) ws)

  start_fresh : (text : Option Text) (w : Text) (ws : List Text) (rows : List Row) (before : List Text) (name : Text) → IsWord w → long_of w ≡ Some (name, text)
      → SameUse rows before → is_among names name ≡ true → has_row name rows ≡ false → Reads ws → At (at rows None idle) (w ∷ ws) rows (next_of before name text ws)
  start_fresh None w ws rows before name is lo same known fresh next =
      let turn = alone command names rows w name known in
      passes (held rows None) idle w ws rows _ _ is (rw lo turn.0) (rw lo turn.1) (next.waits rows before name same known fresh)
  start_fresh (Some text) w ws rows before name is lo same known fresh next =
      let turn = one_word command names rows w name text known fresh in
      let later = next.start (rows ++ row_of_option name text ∷ []) (name ∷ before) (same_use name text rows before same) in
      passes (held rows None) idle w ws rows _ _ is (rw lo turn.0) (rw lo turn.1 ∙ ap (λ (l : List Row). at l None idle) (rows_used name text rows fresh))
      (first _ _ rows name text (options_from names (name ∷ before) None ws) later)

  start_again : (text : Option Text) (w : Text) (ws : List Text) (rows : List Row) (name : Text) → IsWord w → long_of w ≡ Some (name, text)
      → is_among names name ≡ true → has_row name rows ≡ true → Reads ws → At (at rows None idle) (w ∷ ws) rows None
  start_again None w ws rows name is lo known again next =
      let turn = alone command names rows w name known in
      passes (held rows None) idle w ws rows None _ is (rw lo turn.0) (rw lo turn.1) (next.waits_again rows name known again)
  start_again (Some text) w ws rows name is lo known again next =
      stops (held rows None) idle w ws rows is (rw lo (repeated command names rows w name text known again))

  start_if : (known again : Bool) (text : Option Text) (w : Text) (ws : List Text) (rows : List Row) (before : List Text) (name : Text) → IsWord w → long_of w ≡ Some (name, text)
      → SameUse rows before → is_among names name ≡ known → is_among before name ≡ again → Reads ws
      → At (at rows None idle) (w ∷ ws) rows (if known && not again then next_of before name text ws else None)
  start_if false again text w ws rows before name is lo same strange usage next =
      stops (held rows None) idle w ws rows is (rw lo (unknown command names (held rows None) idle w name text strange))
  start_if true true text w ws rows before name is lo same known usage next = start_again text w ws rows name is lo known (same name ∙ usage) next
  start_if true false text w ws rows before name is lo same known usage next = start_fresh text w ws rows before name is lo same known (same name ∙ usage) next

  abbrev then_by : List Text → List Text → Option (Text × Option Text) → Option Options
  then_by before ws lo = option_and_then (λ o. if is_among names o.0 && not (is_among before o.0) then next_of before o.0 o.1 ws else None) lo

  start_by : (lo : Option (Text × Option Text)) (w : Text) (ws : List Text) (rows : List Row) (before : List Text) → IsWord w → long_of w ≡ lo → SameUse rows before → Reads ws
      → At (at rows None idle) (w ∷ ws) rows (then_by before ws lo)
  start_by None w ws rows before is lo same next = stops (held rows None) idle w ws rows is (rw lo (stray command names w rows None (is.no_flags lo)))
  start_by (Some (name, text)) w ws rows before is lo same next =
      start_if (is_among names name) (is_among before name) text w ws rows before name is lo same refl refl next

  -- ---- an option waits for its value

  waits_by : (lo : Option (Text × Option Text)) (w : Text) (ws : List Text) (rows : List Row) (before : List Text) (id : Text) → IsWord w → long_of w ≡ lo → SameUse rows before
      → is_among names id ≡ true → has_row id rows ≡ false → Reads ws → At (at rows (Some (id, [])) (option id)) (w ∷ ws) rows (value_then (is_some lo) id w (options_from names (id ∷ before) None ws))
  waits_by None w ws rows before id is lo same known fresh next =
      let turn = given command names rows id w known (is.no_flags lo) in
      passes (held rows (Some (id, []))) (option id) w ws rows _ _ is (rw lo turn.0) (rw lo turn.1) (next.has rows before id w same known fresh)
  waits_by (Some (name, text)) w ws rows before id is lo same known fresh next =
      stops (held rows (Some (id, []))) (option id) w ws rows is (rw lo (missing command names rows id w name text known))

  waits_again_by : (lo : Option (Text × Option Text)) (w : Text) (ws : List Text) (rows : List Row) (id : Text) → IsWord w → long_of w ≡ lo
      → is_among names id ≡ true → has_row id rows ≡ true → Reads ws → At (at rows (Some (id, [])) (option id)) (w ∷ ws) rows None
  waits_again_by None w ws rows id is lo known again next =
      let turn = given command names rows id w known (is.no_flags lo) in
      passes (held rows (Some (id, []))) (option id) w ws rows None _ is (rw lo turn.0) (rw lo turn.1) (next.has_again rows id w known again)
  waits_again_by (Some (name, text)) w ws rows id is lo known again next =
      stops (held rows (Some (id, []))) (option id) w ws rows is (rw lo (missing command names rows id w name text known))

  -- ---- an option has its value

  -- an option that has its value is as good as one that was used
  as_used : (w : Text) (ws : List Text) (rows : List Row) (id text name : Text) (more : Option Text) (o : Option Options) → IsWord w → long_of w ≡ Some (name, more)
      → is_among names id ≡ true → has_row id rows ≡ false → is_among names name ≡ true
      → At (at (rows ++ row_of_option id text ∷ []) None idle) (w ∷ ws) (rows ++ row_of_option id text ∷ []) o
      → At (at rows (Some (id, text ∷ [])) idle) (w ∷ ws) (rows ++ row_of_option id text ∷ []) o
  as_used w ws rows id text name more o is lo has fresh known out =
      let turn = settled_turn command names rows id text w name more has fresh known in
      let used_is = rows_used id text rows fresh in
      let h = held rows (Some (id, text ∷ [])) in
      let g = held (rows ++ row_of_option id text ∷ []) None in
      let turn_is : turn_by (S command names) (long_of w) w h idle ≡ turn_by (S command names) (long_of w) w g idle =
      rw lo (turn.0 ∙ ap (λ (l : List Row). turn_by (S command names) (Some (name, more)) w (held l None) idle) used_is) in
      let walk_is : walk_by (S command names) (long_of w) w h idle ≡ walk_by (S command names) (long_of w) w g idle =
      rw lo (turn.1 ∙ ap (λ (l : List Row). walk_by (S command names) (Some (name, more)) w (held l None) idle) used_is) in
      let faults_are : faults (S command names) (standing h idle) (w ∷ ws) ≡ faults (S command names) (standing g idle) (w ∷ ws) =
      faults_turn (S command names) h idle w ws is ∙ ap₂ (λ (a : Kinds) (m : Walk). or_else a (faults (S command names) m ws)) turn_is walk_is ∙ sym (faults_turn (S command names) g idle w ws is) in
      let rows_are : end_rows (S command names) (standing h idle) (w ∷ ws) ≡ end_rows (S command names) (standing g idle) (w ∷ ws) =
      rows_turn (S command names) h idle w ws is ∙ ap (λ (m : Walk). end_rows (S command names) m ws) walk_is ∙ sym (rows_turn (S command names) g idle w ws is) in
      rw (faults_are, rows_are) out

  has_if : (known : Bool) (w : Text) (ws : List Text) (rows : List Row) (before : List Text) (id text name : Text) (more : Option Text) → IsWord w → long_of w ≡ Some (name, more)
      → SameUse rows before → is_among names id ≡ true → has_row id rows ≡ false → is_among names name ≡ known → Reads ws
      → At (at rows (Some (id, text ∷ [])) idle) (w ∷ ws) rows (with_first id text (if known && not (is_among (id ∷ before) name) then next_of (id ∷ before) name more ws else None))
  has_if false w ws rows before id text name more is lo same has fresh strange next =
      stops (held rows (Some (id, text ∷ []))) idle w ws rows is (rw lo (unknown command names (held rows (Some (id, text ∷ []))) idle w name more strange))
  has_if true w ws rows before id text name more is lo same has fresh known next =
      let rows' = rows ++ row_of_option id text ∷ [] in
      let later = start_if true (is_among (id ∷ before) name) more w ws rows' (id ∷ before) name is lo (same_use id text rows before same) known refl next in
      first _ _ rows id text _ (as_used w ws rows id text name more _ is lo has fresh known later)

  has_by : (lo : Option (Text × Option Text)) (w : Text) (ws : List Text) (rows : List Row) (before : List Text) (id text : Text) → IsWord w → long_of w ≡ lo
      → SameUse rows before → is_among names id ≡ true → has_row id rows ≡ false → Reads ws
      → At (at rows (Some (id, text ∷ [])) idle) (w ∷ ws) rows (with_first id text (then_by (id ∷ before) ws lo))
  has_by None w ws rows before id text is lo same has fresh next =
      stops (held rows (Some (id, text ∷ []))) idle w ws rows is (rw lo (stray command names w rows (Some (id, text ∷ [])) (is.no_flags lo)))
  has_by (Some (name, more)) w ws rows before id text is lo same has fresh next = has_if (is_among names name) w ws rows before id text name more is lo same has fresh refl next

  has_again_by : (lo : Option (Text × Option Text)) (w : Text) (ws : List Text) (rows : List Row) (id text : Text) → IsWord w → long_of w ≡ lo
      → is_among names id ≡ true → has_row id rows ≡ true → At (at rows (Some (id, text ∷ [])) idle) (w ∷ ws) rows None
  has_again_by None w ws rows id text is lo has again =
      stops (held rows (Some (id, text ∷ []))) idle w ws rows is (rw lo (stray command names w rows (Some (id, text ∷ [])) (is.no_flags lo)))
  has_again_by (Some (name, more)) w ws rows id text is lo has again =
      stops (held rows (Some (id, text ∷ []))) idle w ws rows is (rw lo (settled_again command names rows id text w name more has again))

  -- ---- all words

  abbrev pub AreWords : List Text → Type 0
  AreWords [] = ⊤
  AreWords (w ∷ ws) = IsWord w × AreWords ws

  end_has : (rows : List Row) (id text : Text) → is_among names id ≡ true → has_row id rows ≡ false → At (at rows (Some (id, text ∷ [])) idle) [] rows (Some ((id, text) ∷ []))
  unfolding walk_fault
  end_has rows id text has fresh =
      let end = end_given command names rows id text has fresh in (end.0, end.1 ∙ rows_used id text rows fresh)

  pub reads : (words : List Text) → AreWords words → Reads words
  unfolding walk_fault options_from
  reads [] are = record {
    start = λ rows before same. (refl, sym (append-nil rows));
    waits = λ rows before id same has fresh. end_waits command names rows id has;
    has = λ rows before id text same has fresh. end_has rows id text has fresh;
    waits_again = λ rows id has again. end_waits command names rows id has;
    has_again = λ rows id text has again. end_again command names rows id text has again;
  }
  reads (w ∷ ws) are =
      let next = reads ws are.1 in
      let is : long_of w ≡ option_in w = sym (option_in_is w) in record {
        start = λ rows before same. start_by (option_in w) w ws rows before are.0 is same next;
        waits = λ rows before id same has fresh. waits_by (option_in w) w ws rows before id are.0 is same has fresh next;
        has = λ rows before id text same has fresh. has_by (option_in w) w ws rows before id text are.0 is same has fresh next;
        waits_again = λ rows id has again. waits_again_by (option_in w) w ws rows id are.0 is has again next;
        has_again = λ rows id text has again. has_again_by (option_in w) w ws rows id text are.0 is has again;
      }
