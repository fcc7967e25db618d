-- One text more of an output, and its end.
use Rattle.std.specs.List.{slice_get, concat}
use mathlib.Core.Logic.{dite}
use native.Mathlib.Decide.{dec_lt}
use Rattle.std.proofs.Common.{◌≡◌, ◌⊎◌, inl, inr, ⊎_elim, ℕ, zero, suc, ◌+◌, ◌-◌, ◌<◌, ◌≤◌, Bool, true, false, List, [], ◌∷◌, ◌++◌, length, take, drop, map, nat_lt, replicate, get_or, option_map, Some, take-add, take-append-drop, length-take-le, lt-ltb, refl, sym, ap, ◌∙◌, append-nil, subst, arith}
use Rattle.std.proofs.lemmas.List.{map-append, length-append, length-drop, length-map, length-replicate, take_all, take-append-le, nil_from_length}
use Rattle.std.proofs.lemmas.List.Folds.{concat-append}
use Rattle.std.proofs.lemmas.Option.{slice_get-map, slice_get_within, get_or_from_slice_get}
use Rattle.mc_allows.specs.declared.said.Said.{Said}
use Rattle.mc_answers.specs.Answer.{IsTextOf, IsAnswer, IsSomeAnswer}
use Rattle.mc_answers.specs.Kinds.{IsErrorLine}
use Rattle.mc_answers.specs.Output.{Cut, IsCut, FitsText, BeginsAnswer, IsOverLine, text_at}
use Rattle.mc_parse.specs.declared.command.Command.{Command}
use Rattle.mc_parse.specs.Deed.{says_of, is_unsaid}
use Rattle.mc_parse.specs.Saying.{Saying, says_reply, says_items, says_counts, says_line, says_marks}
use Rattle.zy_check.specs.Answered.{has_bytes}
use Rattle.zy_check.proofs.ListLemmas.{there, get_append, take_one}
use Rattle.zy_confirm.specs.NextText.{IsNextText}
use Rattle.zy_explain.specs.Over.{AsksForNone, IsWholeAt}
use Rattle.zy_explain.specs.Following.{IsTextOrNone, IsCutShort, IsCutTo}

-- ---- lists

joined_push : (texts : List (List ℕ)) (text : List ℕ) → concat (texts ++ text ∷ []) ≡ concat texts ++ text
joined_push texts text = concat-append texts (text ∷ []) ∙ ap (λ (l : List ℕ). concat texts ++ l) (append-nil text)

-- an element of a list with one more
pub push_get : {A : Type 0} (xs : List A) (x y : A) (i : ℕ) → slice_get (xs ++ x ∷ []) i ≡ Some y → ((i < length xs) × (slice_get xs i ≡ Some y)) ⊎ ((i ≡ length xs) × (x ≡ y))
push_get [] x y zero is = inr (refl, cc)
push_get [] x y (suc i) is = absurd (cc)
push_get (z ∷ xs) x y zero is = inl (omega arith, is)
push_get (z ∷ xs) x y (suc i) is = ⊎_elim (λ before. inl (let below = before.0 in omega (arith, below), before.1)) (λ last. inr (ap suc last.0, last.1)) (push_get xs x y i is)

-- ---- the start

pub cut_start : (commands : List Command) (saids : ℕ → List Said) (output : List ℕ) (answered : List Bool) (at : ℕ) → answered ≡ [] → at ≡ 0 → IsCutTo commands saids output answered at
cut_start commands saids output answered at none first = record {
  texts = [];
  few = omega arith;
  within = omega (arith, first);
  whole = ap (λ (n : ℕ). take n output) (sym first);
  flags = none;
  each = λ i command text is here. absurd (cc);
}

-- ---- the same with other words

pub cut_same : (commands : List Command) (saids other : ℕ → List Said) (output : List ℕ) (answered : List Bool) (at : ℕ) → ((i : ℕ) → i < length answered → saids i ≡ other i)
    → IsCutTo commands saids output answered at → IsCutTo commands other output answered at
cut_same commands saids other output answered at same c = record {
  texts = c.texts;
  few = c.few;
  within = c.within;
  whole = c.whole;
  flags = c.flags;
  each = λ i command text is here.
      let below = slice_get_within c.texts i text here in
      let size = ap (λ (l : List Bool). length l) c.flags in
      let long = length-map c.texts has_bytes in
      subst (λ (s : List Said). IsTextOrNone output (concat (take i c.texts)) command s text) (same i (omega (arith, below, size, long))) (c.each i command text is here);
}

-- ---- one more text

nothing_taken : (k : ℕ) (none : List ℕ) → none ≡ [] → take k none ≡ []
nothing_taken zero none is = refl
nothing_taken (suc k) [] is = refl
nothing_taken (suc k) (byte ∷ bytes) is = absurd (cc)

bytes_flag : (rest : List ℕ) (n : ℕ) → n ≤ length rest → has_bytes (take n rest) ≡ nat_lt 0 n
bytes_flag rest zero within = refl
bytes_flag [] (suc n) within = absurd (omega arith)
bytes_flag (byte ∷ rest) (suc n) within = sym (lt-ltb 0 (suc n) (omega arith))

module _ (commands : List Command) (saids : ℕ → List Said) (output : List ℕ) (answered : List Bool) (at : ℕ) (c : IsCutTo commands saids output answered at)
    (command : Command) (said : List Said) (n : ℕ) (is : slice_get commands (length answered) ≡ Some command) (is_said : saids (length answered) ≡ said) (next : IsNextText command said (drop at output) n) where
  abbrev text : List ℕ
  text = take n (drop at output)

  size : length c.texts ≡ length answered
  size = sym (ap (λ (l : List Bool). length l) c.flags ∙ length-map c.texts has_bytes)

  before : concat (take (length answered) (c.texts ++ text ∷ [])) ≡ take at output
  before =
      let same = size in
      ap concat (take-append-le (length answered) c.texts (text ∷ []) (omega (arith, same)) ∙ take_all (length answered) c.texts (omega (arith, same))) ∙ c.whole

  reaches : length output ≤ length (concat (take (length answered) (c.texts ++ text ∷ []))) + length text → IsCutShort command said text
      → IsTextOrNone output (concat (take (length answered) (c.texts ++ text ∷ []))) command said text
  reaches long short = inr (long, short)

  taken : length (concat (take (length answered) (c.texts ++ text ∷ []))) ≡ at
  taken = ap (λ (l : List ℕ). length l) before ∙ length-take-le at output c.within

  last_fits : IsTextOrNone output (concat (take (length answered) (c.texts ++ text ∷ []))) command said text
  last_fits = ⊎_elim
      (λ answer. inl answer)
      (λ short. ⊎_elim
      (λ none. reaches
      (let long = ap (λ (l : List ℕ). length l) none.0 in let left = length-drop at output in let front = taken in omega (arith, long, left, front))
      (inl (nothing_taken n (drop at output) none.0)))
      (λ begins.
      let whole : text ≡ drop at output = take_all n (drop at output) (let all = begins.0 in omega (arith, all)) in
      reaches
      (let long = ap (λ (l : List ℕ). length l) whole in let left = length-drop at output in let front = taken in omega (arith, long, left, front))
      (inr (subst (BeginsAnswer command said) (sym whole) begins.1)))
      short)
      next.1

  pub cut_more : (more : List Bool) (to : ℕ) → more ≡ answered ++ nat_lt 0 n ∷ [] → to ≡ at + n → IsCutTo commands saids output more to
  cut_more more to more_is to_is = record {
    texts = c.texts ++ text ∷ [];
    few = let same = size in let long = length-append c.texts (text ∷ []) in let below = slice_get_within commands (length answered) command is in omega (arith, same, long, below);
    within = let within = c.within in let few = next.0 in let left = length-drop at output in omega (arith, within, few, left, to_is);
    whole = joined_push c.texts text ∙ ap (λ (l : List ℕ). l ++ text) c.whole ∙ sym (take-add at n output) ∙ ap (λ (k : ℕ). take k output) (sym to_is);
    flags =
        more_is ∙ ap (λ (l : List Bool). l ++ nat_lt 0 n ∷ []) c.flags
        ∙ ap (λ (b : Bool). map has_bytes c.texts ++ b ∷ []) (sym (bytes_flag (drop at output) n next.0)) ∙ sym (map-append has_bytes c.texts (text ∷ []));
    each = λ i own own_text own_is here. ⊎_elim
        (λ old.
        let below = old.0 in
        subst (λ (l : List (List ℕ)). IsTextOrNone output (concat l) own (saids i) own_text) (sym (take-append-le i c.texts (text ∷ []) (omega (arith, below))))
        (c.each i own own_text own_is old.1))
        (λ last.
        let at_end : i ≡ length answered = last.0 ∙ size in
        let commands_same : Some own ≡ Some command = sym own_is ∙ ap (slice_get commands) at_end ∙ is in
        let one : command ≡ own = cc in
        let two : said ≡ saids i = sym is_said ∙ ap saids (sym at_end) in
        subst (λ (k : ℕ). IsTextOrNone output (concat (take k (c.texts ++ text ∷ []))) own (saids i) own_text) (sym at_end)
        (subst (λ (t : List ℕ). IsTextOrNone output (concat (take (length answered) (c.texts ++ text ∷ []))) own (saids i) t) last.1
        (subst (λ (s : List Said). IsTextOrNone output (concat (take (length answered) (c.texts ++ text ∷ []))) own s text) two
        (subst (λ (k : Command). IsTextOrNone output (concat (take (length answered) (c.texts ++ text ∷ []))) k said text) one last_fits))))
        (push_get c.texts text own_text i here);
  }

-- ---- the end

abbrev empty_text : List ℕ
empty_text = []

no_texts : (n : ℕ) → concat (replicate n empty_text) ≡ []
no_texts zero = refl
no_texts (suc n) = no_texts n

no_texts_from : (k n : ℕ) → concat (drop k (replicate n empty_text)) ≡ []
no_texts_from zero n = no_texts n
no_texts_from (suc k) zero = refl
no_texts_from (suc k) (suc n) = no_texts_from k n

-- behind the texts there are none
none_behind : (texts : List (List ℕ)) (n k : ℕ) → length texts ≤ k → concat (drop k (texts ++ replicate n [])) ≡ []
none_behind [] n k few = no_texts_from k n
none_behind (text ∷ texts) n zero few = absurd (omega arith)
none_behind (text ∷ texts) n (suc k) few = none_behind texts n k (omega (arith, few))

none_there : (n i : ℕ) → get_or (replicate n empty_text) i [] ≡ []
none_there zero i = refl
none_there (suc n) zero = refl
none_there (suc n) (suc i) = none_there n i

none_past_texts : (texts : List (List ℕ)) (n i : ℕ) → length texts ≤ i → get_or (texts ++ replicate n []) i [] ≡ []
none_past_texts [] n i few = none_there n i
none_past_texts (text ∷ texts) n zero few = absurd (omega arith)
none_past_texts (text ∷ texts) n (suc i) few = none_past_texts texts n i (omega (arith, few))

no_flags : (n : ℕ) → map has_bytes (replicate n []) ≡ replicate n false
no_flags zero = refl
no_flags (suc n) = ap (λ (l : List Bool). false ∷ l) (no_flags n)

-- a text behind which nothing is left is the last, and the texts reach to the end of the output
last_text : (texts : List (List ℕ)) (output : List ℕ) (i : ℕ) (text : List ℕ) (at : ℕ) → concat texts ≡ take at output → at ≤ length output → slice_get texts i ≡ Some text
    → length output ≤ length (concat (take i texts)) + length text → (concat (drop (i + 1) texts) ≡ []) × (length output ≤ at)
last_text texts output i text at whole within is long =
    let parts = sym (ap concat (take-append-drop (i + 1) texts)) ∙ concat-append (take (i + 1) texts) (drop (i + 1) texts) in
    let all = ap (λ (l : List ℕ). length l) (sym whole ∙ parts) ∙ length-append (concat (take (i + 1) texts)) (concat (drop (i + 1) texts)) in
    let some = length-take-le at output within in
    let front = ap (λ (l : List (List ℕ)). length (concat l)) (take_one texts i text is) ∙ ap (λ (l : List ℕ). length l) (joined_push (take i texts) text) ∙ length-append (concat (take i texts)) text in
    (nil_from_length (concat (drop (i + 1) texts)) (omega (arith, all, some, front, long, within)), omega (arith, all, some, front, long))

-- nothing is left of an output that is cut to its end
nothing_left : (at : ℕ) (output : List ℕ) → length output ≤ at → drop at output ≡ []
nothing_left at output end = nil_from_length (drop at output) (let left = length-drop at output in omega (arith, left, end))

-- ---- an error line that is left

some_bytes : (text : List ℕ) → IsErrorLine text → text ≡ [] → ⊥
some_bytes text (inl error) none = let is = sym none ∙ error.is in cc
some_bytes text (inr (inl error)) none = let is = sym none ∙ error.is in cc
some_bytes text (inr (inr error)) none = let is = sym none ∙ error.is in cc

unsaid_empty : (says : Saying) (saids : List Said) (bytes : List ℕ) → is_unsaid says ≡ true → IsTextOf says saids bytes → bytes ≡ []
unsaid_empty (says_reply true) saids bytes unsaid text = text
unsaid_empty (says_reply false) saids bytes unsaid text = absurd (cc)
unsaid_empty (says_line fixed true) saids bytes unsaid text = text
unsaid_empty (says_line fixed false) saids bytes unsaid text = absurd (cc)
unsaid_empty (says_items keys asked) saids bytes unsaid text = absurd (cc)
unsaid_empty says_counts saids bytes unsaid text = absurd (cc)
unsaid_empty (says_marks about key letters) saids bytes unsaid text = absurd (cc)

-- a command that asks for no answer is not answered by an error line
not_answered : (command : Command) (bytes : List ℕ) → AsksForNone command → IsErrorLine bytes → IsSomeAnswer command bytes → ⊥
not_answered command bytes quiet error some = some_bytes bytes error (unsaid_empty (says_of command) some.saids bytes quiet some.answer.text)

no_bytes : (text : List ℕ) → text ≡ [] → has_bytes text ≡ false
no_bytes [] is = refl
no_bytes (byte ∷ bytes) is = absurd (cc)

module _ (commands : List Command) (saids : ℕ → List Said) (output : List ℕ) (answered : List Bool) (at : ℕ) (c : IsCutTo commands saids output answered at) (end : IsWholeAt commands output answered at) where
  -- how many commands have no text
  abbrev pub missing : ℕ
  missing = length commands - length c.texts

  abbrev pub all_texts : List (List ℕ)
  all_texts = c.texts ++ replicate missing []

  abbrev pub the_cut : Cut
  the_cut = record { texts = all_texts; left = drop at output }

  whole : concat all_texts ≡ take at output
  whole = concat-append c.texts (replicate missing []) ∙ ap (λ (l : List ℕ). concat c.texts ++ l) (no_texts missing) ∙ append-nil (concat c.texts) ∙ c.whole

  inside : (i : ℕ) (command : Command) (text : List ℕ) → slice_get commands i ≡ Some command → slice_get c.texts i ≡ Some text → FitsText the_cut i command (saids i)
  inside i command text is own =
      let below = slice_get_within c.texts i text own in
      let there_too : slice_get all_texts i ≡ Some text = get_append c.texts (replicate missing []) i below ∙ own in
      let same : text ≡ text_at the_cut i = sym (get_or_from_slice_get all_texts i text [] there_too) in
      ⊎_elim
      (λ answer. inl (subst (IsAnswer command (saids i)) same answer))
      (λ short.
      let last = last_text all_texts output i text at whole c.within there_too
      (subst (λ (l : List (List ℕ)). length output ≤ length (concat l) + length text) (sym (take-append-le i c.texts (replicate missing []) (omega (arith, below)))) short.0) in
      inr (
        last.0,
        ⊎_elim (λ none. inl (sym same ∙ none)) (λ begins. inr (nothing_left at output last.1, subst (BeginsAnswer command (saids i)) same begins)) short.1,
      ))
      (c.each i command text is own)

  outside : (i : ℕ) (command : Command) → length c.texts ≤ i → FitsText the_cut i command (saids i)
  outside i command past = inr (none_behind c.texts missing (i + 1) (omega (arith, past)), inl (none_past_texts c.texts missing i past))

  pub done_fits : (i : ℕ) (command : Command) → slice_get commands i ≡ Some command → FitsText the_cut i command (saids i)
  done_fits i command is = dite (dec_lt i (length c.texts))
      (λ below. let own = there c.texts i below in inside i command own.0 is own.1)
      (λ past. outside i command (omega (arith, past)))

  texts_size : length c.texts ≡ length answered
  texts_size = sym (ap (λ (l : List Bool). length l) c.flags ∙ length-map c.texts has_bytes)

  -- a command without a byte is not answered
  unanswered : (i : ℕ) → i < length answered → text_at the_cut i ≡ [] → slice_get answered i ≡ Some false
  unanswered i below none =
      let own = there c.texts i (let same = texts_size in omega (arith, below, same)) in
      let there_too : slice_get all_texts i ≡ Some own.0 = get_append c.texts (replicate missing []) i (let same = texts_size in omega (arith, below, same)) ∙ own.1 in
      let empty : own.0 ≡ [] = sym (get_or_from_slice_get all_texts i own.0 [] there_too) ∙ none in
      ap (λ (l : List Bool). slice_get l i) c.flags ∙ slice_get-map has_bytes c.texts i ∙ ap (option_map has_bytes) own.1 ∙ ap (λ (b : Bool). Some b) (no_bytes own.0 empty)

  over : (drop at output ≡ []) ⊎ IsOverLine commands the_cut
  over = ⊎_elim
      (λ ends. inl (nothing_left at output ends))
      (λ left. inr (record {
        line = left.line;
        nobody = λ i command is last none some.
            let below = slice_get_within commands i command is in
            let all = left.all in
            not_answered command (drop at output) (left.quiet i command is (unanswered i (omega (arith, below, all)) none)) left.line some;
      }))
      end

  pub done_is : IsCut commands output the_cut
  done_is = record {
    size = let few = c.few in let all = length-append c.texts (replicate missing []) in let rest = length-replicate missing empty_text in omega (arith, few, all, rest);
    whole = sym (ap (λ (l : List ℕ). l ++ drop at output) whole ∙ take-append-drop at output);
    each = λ i command is. record { saids = saids i; text = done_fits i command is };
    over = over;
  }

  pub done_reaches : (index : ℕ) → length answered ≤ index → text_at the_cut index ≡ []
  done_reaches index past = none_past_texts c.texts missing index (let same = texts_size in omega (arith, past, same))

  pub done_flags : map has_bytes the_cut.texts ≡ answered ++ replicate missing false
  done_flags = map-append has_bytes c.texts (replicate missing []) ∙ ap (λ (l : List Bool). l ++ map has_bytes (replicate missing [])) (sym c.flags) ∙ ap (λ (l : List Bool). answered ++ l) (no_flags missing)
