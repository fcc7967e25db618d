-- What the first answer shows of the cuts of an output.
use Rattle.std.proofs.Common.{◌≡◌, ◌⊎◌, inl, inr, ⊎_elim, ℕ, zero, suc, add-one, ◌+◌, ◌-◌, ◌<◌, ◌≤◌, List, [], ◌∷◌, ◌++◌, length, take, drop, get_or, slice_get, Some, refl, ap, sym, ◌∙◌, subst, append_assoc, arith}
use Rattle.std.specs.List.{concat, slice_index_or}
use mathlib.Core.Logic.{dite}
use native.Mathlib.Decide.{dec_lt}
use Rattle.std.proofs.Math.Seq.{take-append_seam}
use Rattle.std.proofs.lemmas.List.{append-nil, drop_more, drop_all, take_all, drop-drop, drop-append-le, take_more, length-append, length-drop}
use Rattle.std.proofs.lemmas.List.Folds.{concat-append}
use Rattle.std.proofs.lemmas.Option.{slice_get_read}
use Rattle.mc_parse.specs.declared.command.Command.{Command}
use Rattle.mc_allows.specs.declared.said.Said.{Said}
use Rattle.mc_answers.specs.Answer.{IsAnswer, IsSomeAnswer, AreSomeAnswers}
use Rattle.mc_answers.specs.Kinds.{IsErrorLine}
use Rattle.mc_answers.specs.Output.{Cut, FitsText, IsOverLine, IsCut, text_at}
use Rattle.mc_kind.specs.First.{IsWhole, IsRefused}
use Rattle.mc_kind.specs.Cutting.{text_in, StandsIn, AreTexts, BeginOutput, IsRefutedAt, GoesOn, HasNoCut, HasText, HasTexts, HasNoMore, AreFirstTexts, AreAllTexts}
use Rattle.mc_kind.specs.declared.text.Text.{Text}

-- ---- a cut by its parts

-- the cut with these parts
abbrev pub parted : List (List ℕ) → List ℕ → Cut
parted texts left = record { texts = texts; left = left }

later_fits : (text : List ℕ) (texts : List (List ℕ)) (left : List ℕ) (i : ℕ) (command : Command) (saids : List Said) → FitsText (parted (text ∷ texts) left) (suc i) command saids → FitsText (parted texts left) i command saids
later_fits text texts left i command saids (inl answer) = inl answer
later_fits text texts left i command saids (inr (last, rest)) =
    let after : concat (drop (suc (suc i)) (text ∷ texts)) ≡ [] = subst (λ (n : ℕ). concat (drop n (text ∷ texts)) ≡ []) (add-one (suc i)) last in
    let before : concat (drop (suc i) texts) ≡ [] = after in
    inr (rw (add-one i) before, rest)

-- the cut of the later commands
later_cut : (command : Command) (commands : List Command) (output text : List ℕ) (texts : List (List ℕ)) (left : List ℕ) → IsCut (command ∷ commands) output (parted (text ∷ texts) left)
    → IsCut commands (concat texts ++ left) (parted texts left)
later_cut command commands output text texts left c = record {
  size = omega (arith, c.size);
  whole = refl;
  each = λ i other there. let one = c.each (suc i) other there in record { saids = one.saids; text = later_fits text texts left i other one.saids one.text };
  over = go c.over;
}
  where
    go : (left ≡ []) ⊎ IsOverLine (command ∷ commands) (parted (text ∷ texts) left) → (left ≡ []) ⊎ IsOverLine commands (parted texts left)
    go (inl none) = inl none
    go (inr over) = inr (record {
      line = over.line;
      nobody = λ i other there last empty.
          let before : concat (drop (suc i) texts) ≡ [] = subst (λ (n : ℕ). concat (drop n texts) ≡ []) (add-one i) last in
          let after : concat (drop (suc (suc i)) (text ∷ texts)) ≡ [] = before in
          over.nobody (suc i) other there (rw (add-one (suc i)) after) empty;
    })

-- ---- parts of a cut

whole_of : (bytes t left : List ℕ) (ts : List (List ℕ)) → bytes ≡ (t ++ concat ts) ++ left → bytes ≡ t ++ (concat ts ++ left)
whole_of bytes t left ts is = is ∙ append_assoc t (concat ts) left

left_of : (bytes t left : List ℕ) (ts : List (List ℕ)) → bytes ≡ t ++ (concat ts ++ left) → concat ts ≡ [] → t ≡ [] → bytes ≡ left
left_of bytes t left ts is last empty = is ∙ ap (λ (l : List ℕ). l ++ (concat ts ++ left)) empty ∙ ap (λ (l : List ℕ). l ++ left) last

text_of : (bytes t left : List ℕ) (ts : List (List ℕ)) → bytes ≡ t ++ (concat ts ++ left) → concat ts ≡ [] → left ≡ [] → bytes ≡ t
text_of bytes t left ts is last none = is ∙ ap (λ (l : List ℕ). t ++ (l ++ left)) last ∙ ap (λ (l : List ℕ). t ++ l) none ∙ append-nil t

none_long : (t missing : List ℕ) → length (t ++ missing) ≤ length t → missing ≡ []
none_long t [] low = refl
none_long t (x ∷ missing) low = absurd (let e = length-append t (x ∷ missing) in omega (arith, e, low))

drop_seam : (t rest : List ℕ) → drop (length t) (t ++ rest) ≡ rest
drop_seam [] rest = refl
drop_seam (x ∷ t) rest = drop_seam t rest

nothing_after : (a b : List ℕ) → a ++ b ≡ [] → b ≡ []
nothing_after [] b none = none
nothing_after (x ∷ a) b none = absurd (cc)

nothing_before : (a b : List ℕ) → a ++ b ≡ [] → a ≡ []
nothing_before [] b none = refl
nothing_before (x ∷ a) b none = absurd (cc)

-- ---- a whole answer

text_long : (command : Command) (commands : List Command) (bytes t left : List ℕ) (ts : List (List ℕ)) (n : ℕ) (saids : List Said) → IsWhole command bytes n → bytes ≡ t ++ (concat ts ++ left)
    → FitsText (parted (t ∷ ts) left) 0 command saids → (left ≡ []) ⊎ IsOverLine (command ∷ commands) (parted (t ∷ ts) left) → length t ≡ n
text_long command commands bytes t left ts n saids w is (inl answer) over = w.long t (concat ts ++ left) [] (record { saids = saids; answer = answer }) (sym is ∙ sym (append-nil bytes))
text_long command commands bytes t left ts n saids w is (inr (last, inl empty)) (inl none) =
    let low = w.low in
    let zero_text : length t ≡ 0 = ap length empty in
    let zero_bytes : length bytes ≡ 0 = ap length (left_of bytes t left ts is last empty ∙ none) in
    omega (arith, low, zero_text, zero_bytes)
text_long command commands bytes t left ts n saids w is (inr (last, inl empty)) (inr over) =
    let same = left_of bytes t left ts is last empty in
    go same (w.error (subst IsErrorLine (sym same) over.line))
  where
    go : bytes ≡ left → (n ≡ 0) ⊎ IsSomeAnswer command bytes → length t ≡ n
    go same (inl none) = ap length empty ∙ sym none
    go same (inr answer) = absurd (over.nobody 0 command refl last empty (subst (IsSomeAnswer command) same answer))
text_long command commands bytes t left ts n saids w is (inr (last, inr (none, begins))) over =
    let same = text_of bytes t left ts is last none in
    let long = w.long (t ++ begins.missing) [] begins.missing (record { saids = saids; answer = begins.whole }) (append-nil (t ++ begins.missing) ∙ ap (λ (l : List ℕ). l ++ begins.missing) (sym same)) in
    let low = w.low in
    let same_long : length bytes ≡ length t = ap length same in
    absurd (begins.some (none_long t begins.missing (omega (arith, long, low, same_long))))

-- ---- the first command of a cut

-- the first text has this length: it is an answer to whatever was said, or empty, and the others are a cut of the rest
record FirstText (command : Command) (commands : List Command) (bytes : List ℕ) (n : ℕ) (texts : List (List ℕ)) (left : List ℕ) : Type 0 where
  rest : IsCut commands (drop n bytes) (parted (drop 1 texts) left)
  is : slice_index_or texts 0 [] ≡ take n bytes
  whole : (saids : List Said) → FitsText (parted texts left) 0 command saids → (take n bytes ≡ []) ⊎ IsAnswer command saids (take n bytes)

text_whole : (command : Command) (bytes t left : List ℕ) (ts : List (List ℕ)) (n : ℕ) (saids : List Said) → IsWhole command bytes n → bytes ≡ t ++ (concat ts ++ left)
    → FitsText (parted (t ∷ ts) left) 0 command saids → (t ≡ []) ⊎ IsAnswer command saids t
text_whole command bytes t left ts n saids w is (inl answer) = inr answer
text_whole command bytes t left ts n saids w is (inr (last, inl empty)) = inl empty
text_whole command bytes t left ts n saids w is (inr (last, inr (none, begins))) =
    let same = text_of bytes t left ts is last none in
    let long = w.long (t ++ begins.missing) [] begins.missing (record { saids = saids; answer = begins.whole }) (append-nil (t ++ begins.missing) ∙ ap (λ (l : List ℕ). l ++ begins.missing) (sym same)) in
    let low = w.low in
    let same_long : length bytes ≡ length t = ap length same in
    absurd (begins.some (none_long t begins.missing (omega (arith, long, low, same_long))))

step_whole : (command : Command) (commands : List Command) (bytes : List ℕ) (n : ℕ) (texts : List (List ℕ)) (left : List ℕ) → IsWhole command bytes n → IsCut (command ∷ commands) bytes (parted texts left)
    → FirstText command commands bytes n texts left
step_whole command commands bytes n [] left w c = absurd (let s = c.size in omega (arith, s))
step_whole command commands bytes n (t ∷ ts) left w c =
    let one = c.each 0 command refl in
    let is = whole_of bytes t left ts c.whole in
    let long = text_long command commands bytes t left ts n one.saids w is one.text c.over in
    let rest : concat ts ++ left ≡ drop n bytes = sym (drop_seam t (concat ts ++ left)) ∙ ap (λ (k : ℕ). drop k (t ++ (concat ts ++ left))) long ∙ ap (drop n) (sym is) in
    let first : t ≡ take n bytes = sym (take-append_seam t (concat ts ++ left)) ∙ ap (λ (k : ℕ). take k (t ++ (concat ts ++ left))) long ∙ ap (take n) (sym is) in
    record {
      rest = subst (λ (l : List ℕ). IsCut commands l (parted ts left)) rest (later_cut command commands bytes t ts left c);
      is = first;
      whole = λ saids fits. subst (λ (l : List ℕ). (l ≡ []) ⊎ IsAnswer command saids l) first (text_whole command bytes t left ts n saids w is fits);
    }

-- ---- a refused answer

refused_text : (command : Command) (commands : List Command) (bytes t left : List ℕ) (ts : List (List ℕ)) (saids : List Said) → (bytes ≡ [] → ⊥) → IsRefused command bytes → bytes ≡ t ++ (concat ts ++ left)
    → FitsText (parted (t ∷ ts) left) 0 command saids → (left ≡ []) ⊎ IsOverLine (command ∷ commands) (parted (t ∷ ts) left) → ⊥
refused_text command commands bytes t left ts saids some w is (inl answer) over = w.none t (concat ts ++ left) [] (record { saids = saids; answer = answer }) (sym is ∙ sym (append-nil bytes))
refused_text command commands bytes t left ts saids some w is (inr (last, inl empty)) (inl none) = some (left_of bytes t left ts is last empty ∙ none)
refused_text command commands bytes t left ts saids some w is (inr (last, inl empty)) (inr over) = w.error (subst IsErrorLine (sym (left_of bytes t left ts is last empty)) over.line)
refused_text command commands bytes t left ts saids some w is (inr (last, inr (none, begins))) over =
    w.none (t ++ begins.missing) [] begins.missing (record { saids = saids; answer = begins.whole }) (append-nil (t ++ begins.missing) ∙ ap (λ (l : List ℕ). l ++ begins.missing) (sym (text_of bytes t left ts is last none)))

step_refused : (command : Command) (commands : List Command) (bytes : List ℕ) (texts : List (List ℕ)) (left : List ℕ) → (bytes ≡ [] → ⊥) → IsRefused command bytes → IsCut (command ∷ commands) bytes (parted texts left) → ⊥
step_refused command commands bytes [] left some w c = let s = c.size in omega (arith, s)
step_refused command commands bytes (t ∷ ts) left some w c = let one = c.each 0 command refl in refused_text command commands bytes t left ts one.saids some w (whole_of bytes t left ts c.whole) one.text c.over

-- ---- a command of a cut

text_dropped : (texts : List (List ℕ)) (i : ℕ) → slice_index_or texts i [] ≡ slice_index_or (drop i texts) 0 []
text_dropped texts zero = refl
text_dropped [] (suc i) = refl
text_dropped (t ∷ ts) (suc i) = text_dropped ts i

fits_dropped : (texts : List (List ℕ)) (left : List ℕ) (i : ℕ) (command : Command) (saids : List Said) → FitsText (parted texts left) i command saids → FitsText (parted (drop i texts) left) 0 command saids
fits_dropped texts left zero command saids fits = fits
fits_dropped [] left (suc i) command saids (inl answer) = inl answer
fits_dropped [] left (suc i) command saids (inr (last, rest)) = inr (refl, rest)
fits_dropped (t ∷ ts) left (suc i) command saids fits = fits_dropped ts left i command saids (later_fits t ts left i command saids fits)

-- ---- on the way through the commands

-- a cut has these texts for the first commands, and what is left of it is a cut for the others
pub record IsCutTo (commands : List Command) (output : List ℕ) (index at : ℕ) (texts : List Text) (cut : Cut) : Type 0 where
  pub rest : IsCut (drop index commands) (drop at output) (parted (drop index cut.texts) cut.left)
  pub texts_are : HasTexts commands output texts cut

-- so is each cut
abbrev pub AreCutTo : List Command → List ℕ → ℕ → ℕ → List Text → Type 0
AreCutTo commands output index at texts = (cut : Cut) → IsCut commands output cut → IsCutTo commands output index at texts cut

-- all answers of the first commands with which the output may begin end at an offset
abbrev pub AllEndAt : List Command → List ℕ → ℕ → ℕ → Type 0
AllEndAt commands output index at = (texts : List (List ℕ)) → BeginOutput (take index commands) output texts → length (concat texts) ≡ at

-- what is known before the command with this index
pub record KnowsTo (commands : List Command) (output : List ℕ) (index at : ℕ) (texts : List Text) : Type 0 where
  pub low : at ≤ length output
  pub size : length texts ≡ index
  pub few : index ≤ length commands
  pub each : (i : ℕ) (text : Text) → slice_get texts i ≡ Some text → StandsIn output text
  pub cuts : AreCutTo commands output index at texts
  pub ends : AllEndAt commands output index at

-- nothing answers no command
no_answers : (texts : List (List ℕ)) → AreSomeAnswers [] texts → length (concat texts) ≡ 0
no_answers [] are = refl
no_answers (text ∷ texts) are = absurd are

pub knows_nothing : (commands : List Command) (output : List ℕ) (texts : List Text) → texts ≡ [] → KnowsTo commands output 0 0 texts
knows_nothing commands output texts none = record {
  low = omega arith;
  size = ap (λ (l : List Text). length l) none;
  few = omega arith;
  each = λ i text is. absurd (let e : slice_get {X = Text} [] i ≡ Some text = subst (λ (l : List Text). slice_get l i ≡ Some text) none is in cc);
  cuts = λ cut c. record {
    rest = c;
    texts_are = λ i text is. absurd (let e : slice_get {X = Text} [] i ≡ Some text = subst (λ (l : List Text). slice_get l i ≡ Some text) none is in cc);
  };
  ends = λ own begin. no_answers own begin.answers;
}

-- answers of commands and one more
record OneMore (commands : List Command) (command : Command) (texts : List (List ℕ)) : Type 0 where
  front : List (List ℕ)
  text : List ℕ
  is : texts ≡ front ++ text ∷ []
  answers : AreSomeAnswers commands front
  answer : IsSomeAnswer command text

one_more : (commands : List Command) (command : Command) (texts : List (List ℕ)) → AreSomeAnswers (commands ++ command ∷ []) texts → OneMore commands command texts
one_more [] command [] are = absurd are
one_more [] command (text ∷ []) are = record { front = []; text = text; is = refl; answers = tt; answer = are.0 }
one_more [] command (text ∷ other ∷ texts) are = absurd are.1
one_more (first ∷ commands) command [] are = absurd are
one_more (first ∷ commands) command (text ∷ texts) are =
    let rest = one_more commands command texts are.1 in
    record { front = text ∷ rest.front; text = rest.text; is = ap (λ (l : List (List ℕ)). text ∷ l) rest.is; answers = (are.0, rest.answers); answer = rest.answer }

-- an element of a list with one more
push_get : {A : Type 0} (xs : List A) (x y : A) (i : ℕ) → slice_get (xs ++ x ∷ []) i ≡ Some y → (slice_get xs i ≡ Some y) ⊎ ((i ≡ length xs) × (x ≡ y))
push_get [] x y zero is = inr (refl, cc)
push_get [] x y (suc i) is = absurd (cc)
push_get (z ∷ xs) x y zero is = inl is
push_get (z ∷ xs) x y (suc i) is = ⊎_elim (λ before. inl before) (λ last. inr (ap suc last.0, last.1)) (push_get xs x y i is)

module _ (commands : List Command) (output : List ℕ) (index at : ℕ) (texts : List Text) (k : KnowsTo commands output index at texts)
    (command : Command) (below : index < length commands) (read : command ≡ get_or commands index command) where
  here : slice_get commands index ≡ Some command
  here = slice_get_read commands (length commands) index command refl below read

  split : drop index commands ≡ command ∷ drop (index + 1) commands
  split = drop_more commands index command below ∙ ap (λ (c : Command). c ∷ drop (index + 1) commands) (sym read)

  front_is : take (index + 1) commands ≡ take index commands ++ command ∷ []
  front_is = take_more commands index command below ∙ ap (λ (c : Command). take index commands ++ c ∷ []) (sym read)

  -- the next command of a cut
  next_cut : (cut : Cut) → IsCut commands output cut → IsCut (command ∷ drop (index + 1) commands) (drop at output) (parted (drop index cut.texts) cut.left)
  next_cut cut c = let to = k.cuts cut c in subst (λ (cs : List Command). IsCut cs (drop at output) (parted (drop index cut.texts) cut.left)) split to.rest

  module _ (n : ℕ) (w : IsWhole command (drop at output) n) where
    next_text : Text
    next_text = record { from = at; to = at + n }

    high : at + n ≤ length output
    high = let low = k.low in let few = w.low in let e = length-drop at output in omega (arith, low, few, e)

    bytes_are : text_in output next_text ≡ take n (drop at output)
    unfolding next_text
    bytes_are = let e : at + n - at ≡ n = omega arith in ap (λ (m : ℕ). take m (drop at output)) e

    next_has : (cut : Cut) → IsCut commands output cut → HasText commands cut index (text_in output next_text)
    next_has cut c =
        let first = step_whole command (drop (index + 1) commands) (drop at output) n (drop index cut.texts) cut.left w (next_cut cut c) in
        subst (HasText commands cut index) (sym bytes_are) (record {
          is = text_dropped cut.texts index ∙ first.is;
          whole = λ own saids is fits.
              let same : own ≡ command = let e = sym is ∙ here in cc in
              subst (λ (o : Command). (take n (drop at output) ≡ []) ⊎ IsAnswer o saids (take n (drop at output))) (sym same)
              (first.whole saids (subst (λ (o : Command). FitsText (parted (drop index cut.texts) cut.left) 0 o saids) same (fits_dropped cut.texts cut.left index own saids fits)));
        })

    next_to : (cut : Cut) → IsCut commands output cut → IsCutTo commands output (index + 1) (at + n) (texts ++ next_text ∷ []) cut
    next_to cut c =
        let first = step_whole command (drop (index + 1) commands) (drop at output) n (drop index cut.texts) cut.left w (next_cut cut c) in
        let bytes : drop n (drop at output) ≡ drop (at + n) output = drop-drop n at output in
        let lists : drop 1 (drop index cut.texts) ≡ drop (index + 1) cut.texts = drop-drop 1 index cut.texts in
        record {
          rest = subst (λ (ts : List (List ℕ)). IsCut (drop (index + 1) commands) (drop (at + n) output) (parted ts cut.left)) lists
              (subst (λ (l : List ℕ). IsCut (drop (index + 1) commands) l (parted (drop 1 (drop index cut.texts)) cut.left)) bytes first.rest);
          texts_are = λ i text is. let to = k.cuts cut c in ⊎_elim
              (λ before. to.texts_are i text before)
              (λ last.
              let number : i ≡ index = last.0 ∙ k.size in
              subst (λ (j : ℕ). HasText commands cut j (text_in output text)) (sym number)
              (subst (λ (t : Text). HasText commands cut index (text_in output t)) last.1 (next_has cut c)))
              (push_get texts next_text text i is);
        }

    pub knows_more : (more : List Text) → more ≡ texts ++ record { from = at; to = at + n } ∷ [] → KnowsTo commands output (index + 1) (at + n) more
    unfolding next_text
    knows_more more is = subst (KnowsTo commands output (index + 1) (at + n)) (sym is) (record {
      low = high;
      size = let size = k.size in let long = length-append texts (next_text ∷ []) in omega (arith, size, long);
      few = omega (arith, below);
      each = λ i text there. ⊎_elim
          (λ before. k.each i text before)
          (λ last. subst (StandsIn output) last.1 (record { rises = omega arith; within = high }))
          (push_get texts next_text text i there);
      cuts = next_to;
      ends = λ own begin.
          let one = one_more (take index commands) command own (subst (λ (cs : List Command). AreSomeAnswers cs own) front_is begin.answers) in
          let joined : concat own ≡ concat one.front ++ one.text = ap (λ (l : List (List ℕ)). concat l) one.is ∙ concat-append one.front (one.text ∷ []) ∙ ap (λ (l : List ℕ). concat one.front ++ l) (append-nil one.text) in
          let parts : concat one.front ++ (one.text ++ begin.rest) ≡ output ++ begin.more =
          sym (append_assoc (concat one.front) one.text begin.rest) ∙ ap (λ (l : List ℕ). l ++ begin.rest) (sym joined) ∙ begin.is in
          let before : length (concat one.front) ≡ at = k.ends one.front (record { answers = one.answers; rest = one.text ++ begin.rest; more = begin.more; is = parts }) in
          let here : one.text ++ begin.rest ≡ drop at output ++ begin.more =
          sym (drop_seam (concat one.front) (one.text ++ begin.rest)) ∙ ap (λ (m : ℕ). drop m (concat one.front ++ (one.text ++ begin.rest))) before
          ∙ ap (drop at) parts ∙ drop-append-le at output begin.more k.low in
          let long : length one.text ≡ n = w.long one.text begin.rest begin.more one.answer here in
          ap (λ (l : List ℕ). length l) joined ∙ length-append (concat one.front) one.text ∙ (omega (arith, before, long));
    })

  some_bytes : (at ≡ length output → ⊥) → drop at output ≡ [] → ⊥
  some_bytes more none =
      let e = length-drop at output in
      let z : length (drop at output) ≡ 0 = ap length none in
      let low = k.low in
      more (omega (arith, low, e, z))

  pub refused_no_cut : (at ≡ length output → ⊥) → IsRefused command (drop at output) → HasNoCut commands output
  refused_no_cut more w cut c = step_refused command (drop (index + 1) commands) (drop at output) (drop index cut.texts) cut.left (some_bytes more) w (next_cut cut c)

  pub refused_here : (at ≡ length output → ⊥) → IsRefused command (drop at output) → IsRefutedAt commands output index
  refused_here more w = record {
    command = command;
    is = here;
    at = at;
    some = let low = k.low in grind (arith, low, more);
    before = k.ends;
    none = w.none;
  }

-- ---- what is known at the end

module _ (commands : List Command) (output : List ℕ) (index at : ℕ) (texts : List Text) (k : KnowsTo commands output index at texts) where
  pub texts_found : AreTexts commands output texts
  texts_found = record { few = let size = k.size in let few = k.few in omega (arith, size, few); each = k.each }

  pub front_found : AreFirstTexts commands output texts
  front_found cut c = let to = k.cuts cut c in to.texts_are

  none_joined : (ts : List (List ℕ)) (i : ℕ) → concat ts ≡ [] → slice_index_or ts i [] ≡ []
  none_joined [] zero none = refl
  none_joined [] (suc i) none = refl
  none_joined (t ∷ ts) zero none = nothing_before t (concat ts) none
  none_joined (t ∷ ts) (suc i) none = none_joined ts i (nothing_after t (concat ts) none)

  later_text : (ts : List (List ℕ)) (n i : ℕ) → concat (drop n ts) ≡ [] → n ≤ i → slice_index_or ts i [] ≡ []
  later_text ts zero i none low = none_joined ts i none
  later_text [] (suc n) i none low = none_joined [] i refl
  later_text (t ∷ ts) (suc n) zero none low = absurd (omega (arith, low))
  later_text (t ∷ ts) (suc n) (suc i) none low = later_text ts n i none (omega (arith, low))

  no_more : (cut : Cut) → concat (drop index cut.texts) ≡ [] → HasNoMore (length texts) cut
  no_more cut none i low = later_text cut.texts index i none (let size = k.size in omega (arith, low, size))

  pub all_at_end : at ≡ length output → AreAllTexts commands output texts
  all_at_end end cut c =
      let to = k.cuts cut c in
      let rest = to.rest in
      let empty : drop at output ≡ [] = drop_all at output (omega (arith, end)) in
      no_more cut (nothing_before (concat (drop index cut.texts)) cut.left (sym rest.whole ∙ empty))

  -- no text is left after all commands
  no_texts : index ≡ length commands → (cut : Cut) → IsCut commands output cut → drop index cut.texts ≡ []
  no_texts last cut c = drop_all index cut.texts (let size = c.size in omega (arith, last, size))

  pub all_of_all : index ≡ length commands → AreAllTexts commands output texts
  all_of_all last cut c = no_more cut (ap concat (no_texts last cut c))

  surplus_no_cut : index ≡ length commands → (drop at output ≡ [] → ⊥) → (IsErrorLine (drop at output) → ⊥) → HasNoCut commands output
  surplus_no_cut last some other cut c =
      let to = k.cuts cut c in
      let rest = to.rest in
      let left : drop at output ≡ cut.left = rest.whole ∙ ap (λ (ts : List (List ℕ)). concat ts ++ cut.left) (no_texts last cut c) in
      go left rest.over
    where
      go : drop at output ≡ cut.left → (cut.left ≡ []) ⊎ IsOverLine (drop index commands) (parted (drop index cut.texts) cut.left) → ⊥
      go left (inl none) = some (left ∙ none)
      go left (inr over) = other (subst IsErrorLine (sym left) over.line)

  pub goes_on_here : index ≡ length commands → (drop at output ≡ [] → ⊥) → (IsErrorLine (drop at output) → ⊥) → GoesOn commands output
  goes_on_here last some other = record {
    uncut = surplus_no_cut last some other;
    at = at;
    some = dite (dec_lt at (length output)) (λ before. before) (λ past. absurd (some (drop_all at output (omega (arith, past)))));
    answers = λ own begin. k.ends own (subst (λ (cs : List Command). BeginOutput cs output own) (sym (take_all index commands (omega (arith, last)))) begin);
    other = other;
  }
