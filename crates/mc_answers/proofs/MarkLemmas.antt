-- Marks end no line, and begin with a space; a shown value is cut in one way.
use Rattle.std.proofs.Common.{◌≡◌, inl, inr, subst, ℕ, Bool, true, false, List, [], ◌∷◌, ◌++◌, length, refl, ap, sym, ◌∙◌, append_assoc}
use Rattle.std.specs.Prelude.{◌==◌, if◌then◌else◌, codes, decimal, None, Some}
use Rattle.std.specs.List.{list_all}
use Rattle.std.proofs.lemmas.List.{append_cancel_left}
use Rattle.mc_reply.specs.Line.{line, line_end}
use Rattle.mc_reply.specs.MetaText.{item_mark, mark_text, marks_text, marked, found_of}
use Rattle.mc_answers.specs.Cut.{AreCut, AreApart, IsLine, IsOfLine, is_no_feed}
use Rattle.mc_answers.specs.Kinds.{IsValueText, IsMissLine}
use Rattle.mc_answers.proofs.CutLemmas.{stops}
use Rattle.mc_answers.proofs.NumberLemmas.{choose, is_digit, decimal_no_feed, append_passes}
use Rattle.mc_answers.proofs.ItemLemmas.{after_span, length_ends, value_ends, within, heads_differ}

-- ---- marks

no_feed : List ℕ → Type 0
no_feed text = list_all is_no_feed text ≡ true

-- the mark of a letter, of an item or of none
abbrev mark_of : Bool → List ℕ → ℕ → ℕ → List ℕ → ℕ → List ℕ
mark_of true key flags unique value letter = mark_text key (Some (found_of flags unique value)) letter
mark_of false key flags unique value letter = mark_text key None letter

-- the marks of letters, of an item or of none
abbrev pub marks_of : Bool → List ℕ → ℕ → ℕ → List ℕ → List ℕ → List ℕ
marks_of true key flags unique value letters = marks_text key (Some (found_of flags unique value)) letters
marks_of false key flags unique value letters = marks_text key None letters

-- a mark is empty, or a letter, and then a key or a number
mark_holds : (Holds : List ℕ → Type 0) (key : List ℕ) → Holds [] → Holds (codes " k" ++ key) → ((n : ℕ) → Holds (codes " f" ++ decimal n)) → ((n : ℕ) → Holds (codes " c" ++ decimal n))
    → ((n : ℕ) → Holds (codes " s" ++ decimal n)) → (found : Bool) (flags unique : ℕ) (value : List ℕ) (letter : ℕ) → Holds (mark_of found key flags unique value letter)
mark_holds Holds key empty named flag_mark unique_mark size_mark false flags unique value letter = choose Holds (letter == 107) (codes " k" ++ key) [] named empty
mark_holds Holds key empty named flag_mark unique_mark size_mark true flags unique value letter =
    choose Holds (letter == 107) (codes " k" ++ key) (item_mark (found_of flags unique value) letter) named
    (
    choose Holds (letter == 102) (codes " f" ++ decimal flags) (if letter == 99 then codes " c" ++ decimal unique else if letter == 115 then codes " s" ++ decimal (length value) else [])
    (flag_mark flags)
    (
    choose Holds (letter == 99) (codes " c" ++ decimal unique) (if letter == 115 then codes " s" ++ decimal (length value) else []) (unique_mark unique)
    (choose Holds (letter == 115) (codes " s" ++ decimal (length value)) [] (size_mark (length value)) empty)
    )
    )

mark_no_feed : (key : List ℕ) → IsOfLine key → (found : Bool) (flags unique : ℕ) (value : List ℕ) (letter : ℕ) → no_feed (mark_of found key flags unique value letter)
unfolding no_feed
mark_no_feed key named found flags unique value letter =
    mark_holds no_feed key refl (append_passes is_no_feed (codes " k") key refl named) (λ n. append_passes is_no_feed (codes " f") (decimal n) refl (decimal_no_feed n))
    (λ n. append_passes is_no_feed (codes " c") (decimal n) refl (decimal_no_feed n)) (λ n. append_passes is_no_feed (codes " s") (decimal n) refl (decimal_no_feed n)) found flags unique value letter

-- the marks of letters end no line
pub marks_no_feed : (key : List ℕ) → IsOfLine key → (found : Bool) (flags unique : ℕ) (value letters : List ℕ) → list_all is_no_feed (marks_of found key flags unique value letters) ≡ true
unfolding no_feed
marks_no_feed key named true flags unique value [] = refl
marks_no_feed key named false flags unique value [] = refl
marks_no_feed key named true flags unique value (letter ∷ letters) =
    append_passes is_no_feed (mark_of true key flags unique value letter) (marks_of true key flags unique value letters) (mark_no_feed key named true flags unique value letter)
    (marks_no_feed key named true flags unique value letters)
marks_no_feed key named false flags unique value (letter ∷ letters) =
    append_passes is_no_feed (mark_of false key flags unique value letter) (marks_of false key flags unique value letters) (mark_no_feed key named false flags unique value letter)
    (marks_no_feed key named false flags unique value letters)

-- a text in front of which a number still ends
keeps_stop : List ℕ → Type 0
keeps_stop text = (rest : List ℕ) → stops is_digit rest ≡ true → stops is_digit (text ++ rest) ≡ true

mark_keeps_stop : (key : List ℕ) (flags unique : ℕ) (value : List ℕ) (letter : ℕ) → keeps_stop (mark_of true key flags unique value letter)
unfolding keeps_stop
mark_keeps_stop key flags unique value letter =
    mark_holds keeps_stop key (λ rest ends. ends) (λ rest ends. refl) (λ n rest ends. refl) (λ n rest ends. refl) (λ n rest ends. refl) true flags unique value letter

marks_keep_stop : (key : List ℕ) (flags unique : ℕ) (value letters rest : List ℕ) → stops is_digit rest ≡ true → stops is_digit (marks_of true key flags unique value letters ++ rest) ≡ true
unfolding keeps_stop
marks_keep_stop key flags unique value [] rest ends = ends
marks_keep_stop key flags unique value (letter ∷ letters) rest ends =
    ap (stops is_digit) (append_assoc (mark_of true key flags unique value letter) (marks_of true key flags unique value letters) rest)
    ∙ mark_keeps_stop key flags unique value letter (marks_of true key flags unique value letters ++ rest) (marks_keep_stop key flags unique value letters rest ends)

-- ---- lines

-- a text that ends no line, as a line
pub line_is : (text : List ℕ) → list_all is_no_feed text ≡ true → IsLine (line text)
line_is text inner = record { body = text ++ 13 ∷ []; inner = append_passes is_no_feed text (13 ∷ []) inner refl; is = sym (append_assoc text (13 ∷ []) (10 ∷ [])) }

-- a code and its marks are a line
pub found_is_line : (code key : List ℕ) (flags unique : ℕ) (value letters : List ℕ) → list_all is_no_feed code ≡ true → IsOfLine key → IsLine (marked code key (Some (found_of flags unique value)) letters)
found_is_line code key flags unique value letters inner named =
    line_is (code ++ marks_of true key flags unique value letters) (append_passes is_no_feed code (marks_of true key flags unique value letters) inner (marks_no_feed key named true flags unique value letters))

pub marked_is_line : (code key letters : List ℕ) → list_all is_no_feed code ≡ true → IsOfLine key → IsLine (marked code key None letters)
marked_is_line code key letters inner named =
    line_is (code ++ marks_of false key 0 0 [] letters) (append_passes is_no_feed code (marks_of false key 0 0 [] letters) inner (marks_no_feed key named false 0 0 [] letters))

-- ---- a shown value

value_parts : (a n m e v w more : List ℕ) → ((((a ++ n) ++ m) ++ e) ++ (v ++ w)) ++ more ≡ a ++ (n ++ (m ++ (e ++ (v ++ (w ++ more)))))
value_parts a n m e v w more = simp append_assoc

value_shape : (marks value more : List ℕ) → (line ((codes "VA " ++ decimal (length value)) ++ marks) ++ line value) ++ more ≡ codes "VA " ++ (decimal (length value) ++ (marks ++ (13 ∷ 10 ∷ value ++ (13 ∷ 10 ∷ more))))
value_shape marks value more = value_parts (codes "VA ") (decimal (length value)) marks line_end value line_end more

-- marks and the end of their line
marks_end : (m n more other : List ℕ) → list_all is_no_feed m ≡ true → list_all is_no_feed n ≡ true → m ++ (13 ∷ 10 ∷ more) ≡ n ++ (13 ∷ 10 ∷ other) → more ≡ other
marks_end m n more other inner inner_too same =
    after_span is_no_feed (m ++ 13 ∷ []) (n ++ 13 ∷ []) more other 10 (append_passes is_no_feed m (13 ∷ []) inner refl) (append_passes is_no_feed n (13 ∷ []) inner_too refl) refl
    (append_assoc m (13 ∷ []) (10 ∷ more) ∙ same ∙ sym (append_assoc n (13 ∷ []) (10 ∷ other)))

pub value_cut : (key letters : List ℕ) → IsOfLine key → AreCut (IsValueText key letters)
value_cut key letters named a b more other one two same =
    let m : List ℕ = marks_of true key one.flags one.unique one.value letters in
    let n : List ℕ = marks_of true key two.flags two.unique two.value letters in
    let whole = sym (value_shape m one.value more) ∙ ap (λ (t : List ℕ). t ++ more) (sym one.is) ∙ same ∙ ap (λ (t : List ℕ). t ++ other) two.is ∙ value_shape n two.value other in
    let sizes = append_cancel_left (codes "VA ") (decimal (length one.value) ++ (m ++ (13 ∷ 10 ∷ one.value ++ (13 ∷ 10 ∷ more)))) (decimal (length two.value) ++ (n ++ (13 ∷ 10 ∷ two.value ++ (13 ∷ 10 ∷ other)))) whole in
    let found = length_ends (length one.value) (length two.value) (m ++ (13 ∷ 10 ∷ one.value ++ (13 ∷ 10 ∷ more))) (n ++ (13 ∷ 10 ∷ two.value ++ (13 ∷ 10 ∷ other))) (within one.value one.fits) (within two.value two.fits)
    (marks_keep_stop key one.flags one.unique one.value letters (13 ∷ 10 ∷ one.value ++ (13 ∷ 10 ∷ more)) refl)
    (marks_keep_stop key two.flags two.unique two.value letters (13 ∷ 10 ∷ two.value ++ (13 ∷ 10 ∷ other)) refl) sizes in
    value_ends one.value two.value more other found.number
    (
    marks_end m n (one.value ++ (13 ∷ 10 ∷ more)) (two.value ++ (13 ∷ 10 ∷ other)) (marks_no_feed key named true one.flags one.unique one.value letters)
    (marks_no_feed key named true two.flags two.unique two.value letters) found.rest
    )

-- the lines that say that there is none begin otherwise
value_is_not : (key letters : List ℕ) (a b more other : List ℕ) → IsValueText key letters a → (rest : List ℕ) → b ≡ 69 ∷ rest → a ++ more ≡ b ++ other → ⊥
value_is_not key letters a b more other one rest is same =
    let m : List ℕ = marks_of true key one.flags one.unique one.value letters in
    heads_differ 86 69 (codes "A " ++ (decimal (length one.value) ++ (m ++ (13 ∷ 10 ∷ one.value ++ (13 ∷ 10 ∷ more))))) (rest ++ other) refl
    (sym (value_shape m one.value more) ∙ ap (λ (t : List ℕ). t ++ more) (sym one.is) ∙ same ∙ ap (λ (t : List ℕ). t ++ other) is)

pub value_is_no_miss : (key letters : List ℕ) → AreApart (IsValueText key letters) (IsMissLine key)
value_is_no_miss key letters a b more other one (inl is) same = value_is_not key letters a b more other one _ is same
value_is_no_miss key letters a b more other one (inr is) same = value_is_not key letters a b more other one _ is same

pub miss_is_line : (key : List ℕ) → IsOfLine key → (text : List ℕ) → IsMissLine key text → IsLine text
miss_is_line key named text (inl is) = subst IsLine (sym is) (line_is (codes "EN") refl)
miss_is_line key named text (inr is) = subst IsLine (sym is) (line_is (codes "EN k" ++ key) (append_passes is_no_feed (codes "EN k") key refl named))

-- a shown value begins with a `V`
pub value_begins : (key letters a : List ℕ) → IsValueText key letters a → (more : List ℕ) → (rest : List ℕ) × (a ++ more ≡ 86 ∷ rest)
value_begins key letters a one more =
    let m : List ℕ = marks_of true key one.flags one.unique one.value letters in (
      codes "A " ++ (decimal (length one.value) ++ (m ++ (13 ∷ 10 ∷ one.value ++ (13 ∷ 10 ∷ more)))),
      ap (λ (t : List ℕ). t ++ more) one.is ∙ value_shape m one.value more,
    )
