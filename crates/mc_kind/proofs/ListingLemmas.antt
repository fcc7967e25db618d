-- The first text of a retrieval's answer.
use Rattle.std.proofs.Common.{◌≡◌, inl, inr, ℕ, zero, suc, ◌+◌, ◌<◌, ◌≤◌, Bool, true, false, List, [], ◌∷◌, ◌++◌, length, take, drop, get_or, refl, ap, sym, ◌∙◌, subst, append_assoc, arith}
use Rattle.std.specs.Prelude.{◌==◌, ◌||◌, not, codes, decimal, None, Some}
use Rattle.std.proofs.lemmas.Bool.{and_from}
use Rattle.memchr.specs.Find.{is_byte2}
use Rattle.std.specs.List.{concat, list_all, AllByRecursion, Contains}
use Rattle.std.proofs.lemmas.List.{append-nil, take-append-drop, length-take-le, length-append, drop_more, drop_all}
use Rattle.zy_base.specs.Limits.{value_limit}
use Rattle.mc_parse.specs.declared.command.Command.TheVariants.{Get}
use Rattle.mc_reply.specs.Text.{line, line_end, item_line}
use Rattle.mc_answers.specs.Answer.{IsCuttable}
use Rattle.mc_answers.specs.Cut.{IsLine, IsWord, IsOfLine, IsSeries, is_no_feed, is_no_space}
use Rattle.mc_answers.specs.Kinds.{IsItemText, IsEndText, IsErrorLine}
use Rattle.mc_answers.proofs.AnswerLemmas.{some_shaped, shape_cut}
use Rattle.mc_answers.proofs.CutLemmas.{lines_cut, same_texts, regroup}
use Rattle.mc_answers.proofs.ErrorLemmas.{error_head, error_is_line, item_no_error, end_no_error, ErrorHead, error as in_error, client as in_client, server as in_server}
use Rattle.mc_answers.proofs.ItemLemmas.{item_cut, item_is_no_end, within, heads_differ}
use Rattle.mc_answers.proofs.MarkLemmas.{line_is}
use Rattle.mc_answers.proofs.NumberLemmas.{append_passes, decimal_no_feed}
use Rattle.mc_answered.specs.Reading.{Heading, heading_of}
use Rattle.mc_answered.proofs.FoundLemmas.{found_two}
use Rattle.mc_answered.proofs.HeadingLemmas.{heading_of-item, heading_of-some, heading_line, item_heading, unique_shown}
use Rattle.mc_kind.specs.First.{NoneFits, IsWhole, IsRefused}
use Rattle.mc_kind.specs.Piece.{IsKeyWord, IsValueLine, IsItemOrEnd}
use Rattle.mc_kind.proofs.SeriesLemmas.{have_length, AreItems, whole_series, series_none, items_no_error}

-- ---- keys

pub words_of : (keys : List (List ℕ)) → AllByRecursion IsKeyWord keys → AllByRecursion IsWord keys
words_of [] words = tt
words_of (key ∷ keys) words = (words.0.word, words_of keys words.1)

key_word : (keys : List (List ℕ)) (key : List ℕ) → AllByRecursion IsKeyWord keys → Contains keys key → IsKeyWord key
key_word [] key words (k, low, is) = absurd (omega arith)
key_word (first ∷ keys) key words (zero, low, is) = subst IsKeyWord is words.0
key_word (first ∷ keys) key words (suc k, low, is) = key_word keys key words.1 (k, omega arith, is)

-- ---- lines of items

heading_no_feed : (key : List ℕ) (flags : ℕ) (value : List ℕ) → IsOfLine key → list_all is_no_feed (codes "VALUE " ++ key ++ codes " " ++ decimal flags ++ codes " " ++ decimal (length value)) ≡ true
heading_no_feed key flags value named =
    append_passes is_no_feed (codes "VALUE " ++ key ++ codes " " ++ decimal flags ++ codes " ") (decimal (length value))
    (
    append_passes is_no_feed (codes "VALUE " ++ key ++ codes " " ++ decimal flags) (codes " ")
    (
    append_passes is_no_feed (codes "VALUE " ++ key ++ codes " ") (decimal flags)
    (append_passes is_no_feed (codes "VALUE " ++ key) (codes " ") (append_passes is_no_feed (codes "VALUE ") key refl named) refl) (decimal_no_feed flags)
    )
    refl
    )
    (decimal_no_feed (length value))

unique_no_feed : (asked : Bool) (key : List ℕ) (flags unique : ℕ) (value : List ℕ) → IsOfLine key → IsLine (item_line asked key flags unique value)
unique_no_feed true key flags unique value named =
    line_is ((codes "VALUE " ++ key ++ codes " " ++ decimal flags ++ codes " " ++ decimal (length value)) ++ (codes " " ++ decimal unique))
    (
    append_passes is_no_feed (codes "VALUE " ++ key ++ codes " " ++ decimal flags ++ codes " " ++ decimal (length value)) (codes " " ++ decimal unique) (heading_no_feed key flags value named)
    (append_passes is_no_feed (codes " ") (decimal unique) refl (decimal_no_feed unique))
    )
unique_no_feed false key flags unique value named = line_is (codes "VALUE " ++ key ++ codes " " ++ decimal flags ++ codes " " ++ decimal (length value)) (heading_no_feed key flags value named)

-- the first line, and the bytes after it
pub lined : (bytes : List ℕ) (n : ℕ) (more : List ℕ) → bytes ++ more ≡ take n bytes ++ (drop n bytes ++ more)
lined bytes n more = ap (λ (t : List ℕ). t ++ more) (sym (take-append-drop n bytes)) ∙ append_assoc (take n bytes) (drop n bytes) more

-- an item that fits has the heading of the first line
item_headed : (asked : Bool) (keys : List (List ℕ)) (bytes : List ℕ) (n : ℕ) → AllByRecursion IsKeyWord keys → IsLine (take n bytes) → (text rest more : List ℕ) → (one : IsItemText asked keys text) → text ++ rest ≡ bytes ++ more
    → heading_of asked (take n bytes) ≡ Some (item_heading one.flags one.key (length one.value) (unique_shown asked one.unique))
item_headed asked keys bytes n words is text rest more one same =
    let word = key_word keys one.key words one.among in
    let first : item_line asked one.key one.flags one.unique one.value ≡ take n bytes =
    same_texts IsLine lines_cut (item_line asked one.key one.flags one.unique one.value) (take n bytes) (line one.value ++ rest) (drop n bytes ++ more) (unique_no_feed asked one.key one.flags one.unique one.value word.of_line) is
    (sym (regroup text (item_line asked one.key one.flags one.unique one.value) (line one.value) rest one.is) ∙ same ∙ lined bytes n more) in
    subst (λ (t : List ℕ). heading_of asked t ≡ Some (item_heading one.flags one.key (length one.value) (unique_shown asked one.unique))) first
    (heading_of-item asked one.key one.flags one.unique one.value word.word one.few (within one.value one.fits) one.small)

-- so does the end
end_there : (bytes : List ℕ) (n : ℕ) → IsLine (take n bytes) → (text rest more : List ℕ) → IsEndText text → text ++ rest ≡ bytes ++ more → take n bytes ≡ line (codes "END")
end_there bytes n is text rest more one same =
    sym (same_texts IsLine lines_cut (line (codes "END")) (take n bytes) rest (drop n bytes ++ more) (line_is (codes "END") refl) is (ap (λ (t : List ℕ). t ++ rest) (sym one) ∙ same ∙ lined bytes n more))

-- a line that is neither the end nor a heading is refused
pub headless_none : (asked : Bool) (keys : List (List ℕ)) (bytes : List ℕ) (n : ℕ) → AllByRecursion IsKeyWord keys → IsLine (take n bytes) → (take n bytes ≡ line (codes "END") → ⊥) → heading_of asked (take n bytes) ≡ None
    → NoneFits (IsItemOrEnd asked keys) bytes
headless_none asked keys bytes n words is no_end headless text rest more (inl one) same = let e = sym headless ∙ item_headed asked keys bytes n words is text rest more one same in absurd (cc)
headless_none asked keys bytes n words is no_end headless text rest more (inr one) same = no_end (end_there bytes n is text rest more one same)

-- so is the heading of another key
pub foreign_none : (asked : Bool) (keys : List (List ℕ)) (bytes : List ℕ) (n : ℕ) (h : Heading) → AllByRecursion IsKeyWord keys → IsLine (take n bytes) → (take n bytes ≡ line (codes "END") → ⊥)
    → heading_of asked (take n bytes) ≡ Some h → (Contains keys h.key → ⊥) → NoneFits (IsItemOrEnd asked keys) bytes
foreign_none asked keys bytes n h words is no_end headed foreign text rest more (inl one) same =
    let e = sym headed ∙ item_headed asked keys bytes n words is text rest more one same in
    let i : h ≡ item_heading one.flags one.key (length one.value) (unique_shown asked one.unique) = cc in
    foreign (subst (Contains keys) (sym (ap (λ (x : Heading). x.key) i)) one.among)
foreign_none asked keys bytes n h words is no_end headed foreign text rest more (inr one) same = no_end (end_there bytes n is text rest more one same)

-- ---- error lines

first_there : (bytes : List ℕ) (n : ℕ) → IsLine (take n bytes) → IsErrorLine bytes → take n bytes ≡ bytes
first_there bytes n is error = same_texts IsLine lines_cut (take n bytes) bytes (drop n bytes) [] is (error_is_line bytes error) (take-append-drop n bytes ∙ sym (append-nil bytes))

-- the bytes are no error line if their first line is none
pub no_error_first : (bytes : List ℕ) (n : ℕ) → IsLine (take n bytes) → (IsErrorLine (take n bytes) → ⊥) → IsErrorLine bytes → ⊥
no_error_first bytes n is none error = none (subst IsErrorLine (sym (first_there bytes n is error)) error)

pub some_error_first : (bytes : List ℕ) (n : ℕ) → IsLine (take n bytes) → IsErrorLine bytes → take n bytes ≡ bytes
some_error_first bytes n is error = first_there bytes n is error

-- ---- an item

pub value_line : (bytes rest : List ℕ) (count : ℕ) → count ≤ length bytes → count ≤ value_limit → rest ≡ drop count bytes → rest ≡ line_end ++ drop 2 rest → (count + 2 ≤ length bytes) × IsValueLine count (take (count + 2) bytes)
value_line bytes rest count low few after ends =
    let two : 2 ≤ length rest = let e : length rest ≡ length line_end + length (drop 2 rest) = ap length ends ∙ length-append line_end (drop 2 rest) in omega (arith, e) in
    let both = found_two bytes count 2 (take count bytes) line_end rest low refl after two (ap (take 2) ends) in
    (both.low, record { value = take count bytes; long = length-take-le count bytes low; few = subst (λ (k : ℕ). k ≤ value_limit) (sym (length-take-le count bytes low)) few; is = both.is })

pub item_whole : (asked : Bool) (keys : List (List ℕ)) (bytes rest : List ℕ) (n m : ℕ) (h : Heading) → n ≤ length bytes → heading_of asked (take n bytes) ≡ Some h → Contains keys h.key → rest ≡ drop n bytes → m ≤ length rest
    → IsValueLine h.count (take m rest) → (n + m ≤ length bytes) × IsItemText asked keys (take (n + m) bytes)
item_whole asked keys bytes rest n m h low headed among after low_too of =
    let heading = heading_of-some asked (take n bytes) h headed in
    let first = heading_line asked (take n bytes) h of.value heading of.long in
    let both = found_two bytes n m (item_line asked h.key h.flags h.unique of.value) (line of.value) rest low first after low_too of.is in
    (both.low, record { key = h.key; flags = h.flags; unique = h.unique; value = of.value; among = among; few = heading.few; small = heading.small; fits = of.few; is = both.is })

-- the first line of an item is no error line
pub heading_no_error : (asked : Bool) (text : List ℕ) (h : Heading) → heading_of asked text ≡ Some h → IsErrorLine text → ⊥
heading_no_error asked text h headed error_line = go (error_head text error_line)
  where
    rest : (t : List ℕ) (x : ℕ) → (86 == x) ≡ false → (r : List ℕ) → t ≡ x ∷ r → (s : List ℕ) → t ≡ 86 ∷ s → ⊥
    rest t x other r is s same = heads_differ 86 x s r other (sym same ∙ is)

    go : ErrorHead text → ⊥
    go (in_error r is) = rest text 69 refl (82 ∷ r) is _ (heading_of-some asked text h headed).is
    go (in_client r is) = rest text 67 refl r is _ (heading_of-some asked text h headed).is
    go (in_server r is) = rest text 83 refl (69 ∷ r) is _ (heading_of-some asked text h headed).is

-- ---- items and error lines

pub items_apart : (IsItem : List ℕ → Type 0) → ((a x e y : List ℕ) → IsItem a → ErrorHead e → a ++ x ≡ e ++ y → ⊥) → (items : List (List ℕ)) (last x e y : List ℕ) → AllByRecursion IsItem items → IsEndText last → ErrorHead e
    → (concat items ++ last) ++ x ≡ e ++ y → ⊥
items_apart IsItem apart [] last x e y each end head same = end_no_error last x e y end head same
items_apart IsItem apart (i ∷ items) last x e y each end head same =
    apart i ((concat items ++ last) ++ x) e y each.0 head (sym (regroup (concat (i ∷ items) ++ last) i (concat items ++ last) x (append_assoc i (concat items) last)) ∙ same)

-- ---- a retrieval

cuttable : (keys : List (List ℕ)) (asked : Bool) → AllByRecursion IsKeyWord keys → IsCuttable (Get keys asked)
cuttable keys asked words = record { said = words_of keys words; plain = refl }

pub listing_whole : (keys : List (List ℕ)) (asked : Bool) (bytes rest : List ℕ) (at n : ℕ) → AllByRecursion IsKeyWord keys → AreItems (IsItemText asked keys) bytes at → rest ≡ drop at bytes → n ≤ length rest
    → IsEndText (take n rest) → IsWhole (Get keys asked) bytes (at + n)
listing_whole keys asked bytes rest at n words so after low one =
    let whole = whole_series (IsItemText asked keys) IsEndText bytes rest at n so after low one in
    let c = cuttable keys asked words in
    record {
      low = whole.low;
      long = λ text others more answer same.
          have_length (IsSeries (IsItemText asked keys) IsEndText) (shape_cut (Get keys asked) c.said) bytes (at + n) whole.low whole.series text others more (some_shaped (Get keys asked) c text answer) same;
      error = λ error. absurd (items_apart (IsItemText asked keys) (item_no_error asked keys) whole.series.items whole.series.last (drop (at + n) bytes) bytes [] whole.series.each whole.series.end (error_head bytes error)
          (ap (λ (t : List ℕ). t ++ drop (at + n) bytes) (sym whole.series.is) ∙ take-append-drop (at + n) bytes ∙ sym (append-nil bytes)));
    }

item_apart : (asked : Bool) (keys : List (List ℕ)) (item rest bytes : List ℕ) → IsItemText asked keys item → IsErrorLine bytes → item ++ rest ≡ bytes → ⊥
item_apart asked keys item rest bytes one error same = item_no_error asked keys item rest bytes [] one (error_head bytes error) (same ∙ sym (append-nil bytes))

pub listing_refused : (keys : List (List ℕ)) (asked : Bool) (bytes rest : List ℕ) (at : ℕ) → AllByRecursion IsKeyWord keys → AreItems (IsItemText asked keys) bytes at → rest ≡ drop at bytes
    → NoneFits (IsItemOrEnd asked keys) rest → (IsErrorLine rest → ⊥) → IsRefused (Get keys asked) bytes
listing_refused keys asked bytes rest at words so after none no_error =
    let c = cuttable keys asked words in
    record {
      none = λ text others more answer same.
          series_none (IsItemText asked keys) IsEndText (item_cut asked keys c.said) (item_is_no_end asked keys) bytes rest at so after none text others more (some_shaped (Get keys asked) c text answer) same;
      error = items_no_error (IsItemText asked keys) IsErrorLine (item_apart asked keys) bytes rest at so after no_error;
    }

-- a line that fits is the first line
pub first_text : (bytes : List ℕ) (n : ℕ) → IsLine (take n bytes) → (text rest more : List ℕ) → IsLine text → text ++ rest ≡ bytes ++ more → text ≡ take n bytes
first_text bytes n is text rest more one same = same_texts IsLine lines_cut text (take n bytes) rest (drop n bytes ++ more) one is (same ∙ lined bytes n more)

-- ---- small tests

two_none : (byte : ℕ) → (is_byte2 32 10 byte ≡ true → ⊥) → (is_no_space byte ≡ true) × (is_no_feed byte ≡ true)
two_none byte none = go (byte == 32) refl (byte == 10) refl
  where
    go : (a : Bool) → (byte == 32) ≡ a → (b : Bool) → (byte == 10) ≡ b → (is_no_space byte ≡ true) × (is_no_feed byte ≡ true)
    go true one b two = absurd (none (ap (λ (x : Bool). x || (byte == 10)) one))
    go false one true two = absurd (none (ap (λ (x : Bool). x || (byte == 10)) one ∙ two))
    go false one false two = (ap not one, ap not two)

pub word_found : (key : List ℕ) → ((k : ℕ) → k < length key → is_byte2 32 10 (get_or key k 0) ≡ true → ⊥) → IsKeyWord key
word_found [] none = record { word = refl; of_line = refl }
word_found (byte ∷ key) none =
    let here = two_none byte (none 0 (omega arith)) in
    let rest = word_found key (λ k low is. none (suc k) (omega arith) is) in
    record {
      word = and_from (is_no_space byte) (list_all is_no_space key) here.0 rest.word;
      of_line = and_from (is_no_feed byte) (list_all is_no_feed key) here.1 rest.of_line;
    }
