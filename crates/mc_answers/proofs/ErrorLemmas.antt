-- An answer that stands where an error line stands is that line.
use Rattle.std.proofs.Common.{◌≡◌, ◌⊎◌, inl, inr, ℕ, Bool, true, false, List, [], ◌∷◌, ◌++◌, refl, ap, sym, ◌∙◌, append_assoc}
use Rattle.std.specs.Prelude.{◌==◌, codes}
use Rattle.std.specs.List.{concat, AllByRecursion}
use Rattle.mc_meta.specs.Flags.{is_among}
use Rattle.mc_parse.specs.declared.command.Command.{Command}
use Rattle.mc_parse.specs.Deed.{says_of}
use Rattle.mc_parse.specs.Saying.{Saying, says_reply, says_items, says_counts, says_line, says_marks, a_found, a_stored, a_removed}
use Rattle.mc_reply.specs.MetaText.{value_letter}
use Rattle.mc_reply.specs.Text.{line_end}
use Rattle.mc_answers.specs.Answer.{IsUnless, IsSomeAnswer, IsCuttable}
use Rattle.mc_answers.specs.Cut.{IsLine}
use Rattle.mc_answers.specs.Kinds.{IsLineWith, IsErrorLine, IsItemText, IsEndText, IsValueText, IsMissLine}
use Rattle.mc_answers.specs.Shape.{IsFoundText, IsShaped}
use Rattle.mc_answers.proofs.CutLemmas.{lines_cut, same_texts, regroup}
use Rattle.mc_answers.proofs.ItemLemmas.{item_begins, heads_differ}
use Rattle.mc_answers.proofs.MarkLemmas.{value_begins}
use Rattle.mc_answers.proofs.AnswerLemmas.{some_shaped}

-- ---- how an error line begins

-- the first two letters of an error line
pub data ErrorHead (text : List ℕ) : Type 0 where
  error : (rest : List ℕ) → text ≡ 69 ∷ 82 ∷ rest → ErrorHead text
  client : (rest : List ℕ) → text ≡ 67 ∷ rest → ErrorHead text
  server : (rest : List ℕ) → text ≡ 83 ∷ 69 ∷ rest → ErrorHead text

pub error_head : (text : List ℕ) → IsErrorLine text → ErrorHead text
error_head text (inl one) = error (codes "ROR" ++ (one.rest ++ line_end)) one.is
error_head text (inr (inl one)) = client (codes "LIENT_ERROR" ++ (one.rest ++ line_end)) one.is
error_head text (inr (inr one)) = server (codes "RVER_ERROR" ++ (one.rest ++ line_end)) one.is

pub error_is_line : (text : List ℕ) → IsErrorLine text → IsLine text
error_is_line text (inl one) = one.line
error_is_line text (inr (inl one)) = one.line
error_is_line text (inr (inr one)) = one.line

seconds_differ : (x m n : ℕ) (a b : List ℕ) → (m == n) ≡ false → x ∷ m ∷ a ≡ x ∷ n ∷ b → ⊥
seconds_differ x m n a b other same = let tail : m ∷ a ≡ n ∷ b = cc in heads_differ m n a b other tail

-- a text that begins with these letters is in front of no error line
begun : (e y : List ℕ) → ErrorHead e → (x : ℕ) → (x == 69) ≡ false → (x == 67) ≡ false → (x == 83) ≡ false → (rest : List ℕ) → x ∷ rest ≡ e ++ y → ⊥
begun e y (error r is) x other_E other_C other_S rest same = heads_differ x 69 rest (82 ∷ (r ++ y)) other_E (same ∙ ap (λ (t : List ℕ). t ++ y) is)
begun e y (client r is) x other_E other_C other_S rest same = heads_differ x 67 rest (r ++ y) other_C (same ∙ ap (λ (t : List ℕ). t ++ y) is)
begun e y (server r is) x other_E other_C other_S rest same = heads_differ x 83 rest (69 ∷ (r ++ y)) other_S (same ∙ ap (λ (t : List ℕ). t ++ y) is)

-- so is one that begins with an `E` and another letter than `R`
begun_E : (e y : List ℕ) → ErrorHead e → (x : ℕ) → (x == 82) ≡ false → (rest : List ℕ) → 69 ∷ x ∷ rest ≡ e ++ y → ⊥
begun_E e y (error r is) x differs rest same = seconds_differ 69 x 82 rest (r ++ y) differs (same ∙ ap (λ (t : List ℕ). t ++ y) is)
begun_E e y (client r is) x differs rest same = heads_differ 69 67 (x ∷ rest) (r ++ y) refl (same ∙ ap (λ (t : List ℕ). t ++ y) is)
begun_E e y (server r is) x differs rest same = heads_differ 69 83 (x ∷ rest) (69 ∷ (r ++ y)) refl (same ∙ ap (λ (t : List ℕ). t ++ y) is)

-- and one that begins with an `S` and another letter than `E`
begun_S : (e y : List ℕ) → ErrorHead e → (x : ℕ) → (x == 69) ≡ false → (rest : List ℕ) → 83 ∷ x ∷ rest ≡ e ++ y → ⊥
begun_S e y (error r is) x differs rest same = heads_differ 83 69 (x ∷ rest) (82 ∷ (r ++ y)) refl (same ∙ ap (λ (t : List ℕ). t ++ y) is)
begun_S e y (client r is) x differs rest same = heads_differ 83 67 (x ∷ rest) (r ++ y) refl (same ∙ ap (λ (t : List ℕ). t ++ y) is)
begun_S e y (server r is) x differs rest same = seconds_differ 83 x 69 rest (r ++ y) differs (same ∙ ap (λ (t : List ℕ). t ++ y) is)

-- ---- texts that are no error lines

pub end_no_error : (a x e y : List ℕ) → IsEndText a → ErrorHead e → a ++ x ≡ e ++ y → ⊥
end_no_error a x e y one head same = begun_E e y head 78 refl (codes "D\r\n" ++ x) (ap (λ (t : List ℕ). t ++ x) (sym one) ∙ same)

pub item_no_error : (asked : Bool) (keys : List (List ℕ)) (a x e y : List ℕ) → IsItemText asked keys a → ErrorHead e → a ++ x ≡ e ++ y → ⊥
item_no_error asked keys a x e y one head same = let found = item_begins asked keys a one x in begun e y head 86 refl refl refl found.0 (sym found.1 ∙ same)

stat_no_error : (a x e y : List ℕ) → IsLineWith (codes "STAT ") a → ErrorHead e → a ++ x ≡ e ++ y → ⊥
stat_no_error a x e y one head same = begun_S e y head 84 refl (codes "AT " ++ ((one.rest ++ line_end) ++ x)) (ap (λ (t : List ℕ). t ++ x) (sym one.is) ∙ same)

series_no_error : (IsItem : List ℕ → Type 0) → ((a x e y : List ℕ) → IsItem a → ErrorHead e → a ++ x ≡ e ++ y → ⊥) → (items : List (List ℕ)) (last x e y : List ℕ)
    → AllByRecursion IsItem items → IsEndText last → ErrorHead e → (concat items ++ last) ++ x ≡ e ++ y → ⊥
series_no_error IsItem apart [] last x e y each end head same = end_no_error last x e y end head same
series_no_error IsItem apart (i ∷ items) last x e y each end head same =
    apart i ((concat items ++ last) ++ x) e y each.0 head (sym (regroup (concat (i ∷ items) ++ last) i (concat items ++ last) x (append_assoc i (concat items) last)) ∙ same)

value_no_error : (key letters a x e y : List ℕ) → IsValueText key letters a → ErrorHead e → a ++ x ≡ e ++ y → ⊥
value_no_error key letters a x e y one head same = let found = value_begins key letters a one x in begun e y head 86 refl refl refl found.0 (sym found.1 ∙ same)

miss_no_error : (key a x e y : List ℕ) → IsMissLine key a → ErrorHead e → a ++ x ≡ e ++ y → ⊥
miss_no_error key a x e y (inl is) head same = begun_E e y head 78 refl (codes "\r\n" ++ x) (ap (λ (t : List ℕ). t ++ x) (sym is) ∙ same)
miss_no_error key a x e y (inr is) head same = begun_E e y head 78 refl ((codes " k" ++ key) ++ (line_end ++ x)) (sym (append_assoc (codes "EN k" ++ key) line_end x) ∙ ap (λ (t : List ℕ). t ++ x) (sym is) ∙ same)

-- ---- answers

line_there : (a x e y : List ℕ) → IsLine a → IsErrorLine e → a ++ x ≡ e ++ y → a ≡ e
line_there a x e y one other same = same_texts IsLine lines_cut a e x y one (error_is_line e other) same

unless_there : (quiet : Bool) (a x e y : List ℕ) → IsUnless quiet IsLine a → IsErrorLine e → a ++ x ≡ e ++ y → (a ≡ []) ⊎ (a ≡ e)
unless_there true a x e y one other same = inl one
unless_there false a x e y one other same = inr (line_there a x e y one other same)

found_there : (shown : Bool) (key letters a x e y : List ℕ) → IsFoundText shown key letters a → IsErrorLine e → a ++ x ≡ e ++ y → (a ≡ []) ⊎ (a ≡ e)
found_there true key letters a x e y (inl one) other same = absurd (value_no_error key letters a x e y one (error_head e other) same)
found_there true key letters a x e y (inr one) other same = absurd (miss_no_error key a x e y one (error_head e other) same)
found_there false key letters a x e y one other same = inr (line_there a x e y one other same)

shape_there : (says : Saying) (a x e y : List ℕ) → IsShaped says a → IsErrorLine e → a ++ x ≡ e ++ y → (a ≡ []) ⊎ (a ≡ e)
shape_there (says_reply quiet) a x e y one other same = unless_there quiet a x e y one other same
shape_there (says_items keys asked) a x e y one other same =
    absurd (series_no_error (IsItemText asked keys) (item_no_error asked keys) one.items one.last x e y one.each one.end (error_head e other) (ap (λ (t : List ℕ). t ++ x) (sym one.is) ∙ same))
shape_there says_counts a x e y one other same =
    absurd (series_no_error (IsLineWith (codes "STAT ")) stat_no_error one.items one.last x e y one.each one.end (error_head e other) (ap (λ (t : List ℕ). t ++ x) (sym one.is) ∙ same))
shape_there (says_line fixed quiet) a x e y one other same = unless_there quiet a x e y one other same
shape_there (says_marks a_found key letters) a x e y one other same = found_there (is_among letters value_letter) key letters a x e y one other same
shape_there (says_marks a_stored key letters) a x e y one other same = inr (line_there a x e y one other same)
shape_there (says_marks a_removed key letters) a x e y one other same = inr (line_there a x e y one other same)

-- an answer and an error line that agree are the same, or the answer is empty
pub answer_there : (command : Command) → IsCuttable command → (a x e y : List ℕ) → IsSomeAnswer command a → IsErrorLine e → a ++ x ≡ e ++ y → (a ≡ []) ⊎ (a ≡ e)
answer_there command c a x e y one other same = shape_there (says_of command) a x e y (some_shaped command c a one) other same
