-- Answers to `mg` that may show a value.
use Rattle.std.proofs.Common.{◌≡◌, ◌⊎◌, inl, inr, ℕ, ◌+◌, ◌≤◌, Bool, true, false, List, [], ◌∷◌, ◌++◌, length, take, drop, refl, ap, sym, ◌∙◌, subst, length-append, arith}
use Rattle.std.specs.Prelude.{codes, decimal, None, Some}
use Rattle.std.specs.List.{list_all}
use Rattle.std.proofs.lemmas.List.{length-take-le}
use Rattle.mc_meta.specs.Flags.{is_among}
use Rattle.mc_parse.specs.declared.command.Command.TheVariants as Commands
use Rattle.mc_parse.specs.declared.meta.Meta.{Meta}
use Rattle.mc_parse.specs.declared.meta.Meta.TheVariants as Metas
use Rattle.mc_reply.specs.Line.{line, line_end}
use Rattle.mc_reply.specs.MetaText.{value_letter, marks_text, marked, found_of}
use Rattle.mc_answers.specs.Answer.{IsSomeAnswer, IsCuttable}
use Rattle.mc_answers.specs.Cut.{IsLine, IsOfLine, is_no_feed}
use Rattle.mc_answers.specs.Kinds.{IsLineWith, IsErrorLine, IsValueText, IsMissLine}
use Rattle.mc_answers.specs.Shape.{IsFoundText}
use Rattle.mc_answers.proofs.AnswerLemmas.{some_shaped}
use Rattle.mc_answers.proofs.CutLemmas.{same_texts, lines_cut, regroup}
use Rattle.mc_answers.proofs.ItemLemmas.{within, heads_differ}
use Rattle.mc_answers.proofs.MarkLemmas.{found_is_line, miss_is_line}
use Rattle.mc_answers.proofs.NumberLemmas.{append_passes, decimal_no_feed}
use Rattle.mc_answered.specs.Size.{size_of}
use Rattle.mc_answered.proofs.SizeLemmas.{size_of-line}
use Rattle.mc_kind.specs.First.{IsWhole, IsRefused}
use Rattle.mc_kind.specs.Marked.{shows_value, HasSize}
use Rattle.mc_kind.proofs.ListingLemmas.{lined, no_error_first, first_text}
use Rattle.mc_kind.proofs.MarkedLemmas.{missed, coded}

-- ---- the shape of an answer

-- an answer that fits, by the first line of the bytes
pub data Fits (first text : List ℕ) : Type 0 where
  -- it is the line, which says that there is no item
  missing : IsLineWith (codes "EN") first → text ≡ first → Fits first text
  -- the line announces its value
  valued : IsLineWith (codes "VA ") first → (size : ℕ) → size_of first ≡ Some size → length text ≡ length first + (size + 2) → Fits first text

value_fits : (key flags bytes text rest more : List ℕ) (n : ℕ) → IsOfLine key → IsLine (take n bytes) → (one : IsValueText key flags text) → text ++ rest ≡ bytes ++ more → Fits (take n bytes) text
value_fits key flags bytes text rest more n named is one same =
    let size = length one.value in
    let marks = marks_text key (Some (found_of one.flags one.unique one.value)) flags in
    let own = line ((codes "VA " ++ decimal size) ++ marks) in
    let own_is : IsLine own = found_is_line (codes "VA " ++ decimal size) key one.flags one.unique one.value flags (append_passes is_no_feed (codes "VA ") (decimal size) refl (decimal_no_feed size)) named in
    let first : own ≡ take n bytes = same_texts IsLine lines_cut own (take n bytes) (line one.value ++ rest) (drop n bytes ++ more) own_is is (sym (regroup text own (line one.value) rest one.is) ∙ same ∙ lined bytes n more) in
    let long : length text ≡ length own + (size + 2) = ap length one.is ∙ length-append own (line one.value) ∙ ap (λ (k : ℕ). length own + k) (length-append one.value line_end) in
    subst (λ (l : List ℕ). Fits l text) first
    (
    valued (coded (codes "VA ") (decimal size ++ marks) own own_is refl) size
    (size_of-line size key one.flags one.unique one.value flags (within one.value one.fits)) long
    )

found_fits : (key flags bytes text rest more : List ℕ) (n : ℕ) → IsOfLine key → IsLine (take n bytes) → IsFoundText true key flags text → text ++ rest ≡ bytes ++ more → Fits (take n bytes) text
found_fits key flags bytes text rest more n named is (inl one) same = value_fits key flags bytes text rest more n named is one same
found_fits key flags bytes text rest more n named is (inr miss) same =
    let one = miss_is_line key named text miss in
    let first = first_text bytes n is text rest more one same in
    missing (subst (IsLineWith (codes "EN")) first (missed key text one miss)) first

meta_fits : (meta : Meta) (bytes text rest more : List ℕ) (n : ℕ) → IsCuttable (Commands.Meta meta) → shows_value meta ≡ true → IsLine (take n bytes) → IsSomeAnswer (Commands.Meta meta) text → text ++ rest ≡ bytes ++ more
    → Fits (take n bytes) text
meta_fits (Metas.Get key flags) bytes text rest more n c shows is one same = go (is_among flags value_letter) shows (some_shaped (Commands.Meta (Metas.Get key flags)) c text one)
  where
    go : (shown : Bool) → shown ≡ true → IsFoundText shown key flags text → Fits (take n bytes) text
    go true there found = found_fits key flags bytes text rest more n c.said is found same
    go false there found = absurd (cc)
meta_fits Metas.Noop bytes text rest more n c shows is one same = absurd (cc)
meta_fits (Metas.Set key call marks) bytes text rest more n c shows is one same = absurd (cc)
meta_fits (Metas.Delete key flags) bytes text rest more n c shows is one same = absurd (cc)

-- ---- lines that begin otherwise

apart : (text : List ℕ) → IsLineWith (codes "EN") text → IsLineWith (codes "VA ") text → ⊥
apart text one two = heads_differ 69 86 (codes "N" ++ (one.rest ++ line_end)) (codes "A " ++ (two.rest ++ line_end)) refl (sym one.is ∙ two.is)

-- ---- what is found

pub missing_whole : (meta : Meta) (bytes : List ℕ) (n : ℕ) → IsCuttable (Commands.Meta meta) → shows_value meta ≡ true → n ≤ length bytes → IsLine (take n bytes) → IsLineWith (codes "EN") (take n bytes)
    → (IsErrorLine (take n bytes) → ⊥) → IsWhole (Commands.Meta meta) bytes n
missing_whole meta bytes n c shows low is code no_error = record {
  low = low;
  long = λ text rest more answer same. go text (meta_fits meta bytes text rest more n c shows is answer same);
  error = λ error. absurd (no_error_first bytes n is no_error error);
}
  where
    go : (text : List ℕ) → Fits (take n bytes) text → length text ≡ n
    go text (missing there same) = ap length same ∙ length-take-le n bytes low
    go text (valued there size read long) = absurd (apart (take n bytes) code there)

pub valued_whole : (meta : Meta) (bytes : List ℕ) (n more : ℕ) → IsCuttable (Commands.Meta meta) → shows_value meta ≡ true → n ≤ length bytes → n + more ≤ length bytes → IsLine (take n bytes)
    → IsLineWith (codes "VA ") (take n bytes) → HasSize (take n bytes) more → (IsErrorLine (take n bytes) → ⊥) → IsWhole (Commands.Meta meta) bytes (n + more)
valued_whole meta bytes n more c shows low low_too is code sized no_error = record {
  low = low_too;
  long = λ text rest after answer same. go text (meta_fits meta bytes text rest after n c shows is answer same);
  error = λ error. absurd (no_error_first bytes n is no_error error);
}
  where
    go : (text : List ℕ) → Fits (take n bytes) text → length text ≡ n + more
    go text (missing there same) = absurd (apart (take n bytes) there code)
    go text (valued there size read long) =
        let e : size ≡ sized.size = let both = sym read ∙ sized.read in cc in
        let front = length-take-le n bytes low in
        let whole = sized.is in
        omega (arith, e, front, long, whole)

pub shown_refused : (meta : Meta) (bytes : List ℕ) (n : ℕ) → IsCuttable (Commands.Meta meta) → shows_value meta ≡ true → IsLine (take n bytes) → (IsLineWith (codes "EN") (take n bytes) → ⊥) → (IsLineWith (codes "VA ") (take n bytes) → ⊥)
    → (IsErrorLine (take n bytes) → ⊥) → IsRefused (Commands.Meta meta) bytes
shown_refused meta bytes n c shows is no_miss no_value no_error = record {
  none = λ text rest more answer same. go text (meta_fits meta bytes text rest more n c shows is answer same);
  error = no_error_first bytes n is no_error;
}
  where
    go : (text : List ℕ) → Fits (take n bytes) text → ⊥
    go text (missing there same) = no_miss there
    go text (valued there size read long) = no_value there
