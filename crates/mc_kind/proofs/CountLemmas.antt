-- The first answer to `stats`.
use Rattle.std.proofs.Common.{◌≡◌, ◌⊎◌, inl, inr, ℕ, ◌+◌, ◌≤◌, List, [], ◌∷◌, ◌++◌, length, take, drop, refl, ap, sym, ◌∙◌, subst}
use Rattle.std.specs.Prelude.{codes}
use Rattle.std.proofs.lemmas.List.{append-nil, take-append-drop}
use Rattle.mc_parse.specs.declared.command.Command.TheVariants.{Stats}
use Rattle.mc_answers.specs.Cut.{AreCut, AreApart, IsLine, IsSeries}
use Rattle.mc_answers.specs.Kinds.{IsLineWith, IsEndText, IsErrorLine}
use Rattle.mc_answers.proofs.AnswerLemmas.{shape_cut, some_shaped}
use Rattle.mc_answers.proofs.CutLemmas.{lines_cut}
use Rattle.mc_answers.proofs.ErrorLemmas.{ErrorHead, error as in_error, client as in_client, server as in_server, error_head}
use Rattle.mc_answers.proofs.ItemLemmas.{heads_differ}
use Rattle.mc_answers.proofs.MarkLemmas.{line_is}
use Rattle.mc_kind.specs.First.{NoneFits, IsWhole, IsRefused}
use Rattle.mc_kind.proofs.ListingLemmas.{first_text, items_apart, no_error_first}
use Rattle.mc_kind.proofs.SeriesLemmas.{have_length, AreItems, whole_series, series_none, items_no_error}

stat_cut : AreCut (IsLineWith (codes "STAT "))
stat_cut a b more other one two same = lines_cut a b more other one.line two.line same

stat_apart : AreApart (IsLineWith (codes "STAT ")) IsEndText
stat_apart a b more other one two same =
    heads_differ 83 69 (codes "TAT " ++ ((one.rest ++ (13 ∷ 10 ∷ [])) ++ more)) (codes "ND\r\n" ++ other) refl
    (ap (λ (t : List ℕ). t ++ more) (sym one.is) ∙ same ∙ ap (λ (t : List ℕ). t ++ other) two)

after_first : (x : ℕ) (a b : List ℕ) → x ∷ a ≡ x ∷ b → a ≡ b
after_first x a b same = cc

stat_no_error : (a x e y : List ℕ) → IsLineWith (codes "STAT ") a → ErrorHead e → a ++ x ≡ e ++ y → ⊥
stat_no_error a x e y one head same = go head (ap (λ (t : List ℕ). t ++ x) (sym one.is) ∙ same)
  where
    rest : List ℕ
    rest = codes "AT " ++ ((one.rest ++ (13 ∷ 10 ∷ [])) ++ x)

    go : ErrorHead e → 83 ∷ 84 ∷ rest ≡ e ++ y → ⊥
    go (in_error r is) whole = heads_differ 83 69 (84 ∷ rest) (82 ∷ (r ++ y)) refl (whole ∙ ap (λ (t : List ℕ). t ++ y) is)
    go (in_client r is) whole = heads_differ 83 67 (84 ∷ rest) (r ++ y) refl (whole ∙ ap (λ (t : List ℕ). t ++ y) is)
    go (in_server r is) whole = heads_differ 84 69 rest (r ++ y) refl (after_first 83 (84 ∷ rest) (69 ∷ (r ++ y)) (whole ∙ ap (λ (t : List ℕ). t ++ y) is))

stat_error : (item rest bytes : List ℕ) → IsLineWith (codes "STAT ") item → IsErrorLine bytes → item ++ rest ≡ bytes → ⊥
stat_error item rest bytes one error same = stat_no_error item rest bytes [] one (error_head bytes error) (same ∙ sym (append-nil bytes))

pub counts_whole : (bytes rest : List ℕ) (at n : ℕ) → AreItems (IsLineWith (codes "STAT ")) bytes at → rest ≡ drop at bytes → n ≤ length rest → IsEndText (take n rest) → IsWhole Stats bytes (at + n)
counts_whole bytes rest at n so after low one =
    let whole = whole_series (IsLineWith (codes "STAT ")) IsEndText bytes rest at n so after low one in
    record {
      low = whole.low;
      long = λ text others more answer same.
          have_length (IsSeries (IsLineWith (codes "STAT ")) IsEndText) (shape_cut Stats tt) bytes (at + n) whole.low whole.series text others more (some_shaped Stats (record { said = tt; plain = refl }) text answer) same;
      error = λ error. absurd (items_apart (IsLineWith (codes "STAT ")) stat_no_error whole.series.items whole.series.last (drop (at + n) bytes) bytes [] whole.series.each whole.series.end (error_head bytes error)
          (ap (λ (t : List ℕ). t ++ drop (at + n) bytes) (sym whole.series.is) ∙ take-append-drop (at + n) bytes ∙ sym (append-nil bytes)));
    }

pub counts_refused : (bytes rest : List ℕ) (at n : ℕ) → AreItems (IsLineWith (codes "STAT ")) bytes at → rest ≡ drop at bytes → IsLine (take n rest) → (IsEndText (take n rest) → ⊥) → (IsLineWith (codes "STAT ") (take n rest) → ⊥)
    → (IsErrorLine (take n rest) → ⊥) → IsRefused Stats bytes
counts_refused bytes rest at n so after is no_end no_stat no_error = record {
  none = λ text others more answer same.
      series_none (IsLineWith (codes "STAT ")) IsEndText stat_cut stat_apart bytes rest at so after none text others more (some_shaped Stats (record { said = tt; plain = refl }) text answer) same;
  error = items_no_error (IsLineWith (codes "STAT ")) IsErrorLine stat_error bytes rest at so after (no_error_first rest n is no_error);
}
  where
    none : NoneFits (λ text. IsLineWith (codes "STAT ") text ⊎ IsEndText text) rest
    none text others more (inl one) same = no_stat (subst (IsLineWith (codes "STAT ")) (first_text rest n is text others more one.line same) one)
    none text others more (inr one) same = no_end (subst IsEndText (first_text rest n is text others more (subst IsLine (sym one) (line_is (codes "END") refl)) same) one)
