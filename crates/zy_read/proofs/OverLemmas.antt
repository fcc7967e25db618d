-- Texts of whole fields, built field after field.
use Rattle.std.proofs.Common.{◌≡◌, ℕ, ◌+◌, ◌≤◌, List, [], ◌∷◌, ◌++◌, length, refl, sym, ◌∙◌, ap, subst}
use Rattle.std.specs.List.{concat}
use Rattle.zy_read.specs.Fields.{Judged, Fields}
use Rattle.zy_read.specs.Fields.Judged.{Then, Gives}
use Rattle.zy_read.specs.Runs.{RunsOver, GoesOn, Begins}
use Rattle.zy_read.proofs.RunLemmas.{concat_append, concat_one, runs_join}

pub over_none : {S G F : Type 0} (fields : Fields S G F) (s : S) (at : ℕ) → RunsOver fields s at [] s []
over_none fields s at = record { parts = []; runs = (refl, refl); text_is = refl }

-- one field, after which a state is next
pub over_then : {S G F : Type 0} (fields : Fields S G F) (s next : S) (at : ℕ) (field : List ℕ) → length field ≡ fields.width s → fields.judge s at field ≡ Then next → RunsOver fields s at field next []
over_then {S} {G} {F} fields s next at field size is = record {
  parts = field ∷ [];
  runs = (size, subst (λ (j : Judged S G F). GoesOn j (λ n rest. (next ≡ n) × (rest ≡ [])) []) (sym is) (refl, refl));
  text_is = concat_one field;
}

-- one field that ends a record
pub over_gives : {S G F : Type 0} (fields : Fields S G F) (s next : S) (item : G) (at : ℕ) (field : List ℕ) → length field ≡ fields.width s → fields.judge s at field ≡ Gives next item → RunsOver fields s at field next (item ∷ [])
over_gives {S} {G} {F} fields s next item at field size is = record {
  parts = field ∷ [];
  runs = (size, subst (λ (j : Judged S G F). GoesOn j (λ n rest. (next ≡ n) × (rest ≡ [])) (item ∷ [])) (sym is) ([], refl, (refl, refl)));
  text_is = concat_one field;
}

-- fields after fields
pub over_join : {S G F : Type 0} (fields : Fields S G F) (s t u : S) (at : ℕ) (x y : List ℕ) (given more : List G) → RunsOver fields s at x t given → RunsOver fields t (at + length x) y u more → RunsOver fields s at (x ++ y) u (given ++ more)
over_join fields s t u at x y given more first second = record {
  parts = first.parts ++ second.parts;
  runs = runs_join fields first.parts second.parts s t u at (at + length x) given more (ap (λ (l : List ℕ). at + length l) (sym first.text_is)) first.runs second.runs;
  text_is = concat_append first.parts second.parts ∙ ap (λ (l : List ℕ). l ++ concat second.parts) first.text_is ∙ ap (λ (l : List ℕ). x ++ l) second.text_is;
}

-- a text begins with them
abbrev pub over_begins : {S G F : Type 0} (fields : Fields S G F) (text : List ℕ) (s : S) (x rest : List ℕ) (given : List G) → RunsOver fields fields.start 0 x s given → length x ≤ fields.limit → text ≡ x ++ rest → Begins fields text s given rest
over_begins fields text s x rest given over short whole = record {
  parts = over.parts;
  runs = over.runs;
  text_is = whole ∙ ap (λ (l : List ℕ). l ++ rest) (sym over.text_is);
  short = rw (over.text_is) short;
}
