-- For formats whose wrong fields are known, a text of fields is bad with a fault if and only if it has
-- that fault.
use Rattle.std.proofs.Common.{◌≡◌, inl, inr, ℕ, List, ◌∷◌, ◌++◌, length, sym, ◌∙◌, ap, subst, arith}
use Rattle.std.specs.Prelude.{◌↔◌}
use Rattle.std.specs.List.{concat}
use Rattle.zy_read.specs.Bytes.{AreBytes}
use Rattle.zy_read.specs.Format.{verdict_on}
use Rattle.zy_read.specs.Fields.{Fields, IsLawful, format_of}
use Rattle.zy_read.specs.Runs.{IsWhole, IsCut, IsMisjudged, IsOverlong, IsOutcome}
use Rattle.zy_read.proofs.ByteLemmas.{bytes_front}
use Rattle.zy_read.proofs.VerdictLemmas.{outcome}
use Rattle.format_laws.specs.Faults.{IsBegun, HasFaultBy}
use Rattle.format_laws.proofs.VerdictLemmas.{fault_bad, cut_bad, cut_overlong, overlong_cut, overlong_text}
use Rattle.format_laws.proofs.VerdictLemmas.{overlong_most, overlong_long}

-- what is known of a format: a whole text is a file and a file is not bad, and a text has something wrong, which is no
-- early end, where a field is judged wrong
pub record IsTold {S G F V : Type 0} (fields : Fields S G F) (good : S → List G → V) (bad : F → V) (IsFile : List ℕ → Type 0) (IsWrong : List ℕ → F → Type 0) : Type 0 where
  pub lawful : IsLawful fields
  pub same : (fault other : F) → bad fault ≡ bad other → fault ≡ other
  pub not_good : (s : S) (given : List G) (fault : F) → good s given ≡ bad fault → ⊥
  pub file : (text : List ℕ) (s : S) (given : List G) → AreBytes text → IsWhole fields text s given → IsFile text
  pub not_bad : (text : List ℕ) (fault : F) → IsFile text → verdict_on (format_of fields good bad) text ≡ bad fault → ⊥
  pub wrong : (text : List ℕ) (s : S) (fault : F) → AreBytes text → IsMisjudged fields text s fault → IsWrong text fault
  pub wrong_bad : (text : List ℕ) (fault : F) → IsWrong text fault → verdict_on (format_of fields good bad) text ≡ bad fault
  pub not_cut : (text : List ℕ) (at : ℕ) → IsWrong text (fields.truncated at) → ⊥

-- a text that is cut is begun
cut_begun : {S G F V : Type 0} (fields : Fields S G F) (good : S → List G → V) (bad : F → V) (IsFile : List ℕ → Type 0) (IsWrong : List ℕ → F → Type 0) (t : IsTold fields good bad IsFile IsWrong) (text : List ℕ) → IsCut fields text → IsBegun fields.limit IsFile IsWrong text
cut_begun fields good bad IsFile IsWrong t text cut =
    let is = cut_bad fields t.lawful good bad text cut in
    record {
      short = cut.within;
      no_file = λ file. t.not_bad text (fields.truncated (length text)) file is;
      none_wrong = λ fault wrong. t.not_cut text (length text) (subst (IsWrong text) (t.same fault (fields.truncated (length text)) (sym (t.wrong_bad text fault wrong) ∙ is)) wrong);
    }

-- a text that is begun is cut
begun_cut : {S G F V : Type 0} (fields : Fields S G F) (good : S → List G → V) (bad : F → V) (IsFile : List ℕ → Type 0) (IsWrong : List ℕ → F → Type 0) (t : IsTold fields good bad IsFile IsWrong) (text : List ℕ) (found : V) → AreBytes text → IsBegun fields.limit IsFile IsWrong text → IsOutcome fields good bad text found
    → IsCut fields text
begun_cut fields good bad IsFile IsWrong t text found all begun (inl whole) = absurd (begun.no_file (t.file text whole.0 whole.1.0 all whole.1.1))
begun_cut fields good bad IsFile IsWrong t text found all begun (inr (inl cut)) = cut.0
begun_cut fields good bad IsFile IsWrong t text found all begun (inr (inr (s, (fault, inl has, is)))) = absurd (begun.none_wrong fault (t.wrong text s fault all has))
begun_cut fields good bad IsFile IsWrong t text found all begun (inr (inr (s, (fault, inr has, is)))) = absurd (omega (arith, overlong_long fields text s has.0, begun.short))

had : {S G F V : Type 0} (fields : Fields S G F) (good : S → List G → V) (bad : F → V) (IsFile : List ℕ → Type 0) (IsWrong : List ℕ → F → Type 0) (t : IsTold fields good bad IsFile IsWrong) (text : List ℕ) (fault : F) (found : V) → AreBytes text → IsOutcome fields good bad text found → found ≡ bad fault
    → HasFaultBy fields.limit fields.truncated fields.too_long IsFile IsWrong text fault
had fields good bad IsFile IsWrong t text fault found all (inl whole) is = absurd (t.not_good whole.0 whole.1.0 fault (sym whole.1.2 ∙ is))
had fields good bad IsFile IsWrong t text fault found all (inr (inl cut)) is = inr (inl (t.same fault (fields.truncated (length text)) (sym is ∙ cut.1), cut_begun fields good bad IsFile IsWrong t text cut.0))
had fields good bad IsFile IsWrong t text fault found all (inr (inr (s, (other, inl has, told)))) is = inl (subst (IsWrong text) (t.same other fault (sym told ∙ is)) (t.wrong text s other all has))
had fields good bad IsFile IsWrong t text fault found all (inr (inr (s, (other, inr has, told)))) is = inr (inr (
  t.same fault other (sym is ∙ told) ∙ has.1,
  record {
    front = concat has.0.begins.parts ++ has.0.seen;
    byte = has.0.byte;
    rest = has.0.rest;
    whole = overlong_text fields text s has.0;
    most = overlong_most fields text s has.0;
    begun = cut_begun fields good bad IsFile IsWrong t (concat has.0.begins.parts ++ has.0.seen) (overlong_cut fields text s has.0);
  },
))

told : {S G F V : Type 0} (fields : Fields S G F) (good : S → List G → V) (bad : F → V) (IsFile : List ℕ → Type 0) (IsWrong : List ℕ → F → Type 0) (t : IsTold fields good bad IsFile IsWrong) (text : List ℕ) (fault : F) → AreBytes text → HasFaultBy fields.limit fields.truncated fields.too_long IsFile IsWrong text fault
    → verdict_on (format_of fields good bad) text ≡ bad fault
told fields good bad IsFile IsWrong t text fault all (inl wrong) = t.wrong_bad text fault wrong
told fields good bad IsFile IsWrong t text fault all (inr (inl cut)) =
    cut_bad fields t.lawful good bad text (begun_cut fields good bad IsFile IsWrong t text (verdict_on (format_of fields good bad) text) all cut.1 (outcome fields t.lawful good bad text)) ∙ ap bad (sym cut.0)
told fields good bad IsFile IsWrong t text fault all (inr (inr (is, long))) =
    let front : List ℕ = long.front in
    let cut : IsCut fields front = begun_cut fields good bad IsFile IsWrong t front (verdict_on (format_of fields good bad) front) (bytes_front front (long.byte ∷ long.rest) (subst AreBytes long.whole all)) long.begun (outcome fields t.lawful good bad front) in
    fault_bad fields t.lawful good bad text cut.s fault (inr (subst (λ (l : List ℕ). IsOverlong fields l cut.s) (sym long.whole) (cut_overlong fields front long.byte long.rest cut long.most), is))

-- a text is bad with a fault exactly if it has it
pub exactly : {S G F V : Type 0} (fields : Fields S G F) (good : S → List G → V) (bad : F → V) (IsFile : List ℕ → Type 0) (IsWrong : List ℕ → F → Type 0) (t : IsTold fields good bad IsFile IsWrong) (text : List ℕ) (fault : F) → AreBytes text
    → (verdict_on (format_of fields good bad) text ≡ bad fault) ↔ HasFaultBy fields.limit fields.truncated fields.too_long IsFile IsWrong text fault
exactly fields good bad IsFile IsWrong t text fault all = (had fields good bad IsFile IsWrong t text fault (verdict_on (format_of fields good bad) text) all (outcome fields t.lawful good bad text), told fields good bad IsFile IsWrong t text fault all)
