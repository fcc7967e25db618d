-- A byte that ends a key or a value.
use Rattle.std.proofs.Common.{◌≡◌, ℕ, ◌<◌, List, [], ◌∷◌, ◌++◌, length, sym, ◌∙◌, ap, arith, append_assoc}
use Rattle.std.specs.Int.{to_be_bytes, w32, w64}
use Rattle.mc_calls.specs.declared.call_reply.CallReply.TheVariants as Replies
use Rattle.mc_calls.specs.Code.{code_of, hit_code}
use Rattle.mc_calls.specs.Bounds.{IsKey, IsValue}
use Rattle.zy_journal.specs.Journal.{key_text, value_text, call_text, reply_text}
use Rattle.zy_journal_reader.specs.declared.draft.Draft.{Draft}
use Rattle.zy_journal_reader.specs.declared.due.Due.TheVariants.{Bytes}
use Rattle.zy_journal_reader.specs.declared.due.BytesField.{BytesField}
use Rattle.zy_journal_reader.specs.declared.due.BytesField.TheVariants.{Key, Value, FoundValue}
use Rattle.zy_journal_reader.specs.Steps.{ReadState, after_bytes}
use Rattle.zy_journal_reader.proofs.CallLemmas.{fields_in, call_in, to_value, its_bytes, its_field}
use Rattle.zy_journal_reader.proofs.SoFar.{front, head, Leads}
use Rattle.zy_journal_reader.proofs.ComingLemmas.{flags_come, reply_comes}
use Rattle.zy_journal_reader.proofs.EndLemmas.{Ends, entry_on}
use Rattle.zy_journal_reader.proofs.NumberLemmas.{value_spelled}

pub content_on : (field : BytesField) (p : ReadState) (whole text : List ℕ) → Ends (Bytes field) p whole text → p.draft.size ≡ length whole → 0 < length whole → Leads text (after_bytes field p whole)
unfolding reply_text
content_on Key p whole text ends size some =
    let d : Draft = record p.draft { key = whole; size = 0 } in
    flags_come p d text (record {
      bytes = ends.bytes
          ∙ ap (λ (l : List ℕ). front p.entries p.holds ++ l)
          (append_assoc (head d) (code_of d.kind ∷ p.draft.size ∷ []) whole
          ∙ ap (λ (n : ℕ). head d ++ (code_of d.kind ∷ n ∷ whole)) size
          ∙ ap (λ (l : List ℕ). head d ++ (code_of d.kind ∷ l)) (its_bytes key_text (fields_in d).key whole ends.known.1));
      kept = ends.kept;
      known = ends.known.0;
    }) (its_field IsKey (fields_in d).key whole ends.known.1 (some, omega (arith, size, ends.known.2)))
content_on Value p whole text ends size some =
    let d : Draft = record p.draft { value = whole; size = 0 } in
    reply_comes p d text (record {
      bytes = ends.bytes
          ∙ ap (λ (l : List ℕ). front p.entries p.holds ++ l)
          (append_assoc (head d) (to_value d ++ to_be_bytes w32 p.draft.size) whole
          ∙ ap (λ (l : List ℕ). head d ++ l) (append_assoc (to_value d) (to_be_bytes w32 p.draft.size) whole)
          ∙ ap (λ (n : ℕ). head d ++ (to_value d ++ (to_be_bytes w32 n ++ whole))) size
          ∙ ap (λ (l : List ℕ). head d ++ l) (value_spelled d ends.known.4));
      kept = ends.kept;
      known = ends.known.0;
    }) ends.known.1 ends.known.2 ends.known.3 (its_field IsValue (fields_in d).value whole ends.known.4 (omega (arith, size, ends.known.5)))
content_on FoundValue p whole text ends size some =
    let d : Draft = p.draft in
    let f : List ℕ = to_be_bytes w32 d.found_flags in
    let u : List ℕ = to_be_bytes w64 d.found_unique in
    let call : List ℕ = call_text (call_in d) in
    let s : List ℕ = to_be_bytes w32 d.size in
    entry_on p (Replies.Hit d.found_flags d.found_unique whole) text
    (ends.bytes ∙ ap (λ (l : List ℕ). front p.entries p.holds ++ l)
    (append_assoc (head d) (call ++ hit_code ∷ (f ++ (u ++ s))) whole
    ∙ ap (λ (l : List ℕ). head d ++ l) (append_assoc call (hit_code ∷ (f ++ (u ++ s))) whole)
    ∙ ap (λ (l : List ℕ). head d ++ (call ++ hit_code ∷ l)) (append_assoc f (u ++ s) whole ∙ ap (λ (l : List ℕ). f ++ l) (append_assoc u s whole))
    ∙ ap (λ (n : ℕ). head d ++ (call ++ hit_code ∷ (f ++ (u ++ (to_be_bytes w32 n ++ whole))))) size
    ∙ sym (append_assoc (head d) call (hit_code ∷ (f ++ (u ++ value_text whole))))))
    ends.kept ends.known.0.0 (omega (arith, size, ends.known.1)) ((ends.known.0.1, ends.known.0.2), tt)
