-- What comes next in a call, whatever its kind: each field that it has, and then its reply.
use Rattle.std.proofs.Common.{◌≡◌, ℕ, ◌<◌, ◌^◌, Bool, true, false, List, [], ◌∷◌, ◌++◌, refl, sym, ◌∙◌, ap}
use Rattle.std.specs.Prelude.{if◌then◌else◌}
use Rattle.std.specs.Int.{to_be_bytes, w32, w64}
use Rattle.std.proofs.lemmas.List.{append-nil}
use Rattle.mc_calls.specs.Code.{code_of}
use Rattle.mc_calls.specs.Bounds.{IsKey, IsValue}
use Rattle.zy_journal.specs.Journal.{key_text, value_text, call_text}
use Rattle.zy_journal_reader.specs.declared.draft.Draft.{Draft}
use Rattle.zy_journal_reader.specs.declared.due.Due.{Due}
use Rattle.zy_journal_reader.specs.declared.due.Due.TheVariants.{Byte, Number, Long}
use Rattle.zy_journal_reader.specs.declared.due.ByteField.TheVariants.{KeyLength, ReplyCode}
use Rattle.zy_journal_reader.specs.declared.due.NumberField.TheVariants.{Flags, ValueLength}
use Rattle.zy_journal_reader.specs.declared.due.LongField.TheVariants.{CallNumber}
use Rattle.zy_journal_reader.specs.Fields.{after_call_code, at_flags, at_number, at_value}
use Rattle.zy_journal_reader.specs.Steps.{ReadState}
use Rattle.zy_journal_reader.proofs.CallLemmas.{fields_in, call_in, key_bytes, flags_bytes, to_flags, to_number, to_value, KeyKnown, FlagsKnown, NumberKnown, ValueKnown, no_bytes, no_field, call_text_is, call_is}
use Rattle.zy_journal_reader.proofs.SoFar.{front, head, Kept, HeadKnown, IsReadTo}

-- a text that ends with these bytes of a call
pub record Comes (p : ReadState) (d : Draft) (call text : List ℕ) : Type 0 where
  pub bytes : text ≡ front p.entries p.holds ++ (head d ++ call)
  pub kept : Kept p.entries p.holds p.past
  pub known : HeadKnown p.past d p.holds

-- where this is due after them
abbrev pub behind : ReadState → Draft → Due → ReadState
behind p d due = record p { draft = d; due = due }

-- the same with other bytes that are equal
pub comes_as : {p : ReadState} {d : Draft} {call text : List ℕ} (other : List ℕ) → call ≡ other → Comes p d call text → Comes p d other text
comes_as {p} {d} {call} {text} other same comes = record {
  bytes = comes.bytes ∙ ap (λ (l : List ℕ). front p.entries p.holds ++ (head d ++ l)) same;
  kept = comes.kept;
  known = comes.known;
}

-- the whole call was read
pub reply_comes : (p : ReadState) (d : Draft) (text : List ℕ) → Comes p d (call_text (call_in d)) text → KeyKnown d → FlagsKnown d → NumberKnown d → ValueKnown d → IsReadTo (Byte ReplyCode) (behind p d (Byte ReplyCode)) text
reply_comes p d text comes key flags number value =
    let is = call_is d key flags number value in
    record {
      bytes = comes.bytes;
      kept = comes.kept;
      field = tt;
      known = (comes.known, is.within, is.fits);
    }

-- its value is due, or it was read
pub value_comes : (p : ReadState) (d : Draft) (text : List ℕ) → Comes p d (to_value d) text → KeyKnown d → FlagsKnown d → NumberKnown d → IsReadTo (at_value (fields_in d)) (behind p d (at_value (fields_in d))) text
value_comes p d text comes key flags number = go (fields_in d).value refl
  where
    go : (b : Bool) → (fields_in d).value ≡ b → IsReadTo (if b then Number ValueLength else Byte ReplyCode) (behind p d (if b then Number ValueLength else Byte ReplyCode)) text
    go true has = record {
      bytes = comes.bytes;
      kept = comes.kept;
      field = tt;
      known = (comes.known, key, flags, number, has);
    }
    go false none =
        reply_comes p d text
        (comes_as (call_text (call_in d)) (sym (call_text_is d ∙ ap (λ (l : List ℕ). to_value d ++ l) (no_bytes value_text (fields_in d).value d.value none) ∙ append-nil (to_value d))) comes)
        key flags number (no_field IsValue (fields_in d).value d.value none)

-- its number is due, or what comes after it
pub number_comes : (p : ReadState) (d : Draft) (text : List ℕ) → Comes p d (to_number d) text → KeyKnown d → FlagsKnown d → IsReadTo (at_number (fields_in d)) (behind p d (at_number (fields_in d))) text
number_comes p d text comes key flags = go (fields_in d).number refl
  where
    go : (b : Bool) → (fields_in d).number ≡ b → IsReadTo (if b then Long CallNumber else at_value (fields_in d)) (behind p d (if b then Long CallNumber else at_value (fields_in d))) text
    go true has = record {
      bytes = comes.bytes;
      kept = comes.kept;
      field = tt;
      known = (comes.known, key, flags, has);
    }
    go false none =
        value_comes p d text
        (comes_as (to_value d) (ap (λ (l : List ℕ). code_of d.kind ∷ (key_bytes d ++ l)) (sym (ap (λ (l : List ℕ). flags_bytes d ++ l) (no_bytes (to_be_bytes w64) (fields_in d).number d.number none) ∙ append-nil (flags_bytes d)))) comes)
        key flags (no_field (λ n. n < 2 ^ 64) (fields_in d).number d.number none)

-- its flags are due, or what comes after them
pub flags_come : (p : ReadState) (d : Draft) (text : List ℕ) → Comes p d (to_flags d) text → KeyKnown d → IsReadTo (at_flags (fields_in d)) (behind p d (at_flags (fields_in d))) text
flags_come p d text comes key = go (fields_in d).flags refl
  where
    go : (b : Bool) → (fields_in d).flags ≡ b → IsReadTo (if b then Number Flags else at_number (fields_in d)) (behind p d (if b then Number Flags else at_number (fields_in d))) text
    go true has = record {
      bytes = comes.bytes;
      kept = comes.kept;
      field = tt;
      known = (comes.known, key, has);
    }
    go false none =
        number_comes p d text
        (comes_as (to_number d) (ap (λ (l : List ℕ). code_of d.kind ∷ l) (sym (ap (λ (l : List ℕ). key_bytes d ++ l) (no_bytes (to_be_bytes w32) (fields_in d).flags d.flags none) ∙ append-nil (key_bytes d)))) comes)
        key (no_field (λ n. n < 2 ^ 32) (fields_in d).flags d.flags none)

-- its key is due, or what comes after it
pub key_comes : (p : ReadState) (d : Draft) (text : List ℕ) → Comes p d (code_of d.kind ∷ []) text → IsReadTo (after_call_code (fields_in d)) (behind p d (after_call_code (fields_in d))) text
key_comes p d text comes = go (fields_in d).key refl
  where
    go : (b : Bool) → (fields_in d).key ≡ b → IsReadTo (if b then Byte KeyLength else at_flags (fields_in d)) (behind p d (if b then Byte KeyLength else at_flags (fields_in d))) text
    go true has = record {
      bytes = comes.bytes;
      kept = comes.kept;
      field = tt;
      known = (comes.known, has);
    }
    go false none =
        flags_come p d text (comes_as (to_flags d) (ap (λ (l : List ℕ). code_of d.kind ∷ l) (sym (no_bytes key_text (fields_in d).key d.key none))) comes)
        (no_field IsKey (fields_in d).key d.key none)
