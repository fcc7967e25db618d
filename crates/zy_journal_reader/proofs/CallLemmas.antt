-- What was read of a call before it is whole, its text and its bounds, whatever its kind.
use Rattle.std.proofs.Common.{◌≡◌, ℕ, ◌<◌, ◌≤◌, ◌^◌, Bool, true, false, List, [], ◌∷◌, ◌++◌, refl, sym, ap, ◌∙◌, subst, append_assoc}
use Rattle.std.specs.Prelude.{◌==◌, if◌then◌else◌, Option, IfSome}
use Rattle.std.specs.Int.{to_be_bytes, w32, w64}
use Rattle.mc_calls.specs.declared.call.Call.{Call}
use Rattle.mc_calls.specs.declared.call_kind.CallFields.{CallFields}
use Rattle.mc_calls.specs.Code.{code_of, fields_of, call_of, hit_code, number_code, tally_code, last_reply_code, plain_reply}
use Rattle.mc_calls.specs.Bounds.{IsKey, IsValue, IsCall, IsReply, FitsCall, FitsReply}
use Rattle.mc_calls.proofs.CodeLemmas.{there, call_has, call_within, reply_within, plain_is}
use Rattle.zy_journal.specs.Journal.{key_text, value_text, field_text, call_text, reply_text}
use Rattle.zy_journal_reader.specs.declared.draft.Draft.{Draft}

-- ---- tests

-- a fact of both ways that a test may go
pub either : {S : Type 0} (P : S → Type 0) (test : Bool) (x y : S) → P x → P y → P (if test then x else y)
either P test x y first second = elim test as (λ (t : Bool). P (if t then x else y)) [ true ↦ first | false ↦ second ]

-- ---- replies without fields

pub plain_text : (n : ℕ) → 1 ≤ n → n ≤ last_reply_code → (n == hit_code) ≡ false → (n == number_code) ≡ false → (n == tally_code) ≡ false → reply_text (plain_reply n) ≡ n ∷ []
unfolding reply_text
plain_text n some most no_hit no_number no_tally = let is = plain_is n some most no_hit no_number no_tally in rw (is.code_is, is.no_counts, is.no_flags, is.no_number, is.no_value) refl

pub plain_within : (n : ℕ) → 1 ≤ n → n ≤ last_reply_code → (n == hit_code) ≡ false → (n == number_code) ≡ false → (n == tally_code) ≡ false → IsReply (plain_reply n)
plain_within n some most no_hit no_number no_tally = reply_within (plain_reply n) (rw (plain_is n some most no_hit no_number no_tally).no_value tt)

pub plain_fits : (n : ℕ) → 1 ≤ n → n ≤ last_reply_code → (n == hit_code) ≡ false → (n == number_code) ≡ false → (n == tally_code) ≡ false → FitsReply (plain_reply n)
plain_fits n some most no_hit no_number no_tally = let is = plain_is n some most no_hit no_number no_tally in rw (is.no_flags, is.no_number, is.no_counts) ((tt, tt), tt)

-- ---- the call that was read

-- which fields it has
abbrev pub fields_in : Draft → CallFields
fields_in d = fields_of d.kind

-- the call itself
abbrev pub call_in : Draft → Call
call_in d = call_of d.kind d.key d.flags d.number d.value

-- the bytes of each field
abbrev pub key_bytes : Draft → List ℕ
key_bytes d = field_text key_text (there (fields_in d).key d.key)

abbrev pub flags_bytes : Draft → List ℕ
flags_bytes d = field_text (to_be_bytes w32) (there (fields_in d).flags d.flags)

abbrev pub number_bytes : Draft → List ℕ
number_bytes d = field_text (to_be_bytes w64) (there (fields_in d).number d.number)

abbrev pub value_bytes : Draft → List ℕ
value_bytes d = field_text value_text (there (fields_in d).value d.value)

-- the bytes of the call up to its flags, its number and its value
abbrev pub to_flags : Draft → List ℕ
to_flags d = code_of d.kind ∷ key_bytes d

abbrev pub to_number : Draft → List ℕ
to_number d = code_of d.kind ∷ (key_bytes d ++ flags_bytes d)

abbrev pub to_value : Draft → List ℕ
to_value d = code_of d.kind ∷ (key_bytes d ++ (flags_bytes d ++ number_bytes d))

-- what is known of each field
abbrev pub KeyKnown : Draft → Type 0
KeyKnown d = IfSome (there (fields_in d).key d.key) IsKey

abbrev pub FlagsKnown : Draft → Type 0
FlagsKnown d = IfSome (there (fields_in d).flags d.flags) (λ n. n < 2 ^ 32)

abbrev pub NumberKnown : Draft → Type 0
NumberKnown d = IfSome (there (fields_in d).number d.number) (λ n. n < 2 ^ 64)

abbrev pub ValueKnown : Draft → Type 0
ValueKnown d = IfSome (there (fields_in d).value d.value) IsValue

-- ---- fields that a call has not

-- a field that is not there has no bytes
pub no_bytes : {X : Type 0} (text : X → List ℕ) (b : Bool) (x : X) → b ≡ false → field_text text (there b x) ≡ []
no_bytes text b x none = ap (λ (t : Bool). field_text text (there t x)) none

-- one that is there has its own
pub its_bytes : {X : Type 0} (text : X → List ℕ) (b : Bool) (x : X) → b ≡ true → text x ≡ field_text text (there b x)
its_bytes text b x has = ap (λ (t : Bool). field_text text (there t x)) (sym has)

-- and nothing is to be known of the one, and of the other all that is known
pub no_field : {X : Type 0} (P : X → Type 0) (b : Bool) (x : X) → b ≡ false → IfSome (there b x) P
no_field P b x none = subst (λ (t : Bool). IfSome (there t x) P) (sym none) tt

pub its_field : {X : Type 0} (P : X → Type 0) (b : Bool) (x : X) → b ≡ true → P x → IfSome (there b x) P
its_field P b x has is = subst (λ (t : Bool). IfSome (there t x) P) (sym has) is

-- ---- the whole call

-- its text
pub call_text_is : (d : Draft) → call_text (call_in d) ≡ to_value d ++ value_bytes d
unfolding call_text
call_text_is d =
    let has = call_has d.kind d.key d.flags d.number d.value in
    let spelled : call_text (call_in d) ≡ code_of d.kind ∷ (key_bytes d ++ (flags_bytes d ++ (number_bytes d ++ value_bytes d))) = rw (has.kind_is, has.key_is, has.flags_are, has.number_is, has.value_is) refl in
    spelled
    ∙ ap (λ (l : List ℕ). code_of d.kind ∷ (key_bytes d ++ l)) (sym (append_assoc (flags_bytes d) (number_bytes d) (value_bytes d)))
    ∙ ap (λ (l : List ℕ). code_of d.kind ∷ l) (sym (append_assoc (key_bytes d) (flags_bytes d ++ number_bytes d) (value_bytes d)))

-- a call is within its bounds, and its numbers fit their bytes
pub record IsRead (call : Call) : Type 0 where
  pub within : IsCall call
  pub fits : FitsCall call

pub call_is : (d : Draft) → KeyKnown d → FlagsKnown d → NumberKnown d → ValueKnown d → IsRead (call_in d)
call_is d key flags number value =
    let has = call_has d.kind d.key d.flags d.number d.value in
    record {
      within = call_within (call_in d) (subst (λ (o : Option (List ℕ)). IfSome o IsKey) (sym has.key_is) key) (subst (λ (o : Option (List ℕ)). IfSome o IsValue) (sym has.value_is) value);
      fits = (subst (λ (o : Option ℕ). IfSome o (λ n. n < 2 ^ 32)) (sym has.flags_are) flags, subst (λ (o : Option ℕ). IfSome o (λ n. n < 2 ^ 64)) (sym has.number_is) number);
    }
