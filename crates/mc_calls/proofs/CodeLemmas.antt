-- Calls and replies by their codes and fields, for all kinds: a code and its fields determine the call.
use Rattle.std.specs.Prelude.{◌==◌, if◌then◌else◌, Option, None, Some, IfSome}
use Rattle.std.proofs.Common.{◌≡◌, ℕ, ◌≤◌, Bool, true, false, List, refl, subst, arith}
use Rattle.std.proofs.lemmas.Bool.Decides.{nat_tests}
use Rattle.mc_calls.specs.declared.call.Call.{Call}
use Rattle.mc_calls.specs.declared.call.Call.TheVariants as Calls
use Rattle.mc_calls.specs.declared.call_kind.CallKind.{CallKind}
use Rattle.mc_calls.specs.declared.call_kind.CallKind.TheVariants.{Flush}
use Rattle.mc_calls.specs.declared.call_reply.CallReply.{CallReply}
use Rattle.mc_calls.specs.declared.call_reply.CallReply.TheVariants as Replies
use Rattle.mc_calls.specs.declared.tallied.Tallied.{Tallied}
use Rattle.mc_calls.specs.Call.{key_of}
use Rattle.mc_calls.specs.Table.{parts_of, key_part, flags_part, number_part, value_part}
use Rattle.mc_calls.specs.Code.{code_of, kind_of, fields_of, call_of, call_kind, call_flags, call_number, call_value, hit_code, number_code, tally_code, last_call_code, last_reply_code, reply_code, reply_flags, reply_number, reply_value, reply_counts, tally, plain_reply}
use Rattle.mc_calls.specs.Bounds.{IsKey, IsValue, ArePartsWithin, IsCall, IsReply}

-- ---- codes of calls

pub code_back : (code : ℕ) → 1 ≤ code → code ≤ last_call_code → code_of (kind_of code) ≡ code
code_back code some most = grind (arith, nat_tests)

pub kind_back : (kind : CallKind) → kind_of (code_of kind) ≡ kind
kind_back Flush = refl
kind_back kind = refl

pub code_within : (kind : CallKind) → (1 ≤ code_of kind) × (code_of kind ≤ last_call_code)
code_within Flush = (omega arith, omega arith)
code_within kind = (omega arith, omega arith)

-- ---- the fields of a call of a kind

-- a field that is there, or is not
abbrev pub there : {X : Type 0} → Bool → X → Option X
there true x = Some x
there false x = None

-- a field, or what stood in its place before
abbrev pub either_of : {X : Type 0} → Bool → X → X → X
either_of true x other = x
either_of false x other = other

-- what the call of a kind has
pub record Has (kind : CallKind) (key : List ℕ) (flags number : ℕ) (value : List ℕ) (call : Call) : Type 0 where
  pub kind_is : call_kind call ≡ kind
  pub key_is : key_of call ≡ there (fields_of kind).key key
  pub flags_are : call_flags call ≡ there (fields_of kind).flags flags
  pub number_is : call_number call ≡ there (fields_of kind).number number
  pub value_is : call_value call ≡ there (fields_of kind).value value

pub call_has : (kind : CallKind) (key : List ℕ) (flags number : ℕ) (value : List ℕ) → Has kind key flags number value (call_of kind key flags number value)
call_has Flush key flags number value = record { kind_is = refl; key_is = refl; flags_are = refl; number_is = refl; value_is = refl }
call_has kind key flags number value = record { kind_is = refl; key_is = refl; flags_are = refl; number_is = refl; value_is = refl }

-- fields that a kind has not are of no account
pub call_same : (kind : CallKind) (key : List ℕ) (flags number : ℕ) (value : List ℕ) (key' : List ℕ) (flags' number' : ℕ) (value' : List ℕ)
    → call_of kind (either_of (fields_of kind).key key key') (either_of (fields_of kind).flags flags flags') (either_of (fields_of kind).number number number') (either_of (fields_of kind).value value value') ≡ call_of kind key flags number value
call_same Flush key flags number value key' flags' number' value' = refl
call_same kind key flags number value key' flags' number' value' = refl

-- a call has the parts that it is made of
pub call_back : (call : Call) → call_of (parts_of call).kind (key_part (parts_of call)) (flags_part (parts_of call)) (number_part (parts_of call)) (value_part (parts_of call)) ≡ call
call_back Calls.Flush = refl
call_back call = refl

-- every call is one of its kind
pub of_kinds : (P : Call → Type 0) → ((kind : CallKind) (key : List ℕ) (flags number : ℕ) (value : List ℕ) → P (call_of kind key flags number value)) → (call : Call) → P call
of_kinds P each call =
    subst P (call_back call) (each (parts_of call).kind (key_part (parts_of call)) (flags_part (parts_of call)) (number_part (parts_of call)) (value_part (parts_of call)))

-- ---- bounds

both_within : (key value : Option (List ℕ)) → IfSome key IsKey → IfSome value IsValue → ArePartsWithin key value
both_within None None is small = tt
both_within None (Some value) is small = small
both_within (Some key) None is small = is
both_within (Some key) (Some value) is small = (is, small)

first_within : (key value : Option (List ℕ)) → ArePartsWithin key value → IfSome key IsKey
first_within None None are = tt
first_within None (Some value) are = tt
first_within (Some key) None are = are
first_within (Some key) (Some value) are = are.0

second_within : (key value : Option (List ℕ)) → ArePartsWithin key value → IfSome value IsValue
second_within None None are = tt
second_within None (Some value) are = are
second_within (Some key) None are = tt
second_within (Some key) (Some value) are = are.1

-- a call is within its bounds where its key and its value are
pub call_within : (call : Call) → IfSome (key_of call) IsKey → IfSome (call_value call) IsValue → IsCall call
call_within call = both_within (key_of call) (call_value call)

-- and then they are
pub key_within : (call : Call) → IsCall call → IfSome (key_of call) IsKey
key_within call = first_within (key_of call) (call_value call)

pub value_within : (call : Call) → IsCall call → IfSome (call_value call) IsValue
value_within call = second_within (key_of call) (call_value call)

pub reply_within : (reply : CallReply) → IfSome (reply_value reply) IsValue → IsReply reply
reply_within (Replies.Hit flags unique value) small = small
reply_within reply small = tt

-- ---- replies

-- a reply of a code and no fields
pub record IsPlain (code : ℕ) (reply : CallReply) : Type 0 where
  pub code_is : reply_code reply ≡ code
  pub no_flags : reply_flags reply ≡ None
  pub no_number : reply_number reply ≡ None
  pub no_value : reply_value reply ≡ None
  pub no_counts : reply_counts reply ≡ None

-- a fact of both ways that a test may go
either : {S : Type 0} (P : S → Type 0) (test : Bool) (x y : S) → P x → P y → P (if test then x else y)
either P true x y first second = first
either P false x y first second = second

-- what is so of each reply without fields is so of the one of a code
of_plain : (P : CallReply → Type 0) → P Replies.Miss → P Replies.Stored → P Replies.NotStored → P Replies.Exists → P Replies.NotFound → P Replies.Deleted → P Replies.NotNumber → P Replies.TooLarge → P Replies.Flushed
    → (code : ℕ) → P (plain_reply code)
of_plain P miss stored not_stored exists not_found deleted not_number too_large flushed code =
    either P (code == 1) _ _ miss (either P (code == 3) _ _ stored (either P (code == 4) _ _ not_stored (either P (code == 5) _ _ exists (either P (code == 6) _ _ not_found
    (either P (code == 7) _ _ deleted (either P (code == 9) _ _ not_number (either P (code == 10) _ _ too_large flushed)))))))

-- each code but those of a hit, of a number and of a tally has such a reply
pub plain_is : (code : ℕ) → 1 ≤ code → code ≤ last_reply_code → (code == hit_code) ≡ false → (code == number_code) ≡ false → (code == tally_code) ≡ false → IsPlain code (plain_reply code)
plain_is code some most no_hit no_number no_tally = record {
  code_is = grind (arith, nat_tests);
  no_flags = of_plain (λ reply. reply_flags reply ≡ None) refl refl refl refl refl refl refl refl refl code;
  no_number = of_plain (λ reply. reply_number reply ≡ None) refl refl refl refl refl refl refl refl refl code;
  no_value = of_plain (λ reply. reply_value reply ≡ None) refl refl refl refl refl refl refl refl refl code;
  no_counts = of_plain (λ reply. reply_counts reply ≡ None) refl refl refl refl refl refl refl refl refl code;
}

-- every reply is a hit, a number, a tally, or the one of its code
pub of_forms : (P : CallReply → Type 0) → ((flags unique : ℕ) (value : List ℕ) → P (Replies.Hit flags unique value)) → ((number : ℕ) → P (Replies.Number number)) → ((counts : Tallied) → P (tally counts))
    → ((code : ℕ) → 1 ≤ code → code ≤ last_reply_code → (code == hit_code) ≡ false → (code == number_code) ≡ false → (code == tally_code) ≡ false → P (plain_reply code)) → (reply : CallReply) → P reply
of_forms P hit number tallied plain Replies.Miss = plain 1 (omega arith) (omega arith) refl refl refl
of_forms P hit number tallied plain (Replies.Hit flags unique value) = hit flags unique value
of_forms P hit number tallied plain Replies.Stored = plain 3 (omega arith) (omega arith) refl refl refl
of_forms P hit number tallied plain Replies.NotStored = plain 4 (omega arith) (omega arith) refl refl refl
of_forms P hit number tallied plain Replies.Exists = plain 5 (omega arith) (omega arith) refl refl refl
of_forms P hit number tallied plain Replies.NotFound = plain 6 (omega arith) (omega arith) refl refl refl
of_forms P hit number tallied plain Replies.Deleted = plain 7 (omega arith) (omega arith) refl refl refl
of_forms P hit number tallied plain (Replies.Number n) = number n
of_forms P hit number tallied plain Replies.NotNumber = plain 9 (omega arith) (omega arith) refl refl refl
of_forms P hit number tallied plain Replies.TooLarge = plain 10 (omega arith) (omega arith) refl refl refl
of_forms P hit number tallied plain Replies.Flushed = plain 11 (omega arith) (omega arith) refl refl refl
of_forms P hit number tallied plain (Replies.Tally gets sets hits misses items) = tallied (record { gets = gets; sets = sets; hits = hits; misses = misses; items = items })
