-- The replies that commands may get are answered by lines.
use Rattle.std.proofs.Common.{◌≡◌, ℕ, subst, sym, Bool, true, false, List, [], ◌∷◌, refl}
use Rattle.std.specs.Prelude.{codes, decimal, None, if◌then◌else◌}
use Rattle.mc_calls.specs.declared.call.Call.{Call}
use Rattle.mc_calls.specs.declared.call_kind.CallKind.{CallKind}
use Rattle.mc_calls.specs.declared.call_kind.CallKind.TheVariants as Kinds
use Rattle.mc_calls.specs.declared.call_reply.CallReply.{CallReply}
use Rattle.mc_calls.specs.declared.call_reply.CallReply.TheVariants.{Miss, Hit, Stored, NotStored, Exists, NotFound, Deleted, Number, NotNumber, TooLarge, Flushed, Tally}
use Rattle.mc_calls.specs.Code.{call_kind}
use Rattle.mc_calls.specs.Kind.{IsTrue}
use Rattle.mc_calls.specs.Shard.{may_say}
use Rattle.mc_calls.specs.Table.{row_of}
use Rattle.mc_reply.specs.Line.{too_large}
use Rattle.mc_reply.specs.MetaText.{has_quiet_letter, marked, set_text}
use Rattle.mc_reply.specs.Text.{reply_line}
use Rattle.mc_parse.specs.Saying.{a_stored, says_reply}
use Rattle.mc_allows.specs.declared.said.Said.{Said}
use Rattle.mc_allows.specs.declared.said.Said.TheVariants.{Replied, Failed}
use Rattle.mc_answers.specs.Cut.{IsLine, IsOfLine}
use Rattle.mc_answers.specs.Said.{IsOne, MaySay}
use Rattle.mc_answers.specs.Answer.{stores, lined, IsUnless, IsMarked, IsTextOf}
use Rattle.mc_answers.proofs.NumberLemmas.{decimal_no_feed}
use Rattle.mc_answers.proofs.MarkLemmas.{line_is, marked_is_line}

-- ---- a call whose reply is a line

pub no_miss : (kind : CallKind) → lined kind ≡ true → IsTrue (may_say (row_of kind).acts Miss) → ⊥
no_miss Kinds.Get is may = absurd (cc)
no_miss Kinds.Flush is may = absurd (cc)
no_miss Kinds.Tally is may = absurd (cc)
no_miss kind is may = may

pub no_hit : (kind : CallKind) (flags unique : ℕ) (value : List ℕ) → lined kind ≡ true → IsTrue (may_say (row_of kind).acts (Hit flags unique value)) → ⊥
no_hit Kinds.Get flags unique value is may = absurd (cc)
no_hit Kinds.Flush flags unique value is may = absurd (cc)
no_hit Kinds.Tally flags unique value is may = absurd (cc)
no_hit kind flags unique value is may = may

pub no_flushed : (kind : CallKind) → lined kind ≡ true → IsTrue (may_say (row_of kind).acts Flushed) → ⊥
no_flushed Kinds.Get is may = absurd (cc)
no_flushed Kinds.Flush is may = absurd (cc)
no_flushed Kinds.Tally is may = absurd (cc)
no_flushed kind is may = may

pub no_tally : (kind : CallKind) (gets sets hits misses items : ℕ) → lined kind ≡ true → IsTrue (may_say (row_of kind).acts (Tally gets sets hits misses items)) → ⊥
no_tally Kinds.Get gets sets hits misses items is may = absurd (cc)
no_tally Kinds.Flush gets sets hits misses items is may = absurd (cc)
no_tally Kinds.Tally gets sets hits misses items is may = absurd (cc)
no_tally kind gets sets hits misses items is may = may

reply_is_line : (kind : CallKind) (reply : CallReply) → lined kind ≡ true → IsTrue (may_say (row_of kind).acts reply) → IsLine (reply_line reply)
reply_is_line kind Stored is may = line_is (codes "STORED") refl
reply_is_line kind NotStored is may = line_is (codes "NOT_STORED") refl
reply_is_line kind Exists is may = line_is (codes "EXISTS") refl
reply_is_line kind NotFound is may = line_is (codes "NOT_FOUND") refl
reply_is_line kind Deleted is may = line_is (codes "DELETED") refl
reply_is_line kind (Number n) is may = line_is (decimal n) (decimal_no_feed n)
reply_is_line kind NotNumber is may = line_is (codes "CLIENT_ERROR cannot increment or decrement non-numeric value") refl
reply_is_line kind TooLarge is may = line_is too_large refl
reply_is_line kind Miss is may = absurd (no_miss kind is may)
reply_is_line kind (Hit flags unique value) is may = absurd (no_hit kind flags unique value is may)
reply_is_line kind Flushed is may = absurd (no_flushed kind is may)
reply_is_line kind (Tally gets sets hits misses items) is may = absurd (no_tally kind gets sets hits misses items is may)

-- the line of what was said to the one call, or nothing
pub reply_shaped : (call : Call) → lined (call_kind call) ≡ true → (quiet : Bool) (saids : List Said) (text : List ℕ) → IsOne (MaySay call) saids → IsTextOf (says_reply quiet) saids text → IsUnless quiet IsLine text
reply_shaped call is true saids text may one = one
reply_shaped call is false [] text may one = absurd may
reply_shaped call is false (Replied reply ∷ []) text may one = subst IsLine (sym one) (reply_is_line (call_kind call) reply is may.0)
reply_shaped call is false (Failed ∷ []) text may one = one.line
reply_shaped call is false (said ∷ next ∷ saids) text may one = absurd may

-- ---- a call that stores, of `ms`

puts_miss : (kind : CallKind) → stores kind ≡ true → IsTrue (may_say (row_of kind).acts Miss) → ⊥
puts_miss Kinds.Get is may = absurd (cc)
puts_miss Kinds.Incr is may = absurd (cc)
puts_miss Kinds.Decr is may = absurd (cc)
puts_miss Kinds.Delete is may = absurd (cc)
puts_miss Kinds.Flush is may = absurd (cc)
puts_miss Kinds.Tally is may = absurd (cc)
puts_miss kind is may = may

puts_hit : (kind : CallKind) (flags unique : ℕ) (value : List ℕ) → stores kind ≡ true → IsTrue (may_say (row_of kind).acts (Hit flags unique value)) → ⊥
puts_hit Kinds.Get flags unique value is may = absurd (cc)
puts_hit Kinds.Incr flags unique value is may = absurd (cc)
puts_hit Kinds.Decr flags unique value is may = absurd (cc)
puts_hit Kinds.Delete flags unique value is may = absurd (cc)
puts_hit Kinds.Flush flags unique value is may = absurd (cc)
puts_hit Kinds.Tally flags unique value is may = absurd (cc)
puts_hit kind flags unique value is may = may

puts_flushed : (kind : CallKind) → stores kind ≡ true → IsTrue (may_say (row_of kind).acts Flushed) → ⊥
puts_flushed Kinds.Get is may = absurd (cc)
puts_flushed Kinds.Incr is may = absurd (cc)
puts_flushed Kinds.Decr is may = absurd (cc)
puts_flushed Kinds.Delete is may = absurd (cc)
puts_flushed Kinds.Flush is may = absurd (cc)
puts_flushed Kinds.Tally is may = absurd (cc)
puts_flushed kind is may = may

puts_tally : (kind : CallKind) (gets sets hits misses items : ℕ) → stores kind ≡ true → IsTrue (may_say (row_of kind).acts (Tally gets sets hits misses items)) → ⊥
puts_tally Kinds.Get gets sets hits misses items is may = absurd (cc)
puts_tally Kinds.Incr gets sets hits misses items is may = absurd (cc)
puts_tally Kinds.Decr gets sets hits misses items is may = absurd (cc)
puts_tally Kinds.Delete gets sets hits misses items is may = absurd (cc)
puts_tally Kinds.Flush gets sets hits misses items is may = absurd (cc)
puts_tally Kinds.Tally gets sets hits misses items is may = absurd (cc)
puts_tally kind gets sets hits misses items is may = may

puts_deleted : (kind : CallKind) → stores kind ≡ true → IsTrue (may_say (row_of kind).acts Deleted) → ⊥
puts_deleted Kinds.Get is may = absurd (cc)
puts_deleted Kinds.Incr is may = absurd (cc)
puts_deleted Kinds.Decr is may = absurd (cc)
puts_deleted Kinds.Delete is may = absurd (cc)
puts_deleted Kinds.Flush is may = absurd (cc)
puts_deleted Kinds.Tally is may = absurd (cc)
puts_deleted kind is may = may

puts_number : (kind : CallKind) (n : ℕ) → stores kind ≡ true → IsTrue (may_say (row_of kind).acts (Number n)) → ⊥
puts_number Kinds.Get n is may = absurd (cc)
puts_number Kinds.Incr n is may = absurd (cc)
puts_number Kinds.Decr n is may = absurd (cc)
puts_number Kinds.Delete n is may = absurd (cc)
puts_number Kinds.Flush n is may = absurd (cc)
puts_number Kinds.Tally n is may = absurd (cc)
puts_number kind n is may = may

puts_not_number : (kind : CallKind) → stores kind ≡ true → IsTrue (may_say (row_of kind).acts NotNumber) → ⊥
puts_not_number Kinds.Get is may = absurd (cc)
puts_not_number Kinds.Incr is may = absurd (cc)
puts_not_number Kinds.Decr is may = absurd (cc)
puts_not_number Kinds.Delete is may = absurd (cc)
puts_not_number Kinds.Flush is may = absurd (cc)
puts_not_number Kinds.Tally is may = absurd (cc)
puts_not_number kind is may = may

-- a test that is known chooses
pub chosen_second : (Holds : List ℕ → Type 0) (test : Bool) (x y : List ℕ) → test ≡ false → Holds y → Holds (if test then x else y)
chosen_second Holds true x y is holds = absurd (cc)
chosen_second Holds false x y is holds = holds

set_is_line : (kind : CallKind) (key marks : List ℕ) (reply : CallReply) → stores kind ≡ true → IsOfLine key → has_quiet_letter marks ≡ false → IsTrue (may_say (row_of kind).acts reply)
    → IsLine (set_text key marks reply)
set_is_line kind key marks Stored is named loud may = chosen_second IsLine (has_quiet_letter marks) [] (marked (codes "HD") key None marks) loud (marked_is_line (codes "HD") key marks refl named)
set_is_line kind key marks NotStored is named loud may = marked_is_line (codes "NS") key marks refl named
set_is_line kind key marks Exists is named loud may = marked_is_line (codes "EX") key marks refl named
set_is_line kind key marks NotFound is named loud may = marked_is_line (codes "NF") key marks refl named
set_is_line kind key marks TooLarge is named loud may = line_is too_large refl
set_is_line kind key marks Miss is named loud may = absurd (puts_miss kind is may)
set_is_line kind key marks (Hit flags unique value) is named loud may = absurd (puts_hit kind flags unique value is may)
set_is_line kind key marks Deleted is named loud may = absurd (puts_deleted kind is may)
set_is_line kind key marks (Number n) is named loud may = absurd (puts_number kind n is may)
set_is_line kind key marks NotNumber is named loud may = absurd (puts_not_number kind is may)
set_is_line kind key marks Flushed is named loud may = absurd (puts_flushed kind is may)
set_is_line kind key marks (Tally gets sets hits misses items) is named loud may = absurd (puts_tally kind gets sets hits misses items is may)

-- the line of what was said to the call of `ms`
pub set_shaped : (call : Call) (key marks : List ℕ) (saids : List Said) (text : List ℕ) → stores (call_kind call) ≡ true → IsOfLine key → has_quiet_letter marks ≡ false → IsOne (MaySay call) saids
    → IsOne (IsMarked a_stored key marks text) saids → IsLine text
set_shaped call key marks [] text is named loud may one = absurd may
set_shaped call key marks (Replied reply ∷ []) text is named loud may one = subst IsLine (sym one) (set_is_line (call_kind call) key marks reply is named loud may.0)
set_shaped call key marks (Failed ∷ []) text is named loud may one = one.line
set_shaped call key marks (said ∷ next ∷ saids) text is named loud may one = absurd may
