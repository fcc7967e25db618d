-- The line of a reply is read back, and what is read is the reply of the line.
use Rattle.std.proofs.Common.{◌≡◌, ℕ, ◌<◌, ◌^◌, Bool, true, false, List, [], ◌∷◌, ◌++◌, length, refl, ap, sym, ◌∙◌, subst, arith}
use Rattle.std.specs.Prelude.{if◌then◌else◌, codes, decimal, Option, None, Some, option_map}
use Rattle.std.specs.Option.{option_and_then}
use Rattle.std.specs.Str.{bytes_eq}
use Rattle.std.specs.List.{list_all}
use Rattle.std.proofs.lemmas.Bool.{and_parts}
use Rattle.std.proofs.lemmas.Fmt.{decimal_nonempty}
use Rattle.std.proofs.lemmas.Slice.Eq.{bytes_eq-Decides}
use Rattle.mc_calls.specs.declared.call_kind.CallKind.{CallKind}
use Rattle.mc_calls.specs.declared.call_reply.CallReply.{CallReply}
use Rattle.mc_calls.specs.declared.call_reply.CallReply.TheVariants.{Miss, Hit, Stored, NotStored, Exists, NotFound, Deleted, Number, NotNumber, TooLarge, Flushed, Tally}
use Rattle.mc_calls.specs.Bounds.{FitsReply}
use Rattle.mc_calls.specs.Code.{reply_code, reply_number}
use Rattle.mc_calls.specs.Kind.{IsTrue}
use Rattle.mc_calls.specs.Shard.{may_say}
use Rattle.mc_calls.specs.Table.{row_of}
use Rattle.mc_reply.specs.Text.{reply_line, line_end}
use Rattle.mc_answers.specs.Answer.{lined}
use Rattle.mc_answers.proofs.NumberLemmas.{is_digit, digits_pass}
use Rattle.mc_answers.proofs.ReplyLemmas.{no_miss, no_hit, no_flushed, no_tally}
use Rattle.mc_answered.specs.Reading.{Halves, halves_at, number_before, starts_digit, refused_reply, worded_reply, counted_reply, reply_of, has_line, decimal_of}
use Rattle.mc_answered.specs.Replies.{IsReplyTo}
use Rattle.mc_answered.proofs.HeadingLemmas.{number_halves, and_then-some}
use Rattle.mc_answered.proofs.ReadingLemmas.{halves_at-some, decimal_of-decimal, decimal_of-some}

-- ---- from a reply to its line

digits_start : (digits more : List ℕ) → list_all is_digit digits ≡ true → 0 < length digits → starts_digit (digits ++ more) ≡ true
digits_start [] more all some = absurd (omega arith)
digits_start (d ∷ ds) more all some = (and_parts (is_digit d) (list_all is_digit ds) all).0

counted_back : (n : ℕ) → n < 2 ^ 64 → counted_reply (decimal n ++ line_end) ≡ Some (Number n)
counted_back n small = rw (number_halves 13 n (10 ∷ []) (omega arith)) (rw (decimal_of-decimal n small) refl)

-- the line of a reply is read back
pub reply_of-line : (reply : CallReply) → has_line reply ≡ true → FitsReply reply → reply_of (reply_line reply) ≡ Some reply
reply_of-line Stored has fits = refl
reply_of-line NotStored has fits = refl
reply_of-line Exists has fits = refl
reply_of-line NotFound has fits = refl
reply_of-line Deleted has fits = refl
reply_of-line NotNumber has fits = refl
reply_of-line TooLarge has fits = refl
reply_of-line (Number n) has fits = rw (digits_start (decimal n) line_end (digits_pass n) (decimal_nonempty n fits.0.1)) (counted_back n fits.0.1)
reply_of-line Miss has fits = absurd (cc)
reply_of-line (Hit flags unique value) has fits = absurd (cc)
reply_of-line Flushed has fits = absurd (cc)
reply_of-line (Tally gets sets hits misses items) has fits = absurd (cc)

-- ---- from a line to its reply

pub record Reads (line : List ℕ) (reply : CallReply) : Type 0 where
  pub is : line ≡ reply_line reply
  pub fits : FitsReply reply
  pub has : has_line reply ≡ true

word_step : (line text : List ℕ) (word reply : CallReply) (later : Option CallReply) → text ≡ reply_line word → FitsReply word → has_line word ≡ true → (later ≡ Some reply → Reads line reply)
    → (if bytes_eq line text then Some word else later) ≡ Some reply → Reads line reply
word_step line text word reply later of fits has others gives = go (bytes_eq line text) refl gives
  where
    go : (test : Bool) → bytes_eq line text ≡ test → (if test then Some word else later) ≡ Some reply → Reads line reply
    go true same found = let e : word ≡ reply = cc in subst (Reads line) e (record { is = (bytes_eq-Decides line text).0 same ∙ of; fits = fits; has = has })
    go false same found = others found

refused_reads : (line : List ℕ) (reply : CallReply) → refused_reply line ≡ Some reply → Reads line reply
refused_reads line reply =
    word_step line (codes "CLIENT_ERROR cannot increment or decrement non-numeric value\r\n") NotNumber reply _ refl ((tt, tt), tt) refl
    (word_step line (codes "SERVER_ERROR object too large for cache\r\n") TooLarge reply None refl ((tt, tt), tt) refl (λ never. absurd (cc)))

worded_reads : (line : List ℕ) (reply : CallReply) → worded_reply line ≡ Some reply → Reads line reply
worded_reads line reply =
    word_step line (codes "STORED\r\n") Stored reply _ refl ((tt, tt), tt) refl
    (
    word_step line (codes "NOT_STORED\r\n") NotStored reply _ refl ((tt, tt), tt) refl
    (
    word_step line (codes "EXISTS\r\n") Exists reply _ refl ((tt, tt), tt) refl
    (
    word_step line (codes "NOT_FOUND\r\n") NotFound reply _ refl ((tt, tt), tt) refl
    (word_step line (codes "DELETED\r\n") Deleted reply (refused_reply line) refl ((tt, tt), tt) refl (refused_reads line reply))
    )
    )
    )

number_reads : (line : List ℕ) (h : Halves) (n : ℕ) → line ≡ h.front ++ 13 ∷ h.rest → (test : Bool) → bytes_eq h.rest (10 ∷ []) ≡ test → (if test then decimal_of h.front else None) ≡ Some n → Reads line (Number n)
number_reads line h n is true same gives =
    let number = decimal_of-some h.front n gives in
    let rest : h.rest ≡ 10 ∷ [] = (bytes_eq-Decides h.rest (10 ∷ [])).0 same in
    record { is = is ∙ ap (λ (t : List ℕ). h.front ++ 13 ∷ t) rest ∙ ap (λ (t : List ℕ). t ++ (13 ∷ 10 ∷ [])) number.0; fits = ((tt, number.1), tt); has = refl }
number_reads line h n is false same gives = absurd (cc)

counted_reads : (line : List ℕ) (reply : CallReply) → counted_reply line ≡ Some reply → Reads line reply
counted_reads line reply gives = go (option_and_then number_before (halves_at 13 line)) refl gives
  where
    go : (found : Option ℕ) → option_and_then number_before (halves_at 13 line) ≡ found → option_map Number found ≡ Some reply → Reads line reply
    go None there gives = absurd (cc)
    go (Some n) there gives =
        let e : Number n ≡ reply = cc in
        let found = and_then-some number_before (halves_at 13 line) n there in
        subst (Reads line) e (number_reads line found.x n (halves_at-some 13 line found.x found.there).is (bytes_eq found.x.rest (10 ∷ [])) refl found.gives)

-- what is read is the reply of the line
pub reply_of-some : (line : List ℕ) (reply : CallReply) → reply_of line ≡ Some reply → Reads line reply
reply_of-some line reply gives = go (starts_digit line) gives
  where
    go : (test : Bool) → (if test then counted_reply line else worded_reply line) ≡ Some reply → Reads line reply
    go true found = counted_reads line reply found
    go false found = worded_reads line reply found

-- ---- replies to calls

-- a reply to a call that is answered by the line of its reply has a line
pub lined_has : (kind : CallKind) (reply : CallReply) → lined kind ≡ true → may_say (row_of kind).acts reply ≡ true → has_line reply ≡ true
lined_has kind Stored is may = refl
lined_has kind NotStored is may = refl
lined_has kind Exists is may = refl
lined_has kind NotFound is may = refl
lined_has kind Deleted is may = refl
lined_has kind (Number n) is may = refl
lined_has kind NotNumber is may = refl
lined_has kind TooLarge is may = refl
lined_has kind Miss is may = absurd (no_miss kind is (subst IsTrue (sym may) tt))
lined_has kind (Hit flags unique value) is may = absurd (no_hit kind flags unique value is (subst IsTrue (sym may) tt))
lined_has kind Flushed is may = absurd (no_flushed kind is (subst IsTrue (sym may) tt))
lined_has kind (Tally gets sets hits misses items) is may = absurd (no_tally kind gets sets hits misses items is (subst IsTrue (sym may) tt))

pub reply_to : (kind : CallKind) (line : List ℕ) (reply : CallReply) → reply_of line ≡ Some reply → may_say (row_of kind).acts reply ≡ true → IsReplyTo kind line
reply_to kind line reply there may = let read = reply_of-some line reply there in record { reply = reply; may = may; fits = read.fits; is = read.is }

pub reply_to_is : (kind : CallKind) (line : List ℕ) → lined kind ≡ true → (one : IsReplyTo kind line) → reply_of line ≡ Some one.reply
reply_to_is kind line is one = ap reply_of one.is ∙ reply_of-line one.reply (lined_has kind one.reply is one.may) one.fits

pub reply_to_may : (kind : CallKind) (line : List ℕ) (reply : CallReply) → lined kind ≡ true → reply_of line ≡ Some reply → IsReplyTo kind line → may_say (row_of kind).acts reply ≡ true
reply_to_may kind line reply is there one =
    let e : one.reply ≡ reply = let both = sym (reply_to_is kind line is one) ∙ there in cc in
    subst (λ (r : CallReply). may_say (row_of kind).acts r ≡ true) e one.may

pub reply_to_none : (kind : CallKind) (line : List ℕ) → lined kind ≡ true → reply_of line ≡ None → IsReplyTo kind line → ⊥
reply_to_none kind line is none one = let both = sym none ∙ reply_to_is kind line is one in absurd (cc)

-- ---- two replies that agree

pub same_reply : (reply other : CallReply) → has_line reply ≡ true → reply_code reply ≡ reply_code other → reply_number reply ≡ reply_number other → reply ≡ other
same_reply (Number m) (Number n) has code number = let e : m ≡ n = cc in ap Number e
same_reply Stored Stored has code number = refl
same_reply NotStored NotStored has code number = refl
same_reply Exists Exists has code number = refl
same_reply NotFound NotFound has code number = refl
same_reply Deleted Deleted has code number = refl
same_reply NotNumber NotNumber has code number = refl
same_reply TooLarge TooLarge has code number = refl
same_reply Miss other has code number = absurd (cc)
same_reply (Hit flags unique value) other has code number = absurd (cc)
same_reply Flushed other has code number = absurd (cc)
same_reply (Tally gets sets hits misses items) other has code number = absurd (cc)
same_reply reply other has code number = absurd (cc)
