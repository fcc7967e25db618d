-- What the line of a reply shows.
use Rattle.std.proofs.Common.{◌≡◌, ℕ, zero, suc, Bool, true, false, List, [], ◌∷◌, ◌++◌, refl, ap, sym, ◌∙◌, subst}
use Rattle.std.specs.Prelude.{if◌then◌else◌, codes, None, Some}
use Rattle.std.specs.Str.{bytes_eq}
use Rattle.mc_calls.specs.declared.call.Call.{Call}
use Rattle.mc_calls.specs.declared.call.Call.TheVariants as Calls
use Rattle.mc_calls.specs.declared.call_kind.CallKind.{CallKind}
use Rattle.mc_calls.specs.declared.call_reply.CallReply.{CallReply}
use Rattle.mc_calls.specs.declared.call_reply.CallReply.TheVariants.{Miss, Hit, Stored, NotStored, Exists, NotFound, Deleted, Number, NotNumber, TooLarge, Flushed, Tally}
use Rattle.mc_calls.specs.Code.{call_kind}
use Rattle.mc_calls.specs.Kind.{IsTrue}
use Rattle.mc_calls.specs.Told.{told}
use Rattle.mc_reply.specs.Text.{line_end}
use Rattle.mc_parse.specs.declared.command.Command.{Command}
use Rattle.mc_parse.specs.declared.command.Command.TheVariants.{Store, Cas, Delete, Count}
use Rattle.mc_parse.specs.declared.verb.Verb.TheVariants as Verbs
use Rattle.mc_parse.specs.Deed.{says_of, is_unsaid}
use Rattle.mc_allows.specs.declared.said.Said.{Said}
use Rattle.mc_allows.specs.declared.said.Said.TheVariants.{Replied, Failed}
use Rattle.mc_allows.specs.declared.shown.Shown.TheVariants.{Reply, Failure}
use Rattle.mc_allows.specs.Needs.{Suits}
use Rattle.mc_answers.specs.Answer.{lined, IsReplyLine, IsAnswer}
use Rattle.mc_answers.specs.Said.{IsOne, MaySay}
use Rattle.mc_answered.specs.Reading.{reply_of}
use Rattle.mc_answered.specs.Replies.{reply_kind}
use Rattle.mc_answered.proofs.ReplyLemmas.{lined_has, reply_of-line}
use Rattle.mc_shown.specs.declared.part.Part.{Part}
use Rattle.mc_shown.specs.Parts.{AreSuited}
use Rattle.mc_shown.specs.Told.{IsToldBy, shown_of}

-- ---- the reply that a line is read as

-- the reply that was said is read
told_read : (line : List ℕ) (reply : CallReply) → IsToldBy line (Replied reply) → reply_of line ≡ Some reply
told_read line reply one = ap reply_of one.1 ∙ reply_of-line reply one.0.0 one.0.1

-- a line in which a server names a fault is read as no reply, but that a value is too large
failed_read : (rest : List ℕ) (reply : CallReply) → reply_of (codes "SERVER_ERROR" ++ rest) ≡ Some reply → reply ≡ TooLarge
failed_read rest reply read = go (bytes_eq (codes "SERVER_ERROR" ++ rest) (codes "SERVER_ERROR object too large for cache\r\n")) read
  where
    go : (test : Bool) → (if test then Some TooLarge else None) ≡ Some reply → reply ≡ TooLarge
    go true is = cc
    go false is = absurd (cc)

reply_suits : (line : List ℕ) (reply : CallReply) → reply_of line ≡ Some reply → (reply ≡ TooLarge → ⊥) → (said : Said) → IsToldBy line said → Suits (Reply reply) said
reply_suits line reply read small (Replied own) one = let e : own ≡ reply = let both = sym (told_read line own one) ∙ read in cc in ap told e
reply_suits line reply read small Failed one = absurd (small (failed_read (one.1.rest ++ line_end) reply (ap reply_of (sym one.1.is) ∙ read)))

large_suits : (line : List ℕ) → reply_of line ≡ Some TooLarge → (said : Said) → IsToldBy line said → Suits Failure said
large_suits line read (Replied own) one = let both = sym (told_read line own one) ∙ read in cc
large_suits line read Failed one = refl

-- what was said suits what is shown by the reply that is read
pub read_suits : (line : List ℕ) (reply : CallReply) → reply_of line ≡ Some reply → (said : Said) → IsToldBy line said → Suits (shown_of reply) said
read_suits line TooLarge read said one = large_suits line read said one
read_suits line Miss read said one = reply_suits line Miss read (λ is. cc) said one
read_suits line (Hit flags unique value) read said one = reply_suits line (Hit flags unique value) read (λ is. cc) said one
read_suits line Stored read said one = reply_suits line Stored read (λ is. cc) said one
read_suits line NotStored read said one = reply_suits line NotStored read (λ is. cc) said one
read_suits line Exists read said one = reply_suits line Exists read (λ is. cc) said one
read_suits line NotFound read said one = reply_suits line NotFound read (λ is. cc) said one
read_suits line Deleted read said one = reply_suits line Deleted read (λ is. cc) said one
read_suits line (Number n) read said one = reply_suits line (Number n) read (λ is. cc) said one
read_suits line NotNumber read said one = reply_suits line NotNumber read (λ is. cc) said one
read_suits line Flushed read said one = reply_suits line Flushed read (λ is. cc) said one
read_suits line (Tally gets sets hits misses items) read said one = reply_suits line (Tally gets sets hits misses items) read (λ is. cc) said one

pub unread_suits : (line : List ℕ) → reply_of line ≡ None → (said : Said) → IsToldBy line said → Suits Failure said
unread_suits line read (Replied own) one = let both = sym (told_read line own one) ∙ read in absurd (cc)
unread_suits line read Failed one = refl

-- ---- commands that are answered by the line of their one reply

true_is : (b : Bool) → IsTrue b → b ≡ true
true_is true holds = refl
true_is false holds = absurd holds

told_by : (call : Call) (line : List ℕ) (saids : List Said) → lined (call_kind call) ≡ true → IsOne (MaySay call) saids → IsOne (IsReplyLine line) saids → IsOne (IsToldBy line) saids
told_by call line [] is may shows = absurd may
told_by call line (Replied reply ∷ []) is may shows = ((lined_has (call_kind call) reply is (true_is _ may.0), may.2), shows)
told_by call line (Failed ∷ []) is may shows = (tt, shows)
told_by call line (said ∷ next ∷ saids) is may shows = absurd may

pub one_told : (command : Command) (kind : CallKind) (line : List ℕ) (saids : List Said) → reply_kind command ≡ Some kind → is_unsaid (says_of command) ≡ false → IsAnswer command saids line → IsOne (IsToldBy line) saids
one_told (Store verb key flags value true) kind line saids is loud one = absurd (cc)
one_told (Store Verbs.Set key flags value false) kind line saids is loud one = told_by (Calls.Set key flags value) line saids refl one.fit one.text
one_told (Store Verbs.Add key flags value false) kind line saids is loud one = told_by (Calls.Add key flags value) line saids refl one.fit one.text
one_told (Store Verbs.Replace key flags value false) kind line saids is loud one = told_by (Calls.Replace key flags value) line saids refl one.fit one.text
one_told (Store Verbs.Append key flags value false) kind line saids is loud one = told_by (Calls.Append key value) line saids refl one.fit one.text
one_told (Store Verbs.Prepend key flags value false) kind line saids is loud one = told_by (Calls.Prepend key value) line saids refl one.fit one.text
one_told (Cas key flags unique value true) kind line saids is loud one = absurd (cc)
one_told (Cas key flags unique value false) kind line saids is loud one = told_by (Calls.Cas flags key unique value) line saids refl one.fit one.text
one_told (Delete key true) kind line saids is loud one = absurd (cc)
one_told (Delete key false) kind line saids is loud one = told_by (Calls.Delete key) line saids refl one.fit one.text
one_told (Count key up amount true) kind line saids is loud one = absurd (cc)
one_told (Count key true amount false) kind line saids is loud one = told_by (Calls.Incr key amount) line saids refl one.fit one.text
one_told (Count key false amount false) kind line saids is loud one = told_by (Calls.Decr key amount) line saids refl one.fit one.text
one_told command kind line saids is loud one = absurd (cc)

-- ---- parts

pub one_suited : (IsSuch : Said → Type 0) (saids : List Said) (part : Part) → IsOne IsSuch saids → ((said : Said) → IsSuch said → Suits part.shown said) → AreSuited (part ∷ []) saids
one_suited IsSuch [] part one suits i found said part_is said_is = absurd one
one_suited IsSuch (only ∷ []) part one suits zero found said part_is said_is =
    let first : part ≡ found = cc in
    let same : only ≡ said = cc in
    subst (λ (p : Part). Suits p.shown said) first (subst (Suits part.shown) same (suits only one))
one_suited IsSuch (only ∷ []) part one suits (suc i) found said part_is said_is = absurd (cc)
one_suited IsSuch (only ∷ next ∷ saids) part one suits i found said part_is said_is = absurd one
