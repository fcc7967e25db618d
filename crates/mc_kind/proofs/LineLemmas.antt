-- Answers of one line.
use Rattle.std.proofs.Common.{◌≡◌, inl, inr, ℕ, ◌≤◌, Bool, true, false, List, [], ◌∷◌, length, take, refl, ap, sym, ◌∙◌, subst, arith}
use Rattle.std.specs.Prelude.{None, Some}
use Rattle.mc_calls.specs.declared.call.Call.{Call}
use Rattle.mc_calls.specs.declared.call.Call.TheVariants as Calls
use Rattle.mc_calls.specs.declared.call_kind.CallKind.{CallKind}
use Rattle.mc_calls.specs.declared.call_reply.CallReply.{CallReply}
use Rattle.mc_calls.specs.declared.call_reply.CallReply.TheVariants.{Hit}
use Rattle.mc_calls.specs.Bounds.{IsReply}
use Rattle.mc_calls.specs.Code.{call_kind}
use Rattle.mc_calls.specs.Kind.{IsTrue}
use Rattle.mc_calls.specs.Shard.{may_say}
use Rattle.mc_calls.specs.Table.{row_of}
use Rattle.mc_parse.specs.declared.command.Command.{Command}
use Rattle.mc_parse.specs.declared.command.Command.TheVariants.{Store, Cas, Get, Delete, Count, Version, Verbosity, Flush, Fault, Meta}
use Rattle.mc_parse.specs.declared.command.Command.TheVariants as Commands
use Rattle.mc_parse.specs.declared.meta.Meta.TheVariants as Metas
use Rattle.mc_parse.specs.declared.verb.Verb.TheVariants as Verbs
use Rattle.mc_parse.specs.Deed.{says_of, is_unsaid}
use Rattle.mc_allows.specs.Allows.{may_fail}
use Rattle.mc_allows.specs.declared.said.Said.{Said}
use Rattle.mc_allows.specs.declared.said.Said.TheVariants.{Replied, Failed}
use Rattle.mc_answers.specs.Answer.{lined, IsReplyLine, IsAnswer, IsSomeAnswer}
use Rattle.mc_answers.specs.Cut.{IsLine}
use Rattle.mc_answers.specs.Kinds.{IsErrorLine}
use Rattle.mc_answers.specs.Said.{IsOne, MaySay}
use Rattle.mc_answers.proofs.AnswerLemmas.{some_shaped}
use Rattle.mc_answers.proofs.CutLemmas.{lines_cut}
use Rattle.mc_answers.proofs.ErrorLemmas.{error_is_line}
use Rattle.mc_answered.specs.Reading.{has_line}
use Rattle.mc_answered.specs.Replies.{kind_may_fail, reply_kind, IsSaidLine}
use Rattle.mc_answered.proofs.ReplyLemmas.{lined_has}
use Rattle.mc_kind.specs.First.{IsWhole, IsRefused, IsFixedAnswer, is_loud_line}
use Rattle.mc_kind.proofs.ListingLemmas.{some_error_first, no_error_first, first_text}
use Rattle.mc_kind.proofs.SeriesLemmas.{have_length}

-- ---- each answer is a line

pub some_line : (command : Command) → is_loud_line command ≡ true → (text : List ℕ) → IsSomeAnswer command text → IsLine text
some_line (Store verb key flags value true) loud text one = absurd (cc)
some_line (Store verb key flags value false) loud text one = some_shaped (Store verb key flags value false) (record { said = tt; plain = refl }) text one
some_line (Cas key flags unique value true) loud text one = absurd (cc)
some_line (Cas key flags unique value false) loud text one = some_shaped (Cas key flags unique value false) (record { said = tt; plain = refl }) text one
some_line (Get keys unique) loud text one = absurd (cc)
some_line (Delete key true) loud text one = absurd (cc)
some_line (Delete key false) loud text one = some_shaped (Delete key false) (record { said = tt; plain = refl }) text one
some_line (Count key up amount true) loud text one = absurd (cc)
some_line (Count key up amount false) loud text one = some_shaped (Count key up amount false) (record { said = tt; plain = refl }) text one
some_line Version loud text one = some_shaped Version (record { said = tt; plain = refl }) text one
some_line Commands.Stats loud text one = absurd (cc)
some_line (Verbosity true) loud text one = absurd (cc)
some_line (Verbosity false) loud text one = some_shaped (Verbosity false) (record { said = tt; plain = refl }) text one
some_line (Flush true) loud text one = absurd (cc)
some_line (Flush false) loud text one = some_shaped (Flush false) (record { said = tt; plain = refl }) text one
some_line (Fault fault true) loud text one = absurd (cc)
some_line (Fault fault false) loud text one = error_is_line text one.answer.text
some_line (Meta Metas.Noop) loud text one = some_shaped (Meta Metas.Noop) (record { said = tt; plain = refl }) text one
some_line (Meta meta) loud text one = absurd (cc)

-- ---- lines that say what was said

reply_small : (reply : CallReply) → has_line reply ≡ true → IsReply reply
reply_small (Hit flags unique value) has = absurd (cc)
reply_small reply has = tt

record OneSaid (call : Call) (line : List ℕ) : Type 0 where
  said : Said
  may : MaySay call said
  shows : IsReplyLine line said

said_by : (call : Call) (kind : CallKind) (line : List ℕ) → call_kind call ≡ kind → kind_may_fail (call_kind call) ≡ may_fail call → lined (call_kind call) ≡ true → IsSaidLine kind line → OneSaid call line
said_by call kind line is fails has (inl one) =
    let may : may_say (row_of (call_kind call)).acts one.reply ≡ true = subst (λ (k : CallKind). may_say (row_of k).acts one.reply ≡ true) (sym is) one.may in
    record {
      said = Replied one.reply;
      may = (subst IsTrue (sym may) tt, reply_small one.reply (lined_has (call_kind call) one.reply has may), one.fits);
      shows = one.is;
    }
said_by call kind line is fails has (inr (may, error)) = record { said = Failed; may = sym fails ∙ ap kind_may_fail is ∙ may; shows = error }

true_is : (b : Bool) → IsTrue b → b ≡ true
true_is true holds = refl
true_is false holds = absurd holds

says_by : (call : Call) (kind : CallKind) (line : List ℕ) → call_kind call ≡ kind → kind_may_fail (call_kind call) ≡ may_fail call → (saids : List Said) → IsOne (MaySay call) saids → IsOne (IsReplyLine line) saids → IsSaidLine kind line
says_by call kind line is fails [] may shows = absurd may
says_by call kind line is fails (Replied reply ∷ []) may shows =
    inl (record { reply = reply; may = subst (λ (k : CallKind). may_say (row_of k).acts reply ≡ true) is (true_is _ may.0); fits = may.2; is = shows })
says_by call kind line is fails (Failed ∷ []) may shows = inr (sym (ap kind_may_fail is) ∙ fails ∙ may, shows)
says_by call kind line is fails (said ∷ next ∷ saids) may shows = absurd may

-- ---- commands that are answered by the line of their one reply

made : (command : Command) (call : Call) (line : List ℕ) (one : OneSaid call line) → (IsOne (MaySay call) (one.said ∷ []) → IsOne (IsReplyLine line) (one.said ∷ []) → IsAnswer command (one.said ∷ []) line) → IsSomeAnswer command line
made command call line one answer = record { saids = one.said ∷ []; answer = answer one.may one.shows }

pub reply_answers : (command : Command) (kind : CallKind) (line : List ℕ) → reply_kind command ≡ Some kind → is_loud_line command ≡ true → IsSaidLine kind line → IsSomeAnswer command line
reply_answers (Store Verbs.Set key flags value false) kind line is loud one = made _ _ line (said_by (Calls.Set key flags value) kind line (cc) refl refl one) (λ may shows. record { fit = may; text = shows })
reply_answers (Store Verbs.Add key flags value false) kind line is loud one = made _ _ line (said_by (Calls.Add key flags value) kind line (cc) refl refl one) (λ may shows. record { fit = may; text = shows })
reply_answers (Store Verbs.Replace key flags value false) kind line is loud one = made _ _ line (said_by (Calls.Replace key flags value) kind line (cc) refl refl one) (λ may shows. record { fit = may; text = shows })
reply_answers (Store Verbs.Append key flags value false) kind line is loud one = made _ _ line (said_by (Calls.Append key value) kind line (cc) refl refl one) (λ may shows. record { fit = may; text = shows })
reply_answers (Store Verbs.Prepend key flags value false) kind line is loud one = made _ _ line (said_by (Calls.Prepend key value) kind line (cc) refl refl one) (λ may shows. record { fit = may; text = shows })
reply_answers (Cas key flags unique value false) kind line is loud one = made _ _ line (said_by (Calls.Cas flags key unique value) kind line (cc) refl refl one) (λ may shows. record { fit = may; text = shows })
reply_answers (Delete key false) kind line is loud one = made _ _ line (said_by (Calls.Delete key) kind line (cc) refl refl one) (λ may shows. record { fit = may; text = shows })
reply_answers (Count key true amount false) kind line is loud one = made _ _ line (said_by (Calls.Incr key amount) kind line (cc) refl refl one) (λ may shows. record { fit = may; text = shows })
reply_answers (Count key false amount false) kind line is loud one = made _ _ line (said_by (Calls.Decr key amount) kind line (cc) refl refl one) (λ may shows. record { fit = may; text = shows })
reply_answers (Store verb key flags value true) kind line is loud one = absurd (cc)
reply_answers (Cas key flags unique value true) kind line is loud one = absurd (cc)
reply_answers (Delete key true) kind line is loud one = absurd (cc)
reply_answers (Count key up amount true) kind line is loud one = absurd (cc)
reply_answers command kind line is loud one = absurd (cc)

pub answer_replies : (command : Command) (kind : CallKind) (line : List ℕ) → reply_kind command ≡ Some kind → is_loud_line command ≡ true → IsSomeAnswer command line → IsSaidLine kind line
answer_replies (Store Verbs.Set key flags value false) kind line is loud one = says_by (Calls.Set key flags value) kind line (cc) refl one.saids one.answer.fit one.answer.text
answer_replies (Store Verbs.Add key flags value false) kind line is loud one = says_by (Calls.Add key flags value) kind line (cc) refl one.saids one.answer.fit one.answer.text
answer_replies (Store Verbs.Replace key flags value false) kind line is loud one = says_by (Calls.Replace key flags value) kind line (cc) refl one.saids one.answer.fit one.answer.text
answer_replies (Store Verbs.Append key flags value false) kind line is loud one = says_by (Calls.Append key value) kind line (cc) refl one.saids one.answer.fit one.answer.text
answer_replies (Store Verbs.Prepend key flags value false) kind line is loud one = says_by (Calls.Prepend key value) kind line (cc) refl one.saids one.answer.fit one.answer.text
answer_replies (Cas key flags unique value false) kind line is loud one = says_by (Calls.Cas flags key unique value) kind line (cc) refl one.saids one.answer.fit one.answer.text
answer_replies (Delete key false) kind line is loud one = says_by (Calls.Delete key) kind line (cc) refl one.saids one.answer.fit one.answer.text
answer_replies (Count key true amount false) kind line is loud one = says_by (Calls.Incr key amount) kind line (cc) refl one.saids one.answer.fit one.answer.text
answer_replies (Count key false amount false) kind line is loud one = says_by (Calls.Decr key amount) kind line (cc) refl one.saids one.answer.fit one.answer.text
answer_replies (Store verb key flags value true) kind line is loud one = absurd (cc)
answer_replies (Cas key flags unique value true) kind line is loud one = absurd (cc)
answer_replies (Delete key true) kind line is loud one = absurd (cc)
answer_replies (Count key up amount true) kind line is loud one = absurd (cc)
answer_replies command kind line is loud one = absurd (cc)

-- ---- other commands

-- ---- the first line

pub line_whole : (command : Command) (bytes : List ℕ) (n : ℕ) → is_loud_line command ≡ true → n ≤ length bytes → IsLine (take n bytes) → IsSomeAnswer command (take n bytes) → IsWhole command bytes n
line_whole command bytes n loud low is one = record {
  low = low;
  long = λ text rest more answer same. have_length IsLine lines_cut bytes n low is text rest more (some_line command loud text answer) same;
  error = λ error. inr (subst (IsSomeAnswer command) (some_error_first bytes n is error) one);
}

pub line_refused : (command : Command) (bytes : List ℕ) (n : ℕ) → is_loud_line command ≡ true → IsLine (take n bytes) → (IsSomeAnswer command (take n bytes) → ⊥) → (IsErrorLine (take n bytes) → ⊥) → IsRefused command bytes
line_refused command bytes n loud is none no_error = record {
  none = λ text rest more answer same. none (subst (IsSomeAnswer command) (first_text bytes n is text rest more (some_line command loud text answer) same) answer);
  error = no_error_first bytes n is no_error;
}

-- ---- quiet commands

quiet_empty : (command : Command) → is_unsaid (says_of command) ≡ true → (text : List ℕ) → IsSomeAnswer command text → text ≡ []
quiet_empty (Store verb key flags value true) quiet text one = one.answer.text
quiet_empty (Cas key flags unique value true) quiet text one = one.answer.text
quiet_empty (Delete key true) quiet text one = one.answer.text
quiet_empty (Count key up amount true) quiet text one = one.answer.text
quiet_empty (Verbosity true) quiet text one = one.answer.text
quiet_empty (Flush true) quiet text one = one.answer.text
quiet_empty (Fault fault true) quiet text one = one.answer.text
quiet_empty (Store verb key flags value false) quiet text one = absurd (cc)
quiet_empty (Cas key flags unique value false) quiet text one = absurd (cc)
quiet_empty (Delete key false) quiet text one = absurd (cc)
quiet_empty (Count key up amount false) quiet text one = absurd (cc)
quiet_empty (Verbosity false) quiet text one = absurd (cc)
quiet_empty (Flush false) quiet text one = absurd (cc)
quiet_empty (Fault fault false) quiet text one = absurd (cc)
quiet_empty (Get keys unique) quiet text one = absurd (cc)
quiet_empty Version quiet text one = absurd (cc)
quiet_empty Commands.Stats quiet text one = absurd (cc)
quiet_empty (Meta Metas.Noop) quiet text one = absurd (cc)
quiet_empty (Meta (Metas.Get key flags)) quiet text one = absurd (cc)
quiet_empty (Meta (Metas.Set key call marks)) quiet text one = absurd (cc)
quiet_empty (Meta (Metas.Delete key flags)) quiet text one = absurd (cc)

pub quiet_whole : (command : Command) (bytes : List ℕ) → is_unsaid (says_of command) ≡ true → IsWhole command bytes 0
quiet_whole command bytes quiet = record {
  low = omega arith;
  long = λ text rest more answer same. ap length (quiet_empty command quiet text answer);
  error = λ error. inl refl;
}
