-- The text of the profile is an answer.
use Rattle.std.specs.Prelude.{codes, decimal}
use Rattle.std.specs.List.{concat, list_all}
use Rattle.std.proofs.Common.{◌≡◌, inl, inr, ℕ, Bool, true, false, List, [], ◌∷◌, ◌++◌, refl, ap, append_assoc}
use Rattle.std.proofs.lemmas.List.Sorted.{IsPermutation-refl}
use Rattle.mc_calls.specs.declared.call.Call.{Call}
use Rattle.mc_calls.specs.declared.call_reply.CallReply.{CallReply}
use Rattle.mc_calls.specs.declared.call_reply.CallReply.TheVariants.{Miss, Hit}
use Rattle.mc_parse.specs.declared.command.Command.{Command}
use Rattle.mc_parse.specs.declared.command.Command.TheVariants.{Store, Cas, Get, Delete, Count, Version, Stats, Verbosity, Flush, Fault, Meta}
use Rattle.mc_parse.specs.declared.error_line.ErrorLine.{ErrorLine}
use Rattle.mc_parse.specs.declared.error_line.ErrorLine.TheVariants.{Unknown, BadLine, BadDelta, LongLine, BadChunk, TooLarge}
use Rattle.mc_parse.specs.declared.meta.Meta.TheVariants as Metas
use Rattle.mc_parse.specs.Deed.{stored_by, counted_by}
use Rattle.mc_calls.specs.declared.call.Call.TheVariants as Calls
use Rattle.mc_parse.specs.Saying.{Fixed, the_version, is_done, does_noop, has_fault, About, a_found, a_stored, a_removed, says_reply, says_marks}
use Rattle.mc_reply.specs.declared.stats.Stat.{Stat}
use Rattle.mc_reply.specs.declared.stats.Stat.TheVariants.{Gets, Sets, Hits, Misses, Items}
use Rattle.mc_reply.specs.Line.{line, unless, too_large}
use Rattle.mc_reply.specs.MetaText.{has_quiet_letter, about_text, marks_answer}
use Rattle.mc_reply.specs.StatsText.{stat_line, sum_in, sum_line, stats_text}
use Rattle.mc_reply.specs.Text.{says_text, text, fixed_line, error_line, item_text, items_text}
use Rattle.mc_allows.specs.declared.said.Said.TheVariants.{Replied}
use Rattle.mc_answers.specs.Answer.{IsUnless, IsFixedLine, IsCounts, IsListing, IsMarked, IsTextOf, IsAnswer, found_items}
use Rattle.mc_answers.specs.Cut.{is_no_feed}
use Rattle.mc_answers.specs.Kinds.{IsLineWith, IsErrorLine, IsMissLine}
use Rattle.mc_answers.specs.Said.{IsOne, MaySay, FitsCommand, all_replied}
use Rattle.mc_answers.proofs.MarkLemmas.{line_is}
use Rattle.mc_answers.proofs.NumberLemmas.{append_passes, decimal_no_feed}
use Rattle.judge_laws.specs.Profile.{said_by}

-- ---- lines

unless_is : (quiet : Bool) (IsText : List ℕ → Type 0) (line : List ℕ) → IsText line → IsUnless quiet IsText (unless quiet line)
unless_is true IsText line is = refl
unless_is false IsText line is = is

error_is : (fault : ErrorLine) → IsErrorLine (error_line fault)
error_is Unknown = inl (record { line = line_is (codes "ERROR") refl; rest = []; is = refl })
error_is BadLine = inr (inl (record { line = line_is (codes "CLIENT_ERROR bad command line format") refl; rest = codes " bad command line format"; is = refl }))
error_is BadDelta = inr (inl (record { line = line_is (codes "CLIENT_ERROR invalid numeric delta argument") refl; rest = codes " invalid numeric delta argument"; is = refl }))
error_is LongLine = inr (inl (record { line = line_is (codes "CLIENT_ERROR line too long") refl; rest = codes " line too long"; is = refl }))
error_is BadChunk = inr (inl (record { line = line_is (codes "CLIENT_ERROR bad data chunk") refl; rest = codes " bad data chunk"; is = refl }))
error_is TooLarge = inr (inr (record { line = line_is too_large refl; rest = codes " object too large for cache"; is = refl }))

fixed_is : (fixed : Fixed) → IsFixedLine fixed (fixed_line fixed)
fixed_is the_version = record { line = line_is (codes "VERSION zygos-1.0") refl; rest = codes "zygos-1.0"; is = refl }
fixed_is is_done = refl
fixed_is does_noop = refl
fixed_is (has_fault fault) = error_is fault

-- ---- counts

-- a name, a space and a number, as a line of counts
counted : (name : List ℕ) (number : ℕ) → list_all is_no_feed name ≡ true → IsLineWith (codes "STAT ") (line (codes "STAT " ++ (name ++ (codes " " ++ decimal number))))
counted name number inner = record {
  line = line_is (codes "STAT " ++ (name ++ (codes " " ++ decimal number)))
      (append_passes is_no_feed (codes "STAT ") (name ++ (codes " " ++ decimal number)) refl
      (append_passes is_no_feed name (codes " " ++ decimal number) inner (append_passes is_no_feed (codes " ") (decimal number) refl (decimal_no_feed number))));
  rest = name ++ (codes " " ++ decimal number);
  is = refl;
}

stat_is : (stat : Stat) (number : ℕ) → IsLineWith (codes "STAT ") (stat_line stat number)
stat_is Gets number = counted (codes "cmd_get") number refl
stat_is Sets number = counted (codes "cmd_set") number refl
stat_is Hits number = counted (codes "get_hits") number refl
stat_is Misses number = counted (codes "get_misses") number refl
stat_is Items number = counted (codes "curr_items") number refl

joined_five : (a b c d e end : List ℕ) → a ++ (b ++ (c ++ (d ++ (e ++ end)))) ≡ concat (a ∷ b ∷ c ∷ d ∷ e ∷ []) ++ end
joined_five a b c d e end = simp append_assoc

counts_are : (replies : List CallReply) → IsCounts (stats_text replies)
counts_are replies = record {
  items = sum_line Gets replies ∷ sum_line Sets replies ∷ sum_line Hits replies ∷ sum_line Misses replies ∷ sum_line Items replies ∷ [];
  last = line (codes "END");
  each = (stat_is Gets (sum_in Gets replies), (stat_is Sets (sum_in Sets replies), (stat_is Hits (sum_in Hits replies), (stat_is Misses (sum_in Misses replies), (stat_is Items (sum_in Items replies), tt)))));
  end = refl;
  is = joined_five (sum_line Gets replies) (sum_line Sets replies) (sum_line Hits replies) (sum_line Misses replies) (sum_line Items replies) (line (codes "END"));
}

-- ---- items

items_are : (asked : Bool) (keys : List (List ℕ)) (replies : List CallReply) → items_text asked keys replies ≡ concat (found_items asked keys (all_replied replies))
items_are asked [] replies = refl
items_are asked (key ∷ keys) [] = refl
items_are asked (key ∷ keys) (Hit flags unique value ∷ replies) = ap (λ (l : List ℕ). item_text asked key (Hit flags unique value) ++ l) (items_are asked keys replies)
items_are asked (key ∷ keys) (reply ∷ replies) = items_are asked keys replies

listing_is : (asked : Bool) (keys : List (List ℕ)) (replies : List CallReply) → IsListing (found_items asked keys (all_replied replies)) (items_text asked keys replies ++ line (codes "END"))
listing_is asked keys replies = record {
  items = found_items asked keys (all_replied replies);
  order = IsPermutation-refl (found_items asked keys (all_replied replies));
  is = ap (λ (l : List ℕ). l ++ line (codes "END")) (items_are asked keys replies);
}

-- ---- the one reply

reply_is : (call : Call) (quiet : Bool) (replies : List CallReply) → IsOne (MaySay call) (all_replied replies) → IsTextOf (says_reply quiet) (all_replied replies) (says_text (says_reply quiet) replies)
reply_is call true replies one = refl
reply_is call false [] one = absurd one
reply_is call false (reply ∷ []) one = refl
reply_is call false (reply ∷ next ∷ replies) one = absurd one

marked_is : (about : About) (key letters : List ℕ) (reply : CallReply) → IsMarked about key letters (about_text about key letters reply) (Replied reply)
marked_is a_found key letters Miss = unless_is (has_quiet_letter letters) (IsMissLine key) (line (codes "EN")) (inl refl)
marked_is a_found key letters reply = refl
marked_is a_stored key letters reply = refl
marked_is a_removed key letters reply = refl

marks_are : (call : Call) (about : About) (key letters : List ℕ) (replies : List CallReply) → IsOne (MaySay call) (all_replied replies)
    → IsTextOf (says_marks about key letters) (all_replied replies) (marks_answer about key letters replies)
marks_are call about key letters [] one = absurd one
marks_are call about key letters (reply ∷ []) one = marked_is about key letters reply
marks_are call about key letters (reply ∷ next ∷ replies) one = absurd one

-- ---- commands

-- the text of a command with replies that fit is an answer, if this is what was said
pub text_is_answer : (command : Command) (replies : List CallReply) → FitsCommand command (said_by command replies) → IsAnswer command (said_by command replies) (text command replies)
unfolding text
text_is_answer (Store verb key flags value quiet) replies fit = record { fit = fit; text = reply_is (stored_by verb key flags value) quiet replies fit }
text_is_answer (Cas key flags unique value quiet) replies fit = record { fit = fit; text = reply_is (Calls.Cas flags key unique value) quiet replies fit }
text_is_answer (Get keys asked) replies fit = record { fit = fit; text = listing_is asked keys replies }
text_is_answer (Delete key quiet) replies fit = record { fit = fit; text = reply_is (Calls.Delete key) quiet replies fit }
text_is_answer (Count key up amount quiet) replies fit = record { fit = fit; text = reply_is (counted_by up key amount) quiet replies fit }
text_is_answer Version replies fit = record { fit = fit; text = fixed_is the_version }
text_is_answer Stats replies fit = record { fit = fit; text = counts_are replies }
text_is_answer (Verbosity quiet) replies fit = record { fit = fit; text = unless_is quiet (IsFixedLine is_done) (fixed_line is_done) refl }
text_is_answer (Flush quiet) replies fit = record { fit = fit; text = unless_is quiet (IsFixedLine is_done) (fixed_line is_done) refl }
text_is_answer (Fault fault quiet) replies fit = record { fit = fit; text = unless_is quiet (IsFixedLine (has_fault fault)) (error_line fault) (error_is fault) }
text_is_answer (Meta Metas.Noop) replies fit = record { fit = fit; text = refl }
text_is_answer (Meta (Metas.Get key letters)) replies fit = record { fit = fit; text = marks_are (Calls.Get key) a_found key letters replies fit }
text_is_answer (Meta (Metas.Set key call letters)) replies fit = record { fit = fit; text = marks_are call a_stored key letters replies fit }
text_is_answer (Meta (Metas.Delete key letters)) replies fit = record { fit = fit; text = marks_are (Calls.Delete key) a_removed key letters replies fit }
