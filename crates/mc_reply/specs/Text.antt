-- The text that answers a command with its replies (docs/PROFILE.md, "Answers"; memcached's
-- protocol.txt).
use Rattle.std.specs.Prelude.{ℕ, Bool, true, false, List, [], ◌∷◌, ◌++◌, length, codes, decimal}
use Rattle.mc_calls.specs.declared.call_reply.CallReply.{CallReply}
use Rattle.mc_calls.specs.declared.call_reply.CallReply.TheVariants.{Miss, Hit, Stored, NotStored, Exists, NotFound}
use Rattle.mc_calls.specs.declared.call_reply.CallReply.TheVariants.{Deleted, Number, NotNumber, TooLarge, Flushed}
use Rattle.mc_calls.specs.declared.call_reply.CallReply.TheVariants.{Tally}
use Rattle.mc_parse.specs.declared.error_line.ErrorLine.{ErrorLine}
use Rattle.mc_parse.specs.declared.error_line.ErrorLine.TheVariants as Errors
use Rattle.mc_parse.specs.declared.command.Command.{Command}
use Rattle.mc_parse.specs.Saying.{Fixed, the_version, is_done, does_noop, has_fault}
use Rattle.mc_parse.specs.Saying.{Saying, says_reply, says_items, says_counts, says_line, says_marks}
use Rattle.mc_parse.specs.Deed.{says_of}
pub use Rattle.mc_reply.specs.Line.{line_end, line, too_large, unless}
use Rattle.mc_reply.specs.MetaText.{marks_answer}
use Rattle.mc_reply.specs.StatsText.{stats_text}

-- ---- lines

-- the line of a fault
abbrev pub error_line : ErrorLine → List ℕ
error_line Errors.Unknown = line (codes "ERROR")
error_line Errors.BadLine = line (codes "CLIENT_ERROR bad command line format")
error_line Errors.BadDelta = line (codes "CLIENT_ERROR invalid numeric delta argument")
error_line Errors.LongLine = line (codes "CLIENT_ERROR line too long")
error_line Errors.BadChunk = line (codes "CLIENT_ERROR bad data chunk")
error_line Errors.TooLarge = line too_large

-- a line that does not depend on a reply
abbrev pub fixed_line : Fixed → List ℕ
fixed_line the_version = line (codes "VERSION zygos-1.0")
fixed_line is_done = line (codes "OK")
fixed_line does_noop = line (codes "MN")
fixed_line (has_fault fault) = error_line fault

-- the line of a reply; those of retrievals and of `flush_all` are defined elsewhere
abbrev pub reply_line : CallReply → List ℕ
reply_line Stored = line (codes "STORED")
reply_line NotStored = line (codes "NOT_STORED")
reply_line Exists = line (codes "EXISTS")
reply_line NotFound = line (codes "NOT_FOUND")
reply_line Deleted = line (codes "DELETED")
reply_line (Number number) = line (decimal number)
reply_line NotNumber = line (codes "CLIENT_ERROR cannot increment or decrement non-numeric value")
reply_line TooLarge = line too_large
reply_line Miss = []
reply_line (Hit flags unique value) = []
reply_line Flushed = []
reply_line (Tally gets sets hits misses items) = []

-- the line of the one reply
abbrev pub only_line : List CallReply → List ℕ
only_line (reply ∷ []) = reply_line reply
only_line replies = []

-- ---- items

-- the key, the flags, and the length of the value
abbrev pub head_text : List ℕ → ℕ → List ℕ → List ℕ
head_text key flags value =
    codes "VALUE " ++ key ++ codes " " ++ decimal flags ++ codes " " ++ decimal (length value)

-- the CAS value
abbrev pub unique_text : ℕ → List ℕ
unique_text unique = codes " " ++ decimal unique

-- the first line of an item, with its CAS value if CAS values were asked for
abbrev pub item_line : Bool → List ℕ → ℕ → ℕ → List ℕ → List ℕ
item_line true key flags unique value = line (head_text key flags value ++ unique_text unique)
item_line false key flags unique value = line (head_text key flags value)

-- the text of a key: nothing for a miss, and two lines for an item
abbrev pub item_text : Bool → List ℕ → CallReply → List ℕ
item_text asked key (Hit flags unique value) =
    item_line asked key flags unique value ++ line value
item_text asked key reply = []

-- the texts of the keys, in the order asked
abbrev pub items_text : Bool → List (List ℕ) → List CallReply → List ℕ
items_text asked (key ∷ keys) (reply ∷ replies) =
    item_text asked key reply ++ items_text asked keys replies
items_text asked keys replies = []

-- ---- commands

-- the text of an answer with the replies
abbrev pub says_text : Saying → List CallReply → List ℕ
says_text (says_reply quiet) replies = unless quiet (only_line replies)
says_text (says_items keys unique) replies = items_text unique keys replies ++ line (codes "END")
says_text says_counts replies = stats_text replies
says_text (says_line fixed quiet) replies = unless quiet (fixed_line fixed)
says_text (says_marks about key letters) replies = marks_answer about key letters replies

-- the text of a command with its replies
unfoldable pub text : Command → List CallReply → List ℕ
text command replies = says_text (says_of command) replies
