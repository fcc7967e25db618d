-- How many bytes the text of a command has.
use Rattle.std.specs.Prelude.{◌==◌, codes, decimal, if◌then◌else◌, Option, None, Some}
use Rattle.std.specs.List.{AllByRecursion}
use Rattle.std.proofs.Common.{◌≡◌, ℕ, ◌+◌, ◌*◌, ◌^◌, ◌<◌, ◌≤◌, Bool, true, false, List, [], ◌∷◌, ◌++◌, length, arith, length-append}
use Rattle.std.proofs.lemmas.Fmt.{length-decimal-le, length-decimal-le_wide}
use Rattle.std.proofs.lemmas.List.Sums.{sum_by-cons}
use Rattle.mc_calls.specs.declared.call_reply.CallReply.{CallReply}
use Rattle.mc_calls.specs.declared.call_reply.CallReply.TheVariants.{Miss, Hit, Stored, NotStored, Exists, NotFound, Deleted, Number, NotNumber, TooLarge, Flushed, Tally}
use Rattle.mc_calls.specs.Bounds.{IsKey, IsReply, FitsReply}
use Rattle.mc_parse.specs.declared.command.Command.{Command}
use Rattle.mc_parse.specs.declared.error_line.ErrorLine.{ErrorLine}
use Rattle.mc_parse.specs.declared.error_line.ErrorLine.TheVariants as Errors
use Rattle.mc_parse.specs.Saying.{Fixed, the_version, is_done, does_noop, has_fault, About, a_found, a_stored, a_removed}
use Rattle.mc_parse.specs.Saying.{Saying, says_reply, says_items, says_counts, says_line, says_marks}
use Rattle.mc_parse.specs.Deed.{says_of}
use Rattle.mc_parse.specs.Bounds.{IsShown, IsCommand}
use Rattle.mc_laws.proofs.WidthLemmas.{letters_in, width}
use Rattle.mc_meta.specs.Flags.{is_among}
use Rattle.mc_reply.specs.Line.{line, unless}
use Rattle.mc_reply.specs.MetaText.{found_of, item_mark, found_mark, mark_text, marks_text, marked, hit_text, get_text, set_text, delete_text, about_text, marks_answer, has_quiet_letter, value_letter}
use Rattle.mc_reply.specs.declared.stats.Stat.{Stat}
use Rattle.mc_reply.specs.declared.stats.Stat.TheVariants.{Gets, Sets, Hits, Misses, Items}
use Rattle.mc_reply.specs.StatsText.{stat_name, stat_in, sum_in, sum_line, stats_text}
use Rattle.mc_reply.specs.Text.{error_line, fixed_line, says_text, reply_line, only_line, item_text, items_text, text}
use Rattle.mc_reply.proofs.SizeLemmas.{eight_bytes, line_size, item_within}

-- a reply whose value and whose numbers are within their bounds
pub record IsSmall (reply : CallReply) : Type 0 where
  pub value : IsReply reply
  pub fits : FitsReply reply

-- what was found of an item
abbrev Of : {A : Type 0} → A → Type 0
Of {A} a = A

abbrev Found : Type 0
Found = Of (found_of 0 0 [])

-- ---- lines

four_parts : (a b c d : List ℕ) → length (a ++ b ++ c ++ d) ≡ length a + (length b + (length c + length d))
four_parts a b c d =
    omega (arith, length-append a (b ++ c ++ d), length-append b (c ++ d), length-append c d, length-append (a ++ b ++ c) d, length-append (a ++ b) c, length-append a b)

four_bytes : (n : ℕ) → n < 2 ^ 32 → length (decimal n) ≤ 10
four_bytes n few = length-decimal-le 10 n (omega arith) (omega (arith, few)) (omega (arith, few))

value_size : (value : List ℕ) → length value ≤ 1048576 → length (decimal (length value)) ≤ 7
value_size value few = length-decimal-le 7 (length value) (omega arith) (omega (arith, few)) (omega (arith, few))

unless_few : (quiet : Bool) (n : ℕ) (bytes : List ℕ) → length bytes ≤ n → length (unless quiet bytes) ≤ n
unless_few true n bytes few = omega arith
unless_few false n bytes few = few

reply_few : (reply : CallReply) → IsSmall reply → length (reply_line reply) ≤ 100
reply_few Stored small = omega arith
reply_few NotStored small = omega arith
reply_few Exists small = omega arith
reply_few NotFound small = omega arith
reply_few Deleted small = omega arith
reply_few (Number number) small = omega (arith, line_size (decimal number), eight_bytes number small.fits.0.1)
reply_few NotNumber small = omega arith
reply_few TooLarge small = omega arith
reply_few Miss small = omega arith
reply_few (Hit flags unique value) small = omega arith
reply_few Flushed small = omega arith
reply_few (Tally gets sets hits misses items) small = omega arith

only_few : (replies : List CallReply) → AllByRecursion IsSmall replies → length (only_line replies) ≤ 100
only_few [] small = omega arith
only_few (reply ∷ []) small = reply_few reply small.0
only_few (reply ∷ next ∷ replies) small = omega arith

error_few : (fault : ErrorLine) → length (error_line fault) ≤ 100
error_few Errors.Unknown = omega arith
error_few Errors.BadLine = omega arith
error_few Errors.BadDelta = omega arith
error_few Errors.LongLine = omega arith
error_few Errors.BadChunk = omega arith
error_few Errors.TooLarge = omega arith

-- ---- items

item_few : (asked : Bool) (key : List ℕ) (reply : CallReply) → IsKey key → IsSmall reply → length (item_text asked key reply) ≤ 2097152
item_few asked key (Hit flags unique value) is small =
    let short = is.1 in
    let most : length value ≤ 1048576 = small.value in
    let few : flags < 2 ^ 32 = small.fits.0.0 in
    omega (arith, item_within asked key flags unique value (omega (arith, few)) small.fits.0.1 (omega (arith, most)), short, most)
item_few asked key Miss is small = omega arith
item_few asked key Stored is small = omega arith
item_few asked key NotStored is small = omega arith
item_few asked key Exists is small = omega arith
item_few asked key NotFound is small = omega arith
item_few asked key Deleted is small = omega arith
item_few asked key (Number number) is small = omega arith
item_few asked key NotNumber is small = omega arith
item_few asked key TooLarge is small = omega arith
item_few asked key Flushed is small = omega arith
item_few asked key (Tally gets sets hits misses items) is small = omega arith

items_few : (asked : Bool) (keys : List (List ℕ)) (replies : List CallReply) → AllByRecursion IsKey keys → AllByRecursion IsSmall replies → length (items_text asked keys replies) ≤ 2097152 * length replies
items_few asked [] replies are small = omega arith
items_few asked (key ∷ keys) [] are small = omega arith
items_few asked (key ∷ keys) (reply ∷ replies) are small =
    omega (arith, length-append (item_text asked key reply) (items_text asked keys replies), item_few asked key reply are.0 small.0, items_few asked keys replies are.1 small.1)

-- ---- statistics

-- a number of a tally has at most 64 bits; another reply counts nothing
stat_few : (stat : Stat) (reply : CallReply) → IsSmall reply → stat_in stat reply ≤ 2 ^ 64
stat_few Gets (Tally gets sets hits misses items) small = let few = small.fits.1.0 in omega (arith, few)
stat_few Gets reply small = omega arith
stat_few Sets (Tally gets sets hits misses items) small = let few = small.fits.1.1 in omega (arith, few)
stat_few Sets reply small = omega arith
stat_few Hits (Tally gets sets hits misses items) small = let few = small.fits.1.2 in omega (arith, few)
stat_few Hits reply small = omega arith
stat_few Misses (Tally gets sets hits misses items) small = let few = small.fits.1.3 in omega (arith, few)
stat_few Misses reply small = omega arith
stat_few Items (Tally gets sets hits misses items) small = let few = small.fits.1.4 in omega (arith, few)
stat_few Items reply small = omega arith

sum_few : (stat : Stat) (replies : List CallReply) → AllByRecursion IsSmall replies → sum_in stat replies ≤ 2 ^ 64 * length replies
sum_few stat [] small = omega arith
sum_few stat (reply ∷ replies) small =
    omega (arith, sum_by-cons (stat_in stat) reply replies, stat_few stat reply small.0, sum_few stat replies small.1)

name_few : (stat : Stat) → length (stat_name stat) ≤ 10
name_few Gets = omega arith
name_few Sets = omega arith
name_few Hits = omega arith
name_few Misses = omega arith
name_few Items = omega arith

sum_line_few : (stat : Stat) (replies : List CallReply) → AllByRecursion IsSmall replies → length replies ≤ 1099511627776 → length (sum_line stat replies) ≤ 51
sum_line_few stat replies small few =
    let number = sum_in stat replies in
    let sum = sum_few stat replies small in
    let digits = length-decimal-le_wide 33 number (omega arith) (omega (arith, sum, few)) (omega (arith, sum, few)) in
    omega (
      arith,
      digits,
      name_few stat,
      four_parts (codes "STAT ") (stat_name stat) (codes " ") (decimal number),
      line_size (codes "STAT " ++ stat_name stat ++ codes " " ++ decimal number),
    )

stats_few : (replies : List CallReply) → AllByRecursion IsSmall replies → length replies ≤ 1099511627776 → length (stats_text replies) ≤ 300
stats_few replies small few =
    let end = line (codes "END") in
    let l1 = sum_line Gets replies in
    let l2 = sum_line Sets replies in
    let l3 = sum_line Hits replies in
    let l4 = sum_line Misses replies in
    let l5 = sum_line Items replies in
    omega (
      arith,
      length-append l1 (l2 ++ (l3 ++ (l4 ++ (l5 ++ end)))),
      length-append l2 (l3 ++ (l4 ++ (l5 ++ end))),
      length-append l3 (l4 ++ (l5 ++ end)),
      length-append l4 (l5 ++ end),
      length-append l5 end,
      sum_line_few Gets replies small few,
      sum_line_few Sets replies small few,
      sum_line_few Hits replies small few,
      sum_line_few Misses replies small few,
      sum_line_few Items replies small few,
    )

-- ---- meta commands

item_mark_few : (flags unique : ℕ) (value : List ℕ) (letter : ℕ) → flags < 2 ^ 32 → unique < 2 ^ 64 → length value ≤ 1048576 → length (item_mark (found_of flags unique value) letter) ≤ 252
item_mark_few flags unique value letter few fits most = go (letter == 102) (letter == 99) (letter == 115)
  where
    go : (f c s : Bool) → length (if f then codes " f" ++ decimal flags else if c then codes " c" ++ decimal unique else if s then codes " s" ++ decimal (length value) else []) ≤ 252
    go true c s = omega (arith, length-append (codes " f") (decimal flags), four_bytes flags few)
    go false true s = omega (arith, length-append (codes " c") (decimal unique), eight_bytes unique fits)
    go false false true = omega (arith, length-append (codes " s") (decimal (length value)), value_size value most)
    go false false false = omega arith

-- marks of items have few bytes
AreFew : Option Found → Type 0
AreFew found = (letter : ℕ) → length (found_mark found letter) ≤ 252

none_few : AreFew None
unfolding AreFew
none_few letter = omega arith

found_few : (flags unique : ℕ) (value : List ℕ) → flags < 2 ^ 32 → unique < 2 ^ 64 → length value ≤ 1048576 → AreFew (Some (found_of flags unique value))
unfolding AreFew
found_few flags unique value few fits most letter = item_mark_few flags unique value letter few fits most

mark_few : (key : List ℕ) (found : Option Found) (letter : ℕ) → length key ≤ 250 → AreFew found → length (mark_text key found letter) ≤ 252
unfolding AreFew
mark_few key found letter short few = go (letter == 107)
  where
    go : (b : Bool) → length (if b then codes " k" ++ key else found_mark found letter) ≤ 252
    go true = omega (arith, length-append (codes " k") key, short)
    go false = few letter

marks_few : (key : List ℕ) (found : Option Found) (letters : List ℕ) → length key ≤ 250 → AreFew found → length (marks_text key found letters) ≤ 252 * length letters
marks_few key found [] short few = omega arith
marks_few key found (letter ∷ letters) short few =
    omega (arith, length-append (mark_text key found letter) (marks_text key found letters), mark_few key found letter short few, marks_few key found letters short few)

marked_few : (code key : List ℕ) (found : Option Found) (letters : List ℕ) → length code ≤ 20 → length key ≤ 250 → AreFew found → length (marked code key found letters) ≤ 22 + 252 * length letters
marked_few code key found letters brief short few =
    omega (arith, line_size (code ++ marks_text key found letters), length-append code (marks_text key found letters), brief, marks_few key found letters short few)

hit_few : (key letters : List ℕ) (flags unique : ℕ) (value : List ℕ) → length key ≤ 250 → flags < 2 ^ 32 → unique < 2 ^ 64 → length value ≤ 1048576
    → length (hit_text key letters (found_of flags unique value) value) ≤ 1048600 + 252 * length letters
hit_few key letters flags unique value short few fits most = go (is_among letters value_letter)
  where
    head : List ℕ
    head = codes "VA " ++ decimal (length value)

    found : Option Found
    found = Some (found_of flags unique value)

    go : (b : Bool) → length (if b then marked (codes "VA " ++ decimal (length value)) key (Some (found_of flags unique value)) letters ++ line value else marked (codes "HD") key (Some (found_of flags unique value)) letters) ≤ 1048600 + 252 * length letters
    go true =
        let code = length-append (codes "VA ") (decimal (length value)) in
        let digits = value_size value most in
        omega (
          arith,
          most,
          line_size value,
          length-append (marked (codes "VA " ++ decimal (length value)) key (Some (found_of flags unique value)) letters) (line value),
          marked_few (codes "VA " ++ decimal (length value)) key (Some (found_of flags unique value)) letters (omega (arith, code, digits)) short (found_few flags unique value few fits most),
        )
    go false = omega (arith, marked_few (codes "HD") key (Some (found_of flags unique value)) letters (omega arith) short (found_few flags unique value few fits most))

get_few : (key letters : List ℕ) (reply : CallReply) → length key ≤ 250 → IsSmall reply → length (get_text key letters reply) ≤ 1048600 + 252 * length letters
get_few key letters (Hit flags unique value) short small = hit_few key letters flags unique value short small.fits.0.0 small.fits.0.1 small.value
get_few key letters Miss short small = omega (arith, unless_few (has_quiet_letter letters) 4 (line (codes "EN")) (omega arith))
get_few key letters reply short small = omega arith

set_few : (key letters : List ℕ) (reply : CallReply) → length key ≤ 250 → length (set_text key letters reply) ≤ 100 + 252 * length letters
set_few key letters Stored short =
    omega (arith, unless_few (has_quiet_letter letters) (22 + 252 * length letters) (marked (codes "HD") key None letters) (marked_few (codes "HD") key None letters (omega arith) short none_few))
set_few key letters NotStored short = omega (arith, marked_few (codes "NS") key None letters (omega arith) short none_few)
set_few key letters Exists short = omega (arith, marked_few (codes "EX") key None letters (omega arith) short none_few)
set_few key letters NotFound short = omega (arith, marked_few (codes "NF") key None letters (omega arith) short none_few)
set_few key letters TooLarge short = omega arith
set_few key letters reply short = omega arith

delete_few : (key letters : List ℕ) (reply : CallReply) → length key ≤ 250 → length (delete_text key letters reply) ≤ 100 + 252 * length letters
delete_few key letters Deleted short =
    omega (arith, unless_few (has_quiet_letter letters) (22 + 252 * length letters) (marked (codes "HD") key None letters) (marked_few (codes "HD") key None letters (omega arith) short none_few))
delete_few key letters NotFound short =
    omega (arith, unless_few (has_quiet_letter letters) (22 + 252 * length letters) (marked (codes "NF") key None letters) (marked_few (codes "NF") key None letters (omega arith) short none_few))
delete_few key letters reply short = omega arith

about_few : (about : About) (key letters : List ℕ) (reply : CallReply) → length key ≤ 250 → IsSmall reply → length (about_text about key letters reply) ≤ 1048600 + 252 * length letters
about_few a_found key letters reply short small = get_few key letters reply short small
about_few a_stored key letters reply short small = omega (arith, set_few key letters reply short)
about_few a_removed key letters reply short small = omega (arith, delete_few key letters reply short)

answer_few : (about : About) (key letters : List ℕ) (replies : List CallReply) → length key ≤ 250 → AllByRecursion IsSmall replies
    → length (marks_answer about key letters replies) ≤ 252 * length letters + 2097152 * length replies
answer_few about key letters [] short small = omega arith
answer_few about key letters (reply ∷ []) short small = omega (arith, about_few about key letters reply short small.0)
answer_few about key letters (reply ∷ next ∷ replies) short small = omega arith

-- ---- commands

fixed_few : (fixed : Fixed) → length (fixed_line fixed) ≤ 100
fixed_few the_version = omega arith
fixed_few is_done = omega arith
fixed_few does_noop = omega arith
fixed_few (has_fault fault) = error_few fault

says_few : (says : Saying) (replies : List CallReply) → IsShown says → AllByRecursion IsSmall replies → length replies ≤ 1099511627776
    → length (says_text says replies) ≤ 300 + 252 * letters_in says + 2097152 * length replies
says_few (says_reply quiet) replies is small few = omega (arith, unless_few quiet 100 (only_line replies) (only_few replies small))
says_few (says_items keys unique) replies is small few = omega (arith, length-append (items_text unique keys replies) (line (codes "END")), items_few unique keys replies is small)
says_few says_counts replies is small few = omega (arith, stats_few replies small few)
says_few (says_line fixed quiet) replies is small few = omega (arith, unless_few quiet 100 (fixed_line fixed) (fixed_few fixed))
says_few (says_marks about key letters) replies is small few = omega (arith, answer_few about key letters replies is.1 small)

-- the text of a command has at most 2 MiB for each reply beside what its keys and its letters take
pub text_few : (command : Command) (replies : List CallReply) → IsCommand command → AllByRecursion IsSmall replies → length replies ≤ 1099511627776
    → length (text command replies) ≤ 300 + 252 * width command + 2097152 * length replies
unfolding text
text_few command replies is small few = omega (arith, says_few (says_of command) replies is.1 small few)
