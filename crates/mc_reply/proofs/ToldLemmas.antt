-- The texts of plain commands show no unique.
use Rattle.std.proofs.Common.{◌≡◌, ℕ, ◌+◌, Bool, true, false, cond, List, [], ◌∷◌, ◌++◌, map, refl, ap, sym, ◌∙◌}
use Rattle.std.specs.Prelude.{◌==◌, ◌||◌, filter, codes, decimal, if◌then◌else◌, Some}
use Rattle.std.specs.List.{AllByRecursion}
use Rattle.std.proofs.lemmas.List.Sums.{sum_by-cons}
use Rattle.mc_calls.specs.declared.call_reply.CallReply.{CallReply}
use Rattle.mc_calls.specs.declared.call_reply.CallReply.TheVariants.{Hit}
use Rattle.mc_calls.specs.declared.entry.Entry.{Entry}
use Rattle.mc_calls.specs.Replies.{replies_at}
use Rattle.mc_parse.specs.declared.command.Command.{Command}
use Rattle.mc_parse.specs.Saying.{About, a_found, a_stored, a_removed}
use Rattle.mc_parse.specs.Saying.{Saying, says_reply, says_items, says_counts, says_line, says_marks}
use Rattle.mc_parse.specs.Deed.{says_of}
use Rattle.mc_reply.specs.declared.stats.Stat.{Stat}
use Rattle.mc_reply.specs.declared.stats.Stat.TheVariants.{Gets, Sets, Hits, Misses, Items}
use Rattle.mc_reply.specs.StatsText.{stat_in, sum_in, stat_line, stats_text}
use Rattle.mc_reply.specs.Text.{text, says_text, line, reply_line, only_line, item_text, items_text, unless}
use Rattle.mc_reply.specs.Texts.{texts_from}
use Rattle.mc_reply.specs.MetaText.{found_of, mark_text, marks_text, marked, hit_text, get_text, set_text, delete_text, about_text, marks_answer}
use Rattle.mc_meta.specs.Flags.{is_among}
use Rattle.mc_parse.specs.Plain.{IsPlain, HidesUniques}
use Rattle.mc_calls.specs.Told.{told, told_of, all_told}

-- ---- one command

line-told : (reply : CallReply) → reply_line (told reply) ≡ reply_line reply
line-told (Hit flags unique value) = refl
line-told reply = refl

only_line-told : (replies : List CallReply) → only_line (map told replies) ≡ only_line replies
only_line-told [] = refl
only_line-told (reply ∷ []) = line-told reply
only_line-told (reply ∷ next ∷ replies) = refl

item-told : (key : List ℕ) (reply : CallReply) → item_text false key (told reply) ≡ item_text false key reply
item-told key (Hit flags unique value) = refl
item-told key reply = refl

items-told : (keys : List (List ℕ)) (replies : List CallReply) → items_text false keys (map told replies) ≡ items_text false keys replies
items-told [] [] = refl
items-told [] (reply ∷ replies) = refl
items-told (key ∷ keys) [] = refl
items-told (key ∷ keys) (reply ∷ replies) =
    ap (λ (item : List ℕ). item ++ items_text false keys (map told replies)) (item-told key reply)
    ∙ ap (λ (items : List ℕ). item_text false key reply ++ items) (items-told keys replies)

-- ---- one meta command

mark-told : (key value : List ℕ) (flags unique letter : ℕ) → (letter == 99) ≡ false → mark_text key (Some (found_of flags 0 value)) letter ≡ mark_text key (Some (found_of flags unique value)) letter
mark-told key value flags unique letter other = rw other refl

neither : (a b : Bool) → a || b ≡ false → (a ≡ false) × (b ≡ false)
neither false b is = (refl, is)
neither true b is = absurd (cc)

marks-told : (key value : List ℕ) (flags unique : ℕ) (letters : List ℕ) → is_among letters 99 ≡ false → marks_text key (Some (found_of flags 0 value)) letters ≡ marks_text key (Some (found_of flags unique value)) letters
marks-told key value flags unique [] other = refl
marks-told key value flags unique (letter ∷ letters) other =
    let parts = neither (letter == 99) (is_among letters 99) other in
    ap (λ (mark : List ℕ). mark ++ marks_text key (Some (found_of flags 0 value)) letters) (mark-told key value flags unique letter parts.0)
    ∙ ap (λ (marks : List ℕ). mark_text key (Some (found_of flags unique value)) letter ++ marks) (marks-told key value flags unique letters parts.1)

hit-told : (key value letters : List ℕ) (flags unique : ℕ) → is_among letters 99 ≡ false → hit_text key letters (found_of flags 0 value) value ≡ hit_text key letters (found_of flags unique value) value
hit-told key value letters flags unique other = go (is_among letters 118)
  where
    head : List ℕ
    head = codes "VA " ++ decimal (found_of flags unique value).bytes

    go : (shown : Bool) → (if shown then marked head key (Some (found_of flags 0 value)) letters ++ line value else marked (codes "HD") key (Some (found_of flags 0 value)) letters)
        ≡ (if shown then marked head key (Some (found_of flags unique value)) letters ++ line value else marked (codes "HD") key (Some (found_of flags unique value)) letters)
    go true = ap (λ (marks : List ℕ). line (head ++ marks) ++ line value) (marks-told key value flags unique letters other)
    go false = ap (λ (marks : List ℕ). line (codes "HD" ++ marks)) (marks-told key value flags unique letters other)

get-told : (key letters : List ℕ) (reply : CallReply) → is_among letters 99 ≡ false → get_text key letters (told reply) ≡ get_text key letters reply
get-told key letters (Hit flags unique value) other = hit-told key value letters flags unique other
get-told key letters reply other = refl

set-told : (key marks : List ℕ) (reply : CallReply) → set_text key marks (told reply) ≡ set_text key marks reply
set-told key marks (Hit flags unique value) = refl
set-told key marks reply = refl

delete-told : (key flags : List ℕ) (reply : CallReply) → delete_text key flags (told reply) ≡ delete_text key flags reply
delete-told key flags (Hit item_flags unique value) = refl
delete-told key flags reply = refl

about-told : (about : About) (key letters : List ℕ) (reply : CallReply) → HidesUniques (says_marks about key letters) → about_text about key letters (told reply) ≡ about_text about key letters reply
about-told a_found key letters reply hides = get-told key letters reply hides
about-told a_stored key letters reply hides = set-told key letters reply
about-told a_removed key letters reply hides = delete-told key letters reply

answer-told : (about : About) (key letters : List ℕ) (replies : List CallReply) → HidesUniques (says_marks about key letters) → marks_answer about key letters (map told replies) ≡ marks_answer about key letters replies
answer-told about key letters [] hides = refl
answer-told about key letters (reply ∷ []) hides = about-told about key letters reply hides
answer-told about key letters (reply ∷ next ∷ replies) hides = refl

-- ---- the counts

stat-told : (stat : Stat) (reply : CallReply) → stat_in stat (told reply) ≡ stat_in stat reply
stat-told Gets (Hit flags unique value) = refl
stat-told Gets reply = refl
stat-told Sets (Hit flags unique value) = refl
stat-told Sets reply = refl
stat-told Hits (Hit flags unique value) = refl
stat-told Hits reply = refl
stat-told Misses (Hit flags unique value) = refl
stat-told Misses reply = refl
stat-told Items (Hit flags unique value) = refl
stat-told Items reply = refl

sum-told : (stat : Stat) (replies : List CallReply) → sum_in stat (map told replies) ≡ sum_in stat replies
sum-told stat [] = refl
sum-told stat (reply ∷ replies) =
    sum_by-cons (stat_in stat) (told reply) (map told replies)
    ∙ ap (λ (n : ℕ). n + sum_in stat (map told replies)) (stat-told stat reply)
    ∙ ap (λ (n : ℕ). stat_in stat reply + n) (sum-told stat replies)
    ∙ sym (sum_by-cons (stat_in stat) reply replies)

-- the lines of five numbers, and the end
abbrev lines_of : ℕ → ℕ → ℕ → ℕ → ℕ → List ℕ
lines_of gets sets hits misses items =
    stat_line Gets gets ++ (stat_line Sets sets ++ (stat_line Hits hits ++ (stat_line Misses misses ++ (stat_line Items items ++ line (codes "END")))))

stats-told : (replies : List CallReply) → stats_text (map told replies) ≡ stats_text replies
stats-told replies =
    let seen = map told replies in
    ap (λ (n : ℕ). lines_of n (sum_in Sets seen) (sum_in Hits seen) (sum_in Misses seen) (sum_in Items seen)) (sum-told Gets replies)
    ∙ ap (λ (n : ℕ). lines_of (sum_in Gets replies) n (sum_in Hits seen) (sum_in Misses seen) (sum_in Items seen)) (sum-told Sets replies)
    ∙ ap (λ (n : ℕ). lines_of (sum_in Gets replies) (sum_in Sets replies) n (sum_in Misses seen) (sum_in Items seen)) (sum-told Hits replies)
    ∙ ap (λ (n : ℕ). lines_of (sum_in Gets replies) (sum_in Sets replies) (sum_in Hits replies) n (sum_in Items seen)) (sum-told Misses replies)
    ∙ ap (λ (n : ℕ). lines_of (sum_in Gets replies) (sum_in Sets replies) (sum_in Hits replies) (sum_in Misses replies) n) (sum-told Items replies)

-- ---- one command of any kind

says-told : (says : Saying) (replies : List CallReply) → HidesUniques says → says_text says (map told replies) ≡ says_text says replies
says-told (says_reply quiet) replies hides = ap (unless quiet) (only_line-told replies)
says-told (says_items keys true) replies hides = absurd hides
says-told (says_items keys false) replies hides = ap (λ (items : List ℕ). items ++ line (codes "END")) (items-told keys replies)
says-told says_counts replies hides = stats-told replies
says-told (says_line fixed quiet) replies hides = refl
says-told (says_marks about key letters) replies hides = answer-told about key letters replies hides

-- the text of a plain command is the text of its replies without their uniques
pub text-told : (command : Command) (replies : List CallReply) → IsPlain command → text command (map told replies) ≡ text command replies
unfolding text
text-told command replies plain = says-told (says_of command) replies plain.1

-- ---- all commands

replies_at-told : (index : ℕ) (es : List Entry) → replies_at index (all_told es) ≡ map told (replies_at index es)
replies_at-told index [] = refl
replies_at-told index (e ∷ es) = go (e.tag.index == index) e (filter (λ x. x.tag.index == index) (all_told es)) (filter (λ x. x.tag.index == index) es) (replies_at-told index es)
  where
    go : (b : Bool) (e : Entry) (xs ys : List Entry) → map (λ (x : Entry). x.reply) xs ≡ map told (map (λ (x : Entry). x.reply) ys)
        → map (λ (x : Entry). x.reply) (cond b (told_of e ∷ xs) xs) ≡ map told (map (λ (x : Entry). x.reply) (cond b (e ∷ ys) ys))
    go true e xs ys is = ap (λ (l : List CallReply). told e.reply ∷ l) is
    go false e xs ys is = is

-- the texts of plain commands are the texts of their entries without uniques
pub texts-told : (index : ℕ) (commands : List Command) (es : List Entry) → AllByRecursion IsPlain commands → texts_from index commands (all_told es) ≡ texts_from index commands es
texts-told index [] es plain = refl
texts-told index (command ∷ commands) es plain =
    ap (λ (t : List ℕ). t ∷ texts_from (index + 1) commands (all_told es)) (ap (text command) (replies_at-told index es) ∙ text-told command (replies_at index es) plain.0)
    ∙ ap (λ (l : List (List ℕ)). text command (replies_at index es) ∷ l) (texts-told (index + 1) commands es plain.1)
