-- The texts of more commands, and of more entries.
use Rattle.std.proofs.Common.{◌≡◌, ◌≢◌, ℕ, zero, suc, ◌+◌, ◌≤◌, List, [], ◌∷◌, ◌++◌, length, take, refl, ap, ◌∙◌, arith}
use Rattle.mc_calls.specs.declared.call_reply.CallReply.{CallReply}
use Rattle.mc_calls.specs.declared.entry.Entry.{Entry}
use Rattle.mc_calls.specs.Replies.{replies_at}
use Rattle.mc_calls.proofs.EntryLemmas.{replies_at-push_other}
use Rattle.mc_parse.specs.declared.command.Command.{Command}
use Rattle.mc_reply.specs.Text.{text}
use Rattle.mc_reply.specs.Texts.{texts_from, texts_of}

-- the texts of further commands come after those of the commands before them
pub texts_from-append : (index : ℕ) (front commands : List Command) (entries : List Entry)
    → texts_from index (front ++ commands) entries ≡ texts_from index front entries ++ texts_from (index + length front) commands entries
texts_from-append index [] commands entries =
    let at : index ≡ index + length {A = Command} [] = omega arith in
    ap (λ (number : ℕ). texts_from number commands entries) at
texts_from-append index (first ∷ front) commands entries =
    let at : index + 1 + length front ≡ index + length (first ∷ front) = omega arith in
    ap (λ (more : List (List ℕ)). text first (replies_at index entries) ∷ more)
    (texts_from-append (index + 1) front commands entries ∙ ap (λ (number : ℕ). texts_from (index + 1) front entries ++ texts_from number commands entries) at)

-- the same from the first command on
pub texts_of-append : (front commands : List Command) (entries : List Entry)
    → texts_of (front ++ commands) entries ≡ texts_of front entries ++ texts_from (length front) commands entries
texts_of-append front commands entries =
    let at : 0 + length front ≡ length front = omega arith in
    texts_from-append 0 front commands entries ∙ ap (λ (number : ℕ). texts_of front entries ++ texts_from number commands entries) at

-- one further command
pub texts_of-more : (commands : List Command) (last : Command) (entries : List Entry)
    → texts_of (commands ++ last ∷ []) entries ≡ texts_of commands entries ++ text last (replies_at (length commands) entries) ∷ []
texts_of-more commands last entries = texts_of-append commands (last ∷ []) entries

-- each command has one text
pub length-texts_from : (index : ℕ) (commands : List Command) (entries : List Entry) → length (texts_from index commands entries) ≡ length commands
length-texts_from index [] entries = refl
length-texts_from index (command ∷ commands) entries = ap suc (length-texts_from (index + 1) commands entries)

-- an entry of a later command changes none of the first `count` texts
pub take-texts_from : (count index : ℕ) (commands : List Command) (entries : List Entry) (last : Entry) → index + count ≤ last.tag.index
    → take count (texts_from index commands (entries ++ last ∷ [])) ≡ take count (texts_from index commands entries)
take-texts_from zero index commands entries last later = refl
take-texts_from (suc count) index [] entries last later = refl
take-texts_from (suc count) index (command ∷ commands) entries last later =
    let other : last.tag.index ≢ index = omega arith in
    let rest = take-texts_from count (index + 1) commands entries last (omega arith) in
    ap (λ (replies : List CallReply). text command replies ∷ take count (texts_from (index + 1) commands (entries ++ last ∷ []))) (replies_at-push_other index entries last other)
    ∙ ap (λ (more : List (List ℕ)). text command (replies_at index entries) ∷ more) rest

-- the same from the first command on
pub take-texts_of : (count : ℕ) (commands : List Command) (entries : List Entry) (last : Entry) → count ≤ last.tag.index
    → take count (texts_of commands (entries ++ last ∷ [])) ≡ take count (texts_of commands entries)
take-texts_of count commands entries last later = take-texts_from count 0 commands entries last (omega arith)
