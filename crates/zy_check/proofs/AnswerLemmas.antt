-- The replies of a command's entries.
use Rattle.std.specs.Prelude.{All}
use Rattle.std.specs.List.{slice_get}
use Rattle.std.proofs.Common.{◌≡◌, ◌≢◌, ℕ, ◌+◌, ◌<◌, ◌≤◌, List, [], ◌∷◌, ◌++◌, length, take, drop, map, Some, refl, sym, ap, ◌∙◌, subst, arith}
use Rattle.std.proofs.Math.Seq.{take-append_seam, drop-append_seam}
use Rattle.std.proofs.lemmas.List.{append-nil, map-append, take-map, drop-map, take-append-drop}
use Rattle.std.proofs.lemmas.List.Elements.{All-nil, All-cons, All-head, All-tail, All-append}
use Rattle.mc_calls.specs.declared.call_reply.CallReply.{CallReply}
use Rattle.mc_calls.specs.declared.entry.Entry.{Entry}
use Rattle.mc_calls.specs.Replies.{replies_at}
use Rattle.mc_calls.proofs.EntryLemmas.{replies_at-here, replies_at-other, replies_at-append}
use Rattle.mc_parse.specs.declared.command.Command.{Command}
use Rattle.mc_parse.specs.declared.shard_call.ShardCall.{ShardCall}
use Rattle.mc_parse.specs.Calls.{Due, due, due_at, due_from, due_of, dues_of, tag_of, tagged, calls_of}
use Rattle.mc_parse.proofs.CallLemmas.{due-append, length-tagged}
use Rattle.zy_check.proofs.ListLemmas.{get_drop, take_one}

-- ---- calls of other commands

-- the call is of another command
abbrev IsOther : ℕ → Due → Type 0
IsOther index d = d.tag.index ≢ index

tagged_other : (conn index part : ℕ) (calls : List ShardCall) (other : ℕ) → index ≢ other → All (IsOther other) (tagged conn index part calls)
tagged_other conn index part [] other apart = All-nil (IsOther other)
tagged_other conn index part (call ∷ calls) other apart =
    All-cons (IsOther other) (record { tag = tag_of conn index part; call = call }) (tagged conn index (part + 1) calls) apart (tagged_other conn index (part + 1) calls other apart)

due_from_other : (shards conn first : ℕ) (commands : List Command) (other : ℕ) → ((k : ℕ) → first ≤ k → k < first + length commands → k ≢ other)
    → All (IsOther other) (due_from shards conn first commands)
due_from_other shards conn first [] other apart = All-nil (IsOther other)
due_from_other shards conn first (command ∷ commands) other apart =
    All-append (IsOther other) (due_at shards conn first command) (due_from shards conn (first + 1) commands)
    (tagged_other conn first 0 (calls_of shards command) other (apart first (omega arith) (omega arith)))
    (due_from_other shards conn (first + 1) commands other (λ k low high. apart k (omega arith) (omega arith)))

replies_none : (index : ℕ) (es : List Entry) → All (IsOther index) (dues_of es) → replies_at index es ≡ []
replies_none index [] others = refl
replies_none index (e ∷ es) others =
    replies_at-other index e es (All-head (IsOther index) (due_of e) (dues_of es) others) ∙ replies_none index es (All-tail (IsOther index) (due_of e) (dues_of es) others)

-- ---- calls of the command

-- the reply in an entry
abbrev pub reply_in : Entry → CallReply
reply_in e = e.reply

replies_all : (conn index part : ℕ) (es : List Entry) (calls : List ShardCall) → dues_of es ≡ tagged conn index part calls → replies_at index es ≡ map reply_in es
replies_all conn index part [] calls is = refl
replies_all conn index part (e ∷ es) [] is = absurd (cc)
replies_all conn index part (e ∷ es) (call ∷ calls) is =
    let head : due_of e ≡ record { tag = tag_of conn index part; call = call } = cc in
    let tail : dues_of es ≡ tagged conn index (part + 1) calls = cc in
    replies_at-here index e es (ap (λ (d : Due). d.tag.index) head) ∙ ap (λ (l : List CallReply). e.reply ∷ l) (replies_all conn index (part + 1) es calls tail)

-- ---- one further reply

-- the replies of entries from a place on, and then one further reply
pub replies_more : (own : List Entry) (from : ℕ) (e : Entry) (replies : List CallReply) (reply : CallReply) → slice_get own (from + length replies) ≡ Some e → reply ≡ e.reply
    → replies ≡ map reply_in (take (length replies) (drop from own)) → replies ++ reply ∷ [] ≡ map reply_in (take (length replies + 1) (drop from own))
replies_more own from e replies reply is same are =
    let there : slice_get (drop from own) (length replies) ≡ Some e = get_drop from own (length replies) ∙ is in
    (λ i. are i ++ same i ∷ []) ∙ sym (ap (map reply_in) (take_one (drop from own) (length replies) e there) ∙ map-append reply_in (take (length replies) (drop from own)) (e ∷ []))

-- ---- all replies of a command

module _ (own : List Entry) (shards conn : ℕ) (done : List Command) (command : Command) (later : List Command) (asked : dues_of own ≡ due shards conn (done ++ command ∷ later)) where
  abbrev calls : List ShardCall
  calls = calls_of shards command

  abbrev front : List Due
  front = due shards conn done

  abbrev here : List Due
  here = tagged conn (length done) 0 calls

  abbrev behind : List Due
  behind = due_from shards conn (length done + 1) later

  whole : dues_of own ≡ front ++ (here ++ behind)
  whole = asked ∙ due-append shards conn done (command ∷ later)

  size_here : length calls ≡ length here
  size_here = sym (length-tagged conn (length done) 0 calls)

  abbrev mine : List Entry
  mine = take (length calls) (drop (length front) own)

  abbrev rest : List Entry
  rest = drop (length calls) (drop (length front) own)

  dues_first : dues_of (take (length front) own) ≡ front
  dues_first = sym (take-map due_of (length front) own) ∙ ap (take (length front)) whole ∙ take-append_seam front (here ++ behind)

  dues_behind : dues_of (drop (length front) own) ≡ here ++ behind
  dues_behind = sym (drop-map due_of (length front) own) ∙ ap (drop (length front)) whole ∙ drop-append_seam front (here ++ behind)

  dues_mine : dues_of mine ≡ here
  dues_mine =
      sym (take-map due_of (length calls) (drop (length front) own)) ∙ (λ i. take (size_here i) (dues_behind i)) ∙ take-append_seam here behind

  dues_rest : dues_of rest ≡ behind
  dues_rest =
      sym (drop-map due_of (length calls) (drop (length front) own)) ∙ (λ i. drop (size_here i) (dues_behind i)) ∙ drop-append_seam here behind

  -- the replies of its entries are those with its index
  mine_replies : map reply_in mine ≡ replies_at (length done) own
  mine_replies =
      let index = length done in
      let none_first : replies_at index (take (length front) own) ≡ [] = replies_none index (take (length front) own)
      (subst (All (IsOther index)) (sym dues_first) (due_from_other shards conn 0 done index (λ k low high. omega arith))) in
      let none_rest : replies_at index rest ≡ [] = replies_none index rest
      (subst (All (IsOther index)) (sym dues_rest) (due_from_other shards conn (index + 1) later index (λ k low high. omega arith))) in
      let all_mine = replies_all conn index 0 mine calls dues_mine in
      sym (ap (replies_at index) (sym (take-append-drop (length front) own)) ∙ replies_at-append index (take (length front) own) (drop (length front) own)
      ∙ ap (λ (l : List CallReply). l ++ replies_at index (drop (length front) own)) none_first
      ∙ ap (replies_at index) (sym (take-append-drop (length calls) (drop (length front) own))) ∙ replies_at-append index mine rest
      ∙ ap (λ (l : List CallReply). replies_at index mine ++ l) none_rest ∙ append-nil (replies_at index mine) ∙ all_mine)

  -- so these are the command's replies
  pub command_replies : (replies : List CallReply) → length replies ≡ length calls → replies ≡ map reply_in (take (length replies) (drop (length front) own)) → replies ≡ replies_at (length done) own
  command_replies replies all are = are ∙ ap (λ (n : ℕ). map reply_in (take n (drop (length front) own))) all ∙ mine_replies
