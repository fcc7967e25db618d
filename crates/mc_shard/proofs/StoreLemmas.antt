-- A shard after a set, and after any call whose entry was appended.
use Rattle.std.proofs.Common.{◌≡◌, ℕ, ◌<◌, ◌≤◌, List, [], ◌∷◌, ◌++◌, true, false, refl, sym, ap, ◌∙◌, arith}
use Rattle.std.specs.Prelude.{Option, Some, None}
use Rattle.mc_calls.specs.declared.item.Item.{Item}
use Rattle.mc_calls.specs.declared.entry.Tag.{Tag}
use Rattle.mc_calls.specs.declared.call.Call.{Call}
use Rattle.mc_calls.specs.declared.call.Call.TheVariants.{Set}
use Rattle.mc_calls.specs.declared.call_reply.CallReply.{CallReply}
use Rattle.mc_calls.specs.declared.call_reply.CallReply.TheVariants.{Stored}
use Rattle.mc_calls.specs.declared.tallied.Tallied.{Tallied}
use Rattle.mc_calls.specs.Call.{key_of}
use Rattle.mc_calls.specs.Counted.{CallCounts, calls_with}
use Rattle.mc_calls.specs.Shard.{State, Items, Effect, Outcome, stored, tallied, with_calls, state_with, outcome_of, item_at}
use Rattle.mc_calls.specs.Bounds.{FitsEntry}
use Rattle.mc_stats.specs.declared.counts.Counts.{Counts}
use Rattle.mc_history.specs.declared.stored_item.StoredItem.{StoredItem}
use Rattle.mc_history.specs.Recorded as ledgers
use Rattle.mc_history.specs.Recorded.{Recorded, keyed}
use Rattle.mc_shard.specs.declared.contents.Contents.{Contents}
use Rattle.mc_shard.specs.declared.contents.Noted.{Noted}
use Rattle.mc_shard.specs.declared.contents.Noted.TheVariants as Noting
use Rattle.mc_shard.specs.Contents.{AreCounts, call_counts_in}
use Rattle.mc_shard.specs.Places.{all_keys}
use Rattle.mc_shard.specs.Shard.{Kept, kept, entry_of, with_entry}
use Rattle.mc_shard.specs.Index.{items_at, found_at, place_at, contents_in, no_contents, noted_by, tallied_by, IsIndex, HasEntry, IsIndexed}
use Rattle.mc_shard.proofs.IndexLemmas.{item_got, index_none}
use Rattle.mc_shard.proofs.SoundLemmas.{IsSound-applied, calls-made}

-- ---- counts

pub tallied_is : (stored : List StoredItem) (contents : Contents) → IsIndex stored contents → tallied_by contents.counts ≡ tallied (contents_in stored contents)
tallied_is stored contents index =
    ap (λ (n : ℕ). by contents.counts n) index.counts_are.items_are
  where
    by : Counts → ℕ → Tallied
    by counts n = record { gets = counts.gets; sets = counts.sets; hits = counts.hits; misses = counts.misses; items = n }

counts_noted : (noted : Noted) (counts : Counts) (count : ℕ) (items : Items) → AreCounts counts count items → AreCounts (noted_by noted counts) count items
counts_noted (Noting.Get true) counts count items are =
    record { items_are = are.items_are; few_items = are.few_items; few_hits = (let few = are.few_hits in omega (arith, few)); few_misses = (let few = are.few_misses in omega (arith, few)) }
counts_noted (Noting.Get false) counts count items are =
    record { items_are = are.items_are; few_items = are.few_items; few_hits = (let few = are.few_hits in omega (arith, few)); few_misses = (let few = are.few_misses in omega (arith, few)) }
counts_noted Noting.Set counts count items are = record { items_are = are.items_are; few_items = are.few_items; few_hits = are.few_hits; few_misses = are.few_misses }
counts_noted Noting.Other counts count items are = are

pub index_noted : (stored : List StoredItem) (contents contents' : Contents) (noted : Noted) → contents' ≡ record contents { counts = noted_by noted contents.counts } → IsIndex stored contents → IsIndex stored contents'
index_noted stored contents contents' noted is index =
    rw (is) (record { lines = index.lines; places = index.places; counts_are = counts_noted noted contents.counts contents.count (items_at stored (all_keys stored contents.places)) index.counts_are })

-- the item at a call's key is the one at its place
pub found_is : (stored : List StoredItem) (contents : Contents) (key : Option (List ℕ)) (place : Option ℕ) → place ≡ place_at (all_keys stored contents.places) key
    → found_at stored place ≡ item_at (items_at stored (all_keys stored contents.places)) key
found_is stored contents None place is = ap (found_at stored) is
found_is stored contents (Some key) place is = ap (found_at stored) is ∙ sym (item_got stored (all_keys stored contents.places) key)

-- ---- a call whose entry was appended

-- a call is counted after its change was made
pub contents_noted : (stored : List StoredItem) (contents contents' : Contents) (noted : Noted) (shards number : ℕ) (old : State) (effect : Effect) (call : Call) (reply : CallReply)
    → contents_in stored contents ≡ state_with shards number old effect
    → contents' ≡ record contents { counts = noted_by noted contents.counts }
    → call_counts_in (noted_by noted contents.counts) ≡ calls_with (call_counts_in contents.counts) call reply
    → contents_in stored contents' ≡ with_calls (state_with shards number old effect) (calls_with old.calls call reply)
contents_noted stored contents contents' noted shards number old effect call reply made is counted =
    ap (contents_in stored) is
    ∙ ap (with_calls (contents_in stored contents)) (counted ∙ ap (λ (calls : CallCounts). calls_with calls call reply) (calls-made shards number old (contents_in stored contents) effect made))
    ∙ ap (λ (s : State). with_calls s (calls_with old.calls call reply)) made

module _ (number shards last stamp : ℕ) (contents middle contents' : Contents) (ledger ledger' : Recorded) (tag : Tag) (call : Call) (reply : CallReply) (noted : Noted) (outcome : Outcome)
    (indexed : IsIndexed number shards last contents ledger)
    (outcome_is : outcome ≡ outcome_of (tallied (contents_in ledger.stored contents)) call (item_at (items_at ledger.stored (all_keys ledger.stored contents.places)) (key_of call)))
    (reply_is : reply ≡ outcome.reply)
    (made : contents_in ledger'.stored middle ≡ state_with shards number (contents_in ledger.stored contents) outcome.effect)
    (index : IsIndex ledger'.stored middle)
    (has : HasEntry ledger tag stamp (record { call = call; reply = reply }) ledger') where
  pub indexed_made : contents' ≡ record middle { counts = noted_by noted middle.counts }
      → call_counts_in (noted_by noted middle.counts) ≡ calls_with (call_counts_in middle.counts) call reply
      → last < stamp → FitsEntry (entry_of tag number call reply stamp)
      → IsIndexed number shards stamp contents' ledger'
  indexed_made is counted above fits =
      let old : State = contents_in ledger.stored contents in
      record {
        here = has.shard ∙ indexed.here;
        index = index_noted ledger'.stored middle contents' noted is index;
        sound = IsSound-applied number shards last stamp old (contents_in ledger'.stored contents') ledger.entries ledger'.entries (entry_of tag number call reply stamp) (key_of call) outcome indexed.sound refl outcome_is
            (contents_noted ledger'.stored middle contents' noted shards number old outcome.effect call reply made is counted
            ∙ ap (λ (r : CallReply). with_calls (state_with shards number old outcome.effect) (calls_with old.calls call r)) reply_is)
            (has.entries ∙ ap (λ (n : ℕ). ledger.entries ++ entry_of tag n call reply stamp ∷ []) indexed.here)
            refl refl above reply_is fits;
      }

  pub view_made : (now : Kept) → kept number shards ledger.entries ≡ now → kept number shards ledger'.entries ≡ with_entry now (entry_of tag now.number call reply stamp)
  view_made now view_is =
      ap (kept number shards) has.entries
      ∙ ap (λ (n : ℕ). kept number shards (ledger.entries ++ entry_of tag n call reply stamp ∷ [])) indexed.here
      ∙ ap (λ (s : Kept). with_entry s (entry_of tag s.number call reply stamp)) view_is

-- ---- a set

pub has_set : (old new : Recorded) (tag : Tag) (stamp : ℕ) (key : List ℕ) (item : Item) → new ≡ ledgers.with_set old tag stamp key item
    → HasEntry old tag stamp (record { call = Set key item.flags item.value; reply = Stored }) new
has_set old new tag stamp key item is = record { shard = ap (λ (l : Recorded). l.shard) is; entries = ap (λ (l : Recorded). l.entries) is }

-- ---- a shard without calls

pub indexed_none : (number shards : ℕ) → number < shards → shards ≤ 256 → IsIndexed number shards 0 no_contents (ledgers.recorded number [] [])
indexed_none number shards within few = record {
  here = refl;
  index = index_none;
  sound = record {
    within = within;
    few = few;
    history_is = record { replay = tt; place = tt; stamps = tt; fits = tt };
    contents_are = refl;
    last_is = refl;
  };
}
