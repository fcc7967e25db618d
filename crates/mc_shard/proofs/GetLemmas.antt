-- A shard after a get.
use Rattle.std.proofs.Common.{◌≡◌, ℕ, ◌<◌, ◌^◌, List, [], ◌∷◌, ◌++◌, Bool, true, false, refl, sym, ap, subst, ◌∙◌, arith}
use Rattle.std.specs.Prelude.{Option, Some, None, is_some}
use Rattle.mc_calls.specs.declared.item.Item.{Item}
use Rattle.mc_calls.specs.declared.entry.Tag.{Tag}
use Rattle.mc_calls.specs.declared.call.Call.TheVariants.{Get}
use Rattle.mc_calls.specs.declared.call_reply.CallReply.{CallReply}
use Rattle.mc_calls.specs.declared.tallied.Tallied.{Tallied}
use Rattle.mc_calls.specs.Bounds.{FitsReply}
use Rattle.mc_calls.specs.Counted.{calls_with}
use Rattle.mc_calls.specs.Shard.{State, Items, tallied, with_calls, outcome_of, reply_to}
use Rattle.mc_stats.specs.declared.counts.Counts.{Counts}
use Rattle.mc_stats.specs.Counts.{with_get}
use Rattle.mc_history.specs.declared.stored_item.StoredItem.{StoredItem}
use Rattle.mc_history.specs.Recorded as ledgers
use Rattle.mc_history.specs.Recorded.{Recorded, recorded, item_at}
use Rattle.mc_shard.specs.declared.contents.Contents.{Contents}
use Rattle.mc_shard.specs.Contents.{AreCounts, call_counts_in}
use Rattle.mc_shard.specs.Places.{place_in, all_keys}
use Rattle.mc_shard.specs.Shard.{Kept, kept, last_of, reply_of, entry_of, with_entry}
use Rattle.mc_shard.specs.Index.{items_at, found_at, reply_at, contents_in, IsIndexed}
use Rattle.mc_shard.proofs.IndexLemmas.{item_got}
use Rattle.mc_shard.proofs.CountLemmas.{few_gets, few_sets}
use Rattle.mc_shard.proofs.SoundLemmas.{IsSound-got}

-- ---- what is counted fits

pub gets_fit : (number shards last : ℕ) (contents : Contents) (ledger : Recorded) (now : Kept) → kept number shards ledger.entries ≡ now → IsIndexed number shards last contents ledger
    → last_of now < 2 ^ 60 → contents.counts.gets < 2 ^ 60
gets_fit number shards last contents ledger now view_is indexed below =
    few_gets number shards last (contents_in ledger.stored contents) ledger.entries indexed.sound (subst (λ (s : Kept). last_of s < 2 ^ 60) (sym view_is) below)

pub sets_fit : (number shards last : ℕ) (contents : Contents) (ledger : Recorded) (now : Kept) → kept number shards ledger.entries ≡ now → IsIndexed number shards last contents ledger
    → last_of now < 2 ^ 60 → contents.counts.sets < 2 ^ 60
sets_fit number shards last contents ledger now view_is indexed below =
    few_sets number shards last (contents_in ledger.stored contents) ledger.entries indexed.sound (subst (λ (s : Kept). last_of s < 2 ^ 60) (sym view_is) below)

-- ---- the reply

reply_by : (counts : Tallied) (stored : List StoredItem) (key : List ℕ) (found : Option ℕ) → reply_at stored found ≡ (outcome_of counts (Get key) (found_at stored found)).reply
reply_by counts stored key None = refl
reply_by counts stored key (Some place) = refl

reply_found : (stored : List StoredItem) (contents : Contents) (key : List ℕ) (found : Option ℕ) → found ≡ place_in (all_keys stored contents.places) key
    → reply_at stored found ≡ reply_to (contents_in stored contents) (Get key)
reply_found stored contents key found is =
    let counts : Tallied = tallied (contents_in stored contents) in
    reply_by counts stored key found
    ∙ ap (λ (o : Option Item). (outcome_of counts (Get key) o).reply) (ap (found_at stored) is ∙ sym (item_got stored (all_keys stored contents.places) key))

-- ---- the counts

calls_got : (counts : Counts) (stored : List StoredItem) (key : List ℕ) (found : Option ℕ)
    → call_counts_in (with_get (is_some found) counts) ≡ calls_with (call_counts_in counts) (Get key) (reply_at stored found)
calls_got counts stored key None = refl
calls_got counts stored key (Some place) = refl

counts_got : (hit : Bool) (counts : Counts) (count : ℕ) (items : Items) → AreCounts counts count items → AreCounts (with_get hit counts) count items
counts_got true counts count items are =
    record { items_are = are.items_are; few_items = are.few_items; few_hits = (let few = are.few_hits in omega (arith, few)); few_misses = (let few = are.few_misses in omega (arith, few)) }
counts_got false counts count items are =
    record { items_are = are.items_are; few_items = are.few_items; few_hits = (let few = are.few_hits in omega (arith, few)); few_misses = (let few = are.few_misses in omega (arith, few)) }

-- ---- the shard

module _ (number shards last stamp : ℕ) (contents contents' : Contents) (ledger ledger' : Recorded) (tag : Tag) (key : List ℕ) (found : Option ℕ) (indexed : IsIndexed number shards last contents ledger)
    (is : found ≡ place_in (all_keys ledger.stored contents.places) key) (ledger_is : ledger' ≡ ledgers.with_entry ledger tag stamp (Get key) (reply_at ledger.stored found)) where
  pub indexed_got : contents' ≡ record contents { counts = with_get (is_some found) contents.counts } → last < stamp → tag.part < 2 ^ 32 → FitsReply (reply_at ledger.stored found)
      → IsIndexed number shards stamp contents' ledger'
  indexed_got contents_are above part fits =
      let reply : CallReply = reply_at ledger.stored found in
      let before : State = contents_in ledger.stored contents in
      rw (ledger_is, contents_are) (record {
        here = indexed.here;
        index = record {
          lines = indexed.index.lines;
          places = indexed.index.places;
          counts_are = counts_got (is_some found) contents.counts contents.count (items_at ledger.stored (all_keys ledger.stored contents.places)) indexed.index.counts_are;
        };
        sound = IsSound-got number shards last stamp before (contents_in ledger.stored (record contents { counts = with_get (is_some found) contents.counts }))
            ledger.entries (ledger.entries ++ ledgers.entry_of tag ledger.shard (Get key) reply stamp ∷ []) tag key reply indexed.sound
            (reply_found ledger.stored contents key found is)
            (ap (with_calls before) (calls_got contents.counts ledger.stored key found))
            (ap (λ (n : ℕ). ledger.entries ++ ledgers.entry_of tag n (Get key) reply stamp ∷ []) indexed.here)
            above (record { part = part; call = (tt, tt); reply = fits });
      })

  -- its reply
  pub reply_got : (now : Kept) → kept number shards ledger.entries ≡ now → reply_at ledger.stored found ≡ reply_of now (Get key)
  reply_got now view_is =
      reply_found ledger.stored contents key found is
      ∙ ap (λ (s : State). reply_to s (Get key)) indexed.sound.contents_are
      ∙ ap (λ (s : Kept). reply_of s (Get key)) view_is

  -- and its view
  pub view_got : (now : Kept) → kept number shards ledger.entries ≡ now
      → kept number shards ledger'.entries ≡ with_entry now (entry_of tag now.number (Get key) (reply_of now (Get key)) stamp)
  view_got now view_is =
      ap (λ (l : Recorded). kept number shards l.entries) ledger_is
      ∙ ap (λ (n : ℕ). kept number shards (ledger.entries ++ ledgers.entry_of tag n (Get key) (reply_at ledger.stored found) stamp ∷ [])) indexed.here
      ∙ ap (λ (r : CallReply). kept number shards (ledger.entries ++ ledgers.entry_of tag number (Get key) r stamp ∷ [])) (reply_got now view_is)
      ∙ ap (λ (s : Kept). with_entry s (entry_of tag s.number (Get key) (reply_of now (Get key)) stamp)) view_is
