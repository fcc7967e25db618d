-- What was stored never changes, so compact entries mean what they meant when more is stored.
use Rattle.std.proofs.Common.{◌≡◌, ℕ, List, [], ◌∷◌, ◌++◌, length, refl, ap, ◌∙◌, arith, length-append}
use Rattle.std.specs.Prelude.{map, Option, None, Some}
use Rattle.std.specs.List.{AllByRecursion}
use Rattle.std.proofs.Math.ListN.{get_or-append}
use Rattle.std.proofs.Math.Seq.{get_or-append_seam}
use Rattle.std.proofs.lemmas.List.{map-append}
use Rattle.mc_calls.specs.declared.entry.Entry.{Entry}
use Rattle.mc_calls.specs.declared.entry.Tag.{Tag}
use Rattle.mc_calls.specs.declared.call.Call.TheVariants.{Flush}
use Rattle.mc_calls.specs.declared.call_reply.CallReply.TheVariants.{Flushed}
use Rattle.mc_history.specs.declared.stored_item.StoredItem.{StoredItem}
use Rattle.mc_history.specs.declared.exchange.Exchange.{Exchange}
use Rattle.mc_history.specs.declared.compact_entry.CompactEntry.{CompactEntry}
use Rattle.mc_history.specs.declared.compact_entry.Form.{Form}
use Rattle.mc_history.specs.declared.compact_entry.Form.TheVariants as Forms
use Rattle.mc_history.specs.Recorded.{recorded, nothing, kept_too}
use Rattle.mc_history.specs.Compact.{Lists, lists, exchange, set_of, hit_of, miss_of, exchange_at, entry_with, spelled_at, view_of, IsPlace, IsSpelled, AreSpelled}

-- ---- the lists go on

-- each place of the lists is one of the others, with the same call and reply
pub record Keeps (before after : Lists) : Type 0 where
  pub means : (form : Form) (place : ℕ) → IsPlace before form place → exchange_at after form place ≡ exchange_at before form place
  pub within : (form : Form) (place : ℕ) → IsPlace before form place → IsPlace after form place

-- so compact entries spell the same entries
pub entries_kept : (shard : ℕ) (before after : Lists) (compact : List CompactEntry) → Keeps before after → AreSpelled before compact
    → map (spelled_at shard after) compact ≡ map (spelled_at shard before) compact
entries_kept shard before after [] keeps within = refl
entries_kept shard before after (m ∷ compact) keeps within =
    ap (λ (t : Exchange). entry_with m.tag shard m.stamp t ∷ map (spelled_at shard after) compact) (keeps.means m.form m.place within.0)
    ∙ ap (λ (es : List Entry). spelled_at shard before m ∷ es) (entries_kept shard before after compact keeps within.1)

pub within_kept : (before after : Lists) (compact : List CompactEntry) → Keeps before after → AreSpelled before compact → AreSpelled after compact
within_kept before after [] keeps within = tt
within_kept before after (m ∷ compact) keeps within =
    (keeps.within m.form m.place within.0, within_kept before after compact keeps within.1)

-- ---- one more entry

all_push : (P : CompactEntry → Type 0) (ms : List CompactEntry) (m : CompactEntry) → AllByRecursion P ms → P m → AllByRecursion P (ms ++ m ∷ [])
all_push P [] m all one = (one, tt)
all_push P (x ∷ ms) m all one = (all.0, all_push P ms m all.1 one)

-- a compact entry that means this is appended, over lists that go on
pub entries_pushed : (shard : ℕ) (before after : Lists) (compact : List CompactEntry) (m : CompactEntry) (t : Exchange) → Keeps before after → AreSpelled before compact
    → exchange_at after m.form m.place ≡ t
    → map (spelled_at shard after) (compact ++ m ∷ []) ≡ map (spelled_at shard before) compact ++ entry_with m.tag shard m.stamp t ∷ []
entries_pushed shard before after compact m t keeps within means =
    map-append (spelled_at shard after) compact (m ∷ [])
    ∙ ap (λ (es : List Entry). es ++ spelled_at shard after m ∷ []) (entries_kept shard before after compact keeps within)
    ∙ ap (λ (u : Exchange). map (spelled_at shard before) compact ++ entry_with m.tag shard m.stamp u ∷ []) means

pub within_pushed : (before after : Lists) (compact : List CompactEntry) (m : CompactEntry) → Keeps before after → AreSpelled before compact
    → IsPlace after m.form m.place → AreSpelled after (compact ++ m ∷ [])
within_pushed before after compact m keeps within here = all_push (IsSpelled after) compact m (within_kept before after compact keeps within) here

-- ---- one thing more is stored

means_stored : (b : List StoredItem) (ks : List (List ℕ)) (os : List Exchange) (x : StoredItem) (form : Form) (place : ℕ) → IsPlace (lists b ks os) form place
    → exchange_at (lists (b ++ x ∷ []) ks os) form place ≡ exchange_at (lists b ks os) form place
means_stored b ks os x Forms.Set place p = ap set_of (get_or-append b (x ∷ []) nothing place p)
means_stored b ks os x Forms.Hit place p = ap hit_of (get_or-append b (x ∷ []) nothing place p)
means_stored b ks os x Forms.Miss place p = refl
means_stored b ks os x Forms.Other place p = refl

within_stored : (b : List StoredItem) (ks : List (List ℕ)) (os : List Exchange) (x : StoredItem) (form : Form) (place : ℕ) → IsPlace (lists b ks os) form place
    → IsPlace (lists (b ++ x ∷ []) ks os) form place
within_stored b ks os x Forms.Set place p = omega (arith, length-append b (x ∷ []))
within_stored b ks os x Forms.Hit place p = omega (arith, length-append b (x ∷ []))
within_stored b ks os x Forms.Miss place p = p
within_stored b ks os x Forms.Other place p = p

pub keeps_stored : (b : List StoredItem) (ks : List (List ℕ)) (os : List Exchange) (x : StoredItem) → Keeps (lists b ks os) (lists (b ++ x ∷ []) ks os)
keeps_stored b ks os x = record { means = means_stored b ks os x; within = within_stored b ks os x }

means_missed : (b : List StoredItem) (ks : List (List ℕ)) (os : List Exchange) (x : List ℕ) (form : Form) (place : ℕ) → IsPlace (lists b ks os) form place
    → exchange_at (lists b (ks ++ x ∷ []) os) form place ≡ exchange_at (lists b ks os) form place
means_missed b ks os x Forms.Set place p = refl
means_missed b ks os x Forms.Hit place p = refl
means_missed b ks os x Forms.Miss place p = ap miss_of (get_or-append ks (x ∷ []) [] place p)
means_missed b ks os x Forms.Other place p = refl

within_missed : (b : List StoredItem) (ks : List (List ℕ)) (os : List Exchange) (x : List ℕ) (form : Form) (place : ℕ) → IsPlace (lists b ks os) form place
    → IsPlace (lists b (ks ++ x ∷ []) os) form place
within_missed b ks os x Forms.Set place p = p
within_missed b ks os x Forms.Hit place p = p
within_missed b ks os x Forms.Miss place p = omega (arith, length-append ks (x ∷ []))
within_missed b ks os x Forms.Other place p = p

pub keeps_missed : (b : List StoredItem) (ks : List (List ℕ)) (os : List Exchange) (x : List ℕ) → Keeps (lists b ks os) (lists b (ks ++ x ∷ []) os)
keeps_missed b ks os x = record { means = means_missed b ks os x; within = within_missed b ks os x }

means_others : (b : List StoredItem) (ks : List (List ℕ)) (os : List Exchange) (x : Exchange) (form : Form) (place : ℕ) → IsPlace (lists b ks os) form place
    → exchange_at (lists b ks (os ++ x ∷ [])) form place ≡ exchange_at (lists b ks os) form place
means_others b ks os x Forms.Set place p = refl
means_others b ks os x Forms.Hit place p = refl
means_others b ks os x Forms.Miss place p = refl
means_others b ks os x Forms.Other place p = get_or-append os (x ∷ []) (exchange Flush Flushed) place p

within_others : (b : List StoredItem) (ks : List (List ℕ)) (os : List Exchange) (x : Exchange) (form : Form) (place : ℕ) → IsPlace (lists b ks os) form place
    → IsPlace (lists b ks (os ++ x ∷ [])) form place
within_others b ks os x Forms.Set place p = p
within_others b ks os x Forms.Hit place p = p
within_others b ks os x Forms.Miss place p = p
within_others b ks os x Forms.Other place p = omega (arith, length-append os (x ∷ []))

pub keeps_others : (b : List StoredItem) (ks : List (List ℕ)) (os : List Exchange) (x : Exchange) → Keeps (lists b ks os) (lists b ks (os ++ x ∷ []))
keeps_others b ks os x = record { means = means_others b ks os x; within = within_others b ks os x }

-- ---- appending

-- a compact entry
abbrev pub compact_of : Tag → ℕ → ℕ → Form → CompactEntry
compact_of tag stamp place form = record { tag = tag; stamp = stamp; place = place; form = form }

-- a set
pub set_pushed : (shard : ℕ) (b : List StoredItem) (ks : List (List ℕ)) (os : List Exchange) (compact : List CompactEntry) (tag : Tag) (stamp : ℕ) (x : StoredItem)
    → AreSpelled (lists b ks os) compact
    → map (spelled_at shard (lists (b ++ x ∷ []) ks os)) (compact ++ compact_of tag stamp (length b) Forms.Set ∷ [])
    ≡ map (spelled_at shard (lists b ks os)) compact ++ entry_with tag shard stamp (set_of x) ∷ []
set_pushed shard b ks os compact tag stamp x within =
    entries_pushed shard (lists b ks os) (lists (b ++ x ∷ []) ks os) compact (compact_of tag stamp (length b) Forms.Set) (set_of x)
    (keeps_stored b ks os x) within (ap set_of (get_or-append_seam b x [] nothing))

pub set_within : (b : List StoredItem) (ks : List (List ℕ)) (os : List Exchange) (compact : List CompactEntry) (tag : Tag) (stamp : ℕ) (x : StoredItem)
    → AreSpelled (lists b ks os) compact
    → AreSpelled (lists (b ++ x ∷ []) ks os) (compact ++ compact_of tag stamp (length b) Forms.Set ∷ [])
set_within b ks os compact tag stamp x within =
    within_pushed (lists b ks os) (lists (b ++ x ∷ []) ks os) compact (compact_of tag stamp (length b) Forms.Set)
    (keeps_stored b ks os x) within (omega (arith, length-append b (x ∷ [])))

-- a miss
pub miss_pushed : (shard : ℕ) (b : List StoredItem) (ks : List (List ℕ)) (os : List Exchange) (compact : List CompactEntry) (tag : Tag) (stamp : ℕ) (x : List ℕ)
    → AreSpelled (lists b ks os) compact
    → map (spelled_at shard (lists b (ks ++ x ∷ []) os)) (compact ++ compact_of tag stamp (length ks) Forms.Miss ∷ [])
    ≡ map (spelled_at shard (lists b ks os)) compact ++ entry_with tag shard stamp (miss_of x) ∷ []
miss_pushed shard b ks os compact tag stamp x within =
    entries_pushed shard (lists b ks os) (lists b (ks ++ x ∷ []) os) compact (compact_of tag stamp (length ks) Forms.Miss) (miss_of x)
    (keeps_missed b ks os x) within (ap miss_of (get_or-append_seam ks x [] []))

-- ---- views after a push

pub set_view : (shard : ℕ) (b b' : List StoredItem) (ks : List (List ℕ)) (os : List Exchange) (compact compact' : List CompactEntry) (tag : Tag) (stamp place : ℕ) (x : StoredItem)
    → AreSpelled (lists b ks os) compact → b' ≡ b ++ x ∷ [] → compact' ≡ compact ++ compact_of tag stamp place Forms.Set ∷ [] → place ≡ length b
    → (AreSpelled (lists b' ks os) compact')
    × (view_of shard (lists b' ks os) compact' ≡ recorded shard (map (spelled_at shard (lists b ks os)) compact ++ entry_with tag shard stamp (set_of x) ∷ []) (b ++ x ∷ []))
set_view shard b b' ks os compact compact' tag stamp place x within b_is marks_are place_is =
    rw (b_is, marks_are, place_is) (
      set_within b ks os compact tag stamp x within,
      ap (λ (es : List Entry). recorded shard es (b ++ x ∷ [])) (set_pushed shard b ks os compact tag stamp x within),
    )

pub miss_view : (shard : ℕ) (b : List StoredItem) (ks ks' : List (List ℕ)) (os : List Exchange) (compact compact' : List CompactEntry) (tag : Tag) (stamp place : ℕ) (x : List ℕ)
    → AreSpelled (lists b ks os) compact → ks' ≡ ks ++ x ∷ [] → compact' ≡ compact ++ compact_of tag stamp place Forms.Miss ∷ [] → place ≡ length ks
    → view_of shard (lists b ks' os) compact' ≡ recorded shard (map (spelled_at shard (lists b ks os)) compact ++ entry_with tag shard stamp (miss_of x) ∷ []) b
miss_view shard b ks ks' os compact compact' tag stamp place x within ks_are marks_are place_is =
    rw (ks_are, marks_are, place_is) (ap (λ (es : List Entry). recorded shard es b) (miss_pushed shard b ks os compact tag stamp x within))

-- ---- any other call

keeps_itself : (ls : Lists) → Keeps ls ls
keeps_itself ls = record { means = λ form place p. refl; within = λ form place p. p }

keeps_twice : (a b d : Lists) → Keeps a b → Keeps b d → Keeps a d
keeps_twice a b d first second = record {
  means = λ form place p. second.means form place (first.within form place p) ∙ first.means form place p;
  within = λ form place p. second.within form place (first.within form place p);
}

keeps_if_stored : (b : List StoredItem) (ks : List (List ℕ)) (os : List Exchange) (stored : Option StoredItem) → Keeps (lists b ks os) (lists (kept_too b stored) ks os)
keeps_if_stored b ks os None = keeps_itself (lists b ks os)
keeps_if_stored b ks os (Some x) = keeps_stored b ks os x

keeps_other : (b : List StoredItem) (ks : List (List ℕ)) (os : List Exchange) (stored : Option StoredItem) (t : Exchange) → Keeps (lists b ks os) (lists (kept_too b stored) ks (os ++ t ∷ []))
keeps_other b ks os stored t = keeps_twice (lists b ks os) (lists (kept_too b stored) ks os) (lists (kept_too b stored) ks (os ++ t ∷ [])) (keeps_if_stored b ks os stored) (keeps_others (kept_too b stored) ks os t)

pub other_view : (shard : ℕ) (b b' : List StoredItem) (ks : List (List ℕ)) (os os' : List Exchange) (compact compact' : List CompactEntry) (tag : Tag) (stamp place : ℕ) (t : Exchange) (stored : Option StoredItem)
    → AreSpelled (lists b ks os) compact → b' ≡ kept_too b stored → os' ≡ os ++ t ∷ [] → compact' ≡ compact ++ compact_of tag stamp place Forms.Other ∷ [] → place ≡ length os
    → (AreSpelled (lists b' ks os') compact')
    × (view_of shard (lists b' ks os') compact' ≡ recorded shard (map (spelled_at shard (lists b ks os)) compact ++ entry_with tag shard stamp t ∷ []) (kept_too b stored))
other_view shard b b' ks os os' compact compact' tag stamp place t stored within b_is os_are marks_are place_is =
    let after : Lists = lists (kept_too b stored) ks (os ++ t ∷ []) in
    let m : CompactEntry = compact_of tag stamp (length os) Forms.Other in
    rw (b_is, os_are, marks_are, place_is) (
      within_pushed (lists b ks os) after compact m (keeps_other b ks os stored t) within (omega (arith, length-append os (t ∷ []))),
      ap (λ (es : List Entry). recorded shard es (kept_too b stored))
          (entries_pushed shard (lists b ks os) after compact m t (keeps_other b ks os stored t) within (get_or-append_seam os t [] (exchange Flush Flushed))),
    )
