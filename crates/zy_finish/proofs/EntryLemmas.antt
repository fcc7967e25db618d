-- A merged list whose calls are those of commands is within the bounds of the journal.
use Rattle.std.specs.Prelude.{◌==◌, flat_map}
use Rattle.std.specs.List.{AllByRecursion, filter, range_with_len}
use Rattle.std.proofs.Common.{◌≡◌, ℕ, zero, suc, ◌+◌, ◌<◌, ◌≤◌, ◌^◌, List, [], ◌∷◌, Bool, true, false, cond, refl, sym, ap, ◌∙◌, subst, arith, eq-eqb}
use Rattle.mc_calls.specs.declared.entry.Entry.{Entry}
use Rattle.mc_calls.specs.declared.hold.Hold.{Hold}
use Rattle.mc_calls.specs.Bounds.{IsReply, IsCallWithin, FitsEntry}
use Rattle.mc_calls.specs.Order.{of_connection, history_of, AreBelow, StampsRise, AreStampsBelow, IsMergeOf}
use Rattle.mc_calls.specs.History.{AreHistories}
use Rattle.zy_capture.specs.Capture.{connection_limit}
use Rattle.zy_journal.specs.Journal.{IsEntry, IsHold}
use Rattle.zy_conn.specs.Hold.{EachIsHold}
use Rattle.zy_finish.specs.Finish.{IsHoldBy}
use Rattle.zy_run.specs.Run.{AreOfConnections}
use Rattle.zy_finish.specs.Left.{AreOf}
use Rattle.mc_parse.proofs.PlainLemmas.{each-append}

-- ---- parts

-- what holds of each part by a number holds of the whole
module _ (P : Entry → Type 0) (number : Entry → ℕ) where
  pub all_of_parts : (es : List Entry) → ((n : ℕ) → AllByRecursion P (filter (λ e. number e == n) es)) → AllByRecursion P es
  all_of_parts [] each = tt
  all_of_parts (e ∷ es) each = (
    (subst (AllByRecursion P) (ap (λ b. cond b (e ∷ filter (λ x. number x == number e) es) (filter (λ x. number x == number e) es)) (eq-eqb (number e) (number e) refl)) (each (number e))).0,
    all_of_parts es (λ n. rest (number e == n) (filter (λ x. number x == n) es) (each n)),
  )
    where
      rest : (b : Bool) (front : List Entry) → AllByRecursion P (cond b (e ∷ front) front) → AllByRecursion P front
      rest true front all = all.1
      rest false front all = all

-- ---- stamps

some_stamps : (before : ℕ) (es : List Entry) → StampsRise before es → AllByRecursion (λ (e : Entry). 0 < e.stamp) es
some_stamps before [] rise = tt
some_stamps before (e ∷ es) rise = ((let above = rise.0 in omega arith), some_stamps e.stamp es rise.1)

merged_stamps : (shards : ℕ) (histories : List (List Entry)) (es : List Entry) → AreHistories shards histories → IsMergeOf histories es → AllByRecursion (λ (e : Entry). 0 < e.stamp) es
merged_stamps shards histories es all merge =
    all_of_parts (λ (e : Entry). 0 < e.stamp) (λ e. e.shard) es
    (λ shard. subst (AllByRecursion (λ (e : Entry). 0 < e.stamp)) (sym (merge.parts shard)) (some_stamps 0 (history_of histories shard) (all.each shard).stamps))

-- the numbers of a merge fit their fields
pub merged_fit : (shards : ℕ) (histories : List (List Entry)) (es : List Entry) → AreHistories shards histories → IsMergeOf histories es → AllByRecursion FitsEntry es
merged_fit shards histories es all merge =
    all_of_parts FitsEntry (λ e. e.shard) es
    (λ shard. subst (AllByRecursion FitsEntry) (sym (merge.parts shard)) (all.each shard).fits)

-- ---- entries

-- all that is known of entries, together
entries_from : (shards count : ℕ) (es : List Entry) → shards ≤ 256 → count ≤ connection_limit → AreBelow shards es → AreStampsBelow (2 ^ 60) es
    → AllByRecursion (λ (e : Entry). 0 < e.stamp) es → AreOfConnections count es → AllByRecursion (IsCallWithin (2 ^ 40)) es → AllByRecursion (λ (e : Entry). IsReply e.reply) es
    → AllByRecursion IsEntry es
entries_from shards count [] few_shards few below stamps some conns calls replies = tt
entries_from shards count (e ∷ es) few_shards few below stamps some conns calls replies = (
  record {
    some_stamp = some.0;
    few_stamps = stamps.0;
    few_shards = (let less = below.0 in omega arith);
    few_connections = (let less = conns.0 in omega arith);
    few_commands = calls.0.1;
    call = calls.0.0;
    reply = replies.0;
  },
  entries_from shards count es few_shards few below.1 stamps.1 some.1 conns.1 calls.1 replies.1,
)

-- the entries of a merge are within their bounds
pub merged_entries : (shards count : ℕ) (histories : List (List Entry)) (es : List Entry) → shards ≤ 256 → count ≤ connection_limit
    → AreHistories shards histories → IsMergeOf histories es → AreBelow shards es → AreStampsBelow (2 ^ 60) es → AreOfConnections count es
    → ((conn : ℕ) → AllByRecursion (IsCallWithin (2 ^ 40)) (of_connection conn es)) → (AllByRecursion (IsCallWithin (2 ^ 40)) es → AllByRecursion (λ (e : Entry). IsReply e.reply) es)
    → AllByRecursion IsEntry es
merged_entries shards count histories es few_shards few all merge below stamps conns own replies =
    let calls = all_of_parts (IsCallWithin (2 ^ 40)) (λ e. e.tag.conn) es own in
    entries_from shards count es few_shards few below stamps (merged_stamps shards histories es all merge) conns calls (replies calls)

-- ---- holds

-- holds of a connection are of it alone
pub holds_of : (cores conn other : ℕ) (hs : List Hold) → EachIsHold cores other hs → other ≡ conn → AreOf conn hs
holds_of cores conn other [] each same = tt
holds_of cores conn other (h ∷ hs) each same = (each.0.conn_is ∙ same, holds_of cores conn other hs each.1 same)

-- they are within the bounds of the journal
pub holds_within : (cores conn other : ℕ) (hs : List Hold) → cores ≤ 64 → EachIsHold cores other hs → other ≡ conn → conn < connection_limit → AllByRecursion IsHold hs
holds_within cores conn other [] most each same few = tt
holds_within cores conn other (h ∷ hs) most each same few = (
  record {
    few_connections = (let is = each.0.conn_is in omega arith);
    few_cores = (let is = each.0.core_is in omega arith);
    some_commands = (let some = each.0.some in omega arith);
    few_commands = each.0.limit;
  },
  holds_within cores conn other hs most each.1 same few,
)

-- they are by the cores that there are
pub holds_by : (cores all other : ℕ) (hs : List Hold) → cores ≡ all → EachIsHold cores other hs → AllByRecursion (IsHoldBy all) hs
holds_by cores all other [] same each = tt
holds_by cores all other (h ∷ hs) same each = (
  record {
    core_is = (let is = each.0.core_is in omega arith);
    some = each.0.some;
    limit = each.0.limit;
  },
  holds_by cores all other hs same each.1,
)

-- the holds of connections from one on
pub all_holds_within : (P : Hold → Type 0) (holds : ℕ → List Hold) (from count : ℕ) → ((conn : ℕ) → from ≤ conn → conn < from + count → AllByRecursion P (holds conn))
    → AllByRecursion P (flat_map holds (range_with_len from count))
all_holds_within P holds from zero each = tt
all_holds_within P holds from (suc count) each =
    each-append P (holds from) (flat_map holds (range_with_len (from + 1) count)) (each from (omega arith) (omega arith))
    (all_holds_within P holds (from + 1) count (λ conn least within. each conn (omega arith) (omega arith)))
