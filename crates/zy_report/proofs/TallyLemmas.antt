-- What is counted of a shard, entry by entry.
use Rattle.std.proofs.Common.{◌≡◌, ℕ, ◌+◌, ◌-◌, ◌^◌, ◌<◌, Bool, true, false, cond, not, List, [], ◌∷◌, length, map, Bor, refl, sym, ap, ◌∙◌, subst, arith}
use Rattle.std.specs.Prelude.{◌||◌, if◌then◌else◌, count_by, Some, is_some, Option, None, ⊤}
use Rattle.std.specs.List.{list_any}
use Rattle.std.specs.Ordering.{nat_cmp, eq_by_cmp}
use Rattle.std.specs.Cmp.{eq_by_cmp_equiv}
use Rattle.std.specs.Cmp.Lexicographic.{slice_cmp, nat_list_cmp_total}
use Rattle.std.specs.FinMap.{get, contains_key, insert, remove, get-empty, get-insert, get-remove, len-empty, len-insert, len-remove}
use Rattle.std.specs.BTreeMap.{is_at}
use Rattle.std.proofs.lemmas.List.{length-map}
use Rattle.std.proofs.lemmas.List.Sums.{count_by-le-length}
use Rattle.mc_calls.specs.declared.entry.Entry.{Entry}
use Rattle.mc_calls.specs.declared.call.Call.{Call}
use Rattle.mc_calls.specs.declared.call.Call.TheVariants.{Flush}
use Rattle.mc_calls.specs.declared.call_reply.CallReply.{CallReply}
use Rattle.mc_calls.specs.Counted.{KeySet, no_keys, keys_with, is_get, is_set, is_hit, is_miss, CallCounts}
use Rattle.zy_report.specs.Counting.{Counting}
use Rattle.zy_report.specs.Tally.{AreKeysOf, CountsEntries, CanCount, none_kept}

-- ---- keys

pub no_keys_yet : AreKeysOf no_keys []
no_keys_yet = record {
  each = λ key. sym (ap is_some (get-empty (slice_cmp nat_cmp) key));
  size = sym (len-empty (slice_cmp nat_cmp) ⊤);
}

-- a test at the keys that are referred to
any_map : (test : List ℕ → Bool) (keys : List (Bor (List ℕ))) → list_any test (map (λ key. key.now) keys) ≡ list_any (λ key. test key.now) keys
any_map test [] = refl
any_map test (key ∷ keys) = ap (λ b. test key.now || b) (any_map test keys)

-- the key, as it is referred to
abbrev at_key : Bor (List ℕ) → List ℕ → Bor (List ℕ)
at_key other key = record other { now = key }

is_some-put : (test : Bool) (found : Option ⊤) → is_some (cond test (Some tt) found) ≡ cond test true (is_some found)
is_some-put true found = refl
is_some-put false found = refl

is_some-taken : (test : Bool) (found : Option ⊤) → is_some (cond test None found) ≡ cond test false (is_some found)
is_some-taken true found = refl
is_some-taken false found = refl

one_longer : (has : Bool) (count : ℕ) → count + (if not has then 1 else 0) ≡ cond has count (count + 1)
one_longer true count = omega arith
one_longer false count = refl

one_shorter : (has : Bool) (count more : ℕ) → count + (if has then 1 else 0) ≡ more → count ≡ cond has (more - 1) more
one_shorter true count more is = omega (arith, is)
one_shorter false count more is = omega (arith, is)

module _ (old new : List (Bor (List ℕ))) (key : Bor (List ℕ)) (keys : KeySet) (are : AreKeysOf keys (map (λ k. k.now) old)) where
  -- whether a key is among those before
  among : (q : List ℕ) → list_any (λ k. is_at (slice_cmp nat_cmp q) k.now) old ≡ contains_key keys q
  among q = sym (any_map (is_at (slice_cmp nat_cmp q)) old) ∙ are.each q

  same_test : (q : List ℕ) → is_at (slice_cmp nat_cmp key.now) q ≡ eq_by_cmp (slice_cmp nat_cmp) q key.now
  same_test q = (eq_by_cmp_equiv nat_list_cmp_total).symm key.now q

  -- with a key that was added
  pub with_key : (added : Bool)
      → ((q : Bor (List ℕ)) → list_any (is_at (λ (k : Bor (List ℕ)). slice_cmp nat_cmp q.now k.now)) new ≡ cond (is_at (λ (k : Bor (List ℕ)). slice_cmp nat_cmp key.now k.now) q) true (list_any (is_at (λ (k : Bor (List ℕ)). slice_cmp nat_cmp q.now k.now)) old))
      → added ≡ not (list_any (is_at (λ (k : Bor (List ℕ)). slice_cmp nat_cmp key.now k.now)) old)
      → length new ≡ length old + (if added then 1 else 0)
      → AreKeysOf (insert keys key.now tt) (map (λ k. k.now) new)
  with_key added updates is size = record {
    each = λ q.
        any_map (is_at (slice_cmp nat_cmp q)) new ∙ updates (at_key key q)
        ∙ ap (λ b. cond (is_at (slice_cmp nat_cmp key.now) q) true b) (among q)
        ∙ ap (λ t. cond t true (contains_key keys q)) (same_test q)
        ∙ sym (ap is_some (get-insert nat_list_cmp_total keys key.now tt q) ∙ is_some-put (eq_by_cmp (slice_cmp nat_cmp) q key.now) (get keys q));
    size =
        length-map new (λ k. k.now) ∙ size ∙ ap (λ b. length old + (if b then 1 else 0)) (is ∙ ap not (among key.now))
        ∙ one_longer (contains_key keys key.now) (length old)
        ∙ ap (λ n. cond (contains_key keys key.now) n (n + 1)) (sym (length-map old (λ k. k.now)) ∙ are.size)
        ∙ sym (len-insert nat_list_cmp_total keys key.now tt);
  }

  -- without a key that was removed
  pub without_key : (removed : Bool)
      → ((q : Bor (List ℕ)) → list_any (is_at (λ (k : Bor (List ℕ)). slice_cmp nat_cmp q.now k.now)) new ≡ cond (is_at (λ (k : Bor (List ℕ)). slice_cmp nat_cmp key.now k.now) q) false (list_any (is_at (λ (k : Bor (List ℕ)). slice_cmp nat_cmp q.now k.now)) old))
      → removed ≡ list_any (is_at (λ (k : Bor (List ℕ)). slice_cmp nat_cmp key.now k.now)) old
      → length new + (if removed then 1 else 0) ≡ length old
      → AreKeysOf (remove keys key.now) (map (λ k. k.now) new)
  without_key removed updates is size = record {
    each = λ q.
        any_map (is_at (slice_cmp nat_cmp q)) new ∙ updates (at_key key q)
        ∙ ap (λ b. cond (is_at (slice_cmp nat_cmp key.now) q) false b) (among q)
        ∙ ap (λ t. cond t false (contains_key keys q)) (same_test q)
        ∙ sym (ap is_some (get-remove nat_list_cmp_total keys key.now q) ∙ is_some-taken (eq_by_cmp (slice_cmp nat_cmp) q key.now) (get keys q));
    size =
        length-map new (λ k. k.now) ∙ one_shorter removed (length new) (length old) size
        ∙ ap (λ b. cond b (length old - 1) (length old)) (is ∙ among key.now)
        ∙ ap (λ n. cond (contains_key keys key.now) (n - 1) n) (sym (length-map old (λ k. k.now)) ∙ are.size)
        ∙ sym (len-remove nat_list_cmp_total keys key.now);
  }

-- ---- both

few_of : (test : Entry → Bool) (es : List Entry) (count : ℕ) → count ≡ count_by test es → length es < 2 ^ 64 - 1 → count < 2 ^ 64 - 1
few_of test es count is few = let most = count_by-le-length test es in omega (arith, is, few, most)

-- fewer entries than 2^64 - 1 can be counted
pub has_room : (kept : Counting) (es : List Entry) → CountsEntries kept es → length es < 2 ^ 64 - 1 → CanCount kept
has_room kept es are few = record {
  gets = few_of (λ (e : Entry). is_get e.call) es kept.calls.gets (ap (λ (c : CallCounts). c.gets) are.calls) few;
  sets = few_of (λ (e : Entry). is_set e.call) es kept.calls.sets (ap (λ (c : CallCounts). c.sets) are.calls) few;
  hits = few_of (λ (e : Entry). is_hit e.call e.reply) es kept.calls.hits (ap (λ (c : CallCounts). c.hits) are.calls) few;
  misses = few_of (λ (e : Entry). is_miss e.call e.reply) es kept.calls.misses (ap (λ (c : CallCounts). c.misses) are.calls) few;
}

pub nothing_counted : CountsEntries none_kept []
nothing_counted = record { calls = refl; keys = no_keys_yet }

-- a flush leaves no keys
pub flushed : (keys : KeySet) (call : Call) (reply : CallReply) (left : List (Bor (List ℕ))) → call ≡ Flush → left ≡ [] → AreKeysOf (keys_with keys call reply) (map (λ key. key.now) left)
flushed keys call reply left is none =
    subst (λ c. AreKeysOf (keys_with keys c reply) (map (λ key. key.now) left)) (sym is)
    (subst (λ l. AreKeysOf no_keys (map (λ key. key.now) l)) (sym none) no_keys_yet)
