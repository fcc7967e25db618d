-- What is counted of all shards, entry by entry.
use Rattle.std.proofs.Common.{◌≡◌, ℕ, suc, ◌+◌, ◌-◌, ◌^◌, ◌<◌, ◌≤◌, ◌≢◌, Bool, true, false, true≢false, cond, List, [], ◌∷◌, ◌++◌, length, refl, sym, ap, ◌∙◌, subst, arith}
use Rattle.std.specs.Prelude.{◌==◌, max}
use Rattle.std.proofs.Math.ListN.{set}
use Rattle.std.proofs.lemmas.List.{append-nil, length-append, length-set, get_or-set_same, get_or-set_other}
use Rattle.std.proofs.lemmas.Bool.{eqb-true, eq-eqb}
use Rattle.std.proofs.lemmas.List.Elements.{filter-append}
use Rattle.mc_calls.specs.declared.entry.Entry.{Entry}
use Rattle.mc_calls.specs.Order.{at_shard}
use Rattle.zy_report.specs.Counting.{Counting}
use Rattle.zy_report.specs.Report.{shards_in}
use Rattle.zy_report.specs.Tally.{CountsEntries, CountsAll, CanCount, none_kept, kept_at}
use Rattle.zy_report.proofs.TallyLemmas.{nothing_counted, has_room}

-- ---- the shards

pub shards_more : (es : List Entry) (e : Entry) → shards_in (es ++ e ∷ []) ≡ max (shards_in es) (e.shard + 1)
shards_more [] e = omega arith
shards_more (f ∷ es) e = let more = shards_more es e in omega (arith, more)

longer : (test : Bool) (e : Entry) (some es : List Entry) → length some ≤ length es → length (cond test (e ∷ some) some) ≤ length (e ∷ es)
longer true e some es others = omega (arith, others)
longer false e some es others = omega (arith, others)

length-at_shard : (shard : ℕ) (es : List Entry) → length (at_shard shard es) ≤ length es
length-at_shard shard [] = omega arith
length-at_shard shard (e ∷ es) = longer (e.shard == shard) e (at_shard shard es) es (length-at_shard shard es)

at_shard_more : (shard : ℕ) (es : List Entry) (e : Entry) → at_shard shard (es ++ e ∷ []) ≡ at_shard shard es ++ cond (e.shard == shard) (e ∷ []) []
at_shard_more shard es e = filter-append (λ (e : Entry). e.shard == shard) es (e ∷ [])

-- ---- entries that were read

pub none_counted : (kept : List Counting) → kept ≡ [] → CountsAll kept []
none_counted kept none = record {
  size = ap length none;
  each = λ shard. subst (λ k. CountsEntries (kept_at k shard) []) (sym none) nothing_counted;
}

module _ (old made : List Counting) (es : List Entry) (e : Entry) (tally : Counting) (size : length made ≡ max (length old) (e.shard + 1)) (same : (at : ℕ) → kept_at made at ≡ kept_at old at)
    (adds : (fs : List Entry) → CountsEntries (kept_at made e.shard) fs → CountsEntries tally (fs ++ e ∷ [])) (are : CountsAll old es) where
  -- at the shard of the entry
  at_own : CountsEntries (kept_at (set made e.shard tally) e.shard) (at_shard e.shard es ++ e ∷ [])
  at_own =
      let within : e.shard < length made = omega (arith, size) in
      subst (λ k. CountsEntries k (at_shard e.shard es ++ e ∷ [])) (sym (get_or-set_same made e.shard tally none_kept within))
      (adds (at_shard e.shard es) (subst (λ k. CountsEntries k (at_shard e.shard es)) (sym (same e.shard)) (are.each e.shard)))

  -- at another one
  at_other : (shard : ℕ) → shard ≢ e.shard → CountsEntries (kept_at (set made e.shard tally) shard) (at_shard shard es ++ [])
  at_other shard other =
      subst (λ l. CountsEntries (kept_at (set made e.shard tally) shard) l) (sym (append-nil (at_shard shard es)))
      (subst (λ k. CountsEntries k (at_shard shard es)) (sym (get_or-set_other made e.shard shard tally none_kept other ∙ same shard)) (are.each shard))

  at_each : (shard : ℕ) (test : Bool) → (e.shard == shard) ≡ test → CountsEntries (kept_at (set made e.shard tally) shard) (at_shard shard es ++ cond test (e ∷ []) [])
  at_each shard true is = subst (λ n. CountsEntries (kept_at (set made e.shard tally) n) (at_shard n es ++ e ∷ [])) (eqb-true e.shard shard is) at_own
  at_each shard false is = at_other shard (λ own. true≢false (sym (eq-eqb e.shard shard (sym own)) ∙ is))

  -- one more entry
  pub all_more : (new : List Counting) → new ≡ set made e.shard tally → CountsAll new (es ++ e ∷ [])
  all_more new is = record {
    size = ap length is ∙ length-set made e.shard tally ∙ size ∙ ap (λ n. max n (e.shard + 1)) are.size ∙ sym (shards_more es e);
    each = λ shard.
        subst (λ k. CountsEntries (kept_at k shard) (at_shard shard (es ++ e ∷ []))) (sym is)
        (subst (λ l. CountsEntries (kept_at (set made e.shard tally) shard) l) (sym (at_shard_more shard es e)) (at_each shard (e.shard == shard) refl));
  }

-- the entries that were read are those before the ones that are left
pub record HasRead (kept : List Counting) (all left : List Entry) : Type 0 where
  pub read : List Entry
  pub split : all ≡ read ++ left
  pub counts : CountsAll kept read

pub none_read : (kept : List Counting) (all : List Entry) → kept ≡ [] → HasRead kept all all
none_read kept all none = record { read = []; split = refl; counts = none_counted kept none }

-- fewer entries than 2^64 can be counted, at each shard
pub room_at : (kept : List Counting) (all left rest : List Entry) (e : Entry) → HasRead kept all left → left ≡ e ∷ rest → length all ≤ 2 ^ 64 - 1 → CanCount (kept_at kept e.shard)
room_at kept all left rest e has is few =
    let size : length all ≡ length has.read + suc (length rest) = ap length (has.split ∙ ap (λ l. has.read ++ l) is) ∙ length-append has.read (e ∷ rest) in
    let most = length-at_shard e.shard has.read in
    has_room (kept_at kept e.shard) (at_shard e.shard has.read) (has.counts.each e.shard) (omega (arith, size, most, few))
