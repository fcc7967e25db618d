-- What a call does to a store.
use Rattle.std.proofs.Common.{◌≡◌, ◌⊎◌, inl, inr, ⊎_elim, ℕ, ◌==◌, ◌&&◌, Bool, true, false, List, Some, refl, sym, ap, ◌∙◌, subst}
use Rattle.std.specs.Ordering.{nat_cmp, is_eq}
use Rattle.std.specs.declared.cmp.Ordering.{Ordering}
use Rattle.std.specs.declared.cmp.Ordering.TheVariants.{Less, Equal, Greater}
use Rattle.std.specs.Cmp.Lexicographic.{slice_cmp}
use Rattle.std.specs.FinMap.{slice_cmp-IsAntisymmetric, nat_cmp-IsAntisymmetric}
use Rattle.mc_allows.specs.Allows.{Allows}
use Rattle.mc_allows.specs.Steps.{is_same, is_own_key, is_about, unique_stored}
use Rattle.mc_calls.specs.declared.call.Call.{Call}
use Rattle.mc_calls.specs.declared.call.Call.TheVariants as Calls
use Rattle.mc_calls.specs.Call.{key_of}
use Rattle.mc_calls.specs.Key.{shard_of}
use Rattle.mc_parse.specs.declared.shard_call.ShardCall.{ShardCall}
use Rattle.zy_times.proofs.RecordLemmas.{is_same as equal_true}
use Rattle.zy_verdict.specs.Entries.{is_at_key}
use Rattle.zy_confirm.specs.declared.outcome.Outcome.{Outcome}
use Rattle.zy_confirm.specs.declared.store.Store.{Store}
use Rattle.zy_confirm.specs.Choosing.{IsChosen}
use Rattle.zy_confirm.specs.Store.{store_shards, held_at, IsNewlyUsed, ChangesAt, MakesCall}
use Rattle.zy_confirm.proofs.ListLemmas.{both_of}

-- ---- keys

same_by : (key other : List ℕ) (order : Ordering) → slice_cmp nat_cmp key other ≡ order → is_eq order ≡ true → key ≡ other
same_by key other Equal same is = slice_cmp-IsAntisymmetric nat_cmp-IsAntisymmetric key other same
same_by key other Less same is = absurd (cc)
same_by key other Greater same is = absurd (cc)

-- a key that is the same has the same bytes
pub same_key : (key other : List ℕ) → is_same key other ≡ true → key ≡ other
same_key key other is = same_by key other (slice_cmp nat_cmp key other) refl is

-- a call with a key is about that key only
about_own : (call : Call) (key own : List ℕ) → key_of call ≡ Some own → is_about key call ≡ is_same key own
about_own Calls.Tally key own is = absurd (cc)
about_own Calls.Flush key own is = ap (is_own_key key) is
about_own (Calls.Get k) key own is = ap (is_own_key key) is
about_own (Calls.Set k flags value) key own is = ap (is_own_key key) is
about_own (Calls.Add k flags value) key own is = ap (is_own_key key) is
about_own (Calls.Replace k flags value) key own is = ap (is_own_key key) is
about_own (Calls.Append k value) key own is = ap (is_own_key key) is
about_own (Calls.Prepend k value) key own is = ap (is_own_key key) is
about_own (Calls.Cas flags k unique value) key own is = ap (is_own_key key) is
about_own (Calls.Incr k amount) key own is = ap (is_own_key key) is
about_own (Calls.Decr k amount) key own is = ap (is_own_key key) is
about_own (Calls.Delete k) key own is = ap (is_own_key key) is

by_case : (b : Bool) → (b ≡ true) ⊎ (b ≡ false)
by_case true = inl refl
by_case false = inr refl

-- ---- a call with a key

module _ (old new : Store) (call : ShardCall) (own : List ℕ) (unique : ℕ) (o : Outcome) (is : key_of call.call ≡ Some own) (here : call.shard ≡ shard_of own (store_shards old))
    (chosen : IsChosen (held_at old own) call.call unique o) (changes : ChangesAt old new own unique o.after) where
  at_own : (key : List ℕ) → is_at_key (store_shards old) key call ≡ true → own ≡ key
  at_own key about = sym (same_key key own (sym (about_own call.call key own is) ∙ (both_of (call.shard == shard_of key (store_shards old)) (is_about key call.call) about).1))

  allowed_own : Allows (held_at old own) call.call o.said (held_at new own)
  allowed_own = subst (Allows (held_at old own) call.call o.said) (sym changes.here) chosen.allowed

  fresh_own : IsNewlyUsed old new own (unique_stored o.said (held_at new own))
  fresh_own = subst (IsNewlyUsed old new own) (sym (ap (unique_stored o.said) changes.here ∙ chosen.given)) changes.fresh

  others_kept : (key : List ℕ) → is_at_key (store_shards old) key call ≡ false → held_at new key ≡ held_at old key
  others_kept key differ =
      ⊎_elim
      (λ same. absurd (
      let mine : own ≡ key = sym (same_key key own same) in
      let about : is_at_key (store_shards old) key call ≡ true =
      ap (λ b. b && is_about key call.call) (equal_true call.shard (shard_of key (store_shards old)) (here ∙ ap (λ k. shard_of k (store_shards old)) mine)) ∙ about_own call.call key own is ∙ same in
      let both : true ≡ false = sym about ∙ differ in
      cc))
      (λ other. changes.others key other)
      (by_case (is_same key own))

  pub made_at : MakesCall old new call o.said
  made_at = record {
    shards = changes.shards;
    allowed = λ key about. subst (λ (k : List ℕ). Allows (held_at old k) call.call o.said (held_at new k)) (at_own key about) allowed_own;
    fresh = λ key about. subst (λ (k : List ℕ). IsNewlyUsed old new k (unique_stored o.said (held_at new k))) (at_own key about) fresh_own;
    others = others_kept;
    used = changes.used;
    bounds = changes.bounds;
  }
