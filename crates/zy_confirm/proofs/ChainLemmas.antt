-- A call more in a chain of steps at each key.
use Rattle.std.proofs.Common.{◌≡◌, ℕ, Bool, true, false, cond, List, [], ◌∷◌, ◌++◌, Option, None, Some, inl, refl, sym, ap, append-nil, ◌∙◌, subst, true≢false, arith}
use Rattle.std.proofs.lemmas.List.Elements.{filter-append}
use Rattle.mc_allows.specs.declared.said.Said.{Said}
use Rattle.mc_allows.specs.declared.call_name.CallName.{CallName}
use Rattle.mc_allows.specs.Allows.{Allows}
use Rattle.mc_allows.specs.Steps.{KeyStep, made, lost, is_same, AreAllowed, item_after, unique_stored, uniques_with, IsNoneOf, first_uniques, IsNewUnique, HaveNewUniques}
use Rattle.mc_calls.specs.declared.call.Call.{Call}
use Rattle.mc_calls.specs.declared.item.Item.{Item}
use Rattle.zy_verdict.specs.Entries.{MadeCall, is_at_key, placed_at, AreStepsOf}
use Rattle.zy_verdict.specs.Between.{has_loss, IsGivenFrom, AreGivenFrom}
use Rattle.zy_verdict.proofs.GivenLemmas.{wider}
use Rattle.zy_confirm.specs.declared.store.Store.{Store}
use Rattle.zy_confirm.specs.Store.{store_shards, held_at, is_used, KeepsBounds, IsNewlyUsed, MakesCall, LosesItem, uniques_after, AreUsed, KeyStands, StandsAfter, HoldsFirst}
use Rattle.zy_confirm.proofs.MakeLemmas.{same_key}

-- ---- steps

allowed_push : (forget : Bool) (first before : Option Item) (steps : List KeyStep) (name : CallName) (call : Call) (said : Said) (after : Option Item)
    → AreAllowed forget first before steps → Allows (item_after before steps) call said after → AreAllowed forget first before (steps ++ made name call said after ∷ [])
allowed_push forget first before [] name call said after are is = (is, tt)
allowed_push forget first before (made own c s a ∷ steps) name call said after are is = (are.0, allowed_push forget first a steps name call said after are.1 is)
allowed_push forget first before (lost ∷ steps) name call said after are is = (are.0, allowed_push forget None None steps name call said after are.1 is)

item_push : (before : Option Item) (steps : List KeyStep) (name : CallName) (call : Call) (said : Said) (after : Option Item) → item_after before (steps ++ made name call said after ∷ []) ≡ after
item_push before [] name call said after = refl
item_push before (made own c s a ∷ steps) name call said after = item_push a steps name call said after
item_push before (lost ∷ steps) name call said after = item_push None steps name call said after

new_push : (before : List ℕ) (steps : List KeyStep) (name : CallName) (call : Call) (said : Said) (after : Option Item)
    → HaveNewUniques before steps → IsNewUnique (uniques_after before steps) (unique_stored said after) → HaveNewUniques before (steps ++ made name call said after ∷ [])
new_push before [] name call said after have new = (new, tt)
new_push before (made own c s a ∷ steps) name call said after have new = (have.0, new_push (uniques_with before (unique_stored s a)) steps name call said after have.1 new)
new_push before (lost ∷ steps) name call said after have new = new_push [] steps name call said after have new

uniques_push : (before : List ℕ) (steps : List KeyStep) (name : CallName) (call : Call) (said : Said) (after : Option Item)
    → uniques_after before (steps ++ made name call said after ∷ []) ≡ uniques_with (uniques_after before steps) (unique_stored said after)
uniques_push before [] name call said after = refl
uniques_push before (made own c s a ∷ steps) name call said after = uniques_push (uniques_with before (unique_stored s a)) steps name call said after
uniques_push before (lost ∷ steps) name call said after = uniques_push [] steps name call said after

allowed_loss : (forget : Bool) (first before : Option Item) (steps : List KeyStep) → forget ≡ true → AreAllowed forget first before steps → AreAllowed forget first before (steps ++ lost ∷ [])
allowed_loss forget first before [] may are = (inl may, tt)
allowed_loss forget first before (made own c s a ∷ steps) may are = (are.0, allowed_loss forget first a steps may are.1)
allowed_loss forget first before (lost ∷ steps) may are = (are.0, allowed_loss forget None None steps may are.1)

item_loss : (before : Option Item) (steps : List KeyStep) → item_after before (steps ++ lost ∷ []) ≡ None
item_loss before [] = refl
item_loss before (made own c s a ∷ steps) = item_loss a steps
item_loss before (lost ∷ steps) = item_loss None steps

new_loss : (before : List ℕ) (steps : List KeyStep) → HaveNewUniques before steps → HaveNewUniques before (steps ++ lost ∷ [])
new_loss before [] have = tt
new_loss before (made own c s a ∷ steps) have = (have.0, new_loss (uniques_with before (unique_stored s a)) steps have.1)
new_loss before (lost ∷ steps) have = new_loss [] steps have

uniques_loss : (before : List ℕ) (steps : List KeyStep) → uniques_after before (steps ++ lost ∷ []) ≡ []
uniques_loss before [] = refl
uniques_loss before (made own c s a ∷ steps) = uniques_loss (uniques_with before (unique_stored s a)) steps
uniques_loss before (lost ∷ steps) = uniques_loss [] steps

given_push : (least most : ℕ) (steps : List KeyStep) (name : CallName) (call : Call) (said : Said) (after : Option Item)
    → AreGivenFrom least most steps → IsGivenFrom least most (unique_stored said after) → AreGivenFrom least most (steps ++ made name call said after ∷ [])
given_push least most [] name call said after are is = (is, tt)
given_push least most (made own c s a ∷ steps) name call said after are is = (are.0, given_push least most steps name call said after are.1 is)
given_push least most (lost ∷ steps) name call said after are is = given_push least most steps name call said after are is

given_loss : (least most : ℕ) (steps : List KeyStep) → AreGivenFrom least most steps → AreGivenFrom least most (steps ++ lost ∷ [])
given_loss least most [] are = tt
given_loss least most (made own c s a ∷ steps) are = (are.0, given_loss least most steps are.1)
given_loss least most (lost ∷ steps) are = given_loss least most steps are

loss_push : (steps : List KeyStep) (name : CallName) (call : Call) (said : Said) (after : Option Item) → has_loss (steps ++ made name call said after ∷ []) ≡ has_loss steps
loss_push [] name call said after = refl
loss_push (made own c s a ∷ steps) name call said after = loss_push steps name call said after
loss_push (lost ∷ steps) name call said after = refl

steps_loss : (entries : List MadeCall) (steps : List KeyStep) → AreStepsOf entries steps → AreStepsOf entries (steps ++ lost ∷ [])
steps_loss [] [] are = tt
steps_loss [] (made own c s a ∷ steps) are = absurd are
steps_loss [] (lost ∷ steps) are = steps_loss [] steps are
steps_loss (x ∷ entries) [] are = absurd are
steps_loss (x ∷ entries) (made own c s a ∷ steps) are = (are.0, are.1, are.2, steps_loss entries steps are.3)
steps_loss (x ∷ entries) (lost ∷ steps) are = steps_loss (x ∷ entries) steps are

steps_push : (entries : List MadeCall) (steps : List KeyStep) (e : MadeCall) (after : Option Item) → AreStepsOf entries steps
    → AreStepsOf (entries ++ e ∷ []) (steps ++ made e.named.name e.named.call.call e.said after ∷ [])
steps_push [] [] e after are = (refl, refl, refl, tt)
steps_push [] (made own c s a ∷ steps) e after are = absurd are
steps_push [] (lost ∷ steps) e after are = steps_push [] steps e after are
steps_push (x ∷ entries) [] e after are = absurd are
steps_push (x ∷ entries) (made own c s a ∷ steps) e after are = (are.0, are.1, are.2, steps_push entries steps e after are.3)
steps_push (x ∷ entries) (lost ∷ steps) e after are = steps_push (x ∷ entries) steps e after are

-- ---- uniques

used_on : (old new : Store) (key : List ℕ) → ((unique : ℕ) → is_used old key unique ≡ true → is_used new key unique ≡ true) → (uniques : List ℕ) → AreUsed old key uniques → AreUsed new key uniques
used_on old new key more [] are = tt
used_on old new key more (unique ∷ uniques) are = (more unique are.0, used_on old new key more uniques are.1)

none_of : (store : Store) (key : List ℕ) (unique : ℕ) → is_used store key unique ≡ false → (uniques : List ℕ) → AreUsed store key uniques → IsNoneOf uniques unique
none_of store key unique fresh [] are = tt
none_of store key unique fresh (one ∷ uniques) are =
    (λ same. let both : true ≡ false = sym are.0 ∙ ap (is_used store key) (sym same) ∙ fresh in cc, none_of store key unique fresh uniques are.1)

new_of : (old new : Store) (key : List ℕ) (given : Option ℕ) (uniques : List ℕ) → IsNewlyUsed old new key given → AreUsed old key uniques → IsNewUnique uniques given
new_of old new key None uniques fresh are = tt
new_of old new key (Some unique) uniques fresh are = none_of old key unique fresh.0 uniques are

used_with : (old new : Store) (key : List ℕ) (given : Option ℕ) (uniques : List ℕ) → IsNewlyUsed old new key given → AreUsed new key uniques → AreUsed new key (uniques_with uniques given)
used_with old new key None uniques fresh are = are
used_with old new key (Some unique) uniques fresh are = (fresh.1, are)

-- ---- bounds

-- uniques that were given within bounds are within bounds that are kept
given_on : (old new : Store) → KeepsBounds old new → (steps : List KeyStep) → AreGivenFrom old.least old.most steps → AreGivenFrom new.least new.most steps
given_on old new bounds steps are = let same = bounds.0 in let above = bounds.1 in wider old.least old.most new.least new.most steps (omega (arith, same)) above are

given_new : (old new : Store) (key : List ℕ) → KeepsBounds old new → (unique : Option ℕ) → IsNewlyUsed old new key unique → IsGivenFrom new.least new.most unique
given_new old new key bounds None fresh = tt
given_new old new key bounds (Some unique) fresh = let same = bounds.0 in let least = fresh.2 in (omega (arith, same, least), fresh.3)

-- ---- one key

module _ (forget : Bool) (first : Option Item) (old new : Store) (e : MadeCall) (makes : MakesCall old new e.named.call e.said) (key : List ℕ) where
  abbrev given : List ℕ
  given = first_uniques first

  -- a call at the key is one more step
  stands_here : (entries : List MadeCall) (steps : List KeyStep) → is_at_key (store_shards old) key e.named.call ≡ true → KeyStands forget first old key entries steps
      → KeyStands forget first new key (entries ++ e ∷ []) (steps ++ made e.named.name e.named.call.call e.said (held_at new key) ∷ [])
  stands_here entries steps about stands =
      let fresh = makes.fresh key about in
      record {
        calls = steps_push entries steps e (held_at new key) stands.calls;
        allowed = allowed_push forget first first steps e.named.name e.named.call.call e.said (held_at new key) stands.allowed
            (subst (λ (i : Option Item). Allows i e.named.call.call e.said (held_at new key)) (sym stands.ends) (makes.allowed key about));
        ends = item_push first steps e.named.name e.named.call.call e.said (held_at new key);
        new = new_push given steps e.named.name e.named.call.call e.said (held_at new key) stands.new (new_of old new key (unique_stored e.said (held_at new key)) (uniques_after given steps) fresh stands.used);
        used = subst (AreUsed new key) (sym (uniques_push given steps e.named.name e.named.call.call e.said (held_at new key)))
            (used_with old new key (unique_stored e.said (held_at new key)) (uniques_after given steps) fresh (used_on old new key (makes.used key) (uniques_after given steps) stands.used));
        given = given_push new.least new.most steps e.named.name e.named.call.call e.said (held_at new key) (given_on old new makes.bounds steps stands.given)
            (given_new old new key makes.bounds (unique_stored e.said (held_at new key)) fresh);
        losses = λ is. stands.losses (sym (loss_push steps e.named.name e.named.call.call e.said (held_at new key)) ∙ is);
      }

  -- another call is none
  stands_else : (entries : List MadeCall) (steps : List KeyStep) → is_at_key (store_shards old) key e.named.call ≡ false → KeyStands forget first old key entries steps → KeyStands forget first new key entries steps
  stands_else entries steps differ stands = record {
    calls = stands.calls;
    allowed = stands.allowed;
    ends = stands.ends ∙ sym (makes.others key differ);
    new = stands.new;
    used = used_on old new key (makes.used key) (uniques_after given steps) stands.used;
    given = given_on old new makes.bounds steps stands.given;
    losses = stands.losses;
  }

  stands_by : (b : Bool) → is_at_key (store_shards old) key e.named.call ≡ b → (entries : List MadeCall) (steps : List KeyStep) → KeyStands forget first old key entries steps
      → (more : List KeyStep) × KeyStands forget first new key (entries ++ cond b (e ∷ []) []) more
  stands_by true about entries steps stands = (steps ++ made e.named.name e.named.call.call e.said (held_at new key) ∷ [], stands_here entries steps about stands)
  stands_by false differ entries steps stands =
      (steps, subst (λ (l : List MadeCall). KeyStands forget first new key l steps) (sym (append-nil entries)) (stands_else entries steps differ stands))

module _ (forget : Bool) (first : Option Item) (old new : Store) (own : List ℕ) (loses : LosesItem old new own) (key : List ℕ) where
  -- the item of the key was lost
  lost_here : (entries : List MadeCall) (steps : List KeyStep) → key ≡ own → forget ≡ true → KeyStands forget first old key entries steps → KeyStands forget first new key entries (steps ++ lost ∷ [])
  lost_here entries steps same may stands = record {
    calls = steps_loss entries steps stands.calls;
    allowed = allowed_loss forget first first steps may stands.allowed;
    ends = item_loss first steps ∙ sym (ap (held_at new) same ∙ loses.here);
    new = new_loss (first_uniques first) steps stands.new;
    used = subst (AreUsed new key) (sym (uniques_loss (first_uniques first) steps)) tt;
    given = given_loss new.least new.most steps (given_on old new loses.bounds steps stands.given);
    losses = λ is. may;
  }

  -- the item of another key was lost
  lost_else : (entries : List MadeCall) (steps : List KeyStep) → is_same key own ≡ false → KeyStands forget first old key entries steps → KeyStands forget first new key entries steps
  lost_else entries steps differ stands = record {
    calls = stands.calls;
    allowed = stands.allowed;
    ends = stands.ends ∙ sym (loses.others key differ);
    new = stands.new;
    used = used_on old new key (loses.used key differ) (uniques_after (first_uniques first) steps) stands.used;
    given = given_on old new loses.bounds steps stands.given;
    losses = stands.losses;
  }

  lost_by : (b : Bool) → is_same key own ≡ b → (key ≡ own → forget ≡ true) → (entries : List MadeCall) (steps : List KeyStep) → KeyStands forget first old key entries steps
      → (more : List KeyStep) × KeyStands forget first new key entries more
  lost_by true same may entries steps stands = let is = same_key key own same in (steps ++ lost ∷ [], lost_here entries steps is (may is) stands)
  lost_by false differ may entries steps stands = (steps, lost_else entries steps differ stands)

-- ---- all keys

module _ (may_lose : List ℕ → Bool) (first : List ℕ → Option Item) where
  pub stands_on : (old new : Store) (entries : List MadeCall) (e : MadeCall) → MakesCall old new e.named.call e.said → StandsAfter may_lose first old entries → StandsAfter may_lose first new (entries ++ e ∷ [])
  stands_on old new entries e makes stands key =
      let at = λ (x : MadeCall). is_at_key (store_shards old) key x.named.call in
      let more = stands_by (may_lose key) (first key) old new e makes key (at e) refl (placed_at (store_shards old) key entries) (stands key).0 (stands key).1 in
      let same : placed_at (store_shards new) key (entries ++ e ∷ []) ≡ placed_at (store_shards old) key entries ++ cond (at e) (e ∷ []) [] =
      ap (λ (n : ℕ). placed_at n key (entries ++ e ∷ [])) makes.shards ∙ filter-append at entries (e ∷ []) in
      (more.0, subst (λ (l : List MadeCall). KeyStands (may_lose key) (first key) new key l more.0) (sym same) more.1)

  pub stands_without : (old new : Store) (entries : List MadeCall) (own : List ℕ) → LosesItem old new own → may_lose own ≡ true → StandsAfter may_lose first old entries → StandsAfter may_lose first new entries
  stands_without old new entries own loses may stands key =
      let more = lost_by (may_lose key) (first key) old new own loses key (is_same key own) refl (λ same. ap may_lose same ∙ may) (placed_at (store_shards old) key entries) (stands key).0 (stands key).1 in
      let same : placed_at (store_shards new) key entries ≡ placed_at (store_shards old) key entries = ap (λ (n : ℕ). placed_at n key entries) loses.shards in
      (more.0, subst (λ (l : List MadeCall). KeyStands (may_lose key) (first key) new key l more.0) (sym same) more.1)

  pub nothing_stands : (store : Store) → HoldsFirst first store → StandsAfter may_lose first store []
  nothing_stands store holds key = ([], record { calls = tt; allowed = tt; ends = sym (holds.held key); new = tt; used = holds.used key; given = tt; losses = λ is. absurd (true≢false (sym is)) })
