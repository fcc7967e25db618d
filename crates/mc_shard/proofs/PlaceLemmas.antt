-- A key's place in the table is the one in its own line or in the tree, and what a change of a line or of the tree changes.
use Rattle.std.proofs.Common.{◌≡◌, ◌≢◌, ◌⊎◌, inl, inr, ℕ, zero, suc, ◌+◌, ◌<◌, ◌≤◌, ◌/◌, ◌^◌, Bool, true, false, eqb, cond, List, [], ◌∷◌, ◌++◌, length, get_or, set, slice_get, refl, sym, ap, subst, ◌∙◌, arith}
use Rattle.std.specs.Prelude.{Option, Some, None, ⊤}
use Rattle.std.proofs.lemmas.Bool.Decides.{eqb_tells}
use Rattle.std.proofs.lemmas.Option.{same_Some}
use Rattle.std.specs.Map.{lookup}
use Rattle.std.specs.BTreeMap.{is_at}
use Rattle.mc_history.specs.declared.stored_item.StoredItem.{StoredItem}
use Rattle.mc_history.specs.Recorded.{item_at}
use Rattle.mc_shard.specs.declared.slot.Slot.{Slot}
use Rattle.mc_shard.specs.Contents.{hashed_cmp}
use Rattle.mc_shard.specs.Places.{Keyed, Held, table, place_in, keys_in, keys_among, all_keys, slots_at, marked_at, line_of, AreSlots, AreOwn, AreLines, HaveOwn, IsWith, SamePlaces}
use Rattle.mc_shard.proofs.MapLemmas.{same_at}

-- ---- numbers and lists

same_of : {a b : ℕ} → ((eqb a b ≡ true) × (a ≡ b)) ⊎ ((eqb a b ≡ false) × (a ≢ b)) → (a ≡ b) ⊎ (a ≢ b)
same_of (inl is) = inl is.1
same_of (inr differ) = inr differ.1

pub same_or_not : (a b : ℕ) → (a ≡ b) ⊎ (a ≢ b)
same_or_not a b = same_of (eqb_tells a b)

-- ---- lookups in joined lists

-- the first that is there
abbrev pub first_of : Option ℕ → Option ℕ → Option ℕ
first_of None other = other
first_of (Some place) other = Some place

first_of-none : (one : Option ℕ) → first_of one None ≡ one
first_of-none None = refl
first_of-none (Some place) = refl

push : (found : Bool) (place : ℕ) (one two three : Option ℕ) → one ≡ first_of two three → cond found (Some place) one ≡ first_of (cond found (Some place) two) three
push true place one two three is = refl
push false place one two three is = is

pub lookup-append : (test : List ℕ → Bool) (xs ys : List (List ℕ × ℕ)) → lookup test (xs ++ ys) ≡ first_of (lookup test xs) (lookup test ys)
lookup-append test [] ys = refl
lookup-append test (x ∷ xs) ys = push (test x.0) x.1 (lookup test (xs ++ ys)) (lookup test xs) (lookup test ys) (lookup-append test xs ys)

-- keys with two numbers of a kind differ
apart_by : (number : List ℕ → ℕ) (key q : List ℕ) (found : Bool) → found ≡ is_at (hashed_cmp key) q → number q ≢ number key → found ≡ false
apart_by number key q true is differ = absurd (differ (ap number (sym (same_at key q (sym is)))))
apart_by number key q false is differ = refl

pub apart : (number : List ℕ → ℕ) (key q : List ℕ) → number q ≢ number key → is_at (hashed_cmp key) q ≡ false
apart number key q differ = apart_by number key q (is_at (hashed_cmp key) q) refl differ

pub got_at : {X : Type 0} (xs : List X) (n : ℕ) (x : X) → n < length xs → x ≡ get_or xs n x → slice_get xs n ≡ Some x
got_at [] n x within is = absurd (omega arith)
got_at (y ∷ xs) zero x within is = ap Some (sym is)
got_at (y ∷ xs) (suc n) x within is = got_at xs n x (omega arith) is

-- ---- the lines

pub slots_same : (lines : List Held) (n : ℕ) (old line : Held) → slice_get lines n ≡ Some old → slots_at (set lines n line) n ≡ line.slots
slots_same [] n old line is = cc
slots_same (t ∷ lines) zero old line is = refl
slots_same (t ∷ lines) (suc n) old line is = slots_same lines n old line is

slots_other : (lines : List Held) (n m : ℕ) (line : Held) → m ≢ n → slots_at (set lines n line) m ≡ slots_at lines m
slots_other [] n m line differ = refl
slots_other (t ∷ lines) zero zero line differ = absurd (differ refl)
slots_other (t ∷ lines) zero (suc m) line differ = refl
slots_other (t ∷ lines) (suc n) zero line differ = refl
slots_other (t ∷ lines) (suc n) (suc m) line differ = slots_other lines n m line (λ e. differ (ap suc e))

pub slots_some : (lines : List Held) (n : ℕ) (line : Held) → slice_get lines n ≡ Some line → slots_at lines n ≡ line.slots
slots_some [] n line is = cc
slots_some (t ∷ lines) zero line is = ap (λ (l : Held). l.slots) (same_Some t line is)
slots_some (t ∷ lines) (suc n) line is = slots_some lines n line is

pub marked_some : (lines : List Held) (n : ℕ) (line : Held) → slice_get lines n ≡ Some line → marked_at lines n ≡ line.marked
marked_some [] n line is = cc
marked_some (t ∷ lines) zero line is = ap (λ (l : Held). l.marked) (same_Some t line is)
marked_some (t ∷ lines) (suc n) line is = marked_some lines n line is

pub marked_mine : (lines : List Held) (n : ℕ) (old line : Held) → slice_get lines n ≡ Some old → marked_at (set lines n line) n ≡ line.marked
marked_mine [] n old line is = cc
marked_mine (t ∷ lines) zero old line is = refl
marked_mine (t ∷ lines) (suc n) old line is = marked_mine lines n old line is

pub slots_out : (lines : List Held) (n : ℕ) → length lines ≤ n → slots_at lines n ≡ []
slots_out [] n out = refl
slots_out (t ∷ lines) zero out = absurd (omega (arith, out))
slots_out (t ∷ lines) (suc n) out = slots_out lines n (omega (arith, out))

pub marked_out : (lines : List Held) (n : ℕ) → length lines ≤ n → marked_at lines n ≡ false
marked_out [] n out = refl
marked_out (t ∷ lines) zero out = absurd (omega (arith, out))
marked_out (t ∷ lines) (suc n) out = marked_out lines n (omega (arith, out))

-- a line takes the place of another with the same mark
pub marked_set : (lines : List Held) (n m : ℕ) (line old : Held) → slice_get lines n ≡ Some old → line.marked ≡ old.marked → marked_at (set lines n line) m ≡ marked_at lines m
marked_set [] n m line old is same = refl
marked_set (t ∷ lines) zero zero line old is same = same ∙ ap (λ (l : Held). l.marked) (sym (same_Some t old is))
marked_set (t ∷ lines) zero (suc m) line old is same = refl
marked_set (t ∷ lines) (suc n) zero line old is same = refl
marked_set (t ∷ lines) (suc n) (suc m) line old is same = marked_set lines n m line old is same

-- a line takes the place of another that has no mark if it has none
pub unmarked_set : (lines : List Held) (n m : ℕ) (line old : Held) → slice_get lines n ≡ Some old → (line.marked ≡ false → old.marked ≡ false) → marked_at (set lines n line) m ≡ false → marked_at lines m ≡ false
unmarked_set [] n m line old is only un = refl
unmarked_set (t ∷ lines) zero zero line old is only un = ap (λ (l : Held). l.marked) (same_Some t old is) ∙ only un
unmarked_set (t ∷ lines) zero (suc m) line old is only un = un
unmarked_set (t ∷ lines) (suc n) zero line old is only un = un
unmarked_set (t ∷ lines) (suc n) (suc m) line old is only un = unmarked_set lines n m line old is only un

own_from : (shift at : ℕ) (lines : List Held) (n : ℕ) → HaveOwn shift at lines → AreOwn shift (at + n) (slots_at lines n)
own_from shift at [] n own = tt
own_from shift at (t ∷ lines) zero own = subst (λ (m : ℕ). AreOwn shift m t.slots) (omega arith) own.0
own_from shift at (t ∷ lines) (suc n) own = subst (λ (m : ℕ). AreOwn shift m (slots_at lines n)) (omega arith) (own_from shift (suc at) lines n own.1)

from_zero : (n : ℕ) → n ≡ 0 + n
from_zero n = omega arith

pub own_at : (shift : ℕ) (lines : List Held) (n : ℕ) → HaveOwn shift 0 lines → AreOwn shift n (slots_at lines n)
own_at shift lines n own = subst (λ (m : ℕ). AreOwn shift m (slots_at lines n)) (sym (from_zero n)) (own_from shift 0 lines n own)

own_put : (shift at : ℕ) (lines : List Held) (n : ℕ) (line : Held) → HaveOwn shift at lines → AreOwn shift (at + n) line.slots → HaveOwn shift at (set lines n line)
own_put shift at [] n line own mine = tt
own_put shift at (t ∷ lines) zero line own mine = (subst (λ (m : ℕ). AreOwn shift m line.slots) (omega arith) mine, own.1)
own_put shift at (t ∷ lines) (suc n) line own mine = (own.0, own_put shift (suc at) lines n line own.1 (subst (λ (m : ℕ). AreOwn shift m line.slots) (omega arith) mine))

-- a line of its own slots takes the place of another
pub own_set : (shift : ℕ) (lines : List Held) (n : ℕ) (line : Held) → HaveOwn shift 0 lines → AreOwn shift n line.slots → HaveOwn shift 0 (set lines n line)
own_set shift lines n line own mine = own_put shift 0 lines n line own (subst (λ (m : ℕ). AreOwn shift m line.slots) (from_zero n) mine)

pub are_at : (stored : List StoredItem) (lines : List Held) (n : ℕ) → AreLines stored lines → AreSlots stored (slots_at lines n)
are_at stored [] n are = tt
are_at stored (t ∷ lines) zero are = are.0
are_at stored (t ∷ lines) (suc n) are = are_at stored lines n are.1

pub are_set : (stored : List StoredItem) (lines : List Held) (n : ℕ) (line : Held) → AreLines stored lines → AreSlots stored line.slots → AreLines stored (set lines n line)
are_set stored [] n line are mine = tt
are_set stored (t ∷ lines) zero line are mine = (mine, are.1)
are_set stored (t ∷ lines) (suc n) line are mine = (are.0, are_set stored lines n line are.1 mine)

-- ---- the place of a key

-- a line has no key of another line
keys_none : (stored : List StoredItem) (shift at : ℕ) (slots : List Slot) (q : List ℕ) → AreSlots stored slots → AreOwn shift at slots → line_of shift q ≢ at → place_in (keys_in stored slots) q ≡ None
keys_none stored shift at [] q are own differ = refl
keys_none stored shift at (s ∷ slots) q are own differ =
    let key : List ℕ = (item_at stored s.place).key in
    let here : line_of shift key ≡ at = ap (λ (h : ℕ). h / 2 ^ shift) (sym are.0.hash) ∙ own.0 in
    ap (λ b. cond b (Some s.place) (place_in (keys_in stored slots) q)) (apart (line_of shift) q key (λ same. differ (sym same ∙ here)))
    ∙ keys_none stored shift at slots q are.1 own.1 differ

module _ (number : List ℕ → ℕ) (stored : List StoredItem) where
  -- the lines, numbered from `at` on, have no keys with other numbers
  abbrev HaveOwnKeys : ℕ → List Held → Type 0
  HaveOwnKeys at [] = ⊤
  HaveOwnKeys at (line ∷ lines) = ((q : List ℕ) → number q ≢ at → place_in (keys_in stored line.slots) q ≡ None) × HaveOwnKeys (suc at) lines

  none_after : (at : ℕ) (lines : List Held) (q : List ℕ) → HaveOwnKeys at lines → number q < at → place_in (keys_among stored lines) q ≡ None
  none_after at [] q own below = refl
  none_after at (line ∷ lines) q own below =
      lookup-append (is_at (hashed_cmp q)) (keys_in stored line.slots) (keys_among stored lines)
      ∙ ap (λ o. first_of o (place_in (keys_among stored lines) q)) (own.0 q (λ e. absurd (omega (arith, e))))
      ∙ none_after (suc at) lines q own.1 (omega arith)

  found_from : (at : ℕ) (lines : List Held) (q : List ℕ) (n : ℕ) → HaveOwnKeys at lines → number q ≡ at + n → place_in (keys_among stored lines) q ≡ place_in (keys_in stored (slots_at lines n)) q
  found_from at [] q n own is = refl
  found_from at (line ∷ lines) q zero own is =
      lookup-append (is_at (hashed_cmp q)) (keys_in stored line.slots) (keys_among stored lines)
      ∙ ap (first_of (place_in (keys_in stored line.slots) q)) (none_after (suc at) lines q own.1 (omega (arith, is)))
      ∙ first_of-none (place_in (keys_in stored line.slots) q)
  found_from at (line ∷ lines) q (suc n) own is =
      lookup-append (is_at (hashed_cmp q)) (keys_in stored line.slots) (keys_among stored lines)
      ∙ ap (λ o. first_of o (place_in (keys_among stored lines) q)) (own.0 q (λ e. absurd (omega (arith, e, is))))
      ∙ found_from (suc at) lines q n own.1 (omega (arith, is))

  found_in : (lines : List Held) (q : List ℕ) → HaveOwnKeys 0 lines → place_in (keys_among stored lines) q ≡ place_in (keys_in stored (slots_at lines (number q))) q
  found_in lines q own = found_from 0 lines q (number q) own (omega arith)

own_keys : (stored : List StoredItem) (shift at : ℕ) (lines : List Held) → AreLines stored lines → HaveOwn shift at lines → HaveOwnKeys (line_of shift) stored at lines
own_keys stored shift at [] are own = tt
own_keys stored shift at (line ∷ lines) are own =
    ((λ q differ. keys_none stored shift at line.slots q are.0 own.0 differ), own_keys stored shift (suc at) lines are.1 own.1)

-- the place of a key is the one in its line, or else in the tree
pub place_there : (stored : List StoredItem) (shift : ℕ) (lines : List Held) (tree : Keyed) (q : List ℕ) → AreLines stored lines → HaveOwn shift 0 lines
    → place_in (all_keys stored (table shift lines tree)) q ≡ place_in (keys_in stored (slots_at lines (line_of shift q)) ++ tree) q
place_there stored shift lines tree q are own =
    lookup-append (is_at (hashed_cmp q)) (keys_among stored lines) tree
    ∙ ap (λ o. first_of o (place_in tree q)) (found_in (line_of shift) stored lines q (own_keys stored shift 0 lines are own))
    ∙ sym (lookup-append (is_at (hashed_cmp q)) (keys_in stored (slots_at lines (line_of shift q))) tree)

-- ---- a change of one line and of the tree

module _ (stored : List StoredItem) (shift n : ℕ) (lines lines' : List Held) (tree tree' : Keyed)
    (are : AreLines stored lines) (own : HaveOwn shift 0 lines) (are' : AreLines stored lines') (own' : HaveOwn shift 0 lines')
    (others : (m : ℕ) → m ≢ n → slots_at lines' m ≡ slots_at lines m)
    (trees : (q : List ℕ) → line_of shift q ≢ n → place_in tree' q ≡ place_in tree q) where
  module _ (f : List ℕ → Option ℕ → Option ℕ) (keeps : (q : List ℕ) (o : Option ℕ) → line_of shift q ≢ n → f q o ≡ o)
      (here : (q : List ℕ) → place_in (keys_in stored (slots_at lines' n) ++ tree') q ≡ f q (place_in (keys_in stored (slots_at lines n) ++ tree) q)) where
    changed_by_line : (q : List ℕ) → (line_of shift q ≡ n) ⊎ (line_of shift q ≢ n)
        → place_in (keys_in stored (slots_at lines' (line_of shift q)) ++ tree') q ≡ f q (place_in (keys_in stored (slots_at lines (line_of shift q)) ++ tree) q)
    changed_by_line q (inl same) =
        ap (λ (m : ℕ). place_in (keys_in stored (slots_at lines' m) ++ tree') q) same ∙ here q
        ∙ ap (λ (m : ℕ). f q (place_in (keys_in stored (slots_at lines m) ++ tree) q)) (sym same)
    changed_by_line q (inr differ) =
        let row : Keyed = keys_in stored (slots_at lines (line_of shift q)) in
        ap (λ (slots : List Slot). place_in (keys_in stored slots ++ tree') q) (others (line_of shift q) differ)
        ∙ lookup-append (is_at (hashed_cmp q)) row tree'
        ∙ ap (first_of (place_in row q)) (trees q differ)
        ∙ sym (lookup-append (is_at (hashed_cmp q)) row tree)
        ∙ sym (keeps q (place_in (row ++ tree) q) differ)

    table_changed : (q : List ℕ) → place_in (all_keys stored (table shift lines' tree')) q ≡ f q (place_in (all_keys stored (table shift lines tree)) q)
    table_changed q =
        place_there stored shift lines' tree' q are' own'
        ∙ changed_by_line q (same_or_not (line_of shift q) n)
        ∙ ap (f q) (sym (place_there stored shift lines tree q are own))

  pub table_with : (key : List ℕ) (place : Option ℕ) → line_of shift key ≡ n
      → IsWith (keys_in stored (slots_at lines n) ++ tree) key place (keys_in stored (slots_at lines' n) ++ tree')
      → IsWith (all_keys stored (table shift lines tree)) key place (all_keys stored (table shift lines' tree'))
  table_with key place is here =
      table_changed (λ q o. cond (is_at (hashed_cmp key) q) place o)
      (λ q o differ. ap (λ b. cond b place o) (apart (line_of shift) key q (λ same. differ (same ∙ is)))) here

  pub table_same : SamePlaces (keys_in stored (slots_at lines n) ++ tree) (keys_in stored (slots_at lines' n) ++ tree')
      → SamePlaces (all_keys stored (table shift lines tree)) (all_keys stored (table shift lines' tree'))
  table_same here = table_changed (λ q o. o) (λ q o differ. refl) here

-- one line took the place of another
module _ (stored : List StoredItem) (shift n : ℕ) (lines : List Held) (line line' : Held) (tree tree' : Keyed)
    (are : AreLines stored lines) (own : HaveOwn shift 0 lines) (there : slice_get lines n ≡ Some line)
    (are' : AreSlots stored line'.slots) (own' : AreOwn shift n line'.slots)
    (trees : (q : List ℕ) → line_of shift q ≢ n → place_in tree' q ≡ place_in tree q) where
  abbrev after : List Held
  after = set lines n line'

  pub line_with : (key : List ℕ) (place : Option ℕ) → line_of shift key ≡ n → IsWith (keys_in stored line.slots ++ tree) key place (keys_in stored line'.slots ++ tree')
      → IsWith (all_keys stored (table shift lines tree)) key place (all_keys stored (table shift after tree'))
  line_with key place is here =
      table_with stored shift n lines after tree tree' are own (are_set stored lines n line' are are') (own_set shift lines n line' own own')
      (λ m differ. slots_other lines n m line' differ) trees key place is
      (λ q. ap (λ (slots : List Slot). place_in (keys_in stored slots ++ tree') q) (slots_same lines n line line' there) ∙ here q
      ∙ ap (λ (slots : List Slot). cond (is_at (hashed_cmp key) q) place (place_in (keys_in stored slots ++ tree) q)) (sym (slots_some lines n line there)))

  pub line_same : SamePlaces (keys_in stored line.slots ++ tree) (keys_in stored line'.slots ++ tree')
      → SamePlaces (all_keys stored (table shift lines tree)) (all_keys stored (table shift after tree'))
  line_same here =
      table_same stored shift n lines after tree tree' are own (are_set stored lines n line' are are') (own_set shift lines n line' own own')
      (λ m differ. slots_other lines n m line' differ) trees
      (λ q. ap (λ (slots : List Slot). place_in (keys_in stored slots ++ tree') q) (slots_same lines n line line' there) ∙ here q
      ∙ ap (λ (slots : List Slot). place_in (keys_in stored slots ++ tree) q) (sym (slots_some lines n line there)))
