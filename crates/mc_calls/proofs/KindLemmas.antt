-- What each act answers and does, so that each call gets a reply of a kind that the table of calls gives for it,
-- and its outcome has each property that the outcomes of all acts have.
use Rattle.std.specs.Prelude.{Option, None, Some, nat_lt, ◌==◌, ◌&&◌, if◌then◌else◌}
use Rattle.std.proofs.Common.{◌≡◌, ℕ, ◌+◌, ◌-◌, ◌%◌, ◌^◌, ◌<◌, Bool, true, false, cond, List, ◌++◌, length, refl, arith}
use Rattle.std.specs.Str.Parse.{digits_value}
use borrow.Author.Tests.{ltb-true, ltb-false}
use Rattle.mc_calls.specs.declared.item.Item.{Item}
use Rattle.mc_calls.specs.declared.call.Call.{Call}
use Rattle.mc_calls.specs.declared.call_reply.CallReply.{CallReply}
use Rattle.mc_calls.specs.declared.call_reply.CallReply.TheVariants.{Miss, Hit, NotStored, Exists, NotFound, Deleted, NotNumber, TooLarge, Flushed}
use Rattle.mc_calls.specs.declared.tallied.Tallied.{Tallied}
use Rattle.mc_calls.specs.Table.{CallParts, parts_of, key_part, flags_part, number_part, value_part, Act, Acts, says, shows, puts, appends, prepends, exchanges, counts_up, counts_down, takes, clears, tallies, always, by_item}
use Rattle.zy_base.specs.Number.{number_of, is_numeral}
use Rattle.mc_calls.specs.Shard.{State, Outcome, removes, empties, value_limit, answers, stored, joined, renumbered, counted_up, counted_down, tallied, done, done_of, says_without, says_with, may_say, outcome_of, item_at, reply_to}
use Rattle.mc_calls.specs.Call.{key_of}
use Rattle.mc_calls.specs.Bounds.{IsValue}
use Rattle.mc_calls.specs.Code.{call_row, call_kind, reply_code, tally}
use Rattle.mc_calls.proofs.TableLemmas.{holds_first, holds_second, holds_both, holds_equal, is_mute, says_mute, say_mute, rows_say, is_at_one, are_single, rows_single, is_clear, needs_none, are_at}
use Rattle.mc_calls.specs.Kind.{IsTrue, MayAnswer}

chosen : (act : Act) (b : Bool) (x y : Outcome) → IsTrue (says_with act x.reply) → IsTrue (says_with act y.reply) → IsTrue (says_with act (cond b x y).reply)
chosen act true x y here there = here
chosen act false x y here there = there

counted_up_says : (key : List ℕ) (item : Item) (amount : ℕ) (number : Option ℕ) → IsTrue (says_with counts_up (counted_up key item amount number).reply)
counted_up_says key item amount None = tt
counted_up_says key item amount (Some number) = tt

counted_down_says : (key : List ℕ) (item : Item) (amount : ℕ) (number : Option ℕ) → IsTrue (says_with counts_down (counted_down key item amount number).reply)
counted_down_says key item amount None = tt
counted_down_says key item amount (Some number) = tt

-- the reply of each act
says_none : (counts : Tallied) (call : CallParts) (act : Act) → IsTrue (says_without act (done counts call act None).reply)
says_none counts call (says reply) = holds_equal (reply_code reply)
says_none counts call act = tt

says_some : (counts : Tallied) (call : CallParts) (act : Act) (item : Item) → IsTrue (says_with act (done counts call act (Some item)).reply)
says_some counts call (says reply) item = holds_equal (reply_code reply)
says_some counts call appends item = chosen appends (nat_lt value_limit (length (item.value ++ (value_part call)))) _ _ tt tt
says_some counts call prepends item = chosen prepends (nat_lt value_limit (length ((value_part call) ++ item.value))) _ _ tt tt
says_some counts call exchanges item = chosen exchanges (item.unique == (number_part call)) _ _ tt tt
says_some counts call counts_up item = counted_up_says (key_part call) item (number_part call) (number_of item.value)
says_some counts call counts_down item = counted_down_says (key_part call) item (number_part call) (number_of item.value)
says_some counts call act item = tt

-- ---- what an act comes to

-- all items are removed
abbrev pub cleared : Outcome
cleared = record { reply = Flushed; effect = empties }

-- a property that all outcomes have at the key of a call that finds this
pub record Outcomes (call : CallParts) (found : Option Item) (P : Outcome → Type 0) : Type 0 where
  -- a reply alone
  pub says : (reply : CallReply) → IsTrue (is_mute reply) → P (answers reply)
  -- the item
  pub shows : (item : Item) → found ≡ Some item → P (answers (Hit item.flags item.unique item.value))
  -- a value that is stored
  pub stores : (flags : ℕ) (value : List ℕ) → (IsValue (value_part call) → IsValue value) → P (stored (key_part call) flags value)
  -- a number that is stored
  pub numbers : (item : Item) (number : ℕ) → number < 2 ^ 64 → P (renumbered (key_part call) item number)
  -- an item that is removed
  pub takes : P (record { reply = Deleted; effect = removes (key_part call) })

number_small : (text : List ℕ) (number : ℕ) → number_of text ≡ Some number → number < 2 ^ 64
number_small text number is = go (is_numeral text) (nat_lt (digits_value 10 text) (2 ^ 64)) refl is
  where
    go : (a b : Bool) → nat_lt (digits_value 10 text) (2 ^ 64) ≡ b → (if a && b then Some (digits_value 10 text) else None) ≡ Some number → number < 2 ^ 64
    go true true below found = let same : digits_value 10 text ≡ number = cc in let less = ltb-true (digits_value 10 text) (2 ^ 64) below in omega arith
    go true false below found = absurd (cc)
    go false b below found = absurd (cc)

module _ (counts : Tallied) (call : CallParts) (found : Option Item) (P : Outcome → Type 0) (each : Outcomes call found P) where
  joined_by : (item : Item) (value : List ℕ) → P (joined (key_part call) item value)
  joined_by item value = go (nat_lt value_limit (length value)) refl
    where
      go : (b : Bool) → nat_lt value_limit (length value) ≡ b → P (if b then answers TooLarge else stored (key_part call) item.flags value)
      go true over = each.says TooLarge tt
      go false over = each.stores item.flags value (λ small. ltb-false value_limit (length value) over)

  exchanged_by : (b : Bool) → P (if b then stored (key_part call) (flags_part call) (value_part call) else answers Exists)
  exchanged_by true = each.stores (flags_part call) (value_part call) (λ small. small)
  exchanged_by false = each.says Exists tt

  up_by : (item : Item) (number : Option ℕ) → P (counted_up (key_part call) item (number_part call) number)
  up_by item None = each.says NotNumber tt
  up_by item (Some number) = each.numbers item ((number + number_part call) % 2 ^ 64) (omega arith)

  down_by : (item : Item) (number : Option ℕ) → number_of item.value ≡ number → P (counted_down (key_part call) item (number_part call) number)
  down_by item None is = each.says NotNumber tt
  down_by item (Some number) is = each.numbers item (number - number_part call) (let less = number_small item.value number is in omega arith)

  -- an act about one item
  done_by : (act : Act) (own : Option Item) → found ≡ own → IsTrue (says_mute act) → IsTrue (is_at_one act) → P (done counts call act own)
  done_by (says reply) own is mute at = each.says reply mute
  done_by shows None is mute at = each.says Miss tt
  done_by shows (Some item) is mute at = each.shows item is
  done_by puts own is mute at = each.stores (flags_part call) (value_part call) (λ small. small)
  done_by appends None is mute at = each.says NotStored tt
  done_by appends (Some item) is mute at = joined_by item (item.value ++ value_part call)
  done_by prepends None is mute at = each.says NotStored tt
  done_by prepends (Some item) is mute at = joined_by item (value_part call ++ item.value)
  done_by exchanges None is mute at = each.says NotFound tt
  done_by exchanges (Some item) is mute at = exchanged_by (item.unique == number_part call)
  done_by counts_up None is mute at = each.says NotFound tt
  done_by counts_up (Some item) is mute at = up_by item (number_of item.value)
  done_by counts_down None is mute at = each.says NotFound tt
  done_by counts_down (Some item) is mute at = down_by item (number_of item.value) refl
  done_by takes None is mute at = each.says NotFound tt
  done_by takes (Some item) is mute at = each.takes
  done_by clears own is mute at = absurd at
  done_by tallies own is mute at = each.says (tally counts) tt

  -- the acts of a call
  pub acts_by : (acts : Acts) (own : Option Item) → found ≡ own → IsTrue (say_mute acts) → IsTrue (are_single acts) → (IsTrue (is_clear acts) → P cleared) → P (done_of counts call acts own)
  acts_by (always clears) own is mute single none = none tt
  acts_by (always act) own is mute single none = done_by act own is mute tt
  acts_by (by_item without with) None is mute single none = done_by without None is (holds_both _ _ mute).0 (holds_both _ _ single).0
  acts_by (by_item without with) (Some item) is mute single none = done_by with (Some item) is (holds_both _ _ mute).1 (holds_both _ _ single).1

-- a property of the outcomes of all acts, and of the removal of all items where the call does that, is one of each call's
pub outcome_by : (counts : Tallied) (call : Call) (found : Option Item) (P : Outcome → Type 0) → Outcomes (parts_of call) found P → (IsTrue (is_clear (call_row call).acts) → P cleared)
    → P (outcome_of counts call found)
outcome_by counts call found P each none =
    acts_by counts (parts_of call) found P each (call_row call).acts found refl (rows_say (call_kind call)) (rows_single (call_kind call)) none

-- a property of what needs no key is one of each call's that has none
pub bare_by : (counts : Tallied) (call : CallParts) (found : Option Item) (P : Outcome → Type 0) → ((reply : CallReply) → IsTrue (is_mute reply) → P (answers reply))
    → ((item : Item) → P (answers (Hit item.flags item.unique item.value))) → (acts : Acts) → IsTrue (say_mute acts) → IsTrue (are_at false acts) → (IsTrue (is_clear acts) → P cleared)
    → P (done_of counts call acts found)
bare_by counts call found P says_it shows_it acts mute at none = go acts found mute at none
  where
    bare : (act : Act) (found : Option Item) → IsTrue (says_mute act) → IsTrue (needs_none act) → P (done counts call act found)
    bare (says reply) found mute none = says_it reply mute
    bare shows None mute none = says_it Miss tt
    bare shows (Some item) mute none = shows_it item
    bare tallies found mute none = says_it (tally counts) tt
    bare act found mute none = absurd none

    go : (acts : Acts) (found : Option Item) → IsTrue (say_mute acts) → IsTrue (are_at false acts) → (IsTrue (is_clear acts) → P cleared) → P (done_of counts call acts found)
    go (always clears) found mute at all = all tt
    go (always act) found mute at all = bare act found mute at
    go (by_item without with) None mute at all = bare without None (holds_both _ _ mute).0 (holds_both _ _ at).0
    go (by_item without with) (Some item) mute at all = bare with (Some item) (holds_both _ _ mute).1 (holds_both _ _ at).1

-- ---- replies

-- the reply of each row of the table
row_says : (counts : Tallied) (call : CallParts) (acts : Acts) (found : Option Item) → IsTrue (may_say acts (done_of counts call acts found).reply)
row_says counts call (always act) None = holds_first _ _ (says_none counts call act)
row_says counts call (always act) (Some item) = holds_second _ _ (says_some counts call act item)
row_says counts call (by_item without with) None = holds_first _ _ (says_none counts call without)
row_says counts call (by_item without with) (Some item) = holds_second _ _ (says_some counts call with item)

pub outcome_answers : (counts : Tallied) (call : Call) (found : Option Item) → MayAnswer call (outcome_of counts call found).reply
outcome_answers counts call found = row_says counts (parts_of call) (call_row call).acts found

-- the reply of a shard
pub reply_answers : (state : State) (call : Call) → MayAnswer call (reply_to state call)
reply_answers state call = outcome_answers (tallied state) call (item_at state.items (key_of call))
