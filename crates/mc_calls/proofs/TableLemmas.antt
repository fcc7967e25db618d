-- What all rows of the table of calls have in common, so that lemmas depend on what a call does and not on
-- its kind.
use Rattle.std.specs.Prelude.{◌==◌, ◌&&◌, ◌||◌, Option, None, Some, IfSome, is_some, unwrap_or}
use Rattle.std.proofs.Common.{ℕ, Bool, true, false, List, [], refl, sym, subst, arith, eq-eqb}
use Rattle.mc_calls.specs.declared.call.Call.{Call}
use Rattle.mc_calls.specs.declared.call.Call.TheVariants as Calls
use Rattle.mc_calls.specs.declared.call_kind.CallKind.{CallKind}
use Rattle.mc_calls.specs.declared.call_kind.CallKind.TheVariants.{Flush}
use Rattle.mc_calls.specs.declared.call_reply.CallReply.{CallReply}
use Rattle.mc_calls.specs.declared.call_reply.CallReply.TheVariants.{Hit, Stored, Number, Deleted}
use Rattle.mc_calls.specs.Table.{Act, Acts, says, shows, clears, tallies, always, by_item, row_of, parts_of, value_part}
use Rattle.mc_calls.specs.Call.{key_of}
use Rattle.mc_calls.specs.Code.{call_row, call_value}
use Rattle.mc_calls.specs.Kind.{IsTrue}
use Rattle.mc_calls.specs.Bounds.{IsValue, IsCall}
use Rattle.mc_calls.proofs.CodeLemmas.{value_within}

-- ---- tests

pub holds_first : (x y : Bool) → IsTrue x → IsTrue (x || y)
holds_first true y is = tt
holds_first false y is = absurd is

pub holds_second : (x y : Bool) → IsTrue y → IsTrue (x || y)
holds_second true y is = tt
holds_second false y is = is

pub holds_both : (x y : Bool) → IsTrue (x && y) → IsTrue x × IsTrue y
holds_both true true are = (tt, tt)
holds_both true false are = absurd are
holds_both false y are = absurd are

pub holds_equal : (n : ℕ) → IsTrue (n == n)
holds_equal n = subst IsTrue (sym (eq-eqb n n refl)) tt

-- ---- the rows

-- a reply that is only said shows no item, and does not say that one was stored or removed
abbrev pub is_mute : CallReply → Bool
is_mute (Hit flags unique value) = false
is_mute Stored = false
is_mute (Number number) = false
is_mute Deleted = false
is_mute reply = true

abbrev pub says_mute : Act → Bool
says_mute (says reply) = is_mute reply
says_mute act = true

abbrev pub say_mute : Acts → Bool
say_mute (always act) = says_mute act
say_mute (by_item without with) = says_mute without && says_mute with

pub rows_say : (kind : CallKind) → IsTrue (say_mute (row_of kind).acts)
rows_say Flush = tt
rows_say kind = tt

-- an act that is not about all items
abbrev pub is_at_one : Act → Bool
is_at_one clears = false
is_at_one act = true

-- all items are removed whether the key has one or not
abbrev pub are_single : Acts → Bool
are_single (always act) = true
are_single (by_item without with) = is_at_one without && is_at_one with

pub rows_single : (kind : CallKind) → IsTrue (are_single (row_of kind).acts)
rows_single Flush = tt
rows_single kind = tt

-- all items are removed
abbrev pub is_clear : Acts → Bool
is_clear (always clears) = true
is_clear acts = false

-- an act that needs no key
abbrev pub needs_none : Act → Bool
needs_none (says reply) = true
needs_none shows = true
needs_none tallies = true
needs_none act = false

-- a call without a key has acts that need none; to remove all items needs none either
abbrev pub are_at : Bool → Acts → Bool
are_at true acts = true
are_at false (always clears) = true
are_at false (always act) = needs_none act
are_at false (by_item without with) = needs_none without && needs_none with

pub calls_at : (call : Call) → IsTrue (are_at (is_some (key_of call)) (call_row call).acts)
calls_at Calls.Flush = tt
calls_at call = tt

-- ---- the value of a call

pub value_small : (call : Call) → IsCall call → IsValue (value_part (parts_of call))
value_small call is = go (call_value call) (value_within call is)
  where
    go : (value : Option (List ℕ)) → IfSome value IsValue → IsValue (unwrap_or value [])
    go None small = omega arith
    go (Some value) small = small
