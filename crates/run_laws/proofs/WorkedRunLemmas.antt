-- The example run is a run.
use Rattle.std.proofs.Common.{◌≡◌, ℕ, List, codes, Option, None, Some, refl, sym, ap, subst, arith}
use Rattle.std.specs.FinMap.{get, insert, get-empty, get-insert}
use Rattle.std.specs.Ordering.{nat_cmp}
use Rattle.std.specs.Cmp.Lexicographic.{slice_cmp, nat_list_cmp_total}
use Rattle.mc_calls.specs.declared.item.Item.{Item}
use Rattle.mc_calls.specs.declared.call.Call.TheVariants as Calls
use Rattle.mc_calls.specs.declared.call_reply.CallReply.TheVariants as Replies
use Rattle.mc_calls.specs.Shard.{State, Outcome, empty_state, tallied, reply_to, state_after, state_with, with_calls}
use Rattle.mc_calls.specs.Shard.{outcome_of}
use Rattle.mc_calls.specs.Counted.{no_calls, calls_with}
use Rattle.mc_calls.specs.History.{IsLegal}
use Rattle.run_laws.specs.WorkedRun.{worked_entries}

abbrev key : List ℕ
key = codes "a"

none : get empty_state.items key ≡ None
none = get-empty (slice_cmp nat_cmp) key

missed : Replies.Miss ≡ reply_to empty_state (Calls.Get key)
missed = sym (ap (λ (found : Option Item). (outcome_of (tallied empty_state) (Calls.Get key) found).reply) none)

-- the shard after the get that missed
abbrev once : State
once = with_calls empty_state (calls_with no_calls (Calls.Get key) Replies.Miss)

still : state_after 16 12 empty_state (Calls.Get key) ≡ once
still =
    ap (λ (found : Option Item).
    let outcome : Outcome = outcome_of (tallied empty_state) (Calls.Get key) found in
    with_calls (state_with 16 12 empty_state outcome.effect) (calls_with no_calls (Calls.Get key) outcome.reply)) none

hit : (s : State) → s ≡ once → Replies.Hit 0 28 (codes "x") ≡ reply_to (state_after 16 12 s (Calls.Set key 0 (codes "x"))) (Calls.Get key)
hit s is =
    let item : Item = record { flags = 0; value = codes "x"; unique = 28 } in
    let found : get (insert empty_state.items key item) key ≡ Some item = get-insert nat_list_cmp_total empty_state.items key item key in
    let after : State = state_after 16 12 once (Calls.Set key 0 (codes "x")) in
    subst (λ (t : State). Replies.Hit 0 28 (codes "x") ≡ reply_to (state_after 16 12 t (Calls.Set key 0 (codes "x"))) (Calls.Get key)) (sym is)
    (sym (ap (λ (found : Option Item). (outcome_of (tallied after) (Calls.Get key) found).reply) found))

pub worked_is_legal : IsLegal 16 worked_entries
worked_is_legal = (omega arith, missed, (omega arith, refl, (omega arith, hit (state_after 16 12 empty_state (Calls.Get key)) still, tt)))
