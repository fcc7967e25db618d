-- The connections of the example capture are apart, and the example run is one of its runs.
use Rattle.std.proofs.Common.{◌≡◌, ℕ, zero, suc, ◌<◌, List, [], ◌∷◌, codes, get_or, Option, Some, refl, sym, ap, ◌∙◌}
use Rattle.std.proofs.Common.{subst, arith}
use Rattle.std.specs.Prelude.{All}
use Rattle.std.specs.List.{Contains}
use Rattle.std.specs.FinMap.{get, insert, get-empty, get-insert}
use Rattle.std.specs.Ordering.{nat_cmp}
use Rattle.std.specs.Cmp.Lexicographic.{slice_cmp, nat_list_cmp_total}
use Rattle.std.proofs.lemmas.List.Elements.{All-from_recursion}
use Rattle.mc_calls.specs.declared.item.Item.{Item}
use Rattle.mc_calls.specs.declared.call.Call.TheVariants as Calls
use Rattle.mc_calls.specs.declared.call_reply.CallReply.TheVariants as Replies
use Rattle.mc_calls.specs.Shard.{State, empty_state, tallied, reply_to, state_after, outcome_of}
use Rattle.mc_calls.specs.History.{IsLegal}
use Rattle.mc_parse.specs.Calls.{due, dues_of}
use Rattle.mc_parse.specs.Words.{words}
use Rattle.mc_parse.specs.Need.{need}
use Rattle.mc_parse.specs.Meaning.{line_command, block_command}
use Rattle.mc_calls.specs.Order.{of_connection}
use Rattle.zy_frame.specs.Cut.{cut_of, frames_of}
use Rattle.zy_run.specs.Commands.{commands_in}
use Rattle.zy_run.specs.Run.{IsRun}
use Rattle.mc_parse.specs.Plain.{all_keys_of, IsPlain}
use Rattle.zy_run.specs.Apart.{AreApart}
use Rattle.run_laws.specs.WorkedApart.{apart_records, apart_entries}

-- ---- the run

missed : Replies.Miss ≡ reply_to empty_state (Calls.Get (codes "b"))
missed = sym (ap (λ (found : Option Item). (outcome_of (tallied empty_state) (Calls.Get (codes "b")) found).reply) (get-empty (slice_cmp nat_cmp) (codes "b")))

hit : Replies.Hit 0 28 (codes "x") ≡ reply_to (state_after 16 12 empty_state (Calls.Set (codes "a") 0 (codes "x"))) (Calls.Get (codes "a"))
hit =
    let item : Item = record { flags = 0; value = codes "x"; unique = 28 } in
    let found : get (insert empty_state.items (codes "a") item) (codes "a") ≡ Some item = get-insert nat_list_cmp_total empty_state.items (codes "a") item (codes "a") in
    let after : State = state_after 16 12 empty_state (Calls.Set (codes "a") 0 (codes "x")) in
    sym (ap (λ (found : Option Item). (outcome_of (tallied after) (Calls.Get (codes "a")) found).reply) found)

worked_is_legal : IsLegal 16 apart_entries
worked_is_legal = (omega arith, missed, (omega arith, refl, (omega arith, hit, tt)))

calls : (conn : ℕ) → conn < 2 → dues_of (of_connection conn apart_entries) ≡ due 16 conn (commands_in apart_records conn)
unfolding cut_of frames_of need words line_command block_command
calls zero below = refl
calls (suc zero) below = refl
calls (suc (suc conn)) below = absurd (omega arith)

pub worked_run : IsRun 16 apart_entries 2 (commands_in apart_records)
worked_run = record { legal = worked_is_legal; connections = (omega arith, (omega arith, (omega arith, tt))); calls = calls }

-- ---- the commands

plain : (conn : ℕ) → conn < 2 → All IsPlain (commands_in apart_records conn)
unfolding cut_of frames_of need words line_command block_command
plain zero below = All-from_recursion IsPlain (commands_in apart_records 0) ((tt, tt), ((tt, tt), tt))
plain (suc zero) below = All-from_recursion IsPlain (commands_in apart_records 1) ((tt, tt), tt)
plain (suc (suc conn)) below = absurd (omega arith)

keys_0 : all_keys_of (commands_in apart_records 0) ≡ codes "a" ∷ codes "a" ∷ []
unfolding cut_of frames_of need words line_command block_command
keys_0 = refl

keys_1 : all_keys_of (commands_in apart_records 1) ≡ codes "b" ∷ []
unfolding cut_of frames_of need words line_command block_command
keys_1 = refl

one_of_a : (key : List ℕ) → Contains (codes "a" ∷ codes "a" ∷ []) key → key ≡ codes "a"
one_of_a key (zero, within, is) = sym is
one_of_a key (suc zero, within, is) = sym is
one_of_a key (suc (suc k), within, is) = absurd (omega arith)

one_of_b : (key : List ℕ) → Contains (codes "b" ∷ []) key → key ≡ codes "b"
one_of_b key (zero, within, is) = sym is
one_of_b key (suc k, within, is) = absurd (omega arith)

-- no key is called by both
no_key : (key : List ℕ) → Contains (all_keys_of (commands_in apart_records 0)) key → Contains (all_keys_of (commands_in apart_records 1)) key → ⊥
no_key key first second =
    let is_a : key ≡ codes "a" = one_of_a key (subst (λ keys. Contains keys key) keys_0 first) in
    let is_b : key ≡ codes "b" = one_of_b key (subst (λ keys. Contains keys key) keys_1 second) in
    let same : ◌≡◌ {A = ℕ} 97 98 = ap (λ (k : List ℕ). get_or k 0 0) (sym is_a ∙ is_b) in
    omega arith

apart_keys : (conn other : ℕ) (key : List ℕ) → conn < 2 → other < 2 → Contains (all_keys_of (commands_in apart_records conn)) key → Contains (all_keys_of (commands_in apart_records other)) key → conn ≡ other
apart_keys zero zero key below below' first second = refl
apart_keys zero (suc zero) key below below' first second = absurd (no_key key first second)
apart_keys (suc zero) zero key below below' first second = absurd (no_key key second first)
apart_keys (suc zero) (suc zero) key below below' first second = refl
apart_keys (suc (suc conn)) other key below below' first second = absurd (omega arith)
apart_keys conn (suc (suc other)) key below below' first second = absurd (omega arith)

pub worked_apart : AreApart 2 (commands_in apart_records)
worked_apart = record { plain = plain; keys = apart_keys }
