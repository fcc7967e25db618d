-- Going through the entries: the next call, and the state of connections and shards.
use Rattle.std.specs.Prelude.{All, IfSome}
use Rattle.std.specs.List.{slice_get, slice_set}
use Rattle.std.proofs.Common.{◌≡◌, ◌≢◌, ℕ, zero, suc, ◌+◌, ◌<◌, ◌≤◌, List, [], ◌∷◌, ◌++◌, length, take, drop, Option, Some, refl, sym, ap, ◌∙◌, subst, arith}
use Rattle.std.proofs.lemmas.List.{length-set, take_more}
use Rattle.std.proofs.lemmas.List.Elements.{All-head, All-tail}
use Rattle.std.proofs.lemmas.Option.{slice_get_within, get_or_from_slice_get}
use mathlib.Core.Logic.{dite}
use native.Mathlib.Decide.{ℕ_discrete}
use Rattle.mc_calls.specs.declared.entry.Entry.{Entry}
use Rattle.mc_calls.specs.Order.{of_connection, at_shard}
use Rattle.mc_calls.specs.Shard.{State, empty_state, reply_to}
use Rattle.mc_calls.specs.History.{replayed}
use Rattle.zy_base.proofs.SetLemmas.{slice_get-set, slice_get-set_other}
use Rattle.mc_calls.proofs.ReplayLemmas.{replayed-push}
use Rattle.mc_calls.proofs.EntryLemmas.{of_connection-here, of_connection-other, at_shard-push, at_shard-push_other}
use Rattle.mc_parse.specs.Calls.{due_of, dues_of, IsDueOn}
use Rattle.mc_parse.proofs.CallLemmas.{due_within}
use Rattle.mc_shard.specs.Replay.{Replayed, replaying, state_replayed}
use Rattle.zy_run.specs.Commands.{commands_held}
use Rattle.zy_check.specs.Given.{Given, due_in, IsNextCall, IsNextAt, IsAnswered, IsAnsweredAt, AreRightBelow}
use Rattle.zy_check.specs.Cause.{IsWrongReply}
use Rattle.zy_check.specs.Walk.{AreReplayed}
use Rattle.zy_check.proofs.DueLemmas.{asked_at}

-- ---- the entries that are left

-- the first of them is at the place, and the others are behind it
pub left_first : (es : List Entry) (at : ℕ) (e : Entry) (rest : List Entry) → drop at es ≡ e ∷ rest → (slice_get es at ≡ Some e) × (rest ≡ drop (at + 1) es) × (at + 1 ≤ length es)
left_first [] zero e rest is = absurd (cc)
left_first [] (suc at) e rest is = absurd (cc)
left_first (x ∷ es) zero e rest is =
    let same : x ≡ e = cc in let others : es ≡ rest = cc in (ap (λ (y : Entry). Some y) same, sym others, omega arith)
left_first (x ∷ es) (suc at) e rest is =
    let more = left_first es at e rest is in
    let step : suc (at + 1) ≡ suc at + 1 = omega arith in (more.0, more.1 ∙ ap (λ (n : ℕ). drop n (x ∷ es)) step, let within = more.2 in omega (arith, within))

-- where none is left, the place is at the end
pub none_left : (es : List Entry) (at : ℕ) → drop at es ≡ [] → at ≤ length es → at ≡ length es
none_left [] zero none within = refl
none_left [] (suc at) none within = absurd (omega (arith, within))
none_left (x ∷ es) zero none within = absurd (cc)
none_left (x ∷ es) (suc at) none within = ap suc (none_left es at none (omega (arith, within)))

-- ---- one further entry

pub take_next : (es : List Entry) (at : ℕ) (e : Entry) → slice_get es at ≡ Some e → take (at + 1) es ≡ take at es ++ e ∷ []
take_next es at e is =
    take_more es at e (slice_get_within es at e is) ∙ ap (λ (x : Entry). take at es ++ x ∷ []) (get_or_from_slice_get es at e e is)

-- an entry's place among those of its connection
pub own_here : (conn : ℕ) (es : List Entry) (at : ℕ) (e : Entry) → slice_get es at ≡ Some e → e.tag.conn ≡ conn → slice_get (of_connection conn es) (length (of_connection conn (take at es))) ≡ Some e
own_here conn [] at e is mine = absurd (cc)
own_here conn (x ∷ xs) zero e is mine =
    let same : x ≡ e = cc in
    ap (λ (l : List Entry). slice_get l 0) (of_connection-here conn x xs (ap (λ (y : Entry). y.tag.conn) same ∙ mine)) ∙ ap (λ (y : Entry). Some y) same
own_here conn (x ∷ xs) (suc at) e is mine = dite (ℕ_discrete x.tag.conn conn)
    (λ here. (λ i. slice_get (of_connection-here conn x xs here i) (length (of_connection-here conn x (take at xs) here i))) ∙ own_here conn xs at e is mine)
    (λ other. (λ i. slice_get (of_connection-other conn x xs other i) (length (of_connection-other conn x (take at xs) other i))) ∙ own_here conn xs at e is mine)

-- an entry of a connection, the `j`-th of its connection, at a place below another
pub record IsOwn (conn : ℕ) (es : List Entry) (at j : ℕ) : Type 0 where
  pub place : ℕ
  pub entry : Entry
  pub below : place < at
  pub is : slice_get es place ≡ Some entry
  pub mine : entry.tag.conn ≡ conn
  pub before : length (of_connection conn (take place es)) ≡ j

own_first : (conn : ℕ) (x : Entry) (xs : List Entry) (at : ℕ) → x.tag.conn ≡ conn → IsOwn conn (x ∷ xs) (suc at) 0
own_first conn x xs at mine = record { place = 0; entry = x; below = omega arith; is = refl; mine = mine; before = refl }

own_later : (conn : ℕ) (x : Entry) (xs : List Entry) (at j : ℕ) → x.tag.conn ≡ conn → IsOwn conn xs at j → IsOwn conn (x ∷ xs) (suc at) (suc j)
own_later conn x xs at j here own = record {
  place = suc own.place;
  entry = own.entry;
  below = let b = own.below in omega arith;
  is = own.is;
  mine = own.mine;
  before = ap (λ (l : List Entry). length l) (of_connection-here conn x (take own.place xs) here) ∙ ap suc own.before;
}

own_past : (conn : ℕ) (x : Entry) (xs : List Entry) (at j : ℕ) → x.tag.conn ≢ conn → IsOwn conn xs at j → IsOwn conn (x ∷ xs) (suc at) j
own_past conn x xs at j other own = record {
  place = suc own.place;
  entry = own.entry;
  below = let b = own.below in omega arith;
  is = own.is;
  mine = own.mine;
  before = ap (λ (l : List Entry). length l) (of_connection-other conn x (take own.place xs) other) ∙ own.before;
}

-- each of the first entries of a connection is at some place
pub own_there : (conn : ℕ) (es : List Entry) (at j : ℕ) → j < length (of_connection conn (take at es)) → IsOwn conn es at j
own_there conn es zero j within = absurd (omega arith)
own_there conn [] (suc at) j within = absurd (omega arith)
own_there conn (x ∷ xs) (suc at) zero within = dite (ℕ_discrete x.tag.conn conn)
    (λ here. own_first conn x xs at here)
    (λ other.
    let size = ap (λ (l : List Entry). length l) (of_connection-other conn x (take at xs) other) in
    own_past conn x xs at 0 other (own_there conn xs at 0 (omega arith)))
own_there conn (x ∷ xs) (suc at) (suc j) within = dite (ℕ_discrete x.tag.conn conn)
    (λ here.
    let size = ap (λ (l : List Entry). length l) (of_connection-here conn x (take at xs) here) in
    own_later conn x xs at j here (own_there conn xs at j (omega arith)))
    (λ other.
    let size = ap (λ (l : List Entry). length l) (of_connection-other conn x (take at xs) other) in
    own_past conn x xs at (suc j) other (own_there conn xs at (suc j) (omega arith)))

-- ---- the next call

all_at : {A : Type 0} (P : A → Type 0) (xs : List A) (k : ℕ) (x : A) → All P xs → slice_get xs k ≡ Some x → P x
all_at P [] k x all is = absurd (cc)
all_at P (y ∷ ys) zero x all is = let same : y ≡ x = cc in subst P same (All-head P y ys all)
all_at P (y ∷ ys) (suc k) x all is = all_at P ys k x (All-tail P y ys all) is

-- the next call is on one of the shards
pub next_within : (g : Given) (before : List Entry) (e : Entry) → 1 ≤ g.shards → IsNextCall g before e → e.shard < g.shards
next_within g before e some next =
    all_at (IsDueOn g.shards) (due_in g e.tag.conn) (length (of_connection e.tag.conn before)) (due_of e) (due_within g.shards e.tag.conn (commands_held g.streams e.tag.conn) some) next.call

-- if all entries before are right, their calls are the expected ones
pub right_so_far : (g : Given) (at conn j : ℕ) → AreRightBelow g at → j < length (of_connection conn (take at g.entries)) → slice_get (dues_of (of_connection conn g.entries)) j ≡ slice_get (due_in g conn) j
right_so_far g at conn j right within =
    let own = own_there conn g.entries at j within in
    let next : IsNextCall g (take own.place g.entries) own.entry = subst (λ (o : Option Entry). IfSome o (IsNextCall g (take own.place g.entries))) own.is (right own.place own.below).0 in
    let asked = asked_at (of_connection conn g.entries) j own.entry ((λ i. slice_get (of_connection conn g.entries) (sym own.before i)) ∙ own_here conn g.entries own.place own.entry own.is own.mine) in
    asked ∙ sym ((λ i. slice_get (due_in g (sym own.mine i)) (length (of_connection (sym own.mine i) (take own.place g.entries)))) ∙ next.call) ∙ (λ i. slice_get (due_in g conn) (own.before i))

-- ---- one entry on

pub replayed_step : (shards at : ℕ) (es : List Entry) (e : Entry) (states : List Replayed) (old new : Replayed) → AreReplayed shards (take at es) states → slice_get es at ≡ Some e → e.shard < shards
    → slice_get states e.shard ≡ Some old → new ≡ state_replayed old e.call → AreReplayed shards (take (at + 1) es) (slice_set states e.shard new)
replayed_step shards at es e states old new are is within found changed =
    let size = are.count in
    let before : Entry → List Entry = λ x. at_shard x.shard (take at es) in
    let old_is : old ≡ replaying e.shard shards (replayed shards e.shard empty_state (at_shard e.shard (take at es))) =
    let both : Some old ≡ Some (replaying e.shard shards (replayed shards e.shard empty_state (at_shard e.shard (take at es)))) = sym found ∙ are.each e.shard within in cc in
    let more : at_shard e.shard (take (at + 1) es) ≡ at_shard e.shard (take at es) ++ e ∷ [] = ap (at_shard e.shard) (take_next es at e is) ∙ at_shard-push e.shard (take at es) e refl in
    let new_is : new ≡ replaying e.shard shards (replayed shards e.shard empty_state (at_shard e.shard (take (at + 1) es))) =
    changed ∙ ap (λ (r : Replayed). state_replayed r e.call) old_is
    ∙ ap (replaying e.shard shards) (sym (replayed-push shards e.shard empty_state (at_shard e.shard (take at es)) e) ∙ ap (replayed shards e.shard empty_state) (sym more)) in record {
      count = length-set states e.shard new ∙ size;
      each = λ s below. dite (ℕ_discrete s e.shard)
          (λ same. (λ i. slice_get (slice_set states e.shard new) (same i)) ∙ slice_get-set states e.shard new (omega arith) ∙ ap (λ (r : Replayed). Some r) new_is
          ∙ (λ i. Some (replaying (sym same i) shards (replayed shards (sym same i) empty_state (at_shard (sym same i) (take (at + 1) es))))))
          (λ other. slice_get-set_other states e.shard s new other ∙ are.each s below
          ∙ ap (λ (l : List Entry). Some (replaying s shards (replayed shards s empty_state l))) (sym (ap (at_shard s) (take_next es at e is) ∙ at_shard-push_other s (take at es) e (λ f. other (sym f)))));
    }

pub right_step : (g : Given) (at : ℕ) → AreRightBelow g at → IsNextAt g at → IsAnsweredAt g at → AreRightBelow g (at + 1)
right_step g at right next answered k below = dite (ℕ_discrete at k)
    (λ same. subst (λ (n : ℕ). IsNextAt g n × IsAnsweredAt g n) same (next, answered))
    (λ other. right k (omega arith))

-- ---- the reply

-- the state of a shard is that of its calls so far
state_is : (shards at : ℕ) (es : List Entry) (e : Entry) (states : List Replayed) (old : Replayed) → AreReplayed shards (take at es) states → e.shard < shards → slice_get states e.shard ≡ Some old
    → old.state ≡ replayed shards e.shard empty_state (at_shard e.shard (take at es))
state_is shards at es e states old are within found =
    let both : Some old ≡ Some (replaying e.shard shards (replayed shards e.shard empty_state (at_shard e.shard (take at es)))) = sym found ∙ are.each e.shard within in
    let same : old ≡ replaying e.shard shards (replayed shards e.shard empty_state (at_shard e.shard (take at es))) = cc in
    ap (λ (r : Replayed). r.state) same

-- ---- the entry at a place

module _ (g : Given) (at : ℕ) (e : Entry) (is : slice_get g.entries at ≡ Some e) where
  pub next_at : IsNextCall g (take at g.entries) e → IsNextAt g at
  next_at next = subst (λ (o : Option Entry). IfSome o (IsNextCall g (take at g.entries))) (sym is) next

  module _ (states : List Replayed) (old : Replayed) (are : AreReplayed g.shards (take at g.entries) states) (within : e.shard < g.shards) (found : slice_get states e.shard ≡ Some old) where
    state_at : old.state ≡ replayed g.shards e.shard empty_state (at_shard e.shard (take at g.entries))
    state_at = state_is g.shards at g.entries e states old are within found

    pub answered_at : e.reply ≡ reply_to old.state e.call → IsAnsweredAt g at
    answered_at same = subst (λ (o : Option Entry). IfSome o (IsAnswered g (take at g.entries))) (sym is) (same ∙ ap (λ (s : State). reply_to s e.call) state_at)

    -- it is next, and its reply is not its shard's
    pub is_wrong_reply : AreRightBelow g at → IsNextCall g (take at g.entries) e → (e.reply ≡ reply_to old.state e.call → ⊥) → IsWrongReply g at
    is_wrong_reply right next wrong = record {
      within = slice_get_within g.entries at e is;
      first = right;
      next = next_at next;
      wrong = λ answered.
          let same : IsAnswered g (take at g.entries) e = subst (λ (o : Option Entry). IfSome o (IsAnswered g (take at g.entries))) is answered in
          wrong (same ∙ ap (λ (s : State). reply_to s e.call) (sym state_at));
    }
