-- What a reply surely leaves holds after its call.
use Rattle.std.specs.Prelude.{Option, None, Some, nat_eq}
use Rattle.std.specs.List.{starts_with, ends_with}
use Rattle.std.proofs.Common.{◌≡◌, ◌⊎◌, inl, inr, ℕ, ◌+◌, ◌-◌, ◌%◌, ◌^◌, ◌<◌, true, List, ◌++◌, length, refl, sym, ap, ◌∙◌, subst, arith}
use Rattle.std.proofs.lemmas.Bool.{and_from, eq-eqb, eqb-true}
use Rattle.std.proofs.lemmas.Slice.Eq.{starts_is, ends_is}
use Rattle.mc_calls.specs.declared.item.Item.{Item}
use Rattle.mc_calls.specs.declared.call.Call.{Call}
use Rattle.mc_calls.specs.declared.call.Call.TheVariants as Calls
use Rattle.mc_calls.specs.declared.call_reply.CallReply.{CallReply}
use Rattle.mc_calls.specs.declared.call_reply.CallReply.TheVariants as Replies
use Rattle.mc_calls.specs.Code.{tally}
use Rattle.mc_calls.specs.Told.{told}
use Rattle.mc_allows.specs.declared.said.Said.{Said}
use Rattle.mc_allows.specs.declared.said.Said.TheVariants.{Replied, Failed}
use Rattle.mc_allows.specs.declared.shown.Shown.{Shown}
use Rattle.mc_allows.specs.declared.shown.Shown.TheVariants.{Nothing, NoFailure, Reply, SomeHit, HitWith, Failure}
use Rattle.mc_allows.specs.declared.fact.Fact.{Fact}
use Rattle.mc_allows.specs.declared.fact.Fact.TheVariants.{Absent, Present, Item as AnItem, Counted, Ending, Beginning}
use Rattle.mc_allows.specs.Allows.{HasItem, HasNumber, Allows, AllowsReply, Counts, Joins}
use Rattle.mc_allows.specs.Facts.{is_same_value, holds}
use Rattle.mc_allows.specs.Needs.{Suits, left_by_reply, left_always, left_by}
use Rattle.mc_allows.proofs.NumberTextLemmas.{read_below, written}
use Rattle.mc_allows.proofs.BesideLemmas.{equal_value, equal_number}
use Rattle.mc_allows.proofs.NeedLemmas.{nothing_known, itself, some_hit, hit_with, item_present, item_value}

-- ---- facts that hold

-- bytes are the same exactly where their test holds
byte_decides : (a b : ℕ) → (nat_eq a b ≡ true → a ≡ b) × (a ≡ b → nat_eq a b ≡ true)
byte_decides a b = (eqb-true a b, eq-eqb a b)

pub ends_so : (value front piece : List ℕ) → value ≡ front ++ piece → ends_with nat_eq value piece ≡ true
ends_so value front piece is = (ends_is byte_decides value piece (ends_with nat_eq value piece) refl).1 front is

pub starts_so : (value piece rest : List ℕ) → value ≡ piece ++ rest → starts_with nat_eq value piece ≡ true
starts_so value piece rest is = (starts_is byte_decides value piece (starts_with nat_eq value piece) refl).1 rest is

-- what holds of what the key has is carried over
carried : (fact : Fact) (found after : Option Item) → after ≡ found → holds fact found ≡ true → holds fact after ≡ true
carried fact found after is held = subst (λ f. holds fact f ≡ true) (sym is) held

stored_item : (flags : ℕ) (value : List ℕ) (after : Option Item) → HasItem flags value after → holds (AnItem flags value) after ≡ true
stored_item flags value None has = absurd has
stored_item flags value (Some j) has =
    and_from (nat_eq flags j.flags) (is_same_value value j.value) (eq-eqb flags j.flags (sym has.0)) (equal_value value j.value (sym has.1))

stored_end : (flags : ℕ) (front piece : List ℕ) (after : Option Item) → HasItem flags (front ++ piece) after → holds (Ending piece) after ≡ true
stored_end flags front piece None has = absurd has
stored_end flags front piece (Some j) has = ends_so j.value front piece has.1

stored_beginning : (flags : ℕ) (piece rest : List ℕ) (after : Option Item) → HasItem flags (piece ++ rest) after → holds (Beginning piece) after ≡ true
stored_beginning flags piece rest None has = absurd has
stored_beginning flags piece rest (Some j) has = starts_so j.value piece rest has.1

stored_number : (flags n width : ℕ) (after : Option Item) → n < 2 ^ 64 → HasNumber flags n width after → holds (Counted n) after ≡ true
stored_number flags n width None small has = absurd has
stored_number flags n width (Some j) small has = equal_number _ n (written n width j.value small has.1)

-- ---- one reply

-- what a reply that is this one leaves
by_reply : (call : Call) (after : Option Item) (own reply : CallReply) → reply ≡ own → holds (left_by_reply call own) after ≡ true → holds (left_by_reply call reply) after ≡ true
by_reply call after own reply is held = subst (λ r. holds (left_by_reply call r) after ≡ true) (sym is) held

counted_up : (key : List ℕ) (amount : ℕ) (i : Item) (reply : CallReply) (after : Option Item) → Counts i (λ n. (n + amount) % 2 ^ 64) reply after → holds (left_by_reply (Calls.Incr key amount) reply) after ≡ true
counted_up key amount i reply after (inl counted) =
    by_reply (Calls.Incr key amount) after (Replies.Number ((counted.0 + amount) % 2 ^ 64)) reply counted.2
    (stored_number i.flags ((counted.0 + amount) % 2 ^ 64) (length i.value) after (omega arith) counted.3)
counted_up key amount i reply after (inr not) = by_reply (Calls.Incr key amount) after Replies.NotNumber reply not.0 (carried Present (Some i) after not.1 refl)

counted_down : (key : List ℕ) (amount : ℕ) (i : Item) (reply : CallReply) (after : Option Item) → Counts i (λ n. n - amount) reply after → holds (left_by_reply (Calls.Decr key amount) reply) after ≡ true
counted_down key amount i reply after (inl counted) =
    let small = read_below i.value counted.0 counted.1 in
    by_reply (Calls.Decr key amount) after (Replies.Number (counted.0 - amount)) reply counted.2
    (stored_number i.flags (counted.0 - amount) (length i.value) after (omega (arith, small)) counted.3)
counted_down key amount i reply after (inr not) = by_reply (Calls.Decr key amount) after Replies.NotNumber reply not.0 (carried Present (Some i) after not.1 refl)

-- a joined value was stored, or refused, and then the item is still there
joined : (call : Call) (i : Item) (value : List ℕ) (reply : CallReply) (after : Option Item) → Joins i value reply after → (HasItem i.flags value after → holds (left_by_reply call Replies.Stored) after ≡ true)
    → holds (left_by_reply call Replies.NotStored) after ≡ true → holds (left_by_reply call reply) after ≡ true
joined call i value reply after (inl done) stored not_stored = by_reply call after Replies.Stored reply done.0 (stored done.1)
joined call i value reply after (inr refused) stored not_stored = by_refusal refused.0
  where
    by_refusal : (reply ≡ Replies.NotStored) ⊎ (reply ≡ Replies.TooLarge) → holds (left_by_reply call reply) after ≡ true
    by_refusal (inl is) = by_reply call after Replies.NotStored reply is not_stored
    by_refusal (inr is) = by_reply call after Replies.TooLarge reply is (carried Present (Some i) after refused.1 refl)

-- what a reply surely leaves holds after its call
pub leaves_hold : (before : Option Item) (call : Call) (reply : CallReply) (after : Option Item) → AllowsReply before call reply after → holds (left_by_reply call reply) after ≡ true
leaves_hold None (Calls.Get key) reply after done = by_reply (Calls.Get key) after Replies.Miss reply done.0 (carried Absent None after done.1 refl)
leaves_hold (Some i) (Calls.Get key) reply after done = by_reply (Calls.Get key) after (Replies.Hit i.flags i.unique i.value) reply done.0 (carried (AnItem i.flags i.value) (Some i) after done.1 (itself i))
leaves_hold None (Calls.Set key flags value) reply after done = by_reply (Calls.Set key flags value) after Replies.Stored reply done.0 (stored_item flags value after done.1)
leaves_hold (Some i) (Calls.Set key flags value) reply after done = by_reply (Calls.Set key flags value) after Replies.Stored reply done.0 (stored_item flags value after done.1)
leaves_hold None (Calls.Add key flags value) reply after done = by_reply (Calls.Add key flags value) after Replies.Stored reply done.0 (stored_item flags value after done.1)
leaves_hold (Some i) (Calls.Add key flags value) reply after done = by_reply (Calls.Add key flags value) after Replies.NotStored reply done.0 (carried Present (Some i) after done.1 refl)
leaves_hold None (Calls.Replace key flags value) reply after done = by_reply (Calls.Replace key flags value) after Replies.NotStored reply done.0 (carried Absent None after done.1 refl)
leaves_hold (Some i) (Calls.Replace key flags value) reply after done = by_reply (Calls.Replace key flags value) after Replies.Stored reply done.0 (stored_item flags value after done.1)
leaves_hold None (Calls.Append key piece) reply after done = by_reply (Calls.Append key piece) after Replies.NotStored reply done.0 (nothing_known after)
leaves_hold (Some i) (Calls.Append key piece) reply after done = joined (Calls.Append key piece) i (i.value ++ piece) reply after done (stored_end i.flags i.value piece after) (nothing_known after)
leaves_hold None (Calls.Prepend key piece) reply after done = by_reply (Calls.Prepend key piece) after Replies.NotStored reply done.0 (nothing_known after)
leaves_hold (Some i) (Calls.Prepend key piece) reply after done = joined (Calls.Prepend key piece) i (piece ++ i.value) reply after done (stored_beginning i.flags piece i.value after) (nothing_known after)
leaves_hold None (Calls.Cas flags key own value) reply after done = by_reply (Calls.Cas flags key own value) after Replies.NotFound reply done.0 (carried Absent None after done.1 refl)
leaves_hold (Some i) (Calls.Cas flags key own value) reply after (inl done) = by_reply (Calls.Cas flags key own value) after Replies.Stored reply done.0 (stored_item flags value after done.1)
leaves_hold (Some i) (Calls.Cas flags key own value) reply after (inr done) = by_reply (Calls.Cas flags key own value) after Replies.Exists reply done.0 (carried Present (Some i) after done.1 refl)
leaves_hold None (Calls.Incr key amount) reply after done = by_reply (Calls.Incr key amount) after Replies.NotFound reply done.0 (carried Absent None after done.1 refl)
leaves_hold (Some i) (Calls.Incr key amount) reply after done = counted_up key amount i reply after done
leaves_hold None (Calls.Decr key amount) reply after done = by_reply (Calls.Decr key amount) after Replies.NotFound reply done.0 (carried Absent None after done.1 refl)
leaves_hold (Some i) (Calls.Decr key amount) reply after done = counted_down key amount i reply after done
leaves_hold None (Calls.Delete key) reply after done = by_reply (Calls.Delete key) after Replies.NotFound reply done.0 (carried Absent None after done.1 refl)
leaves_hold (Some i) (Calls.Delete key) reply after done = by_reply (Calls.Delete key) after Replies.Deleted reply done.0 (carried Absent None after done.1 refl)
leaves_hold None Calls.Flush reply after done = by_reply Calls.Flush after Replies.Flushed reply done.0 (carried Absent None after done.1 refl)
leaves_hold (Some i) Calls.Flush reply after done = by_reply Calls.Flush after Replies.Flushed reply done.0 (carried Absent None after done.1 refl)
leaves_hold None Calls.Tally reply after done = by_reply Calls.Tally after (tally done.0) reply done.1 (nothing_known after)
leaves_hold (Some i) Calls.Tally reply after done = by_reply Calls.Tally after (tally done.0) reply done.1 (nothing_known after)

-- ---- what is shown

-- a call that leaves none, whatever is said to it, leaves none
always_left : (before : Option Item) (call : Call) (said : Said) (after : Option Item) → Allows before call said after → holds (left_always call) after ≡ true
always_left None (Calls.Delete key) (Replied reply) after done = carried Absent None after done.1 refl
always_left (Some i) (Calls.Delete key) (Replied reply) after done = carried Absent None after done.1 refl
always_left None Calls.Flush (Replied reply) after done = carried Absent None after done.1 refl
always_left (Some i) Calls.Flush (Replied reply) after done = carried Absent None after done.1 refl
always_left before (Calls.Delete key) Failed after done = let failed = done.0 in absurd (cc)
always_left before Calls.Flush Failed after done = let failed = done.0 in absurd (cc)
always_left before call said after done = nothing_known after

-- what a call leaves if it did not fail
unfailed : (before : Option Item) (call : Call) (reply : CallReply) (after : Option Item) → AllowsReply before call reply after → holds (left_by call NoFailure) after ≡ true
unfailed None (Calls.Set key flags value) reply after done = stored_item flags value after done.1
unfailed (Some i) (Calls.Set key flags value) reply after done = stored_item flags value after done.1
unfailed None (Calls.Add key flags value) reply after done = item_present flags value after (stored_item flags value after done.1)
unfailed (Some i) (Calls.Add key flags value) reply after done = carried Present (Some i) after done.1 refl
unfailed None (Calls.Delete key) reply after done = carried Absent None after done.1 refl
unfailed (Some i) (Calls.Delete key) reply after done = carried Absent None after done.1 refl
unfailed None Calls.Flush reply after done = carried Absent None after done.1 refl
unfailed (Some i) Calls.Flush reply after done = carried Absent None after done.1 refl
unfailed before call reply after done = nothing_known after

-- what is left does not depend on a unique
left_told : (call : Call) (reply : CallReply) → left_by_reply call (told reply) ≡ left_by_reply call reply
left_told call (Replies.Hit flags unique value) = refl
left_told call reply = refl

-- what all that may have been said to a call surely leaves holds after it
pub shown_leaves : (before : Option Item) (call : Call) (said : Said) (after : Option Item) (shown : Shown) → Allows before call said after → Suits shown said → holds (left_by call shown) after ≡ true
shown_leaves before call said after Nothing allowed fits = always_left before call said after allowed
shown_leaves before call (Replied own) after NoFailure allowed fits = unfailed before call own after allowed
shown_leaves before call Failed after NoFailure allowed fits = absurd (cc)
shown_leaves before call (Replied own) after (Reply reply) allowed fits =
    subst (λ left. holds left after ≡ true) (sym (left_told call own) ∙ ap (left_by_reply call) fits ∙ left_told call reply) (leaves_hold before call own after allowed)
shown_leaves before call Failed after (Reply reply) allowed fits = absurd (cc)
shown_leaves before call (Replied own) after SomeHit allowed fits =
    let hit = some_hit own fits in
    item_present hit.flags hit.value after (subst (λ r. holds (left_by_reply call r) after ≡ true) hit.is (leaves_hold before call own after allowed))
shown_leaves before call Failed after SomeHit allowed fits = absurd (cc)
shown_leaves before call (Replied own) after (HitWith value) allowed fits =
    let hit = hit_with value own fits in
    item_value hit.0.flags value hit.0.value hit.1 after (subst (λ r. holds (left_by_reply call r) after ≡ true) hit.0.is (leaves_hold before call own after allowed))
shown_leaves before call Failed after (HitWith value) allowed fits = absurd (cc)
shown_leaves before call said after Failure allowed fits = nothing_known after
