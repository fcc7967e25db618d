-- What a reply needs holds before its call.
use Rattle.std.specs.Prelude.{Option, None, Some, zero, suc, nat_eq}
use Rattle.std.proofs.Common.{◌≡◌, ◌⊎◌, inl, inr, ℕ, ◌+◌, ◌-◌, ◌%◌, ◌^◌, ◌<◌, true, cond, List, ◌++◌, refl, sym, ap, ◌∙◌, subst, arith, lt-ltb}
use Rattle.std.proofs.lemmas.Bool.{and_parts, and_from, eq-eqb}
use Rattle.mc_calls.specs.declared.item.Item.{Item}
use Rattle.mc_calls.specs.declared.call.Call.{Call}
use Rattle.mc_calls.specs.declared.call.Call.TheVariants as Calls
use Rattle.mc_calls.specs.declared.call_reply.CallReply.{CallReply}
use Rattle.mc_calls.specs.declared.call_reply.CallReply.TheVariants as Replies
use Rattle.mc_calls.specs.Code.{tally}
use Rattle.mc_calls.specs.Told.{told}
use Rattle.mc_allows.specs.declared.said.Said.{Said}
use Rattle.mc_allows.specs.declared.said.Said.TheVariants.{Replied, Failed}
use Rattle.mc_allows.specs.declared.shown.Shown.{Shown}
use Rattle.mc_allows.specs.declared.shown.Shown.TheVariants.{Nothing, NoFailure, Reply, SomeHit, HitWith, Failure}
use Rattle.mc_allows.specs.declared.fact.Fact.TheVariants.{Unknown, Never, Present, Item as AnItem, Value, Number}
use Rattle.mc_allows.specs.Values.{may_read}
use Rattle.mc_allows.specs.Allows.{Allows, AllowsReply, Counts, Joins}
use Rattle.mc_allows.specs.Facts.{is_same_value, holds}
use Rattle.mc_allows.specs.Needs.{SuitsReply, Suits, taken_from, need_of_reply, need_of}
use Rattle.mc_allows.proofs.NumberTextLemmas.{read_below, uncounted}
use Rattle.mc_allows.proofs.BesideLemmas.{equal_value}

-- ---- facts that hold

pub nothing_known : (found : Option Item) → holds Unknown found ≡ true
nothing_known None = refl
nothing_known (Some i) = refl

pub itself : (i : Item) → holds (AnItem i.flags i.value) (Some i) ≡ true
itself i = and_from (nat_eq i.flags i.flags) (is_same_value i.value i.value) (eq-eqb i.flags i.flags refl) (equal_value i.value i.value refl)

-- ---- one reply

-- what a reply that is this one needs
by_reply : (call : Call) (before : Option Item) (own reply : CallReply) → reply ≡ own → holds (need_of_reply call own) before ≡ true → holds (need_of_reply call reply) before ≡ true
by_reply call before own reply is held = subst (λ r. holds (need_of_reply call r) before ≡ true) (sym is) held

counted_up : (key : List ℕ) (amount : ℕ) (i : Item) (reply : CallReply) (after : Option Item) → Counts i (λ n. (n + amount) % 2 ^ 64) reply after → holds (need_of_reply (Calls.Incr key amount) reply) (Some i) ≡ true
counted_up key amount i reply after (inl counted) =
    by_reply (Calls.Incr key amount) (Some i) (Replies.Number ((counted.0 + amount) % 2 ^ 64)) reply counted.2
    (subst (λ n. may_read i.value n ≡ true) (sym (uncounted counted.0 amount (read_below i.value counted.0 counted.1))) counted.1)
counted_up key amount i reply after (inr not) = by_reply (Calls.Incr key amount) (Some i) Replies.NotNumber reply not.0 refl

taken : (i : Item) (amount n m : ℕ) → may_read i.value n ≡ true → n - amount ≡ m → holds (taken_from amount m) (Some i) ≡ true
taken i amount n zero read is = refl
taken i amount n (suc m) read is =
    let same : n ≡ suc m + amount = omega (arith, is) in
    let small : suc m + amount < 2 ^ 64 = subst (λ k. k < 2 ^ 64) same (read_below i.value n read) in
    subst (λ b. holds (cond b (Number (suc m + amount)) Never) (Some i) ≡ true) (sym (lt-ltb (suc m + amount) (2 ^ 64) small)) (subst (λ k. may_read i.value k ≡ true) same read)

counted_down : (key : List ℕ) (amount : ℕ) (i : Item) (reply : CallReply) (after : Option Item) → Counts i (λ n. n - amount) reply after → holds (need_of_reply (Calls.Decr key amount) reply) (Some i) ≡ true
counted_down key amount i reply after (inl counted) =
    by_reply (Calls.Decr key amount) (Some i) (Replies.Number (counted.0 - amount)) reply counted.2 (taken i amount counted.0 (counted.0 - amount) counted.1 refl)
counted_down key amount i reply after (inr not) = by_reply (Calls.Decr key amount) (Some i) Replies.NotNumber reply not.0 refl

-- a joined value was stored or refused
joined : (call : Call) (i : Item) (value : List ℕ) (reply : CallReply) (after : Option Item) → Joins i value reply after → holds (need_of_reply call Replies.Stored) (Some i) ≡ true
    → holds (need_of_reply call Replies.NotStored) (Some i) ≡ true → holds (need_of_reply call reply) (Some i) ≡ true
joined call i value reply after (inl done) stored not_stored = by_reply call (Some i) Replies.Stored reply done.0 stored
joined call i value reply after (inr refused) stored not_stored = by_refusal refused.0
  where
    by_refusal : (reply ≡ Replies.NotStored) ⊎ (reply ≡ Replies.TooLarge) → holds (need_of_reply call reply) (Some i) ≡ true
    by_refusal (inl is) = by_reply call (Some i) Replies.NotStored reply is not_stored
    by_refusal (inr is) = by_reply call (Some i) Replies.TooLarge reply is refl

-- what a reply needs holds before its call
pub needs_hold : (before : Option Item) (call : Call) (reply : CallReply) (after : Option Item) → AllowsReply before call reply after → holds (need_of_reply call reply) before ≡ true
needs_hold None (Calls.Get key) reply after done = by_reply (Calls.Get key) None Replies.Miss reply done.0 refl
needs_hold (Some i) (Calls.Get key) reply after done = by_reply (Calls.Get key) (Some i) (Replies.Hit i.flags i.unique i.value) reply done.0 (itself i)
needs_hold None (Calls.Set key flags value) reply after done = by_reply (Calls.Set key flags value) None Replies.Stored reply done.0 refl
needs_hold (Some i) (Calls.Set key flags value) reply after done = by_reply (Calls.Set key flags value) (Some i) Replies.Stored reply done.0 refl
needs_hold None (Calls.Add key flags value) reply after done = by_reply (Calls.Add key flags value) None Replies.Stored reply done.0 refl
needs_hold (Some i) (Calls.Add key flags value) reply after done = by_reply (Calls.Add key flags value) (Some i) Replies.NotStored reply done.0 refl
needs_hold None (Calls.Replace key flags value) reply after done = by_reply (Calls.Replace key flags value) None Replies.NotStored reply done.0 refl
needs_hold (Some i) (Calls.Replace key flags value) reply after done = by_reply (Calls.Replace key flags value) (Some i) Replies.Stored reply done.0 refl
needs_hold None (Calls.Append key piece) reply after done = by_reply (Calls.Append key piece) None Replies.NotStored reply done.0 refl
needs_hold (Some i) (Calls.Append key piece) reply after done = joined (Calls.Append key piece) i (i.value ++ piece) reply after done refl refl
needs_hold None (Calls.Prepend key piece) reply after done = by_reply (Calls.Prepend key piece) None Replies.NotStored reply done.0 refl
needs_hold (Some i) (Calls.Prepend key piece) reply after done = joined (Calls.Prepend key piece) i (piece ++ i.value) reply after done refl refl
needs_hold None (Calls.Cas flags key own value) reply after done = by_reply (Calls.Cas flags key own value) None Replies.NotFound reply done.0 refl
needs_hold (Some i) (Calls.Cas flags key own value) reply after (inl done) = by_reply (Calls.Cas flags key own value) (Some i) Replies.Stored reply done.0 refl
needs_hold (Some i) (Calls.Cas flags key own value) reply after (inr done) = by_reply (Calls.Cas flags key own value) (Some i) Replies.Exists reply done.0 refl
needs_hold None (Calls.Incr key amount) reply after done = by_reply (Calls.Incr key amount) None Replies.NotFound reply done.0 refl
needs_hold (Some i) (Calls.Incr key amount) reply after done = counted_up key amount i reply after done
needs_hold None (Calls.Decr key amount) reply after done = by_reply (Calls.Decr key amount) None Replies.NotFound reply done.0 refl
needs_hold (Some i) (Calls.Decr key amount) reply after done = counted_down key amount i reply after done
needs_hold None (Calls.Delete key) reply after done = by_reply (Calls.Delete key) None Replies.NotFound reply done.0 refl
needs_hold (Some i) (Calls.Delete key) reply after done = by_reply (Calls.Delete key) (Some i) Replies.Deleted reply done.0 refl
needs_hold None Calls.Flush reply after done = by_reply Calls.Flush None Replies.Flushed reply done.0 refl
needs_hold (Some i) Calls.Flush reply after done = by_reply Calls.Flush (Some i) Replies.Flushed reply done.0 refl
needs_hold None Calls.Tally reply after done = by_reply Calls.Tally None (tally done.0) reply done.1 refl
needs_hold (Some i) Calls.Tally reply after done = by_reply Calls.Tally (Some i) (tally done.0) reply done.1 refl

-- ---- what is shown

-- a need does not depend on a unique
need_told : (call : Call) (reply : CallReply) → need_of_reply call (told reply) ≡ need_of_reply call reply
need_told call (Replies.Hit flags unique value) = refl
need_told call reply = refl

-- a reply that fits a hit is one
pub record IsHit (reply : CallReply) : Type 0 where
  pub flags : ℕ
  pub unique : ℕ
  pub value : List ℕ
  pub is : reply ≡ Replies.Hit flags unique value

pub some_hit : (reply : CallReply) → SuitsReply SomeHit reply → IsHit reply
some_hit (Replies.Hit flags unique value) fits = record { flags = flags; unique = unique; value = value; is = refl }
some_hit reply fits = absurd fits

pub hit_with : (value : List ℕ) (reply : CallReply) → SuitsReply (HitWith value) reply → (hit : IsHit reply) × (hit.value ≡ value)
hit_with value (Replies.Hit flags unique own) fits = (record { flags = flags; unique = unique; value = own; is = refl }, fits)
hit_with value reply fits = absurd fits

-- an item that is known is there
pub item_present : (flags : ℕ) (value : List ℕ) (found : Option Item) → holds (AnItem flags value) found ≡ true → holds Present found ≡ true
item_present flags value None held = held
item_present flags value (Some i) held = refl

-- and it has that value
pub item_value : (flags : ℕ) (value own : List ℕ) → own ≡ value → (found : Option Item) → holds (AnItem flags own) found ≡ true → holds (Value value) found ≡ true
item_value flags value own is None held = held
item_value flags value own is (Some i) held =
    subst (λ v. is_same_value v i.value ≡ true) is (and_parts (nat_eq flags i.flags) (is_same_value own i.value) held).1

-- what all that may have been said to a call needs holds before it
pub shown_needs : (before : Option Item) (call : Call) (said : Said) (after : Option Item) (shown : Shown) → Allows before call said after → Suits shown said → holds (need_of call shown) before ≡ true
shown_needs before call said after Nothing allowed fits = nothing_known before
shown_needs before call said after NoFailure allowed fits = nothing_known before
shown_needs before call (Replied own) after (Reply reply) allowed fits =
    subst (λ need. holds need before ≡ true) (sym (need_told call own) ∙ ap (need_of_reply call) fits ∙ need_told call reply) (needs_hold before call own after allowed)
shown_needs before call Failed after (Reply reply) allowed fits = absurd (cc)
shown_needs before call (Replied own) after SomeHit allowed fits =
    let hit = some_hit own fits in
    item_present hit.flags hit.value before (subst (λ r. holds (need_of_reply call r) before ≡ true) hit.is (needs_hold before call own after allowed))
shown_needs before call Failed after SomeHit allowed fits = absurd (cc)
shown_needs before call (Replied own) after (HitWith value) allowed fits =
    let hit = hit_with value own fits in
    item_value hit.0.flags value hit.0.value hit.1 before (subst (λ r. holds (need_of_reply call r) before ≡ true) hit.0.is (needs_hold before call own after allowed))
shown_needs before call Failed after (HitWith value) allowed fits = absurd (cc)
shown_needs before call said after Failure allowed fits = nothing_known before
