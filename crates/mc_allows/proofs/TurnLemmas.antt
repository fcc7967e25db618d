-- What holds after allowed steps has a last turn, and what held all the time was never excluded.
use Rattle.std.specs.Prelude.{Option, None}
use Rattle.std.proofs.Common.{◌≡◌, ◌⊎◌, inl, inr, Bool, true, false, List, [], ◌∷◌, refl, ap}
use Rattle.mc_calls.specs.declared.item.Item.{Item}
use Rattle.mc_calls.specs.declared.call.Call.{Call}
use Rattle.mc_allows.specs.declared.call_name.CallName.{CallName}
use Rattle.mc_allows.specs.declared.said.Said.{Said}
use Rattle.mc_allows.specs.declared.shown.Shown.{Shown}
use Rattle.mc_allows.specs.declared.fact.Fact.{Fact}
use Rattle.mc_allows.specs.Allows.{Allows}
use Rattle.mc_allows.specs.Steps.{KeyStep, made, lost, MayLose}
use Rattle.mc_allows.specs.Facts.{holds_without, holds, may_hold_beside}
use Rattle.mc_allows.specs.Needs.{Suits, left_by}
use Rattle.mc_allows.specs.Turns.{HoldsAfterEach, IsSafe, LastTurn, HasLastTurn, MakersAreNew}
use Rattle.mc_allows.proofs.BesideLemmas.{beside}
use Rattle.mc_allows.proofs.LeftLemmas.{shown_leaves}
use Rattle.mc_allows.proofs.MakeLemmas.{both_so}

-- a loss makes no fact that is safe of losses
not_lost : {A : Type 0} (forget : Bool) (first before : Option Item) (fact : Fact) → IsSafe forget first fact → MayLose forget first before → holds_without fact ≡ true → A
not_lost forget first before fact safe (inl may) held = both_so forget (safe held).0 may
not_lost forget first before fact safe (inr own) held = let none = (safe held).1 in let some = own.1 in absurd (cc)

-- after a loss there is no first item, and the fact is as safe
still_safe : (forget : Bool) (first before : Option Item) (fact : Fact) → IsSafe forget first fact → MayLose forget first before → IsSafe forget None fact
still_safe forget first before fact safe may held = not_lost forget first before fact safe may held

-- a last turn of the later steps is one of all
later : (before : Option Item) (fact : Fact) (name : CallName) (call : Call) (said : Said) (after : Option Item) (steps : List KeyStep) → LastTurn after fact steps → LastTurn before fact (made name call said after ∷ steps)
later before fact name call said after steps turn = record {
  front = made name call said after ∷ turn.front;
  name = turn.name;
  call = turn.call;
  said = turn.said;
  after = turn.after;
  back = turn.back;
  is = ap (λ rest. made name call said after ∷ rest) turn.is;
  allowed = turn.allowed;
  failed = turn.failed;
  stays = turn.stays;
}

later_lost : (before : Option Item) (fact : Fact) (steps : List KeyStep) → LastTurn None fact steps → LastTurn before fact (lost ∷ steps)
later_lost before fact steps turn = record {
  front = lost ∷ turn.front;
  name = turn.name;
  call = turn.call;
  said = turn.said;
  after = turn.after;
  back = turn.back;
  is = ap (λ rest. lost ∷ rest) turn.is;
  allowed = turn.allowed;
  failed = turn.failed;
  stays = turn.stays;
}

-- the step is the last turn, or the fact held before it too
turned_here : (before : Option Item) (fact : Fact) (name : CallName) (call : Call) (said : Said) (after : Option Item) (steps : List KeyStep) → Allows before call said after
    → holds fact after ≡ true → HoldsAfterEach fact steps → (b : Bool) → holds fact before ≡ b
    → ((holds fact before ≡ true) × HoldsAfterEach fact (made name call said after ∷ steps)) ⊎ LastTurn before fact (made name call said after ∷ steps)
turned_here before fact name call said after steps allowed held stays true is = inl (is, (held, stays))
turned_here before fact name call said after steps allowed held stays false is = inr (record {
  front = [];
  name = name;
  call = call;
  said = said;
  after = after;
  back = steps;
  is = refl;
  allowed = allowed;
  failed = is;
  stays = (held, stays);
})

pub has_last_turn : HasLastTurn
has_last_turn forget first before fact safe [] allowed held = inl (held, tt)
has_last_turn forget first before fact safe (lost ∷ steps) allowed held = go (has_last_turn forget None None fact (still_safe forget first before fact safe allowed.0) steps allowed.1 held)
  where
    go : ((holds fact None ≡ true) × HoldsAfterEach fact steps) ⊎ LastTurn None fact steps → ((holds fact before ≡ true) × HoldsAfterEach fact (lost ∷ steps)) ⊎ LastTurn before fact (lost ∷ steps)
    go (inl all) = not_lost forget first before fact safe allowed.0 all.0
    go (inr turn) = inr (later_lost before fact steps turn)
has_last_turn forget first before fact safe (made name call said after ∷ steps) allowed held = go (has_last_turn forget first after fact safe steps allowed.1 held)
  where
    go : ((holds fact after ≡ true) × HoldsAfterEach fact steps) ⊎ LastTurn after fact steps
        → ((holds fact before ≡ true) × HoldsAfterEach fact (made name call said after ∷ steps)) ⊎ LastTurn before fact (made name call said after ∷ steps)
    go (inl all) = turned_here before fact name call said after steps allowed.0 all.0 all.1 (holds fact before) refl
    go (inr turn) = inr (later before fact name call said after steps turn)

-- what holds after a call is not excluded by what the call surely leaves
pub not_excluded : (before : Option Item) (call : Call) (said : Said) (after : Option Item) (shown : Shown) (fact : Fact) → Allows before call said after → Suits shown said → holds fact after ≡ true → may_hold_beside (left_by call shown) fact ≡ true
not_excluded before call said after shown fact allowed fits held = beside (left_by call shown) fact after (shown_leaves before call said after shown allowed fits) held

pub makers_are_new : MakersAreNew
makers_are_new forget first before fact safe name call said after middle allowed shown fits excluded held = go (has_last_turn forget first after fact safe middle allowed.1 held)
  where
    go : ((holds fact after ≡ true) × HoldsAfterEach fact middle) ⊎ LastTurn after fact middle → LastTurn after fact middle
    go (inl all) = both_so (may_hold_beside (left_by call shown) fact) excluded (not_excluded before call said after shown fact allowed.0 fits all.0)
    go (inr turn) = turn
