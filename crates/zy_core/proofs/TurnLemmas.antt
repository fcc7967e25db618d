-- What the steps of a turn come to together.
use Rattle.std.proofs.Common.{◌≡◌, List, Bool, true, false, ◌||◌, refl, sym, ap, subst, inl, inr}
use Rattle.std.specs.Prelude.{Option, None, Some}
use Rattle.zy_conn.specs.declared.hold_end.HoldEnd.{HoldEnd}
use Rattle.zy_conn.specs.declared.hold_end.HoldEnd.TheVariants.{Drained, Limit, Spent, Busy}
use Rattle.zy_home.specs.declared.own.Own.{Own}
use Rattle.zy_home.specs.declared.own.Own.TheVariants as Owns
use Rattle.zy_home.specs.Home.{Homed, is_settled}
use Rattle.zy_home.specs.Place.{OwnsTo}
use Rattle.zy_steal.specs.declared.looks.Look.{Look}
use Rattle.zy_steal.specs.Look.{IsBlank, NotesAll}
use Rattle.zy_steal.specs.Steal.{AllLookedOver}
use Rattle.zy_steal.proofs.LookLemmas.{noted_alone}
use Rattle.zy_core.specs.declared.steps.AtHome.{AtHome}
use Rattle.zy_core.specs.declared.turn.Turn.TheVariants.{Worked}
use Rattle.zy_core.specs.declared.turn.Came.{Came}
use Rattle.zy_core.specs.Core.{Cored}
use Rattle.zy_core.specs.Steal.{Steals, StealsTo}
use Rattle.zy_core.specs.Step.{HasHomeSteps}
use Rattle.zy_core.specs.Turn.{ReceivesTo, CollectsAll, HasSteps, TurnTo, FindsNothing, places_of, own_of, came_without_hold, came_to, held_to, is_busy, CameTo, ShowsBusy}

-- the steps of a turn at home: items received, blocks collected, and the claim with this answer
pub record AtHomeBy (a b : Cored) (h m : Homed) (received collected : Bool) (own : Own) : Type 0 where
  pub receives : ReceivesTo a.home a.outlet h b.outlet received
  pub collects : CollectsAll (places_of a) h m collected
  pub claims : OwnsTo (places_of a) m b.home own

pub at_home_by : (a b : Cored) (came : AtHome) (own : Own) → came.own ≡ own → (s : HasHomeSteps a.home a.outlet b.home b.outlet came) → AtHomeBy a b s.received s.collected came.received came.collected own
at_home_by a b came own is s = record { receives = s.receives; collects = s.collects; claims = subst (OwnsTo (places_of a) s.collected b.home) is s.claims }

-- where nothing was received the home is as it was
collects_from : (a b : Cored) (h m : Homed) (collected : Bool) → ReceivesTo a.home a.outlet h b.outlet false → CollectsAll (places_of a) h m collected → CollectsAll (places_of a) a.home m collected
collects_from a b h m collected r c = subst (λ (x : Homed). CollectsAll (places_of a) x m collected) r.0 c

-- ---- a block was held

held_turn : (a b : Cored) (h m : Homed) (received collected : Bool) (end : HoldEnd) → AtHomeBy a b h m received collected (Owns.Took end) → TurnTo a b Worked
held_turn a b h m true collected end t = inl t.receives.some
held_turn a b h m false true end t = inr (inl (m, collects_from a b h m true t.receives t.collects))
held_turn a b h m false false end t = inr (inr (inl (m, collects_from a b h m false t.receives t.collects, (end, t.claims))))

-- a turn that worked came to this, by the end of its hold
came_held : (a b : Cored) (looks looks' : List (Option Look)) (end : HoldEnd) → TurnTo a b Worked → CameTo a b looks looks' (held_to end)
came_held a b looks looks' Drained t = t
came_held a b looks looks' Limit t = t
came_held a b looks looks' Spent t = t
came_held a b looks looks' (Busy shard loaded found) t = t

-- a turn in which a block was claimed
pub held_came : (a b : Cored) (h m : Homed) (received collected : Bool) (end : HoldEnd) (looks looks' : List (Option Look)) → AtHomeBy a b h m received collected (Owns.Took end) → CameTo a b looks looks' (held_to end)
held_came a b h m received collected end looks looks' t = came_held a b looks looks' end (held_turn a b h m received collected end t)

abbrev held_steps : (a b : Cored) (h m : Homed) (received collected : Bool) (end : HoldEnd) → AtHomeBy a b h m received collected (Owns.Took end) → b.passes ≡ a.passes → HasSteps a b
held_steps a b h m received collected end t same = record {
  is_received = received;
  is_collected = collected;
  received = h;
  collected = m;
  receives = t.receives;
  collects = t.collects;
  serves = inl ((end, t.claims), same);
}

pub held_busy : (a b : Cored) (h m : Homed) (received collected : Bool) (end : HoldEnd) → AtHomeBy a b h m received collected (Owns.Took end) → b.passes ≡ a.passes → ShowsBusy a b (held_to end)
held_busy a b h m received collected end t same = record { steps = held_steps a b h m received collected end t same; busy = refl }

-- ---- none was claimed

-- what was stolen, or looked at
abbrev missed_steps : (a b : Cored) (h m : Homed) (received collected : Bool) (own : Look) (looks : Option (List (Option Look))) → AtHomeBy a b h m received collected (own_of own) → StealsTo a.passes b.passes looks → HasSteps a b
missed_steps a b h m received collected own looks t steals = record {
  is_received = received;
  is_collected = collected;
  received = h;
  collected = m;
  receives = t.receives;
  collects = t.collects;
  serves = inr (own, t.claims, (looks, steals));
}

-- a turn in which a block was stolen
pub stolen_busy : (a b : Cored) (h m : Homed) (received collected : Bool) (own : Look) (end : HoldEnd) → AtHomeBy a b h m received collected (own_of own) → (s : Steals a.passes b.passes) → s.end ≡ end → ShowsBusy a b (held_to end)
stolen_busy a b h m received collected own end t s is =
    record { steps = missed_steps a b h m received collected own None t s; busy = ap (λ e. is_busy (held_to e)) (sym is) }

-- a turn in which none was stolen either
pub missed_came : (a b : Cored) (h m : Homed) (received collected settled : Bool) (own : Look) (looks looks' : List (Option Look)) → AtHomeBy a b h m received collected (own_of own) → AllLookedOver a.passes b.passes looks looks' → settled ≡ is_settled b.home
    → CameTo a b looks looks' (came_without_hold (received || collected) own settled)
missed_came a b h m true collected settled own looks looks' t l is = inl t.receives.some
missed_came a b h m false true settled own looks looks' t l is = inr (inl (m, collects_from a b h m true t.receives t.collects))
missed_came a b h m false false settled own looks looks' t l is = go settled is
  where
    nothing : FindsNothing a b own l.made
    nothing = record {
      taken = t.receives.1;
      known = t.receives.2;
      between = m;
      collected = collects_from a b h m false t.receives t.collects;
      owned = t.claims;
      looked = l.looked;
    }

    go : (s : Bool) → s ≡ is_settled b.home → CameTo a b looks looks' (came_without_hold false own s)
    go true e = (l.made, l.notes, ((own, nothing), sym e))
    go false e = (l.made, l.notes, (nothing, sym e))

pub missed_busy : (a b : Cored) (h m : Homed) (received collected settled : Bool) (own : Look) (looks looks' : List (Option Look)) → AtHomeBy a b h m received collected (own_of own) → AllLookedOver a.passes b.passes looks looks' → ShowsBusy a b (came_without_hold (received || collected) own settled)
missed_busy a b h m received collected settled own looks looks' t l =
    record { steps = missed_steps a b h m received collected own (Some l.made) t l.looked; busy = plain (received || collected) settled }
  where
    plain : (w s : Bool) → is_busy (came_without_hold w own s) ≡ false
    plain true s = refl
    plain false true = refl
    plain false false = refl

-- ---- a new table

noted : (a b : Cored) (looks looks' made : List (Option Look)) (own : Look) → IsBlank looks → NotesAll made looks looks' → FindsNothing a b own made → FindsNothing a b own looks'
noted a b looks looks' made own blank notes n = record {
  taken = n.taken;
  known = n.known;
  between = n.between;
  collected = n.collected;
  owned = n.owned;
  looked = noted_alone a.passes b.passes looks looks' blank (record { made = made; looked = n.looked; notes = notes });
}

-- the looks that were noted in a new table are those of the turn
pub came_alone : (a b : Cored) (looks looks' : List (Option Look)) (came : Came) → IsBlank looks → CameTo a b looks looks' came → TurnTo a b (came_to came looks')
came_alone a b looks looks' Came.Worked blank t = t
came_alone a b looks looks' Came.Busy blank t = t
came_alone a b looks looks' (Came.Idle own) blank t = (noted a b looks looks' t.0 own blank t.1 t.2.0, t.2.1)
came_alone a b looks looks' Came.Settled blank t = ((t.2.0.0, noted a b looks looks' t.0 t.2.0.0 blank t.1 t.2.0.1), t.2.1)
