-- What an offer to one inlet does to all of them.
use Rattle.std.proofs.Common.{◌≡◌, ℕ, zero, suc, ◌<◌, List, [], ◌∷◌, ◌++◌, length, map, set, get_or, refl, ◌∙◌, ap, arith}
use Rattle.std.specs.Prelude.{Option, Some, None, IfSome, IfNone, slice_get}
use Rattle.std.proofs.lemmas.List.{map-set, length-map}
use Rattle.std.proofs.lemmas.Option.{slice_get_read, slice_get_within}
use Rattle.zy_base.proofs.SetLemmas.{slice_get-set, set-same}
use Rattle.zy_rx.specs.declared.rx.Rx.{Rx}
use Rattle.zy_rx.specs.Ring.{RingName, Offering}
use Rattle.zy_rx.specs.Feed.{rings_of, sent_by, HasNoRoom}
use Rattle.zy_feed.specs.Feeding.{OffersTo}

pub map_none : {X A B : Type 0} (r : Option X) → (A → B) → IfNone r A → IfNone r B
map_none None f a = f a
map_none (Some x) f a = tt

pub map_some : {X : Type 0} {A B : X → Type 0} (r : Option X) → ((x : X) → A x → B x) → IfSome r A → IfSome r B
map_some None f a = tt
map_some (Some x) f a = f x a

-- the inlet at a place
pub inlet_at : (inlets : List Offering) (core : ℕ) (old : Offering) → core < length inlets → old ≡ get_or inlets core old → slice_get inlets core ≡ Some old
inlet_at inlets core old within is = slice_get_read inlets (length inlets) core old refl within is

-- a place of a list that was mapped
pub map_at : {A B : Type 0} (f : A → B) (xs : List A) (i : ℕ) (x : A) → slice_get xs i ≡ Some x → slice_get (map f xs) i ≡ Some (f x)
map_at f [] i x is = cc
map_at f (y ∷ xs) zero x is = let same : y ≡ x = cc in ap (λ z. Some (f z)) same
map_at f (y ∷ xs) (suc i) x is = map_at f xs i x is

-- one inlet changed in a way that `f` does not see
same_mapped : {B : Type 0} (f : Offering → B) (inlets : List Offering) (core : ℕ) (old new : Offering) → slice_get inlets core ≡ Some old → f new ≡ f old → map f (set inlets core new) ≡ map f inlets
same_mapped f inlets core old new at same =
    map-set f inlets core new ∙ ap (λ z. set (map f inlets) core z) same ∙ set-same (map f inlets) core (f old) (map_at f inlets core old at)

pub same_rings : (inlets : List Offering) (core : ℕ) (old new : Offering) → slice_get inlets core ≡ Some old → new.ring ≡ old.ring → rings_of (set inlets core new) ≡ rings_of inlets
same_rings inlets core old new at same = same_mapped (λ (i : Offering). i.ring) inlets core old new at same

pub same_sent : (inlets : List Offering) (core : ℕ) (old new : Offering) → slice_get inlets core ≡ Some old → new.sent ≡ old.sent → sent_by (set inlets core new) ≡ sent_by inlets
same_sent inlets core old new at same = same_mapped (λ (i : Offering). i.sent) inlets core old new at same

pub one_offered : (inlets : List Offering) (core : ℕ) (item : Rx) (old new : Offering) → slice_get inlets core ≡ Some old → new.sent ≡ old.sent ++ item ∷ [] → OffersTo core item inlets (set inlets core new)
one_offered inlets core item old new at grown = record {
  sent = old.sent;
  was = map_at (λ (i : Offering). i.sent) inlets core old at;
  is = map-set (λ (i : Offering). i.sent) inlets core new ∙ ap (λ z. set (sent_by inlets) core z) grown;
}

pub no_room : (inlets : List Offering) (core : ℕ) (new : Offering) → core < length inlets → new.free ≡ 0 → HasNoRoom (set inlets core new)
no_room inlets core new within none = record { core = core; inlet = new; there = slice_get-set inlets core new within; full = none }

-- a core that has a ring has an inlet
pub ring_within : (inlets : List Offering) (core : ℕ) (ring : RingName) → slice_get (rings_of inlets) core ≡ Some ring → core < length inlets
ring_within inlets core ring there = omega (arith, slice_get_within (rings_of inlets) core ring there, length-map inlets (λ (i : Offering). i.ring))
