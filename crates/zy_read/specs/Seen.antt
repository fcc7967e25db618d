-- What a call saw of its source and of its sink.
use Rattle.std.specs.Prelude.{◌≡◌, ℕ, List, [], Option, None, Some, ⊤}
use Rattle.zy_base.specs.Outside.{Rose, Grew, GrewByPrefix}
use Rattle.zy_read.specs.Bytes.{ReadsAll}

-- a source or a sink, before a call and after it: the bytes that the source has left, or the sink holds, if it
-- reports them, and the count of its faults
pub record Side : Type 0 where
  pub before : Option (List ℕ)
  pub after : Option (List ℕ)
  pub faults_before : ℕ
  pub faults_after : ℕ

-- the two sides of a call
pub record Seen : Type 0 where
  pub source : Side
  pub sink : Side

-- an object that was this and is that now, by the bytes that it reports and its count of faults
abbrev pub side : {A : Type 0} → (A → Option (List ℕ)) → (A → ℕ) → A → A → Side
side bytes faults old new = record {
  before = bytes old;
  after = bytes new;
  faults_before = faults old;
  faults_after = faults new;
}

-- what is seen of these two
abbrev pub both_sides : Side → Side → Seen
both_sides source sink = record { source = source; sink = sink }

-- the count of faults rose, or is at its largest value
abbrev pub HasRisen : Side → Type 0
HasRisen of = Rose of.faults_before of.faults_after

-- neither count rose, and neither is at its largest value
abbrev pub NoneRose : Seen → Type 0
NoneRose call = (HasRisen call.source → ⊥) × (HasRisen call.sink → ⊥)

-- this was written
abbrev pub WasWritten : Side → List ℕ → Type 0
WasWritten sink bytes = Grew sink.before sink.after bytes

-- a prefix of this was written
abbrev pub TakesPart : Side → List ℕ → Type 0
TakesPart sink bytes = GrewByPrefix sink.before sink.after bytes

-- this holds of the bytes that the source gave, and the source is at its end
abbrev pub OfGiven : Side → (List ℕ → Type 0) → Type 0
OfGiven source Holds = (bytes : List ℕ) × ReadsAll source.before source.after bytes × Holds bytes

-- this holds of all bytes that the source reported before the call, and none of them is left; nothing is said
-- of a source that reports none
abbrev pub OfReported : Option (List ℕ) → Option (List ℕ) → (List ℕ → Type 0) → Type 0
OfReported None after Holds = ⊤
OfReported (Some bytes) after Holds = (after ≡ Some []) × Holds bytes

-- the same of a source, before and after a call
abbrev pub OfTold : Side → (List ℕ → Type 0) → Type 0
OfTold source Holds = OfReported source.before source.after Holds
