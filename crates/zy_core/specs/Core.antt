-- What contracts see of a core, what each core keeps, and what stays of it while it is driven.
use Rattle.std.specs.Prelude.{◌≡◌, Bool, ℕ, ◌+◌, ◌*◌, ◌<◌, ◌≤◌, List, length, Some, slice_get, true, false}
use Rattle.atomic_table.specs.Seated.{TableId}
use Rattle.zy_table.specs.declared.name.Name.{Name}
use Rattle.zy_rx.specs.Ring.{RingName, Taking}
use Rattle.zy_shuffle.specs.Pass.{Ringed}
use Rattle.zy_conn.specs.Block.{Blocked, label_of}
use Rattle.zy_home.specs.Home.{Homed, HomeStands, is_settled, conns_in}
use Rattle.zy_steal.specs.Order.{other_core}
use Rattle.zy_steal.specs.Steal.{Thief, PassList, SeatOf, AreIdle, seats_of}
use Rattle.zy_control.specs.declared.view.Role.TheVariants.{Core}
use Rattle.zy_control.specs.View.{has_counted, has_announced}
use Rattle.zy_control.specs.Pass as control
use Rattle.zy_core.specs.Share.{Sharing}

-- ---- values

-- a core: its home, its view as a thief with its passes on the other rings, the end of its receive
-- ring, its pass on the control words, and the number of its turns
pub record Cored : Type 0 where
  pub home : Homed
  pub thief : Thief
  pub passes : PassList Blocked
  pub outlet : Taking
  pub control : control.Held
  pub turns : ℕ

-- the core with these parts
abbrev pub cored : Homed → Thief → PassList Blocked → Taking → control.Held → ℕ → Cored
cored home thief passes outlet control turns =
    record { home = home; thief = thief; passes = passes; outlet = outlet; control = control; turns = turns }

-- the core after steps of its pass on the control words, after which the pass is this
abbrev pub stepped : control.Held → Cored → Cored
stepped pass c = cored c.home c.thief c.passes c.outlet pass c.turns

-- the core after it counted itself as done, when `done` cores had done so
abbrev pub with_count : ℕ → Cored → Cored
with_count done c = stepped (control.counting done c.control) c

-- the core after it announced that it rests, or withdrew, when the bits of all cores were these
abbrev pub with_announcement : Bool → ℕ → Cored → Cored
with_announcement is sleepers c = stepped (control.resting is sleepers c.control) c

-- ---- what each core keeps

-- the parts belong to one core, and agree on the number of cores
pub record AreOfOne (home : Homed) (thief : Thief) (passes : PassList Blocked) : Type 0 where
  pub thief_core : thief.core ≡ home.core
  pub thief_cores : thief.cores ≡ home.cores
  pub passes_core : passes.core ≡ home.core
  pub passes_count : length passes.items + 1 ≡ home.cores

-- the rule that each core keeps between two turns
pub record CoreKeeps (c : Cored) : Type 0 where
  pub core : c.home.core < c.home.cores
  pub cores : c.home.cores ≤ 64
  pub one : AreOfOne c.home c.thief c.passes
  -- what its home has received is what its outlet has taken, in that order
  pub stands : c.home.refused ≡ false → HomeStands c.home c.outlet.taken
  -- no block of another core is in its hand
  pub idle : AreIdle c.home.pass.label (seats_of c.passes.items)
  -- it has published fewer than 2^13 times in each turn
  pub count : c.home.pass.count ≤ c.turns * 8192
  -- its pass on the control words is its own
  pub number : c.control.role ≡ Core c.home.core (has_counted c.control.role) (has_announced c.control.role)
  -- a core that has counted itself is settled
  pub settled : has_counted c.control.role ≡ true → is_settled c.home ≡ true

-- ---- what stays

-- the parts of a core that no turn changes: its number, the number of cores, its own connections,
-- its ring with the ring's label, the tables of its passes with what is in their hands, the end of
-- its receive ring, and its control words
pub record Identity : Type 0 where
  pub core : ℕ
  pub cores : ℕ
  pub count : ℕ
  pub conns : List ℕ
  pub table : TableId
  pub label : Name
  pub out : ℕ
  pub seats : List SeatOf
  pub ring : RingName
  pub control : TableId

-- the identity of a core
abbrev pub identity_of : Cored → Identity
identity_of c = record {
  core = c.home.core;
  cores = c.home.cores;
  count = c.home.count;
  conns = conns_in c.home.links;
  table = c.home.pass.table;
  label = c.home.pass.label;
  out = c.home.pass.out;
  seats = seats_of c.passes.items;
  ring = c.outlet.ring;
  control = c.control.table;
}

-- a core of these rings, with a pass on each of the others, and of this store and these control words
pub record Fits (shared : Sharing) (i : Identity) : Type 0 where
  pub cores : length shared.rings ≡ i.cores
  pub ring : (r : Ringed) → slice_get shared.rings i.core ≡ Some r → i.table ≡ r.id
  pub others : (at : ℕ) (s : SeatOf) (r : Ringed) → slice_get i.seats at ≡ Some s
      → slice_get shared.rings (other_core i.core at) ≡ Some r → s.table ≡ r.id
  pub store : i.label ≡ label_of shared.store.id i.cores
  pub control : i.control ≡ shared.control.id
