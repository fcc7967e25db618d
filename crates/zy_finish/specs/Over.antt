-- The homes of all cores, when all is served.
use Rattle.std.specs.Prelude.{◌≡◌, ℕ, ◌≤◌, List, length, true, Some, slice_get}
use Rattle.atomic_table.specs.Seated.{TableId}
use Rattle.zy_conn.specs.Block.{label_of}
use Rattle.zy_capture.specs.Capture.{connection_limit}
use Rattle.zy_home.specs.Home.{Homed, is_settled}

-- the home of core `core` of `cores`, with `count` connections in all, is settled, and its ring has
-- the label of the store and the number of cores
pub record IsHomeOver (store : TableId) (cores count core : ℕ) (h : Homed) : Type 0 where
  pub core_is : h.core ≡ core
  pub cores_is : h.cores ≡ cores
  pub count_is : h.count ≡ count
  pub settled : is_settled h ≡ true
  pub label : h.pass.label ≡ label_of store cores

-- the homes are those of 1 to 64 cores, by rising number, with this count of connections, and each is settled
pub record AreOver (store : TableId) (count : ℕ) (homes : List Homed) : Type 0 where
  pub some : 1 ≤ length homes
  pub few : length homes ≤ 64
  pub connections : count ≤ connection_limit
  pub each : (core : ℕ) (h : Homed) → slice_get homes core ≡ Some h → IsHomeOver store (length homes) count core h
