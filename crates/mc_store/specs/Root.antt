-- A root that gave the passes of all connections below a number.
use Rattle.std.specs.Prelude.{◌≡◌, ◌↔◌, ℕ, ◌<◌, [], true}
use Rattle.atomic_table.specs.Seated.{TableId}
use Rattle.zy_table.specs.Member.{is_in}
use Rattle.mc_store.specs.Pass.{Rooted}

-- the root of the store gave the passes of the connections below the count and no others, and joined none
pub record IsRootOf (store : TableId) (count : ℕ) (root : Rooted) : Type 0 where
  pub table_is : root.table ≡ store
  pub given : (conn : ℕ) → (is_in conn root.given ≡ true) ↔ (conn < count)
  pub none : root.joined ≡ []
