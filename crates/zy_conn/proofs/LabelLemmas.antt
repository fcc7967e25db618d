-- Two equal labels are of one store and one number of cores.
use Rattle.std.proofs.Common.{◌≡◌, ℕ, ap}
use Rattle.atomic_table.specs.Seated.{TableId}
use Rattle.zy_table.specs.declared.name.Name.{Name}
use Rattle.zy_table.specs.Name.{id_of}
use Rattle.zy_shuffle.specs.Hand.{first_of, rest_of}
use Rattle.zy_conn.specs.Block.{label_of}

pub same_store : (z w : TableId) (m n : ℕ) → label_of z m ≡ label_of w n → z ≡ w
same_store z w m n same = ap (λ (l : Name). record (id_of l) { slot_names = rest_of l.slot_names }) same

pub same_cores : (z w : TableId) (m n : ℕ) → label_of z m ≡ label_of w n → m ≡ n
same_cores z w m n same = ap (λ (l : Name). first_of l.slot_names) same
