use Rattle.zy_conn.specs.Block.{label_of}
use Rattle.home_tests.proofs.home_parts.set_up.Given as goal

abbrev pub ghosts-ring_of : goal.ghosts-ring_of
ghosts-ring_of g a = record { label = label_of a.store.now.id 2 }
