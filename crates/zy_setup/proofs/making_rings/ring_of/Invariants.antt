use Rattle.zy_conn.specs.Block.{label_of}
use Rattle.zy_setup.proofs.making_rings.ring_of.Given as goal

-- the label is that of the store and the number of cores
abbrev pub ghosts-ring_as : goal.ghosts-ring_as
ghosts-ring_as a = record { label = label_of a._store.now.id a._cores }
