use Rattle.mc_store.proofs.store.StoreTable.split.Given as goal

abbrev pub ghosts-split_as : goal.ghosts-split_as
ghosts-split_as a = record { conn = a.conn }
