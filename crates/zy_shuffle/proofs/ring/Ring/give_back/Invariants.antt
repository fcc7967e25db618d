use Rattle.zy_shuffle.proofs.ring.Ring.give_back.Given as goal

abbrev pub ghosts-give_back_as : goal.ghosts-give_back_as
ghosts-give_back_as g a = record { place = a.place }
