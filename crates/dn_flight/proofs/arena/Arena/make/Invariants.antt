use Rattle.dn_flight.proofs.arena.Arena.make.Given as goal

abbrev pub ghosts-free_all : goal.ghosts-free_all
ghosts-free_all a = record { name = a.blank.name; parts = a.blank.parts }
