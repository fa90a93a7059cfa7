use Rattle.dn_flight.proofs.flight.Flight.get.Given as goal

abbrev pub ghosts-msg : goal.ghosts-msg
ghosts-msg a = record { name = a.blank.name; parts = a.blank.parts }
