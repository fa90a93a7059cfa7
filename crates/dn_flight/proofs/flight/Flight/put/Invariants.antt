use Rattle.dn_flight.proofs.flight.Flight.put.Given as goal

abbrev pub ghosts-put : goal.ghosts-put
ghosts-put a = record { name = a.blank.name; parts = a.blank.parts }
