use Rattle.dn_flight.proofs.flight.Flight.first_to.Given as goal

abbrev pub ghosts-id_at : goal.ghosts-id_at
ghosts-id_at a = record { name = a.blank.name; parts = a.blank.parts }
