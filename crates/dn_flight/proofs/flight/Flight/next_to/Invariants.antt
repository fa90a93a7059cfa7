use Rattle.dn_flight.proofs.flight.Flight.next_to.Given as goal

abbrev pub ghosts-next_id : goal.ghosts-next_id
ghosts-next_id a = record { name = a.blank.name; parts = a.blank.parts }
