use Rattle.dn_flight.proofs.tests.a_sender_leaves.Given as goal

abbrev pub ghosts-drop_twice : goal.ghosts-drop_twice
ghosts-drop_twice g a = record { name = a.blank.name; parts = a.blank.parts }
