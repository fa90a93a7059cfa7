use Rattle.bench.proofs.flight.line.Given as goal

abbrev pub ghosts-leave : goal.ghosts-leave
ghosts-leave g a = record { name = a.blank.name; parts = a.blank.parts }
