use Rattle.dn_state.proofs.calling.leave.Given as goal

abbrev pub ghosts-drop_from : goal.ghosts-drop_from
ghosts-drop_from a = record { name = a.blank.name; parts = a.blank.parts }
