use Rattle.dn_nodes.proofs.tests.a_node_that_was_set_is_read.Given as goal

abbrev pub ghosts-set_and_get : goal.ghosts-set_and_get
ghosts-set_and_get g a = record { name = a.blank.name; parts = a.blank.parts }
