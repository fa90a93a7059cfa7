use Rattle.std.proofs.Common.{rules}
use Rattle.dn_gate.proofs.Keeps.{looks_word}
use Rattle.dn_gate.proofs.collect.mark_at.Goals as goal

pub load-requires : goal.load-requires
load-requires g c = (search rules, search rules, looks_word _ _ _ _ _ _ _ _ c.requires.seat c.requires.table.2)
