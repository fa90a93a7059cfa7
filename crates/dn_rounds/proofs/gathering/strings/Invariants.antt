use Rattle.dn_record_types.specs.declared.statement.Statement.TheVariants as kinds
use Rattle.dn_server.specs.Server.{AreKept}
use Rattle.dn_rounds.proofs.gathering.strings.Given as goal

abbrev pub invariant-loop-j : goal.invariant-loop-j
invariant-loop-j l = AreKept (kinds.Reveal l.r) 5 l.kept l.j l.all.items
