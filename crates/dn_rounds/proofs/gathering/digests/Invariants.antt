use Rattle.dn_record_types.specs.declared.statement.Statement.TheVariants as kinds
use Rattle.dn_server.specs.Server.{AreKept}
use Rattle.dn_rounds.proofs.gathering.digests.Given as goal

abbrev pub invariant-loop-j : goal.invariant-loop-j
invariant-loop-j l = AreKept (kinds.Commit l.r) 4 l.kept l.j l.all.items
