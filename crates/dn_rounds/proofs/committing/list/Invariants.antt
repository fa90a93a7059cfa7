use Rattle.std.proofs.Common.{List}
use Rattle.dn_record_types.specs.declared.inventory.Inventory.{Inventory}
use Rattle.dn_record_types.specs.declared.statement.Statement.TheVariants as kinds
use Rattle.dn_cert.specs.Trim.{IsTrim}
use Rattle.dn_server.specs.Server.{AreKept}
use Rattle.dn_rounds.proofs.committing.list.Given as goal

abbrev pub invariant-loop-j : goal.invariant-loop-j
invariant-loop-j l = (all : List Inventory) × AreKept kinds.Inventory 3 l.parts.run.kept l.j all × IsTrim all l.listed.items
