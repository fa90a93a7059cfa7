use Rattle.std.proofs.Common.{◌≡◌, None, take}
use Rattle.std.specs.Prelude.{find}
use Rattle.dn_server.specs.Server.{is_of}
use Rattle.dn_server.specs.Keeping.{byte_for}
use Rattle.dn_server.proofs.kept.find.Given as goal

abbrev pub invariant-loop-said : goal.invariant-loop-said
invariant-loop-said l = find (is_of (byte_for l.kind) l.j.0) (take l.said-index l.kept) ≡ None
