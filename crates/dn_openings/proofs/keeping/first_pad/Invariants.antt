use Rattle.std.proofs.Common.{◌≡◌, None, take}
use Rattle.std.specs.Prelude.{find, ◌&&◌}
use Rattle.dn_server.specs.Server.{is_server}
use Rattle.dn_openings.specs.Evidence.{is_pad}
use Rattle.dn_openings.proofs.keeping.first_pad.Given as goal

abbrev pub invariant-loop-said : goal.invariant-loop-said
invariant-loop-said l = find (λ x. is_server l.j.0 x.signer && is_pad l.place.r l.place.k x.statement) (take l.said-index l.kept) ≡ None
