use Rattle.std.proofs.Common.{subst}
use Rattle.dn_world.specs.Kept.{Vouches}
use Rattle.dn_world.specs.Inside.{view_of}
use Rattle.dn_world.proofs.Keeping.{vouches}
use Rattle.dn_world.proofs.world.World.audit.Goals as goal

pub returns : goal.returns
returns c = subst (λ v. Vouches v c.audit.result) c.self.view_is (vouches (view_of c.self.inside) c.self.inside.state c.audit.result c.self.invariant c.if-self.false c.audit.ensures)
