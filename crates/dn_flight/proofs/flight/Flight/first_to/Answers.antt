use Rattle.std.proofs.Common.{ap, ◌∙◌, arith}
use Rattle.dn_flight.specs.Arena.{node_at, ends_at, member_number}
use Rattle.dn_flight.specs.Flight.{first_id, all_to}
use Rattle.dn_flight.specs.Whole.{id_at}
use Rattle.dn_flight.specs.declared.side.Side.TheVariants.{To}
use Rattle.dn_flight.proofs.Leaving.{are_low}
use Rattle.dn_flight.proofs.Walks.{first_to_member, first_low}
use Rattle.dn_flight.proofs.flight.Flight.first_to.Goals as goal

pub id_at-requires-clause-place : goal.id_at-requires-clause-place
id_at-requires-clause-place c =
    let a = c.self.inside.arena in
    let w = c.self.invariant.whole in
    let low = are_low (node_at a.links.nodes) (ends_at a.links.heads.held) a.free c.self.inside.places.entries c.self.inside.next w in (
      omega (arith, first_low To (node_at a.links.nodes) (member_number c.args.m) c.self.inside.places.entries low, w.firsts To (member_number c.args.m), ap (λ e. e.to_first) (c.get-place.ensures ∙ ap (ends_at a.links.heads.held) c.member_number.ensures)),
      c.self.invariant.long,
    )

pub returns : goal.returns
returns c =
    let a = c.self.inside.arena in
    let w = c.self.invariant.whole in
    let low = are_low (node_at a.links.nodes) (ends_at a.links.heads.held) a.free c.self.inside.places.entries c.self.inside.next w in
    c.id_at.ensures
    ∙ ap (id_at (node_at a.links.nodes)) (ap (λ e. e.to_first) (c.get-place.ensures ∙ ap (ends_at a.links.heads.held) c.member_number.ensures) ∙ w.firsts To (member_number c.args.m))
    ∙ first_to_member (node_at a.links.nodes) c.args.m c.self.inside.places.entries low
    ∙ ap (λ f. first_id (all_to c.args.m f.msgs)) c.self.view_is
