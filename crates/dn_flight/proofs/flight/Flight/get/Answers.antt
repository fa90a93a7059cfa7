use Rattle.std.proofs.Common.{arith, ◌≡◌, ap, sym, ◌∙◌, Some, None}
use Rattle.std.specs.BTreeMap.{is_at}
use Rattle.std.specs.Map.{lookup}
use Rattle.std.specs.Option.{option_map}
use Rattle.std.specs.Ordering.{nat_cmp}
use Rattle.dn_flight.specs.Arena.{node_at, ends_at, msg_of}
use Rattle.dn_flight.specs.Flight.{with_id}
use Rattle.dn_flight.proofs.Entries.{split_at, found_msg}
use Rattle.dn_flight.proofs.Leaving.{are_low}
use Rattle.dn_flight.proofs.flight.Flight.get.Goals as goal

pub msg-requires-clause-place : goal.msg-requires-clause-place
msg-requires-clause-place c =
    let a = c.self.inside.arena in
    let es = c.self.inside.places.entries in
    let found : lookup (is_at (nat_cmp c.args.id)) es ≡ Some c.in-Some.place.now = sym c.in-Some.ensures.value in
    let f = split_at (is_at (nat_cmp c.args.id)) es c.in-Some.place.now found in
    omega (arith, are_low (node_at a.links.nodes) (ends_at a.links.heads.held) a.free es c.self.inside.next c.self.invariant.whole f.0 f.1 f.2 f.3, f.4, c.self.invariant.long)

pub returns-in-Some : goal.returns-in-Some
returns-in-Some c =
    let nodes = node_at c.self.inside.arena.links.nodes in
    let es = c.self.inside.places.entries in
    let found : lookup (is_at (nat_cmp c.args.id)) es ≡ Some c.in-Some.place.now = sym c.in-Some.ensures.value in
    ap Some c.msg.ensures ∙ ap (option_map (λ p. msg_of (nodes p))) (sym found) ∙ sym (found_msg nodes es c.args.id c.self.invariant.whole.ids) ∙ ap (λ v. with_id c.args.id v.msgs) c.self.view_is

pub returns-in-None : goal.returns-in-None
returns-in-None c =
    let nodes = node_at c.self.inside.arena.links.nodes in
    let es = c.self.inside.places.entries in
    let found : lookup (is_at (nat_cmp c.args.id)) es ≡ None = sym c.in-None.ensures.value in
    ap (option_map (λ p. msg_of (nodes p))) (sym found) ∙ sym (found_msg nodes es c.args.id c.self.invariant.whole.ids) ∙ ap (λ v. with_id c.args.id v.msgs) c.self.view_is
