use Rattle.std.proofs.Common.{◌≡◌, ap, sym, ◌∙◌, arith, Some, None}
use Rattle.std.specs.BTreeMap.{is_at}
use Rattle.std.specs.Map.{lookup}
use Rattle.std.specs.Option.{option_map}
use Rattle.std.specs.Ordering.{nat_cmp}
use Rattle.dn_flight.specs.Arena.{node_at, ends_at, msg_of}
use Rattle.dn_flight.specs.Flight.{next_in, with_id}
use Rattle.dn_flight.specs.Whole.{id_at, msgs_at}
use Rattle.dn_flight.proofs.Entries.{split_at, found_msg, is_it}
use Rattle.dn_flight.proofs.Leaving.{are_low, next_low, next_is}
use Rattle.dn_flight.proofs.flight.Flight.next_to.Goals as goal

pub next_id-requires-clause-place : goal.next_id-requires-clause-place
next_id-requires-clause-place c =
    let a = c.self.inside.arena in
    let w = c.self.invariant.whole in
    let es = c.self.inside.places.entries in
    let found : lookup (is_at (nat_cmp c.args.id)) es ≡ Some c.in-Some.place.now = sym c.in-Some.ensures.value in
    let f = split_at (is_at (nat_cmp c.args.id)) es c.in-Some.place.now found in (
      omega (arith, are_low (node_at a.links.nodes) (ends_at a.links.heads.held) a.free es c.self.inside.next w f.0 f.1 f.2 f.3, f.4),
      omega (arith, next_low (node_at a.links.nodes) (ends_at a.links.heads.held) a.free es c.self.inside.next w f.0 f.1 f.2 f.3, ap (λ p. (node_at a.links.nodes p).to_after) f.4),
      c.self.invariant.long,
    )

pub returns-in-Some : goal.returns-in-Some
returns-in-Some c =
    let a = c.self.inside.arena in
    let nodes = node_at a.links.nodes in
    let w = c.self.invariant.whole in
    let es = c.self.inside.places.entries in
    let found : lookup (is_at (nat_cmp c.args.id)) es ≡ Some c.in-Some.place.now = sym c.in-Some.ensures.value in
    let f = split_at (is_at (nat_cmp c.args.id)) es c.in-Some.place.now found in
    c.next_id.ensures
    ∙ ap (λ p. id_at nodes (nodes p).to_after) (sym f.4)
    ∙ next_is nodes (ends_at a.links.heads.held) a.free es c.self.inside.next w f.0 f.1 f.2 f.3 c.args.id (is_it c.args.id f.1.0 f.5)
    ∙ ap (λ o. next_in c.args.id o (msgs_at nodes es)) (ap (λ p. Some (msg_of (nodes p))) f.4 ∙ ap (option_map (λ p. msg_of (nodes p))) (sym found) ∙ sym (found_msg nodes es c.args.id w.ids))
    ∙ ap (λ v. next_in c.args.id (with_id c.args.id v.msgs) v.msgs) c.self.view_is

pub returns-in-None : goal.returns-in-None
returns-in-None c =
    let nodes = node_at c.self.inside.arena.links.nodes in
    let es = c.self.inside.places.entries in
    let found : lookup (is_at (nat_cmp c.args.id)) es ≡ None = sym c.in-None.ensures.value in
    ap (λ o. next_in c.args.id o (msgs_at nodes es)) (ap (option_map (λ p. msg_of (nodes p))) (sym found) ∙ sym (found_msg nodes es c.args.id c.self.invariant.whole.ids))
    ∙ ap (λ v. next_in c.args.id (with_id c.args.id v.msgs) v.msgs) c.self.view_is
