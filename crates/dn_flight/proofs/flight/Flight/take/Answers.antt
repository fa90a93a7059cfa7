use Rattle.std.proofs.Common.{◌≡◌, ap, sym, subst, ◌∙◌, Some, None}
use Rattle.std.specs.BTreeMap.{is_at}
use Rattle.std.specs.Map.{lookup}
use Rattle.std.specs.Option.{option_map}
use Rattle.std.specs.Ordering.{nat_cmp}
use Rattle.dn_flight.specs.Arena.{node_at, msg_of}
use Rattle.dn_flight.specs.Flight.{with_id, without_id}
use Rattle.dn_flight.specs.Whole.{IsKept, msgs_at, msgs_in}
use Rattle.dn_flight.proofs.Entries.{split_at, found_msg, left_at, without_none}
use Rattle.dn_flight.proofs.flight.Flight.take.Goals as goal

pub returns-in_default-clause-taken : goal.returns-in_default-clause-taken
returns-in_default-clause-taken c =
    let nodes = node_at c.self.inside.arena.links.nodes in
    let es = c.self.inside.places.entries in
    let found : lookup (is_at (nat_cmp c.args.id)) es ≡ None = sym c.remove.ensures.value ∙ c.in_default.is in
    ap (option_map (λ p. msg_of (nodes p))) (sym found) ∙ sym (found_msg nodes es c.args.id c.self.invariant.whole.ids) ∙ ap (λ v. with_id c.args.id v.msgs) c.self.view_is

pub returns-in_default-clause-left : goal.returns-in_default-clause-left
returns-in_default-clause-left c =
    let nodes = node_at c.self.inside.arena.links.nodes in
    let es = c.self.inside.places.entries in
    let found : lookup (is_at (nat_cmp c.args.id)) es ≡ None = sym c.remove.ensures.value ∙ c.in_default.is in
    let none_there : with_id c.args.id (msgs_at nodes es) ≡ None = found_msg nodes es c.args.id c.self.invariant.whole.ids ∙ ap (option_map (λ p. msg_of (nodes p))) found in
    (ap (msgs_at nodes) c.in_default.ensures.unchanged ∙ sym (without_none c.args.id (msgs_at nodes es) none_there) ∙ ap (λ v. without_id c.args.id v.msgs) c.self.view_is, ap (λ v. v.next) c.self.view_is)

pub take-requires-clause-whole : goal.take-requires-clause-whole
take-requires-clause-whole c =
    let es = c.self.inside.places.entries in
    let found : lookup (is_at (nat_cmp c.args.id)) es ≡ Some c.in-Some.place = sym c.remove.ensures.value ∙ c.in-Some.is in
    let f = split_at (is_at (nat_cmp c.args.id)) es c.in-Some.place found in
    (f.0, f.1, f.2, c.self.inside.next, f.4, subst (λ l. IsKept c.self.inside.arena l c.self.inside.next) f.3 c.self.invariant)

pub invariant_of-self-2 : goal.invariant_of-self-2
invariant_of-self-2 c =
    let es = c.self.inside.places.entries in
    let found : lookup (is_at (nat_cmp c.args.id)) es ≡ Some c.in-Some.place = sym c.remove.ensures.value ∙ c.in-Some.is in
    let f = split_at (is_at (nat_cmp c.args.id)) es c.in-Some.place found in
    let w = subst (λ l. IsKept c.self.inside.arena l c.self.inside.next) f.3 c.self.invariant in
    subst (λ l. IsKept c.take.new.self l c.self.inside.next) (sym (c.remove.ensures.entries ∙ f.6)) (c.take.ensures.whole f.0 f.1 f.2 c.self.inside.next f.4 w).0

pub returns-clause-taken : goal.returns-clause-taken
returns-clause-taken c =
    let nodes = node_at c.self.inside.arena.links.nodes in
    let es = c.self.inside.places.entries in
    let found : lookup (is_at (nat_cmp c.args.id)) es ≡ Some c.in-Some.place = sym c.remove.ensures.value ∙ c.in-Some.is in
    ap Some c.take.ensures.msg ∙ ap (option_map (λ p. msg_of (nodes p))) (sym found) ∙ sym (found_msg nodes es c.args.id c.self.invariant.whole.ids) ∙ ap (λ v. with_id c.args.id v.msgs) c.self.view_is

pub returns-clause-left : goal.returns-clause-left
returns-clause-left c =
    let nodes = node_at c.self.inside.arena.links.nodes in
    let es = c.self.inside.places.entries in
    let found : lookup (is_at (nat_cmp c.args.id)) es ≡ Some c.in-Some.place = sym c.remove.ensures.value ∙ c.in-Some.is in
    let f = split_at (is_at (nat_cmp c.args.id)) es c.in-Some.place found in
    let w = subst (λ l. IsKept c.self.inside.arena l c.self.inside.next) f.3 c.self.invariant in (
      ap (msgs_in c.take.new.self) (c.remove.ensures.entries ∙ f.6) ∙ (c.take.ensures.whole f.0 f.1 f.2 c.self.inside.next f.4 w).1
          ∙ left_at nodes es c.args.id c.self.inside.next c.in-Some.place c.self.invariant.whole.order c.self.invariant.whole.ids f ∙ ap (λ v. without_id c.args.id v.msgs) c.self.view_is,
      ap (λ v. v.next) c.self.view_is,
    )
