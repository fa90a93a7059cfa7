use Rattle.std.proofs.Common.{ℕ, ap, sym, ◌∙◌, slice_get}
use Rattle.std.specs.BTreeMap.Range.{range_contains}
use Rattle.std.specs.Option.{option_map}
use Rattle.std.specs.Ordering.{nat_cmp}
use Rattle.std.specs.declared.ops.Bound.TheVariants.{Excluded, Unbounded}
use Rattle.dn_flight.specs.Arena.{node_at}
use Rattle.dn_flight.specs.Flight.{first_id, after_id}
use Rattle.dn_flight.proofs.Walks.{first_above, above_test}
use Rattle.dn_flight.proofs.flight.Flight.after.Goals as goal

pub returns-in-Some : goal.returns-in-Some
returns-in-Some c =
    sym (ap (λ l. option_map (λ (e : ℕ × ℕ). e.0) (slice_get l 0)) (sym (c.range.ensures.between tt) ∙ c.in-Some.ensures.steps))
    ∙ first_above (node_at c.self.inside.arena.links.nodes) c.args.id (range_contains nat_cmp (Excluded c.args.id) Unbounded) c.self.inside.places.entries (above_test c.args.id) c.self.invariant.whole.ids
    ∙ ap (λ f. first_id (after_id c.args.id f.msgs)) c.self.view_is

pub returns-in-None : goal.returns-in-None
returns-in-None c =
    sym (ap (λ l. option_map (λ (e : ℕ × ℕ). e.0) (slice_get l 0)) (sym (c.range.ensures.between tt) ∙ c.in-None.ensures.steps.0))
    ∙ first_above (node_at c.self.inside.arena.links.nodes) c.args.id (range_contains nat_cmp (Excluded c.args.id) Unbounded) c.self.inside.places.entries (above_test c.args.id) c.self.invariant.whole.ids
    ∙ ap (λ f. first_id (after_id c.args.id f.msgs)) c.self.view_is
