use Rattle.std.proofs.Common.{arith, ap, sym, ◌∙◌, length, inl, inr, ⊎_elim, eqb-true, eq-eqb}
use Rattle.std.proofs.lemmas.List.{length-map}
use Rattle.dn_flight.specs.Arena.{node_at, ends_at, msg_of}
use Rattle.dn_flight.proofs.Room.{full_where}
use Rattle.dn_flight.proofs.flight.Flight.is_full.Goals as goal

pub returns-then-self-eq-NONE : goal.returns-then-self-eq-NONE
returns-then-self-eq-NONE c =
    let a = c.self.inside.arena in
    let es = c.self.inside.places.entries in
    let held = sym (length-map es (λ e. msg_of (node_at a.links.nodes e.1))) ∙ ap (λ v. length v.msgs) c.self.view_is in
    let full = full_where (node_at a.links.nodes) (ends_at a.links.heads.held) a.free es c.self.inside.next c.self.invariant.whole in
    ((λ _. inl (omega (arith, held, full.0 c.if-self-eq-NONE.true))), (λ _. eq-eqb a.free 65536 c.if-self-eq-NONE.true))

pub returns-else-self-eq-NONE : goal.returns-else-self-eq-NONE
returns-else-self-eq-NONE c =
    let a = c.self.inside.arena in
    let es = c.self.inside.places.entries in
    let held = sym (length-map es (λ e. msg_of (node_at a.links.nodes e.1))) ∙ ap (λ v. length v.msgs) c.self.view_is in
    let full = full_where (node_at a.links.nodes) (ends_at a.links.heads.held) a.free es c.self.inside.next c.self.invariant.whole in (
      (λ t. inr (sym (ap (λ v. v.next) c.self.view_is) ∙ eqb-true c.self.inside.next 18446744073709551615 t)),
      (λ f. ⊎_elim (λ le. absurd (c.if-self-eq-NONE.false (full.1 (omega (arith, le, held))))) (λ q. eq-eqb c.self.inside.next 18446744073709551615 (ap (λ v. v.next) c.self.view_is ∙ q)) f),
    )
