use Rattle.std.proofs.Common.{rules, arith, ap, ◌∙◌}
use Rattle.dn_gate.proofs.Keeps.{marks_word}
use Rattle.dn_gate.proofs.Stepped.{marked_me, marked_pass, marked_view}
use Rattle.dn_gate.proofs.steps.mark.Goals as goal

pub fetch_or-requires : goal.fetch_or-requires
fetch_or-requires g c =
    let v₁ = ap (λ p. p.unmarked) c.pass.view_is ∙ c.requires.deposited.0 in
    let v₂ = ap (λ p. p.held) c.pass.view_is ∙ c.requires.deposited.1.1 in
    (search rules, search rules, marks_word _ _ _ _ _ _ _ _ c.requires.deposited.1.0 c.pass.invariant.live (omega (arith, ap (λ q. q.clients) c.gate.view_is, c.requires.gate.1)) v₁ v₂)

pub invariant_of-pass : goal.invariant_of-pass
invariant_of-pass g c =
    let out = ap (λ p. p.held) c.pass.view_is ∙ c.requires.deposited.1.1 in
    marked_pass c.pass.inside.seat.me c.fetch_or.new.seat.me c.args.client.0 _ c.requires.deposited.1.0 c.pass.invariant (marked_me c.gate.inside.table.shared.table_id.slots c.pass.inside.seat.me c.fetch_or.new.seat.me c.args.client.0 c.fetch_or.result c.requires.deposited.1.0 out c.fetch_or.ensures.2)

pub returns : goal.returns
returns g c = record {
  marked = λ x held. marked_view _ _ _ _ _ _ _ c.args.client.0 x c.pass.view_is c.fetch_or.ensures.0 c.fetch_or.ensures.1 (marked_me c.gate.inside.table.shared.table_id.slots c.pass.inside.seat.me c.fetch_or.new.seat.me c.args.client.0 c.fetch_or.result x (ap (λ p. p.held) c.pass.view_is ∙ held) c.fetch_or.ensures.2);
}
