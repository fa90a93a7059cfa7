use Rattle.std.proofs.Common.{rules, arith, ap, sym, ◌∙◌, ◌≡◌, ℕ}
use mathlib.Core.Option.{none}
use Rattle.atomic_table.specs.Table.{step}
use Rattle.dn_gate.proofs.Keeps.{draws}
use Rattle.dn_gate.proofs.Stepped.{drew_pass, drew_view}
use Rattle.dn_gate.specs.declared.steps.Drawn.TheVariants.{Included, Late}
use Rattle.dn_gate.proofs.steps.draw.Goals as goal
use Rattle.dn_gate.proofs.steps.draw.Goals.{then-found-lt-CLOSED, else-found-lt-CLOSED}

included_injective : (m n : ℕ) → Included m ≡ Included n → m ≡ n
included_injective m n e = cc

apart : (m n : ℕ) → Included m ≡ Late n → ⊥
apart m n e = cc

pub fetch_add-found-requires : goal.fetch_add-found-requires
fetch_add-found-requires g c =
    let v₁ = ap (λ p. p.claim) c.pass.view_is ∙ c.requires.claimed.0 in
    let v₂ = ap (λ p. p.unmarked) c.pass.view_is ∙ c.requires.claimed.1 in
    let v₃ = ap (λ p. p.held) c.pass.view_is ∙ c.requires.claimed.2 in
    (search rules, search rules, draws _ _ _ _ _ _ _ _ c.pass.invariant.live (omega arith) (omega (arith, ap (λ q. q.clients) c.gate.view_is, c.requires.gate.1)) v₁ v₂ v₃)

pub invariant_of-pass : goal.invariant_of-pass
invariant_of-pass g c =
    drew_pass (step c.gate.inside.table.shared.table_id.slots 0 1 0 none) c.pass.inside.seat.me c.fetch_add-found.new.seat.me c.args.client.0 c.fetch_add-found.result _ c.pass.invariant (ap (λ p. p.claim) c.pass.view_is ∙ c.requires.claimed.0) (ap (λ p. p.held) c.pass.view_is ∙ c.requires.claimed.2) c.fetch_add-found.ensures.2

pub returns-clause-included : goal.returns-clause-included
returns-clause-included g c = λ place is. elim c.if-found-lt-CLOSED.branch [
  | then-found-lt-CLOSED w ↦
      let told = (c.fetch_add-found.ensures.2.0 c.args.client.0 (ap (λ p. p.claim) c.pass.view_is ∙ c.requires.claimed.0)).0 w.if-found-lt-CLOSED.true in
      let same : c.fetch_add-found.result ≡ place = included_injective _ _ (sym w.result-is ∙ is) in (
        omega (arith, w.if-found-lt-CLOSED.true, same),
        sym (ap (λ p. p.closing) c.pass.view_is) ∙ told.0,
        drew_view c.pass.inside.seat.table_id _ c.pass.inside.seat.id _ c.pass.inside.seat.me _ c.args.pass.now c.args.client.0 c.fetch_add-found.result place c.pass.view_is c.fetch_add-found.ensures.0 c.fetch_add-found.ensures.1 told.1 same,
      )
  | else-found-lt-CLOSED w ↦ absurd (apart _ _ (sym is ∙ w.result-is))
]
