use Rattle.std.proofs.Common.{rules, ◌≡◌, Some, ℕ, refl, subst}
use Rattle.dn_payloads.specs.Payloads.{IsFound}
use Rattle.std.specs.Prelude.{slice_get}
use Rattle.dn_payloads.proofs.Stores.{found}
use Rattle.dn_payloads.proofs.payloads.Payloads.content.Goals as goal

pub returns : goal.returns
returns c = subst (λ v. IsFound v c.args.p (λ x. x.content ≡ c.in_ok-content.content.now)) c.self.view_is (found c.self.inside.roster c.self.inside.contents.entries c.args.p c.in_ok-content.field-0-0.now c.in_ok-content.content.now (λ x. x.content ≡ c.in_ok-content.content.now) c.self.invariant (search rules) (search rules))
