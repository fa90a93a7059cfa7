use Rattle.std.proofs.Common.{◌≡◌, ℕ, ◌<◌, get_or}
use Rattle.dn_seal.specs.Said.{SaidView}
use Rattle.dn_openings.proofs.keeping.is_said.Given as goal

abbrev pub invariant-loop-said : goal.invariant-loop-said
invariant-loop-said l = (n : ℕ) (d : SaidView) → n < l.said-index → (get_or l.kept n d).signer ≡ l.who → (get_or l.kept n d).statement ≡ l.s → ⊥
