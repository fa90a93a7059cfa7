use Rattle.std.proofs.Common.{◌≡◌, ℕ, ◌<◌, get_or}
use Rattle.dn_seal.specs.Dealt.{server}
use Rattle.dn_seal.specs.Said.{SaidView}
use Rattle.dn_openings.specs.Accusing.{shown_of}
use Rattle.dn_openings.proofs.opening.own_shown.Given as goal

abbrev pub invariant-loop-said : goal.invariant-loop-said
invariant-loop-said l = (n : ℕ) (d : SaidView) → n < l.said-index → (get_or l.kept n d).signer ≡ server l.own.0 → (get_or l.kept n d).statement ≡ shown_of l.past → ⊥
