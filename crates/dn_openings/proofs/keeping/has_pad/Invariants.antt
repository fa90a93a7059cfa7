use Rattle.std.proofs.Common.{◌≡◌, ℕ, ◌<◌, Bool, List, get_or}
use Rattle.dn_record_types.specs.declared.statement.Statement.TheVariants as kinds
use Rattle.dn_seal.specs.Dealt.{server}
use Rattle.dn_seal.specs.Said.{SaidView}
use Rattle.dn_openings.proofs.keeping.has_pad.Given as goal

abbrev pub invariant-loop-said : goal.invariant-loop-said
invariant-loop-said l =
    (n : ℕ) (d : SaidView) → n < l.said-index → (get_or l.kept n d).signer ≡ server l.j.0
    → (pad : List Bool) → (get_or l.kept n d).statement ≡ kinds.PadBits l.place.r l.place.k pad → ⊥
