use Rattle.std.proofs.Common.{◌≡◌, ℕ, ◌<◌, Bool, List, get_or}
use Rattle.dn_record_types.specs.declared.statement.Statement.TheVariants.{PadBits}
use Rattle.dn_seal.specs.Dealt.{server}
use Rattle.dn_seal.specs.Said.{SaidView}
use Rattle.dn_trace.proofs.openings.first_pad.Given as goal

abbrev pub invariant-loop-x : goal.invariant-loop-x
invariant-loop-x l = (n : ℕ) (d : SaidView) → n < l.x-index → (pad : List Bool) → (get_or l.said n d).signer ≡ server l.j.0 → ¬ ((get_or l.said n d).statement ≡ PadBits l.r l.k pad)
