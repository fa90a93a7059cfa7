use Rattle.std.proofs.Common.{◌≡◌, ℕ, ◌<◌, Bool, List, get_or}
use Rattle.dn_record_types.specs.declared.statement.Statement.TheVariants.{Reveal}
use Rattle.dn_seal.specs.Dealt.{server}
use Rattle.dn_seal.specs.Said.{SaidView}
use Rattle.dn_trace.proofs.own_faults.first_revealed.Given as goal

abbrev pub invariant-loop-x : goal.invariant-loop-x
invariant-loop-x l = (n : ℕ) (d : SaidView) → n < l.x-index → (v : List Bool) → (get_or l.said n d).signer ≡ server l.j.0 → ¬ ((get_or l.said n d).statement ≡ Reveal l.r v)
