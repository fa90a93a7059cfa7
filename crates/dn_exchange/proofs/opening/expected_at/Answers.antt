use Rattle.std.proofs.Common.{◌∙◌, ◌+◌, ap, sym, arith}
use Rattle.dn_exchange.proofs.OpenLemmas.{expected_one, expected_same}
use Rattle.dn_exchange.proofs.opening.expected_at.Goals as goal
use Rattle.dn_exchange.proofs.opening.expected_at.Goals.{then-i-servers, else-i-servers}

pub loop-i-preserved : goal.loop-i-preserved
loop-i-preserved c = elim c.if-i-servers.branch [
  | then-i-servers w ↦ (w.count-is ∙ ap (λ n. n + 1) c.loop-i.invariant.0 ∙ sym (expected_one c.loop-i.i c.args.servers c.args.j w.if-i-servers.true), omega (arith, w.count-is, c.loop-i.invariant.1))
  | else-i-servers w ↦ (w.count-is ∙ c.loop-i.invariant.0 ∙ sym (expected_same c.loop-i.i c.args.servers c.args.j w.if-i-servers.false), omega (arith, w.count-is, c.loop-i.invariant.1))
]
