use Rattle.std.proofs.Common.{arith, subst, ◌∙◌, inr}
use Rattle.dn_seal.specs.Said.{IsUnopened}
use Rattle.dn_seal.proofs.ChallengeLemmas.{opened_more, first_unopened}
use Rattle.dn_seal.proofs.challenge.unseal_all.Goals as goal

pub returns-in-Err-clause-unopened : goal.returns-in-Err-clause-unopened
returns-in-Err-clause-unopened c =
    inr (first_unopened c.args.roster.now c.args.envelopes.now c.loop-envelope.shown.items c.loop-envelope.envelope-index c.envelope-item.result c.in-Err.fault c.loop-envelope.invariant c.envelope-item.is (omega arith)
    (subst (λ b. IsUnopened c.args.roster.now b c.in-Err.fault) c.get.ensures c.in-Err.ensures.unopened))

pub loop-envelope-preserved : goal.loop-envelope-preserved
loop-envelope-preserved c =
    let s = c.in-Ok.ensures.said in
    opened_more c.args.roster.now c.args.envelopes.now c.loop-envelope.shown.items _ c.loop-envelope.envelope-index c.envelope-item.result c.in-Ok.said c.loop-envelope.invariant c.in_ok-push.ensures.items (s.0, s.1, s.2 ∙ c.get.ensures) c.envelope-item.is (omega arith)
