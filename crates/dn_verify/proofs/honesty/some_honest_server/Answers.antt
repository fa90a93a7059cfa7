use Rattle.std.proofs.Common.{refl, arith, below_more}
use Rattle.std.proofs.lemmas.Bool.{false≢true}
use Rattle.std.proofs.Common.{sym, ◌∙◌}
use Rattle.dn_verify.proofs.honesty.some_honest_server.Goals as goal

pub returns-then-not-is_corrupt : goal.returns-then-not-is_corrupt
returns-then-not-is_corrupt c =
    (λ h. (record { 0 = c.loop-j.j }, c.loop-j-test.true, λ among. false≢true (sym c.if-not-is_corrupt.true ∙ c.is_corrupt.ensures.1 among)), λ h. refl)

pub loop-j-preserved : goal.loop-j-preserved
loop-j-preserved c = below_more _ _ c.loop-j.invariant (c.is_corrupt.ensures.0 c.if-not-is_corrupt.false)

pub returns : goal.returns
returns c = (λ h. absurd (false≢true h), λ w. absurd (w.2 (c.loop-j.invariant w.0.0 (omega (arith, w.1)))))
