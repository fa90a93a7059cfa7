use Rattle.std.proofs.Common.{◌+◌, List, ℕ, subst, sym}
use Rattle.dn_rounds.specs.Certifying.{AreSignatures}
use Rattle.dn_rounds.proofs.CertifyLemmas.{signatures_more}
use Rattle.dn_rounds.proofs.certifying.signatures.Goals as goal

pub loop-j-preserved : goal.loop-j-preserved
loop-j-preserved c =
    let roster = c.args.roster.now in
    let kept = c.args.kept.now in
    let b = c.args.b.now in
    subst (λ (l : List (List ℕ)). AreSignatures roster kept b (c.loop-j.j + 1) l) (sym c.in_ok-push.ensures.items)
    (signatures_more roster kept b c.loop-j.j c.loop-j.all.items c.in_ok-signature.signature c.loop-j.invariant c.in_ok-signature.ensures)
