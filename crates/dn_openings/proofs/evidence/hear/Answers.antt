use Rattle.std.proofs.lemmas.Result.{IfOk-weaker}
use Rattle.dn_server.specs.Parts.{live}
use Rattle.dn_openings.specs.Hearing.{HearsEvidence}
use Rattle.dn_openings.specs.Open.{CanOpen}
use Rattle.dn_openings.proofs.StayLemmas.{can_hear}
use Rattle.dn_openings.proofs.evidence.hear.Goals as goal

pub returns-clause-can : goal.returns-clause-can
returns-clause-can g c =
    let v = live c.args.parts.now in
    let after = live c.heard.new.parts in
    IfOk-weaker c.heard.result (λ answer. HearsEvidence v c.args.said.now answer after) (λ answer. CanOpen after)
    (λ answer h. can_hear v c.args.said.now answer after h c.requires.under c.requires.can) c.heard.ensures
