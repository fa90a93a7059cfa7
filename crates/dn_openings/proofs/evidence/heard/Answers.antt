use Rattle.std.proofs.Common.{◌≡◌, sym, ap, ◌∙◌, subst}
use Rattle.std.specs.Prelude.{Some}
use Rattle.std.proofs.lemmas.Result.{IfOk-weaker}
use Rattle.dn_seal.specs.Said.{SaidView}
use Rattle.dn_server.specs.Parts.{live}
use Rattle.dn_server.specs.Server.{ServerView}
use Rattle.dn_openings.specs.Accusing.{Accuses}
use Rattle.dn_openings.specs.Hearing.{HearsOpening, HearsEvidence, IsByServer, round_opened, opening, accusation}
use Rattle.dn_openings.proofs.evidence.heard.Goals as goal

pub returns-in-PadBits : goal.returns-in-PadBits
returns-in-PadBits g c =
    let v : ServerView = live c.args.parts.now in
    let said : SaidView = c.args.said.now in
    let after : ServerView = live c.hear_opening.new.parts in
    let r = c.in-PadBits.r in
    let is : round_opened said.statement ≡ Some r = ap round_opened (sym c.statement.ensures.value ∙ c.in-PadBits.is) in
    let by : IsByServer said.signer = subst IsByServer c.signer.ensures.value (c.is_by_server.ensures.0 c.if-is_by_server.true) in
    IfOk-weaker c.hear_opening.result (λ answer. HearsOpening v r said answer after) (λ answer. HearsEvidence v said answer after)
    (λ answer h. opening r by is h) c.hear_opening.ensures

pub returns-in-Shown : goal.returns-in-Shown
returns-in-Shown g c =
    let v : ServerView = live c.args.parts.now in
    let said : SaidView = c.args.said.now in
    let after : ServerView = live c.hear_opening-in-Shown.new.parts in
    let r = c.in-Shown.r in
    let is : round_opened said.statement ≡ Some r = ap round_opened (sym c.statement.ensures.value ∙ c.in-Shown.is) in
    let by : IsByServer said.signer = subst IsByServer c.signer-in-Shown-1.ensures.value (c.is_by_server-in-Shown-1.ensures.0 c.if-is_by_server-2.true) in
    IfOk-weaker c.hear_opening-in-Shown.result (λ answer. HearsOpening v r said answer after) (λ answer. HearsEvidence v said answer after)
    (λ answer h. opening r by is h) c.hear_opening-in-Shown.ensures

pub returns-in-Accusation : goal.returns-in-Accusation
returns-in-Accusation g c =
    let v : ServerView = live c.args.parts.now in
    let said : SaidView = c.args.said.now in
    let after : ServerView = live c.hear_accusation.new.parts in
    let a = c.in-Accusation in
    IfOk-weaker c.hear_accusation.result (λ answer. Accuses v a.r said answer after) (λ answer. HearsEvidence v said answer after)
    (λ answer h. accusation a.r a.slot a.k (sym c.statement.ensures.value ∙ a.is) h) c.hear_accusation.ensures
