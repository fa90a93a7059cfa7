use Rattle.std.proofs.Common.{Bool, ◌∙◌, ap, sym}
use Rattle.std.specs.Prelude.{Some, ◌&&◌}
use Rattle.dn_seal.specs.Said.{SaidView}
use Rattle.dn_server.specs.Server.{is_server}
use Rattle.dn_server.proofs.FindLemmas.{find_first, find_none-more}
use Rattle.dn_openings.specs.Evidence.{is_pad}
use Rattle.dn_openings.proofs.keeping.first_pad.Goals as goal

pub returns-then-is_pad_by : goal.returns-then-is_pad_by
returns-then-is_pad_by c =
    let p : SaidView → Bool = λ x. is_server c.args.j.0 x.signer && is_pad c.args.place.r c.args.place.k x.statement in
    find_first p c.args.kept.now c.loop-said.said-index c.said-item.result c.loop-said-test.true c.loop-said.invariant
    (ap p (sym c.said-item.is) ∙ sym c.is_pad_by.ensures ∙ c.if-is_pad_by.true)
    ∙ ap Some (sym c.said-item.is)

pub loop-said-preserved : goal.loop-said-preserved
loop-said-preserved c =
    let p : SaidView → Bool = λ x. is_server c.args.j.0 x.signer && is_pad c.args.place.r c.args.place.k x.statement in
    find_none-more p c.args.kept.now c.loop-said.said-index c.said-item.result c.loop-said-test.true c.loop-said.invariant
    (ap p (sym c.said-item.is) ∙ sym c.is_pad_by.ensures ∙ c.if-is_pad_by.false)
