use Rattle.std.proofs.Common.{◌∙◌, ap, sym}
use Rattle.std.specs.Prelude.{Some}
use Rattle.dn_server.specs.Server.{is_of}
use Rattle.dn_server.specs.Keeping.{byte_for}
use Rattle.dn_server.proofs.FindLemmas.{find_first, find_none-more}
use Rattle.dn_server.proofs.kept.find.Goals as goal

pub returns-then-is_of : goal.returns-then-is_of
returns-then-is_of c =
    let p = is_of (byte_for c.args.kind) c.args.j.0 in
    find_first p c.args.kept.now c.loop-said.said-index c.said-item.result c.loop-said-test.true c.loop-said.invariant
    (ap p (sym c.said-item.is) ∙ sym c.is_of.ensures ∙ c.if-is_of.true)
    ∙ ap Some (sym c.said-item.is)

pub loop-said-preserved : goal.loop-said-preserved
loop-said-preserved c =
    let p = is_of (byte_for c.args.kind) c.args.j.0 in
    find_none-more p c.args.kept.now c.loop-said.said-index c.said-item.result c.loop-said-test.true c.loop-said.invariant
    (ap p (sym c.said-item.is) ∙ sym c.is_of.ensures ∙ c.if-is_of.false)
