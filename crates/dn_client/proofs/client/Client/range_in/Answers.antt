use Rattle.std.proofs.Common.{ap, ◌∙◌, subst}
use Rattle.dn_layout.specs.Layout.{range_of}
use Rattle.dn_client.specs.Accusing.{IsRangeIn}
use Rattle.dn_cert.proofs.ChainLemmas.{has_layout, layout_is_one_lem}
use Rattle.dn_client.proofs.client.Client.range_in.Goals as goal

pub returns-in_err-layout : goal.returns-in_err-layout
returns-in_err-layout c =
    subst (λ v. IsRangeIn v c.args.body.now c.from_residual.result) c.self.view_is
    (λ lengths after. absurd (c.in_err-layout.ensures.layout.1 (has_layout c.self.inside.chain c.args.body.now.prev.0 lengths c.in_err-layout.ensures.layout.0 after)))

pub returns : goal.returns
returns c =
    subst (λ v. IsRangeIn v c.args.body.now c.range.result) c.self.view_is
    (λ lengths after. c.range.ensures
    ∙ ap (λ l. range_of l c.self.inside.slot.0)
    (layout_is_one_lem c.self.inside.chain c.args.body.now.prev.0 c.in_ok-layout.field-0.now lengths c.self.invariant.client.chain c.in_ok-layout.ensures.layout after))
