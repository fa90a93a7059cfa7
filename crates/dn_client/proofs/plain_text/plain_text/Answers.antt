use Rattle.std.proofs.Common.{◌≡◌, sym, subst, ◌∙◌}
use Rattle.std.specs.Prelude.{IfOk}
use Rattle.dn_client.proofs.Blocks.{closed_text, open_text}
use Rattle.dn_client.proofs.plain_text.plain_text.Goals as goal

pub returns-in-Some : goal.returns-in-Some
returns-in-Some c =
    subst (λ x. IfOk c.with_block.result (λ bits. bits ≡ x)) (open_text c.args.layout.now c.args.slot.0 c.in-Some.range c.args.waiting.now c.args.mask_seed.now (sym c.range.ensures ∙ c.in-Some.is)) c.with_block.ensures

pub returns-in-None : goal.returns-in-None
returns-in-None c =
    subst (λ x. IfOk c.request.result (λ bits. bits ≡ x)) (closed_text c.args.layout.now c.args.slot.0 c.args.waiting.now c.args.mask_seed.now (sym c.range.ensures ∙ c.in-None.is)) c.request.ensures
