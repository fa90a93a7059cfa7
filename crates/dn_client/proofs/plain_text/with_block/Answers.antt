use Rattle.std.proofs.Common.{◌≡◌, ◌/◌, subst, ◌∙◌, arith}
use Rattle.std.specs.Prelude.{IfOk}
use Rattle.dn_layout.specs.Layout.{start_of}
use Rattle.dn_client.proofs.Blocks.{placed_so, block_made}
use Rattle.dn_client.proofs.plain_text.with_block.Goals as goal

pub placed-requires : goal.placed-requires
placed-requires c =
    let within = c.ranges_part_the_round.ensures.within c.args.layout.now c.args.slot.0 c.args.range.0 c.args.range.1 c.requires.range in
    let m = block_made c.args.layout.now c.args.slot.0 c.args.range c.args.waiting.now c.args.mask_seed.now c.size-size.result c.said_in-next_len.result.1 c.said_in-next_len.result.0.now c.deref.result.now
    c.requires.range c.size-size.ensures.size c.size-size.ensures.layout.sizes within.1 c.said_in-next_len.ensures.value (c.deref.ensures.value ∙ c.in-Ok.ensures.ok) c.told-mask_seed c.in-Ok.ensures.too_long.1 in
    omega (arith, m.1, m.2, m.3, within.2, c.bits.ensures.bits)

pub returns-in-Ok : goal.returns-in-Ok
returns-in-Ok c =
    let within = c.ranges_part_the_round.ensures.within c.args.layout.now c.args.slot.0 c.args.range.0 c.args.range.1 c.requires.range in
    let m = block_made c.args.layout.now c.args.slot.0 c.args.range c.args.waiting.now c.args.mask_seed.now c.size-size.result c.said_in-next_len.result.1 c.said_in-next_len.result.0.now c.deref.result.now
    c.requires.range c.size-size.ensures.size c.size-size.ensures.layout.sizes within.1 c.said_in-next_len.ensures.value (c.deref.ensures.value ∙ c.in-Ok.ensures.ok) c.told-mask_seed c.in-Ok.ensures.too_long.1 in
    let start : c.args.range.0 / 8 ≡ start_of c.args.layout.now c.args.slot.0 = omega (arith, m.2) in
    subst (λ x. IfOk c.placed.result (λ bits. bits ≡ x))
    (placed_so c.args.layout.now c.args.slot.0 c.args.waiting.now c.args.mask_seed.now (c.args.range.0 / 8) c.bits.result c.deref.result.now start c.bits.ensures.bits m.0 m.1)
    c.placed.ensures
