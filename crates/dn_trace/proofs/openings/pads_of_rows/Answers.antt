use Rattle.std.proofs.Common.{[], sym, ◌∙◌}
use Rattle.dn_bits.specs.Bits.{xor}
use Rattle.dn_record_types.specs.declared.body.Listed.{Listed}
use Rattle.dn_cert.specs.Evidence.{shown_bit}
use Rattle.dn_trace.proofs.XorLemmas.{xor_all-take_more}
use Rattle.dn_trace.proofs.openings.pads_of_rows.Goals as goal

pub loop-row-preserved : goal.loop-row-preserved
loop-row-preserved c =
    let none : Listed = record { client = record { 0 = 0 }; server = record { 0 = 0 }; digest = [] } in
    c.either-sum.ensures ∙ (λ t. xor (c.loop-row.invariant t) (c.shown_bit.ensures t))
    ∙ sym (xor_all-take_more (λ r. shown_bit c.args.pad.now r.client) c.args.rows.now c.loop-row.row-index none c.loop-row-test.true)
