use Rattle.std.proofs.Common.{refl}
use Rattle.std.proofs.lemmas.Result.{IfOk-weaker}
use Rattle.dn_bits.specs.Bits.{bytes_of}
use Rattle.dn_state.specs.Telling.{output_lines_of}
use Rattle.dn_state.specs.Telling.IsRoundTold.{full}
use Rattle.dn_state.proofs.TellingLemmas.{output_long, has_layout}
use Rattle.dn_state.proofs.round_lines.tell_rest.Goals as goal

pub tell_output-requires : goal.tell_output-requires
tell_output-requires c =
    output_long c.args.chain.now c.layout.ensures.chain c.args.body.now c.requires c.in-Some.layout.now c.if-body.false c.in-Some.ensures.layout

pub returns-in-Some : goal.returns-in-Some
returns-in-Some c =
    let b = c.args.body.now in
    let layout = c.in-Some.layout.now in
    IfOk-weaker c.tell_output.result _ _
    (λ _ items. (output_lines_of b.r layout (bytes_of b.out), full layout c.if-body.false c.in-Some.ensures.layout refl, items)) c.tell_output.ensures

pub returns-in-None : goal.returns-in-None
returns-in-None c = absurd (has_layout c.args.chain.now c.layout.ensures.chain c.args.body.now c.requires c.in-None.ensures.layout)
