use Rattle.std.proofs.Common.{◌∙◌, ap, length, get_or, take, refl}
use Rattle.dn_bits.specs.Bits.{xor_bits}
use Rattle.dn_pads.specs.Pads.{pad_of}
use Rattle.dn_roster.specs.Dealing.{pair_seed_of}
use Rattle.dn_cmd.specs.Round.{pair_pad}
use Rattle.dn_cmd.proofs.RoundLemmas.{add_none, add_next, length-so_far, length-pad}
use Rattle.dn_cmd.proofs.round.add_server_pads.Goals as goal

pub loop-client-init : goal.loop-client-init
loop-client-init c =
    let p = c.args.script.now in
    add_none p.bits (λ i. pair_pad p i c.args.server) (λ i. length-pad p i c.args.server) c.args.bits.now c.requires.long

pub loop-client-preserved : goal.loop-client-preserved
loop-client-preserved c =
    let p = c.args.script.now in
    let j = c.args.server in
    let is = c.args.counted.now in
    let k = c.loop-client.client-index in
    let long = length-so_far p.bits (λ i. pair_pad p i j) (λ i. length-pad p i j) c.args.bits.now c.loop-client.bits (take k is) c.requires.long c.loop-client.invariant in
    add_next p.bits (λ i. pair_pad p i j) (λ i. length-pad p i j) c.args.bits.now c.loop-client.bits c.add_pad.new.bits is k (get_or is k 0)
    c.loop-client-test.true refl c.loop-client.invariant
    (c.add_pad.ensures ∙ ap (xor_bits c.loop-client.bits) (
    ap (λ s. pad_of s 1 (length c.loop-client.bits)) (
    c.pair_seed_in-seed.ensures
    ∙ ap (λ s. pair_seed_of s c.servers-servers.result (get_or is k 0) j) c.seed.ensures
    ∙ ap (λ m. pair_seed_of p.seed m (get_or is k 0) j) c.servers-servers.ensures)
    ∙ ap (pad_of (pair_seed_of p.seed p.servers (get_or is k 0) j) 1) long))
