use Rattle.std.proofs.Common.{◌∙◌, ap, length}
use Rattle.dn_cmd.proofs.RoundLemmas.{length-message}
use Rattle.dn_cmd.proofs.round.cipher.Goals as goal

pub add_client_pads-requires-clause-long : goal.add_client_pads-requires-clause-long
add_client_pads-requires-clause-long c = ap length c.in_ok-bits.ensures ∙ length-message c.args.script.now c.requires.legal c.args.client
