use Rattle.std.specs.Prelude.{codes}
use Rattle.dn_hash.proofs.InputLemmas.{seed_parts, behind_tag, ciphertext_parts, mask_seed_parts, group_parts}
use Rattle.dn_hash.proofs.laws.inputs_have_their_parts.Goals as goal

pub returns : goal.returns
returns c = record {
  seed = seed_parts;
  cipher = ciphertext_parts (codes "dnsub");
  server = ciphertext_parts (codes "dnsrv");
  mask_key = behind_tag (codes "dnmask");
  block = behind_tag (codes "dnblock");
  mask_seed = mask_seed_parts;
  group = group_parts;
}
