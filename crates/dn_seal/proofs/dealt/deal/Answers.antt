use Rattle.std.proofs.Common.{arith, ap, sym, ◌∙◌, ◌*◌, length, map}
use Rattle.dn_lms.specs.Signature.{public_key}
use Rattle.dn_seal.specs.Dealt.{client, server, slot, commitment_dealt_to}
use Rattle.dn_seal.proofs.ListLemmas.{length-each_pair, length-public_keys}
use Rattle.dn_seal.proofs.dealt.deal.Goals as goal

pub make-roster-requires : goal.make-roster-requires
make-roster-requires c =
    let r = c.requires in
    let group = c.args.spec.now in
    let clients = length-public_keys group client group.clients _ (c.in_ok-public_keys.ensures ∙ ap (map public_key) (c.deref.ensures.value ∙ c.in_ok-client_keys.ensures.dealt)) in
    let servers = length-public_keys group server group.servers _ (c.in_ok-public_keys-2.ensures ∙ ap (map public_key) (c.deref-2.ensures.value ∙ c.in_ok-server_keys.ensures.dealt)) in
    let slots = length-public_keys group slot group.clients _ (c.in_ok-public_keys-3.ensures ∙ ap (map public_key) (c.deref-3.ensures.value ∙ c.in_ok-slot_keys.ensures.dealt)) in
    record {
      version = r.version;
      ots = r.ots;
      client_lms = r.client_lms;
      server_lms = r.server_lms;
      clients = (omega (arith, clients, r.clients), omega (arith, clients, r.clients));
      servers = (omega (arith, servers, r.servers), omega (arith, servers, r.servers));
      slots = slots ∙ sym clients;
      seals = ap length c.in_ok-commitments.ensures ∙ length-each_pair (commitment_dealt_to group) group.clients group.servers ∙ (λ i. sym clients i * sym servers i);
    }
