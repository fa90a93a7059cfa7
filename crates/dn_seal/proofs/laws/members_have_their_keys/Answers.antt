use Rattle.std.proofs.Common.{ap, ◌∙◌, ℕ}
use Rattle.std.specs.Prelude.{slice_get}
use Rattle.dn_seal.specs.Dealt.{client, server, slot, key_dealt_to}
use Rattle.dn_seal.proofs.DealtLemmas.{key_of-member, key_of-stranger, slice_get-first}
use Rattle.dn_seal.proofs.laws.members_have_their_keys.Goals as goal

pub returns : goal.returns
returns c =
    let d = c.args.dealt.now in
    let group = d.spec in
    record {
      member = key_of-member group d.roster d.dealt.has_roster;
      stranger = key_of-stranger group d.roster d.dealt.has_roster;
      clients = λ i within. ap (λ l. slice_get l i) d.dealt.has_client_keys ∙ slice_get-first (λ (k : ℕ). key_dealt_to group (client k)) group.clients i within;
      servers = λ j within. ap (λ l. slice_get l j) d.dealt.has_server_keys ∙ slice_get-first (λ (k : ℕ). key_dealt_to group (server k)) group.servers j within;
      slots = λ s within. ap (λ l. slice_get l s) d.dealt.has_slot_keys ∙ slice_get-first (λ (k : ℕ). key_dealt_to group (slot k)) group.clients s within;
    }
