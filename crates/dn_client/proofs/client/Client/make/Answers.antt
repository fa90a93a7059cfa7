use Rattle.std.proofs.Common.{◌<◌, List, sym, ap, subst, ◌∙◌, arith, length, refl, false}
use Rattle.std.proofs.Common.{Some}
use Rattle.std.specs.Prelude.{slice_get}
use Rattle.std.proofs.lemmas.List.FromFn.{length-map-range_with_len}
use Rattle.dn_wire.specs.declared.ids.ClientId.{ClientId}
use Rattle.dn_wire.specs.declared.ids.SignerId.TheVariants.{Client, Slot}
use Rattle.dn_lms.specs.Signature.{public_key}
use Rattle.dn_roster.proofs.OneOwnersList.{one_list}
use Rattle.dn_lms.specs.Key.{IsKey}
use Rattle.dn_seal.specs.Dealt.{seed_dealt_to}
use Rattle.dn_client.specs.Client.{Identity}
use Rattle.dn_client.proofs.Clients.{keeps_of}
use Rattle.dn_client.proofs.Fresh.{fresh_view, fresh_client, one_at, servers_of, opens_of}
use Rattle.dn_client.proofs.client.Client.make.Goals as goal

pub invariant_of-result-3 : goal.invariant_of-result-3
invariant_of-result-3 c =
    let key_is = c.key.view_is ∙ c.in_ok-key.ensures.fresh in
    let slot_is = c.slot_key.view_is ∙ c.in_ok-slot_key.ensures.fresh in
    let who : Identity = record { me = c.args.i; slot = c.in-Some.slot; digest = c.digest-digest.result; key = c.in_ok-copy.field-0; slot_key = c.in_ok-copy-2.field-0; seeds = c.in_ok-seeds_of.field-0.items; mask = c.in-Some-get-3.mask.now } in
    let chain = c.in_ok-make.field-0 in
    let limits = c.args.dealt.now.dealt.limits in
    let seeds_long = ap length c.in_ok-seeds_of.ensures ∙ length-map-range_with_len (seed_dealt_to c.args.dealt.now.spec c.args.i.0) 0 c.args.dealt.now.spec.servers in
    let slot : c.in-Some.slot.0 < chain.slots = omega (arith, c.in-Some.ensures.0, ap (λ x. x.slots) c.in_ok-make.ensures.none) in
    keeps_of (fresh_view who chain)
    (λ i. record {
      who = record { me = c.args.i; slot = c.in-Some.slot; digest = (key_is i).digest; key = (key_is i).key; slot_key = (slot_is i).key; seeds = c.in_ok-seeds_of.field-0.items; mask = c.in-Some-get-3.mask.now };
      chain = chain;
      queue = c.new.ensures.items i;
      head = 0;
      made = c.new-2.ensures.items i;
      accused = c.new-3.ensures.items i;
      answered = c.new-4.ensures.items i;
      signed = (key_is i).signed;
      signed_as_slot = (slot_is i).signed;
      left = false;
      bent = false;
      spent = false;
    })
    (fresh_client who chain c.in_ok-make.ensures.chain slot
    (subst IsKey (ap (λ k. k.key) c.in_ok-key.ensures.fresh) c.in_ok-key.ensures.key) (subst IsKey (ap (λ k. k.key) c.in_ok-slot_key.ensures.fresh) c.in_ok-slot_key.ensures.key)
    (omega (arith, limits.servers.0, seeds_long), omega (arith, limits.servers.1, seeds_long)))
    (ap (λ k. k.who) key_is) (ap (λ k. k.who) slot_is) (ap (λ k. k.digest) slot_is ∙ sym (ap (λ k. k.digest) key_is)) (λ e. (ap (λ k. k.lost) key_is, ap (λ k. k.lost) slot_is))

pub returns-clause-client : goal.returns-clause-client
unfolding invariant_of-result-3
returns-clause-client c = (invariant_of-result-3 c).client

pub returns-clause-dealt : goal.returns-clause-dealt
returns-clause-dealt c =
    let dealt = c.args.dealt.now in
    let i = c.args.i in
    let key_is = ap (λ k. k.key) (c.key.view_is ∙ c.in_ok-key.ensures.fresh) in
    let slot_key_is = ap (λ k. k.key) (c.slot_key.view_is ∙ c.in_ok-slot_key.ensures.fresh) in
    let own_key = c.members_have_their_keys.ensures.clients i.0 c.requires in
    let own_slot_key = c.members_have_their_keys.ensures.slots c.in-Some.slot.0 c.in-Some.ensures.0 in
    let own_mask = c.pairs_have_their_seeds.ensures.masks i.0 c.requires in
    record {
      me = refl;
      owner = λ owners is. ap (λ (l : List ClientId). slice_get l c.in-Some.slot.0) (one_list dealt.spec owners dealt.owners.items is dealt.dealt.has_owners ∙ sym c.deref.ensures.value) ∙ c.in-Some.ensures.1;
      key = key_is ∙ c.in_ok-copy.ensures ∙ one_at c.deref-2.result.now dealt.client_keys.items i.0 _ _ c.deref-2.ensures.value c.in-Some-get.ensures.lookup.1 own_key;
      slot_key = slot_key_is ∙ c.in_ok-copy-2.ensures ∙ one_at c.deref-3.result.now dealt.slot_keys.items c.in-Some.slot.0 _ _ c.deref-3.ensures.value c.in-Some-get-2.ensures.lookup.1 own_slot_key;
      seeds = c.in_ok-seeds_of.ensures;
      mask = one_at c.deref-4.result.now dealt.masks.items i.0 _ _ c.deref-4.ensures.value c.in-Some-get-3.ensures.lookup.1 own_mask;
    }

pub returns-clause-within : goal.returns-clause-within
unfolding returns-clause-dealt
returns-clause-within c =
    let dealt = c.args.dealt.now in
    let i = c.args.i in
    let is = returns-clause-dealt c in
    let seeds_long = ap length c.in_ok-seeds_of.ensures ∙ length-map-range_with_len (seed_dealt_to dealt.spec i.0) 0 dealt.spec.servers in
    record {
      digest = ap (λ k. k.digest) (c.key.view_is ∙ c.in_ok-key.ensures.fresh) ∙ c.digest-digest.ensures;
      key = c.members_have_their_keys.ensures.member (Client i) c.requires ∙ ap (λ k. Some (public_key k)) (sym is.key);
      slot_key = c.members_have_their_keys.ensures.member (Slot c.in-Some.slot) c.in-Some.ensures.0 ∙ ap (λ k. Some (public_key k)) (sym is.slot_key);
      seeds = seeds_long ∙ sym (servers_of dealt.spec dealt.roster dealt.dealt.has_roster);
      opens = λ j few. opens_of dealt.spec dealt.roster i.0 j c.in_ok-seeds_of.field-0.items (omega (arith, few, seeds_long)) c.in_ok-seeds_of.ensures (c.pairs_have_their_seeds.ensures.commitments i.0 j c.requires (omega (arith, few, seeds_long)));
    }
