use Rattle.std.proofs.Common.{◌≡◌, ◌<◌, ◌++◌, ◌∷◌, [], sym, ap, subst, ◌∙◌, arith, length, refl, true, false}
use Rattle.dn_wire.specs.declared.ids.SignerId.TheVariants.{Slot}
use Rattle.dn_lms.specs.Key.{leaf_count}
use Rattle.dn_seal.specs.Signer.{CanSign, sealed_in}
use Rattle.dn_client.specs.declared.accused.Accused.{Accused}
use Rattle.dn_client.specs.Client.{ClientView, accusation_of, sealed_as_slot}
use Rattle.dn_client.specs.Accusing.{HasAccused, IsJammed, IsAccusedNow}
use Rattle.dn_client.specs.Inside.{view_of}
use Rattle.dn_client.proofs.Clients.{keeps_of, keeps_slot_key, still_client, accuses}
use Rattle.dn_client.proofs.client.Client.accuse_now.Goals as goal

pub invariant_of-self : goal.invariant_of-self
invariant_of-self c =
    let v = view_of c.self.inside in
    let keeps = c.self.invariant in
    keeps_of (record v { spent = true }) (λ i. record v { accused = c.reserve.ensures.items i; spent = true }) (still_client v v.left true keeps.client) keeps.signer keeps.slot_signer keeps.one_group (λ e. absurd cc)

pub returns-in_err-reserve-clause-client : goal.returns-in_err-reserve-clause-client
unfolding invariant_of-self
returns-in_err-reserve-clause-client c = (invariant_of-self c).client

pub invariant_of-self-in_err-sealed : goal.invariant_of-self-in_err-sealed
invariant_of-self-in_err-sealed c =
    let v = view_of c.self.inside in
    let keeps = c.self.invariant in
    let key_is = c.in_err-sealed.ensures.lost in
    keeps_slot_key c.self.inside (record v { spent = true }) c.self.inside.slot_key.signed true keeps key_is refl refl refl
    (λ i. record v { who = record v.who { slot_key = (key_is i).key }; accused = c.reserve.ensures.items i; signed_as_slot = (key_is i).signed; spent = true })
    (still_client v v.left true keeps.client) (λ e. absurd cc)

pub returns-in_err-sealed-clause-client : goal.returns-in_err-sealed-clause-client
unfolding invariant_of-self-in_err-sealed
returns-in_err-sealed-clause-client c = (invariant_of-self-in_err-sealed c).client

pub seal-requires-clause-fits : goal.seal-requires-clause-fits
seal-requires-clause-fits c = subst (λ w. CanSign w c.accusation_of-accusation.result) (sym c.self.invariant.slot_signer) c.accusation_of-accusation.ensures.fits

pub invariant_of-self-in_err-given : goal.invariant_of-self-in_err-given
invariant_of-self-in_err-given c =
    let v = view_of c.self.inside in
    let keeps = c.self.invariant in
    let a : Accused = record { r = c.args.r; k = c.args.k; envelope = c.of-envelope.result } in
    let s = accusation_of v.who a in
    let statement_is = c.accusation_of-accusation.ensures.value in
    let key_is = c.in_ok-sealed.ensures.signed ∙ ap (λ t. record c.self.inside.slot_key { signed = v.signed_as_slot ++ t ∷ [] }) statement_is in
    let unspent : c.self.inside.spent ≡ false = ap (λ (w : ClientView). w.spent) c.self.view_is ∙ c.requires.unspent in
    let accused_is : c.push_reserved.new.self.items ≡ v.accused ++ a ∷ [] = c.push_reserved.ensures.items ∙ ap (λ l. l ++ a ∷ []) c.reserve.ensures.items in
    let leaf : length v.signed_as_slot < leaf_count v.who.slot_key = omega (arith, c.left.ensures.count, c.if-left-eq0.false) in
    let digest_is : c.self.inside.slot_key.digest ≡ v.who.digest = keeps.one_group in
    let fits = subst (λ t. CanSign (Slot v.who.slot) t) statement_is c.accusation_of-accusation.ensures.fits in
    let jammed = subst (λ w. IsJammed w c.args.r c.args.k) (sym c.self.view_is) c.requires.jammed in
    let sealed : a.envelope ≡ sealed_as_slot v.who (length v.signed_as_slot) s = c.of-envelope.ensures ∙ c.in_ok-sealed.ensures.sealed
    ∙ (λ i. sealed_in (digest_is i) (keeps.slot_signer i) v.who.slot_key (length v.signed_as_slot) (statement_is i)) in
    keeps_slot_key c.self.inside (record v { accused = v.accused ++ a ∷ []; signed_as_slot = v.signed_as_slot ++ s ∷ []; spent = true }) (v.signed_as_slot ++ s ∷ []) c.self.inside.slot_key.lost keeps key_is refl refl refl
    (λ i. record v { who = record v.who { slot_key = (key_is i).key }; accused = accused_is i; signed_as_slot = (key_is i).signed; spent = true })
    (still_client (record v { accused = v.accused ++ a ∷ []; signed_as_slot = v.signed_as_slot ++ s ∷ [] }) v.left true (accuses v a jammed fits leaf sealed keeps.client)) (λ e. absurd cc)

pub returns-in_err-given-clause-client : goal.returns-in_err-given-clause-client
unfolding invariant_of-self-in_err-given
returns-in_err-given-clause-client c = (invariant_of-self-in_err-given c).client

pub invariant_of-self-2 : goal.invariant_of-self-2
invariant_of-self-2 c =
    let v = view_of c.self.inside in
    let keeps = c.self.invariant in
    let a : Accused = record { r = c.args.r; k = c.args.k; envelope = c.of-envelope.result } in
    let s = accusation_of v.who a in
    let statement_is = c.accusation_of-accusation.ensures.value in
    let key_is = c.in_ok-sealed.ensures.signed ∙ ap (λ t. record c.self.inside.slot_key { signed = v.signed_as_slot ++ t ∷ [] }) statement_is in
    let unspent : c.self.inside.spent ≡ false = ap (λ (w : ClientView). w.spent) c.self.view_is ∙ c.requires.unspent in
    let accused_is : c.push_reserved.new.self.items ≡ v.accused ++ a ∷ [] = c.push_reserved.ensures.items ∙ ap (λ l. l ++ a ∷ []) c.reserve.ensures.items in
    let leaf : length v.signed_as_slot < leaf_count v.who.slot_key = omega (arith, c.left.ensures.count, c.if-left-eq0.false) in
    let digest_is : c.self.inside.slot_key.digest ≡ v.who.digest = keeps.one_group in
    let fits = subst (λ t. CanSign (Slot v.who.slot) t) statement_is c.accusation_of-accusation.ensures.fits in
    let jammed = subst (λ w. IsJammed w c.args.r c.args.k) (sym c.self.view_is) c.requires.jammed in
    let sealed : a.envelope ≡ sealed_as_slot v.who (length v.signed_as_slot) s = c.of-envelope.ensures ∙ c.in_ok-sealed.ensures.sealed
    ∙ (λ i. sealed_in (digest_is i) (keeps.slot_signer i) v.who.slot_key (length v.signed_as_slot) (statement_is i)) in
    keeps_slot_key c.self.inside (record v { accused = v.accused ++ a ∷ []; signed_as_slot = v.signed_as_slot ++ s ∷ [] }) (v.signed_as_slot ++ s ∷ []) c.self.inside.slot_key.lost keeps key_is refl refl refl
    (λ i. record v { who = record v.who { slot_key = (key_is i).key }; accused = accused_is i; signed_as_slot = (key_is i).signed; spent = sym unspent i })
    (accuses v a jammed fits leaf sealed keeps.client) (λ e. keeps.whole unspent)

pub returns-clause-client : goal.returns-clause-client
unfolding invariant_of-self-2
returns-clause-client c = (invariant_of-self-2 c).client

pub returns-clause-accused : goal.returns-clause-accused
returns-clause-accused c =
    let v = view_of c.self.inside in
    let keeps = c.self.invariant in
    let a : Accused = record { r = c.args.r; k = c.args.k; envelope = c.of-envelope.result } in
    let s = accusation_of v.who a in
    let statement_is = c.accusation_of-accusation.ensures.value in
    let key_is = c.in_ok-sealed.ensures.signed ∙ ap (λ t. record c.self.inside.slot_key { signed = v.signed_as_slot ++ t ∷ [] }) statement_is in
    let unspent : c.self.inside.spent ≡ false = ap (λ (w : ClientView). w.spent) c.self.view_is ∙ c.requires.unspent in
    let accused_is : c.push_reserved.new.self.items ≡ v.accused ++ a ∷ [] = c.push_reserved.ensures.items ∙ ap (λ l. l ++ a ∷ []) c.reserve.ensures.items in
    let leaf : length v.signed_as_slot < leaf_count v.who.slot_key = omega (arith, c.left.ensures.count, c.if-left-eq0.false) in
    let digest_is : c.self.inside.slot_key.digest ≡ v.who.digest = keeps.one_group in
    let fits = subst (λ t. CanSign (Slot v.who.slot) t) statement_is c.accusation_of-accusation.ensures.fits in
    let jammed = subst (λ w. IsJammed w c.args.r c.args.k) (sym c.self.view_is) c.requires.jammed in
    let sealed : a.envelope ≡ sealed_as_slot v.who (length v.signed_as_slot) s = c.of-envelope.ensures ∙ c.in_ok-sealed.ensures.sealed
    ∙ (λ i. sealed_in (digest_is i) (keeps.slot_signer i) v.who.slot_key (length v.signed_as_slot) (statement_is i)) in
    let new : ClientView = record v { who = record v.who { slot_key = c.seal.new.self.key }; accused = c.push_reserved.new.self.items; signed_as_slot = c.seal.new.self.signed; spent = false } in
    let given : c.in_ok-given.given.items ≡ a.envelope = c.in_ok-given.ensures.items ∙ c.get.ensures in
    let first = subst (λ w. HasAccused w c.args.r c.args.k → ⊥) (sym c.self.view_is) c.requires.first in
    subst (λ w. IsAccusedNow w c.args.r c.args.k c.in_ok-given.given.items new) c.self.view_is
    (subst (λ e. IsAccusedNow v c.args.r c.args.k e new) (sym given)
    record {
      first = first;
      leaf = leaf;
      sealed = sealed;
      kept = λ i. record v { who = record v.who { slot_key = (key_is i).key }; accused = accused_is i; signed_as_slot = (key_is i).signed; spent = sym unspent i };
    })
