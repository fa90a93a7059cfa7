use Rattle.std.proofs.Common.{◌≡◌, ◌++◌, ◌∷◌, [], ap, subst, ◌∙◌, refl, true, false}
use Rattle.dn_client.specs.Client.{ClientView}
use Rattle.dn_client.specs.Signing.{IsUnsealed}
use Rattle.dn_seal.specs.declared.signer.SealFault.TheVariants as faults
use Rattle.dn_client.specs.Inside.{view_of}
use Rattle.dn_client.proofs.Clients.{keeps_slot_key, bends, signs_as_slot}
use Rattle.dn_client.proofs.client.Client.sign_as_slot.Goals as goal

pub invariant_of-self : goal.invariant_of-self
invariant_of-self c =
    let v = view_of c.self.inside in
    let s = c.args.s.now in
    let keeps = c.self.invariant in
    let unspent : c.self.inside.spent ≡ false = ap (λ (w : ClientView). w.spent) c.self.view_is ∙ c.requires.unspent in
    let key_is = c.in-Ok.ensures.sealed.signed in
    keeps_slot_key c.self.inside (record v { signed_as_slot = v.signed_as_slot ++ s ∷ []; bent = true }) (v.signed_as_slot ++ s ∷ []) c.self.inside.slot_key.lost keeps key_is refl refl refl
    (λ i. record v { who = record v.who { slot_key = (key_is i).key }; signed_as_slot = (key_is i).signed; bent = true })
    (signs_as_slot v s c.in-Ok.ensures.sealed.leaf keeps.client) (λ e. keeps.whole unspent)

pub returns-in-Ok-clause-client : goal.returns-in-Ok-clause-client
unfolding invariant_of-self
returns-in-Ok-clause-client c = (invariant_of-self c).client

pub invariant_of-self-in-Err-Exhausted : goal.invariant_of-self-in-Err-Exhausted
invariant_of-self-in-Err-Exhausted c =
    let v = view_of c.self.inside in
    let keeps = c.self.invariant in
    let unspent : c.self.inside.spent ≡ false = ap (λ (w : ClientView). w.spent) c.self.view_is ∙ c.requires.unspent in
    let fault : c.in-Err-Exhausted.field-0 ≡ faults.Exhausted c.in-Err-Exhausted.seen = c.in-Err-Exhausted.field-0-is in
    let unsealed = subst (λ f. IsUnsealed c.self.inside.slot_key f c.seal_copy.new.key) fault c.in-Err-Exhausted.ensures.unsealed in
    let key_is = unsealed.2 in
    keeps_slot_key c.self.inside (record v { bent = true }) v.signed_as_slot c.self.inside.slot_key.lost keeps key_is refl refl refl
    (λ i. record v { who = record v.who { slot_key = (key_is i).key }; signed_as_slot = (key_is i).signed; bent = true })
    (bends v v.spent keeps.client) (λ e. keeps.whole unspent)

pub returns-in-Err-Exhausted-clause-client : goal.returns-in-Err-Exhausted-clause-client
unfolding invariant_of-self-in-Err-Exhausted
returns-in-Err-Exhausted-clause-client c = (invariant_of-self-in-Err-Exhausted c).client

pub invariant_of-self-in-Err-NoMemory : goal.invariant_of-self-in-Err-NoMemory
invariant_of-self-in-Err-NoMemory c =
    let v = view_of c.self.inside in
    let keeps = c.self.invariant in
    let fault : c.in-Err-NoMemory.field-0 ≡ faults.NoMemory = c.in-Err-NoMemory.field-0-is in
    let key_is = subst (λ f. IsUnsealed c.self.inside.slot_key f c.seal_copy.new.key) fault c.in-Err-NoMemory.ensures.unsealed in
    keeps_slot_key c.self.inside (record v { bent = true; spent = true }) v.signed_as_slot c.seal_copy.new.key.lost keeps key_is refl refl refl
    (λ i. record v { who = record v.who { slot_key = (key_is i).key }; signed_as_slot = (key_is i).signed; bent = true; spent = true })
    (bends v true keeps.client) (λ e. absurd cc)

pub returns-in-Err-NoMemory-clause-client : goal.returns-in-Err-NoMemory-clause-client
unfolding invariant_of-self-in-Err-NoMemory
returns-in-Err-NoMemory-clause-client c = (invariant_of-self-in-Err-NoMemory c).client
