use Rattle.std.proofs.Common.{◌≡◌, ◌-◌, ap, subst, ◌∙◌, arith, length, take, drop, refl}
use Rattle.std.proofs.lemmas.List.{take_rest}
use Rattle.dn_client.specs.Plain.{carried_at, plain_text, cipher_of}
use Rattle.dn_client.specs.Submitting.{IsUnsigned}
use Rattle.dn_cert.proofs.GrowthLemmas.{length-layout}
use Rattle.dn_client.proofs.client.Client.unsigned.Goals as goal

pub plain_text-requires-clause-slot : goal.plain_text-requires-clause-slot
plain_text-requires-clause-slot c =
    omega (arith, c.self.invariant.client.slot, length-layout c.self.inside.chain c.latest_below-prev.result.0 c.in-Some.layout.now c.in-Some.ensures.layout)

pub returns : goal.returns
returns c =
    let rest : take (length c.deref.result.now - c.self.inside.head) (drop c.self.inside.head c.deref.result.now) ≡ drop c.self.inside.head c.self.inside.queue.items =
    take_rest c.deref.result.now c.self.inside.head ∙ ap (drop c.self.inside.head) c.deref.ensures.value in
    subst (λ v. IsUnsigned v c.args.r record { r = c.args.r; prev = c.latest_below-prev.result; range = c.range.result; carried = c.carried_at.result; plain = c.in_ok-plain.plain; cipher = c.in_ok-cipher.cipher; digest = c.in_ok-digest.digest; envelope = c.of.result }) c.self.view_is
    record {
      round = refl;
      prev = c.latest_below-prev.ensures.latest;
      lengths = c.in-Some.layout.now;
      after = c.in-Some.ensures.layout;
      content = record {
        range = c.range.ensures;
        carried = c.carried_at.ensures ∙ ap (λ w. carried_at c.in-Some.layout.now c.self.inside.slot.0 w c.self.inside.head) rest;
        plain = c.in_ok-plain.ensures ∙ (λ i. plain_text c.in-Some.layout.now c.self.inside.slot.0 (rest i) (c.mask_seed-mask_seed.ensures i));
        cipher = c.in_ok-cipher.ensures ∙ ap (λ s. cipher_of s c.args.r.0 c.in_ok-plain.plain) c.deref-2.ensures.value;
        digest = c.in_ok-digest.ensures;
      };
    }
