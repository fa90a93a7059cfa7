-- What a client keeps stays where a text joins its queue, and where it leaves.
use Rattle.std.proofs.Common.{◌≡◌, ℕ, zero, suc, ◌≤◌, List, [], ◌∷◌, ◌++◌, length, take, drop, refl, sym, ap, subst, arith, inl, inr, true}
use Rattle.std.proofs.lemmas.List.{length-append}
use Rattle.std.proofs.lemmas.List.Elements.{All-contains, Contains-append_cases}
use Rattle.dn_wire.specs.declared.limits.TheConstants.{MAX_TEXT}
use Rattle.dn_cert.proofs.Orders.{All-from_contains}
use Rattle.dn_client.specs.declared.made.Made.{Made}
use Rattle.dn_client.specs.Client.{ClientView, IsClient, IsMade, IsMadeOn}
use Rattle.dn_state.specs.Calling.{with_text}
use Rattle.dn_steps.proofs.Places.{only}

take_same : {A : Type 0} (n : ℕ) (xs ys : List A) → n ≤ length xs → take n (xs ++ ys) ≡ take n xs
take_same zero xs ys le = refl
take_same (suc n) [] ys le = absurd (omega arith)
take_same (suc n) (x ∷ xs) ys le = ap (λ zs. x ∷ zs) (take_same n xs ys (omega arith))

made_still : (c : ClientView) (text : List ℕ) (m : Made) → IsMade c.who c.chain c.queue c.signed m → IsMade c.who c.chain (c.queue ++ text ∷ []) c.signed m
made_still c text m h =
    let long = length-append c.queue (text ∷ []) in
    let lt = h.within in
    record {
      below = h.below;
      lengths = h.lengths;
      after = h.after;
      place = h.place;
      said = h.said;
      within = omega (arith, long, lt);
      content = subst (λ (ts : List (List ℕ)). IsMadeOn c.who h.lengths (drop h.place ts) h.place m) (sym (take_same h.said c.queue (text ∷ []) lt)) h.content;
      fits = h.fits;
      sealed = h.sealed;
    }

pub with_text_is_client : (c : ClientView) (text : List ℕ) → length text ≤ MAX_TEXT → IsClient c → IsClient (with_text c text)
with_text_is_client c text short h =
    let long = length-append c.queue (text ∷ []) in
    let head = h.head in
    record {
      chain = h.chain;
      slot = h.slot;
      keys = h.keys;
      seeds = h.seeds;
      texts = All-from_contains (λ (t : List ℕ). length t ≤ MAX_TEXT) (c.queue ++ text ∷ []) (λ t there. elim (Contains-append_cases c.queue (text ∷ []) t there) [
        | inl before ↦ All-contains (λ (x : List ℕ). length x ≤ MAX_TEXT) c.queue t h.texts before
        | inr last ↦ subst (λ (x : List ℕ). length x ≤ MAX_TEXT) (only text t last) short
      ]);
      head = omega (arith, long, head);
      ascends = h.ascends;
      made = All-from_contains (IsMade c.who c.chain (c.queue ++ text ∷ []) c.signed) c.made (λ m there.
          made_still c text m (All-contains (IsMade c.who c.chain c.queue c.signed) c.made m h.made there));
      accused = h.accused;
      leaves = h.leaves;
      honest = λ straight. let is = h.honest straight in
          record { kinds = is.kinds; submissions = is.submissions; rebuttals = is.rebuttals; accusations = is.accusations };
    }

pub left_is_client : (c : ClientView) → IsClient c → IsClient (record c { left = true })
left_is_client c h = record {
  chain = h.chain;
  slot = h.slot;
  keys = h.keys;
  seeds = h.seeds;
  texts = h.texts;
  head = h.head;
  ascends = h.ascends;
  made = h.made;
  accused = h.accused;
  leaves = h.leaves;
  honest = λ straight. let is = h.honest straight in
      record { kinds = is.kinds; submissions = is.submissions; rebuttals = is.rebuttals; accusations = is.accusations };
}
