-- What an honest client signed.
use Rattle.std.proofs.Common.{◌≡◌, ℕ, Bool, true, false, cond, List, [], ◌∷◌, refl, sym, ap, subst, ◌∙◌, inl, inr, length}
use Rattle.std.specs.Prelude.{Contains, ◌⊎◌, ◌||◌, ◌==◌, not, filter, IsTrue, slice_index}
use Rattle.std.proofs.lemmas.List.Elements.{All-contains}
use Rattle.std.proofs.lemmas.List.{length-map}
use Rattle.std.proofs.lemmas.List.FromFn.{length-range_with_len}
use Rattle.dn_wire.specs.declared.ids.ClientId.{ClientId}
use Rattle.dn_wire.specs.declared.ids.ServerId.{ServerId}
use Rattle.dn_wire.specs.declared.ids.Round.{Round}
use Rattle.dn_bits.specs.Bits.{zeros, bit, below, bit_of_bytes}
use Rattle.dn_bits.proofs.WordLemmas.{length-zeros}
use Rattle.dn_record_types.specs.declared.statement.Statement.{Statement}
use Rattle.dn_record_types.specs.declared.statement.Statement.TheVariants.{Submission, Rebuttal, Concede}
use Rattle.dn_hash.specs.Digests.{mask_seed_of}
use Rattle.dn_layout.specs.Layout.{bits_of}
use Rattle.dn_cert.proofs.ListLemmas.{Contains-from_map}
use Rattle.dn_cert.proofs.Orders.{here, later, first_or_later, nothing}
use Rattle.dn_cert.proofs.Parts.{filter-keeps}
use Rattle.dn_client.specs.declared.made.Made.{Made}
use Rattle.dn_client.specs.declared.accused.Accused.{Accused}
use Rattle.dn_client.specs.declared.answered.Answered.{Answered}
use Rattle.dn_client.specs.Plain.{plain_text, request, in_slot, block_for, cipher_of}
use Rattle.dn_client.specs.Client.{ClientView, Identity, IsClient, IsHonest, IsMadeOn, Rebuts, RebutEach, submission_of, accusation_of, is_submission, is_rebuttal}
use Rattle.dn_client.proofs.Heads.{one_made}
use Rattle.dn_client.proofs.PadSums.{length-added}

one_of : (a b : Bool) → IsTrue (a || b) → (a ≡ true) ⊎ (b ≡ true)
one_of true b t = inl refl
one_of false b t = inr t

-- a statement that rebuts is one to a challenge that was answered
rebutted : (answered : List Answered) (statements : List Statement) (s : Statement) → RebutEach answered statements → Contains statements s
    → (a : Answered) × Contains answered a × Rebuts a s
rebutted [] [] s all there = absurd (nothing s there)
rebutted [] (t ∷ statements) s all there = absurd all
rebutted (a ∷ answered) [] s all there = absurd all
rebutted (a ∷ answered) (t ∷ statements) s all there =
    elim (first_or_later t statements s there) [
      | inl first ↦ (a, here a answered, subst (Rebuts a) first all.0)
      | inr behind ↦ let r = rebutted answered statements s all.1 behind in (r.0, later a answered r.0 r.1, r.2)
    ]

module _ (v : ClientView) (is : IsClient v) (straight : v.bent ≡ false) where
  honest : IsHonest v
  honest = is.honest straight

  pub submission_made : (r prev : Round) (i : ClientId) (digest : List ℕ) → Contains v.signed (Submission r prev i digest)
      → (m : Made) × Contains v.made m × (Submission r prev i digest ≡ submission_of v.who m)
  submission_made r prev i digest there =
      let among = filter-keeps is_submission v.signed (Submission r prev i digest) refl there in
      let from = Contains-from_map (submission_of v.who) v.made (Submission r prev i digest) (subst (λ l. Contains l (Submission r prev i digest)) honest.submissions among) in
      (from.0, from.1, sym from.2)

  pub one_submission : (r prev other_prev : Round) (i other : ClientId) (digest other_digest : List ℕ) → Contains v.signed (Submission r prev i digest)
      → Contains v.signed (Submission r other_prev other other_digest) → Submission r prev i digest ≡ Submission r other_prev other other_digest
  one_submission r prev other_prev i other digest other_digest a b =
      let x = submission_made r prev i digest a in
      let y = submission_made r other_prev other other_digest b in
      let x_round : r ≡ x.0.r = cc x.2 in
      let y_round : r ≡ y.0.r = cc y.2 in
      x.2 ∙ ap (submission_of v.who) (one_made v x.0 y.0 is x.1 y.1 (sym x_round ∙ y_round)) ∙ sym y.2

  pub either_kind : (s : Statement) → Contains v.signed s → (is_submission s ≡ true) ⊎ (is_rebuttal s ≡ true)
  either_kind s there = one_of (is_submission s) (is_rebuttal s) (All-contains (λ t. IsTrue (is_submission t || is_rebuttal t)) v.signed s honest.kinds there)

  pub no_concession : (r : Round) (k : ℕ) → ¬ Contains v.signed (Concede r k)
  no_concession r k there = elim (either_kind (Concede r k) there) [ inl e ↦ absurd cc | inr e ↦ absurd cc ]

  pub rebuttal_answers : (r : Round) (k : ℕ) (j : ServerId) (seed envelope : List ℕ) → Contains v.signed (Rebuttal r k j seed envelope)
      → Contains v.answered record { r = r; k = k }
  rebuttal_answers r k j seed envelope there =
      let s = Rebuttal r k j seed envelope in
      let from = rebutted v.answered (filter is_rebuttal v.signed) s honest.rebuttals (filter-keeps is_rebuttal v.signed s refl there) in
      let round : from.0.r ≡ r = cc from.2.3 in
      let place : from.0.k ≡ k = cc from.2.3 in
      subst (λ (a : Answered). Contains v.answered a) (λ t. record { r = round t; k = place t }) from.1

  pub accusation_made : (s : Statement) → Contains v.signed_as_slot s → (a : Accused) × Contains v.accused a × (s ≡ accusation_of v.who a)
  accusation_made s there =
      let from = Contains-from_map (accusation_of v.who) v.accused s (subst (λ l. Contains l s) honest.accusations there) in
      (from.0, from.1, sym from.2)

-- ---- lengths

length-request : (lengths : List ℕ) (s : ℕ) (waiting : List (List ℕ)) → length (request lengths s waiting) ≡ bits_of lengths
length-request lengths s [] = length-zeros (bits_of lengths)
length-request lengths s (text ∷ texts) =
    let bits = zeros (bits_of lengths) in
    length-map (below (length bits)) (λ j. cond (j == s) (not (bit bits j)) (bit bits j)) ∙ length-range_with_len 0 (length bits) ∙ length-zeros (bits_of lengths)

length-in_slot : (lengths : List ℕ) (s : ℕ) (block : List ℕ) → length (in_slot lengths s block) ≡ bits_of lengths
unfolding in_slot
length-in_slot lengths s block = length-map (below (bits_of lengths)) (bit_of_bytes _) ∙ length-range_with_len 0 (bits_of lengths)

either_long : (t : Bool) (x y : List Bool) (n : ℕ) → length x ≡ n → length y ≡ n → length (cond t x y) ≡ n
either_long true x y n a b = a
either_long false x y n a b = b

length-plain_text : (lengths : List ℕ) (s : ℕ) (waiting : List (List ℕ)) (z : List ℕ) → length (plain_text lengths s waiting z) ≡ bits_of lengths
unfolding plain_text
length-plain_text lengths s waiting z =
    either_long (slice_index lengths s == 0) (request lengths s waiting) (in_slot lengths s (block_for (slice_index lengths s) waiting z)) (bits_of lengths)
    (length-request lengths s waiting) (length-in_slot lengths s (block_for (slice_index lengths s) waiting z))

length-cipher_of : (seeds : List (List ℕ)) (r : ℕ) (plain : List Bool) → length (cipher_of seeds r plain) ≡ length plain
unfolding cipher_of
length-cipher_of seeds r plain = length-added r (length plain) plain seeds refl

pub made_long : (who : Identity) (lengths : List ℕ) (waiting : List (List ℕ)) (place : ℕ) (m : Made) → IsMadeOn who lengths waiting place m
    → (length m.plain ≡ bits_of lengths) × (length m.cipher ≡ bits_of lengths)
made_long who lengths waiting place m is =
    let plain = ap length is.plain ∙ length-plain_text lengths who.slot.0 waiting (mask_seed_of who.mask m.r.0) in
    (plain, ap length is.cipher ∙ length-cipher_of who.seeds m.r.0 m.plain ∙ plain)
