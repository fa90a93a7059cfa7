-- Clients whose ciphertext differs from what all pads add up to.
use Rattle.std.proofs.Common.{◌≡◌, ◌≢◌, ℕ, Bool, true, false, not, List, map, take, refl, sym}
use Rattle.std.specs.Prelude.{Contains}
use Rattle.std.specs.Bool.{beq}
use Rattle.std.proofs.lemmas.Bool.{false≢true}
use Rattle.dn_bits.specs.Bits.{bit}
use Rattle.dn_record_types.specs.declared.shown.ShownCipher.{ShownCipher}
use Rattle.dn_cert.specs.Evidence.{shown_bit}
use Rattle.dn_trace.specs.declared.openings.Opening.{Opening}
use Rattle.dn_bits.specs.XorAll.{xor_all}
use Rattle.dn_trace.specs.Trial.{Trial}

-- one of these ciphertexts is of the client, and differs
pub record DiffersIn (trial : Trial) (openings : List Opening) (shown : List ShownCipher) (i : ℕ) : Type 0 where
  pub cipher : ShownCipher
  pub among : Contains shown cipher
  pub client : cipher.client.0 ≡ i
  pub differ : bit cipher.cipher trial.k ≢ xor_all (map (λ o. shown_bit o.pad.now cipher.client) openings)

abbrev pub DiffersFirst : Trial → List Opening → ℕ → ℕ → Type 0
DiffersFirst trial openings n i = (o : Opening) × Contains (take n openings) o × DiffersIn trial openings o.shown.now i

pub bits_differ : (a b : Bool) → not (beq a b) ≡ true → a ≡ b → ⊥
bits_differ true true h e = false≢true h
bits_differ true false h e = cc
bits_differ false true h e = cc
bits_differ false false h e = false≢true h

pub bits_same : (a b : Bool) → not (beq a b) ≡ false → a ≡ b
bits_same true true h = refl
bits_same true false h = absurd (false≢true (sym h))
bits_same false true h = absurd (false≢true (sym h))
bits_same false false h = refl
