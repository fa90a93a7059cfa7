-- What all servers opened.
use Rattle.std.specs.Prelude.{◌≡◌, ◌≢◌, ℕ, List, length, map, slice_get, Some, Contains}
use Rattle.dn_bits.specs.Bits.{bit}
use Rattle.dn_record_types.specs.declared.shown.ShownCipher.{ShownCipher}
use Rattle.dn_cert.specs.Evidence.{shown_bit}
use Rattle.dn_trace.specs.declared.openings.Opening.{Opening}
use Rattle.dn_bits.specs.XorAll.{xor_all}
use Rattle.dn_trace.specs.Trial.{Trial, servers_of}
use Rattle.dn_trace.specs.Evidence.{IsOpening}

-- the openings of all servers, by server
pub record AreOpenings (trial : Trial) (openings : List Opening) : Type 0 where
  pub size : length openings ≡ servers_of trial
  pub each : (j : ℕ) (o : Opening) → slice_get openings j ≡ Some o → IsOpening trial j o.s.now o.shown.now o.pad.now

-- a ciphertext of client i that was shown has another bit at the judged place than all pads add up to
pub record Differs (trial : Trial) (openings : List Opening) (i : ℕ) : Type 0 where
  pub opening : Opening
  pub among : Contains openings opening
  pub cipher : ShownCipher
  pub shown : Contains opening.shown.now cipher
  pub client : cipher.client.0 ≡ i
  pub differ : bit cipher.cipher trial.k ≢ xor_all (map (λ o. shown_bit o.pad.now cipher.client) openings)
