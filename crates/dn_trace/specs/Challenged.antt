-- Clients that are challenged.
use Rattle.std.specs.Prelude.{◌≡◌, ◌≢◌, ◌<◌, ℕ, Bool, List, [], map, length, slice_index_or, Contains}
use Rattle.dn_bits.specs.Bits.{bit}
use Rattle.dn_record_types.specs.declared.body.Listed.{Listed}
use Rattle.dn_record_types.specs.declared.shown.ShownCipher.{ShownCipher}
use Rattle.dn_cert.specs.Evidence.{shown_bit}
use Rattle.dn_bits.specs.XorAll.{xor_all}
use Rattle.dn_trace.specs.Trial.{Trial, servers_of}
use Rattle.dn_trace.specs.Reasons.{IsTwice, HasFalseEntry, HasFalseCommit, ShowsWrong, HasFalseSum, HasFalseOutput, Shows, Signed}

-- No reason but a rebuttal names a server.
pub record NamesNone (trial : Trial) : Type 0 where
  pub twice : (j : ℕ) → ¬ IsTwice trial j
  pub entry : (j : ℕ) → ¬ HasFalseEntry trial j
  pub commit : (j : ℕ) → ¬ HasFalseCommit trial j
  pub shown : (j : ℕ) → ¬ ShowsWrong trial j
  pub sum : (j : ℕ) → ¬ HasFalseSum trial j
  pub output : ¬ HasFalseOutput trial

-- the server showed its ciphertexts and signed pad bits
pub record IsOpened (trial : Trial) (j : ℕ) : Type 0 where
  pub s : List Bool
  pub shown : List ShownCipher
  pub shows : Shows trial j s shown
  pub pad : List Bool
  pub signed : Signed trial j pad

-- the pad bits that the servers signed, by server
pub record AreSigned (trial : Trial) (pads : List (List Bool)) : Type 0 where
  pub each : length pads ≡ servers_of trial
  pub signed : (j : ℕ) → j < servers_of trial → Signed trial j (slice_index_or pads j [])

-- The client's ciphertext, as the server shows it to which the body gives the client, has another bit at the judged place than the
-- servers' pad bits for the client add up to; no reason but a rebuttal names a server, and every server has opened.
pub record IsChallenged (trial : Trial) (i : ℕ) : Type 0 where
  pub named : NamesNone trial
  pub opened : (j : ℕ) → j < servers_of trial → IsOpened trial j
  pub row : Listed
  pub listed : Contains trial.body.listed row
  pub client : row.client.0 ≡ i
  pub s : List Bool
  pub shown : List ShownCipher
  pub shows : Shows trial row.server.0 s shown
  pub cipher : ShownCipher
  pub among : Contains shown cipher
  pub of_client : cipher.client ≡ row.client
  pub pads : List (List Bool)
  pub signed : AreSigned trial pads
  pub differ : bit cipher.cipher trial.k ≢ xor_all (map (λ pad. shown_bit pad row.client) pads)
