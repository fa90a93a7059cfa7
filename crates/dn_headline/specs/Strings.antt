-- The strings of a run: the seeds that were dealt or revealed, the ciphertexts that were made or put, and what they say of a body.
use Rattle.std.specs.Prelude.{◌≡◌, ℕ, ◌<◌, ◌⊎◌, Bool, List, [], length, map, filter, slice_index_or, Contains}
use Rattle.dn_wire.specs.declared.ids.ClientId.{ClientId}
use Rattle.dn_wire.specs.declared.ids.ServerId.{ServerId}
use Rattle.dn_wire.specs.declared.ids.Round.{Round}
use Rattle.dn_wire.specs.declared.ids.Member.TheVariants as members
use Rattle.dn_wire.specs.declared.ids.SignerId.{SignerId}
use Rattle.dn_wire.specs.declared.ids.SignerId.TheVariants.{Client, Server}
use Rattle.dn_bits.specs.Bits.{bytes_of, xor_bits, sum_bits, zeros, below}
use Rattle.dn_hash.specs.Digests.{cipher_digest_of, server_digest_of}
use Rattle.dn_pads.specs.Pads.{pad_of}
use Rattle.dn_record_types.specs.declared.body.Body.{Body}
use Rattle.dn_record_types.specs.declared.body.Listed.{Listed}
use Rattle.dn_record_types.specs.declared.shown.ShownCipher.{ShownCipher}
use Rattle.dn_record_types.specs.declared.statement.Statement.TheVariants as kinds
use Rattle.dn_cert.specs.Trim.{given_to}
use Rattle.dn_headline.specs.Group.{GroupView, clients_of, servers_of, seed_of, pads_of_client, is_corrupt}
use Rattle.dn_headline.specs.Run.{RunView, SumMade}
use Rattle.dn_headline.specs.Spoken.{WasSaid, WasSubmitted}

-- a seed of client i and server j: the one that was dealt, or one in a Rebuttal that this client signed and that was put
pub data IsSeed (w : RunView) : ℕ → ℕ → List ℕ → Type 0 where
  dealt : (i j : ℕ) → i < clients_of w.group → j < servers_of w.group → IsSeed w i j (seed_of w.group i j)
  revealed : (i : ClientId) (j : ServerId) (r : Round) (k : ℕ) (seed envelope : List ℕ) → WasSaid w (Client i) (kinds.Rebuttal r k j seed envelope)
      → IsSeed w i.0 j.0 seed

-- A ciphertext of client i in round r: one in a submission payload that was put, or one in a Shown that was put. What an honest client
-- makes it puts.
pub data IsCipher (w : RunView) : ℕ → ℕ → List Bool → Type 0 where
  submitted : (who : SignerId) (r prev : Round) (i : ClientId) (digest : List ℕ) (cipher : List Bool)
      → WasSubmitted w who (kinds.Submission r prev i digest) cipher → IsCipher w r.0 i.0 cipher
  shown : (j : ServerId) (r : Round) (sum : List Bool) (ciphers : List ShownCipher) (x : ShownCipher)
      → WasSaid w (Server j) (kinds.Shown r sum ciphers) → Contains ciphers x → IsCipher w r.0 x.client.0 x.cipher

-- a server ciphertext of server j in round r: one that it made, being honest, or one in a Reveal or Shown of its own that was put
pub data IsSum (w : RunView) : ℕ → ℕ → List Bool → Type 0 where
  made : (m : SumMade) → Contains w.sums m → IsSum w m.r.0 m.server.0 m.sum
  revealed : (j : ServerId) (r : Round) (sum : List Bool) → WasSaid w (Server j) (kinds.Reveal r sum) → IsSum w r.0 j.0 sum
  shown : (j : ServerId) (r : Round) (sum : List Bool) (ciphers : List ShownCipher) → WasSaid w (Server j) (kinds.Shown r sum ciphers) → IsSum w r.0 j.0 sum

-- what stands behind an entry of a body of round r with n bits: a ciphertext of the run with these bits and the entry's digest
pub record FitsEntry (w : RunView) (r n : ℕ) (l : Listed) (cipher : List Bool) : Type 0 where
  pub of_run : IsCipher w r l.client.0 cipher
  pub long : length cipher ≡ n
  pub hashed : cipher_digest_of r l.client.0 (bytes_of cipher) ≡ l.digest

-- what stands behind the digest of server j: a server ciphertext of the run with n bits and this digest
pub record FitsDigest (w : RunView) (r n j : ℕ) (digest : List ℕ) (sum : List Bool) : Type 0 where
  pub of_run : IsSum w r j sum
  pub long : length sum ≡ n
  pub hashed : server_digest_of r j (bytes_of sum) ≡ digest

-- one of the strings that fit, and zeros where none does
abbrev pub OneOf : (List Bool → Type 0) → ℕ → List Bool → Type 0
OneOf Fits n x = Fits x ⊎ (((y : List Bool) → ¬ Fits y) × (x ≡ zeros n))

-- The ciphertexts behind a body of n bits, by client and by server. In a run whose digests are sound there is one choice.
pub record Behind (w : RunView) (b : Body) (n : ℕ) : Type 0 where
  pub cipher : ℕ → List Bool
  pub sum : ℕ → List Bool
  pub ciphers : (l : Listed) → Contains b.listed l → OneOf (FitsEntry w b.r.0 n l) n (cipher l.client.0)
  pub sums : (j : ℕ) → j < servers_of w.group → OneOf (FitsDigest w b.r.0 n j (slice_index_or b.digests j [])) n (sum j)

-- the contribution of client i to a body of n bits: its ciphertext and its pads
abbrev pub contribution : GroupView → Body → ℕ → (ℕ → List Bool) → ℕ → List Bool
contribution g b n cipher i = xor_bits (cipher i) (pads_of_client g i b.r.0 n)

-- the sum of all contributions to a body
abbrev pub contributions : GroupView → Body → ℕ → (ℕ → List Bool) → List Bool
contributions g b n cipher = sum_bits n (map (λ l. contribution g b n cipher l.client.0) b.listed)

-- the pads of server j for the clients that a body lists, added up
abbrev pub pads_of_server : GroupView → Body → ℕ → ℕ → List Bool
pads_of_server g b n j = sum_bits n (map (λ l. pad_of (seed_of g l.client.0 j) b.r.0 n) b.listed)

-- the ciphertexts of the clients that a body gives to server j, added up
abbrev pub ciphers_given : Body → ℕ → (ℕ → List Bool) → ℕ → List Bool
ciphers_given b n cipher j = sum_bits n (map (λ l. cipher l.client.0) (given_to b.listed j))

-- the deviation of server j from a body of n bits: what its ciphertext has beside its pads and the ciphertexts that it was given
abbrev pub deviation : GroupView → Body → ℕ → (ℕ → List Bool) → (ℕ → List Bool) → ℕ → List Bool
deviation g b n cipher sum j = xor_bits (xor_bits (sum j) (pads_of_server g b n j)) (ciphers_given b n cipher j)

abbrev pub corrupt_servers : GroupView → List ℕ
corrupt_servers g = filter (λ j. is_corrupt g (members.Server (record { 0 = j }))) (below (servers_of g))

-- the deviations of the corrupt servers, added up
abbrev pub corrupt_deviations : GroupView → Body → ℕ → (ℕ → List Bool) → (ℕ → List Bool) → List Bool
corrupt_deviations g b n cipher sum = sum_bits n (map (deviation g b n cipher sum) (corrupt_servers g))
