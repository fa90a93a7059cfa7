-- The audit as it can be decided: the run's strings as lists, and what is asked of these.
use Rattle.std.specs.Prelude.{◌≡◌, ◌↔◌, ℕ, Bool, List, Contains, slice_get, Some}
use Rattle.dn_wire.specs.declared.ids.SignerId.{SignerId}
use Rattle.dn_record_types.specs.declared.statement.Statement.{Statement}
use Rattle.dn_bits.specs.Bits.{bytes_of}
use Rattle.dn_hash.specs.Digests.{seed_commitment_of, cipher_digest_of, server_digest_of}
use Rattle.dn_hash.specs.Inputs.{seed_input, cipher_input, server_input}
use Rattle.dn_headline.specs.Group.{IsHonestKey}
use Rattle.dn_headline.specs.Log.{Put}
use Rattle.dn_headline.specs.Run.{RunView, log}
use Rattle.dn_headline.specs.Spoken.{HadSigned}
use Rattle.dn_headline.specs.Signatures.{HasSignature}
use Rattle.dn_headline.specs.Strings.{IsSeed, IsCipher, IsSum}

-- a seed of a client and a server
pub record SeedAt : Type 0 where
  pub client : ℕ
  pub server : ℕ
  pub seed : List ℕ

-- a ciphertext of a client, or of a server, in a round
pub record BitsAt : Type 0 where
  pub r : ℕ
  pub member : ℕ
  pub bits : List Bool

-- these lists have the strings of the run, and no others
pub record AreStrings (w : RunView) (seeds : List SeedAt) (ciphers sums : List BitsAt) : Type 0 where
  pub all_seeds : (x : SeedAt) → IsSeed w x.client x.server x.seed ↔ Contains seeds x
  pub all_ciphers : (x : BitsAt) → IsCipher w x.r x.member x.bits ↔ Contains ciphers x
  pub all_sums : (x : BitsAt) → IsSum w x.r x.member x.bits ↔ Contains sums x

-- two seeds with one commitment are one, with their pair
abbrev pub SeedsDiffer : SeedAt → SeedAt → Type 0
SeedsDiffer x y = seed_commitment_of x.client x.server x.seed ≡ seed_commitment_of y.client y.server y.seed
    → seed_input x.client x.server x.seed ≡ seed_input y.client y.server y.seed

-- two strings of bits with one digest are one as bytes, with their round and member
abbrev pub BitsDiffer : (digest input : ℕ → ℕ → List ℕ → List ℕ) → BitsAt → BitsAt → Type 0
BitsDiffer digest input x y = digest x.r x.member (bytes_of x.bits) ≡ digest y.r y.member (bytes_of y.bits)
    → input x.r x.member (bytes_of x.bits) ≡ input y.r y.member (bytes_of y.bits)

-- no two strings of these lists have one digest
pub record NoneCollide (seeds : List SeedAt) (ciphers sums : List BitsAt) : Type 0 where
  pub all_seeds : (x y : SeedAt) → Contains seeds x → Contains seeds y → SeedsDiffer x y
  pub all_ciphers : (x y : BitsAt) → Contains ciphers x → Contains ciphers y → BitsDiffer cipher_digest_of cipher_input x y
  pub all_sums : (x y : BitsAt) → Contains sums x → Contains sums y → BitsDiffer server_digest_of server_input x y

-- a signature that verifies in payload number n that was put
pub record SignatureAt : Type 0 where
  pub n : ℕ
  pub who : SignerId
  pub statement : Statement

-- payload number n that was put has this signature
pub record WasSignedIn (w : RunView) (x : SignatureAt) : Type 0 where
  pub put : Put
  pub there : slice_get (log w).puts x.n ≡ Some put
  pub has : HasSignature w.group.roster put.bytes x.who x.statement

-- the list has the signatures of all payloads that were put, and no others
abbrev pub AreSignatures : RunView → List SignatureAt → Type 0
AreSignatures w xs = (x : SignatureAt) → WasSignedIn w x ↔ Contains xs x

-- each of them under an honest key is on a statement that this key had signed by then
abbrev pub AreTheirs : RunView → List SignatureAt → Type 0
AreTheirs w xs = (x : SignatureAt) → Contains xs x → IsHonestKey w.group x.who → HadSigned w x.n x.who x.statement
