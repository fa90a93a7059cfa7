-- The audit of a run: three words that the theorems on its rounds rest on.
use Rattle.std.specs.Prelude.{◌≡◌, ℕ, Bool, List, slice_get, Some}
use Rattle.dn_wire.specs.declared.ids.ServerId.{ServerId}
use Rattle.dn_wire.specs.declared.ids.SignerId.{SignerId}
use Rattle.dn_bits.specs.Bits.{bytes_of}
use Rattle.dn_hash.specs.Digests.{seed_commitment_of, cipher_digest_of, server_digest_of}
use Rattle.dn_hash.specs.Inputs.{seed_input, cipher_input, server_input}
use Rattle.dn_record_types.specs.declared.statement.Statement.{Statement}
use Rattle.dn_headline.specs.Group.{IsHonestKey, IsHonestServer}
use Rattle.dn_headline.specs.Log.{Put}
use Rattle.dn_headline.specs.Run.{RunView, log}
use Rattle.dn_headline.specs.Spoken.{HadSigned}
use Rattle.dn_headline.specs.Signatures.{HasSignature}
use Rattle.dn_headline.specs.Strings.{IsSeed, IsCipher, IsSum}

-- each signature in a payload put that verifies under an honest key is on a statement that this key had signed by then
abbrev pub SignaturesAreTheirs : RunView → Type 0
SignaturesAreTheirs w = (n : ℕ) (put : Put) (who : SignerId) (s : Statement) → slice_get (log w).puts n ≡ Some put
    → IsHonestKey w.group who → HasSignature w.group.roster put.bytes who s → HadSigned w n who s

-- no two different inputs have one digest, among the seeds of the run, among its ciphertexts, and among its server ciphertexts
pub record DigestsDiffer (w : RunView) : Type 0 where
  pub seeds : (i j k l : ℕ) (x y : List ℕ) → IsSeed w i j x → IsSeed w k l y → seed_commitment_of i j x ≡ seed_commitment_of k l y
      → seed_input i j x ≡ seed_input k l y
  pub ciphers : (r i q k : ℕ) (x y : List Bool) → IsCipher w r i x → IsCipher w q k y
      → cipher_digest_of r i (bytes_of x) ≡ cipher_digest_of q k (bytes_of y) → cipher_input r i (bytes_of x) ≡ cipher_input q k (bytes_of y)
  pub sums : (r j q k : ℕ) (x y : List Bool) → IsSum w r j x → IsSum w q k y
      → server_digest_of r j (bytes_of x) ≡ server_digest_of q k (bytes_of y) → server_input r j (bytes_of x) ≡ server_input q k (bytes_of y)

abbrev pub SomeServerIsHonest : RunView → Type 0
SomeServerIsHonest w = (j : ServerId) × IsHonestServer w.group j

pub record Clean (w : RunView) : Type 0 where
  pub signed : SignaturesAreTheirs w
  pub digests : DigestsDiffer w
  pub honest : SomeServerIsHonest w
