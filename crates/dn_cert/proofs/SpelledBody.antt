-- A body that stands in a certificate's payload.
use Rattle.std.proofs.Common.{◌≡◌, ℕ, ◌+◌, ◌^◌, ◌<◌, ◌≤◌, List, ◌∷◌, ◌++◌, length, take, drop, refl, ap, ◌∙◌, arith, length-append}
use Rattle.std.specs.Int.{w32, to_be_bytes, from_be_bytes}
use Rattle.std.proofs.lemmas.Nat.{from_be_bytes-to_be_bytes_4}
use Rattle.dn_records.specs.Fields.{spell_number, word, sized, short}
use Rattle.dn_records.specs.Lists.{several}
use Rattle.dn_records.specs.Records.{statement_bytes, body_bytes, payload_bytes, IsPayload}
use Rattle.dn_record_types.specs.declared.body.Body.{Body}
use Rattle.dn_record_types.specs.declared.payload.Payload.TheVariants as payloads
use Rattle.dn_record_types.specs.declared.statement.Statement.TheVariants.{Sign}
use Rattle.dn_seal.proofs.EnvelopeLemmas.{middle}

-- the tag, the number of the body's bytes, and they
certificate_parts : (b : Body) (signatures : List (List ℕ))
    → payload_bytes (payloads.Certificate b signatures) ≡ (3 ∷ to_be_bytes w32 (length (body_bytes b))) ++ body_bytes b ++ (several word (sized short)).spell signatures
unfolding payload_bytes body_bytes spell_number
certificate_parts b signatures = refl

pub body_few : (b : Body) (signatures : List (List ℕ)) → IsPayload (payloads.Certificate b signatures) → length (body_bytes b) < 2 ^ 32
unfolding body_bytes
body_few b signatures fits = fits.0.0

module _ (bytes : List ℕ) (b : Body) (signatures : List (List ℕ)) (is : bytes ≡ payload_bytes (payloads.Certificate b signatures)) where
  parts : bytes ≡ (3 ∷ to_be_bytes w32 (length (body_bytes b))) ++ body_bytes b ++ (several word (sized short)).spell signatures
  parts = is ∙ certificate_parts b signatures

  pub room_for_body : 5 + length (body_bytes b) ≤ length bytes
  room_for_body =
      omega (
        arith,
        ap length parts,
        length-append ((3 ∷ to_be_bytes w32 (length (body_bytes b))) ++ body_bytes b) ((several word (sized short)).spell signatures),
        length-append (3 ∷ to_be_bytes w32 (length (body_bytes b))) (body_bytes b),
      )

  pub number_of_bytes : length (body_bytes b) < 2 ^ 32 → from_be_bytes w32 (take 4 (drop 1 bytes)) ≡ length (body_bytes b)
  number_of_bytes few = ap (λ (x : List ℕ). from_be_bytes w32 (take 4 (drop 1 x))) parts ∙ from_be_bytes-to_be_bytes_4 (length (body_bytes b)) few

  pub body_there : (n : ℕ) → n ≡ length (body_bytes b) → take n (drop 5 bytes) ≡ body_bytes b
  body_there n long = middle bytes (3 ∷ to_be_bytes w32 (length (body_bytes b))) (body_bytes b) ((several word (sized short)).spell signatures) 5 n parts refl long

-- a statement that signs a body is its kind and the body's bytes
pub sign_spelled : (b : Body) (bytes : List ℕ) → bytes ≡ body_bytes b → 6 ∷ bytes ≡ statement_bytes (Sign b)
unfolding statement_bytes body_bytes
sign_spelled b bytes is = ap (λ (l : List ℕ). 6 ∷ l) is
