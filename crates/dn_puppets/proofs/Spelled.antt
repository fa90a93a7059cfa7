-- What stands in certificates.
use Rattle.std.proofs.Common.{◌≡◌, ℕ, ◌^◌, ◌<◌, ◌≤◌, List, length, refl, ap, subst, arith}
use Rattle.dn_lms.proofs.SizeLemmas.{verified_short}
use Rattle.dn_record_types.specs.declared.body.Body.{Body}
use Rattle.dn_record_types.specs.declared.statement.Statement.{Statement}
use Rattle.dn_record_types.specs.declared.statement.Statement.TheVariants as kinds
use Rattle.dn_record_types.specs.declared.payload.Payload.TheVariants as payloads
use Rattle.dn_records.specs.Records.{statement_bytes, body_bytes, IsBody, IsStatement, IsPayload}
use Rattle.dn_cert.proofs.SpelledBody.{sign_spelled}
use Rattle.dn_seal.specs.Said.{SaidView, IsSaid}
use Rattle.dn_exchange.proofs.ReadyLemmas.{by_recursion}
use Rattle.dn_puppets.specs.Carried.{CanStand, AreShort}

-- a body that was signed can stand in a certificate
pub said_body : (said : SaidView) (b : Body) → IsSaid said → said.statement ≡ kinds.Sign b → CanStand b
said_body said b is e =
    let few : length (statement_bytes (kinds.Sign b)) ≤ 16777216 = subst (λ s. length (statement_bytes s) ≤ 16777216) e is.fits.1.0 in
    record {
      is_body = subst IsStatement e is.fits.1.1;
      few = omega (arith, ap length (sign_spelled b (body_bytes b) refl));
    }

-- a signature that verified is short
pub said_signature : (said : SaidView) → IsSaid said → length said.signature < 2 ^ 16
said_signature said is = let long = verified_short said.key _ said.signature is.verifies in omega (arith, long)

-- a body that can stand in a certificate fits into one with signatures that it can tell
pub fits_certificate : (b : Body) (signatures : List (List ℕ)) → CanStand b → AreShort signatures → length signatures < 2 ^ 32
    → IsPayload (payloads.Certificate b signatures)
unfolding body_bytes
fits_certificate b signatures can short few =
    ((can.few, can.is_body), (few, by_recursion (λ (s : List ℕ). length s < 2 ^ 16) signatures short))
