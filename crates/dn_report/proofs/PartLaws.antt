-- The law of the fields that report lines alone have.
use Rattle.std.proofs.Common.{refl, arith}
use Rattle.dn_lines.specs.Field.{beside}
use Rattle.dn_lines.specs.Fields.{number}
use Rattle.dn_lines.specs.Exact.{IsExact}
use Rattle.dn_lines.proofs.FieldLaws.{seen_exact, between_exact, beside_exact, number_exact, decimal_free}
use Rattle.dn_report.specs.Forms.{client_number, server_number, version, pair}

pub client_number_exact : IsExact client_number
client_number_exact = seen_exact (λ n. record { 0 = n }) (λ i. i.0) number (λ a. refl) (λ b. refl) number_exact

pub server_number_exact : IsExact server_number
server_number_exact = seen_exact (λ n. record { 0 = n }) (λ j. j.0) number (λ a. refl) (λ b. refl) number_exact

pub version_exact : IsExact version
version_exact = between_exact 1 2 (omega arith)

pub pair_exact : IsExact pair
pair_exact =
    seen_exact (λ x. record { client = x.0; server = x.1 }) (λ p. (p.client, p.server)) (beside 47 client_number server_number) (λ a. refl) (λ b. refl)
    (beside_exact 47 client_number server_number refl (λ x fits. decimal_free 47 x.0 (λ le. absurd (omega arith)) (omega arith)) client_number_exact server_number_exact)
