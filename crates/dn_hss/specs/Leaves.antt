-- The leaf numbers that a signature of two levels carries.
use Rattle.std.specs.Prelude.{ℕ, ◌+◌, ◌≤◌, List, length}
use Rattle.dn_ots.specs.Parameters.{IsCode}
use Rattle.dn_lms_definitions.specs.Key.{IsLms}
use Rattle.dn_lms_definitions.specs.Signature.{lms_in, ots_in, number_at}
use Rattle.dn_hss.specs.Hss.{top_in, top_length}

-- The type codes of a public key are known ones, and the signature reaches to the end of its second leaf number: the first stands behind
-- the count of signed keys, the second behind that count, the top tree's signature and the second tree's public key.
pub record HasLeaves (public sig : List ℕ) : Type 0 where
  pub lms_known : IsLms (lms_in (top_in public))
  pub ots_known : IsCode (ots_in (top_in public))
  pub long : 64 + top_length public ≤ length sig

-- the two numbers at those places
abbrev pub leaves_in : List ℕ → List ℕ → ℕ × ℕ
leaves_in public sig = (number_at sig 4, number_at sig (60 + top_length public))
