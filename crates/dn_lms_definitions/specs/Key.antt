-- What contracts see of an LMS key: its type codes, its identifier I and its seed.
use Rattle.std.specs.Prelude.{◌≡◌, ℕ, ◌-◌, ◌*◌, ◌^◌, ◌≤◌, List, length}
use Rattle.dn_ots.specs.Parameters.{IsCode}

-- the code of one of the three heights (RFC 8554 section 5.1)
abbrev pub IsLms : ℕ → Type 0
IsLms code = (5 ≤ code) × (code ≤ 7)

-- h: 5, 10 and 15
unfoldable pub height : ℕ → ℕ
height code = 5 * (code - 4)

-- the number of leaves, 2^h
unfoldable pub leaves_of : ℕ → ℕ
leaves_of code = 2 ^ height code

pub record Key : Type 0 where
  pub lms : ℕ
  pub ots : ℕ
  pub id : List ℕ
  pub seed : List ℕ

-- the codes are known ones, and the parts have their lengths
pub record IsKey (key : Key) : Type 0 where
  pub lms_known : IsLms key.lms
  pub ots_known : IsCode key.ots
  pub id_long : length key.id ≡ 16
  pub seed_long : length key.seed ≡ 32

-- the number of a key's leaves
abbrev pub leaf_count : Key → ℕ
leaf_count key = leaves_of key.lms
