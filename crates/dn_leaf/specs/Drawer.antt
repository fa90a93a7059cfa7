-- What contracts see of a drawer and of a pass.
use Rattle.std.specs.Prelude.{◌≡◌, ℕ, List, [], Option, None}
use Rattle.atomic_table.specs.Seated.{TableId}

-- which drawer it is
pub record DrawerId : Type 0 where
  pub table : TableId
  pub count : ℕ
  pub passes : ℕ

-- its drawer, how many of the passes it stands for, its draws in order, and the number of draws that it first found to be at least the count
pub record PassView : Type 0 where
  pub drawer : DrawerId
  pub stands : ℕ
  pub draws : List ℕ
  pub seen : Option ℕ

-- as `make` gives it
abbrev pub fresh : DrawerId → PassView
fresh d = record { drawer = d; stands = 1; draws = []; seen = None }

-- the same drawer, and as many passes stood for
abbrev pub IsSamePass : PassView → PassView → Type 0
IsSamePass p q = (q.drawer ≡ p.drawer) × (q.stands ≡ p.stands)
