-- Places with keys in a list, and the links of each to the nearest ones with its key.
use Rattle.std.specs.Prelude.{◌≡◌, ℕ, ◌+◌, ◌≤◌, ◌==◌, List, [], ◌∷◌, ◌++◌, cond, nat_lt, Bool, true, false}
use Rattle.dn_flight.specs.Arena.{none}

abbrev pub has : ℕ → List (ℕ × ℕ) → Bool
has k [] = false
has k (x ∷ a) = cond (x.1 == k) true (has k a)

-- the place of the first with the key, or none
abbrev pub first_of : ℕ → List (ℕ × ℕ) → ℕ
first_of k [] = none
first_of k (x ∷ a) = cond (x.1 == k) x.0 (first_of k a)

-- the place of the last with the key, or acc
abbrev pub last_from : ℕ → ℕ → List (ℕ × ℕ) → ℕ
last_from acc k [] = acc
last_from acc k (x ∷ b) = last_from (cond (x.1 == k) x.0 acc) k b

abbrev pub last_of : ℕ → List (ℕ × ℕ) → ℕ
last_of k b = last_from none k b

-- how often the place stands there
abbrev pub count : ℕ → List (ℕ × ℕ) → ℕ
count p [] = 0
count p (x ∷ a) = cond (x.0 == p) 1 0 + count p a

-- each is linked to the nearest ones with its key
abbrev pub IsLinked : (ℕ → ℕ) → (ℕ → ℕ) → List (ℕ × ℕ) → Type 0
IsLinked before after cs = (b : List (ℕ × ℕ)) (x : ℕ × ℕ) (a : List (ℕ × ℕ)) → cs ≡ b ++ x ∷ a → (before x.0 ≡ last_of x.1 b) × (after x.0 ≡ first_of x.1 a)

-- the places differ, and are below none
abbrev pub IsApart : List (ℕ × ℕ) → Type 0
IsApart cs = (p : ℕ) → count p cs ≤ cond (nat_lt p none) 1 0
