-- What posts have read. A list's posts have the places 1, 2 and so on.
use Rattle.std.specs.Prelude.{◌≡◌, ℕ, ◌+◌, List, [], ◌∷◌, ◌==◌, cond, nat_lt, take, IfSome, slice_get}
use Rattle.dn_board.specs.declared.post.Post.{Post}

-- the place of the last post under the number, or 0 where there is none
abbrev pub last_place : ℕ → List (ℕ × Post) → ℕ
last_place number [] = 0
last_place number (p ∷ posts) = cond (nat_lt 0 (last_place number posts)) (last_place number posts + 1) (cond (p.0 == number) 1 0)

-- each post has read up to the last post under its number that stands before it
abbrev pub AreReads : List (ℕ × Post) → Type 0
AreReads posts = (j : ℕ) → IfSome (slice_get posts j) (λ p. p.1.read ≡ last_place p.0 (take j posts))
