-- What contracts see of a board.
use Rattle.std.specs.Prelude.{ℕ, List}
use Rattle.dn_board.specs.declared.letters.Letter.{Letter}
use Rattle.dn_board.specs.declared.post.Post.{Post}

-- its first letters, its posts, each with the number of the pass that gave it, and how many posts can be added without memory
pub record BoardView : Type 0 where
  pub first : List Letter
  pub posts : List (ℕ × Post)
  pub spare : ℕ
