-- What a crew keeps of a live run.
use Rattle.std.specs.Prelude.{ℕ, List, length, map}
use Rattle.dn_wire.specs.declared.ids.ServerId.{ServerId}
use Rattle.dn_board.specs.declared.post.Post.{Post}

abbrev pub read_of : ℕ × Post → ServerId × ℕ × ℕ
read_of p = (p.1.author, p.1.read, length p.1.letters)

-- the author, the read and the number of letters of each post
abbrev pub reads_of : List (ℕ × Post) → List (ServerId × ℕ × ℕ)
reads_of posts = map read_of posts
