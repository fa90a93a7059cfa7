use Rattle.std.proofs.Common.{◌≡◌, take}
use Rattle.dn_board.specs.Reads.{last_place}
use Rattle.dn_board.proofs.board.Board.last.Given as goal

abbrev pub invariant-loop-i : goal.invariant-loop-i
invariant-loop-i l = l.last ≡ last_place l.number (take l.i l.self-inside.posts.items)
