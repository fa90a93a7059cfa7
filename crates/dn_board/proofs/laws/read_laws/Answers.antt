use Rattle.dn_board.proofs.Places.{before, rise, grow, given, stays_with}
use Rattle.dn_board.proofs.laws.read_laws.Goals as goal

pub returns : goal.returns
returns c = record {
  before = before;
  rise = rise;
  grow = grow;
  given = given;
  stays = stays_with;
}
