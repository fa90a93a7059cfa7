use Rattle.std.proofs.KnownBytes.{Appends-trans}
use Rattle.dn_io.proofs.PieceLemmas.{piece_stops, whole_is_front, front_of_more}
use Rattle.dn_io.proofs.laws.pieces_make_the_text.Goals as goal

pub returns-clause-goes_on : goal.returns-clause-goes_on
returns-clause-goes_on c = λ start before after front piece. Appends-trans start before after front piece

pub returns-clause-stops : goal.returns-clause-stops
returns-clause-stops c = piece_stops

pub returns-clause-whole : goal.returns-clause-whole
returns-clause-whole c = whole_is_front

pub returns-clause-short : goal.returns-clause-short
returns-clause-short c = front_of_more
