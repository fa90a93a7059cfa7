use Rattle.std.proofs.Common.{take}
use Rattle.dn_cert.specs.Trim.{given_to}
use Rattle.dn_server.specs.Justified.{AreOfRows, AreIncluded}
use Rattle.dn_server.specs.Server.{WasIncluded, course_of}
use Rattle.dn_rounds.proofs.committing.own_ciphers.Given as goal

abbrev pub invariant-loop-row : goal.invariant-loop-row
invariant-loop-row l =
    AreOfRows (course_of l.run) (given_to (take l.row-index l.listed) l.own.0) l.all.items
    × AreIncluded (WasIncluded l.run) (course_of l.run) (given_to (take l.row-index l.listed) l.own.0) l.all.items
