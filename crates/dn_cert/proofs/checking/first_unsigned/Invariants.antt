use Rattle.std.proofs.Common.{ℕ, ◌<◌}
use Rattle.dn_roster.specs.Roster.{digest_of}
use Rattle.dn_cert.specs.Certificate.{IsSignedAt}
use Rattle.dn_cert.proofs.checking.first_unsigned.Given as goal

abbrev pub invariant-loop-j : goal.invariant-loop-j
invariant-loop-j l = (k : ℕ) → k < l.j → IsSignedAt (digest_of l.roster) l.roster.servers l.body l.signatures k
