use Rattle.std.proofs.Common.{◌≡◌, eqb, length}
use Rattle.dn_layout.specs.Layout.{bits_of}
use Rattle.dn_trace.specs.Trial.{round_of}
use Rattle.dn_trace.specs.Reasons.{row_of}
use Rattle.dn_trace.proofs.Matching.{Matched}
use Rattle.dn_trace.proofs.showing.are_listed.Given as goal

abbrev pub invariant-loop-row : goal.invariant-loop-row
invariant-loop-row l = Matched (row_of (round_of l.case) l.j.0) (λ c. length c.cipher ≡ bits_of l.case.layout) (λ r. eqb r.server.0 l.j.0) l.case.body.listed l.shown l.at l.row-index
