use Rattle.std.proofs.Common.{◌≡◌, sym, ◌∙◌, subst, arith}
use Rattle.std.proofs.lemmas.Grind.{common_steps}
use Rattle.std.proofs.lemmas.Bool.{false≢true}
use Rattle.dn_roster.specs.Roster.{RosterView}
use Rattle.dn_record_types.specs.declared.statement.Statement.TheVariants as kinds
use Rattle.dn_cert.specs.Evidence.{IsGood}
use Rattle.dn_trace.specs.Trial.{round_of}
use Rattle.dn_trace.proofs.answers.answer_in.Goals as goal

pub returns-else-branch : goal.returns-else-branch
returns-else-branch g c =
    let trial = c.args.case.now in
    let is : c.args.s.now ≡ kinds.Rebuttal (round_of trial) trial.k c.in-Rebuttal.server c.in-Rebuttal.seed c.in-Rebuttal.envelope = grind (arith, common_steps) in (
      (c.in-Rebuttal.server.0, (c.in-Rebuttal.seed, c.in-Rebuttal.envelope, is)),
      λ good. false≢true (sym c.if-branch.false ∙ c.in_ok-rebuttal_good-in-Rebuttal.ensures.1 (subst (λ (r : RosterView). IsGood r c.args.i c.args.s.now) (sym c.roster.ensures) good)),
    )
