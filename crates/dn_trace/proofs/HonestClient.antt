-- An honest client has no fault.
use Rattle.std.proofs.Common.{ℕ, List, sym, ◌∙◌, subst}
use Rattle.std.specs.Prelude.{Contains}
use Rattle.dn_record_types.specs.declared.statement.Statement.{Statement}
use Rattle.dn_record_types.specs.declared.statement.Statement.TheVariants as kinds
use Rattle.dn_trace.specs.declared.fault.Fault.{Fault}
use Rattle.dn_trace.specs.declared.fault.Fault.TheVariants as faults
use Rattle.dn_trace.specs.Trial.{Trial, round_of}
use Rattle.dn_trace.specs.Verdict.{ClientHas, IsDouble, RebutsBadly}
use Rattle.dn_trace.specs.Honest.{Seeds, IsHonestClient}

module _ (trial : Trial) (i : ℕ) (seeds : Seeds) (signed : List Statement) (honest : IsHonestClient trial i seeds signed) where
  not_double : ¬ IsDouble trial i
  not_double d =
      let one = d.submits_one in
      let other = d.submits_other in
      let signed_one = subst (Contains signed) one.is (honest.heard d.one one.heard) in
      let signed_other = subst (Contains signed) other.is (honest.heard d.other other.heard) in
      d.differ (one.is ∙ honest.submissions (round_of trial) one.prev other.prev one.named other.named one.digest other.digest signed_one signed_other ∙ sym other.is)

  not_bad : ¬ RebutsBadly trial i
  not_bad b =
      let rebuts = b.rebuts in
      let signed_it = subst (Contains signed) rebuts.is (honest.heard b.s rebuts.heard) in
      let true_one = honest.rebuttals (round_of trial) trial.k record { 0 = b.j } rebuts.seed rebuts.envelope signed_it in
      b.bad record {
        r = round_of trial;
        k = trial.k;
        server = record { 0 = b.j };
        seed = rebuts.seed;
        envelope = rebuts.envelope;
        bits = true_one.bits;
        is = rebuts.is;
        unseals = true_one.unseals;
        opens = rw true_one.own (honest.committed b.j true_one.known);
        differs = true_one.false_bit;
      }

  pub blameless : (fault : Fault) → ¬ ClientHas trial i fault
  blameless faults.Twice has = has
  blameless faults.Entry has = has
  blameless faults.Commit has = has
  blameless faults.Shown has = has
  blameless faults.Sum has = has
  blameless faults.Pad has = has
  blameless faults.Output has = has
  blameless faults.Double has = not_double has
  blameless faults.Rebuttal has = not_bad has
  blameless faults.Conceded has = honest.concedes (round_of trial) trial.k (honest.heard (kinds.Concede (round_of trial) trial.k) has.1)
