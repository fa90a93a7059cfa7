-- Verdicts of a run, and the lines that tell them.
use Rattle.std.specs.Prelude.{◌≡◌, ℕ, ◌<◌, ◌++◌, false, List, map}
use Rattle.dn_wire.specs.declared.ids.Member.{Member}
use Rattle.dn_wire.specs.declared.ids.SignerId.{SignerId}
use Rattle.dn_wire.specs.declared.ids.Round.{Round}
use Rattle.dn_record_types.specs.declared.statement.Statement.{Statement}
use Rattle.dn_layout.specs.Layout.{bits_of}
use Rattle.dn_report.specs.declared.outcome.Outcome.{Outcome}
use Rattle.dn_report.specs.declared.outcome.Outcome.TheVariants as outcomes
use Rattle.dn_report.specs.declared.words.BlameWord.{BlameWord}
use Rattle.dn_report.specs.declared.words.BlameWord.TheVariants as words
use Rattle.dn_trace.specs.declared.fault.Fault.{Fault}
use Rattle.dn_trace.specs.declared.fault.Fault.TheVariants as faults
use Rattle.dn_trace.specs.Trial.{Trial, IsGiven}
use Rattle.dn_trace.specs.Verdict.{IsVerdict, IsHeld}
use Rattle.dn_headline.specs.Run.{RunView}
use Rattle.dn_headline.specs.Certified.{IsCertified, IsLayoutOf}
use Rattle.dn_headline.specs.Heard.{IsHeard}

abbrev pub word_of : Fault → BlameWord
word_of faults.Twice = words.Twice
word_of faults.Entry = words.Entry
word_of faults.Commit = words.Commit
word_of faults.Shown = words.Shown
word_of faults.Sum = words.Sum
word_of faults.Pad = words.Pad
word_of faults.Output = words.Output
word_of faults.Double = words.Double
word_of faults.Rebuttal = words.Rebuttal
word_of faults.Conceded = words.Conceded

-- the lines of a verdict
abbrev pub lines_of : List (Member × Fault) → List Member → List Outcome
lines_of blamed silent = map (λ b. outcomes.Blame b.0 (word_of b.1)) blamed ++ map outcomes.Silent silent

-- The lines tell the verdict on place k of round r: on a certified body of this round with an output, at a place at which that has a 1, by
-- what was heard in the run.
pub record IsVerdictOf (w : RunView) (r : Round) (k : ℕ) (lines : List Outcome) : Type 0 where
  pub trial : Trial
  pub roster : trial.roster ≡ w.group.roster
  pub round : trial.body.r ≡ r
  pub place : trial.k ≡ k
  pub certified : IsCertified w trial.body
  pub layout : IsLayoutOf w trial.body.prev.0 trial.layout
  pub full : trial.body.thin ≡ false
  pub within : trial.k < bits_of trial.layout
  pub held : IsHeld trial
  pub heard : (who : SignerId) (s : Statement) → IsGiven trial who s → IsHeard w who s
  pub blamed : List (Member × Fault)
  pub silent : List Member
  pub verdict : IsVerdict trial blamed silent
  pub told : lines ≡ lines_of blamed silent
