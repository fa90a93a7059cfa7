-- The words of a report for the faults of a verdict.
use Rattle.dn_report.specs.declared.words.BlameWord.{BlameWord}
use Rattle.dn_report.specs.declared.words.BlameWord.TheVariants as blames
use Rattle.dn_trace.specs.declared.fault.Fault.{Fault}
use Rattle.dn_trace.specs.declared.fault.Fault.TheVariants as faults

abbrev pub blame_word_of : Fault → BlameWord
blame_word_of faults.Twice = blames.Twice
blame_word_of faults.Entry = blames.Entry
blame_word_of faults.Commit = blames.Commit
blame_word_of faults.Shown = blames.Shown
blame_word_of faults.Sum = blames.Sum
blame_word_of faults.Pad = blames.Pad
blame_word_of faults.Output = blames.Output
blame_word_of faults.Double = blames.Double
blame_word_of faults.Rebuttal = blames.Rebuttal
blame_word_of faults.Conceded = blames.Conceded
