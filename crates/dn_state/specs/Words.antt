-- The words of a report for what cores answer.
use Rattle.std.specs.Prelude.{Option, Some, None}
use Rattle.dn_report.specs.declared.words.IgnoredWord.{IgnoredWord}
use Rattle.dn_report.specs.declared.words.IgnoredWord.TheVariants as ignored
use Rattle.dn_report.specs.declared.words.SpoilWord.{SpoilWord}
use Rattle.dn_report.specs.declared.words.SpoilWord.TheVariants as spoils
use Rattle.dn_report.specs.declared.words.BlameWord.{BlameWord}
use Rattle.dn_report.specs.declared.words.BlameWord.TheVariants as blames
use Rattle.dn_report.specs.declared.words.UnopenedWord.{UnopenedWord}
use Rattle.dn_report.specs.declared.words.UnopenedWord.TheVariants as unopened
use Rattle.dn_server.specs.declared.answer.Reason.{Reason}
use Rattle.dn_server.specs.declared.answer.Reason.TheVariants as reasons
use Rattle.dn_server.specs.declared.act.SpoilReason.{SpoilReason}
use Rattle.dn_server.specs.declared.act.SpoilReason.TheVariants as causes
use Rattle.dn_trace.specs.declared.fault.Fault.{Fault}
use Rattle.dn_trace.specs.declared.fault.Fault.TheVariants as faults
use Rattle.dn_client.specs.declared.submitting.SubmitFault.{SubmitFault}
use Rattle.dn_client.specs.declared.submitting.SubmitFault.TheVariants as submit_faults
use Rattle.dn_client.specs.declared.holding.HoldFault.{HoldFault}
use Rattle.dn_client.specs.declared.holding.HoldFault.TheVariants as hold_faults
use Rattle.dn_client.specs.declared.accusing.AccuseFault.{AccuseFault}
use Rattle.dn_client.specs.declared.accusing.AccuseFault.TheVariants as accuse_faults
use Rattle.dn_client.specs.declared.answering.AnswerFault.{AnswerFault}
use Rattle.dn_client.specs.declared.answering.AnswerFault.TheVariants as answer_faults
use Rattle.dn_payloads.specs.declared.content.Content.{Content}
use Rattle.dn_payloads.specs.declared.content.Content.TheVariants as contents

-- why a server ignores what it is told
abbrev pub ignored_word_of : Reason → IgnoredWord
ignored_word_of reasons.Old = ignored.Old
ignored_word_of reasons.Running = ignored.Running
ignored_word_of reasons.Spent = ignored.Spent
ignored_word_of reasons.Key = ignored.Key
ignored_word_of reasons.Prev = ignored.Prev
ignored_word_of reasons.Length = ignored.Length
ignored_word_of reasons.Digest = ignored.Digest
ignored_word_of reasons.Shut = ignored.Shut
ignored_word_of reasons.Idle = ignored.Idle
ignored_word_of reasons.Repeat = ignored.Repeat
ignored_word_of reasons.Kind = ignored.Kind
ignored_word_of reasons.Body = ignored.Body
ignored_word_of reasons.Place = ignored.Place
ignored_word_of reasons.Zero = ignored.Zero
ignored_word_of reasons.Known = ignored.Known
ignored_word_of reasons.Floor = ignored.Floor

-- why a server's round is spoiled
abbrev pub spoil_word_of : SpoilReason → SpoilWord
spoil_word_of causes.Twice = spoils.Twice
spoil_word_of causes.Prev = spoils.Prev
spoil_word_of causes.Entry = spoils.Entry
spoil_word_of causes.Length = spoils.Length
spoil_word_of causes.Commit = spoils.Commit
spoil_word_of causes.Body = spoils.Body

-- why a member is blamed
abbrev pub blame_word_of : Fault → BlameWord
blame_word_of faults.Twice = blames.Twice
blame_word_of faults.Entry = blames.Entry
blame_word_of faults.Commit = blames.Commit
blame_word_of faults.Shown = blames.Shown
blame_word_of faults.Sum = blames.Sum
blame_word_of faults.Pad = blames.Pad
blame_word_of faults.Output = blames.Output
blame_word_of faults.Double = blames.Double
blame_word_of faults.Rebuttal = blames.Rebuttal
blame_word_of faults.Conceded = blames.Conceded

-- why a payload doesn't open; nothing where it opens
abbrev pub unopened_word_of : Content → Option UnopenedWord
unopened_word_of (contents.Opened opened) = None
unopened_word_of contents.Form = Some unopened.Form
unopened_word_of contents.Stranger = Some unopened.Stranger
unopened_word_of contents.Signature = Some unopened.Signature

-- why a client submits nothing; nothing where memory failed it
abbrev pub submit_word_of : SubmitFault → Option IgnoredWord
submit_word_of submit_faults.Left = Some ignored.Left
submit_word_of (submit_faults.Old last) = Some ignored.Old
submit_word_of submit_faults.Spent = Some ignored.Spent
submit_word_of submit_faults.NoMemory = None

-- why a client doesn't hold a certificate
abbrev pub hold_word_of : HoldFault → Option IgnoredWord
hold_word_of hold_faults.Left = Some ignored.Left
hold_word_of (hold_faults.Known r) = Some ignored.Known
hold_word_of (hold_faults.NoPrev prev) = Some ignored.Prev
hold_word_of (hold_faults.Floor count last) = Some ignored.Floor
hold_word_of (hold_faults.Length have need) = Some ignored.Length
hold_word_of hold_faults.NoMemory = None

-- why a client doesn't accuse
abbrev pub accuse_word_of : AccuseFault → Option IgnoredWord
accuse_word_of accuse_faults.Left = Some ignored.Left
accuse_word_of (accuse_faults.NoCert r) = Some ignored.Cert
accuse_word_of (accuse_faults.Place k) = Some ignored.Place
accuse_word_of (accuse_faults.NoEvidence own out) = Some ignored.Evidence
accuse_word_of accuse_faults.Spent = Some ignored.Spent
accuse_word_of accuse_faults.NoMemory = None

-- why a client doesn't answer a challenge
abbrev pub answer_word_of : AnswerFault → Option IgnoredWord
answer_word_of answer_faults.Left = Some ignored.Left
answer_word_of (answer_faults.NoCert r) = Some ignored.Cert
answer_word_of (answer_faults.NotListed r) = Some ignored.Cert
answer_word_of answer_faults.Shape = Some ignored.Key
answer_word_of answer_faults.Answered = Some ignored.Repeat
answer_word_of answer_faults.NotChallenged = Some ignored.Calm
answer_word_of answer_faults.AllTrue = Some ignored.Truth
answer_word_of answer_faults.Spent = Some ignored.Spent
answer_word_of answer_faults.NoMemory = None
