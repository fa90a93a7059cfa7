-- The words of outcome lines, and of the last line but one.
use Rattle.std.specs.Prelude.{ℕ, Bool, true, false, List, [], ◌∷◌, codes}
use Rattle.dn_told.specs.declared.told.WindowTold.{WindowTold}
use Rattle.dn_told.specs.declared.told.WindowTold.TheVariants as told_words
use Rattle.dn_report.specs.declared.words.IgnoredWord.{IgnoredWord}
use Rattle.dn_report.specs.declared.words.IgnoredWord.TheVariants as ignored_words
use Rattle.dn_report.specs.declared.words.SpoilWord.{SpoilWord}
use Rattle.dn_report.specs.declared.words.SpoilWord.TheVariants as spoil_words
use Rattle.dn_report.specs.declared.words.UnopenedWord.{UnopenedWord}
use Rattle.dn_report.specs.declared.words.UnopenedWord.TheVariants as unopened_words
use Rattle.dn_report.specs.declared.words.BlameWord.{BlameWord}
use Rattle.dn_report.specs.declared.words.BlameWord.TheVariants as blame_words
use Rattle.dn_lines.specs.Field.{Field}
use Rattle.dn_lines.specs.Fields.{one_of}

-- what a client is told
abbrev pub told_text : WindowTold → List ℕ
told_text told_words.Included = codes "included"
told_text told_words.Late = codes "late"
told_text told_words.Repeat = codes "repeat"

abbrev pub told_word : Field WindowTold
told_word = one_of told_text (told_words.Included ∷ told_words.Late ∷ told_words.Repeat ∷ [])

-- why a call was ignored
abbrev pub ignored_text : IgnoredWord → List ℕ
ignored_text ignored_words.Old = codes "old"
ignored_text ignored_words.Idle = codes "idle"
ignored_text ignored_words.Running = codes "running"
ignored_text ignored_words.Repeat = codes "repeat"
ignored_text ignored_words.Kind = codes "kind"
ignored_text ignored_words.Prev = codes "prev"
ignored_text ignored_words.Length = codes "length"
ignored_text ignored_words.Digest = codes "digest"
ignored_text ignored_words.Spent = codes "spent"
ignored_text ignored_words.Body = codes "body"
ignored_text ignored_words.Place = codes "place"
ignored_text ignored_words.Zero = codes "zero"
ignored_text ignored_words.Key = codes "key"
ignored_text ignored_words.Left = codes "left"
ignored_text ignored_words.Known = codes "known"
ignored_text ignored_words.Cert = codes "cert"
ignored_text ignored_words.Evidence = codes "evidence"
ignored_text ignored_words.Calm = codes "calm"
ignored_text ignored_words.Truth = codes "truth"
ignored_text ignored_words.None = codes "none"
ignored_text ignored_words.Shut = codes "shut"
ignored_text ignored_words.Floor = codes "floor"

abbrev pub ignored_word : Field IgnoredWord
ignored_word = one_of ignored_text (ignored_words.Old ∷ ignored_words.Idle ∷ ignored_words.Running ∷ ignored_words.Repeat ∷ ignored_words.Kind ∷ ignored_words.Prev ∷ ignored_words.Length ∷ ignored_words.Digest ∷ ignored_words.Spent ∷ ignored_words.Body ∷ ignored_words.Place ∷ ignored_words.Zero ∷ ignored_words.Key ∷ ignored_words.Left ∷ ignored_words.Known ∷ ignored_words.Cert ∷ ignored_words.Evidence ∷ ignored_words.Calm ∷ ignored_words.Truth ∷ ignored_words.None ∷ ignored_words.Shut ∷ ignored_words.Floor ∷ [])

-- why a round was spoiled
abbrev pub spoil_text : SpoilWord → List ℕ
spoil_text spoil_words.Twice = codes "twice"
spoil_text spoil_words.Prev = codes "prev"
spoil_text spoil_words.Entry = codes "entry"
spoil_text spoil_words.Length = codes "length"
spoil_text spoil_words.Commit = codes "commit"
spoil_text spoil_words.Body = codes "body"

abbrev pub spoil_word : Field SpoilWord
spoil_word = one_of spoil_text (spoil_words.Twice ∷ spoil_words.Prev ∷ spoil_words.Entry ∷ spoil_words.Length ∷ spoil_words.Commit ∷ spoil_words.Body ∷ [])

-- why a payload didn't unseal
abbrev pub unopened_text : UnopenedWord → List ℕ
unopened_text unopened_words.Form = codes "form"
unopened_text unopened_words.Stranger = codes "stranger"
unopened_text unopened_words.Signature = codes "signature"

abbrev pub unopened_word : Field UnopenedWord
unopened_word = one_of unopened_text (unopened_words.Form ∷ unopened_words.Stranger ∷ unopened_words.Signature ∷ [])

-- why a member is blamed
abbrev pub blame_text : BlameWord → List ℕ
blame_text blame_words.Twice = codes "twice"
blame_text blame_words.Entry = codes "entry"
blame_text blame_words.Commit = codes "commit"
blame_text blame_words.Shown = codes "shown"
blame_text blame_words.Sum = codes "sum"
blame_text blame_words.Pad = codes "pad"
blame_text blame_words.Output = codes "output"
blame_text blame_words.Double = codes "double"
blame_text blame_words.Rebuttal = codes "rebuttal"
blame_text blame_words.Conceded = codes "conceded"

abbrev pub blame_word : Field BlameWord
blame_word = one_of blame_text (blame_words.Twice ∷ blame_words.Entry ∷ blame_words.Commit ∷ blame_words.Shown ∷ blame_words.Sum ∷ blame_words.Pad ∷ blame_words.Output ∷ blame_words.Double ∷ blame_words.Rebuttal ∷ blame_words.Conceded ∷ [])

abbrev pub yes_text : Bool → List ℕ
yes_text true = codes "yes"
yes_text false = codes "no"

abbrev pub yes_word : Field Bool
yes_word = one_of yes_text (true ∷ false ∷ [])
