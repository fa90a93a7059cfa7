-- The law of each word.
use Rattle.std.proofs.Common.{◌≡◌, Bool, [], ◌∷◌, true, false, Some, refl}
use Rattle.dn_told.specs.declared.told.WindowTold.{WindowTold}
use Rattle.dn_told.specs.declared.told.WindowTold.TheVariants as told_words
use Rattle.dn_report.specs.declared.words.IgnoredWord.{IgnoredWord}
use Rattle.dn_report.specs.declared.words.IgnoredWord.TheVariants as ignored_words
use Rattle.dn_report.specs.declared.words.SpoilWord.{SpoilWord}
use Rattle.dn_report.specs.declared.words.SpoilWord.TheVariants as spoil_words
use Rattle.dn_report.specs.declared.words.UnopenedWord.{UnopenedWord}
use Rattle.dn_report.specs.declared.words.UnopenedWord.TheVariants as unopened_words
use Rattle.dn_report.specs.declared.words.BlameWord.{BlameWord}
use Rattle.dn_report.specs.declared.words.BlameWord.TheVariants as blame_words
use Rattle.dn_lines.specs.Exact.{IsExact}
use Rattle.dn_lines.proofs.FieldLaws.{is_free, one_of_exact}
use Rattle.dn_report.specs.Words.{told_text, told_word, ignored_text, ignored_word, spoil_text, spoil_word, unopened_text, unopened_word, blame_text, blame_word, yes_text, yes_word}

told_known : (x : WindowTold) → told_word.read (told_text x) ≡ Some x
told_known told_words.Included = refl
told_known told_words.Late = refl
told_known told_words.Repeat = refl

told_free : (x : WindowTold) → is_free 32 (told_text x) ≡ true
told_free told_words.Included = refl
told_free told_words.Late = refl
told_free told_words.Repeat = refl

pub told_word_exact : IsExact told_word
told_word_exact = one_of_exact told_text (told_words.Included ∷ told_words.Late ∷ told_words.Repeat ∷ []) told_known told_free

ignored_known : (x : IgnoredWord) → ignored_word.read (ignored_text x) ≡ Some x
ignored_known ignored_words.Old = refl
ignored_known ignored_words.Idle = refl
ignored_known ignored_words.Running = refl
ignored_known ignored_words.Repeat = refl
ignored_known ignored_words.Kind = refl
ignored_known ignored_words.Prev = refl
ignored_known ignored_words.Length = refl
ignored_known ignored_words.Digest = refl
ignored_known ignored_words.Spent = refl
ignored_known ignored_words.Body = refl
ignored_known ignored_words.Place = refl
ignored_known ignored_words.Zero = refl
ignored_known ignored_words.Key = refl
ignored_known ignored_words.Left = refl
ignored_known ignored_words.Known = refl
ignored_known ignored_words.Cert = refl
ignored_known ignored_words.Evidence = refl
ignored_known ignored_words.Calm = refl
ignored_known ignored_words.Truth = refl
ignored_known ignored_words.None = refl
ignored_known ignored_words.Shut = refl
ignored_known ignored_words.Floor = refl

ignored_free : (x : IgnoredWord) → is_free 32 (ignored_text x) ≡ true
ignored_free ignored_words.Old = refl
ignored_free ignored_words.Idle = refl
ignored_free ignored_words.Running = refl
ignored_free ignored_words.Repeat = refl
ignored_free ignored_words.Kind = refl
ignored_free ignored_words.Prev = refl
ignored_free ignored_words.Length = refl
ignored_free ignored_words.Digest = refl
ignored_free ignored_words.Spent = refl
ignored_free ignored_words.Body = refl
ignored_free ignored_words.Place = refl
ignored_free ignored_words.Zero = refl
ignored_free ignored_words.Key = refl
ignored_free ignored_words.Left = refl
ignored_free ignored_words.Known = refl
ignored_free ignored_words.Cert = refl
ignored_free ignored_words.Evidence = refl
ignored_free ignored_words.Calm = refl
ignored_free ignored_words.Truth = refl
ignored_free ignored_words.None = refl
ignored_free ignored_words.Shut = refl
ignored_free ignored_words.Floor = refl

pub ignored_word_exact : IsExact ignored_word
ignored_word_exact = one_of_exact ignored_text (ignored_words.Old ∷ ignored_words.Idle ∷ ignored_words.Running ∷ ignored_words.Repeat ∷ ignored_words.Kind ∷ ignored_words.Prev ∷ ignored_words.Length ∷ ignored_words.Digest ∷ ignored_words.Spent ∷ ignored_words.Body ∷ ignored_words.Place ∷ ignored_words.Zero ∷ ignored_words.Key ∷ ignored_words.Left ∷ ignored_words.Known ∷ ignored_words.Cert ∷ ignored_words.Evidence ∷ ignored_words.Calm ∷ ignored_words.Truth ∷ ignored_words.None ∷ ignored_words.Shut ∷ ignored_words.Floor ∷ []) ignored_known ignored_free

spoil_known : (x : SpoilWord) → spoil_word.read (spoil_text x) ≡ Some x
spoil_known spoil_words.Twice = refl
spoil_known spoil_words.Prev = refl
spoil_known spoil_words.Entry = refl
spoil_known spoil_words.Length = refl
spoil_known spoil_words.Commit = refl
spoil_known spoil_words.Body = refl

spoil_free : (x : SpoilWord) → is_free 32 (spoil_text x) ≡ true
spoil_free spoil_words.Twice = refl
spoil_free spoil_words.Prev = refl
spoil_free spoil_words.Entry = refl
spoil_free spoil_words.Length = refl
spoil_free spoil_words.Commit = refl
spoil_free spoil_words.Body = refl

pub spoil_word_exact : IsExact spoil_word
spoil_word_exact = one_of_exact spoil_text (spoil_words.Twice ∷ spoil_words.Prev ∷ spoil_words.Entry ∷ spoil_words.Length ∷ spoil_words.Commit ∷ spoil_words.Body ∷ []) spoil_known spoil_free

unopened_known : (x : UnopenedWord) → unopened_word.read (unopened_text x) ≡ Some x
unopened_known unopened_words.Form = refl
unopened_known unopened_words.Stranger = refl
unopened_known unopened_words.Signature = refl

unopened_free : (x : UnopenedWord) → is_free 32 (unopened_text x) ≡ true
unopened_free unopened_words.Form = refl
unopened_free unopened_words.Stranger = refl
unopened_free unopened_words.Signature = refl

pub unopened_word_exact : IsExact unopened_word
unopened_word_exact = one_of_exact unopened_text (unopened_words.Form ∷ unopened_words.Stranger ∷ unopened_words.Signature ∷ []) unopened_known unopened_free

blame_known : (x : BlameWord) → blame_word.read (blame_text x) ≡ Some x
blame_known blame_words.Twice = refl
blame_known blame_words.Entry = refl
blame_known blame_words.Commit = refl
blame_known blame_words.Shown = refl
blame_known blame_words.Sum = refl
blame_known blame_words.Pad = refl
blame_known blame_words.Output = refl
blame_known blame_words.Double = refl
blame_known blame_words.Rebuttal = refl
blame_known blame_words.Conceded = refl

blame_free : (x : BlameWord) → is_free 32 (blame_text x) ≡ true
blame_free blame_words.Twice = refl
blame_free blame_words.Entry = refl
blame_free blame_words.Commit = refl
blame_free blame_words.Shown = refl
blame_free blame_words.Sum = refl
blame_free blame_words.Pad = refl
blame_free blame_words.Output = refl
blame_free blame_words.Double = refl
blame_free blame_words.Rebuttal = refl
blame_free blame_words.Conceded = refl

pub blame_word_exact : IsExact blame_word
blame_word_exact = one_of_exact blame_text (blame_words.Twice ∷ blame_words.Entry ∷ blame_words.Commit ∷ blame_words.Shown ∷ blame_words.Sum ∷ blame_words.Pad ∷ blame_words.Output ∷ blame_words.Double ∷ blame_words.Rebuttal ∷ blame_words.Conceded ∷ []) blame_known blame_free

yes_known : (x : Bool) → yes_word.read (yes_text x) ≡ Some x
yes_known true = refl
yes_known false = refl

yes_free : (x : Bool) → is_free 32 (yes_text x) ≡ true
yes_free true = refl
yes_free false = refl

pub yes_word_exact : IsExact yes_word
yes_word_exact = one_of_exact yes_text (true ∷ false ∷ []) yes_known yes_free
