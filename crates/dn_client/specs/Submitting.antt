-- What `submission` gives, and when it refuses.
use Rattle.std.specs.Prelude.{◌≡◌, ◌<◌, ◌⊎◌, ℕ, true, false, List, [], ◌∷◌, ◌++◌, drop, length, All, Contains, Option, Some, None}
use Rattle.dn_wire.specs.declared.ids.Round.{Round}
use Rattle.dn_lms.specs.Key.{leaf_count}
use Rattle.dn_cert.specs.Chain.{IsLayoutAfter, IsLatestBelow}
use Rattle.dn_client.specs.declared.made.Made.{Made}
use Rattle.dn_client.specs.declared.submitting.Submission.{Submission}
use Rattle.dn_client.specs.declared.submitting.SubmitFault.{SubmitFault}
use Rattle.dn_client.specs.declared.submitting.SubmitFault.TheVariants as refusals
use Rattle.dn_client.specs.declared.submitting.Turn.{Turn}
use Rattle.dn_client.specs.declared.submitting.Turn.TheVariants as turns
use Rattle.dn_client.specs.Client.{ClientView, IsMadeOn, IsSpent, submission_of, sealed_as_client}

-- what it made last
abbrev pub IsLastMade : ClientView → Made → Type 0
IsLastMade v m = (before : List Made) × (v.made ≡ before ++ m ∷ [])

-- the round is above each for which it made something
abbrev pub IsNewRound : ClientView → Round → Type 0
IsNewRound v r = All (λ m. m.r.0 < r.0) v.made

-- why nothing is submitted for a round: the first of these that is so
abbrev pub IsUnsubmitted : ClientView → Round → SubmitFault → Type 0
IsUnsubmitted v r refusals.Left = v.left ≡ true
IsUnsubmitted v r (refusals.Old last) = (v.left ≡ false) × ((m : Made) × IsLastMade v m × (last ≡ m.r) × (r.0 < m.r.0))
IsUnsubmitted v r refusals.Spent = (v.left ≡ false) × IsNewRound v r × (length v.signed ≡ leaf_count v.who.key)
IsUnsubmitted v r refusals.NoMemory = Unit {0}

-- what was made as it is given
abbrev pub given_of : Made → Submission
given_of m = record { envelope = m.envelope; cipher = m.cipher }

-- it was made last, for this round, and is given again
pub record IsGivenAgain (old : ClientView) (r : Round) (s : Submission) (new : ClientView) : Type 0 where
  pub made : Made
  pub last : IsLastMade old made
  pub round : made.r ≡ r
  pub given : s ≡ given_of made
  pub same : new ≡ old

-- What is to be made for a round above all others, but for its envelope: on the layout after the greatest round held below it, from the
-- texts that wait.
pub record IsUnsigned (v : ClientView) (r : Round) (m : Made) : Type 0 where
  pub round : m.r ≡ r
  pub prev : IsLatestBelow v.chain r.0 m.prev.0
  pub lengths : List ℕ
  pub after : IsLayoutAfter v.chain m.prev.0 lengths
  pub content : IsMadeOn v.who lengths (drop v.head v.queue) v.head m

-- It is made for a round above all others, and signed as the next statement of the client's key. Nothing else changes.
pub record IsMadeNow (old : ClientView) (r : Round) (s : Submission) (new : ClientView) : Type 0 where
  pub made : Made
  pub next : IsNewRound old r
  pub content : IsUnsigned old r made
  pub leaf : length old.signed < leaf_count old.who.key
  pub sealed : made.envelope ≡ sealed_as_client old.who (length old.signed) (submission_of old.who made)
  pub given : s ≡ given_of made
  pub kept : new ≡ record old { made = old.made ++ made ∷ []; signed = old.signed ++ submission_of old.who made ∷ [] }

-- what is submitted for a round
abbrev pub IsSubmitted : ClientView → Round → Submission → ClientView → Type 0
IsSubmitted old r s new = (old.left ≡ false) × (IsGivenAgain old r s new ⊎ IsMadeNow old r s new)

-- a submission of what was made last
abbrev pub IsOfLast : ClientView → Submission → Type 0
IsOfLast v s = (m : Made) → IsLastMade v m → s ≡ given_of m

-- why nothing is made for a round above all others: no leaf is left, or memory is wanting
abbrev pub IsUnmade : ClientView → SubmitFault → ClientView → Type 0
IsUnmade old refusals.Spent new = (length old.signed ≡ leaf_count old.who.key) × (new ≡ old)
IsUnmade old refusals.NoMemory new = IsSpent old new
IsUnmade old _ new = ⊥

-- how a round stands to those for which something was made
abbrev pub IsTurn : List Made → Round → Turn → Type 0
IsTurn made r (turns.Below last) = (before : List Made) × (m : Made) × (made ≡ before ++ m ∷ []) × (last ≡ m.r) × (r.0 < m.r.0)
IsTurn made r turns.Last = (before : List Made) × (m : Made) × (made ≡ before ++ m ∷ []) × (m.r ≡ r)
IsTurn made r turns.Above = All (λ m. m.r.0 < r.0) made

-- The range of the client's slot on the layout on which it made something for a round; nothing where it made nothing or the slot was closed
-- there.
abbrev pub IsSlotRange : ClientView → Round → Option (ℕ × ℕ) → Type 0
IsSlotRange v r (Some range) = (m : Made) × Contains v.made m × (m.r ≡ r) × (m.range ≡ Some range)
IsSlotRange v r None = (m : Made) → Contains v.made m → m.r ≡ r → m.range ≡ None
