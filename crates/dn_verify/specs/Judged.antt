-- What private functions of the judging promise each other.
use Rattle.std.specs.Prelude.{◌≡◌, ◌⊎◌, ◌≤◌, ◌∷◌, [], min, ℕ, List, Option, Some, None, Result, Ok, Err}
use Rattle.dn_report.specs.declared.line.EventLine.{EventLine}
use Rattle.dn_report.specs.declared.line.EventLine.TheVariants as events
use Rattle.dn_report.specs.declared.line.ReportLine.{ReportLine}
use Rattle.dn_report.specs.declared.line.ReportLine.TheVariants as lines
use Rattle.dn_cert.specs.declared.opened.Opened.{Opened}
use Rattle.dn_verify.specs.declared.content.Content.{Content}
use Rattle.dn_verify.specs.declared.content.Content.TheVariants.{Open, Closed}
use Rattle.dn_verify.specs.Course.{CourseView}
use Rattle.dn_record_types.specs.declared.body.Body.{Body}
use Rattle.dn_report.specs.declared.words.UnopenedWord.{UnopenedWord}
use Rattle.dn_verify.specs.Payloads.{Report, body_in, carried_in}
use Rattle.dn_verify.specs.declared.stop.Stop.{Stop}
use Rattle.dn_verify.specs.declared.stop.Stop.TheVariants.{Broken, NoMemory}
use Rattle.dn_verify.specs.Rules.{IsOrderly}
use Rattle.dn_verify.specs.Known.{Known}
use Rattle.dn_verify.specs.Breaks.{BreaksDue, BreaksNone, BreaksWord, IsOfDue, IsRefusedBy, first_of, of_rule}
use Rattle.dn_verify.specs.declared.scene.Scene.{Scene}
use Rattle.dn_report.specs.declared.outcome.Outcome.{Outcome}
use Rattle.dn_report.specs.declared.outcome.Outcome.TheVariants as outcomes

-- the rule is broken exactly where this isn't so
abbrev pub Unless : ℕ → Type 0 → Option ℕ → Type 0
Unless n P None = P
Unless n P (Some rule) = (rule ≡ n) × (P → ⊥)

-- the same of two rules, the lesser first
abbrev pub UnlessEither : ℕ → Type 0 → ℕ → Type 0 → Option ℕ → Type 0
UnlessEither m P n Q None = P × Q
UnlessEither m P n Q (Some rule) = ((rule ≡ m) × (P → ⊥)) ⊎ ((rule ≡ n) × P × (Q → ⊥))

-- this is so of what was opened, where it was
abbrev pub ContentSays : (Opened → Type 0) → Option Content → Type 0
ContentSays Q None = ⊥
ContentSays Q (Some (Open x)) = Q x
ContentSays Q (Some (Closed word)) = ⊥

-- the body of the certificate that was opened, where one was
abbrev pub body_of : Option Content → Option Body
body_of None = None
body_of (Some content) = body_in (Some (carried_in content))

-- why what was opened wasn't, where it wasn't, and its line
abbrev pub word_of : Option Content → Option UnopenedWord
word_of None = None
word_of (Some (Open x)) = None
word_of (Some (Closed word)) = Some word

abbrev pub word_lines : Option UnopenedWord → List Outcome
word_lines None = []
word_lines (Some word) = outcomes.Unopened word ∷ []

-- the lesser of two rules that are broken
abbrev pub IsLeastOf : Option ℕ → Option ℕ → Option ℕ → Type 0
IsLeastOf None b r = r ≡ b
IsLeastOf (Some x) None r = r ≡ Some x
IsLeastOf (Some x) (Some y) r = r ≡ Some (min x y)

-- a line of one of the kinds that are due
abbrev pub StandsWhereDue : Outcome → Type 0
StandsWhereDue (outcomes.Unopened word) = Unit {0}
StandsWhereDue (outcomes.Listed r pairs) = Unit {0}
StandsWhereDue (outcomes.Out r bytes) = Unit {0}
StandsWhereDue (outcomes.Thin r count last) = Unit {0}
StandsWhereDue (outcomes.Message r slot text) = Unit {0}
StandsWhereDue (outcomes.Garbled r slot) = Unit {0}
StandsWhereDue (outcomes.Ignored word) = Unit {0}
StandsWhereDue (outcomes.Blame member reason) = Unit {0}
StandsWhereDue (outcomes.Silent member) = Unit {0}
StandsWhereDue _ = ⊥

-- the one line stands and the other is due, by which this rule is broken
abbrev pub BreaksBetween : Scene → Option Outcome → Option Outcome → ℕ → Type 0
BreaksBetween scene told due rule = IsOfDue rule × (of_rule rule scene told ≡ of_rule rule scene due → ⊥)

-- the least rule that is broken so, or none
abbrev pub IsLeast : (ℕ → Type 0) → Option ℕ → Type 0
IsLeast P None = (rule : ℕ) → P rule → ⊥
IsLeast P (Some rule) = P rule × ((other : ℕ) → P other → rule ≤ other)

abbrev pub IsJudgedBetween : Scene → Option Outcome → Option Outcome → Option ℕ → Type 0
IsJudgedBetween scene told due rule = IsLeast (BreaksBetween scene told due) rule

abbrev pub IsJudgedDue : Scene → List Outcome → ReportLine → Option ℕ → Type 0
IsJudgedDue scene due l rule = IsLeast (BreaksDue scene due l) rule

abbrev pub BreaksSelf : Report → CourseView → ReportLine → List ReportLine → ℕ → Type 0
BreaksSelf report c l behind rule = ((rule ≡ 1) × (IsOrderly report c l behind → ⊥)) ⊎ BreaksWord report c l behind rule

-- the rule that it breaks so, or none
abbrev pub IsJudged : Report → CourseView → ReportLine → List ReportLine → Option ℕ → Type 0
IsJudged report c l behind rule = IsLeast (BreaksSelf report c l behind) rule

-- an event by which no message leaves the flight, and of which no rule speaks
abbrev pub IsPlainEvent : EventLine → Type 0
IsPlainEvent (events.Deliver id) = ⊥
IsPlainEvent (events.Lose id) = ⊥
IsPlainEvent (events.Leave client) = ⊥
IsPlainEvent (events.Judge r k) = ⊥
IsPlainEvent (events.Inject from to payload) = ⊥
IsPlainEvent _ = Unit {0}

-- an outcome that puts no payload and tells of no certificate
abbrev pub IsPlainOutcome : Outcome → Type 0
IsPlainOutcome (outcomes.Post payload by bytes) = ⊥
IsPlainOutcome (outcomes.Sent id payload to) = ⊥
IsPlainOutcome (outcomes.Full payload to) = ⊥
IsPlainOutcome (outcomes.Certified server r) = ⊥
IsPlainOutcome (outcomes.Held m r) = ⊥
IsPlainOutcome _ = Unit {0}

-- a mark, or a line that stands at no place behind the header but the last ones
abbrev pub IsMark : ReportLine → Type 0
IsMark (lines.Event e) = ⊥
IsMark (lines.Outcome o) = ⊥
IsMark _ = Unit {0}

-- the line at a place is refused by the rule, if there is one
abbrev pub stopped : ℕ → Option ℕ → Result (Unit {0}) Stop
stopped at None = Ok tt
stopped at (Some rule) = Err (Broken at rule)

-- the line at a place breaks no rule, or it is refused by a rule
abbrev pub IsStepped : Report → CourseView → Known → ReportLine → List ReportLine → ℕ → Result (Unit {0}) Stop → Type 0
IsStepped report c f l behind at (Ok done) = BreaksNone report c f l behind
IsStepped report c f l behind at (Err (Broken place rule)) = (place ≡ at) × IsRefusedBy report c f l behind rule
IsStepped report c f l behind at (Err NoMemory) = Unit {0}
