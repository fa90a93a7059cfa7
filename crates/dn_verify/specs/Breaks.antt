-- Which rule a line behind the header breaks.
use Rattle.std.specs.Prelude.{◌≡◌, ◌⊎◌, ◌≤◌, ◌==◌, ℕ, List, [], ◌∷◌, length, Option, Some, None, if◌then◌else◌}
use Rattle.dn_report.specs.declared.line.ReportLine.{ReportLine}
use Rattle.dn_report.specs.declared.line.ReportLine.TheVariants as lines
use Rattle.dn_report.specs.declared.outcome.Outcome.{Outcome}
use Rattle.dn_report.specs.declared.outcome.Outcome.TheVariants as outcomes
use Rattle.dn_report.specs.declared.words.IgnoredWord.TheVariants as ignored
use Rattle.dn_verify.specs.declared.scene.Scene.{Scene}
use Rattle.dn_verify.specs.declared.scene.Scene.TheVariants as scenes
use Rattle.dn_verify.specs.Course.{CourseView, outcome_in}
use Rattle.dn_verify.specs.Payloads.{Report}
use Rattle.dn_verify.specs.Rules.{IsInOrder, IsProperPost, IsToldRightly, IsCertified, IsHeldRightly, IsHonestWord}
use Rattle.dn_verify.specs.Known.{Known}

-- ---- V2, V5 and V6: lines that stand exactly where they are due

abbrev pub under_judge : Scene → Option ℕ
under_judge scenes.Judge = Some 6
under_judge _ = None

-- the rule of a line that stands only where it is due: V2 of `unopened`, V5 of what a round came to, V6 of a verdict
abbrev pub rule_of : Scene → Outcome → Option ℕ
rule_of scene (outcomes.Unopened word) = Some 2
rule_of scene (outcomes.Listed r pairs) = Some 5
rule_of scene (outcomes.Out r bytes) = Some 5
rule_of scene (outcomes.Thin r count last) = Some 5
rule_of scene (outcomes.Message r slot text) = Some 5
rule_of scene (outcomes.Garbled r slot) = Some 5
rule_of scene (outcomes.Blame member reason) = Some 6
rule_of scene (outcomes.Silent member) = Some 6
rule_of scene (outcomes.Ignored ignored.None) = under_judge scene
rule_of scene _ = None

-- the rule of a line, if there is one
abbrev pub rule_in : Scene → Option Outcome → Option ℕ
rule_in scene None = None
rule_in scene (Some o) = rule_of scene o

-- the line, where it is one of this rule
abbrev pub kept_of : ℕ → Outcome → Option ℕ → Option Outcome
kept_of n o None = None
kept_of n o (Some rule) = if rule == n then Some o else None

abbrev pub of_rule : ℕ → Scene → Option Outcome → Option Outcome
of_rule n scene None = None
of_rule n scene (Some o) = kept_of n o (rule_of scene o)

abbrev pub first_of : List Outcome → Option Outcome
first_of [] = None
first_of (o ∷ due) = Some o

-- where a line of this rule stands, it is the one that is due, and where one is due, it stands
abbrev pub IsAsDue : ℕ → Scene → List Outcome → ReportLine → Type 0
IsAsDue n scene due l = of_rule n scene (outcome_in (Some l)) ≡ of_rule n scene (first_of due)

-- V2, V5 and V6, which tell which lines are due
abbrev pub IsOfDue : ℕ → Type 0
IsOfDue rule = (rule ≡ 2) ⊎ ((rule ≡ 5) ⊎ (rule ≡ 6))

abbrev pub BreaksDue : Scene → List Outcome → ReportLine → ℕ → Type 0
BreaksDue scene due l rule = IsOfDue rule × (IsAsDue rule scene due l → ⊥)

-- ---- all rules

-- what a line breaks by what it says itself, beside V1
abbrev pub BreaksOutcome : Report → CourseView → Outcome → List ReportLine → ℕ → Type 0
BreaksOutcome report c (outcomes.Post payload by bytes) behind rule = (rule ≡ 7) × (IsProperPost report c.scene payload by → ⊥)
BreaksOutcome report c (outcomes.Told client server r told) behind rule =
    (rule ≡ 3) × (IsToldRightly report c (record { client = client; server = server; r = r }) told behind → ⊥)
BreaksOutcome report c (outcomes.Certified server r) behind rule = (rule ≡ 4) × (IsCertified report c server r behind → ⊥)
BreaksOutcome report c (outcomes.Held member r) behind rule = (rule ≡ 4) × (IsHeldRightly report c member r → ⊥)
BreaksOutcome report c _ behind rule = ⊥

abbrev pub BreaksWord : Report → CourseView → ReportLine → List ReportLine → ℕ → Type 0
BreaksWord report c (lines.Outcome o) behind rule = BreaksOutcome report c o behind rule
BreaksWord report c (lines.Audit signed digests honest) behind rule = (rule ≡ 8) × (IsHonestWord report honest → ⊥)
BreaksWord report c _ behind rule = ⊥

-- the line, behind which these lines stand, breaks this rule
abbrev pub Breaks : Report → CourseView → Known → ReportLine → List ReportLine → ℕ → Type 0
Breaks report c f l behind rule =
    ((rule ≡ 1) × (IsInOrder report c l behind → ⊥)) ⊎ (BreaksDue c.scene f.due l rule ⊎ BreaksWord report c l behind rule)

-- the line breaks this rule, and none of less number
pub record IsRefusedBy (report : Report) (c : CourseView) (f : Known) (l : ReportLine) (behind : List ReportLine) (rule : ℕ) : Type 0 where
  pub broken : Breaks report c f l behind rule
  pub least : (other : ℕ) → Breaks report c f l behind other → rule ≤ other

-- the line breaks no rule
abbrev pub BreaksNone : Report → CourseView → Known → ReportLine → List ReportLine → Type 0
BreaksNone report c f l behind = (rule : ℕ) → Breaks report c f l behind rule → ⊥
