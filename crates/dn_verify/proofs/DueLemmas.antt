-- Which rule is broken where one line stands and another is due.
use Rattle.std.proofs.Common.{◌≡◌, ◌≤◌, ℕ, Bool, true, false, cond, Some, None, sym, ap, subst, refl, ◌∙◌, inl, inr, arith}
use Rattle.std.specs.Prelude.{◌⊎◌, ◌==◌, Option, min, IfSome}
use Rattle.std.proofs.lemmas.Bool.{cases_lt, cases_order}
use Rattle.std.proofs.lemmas.Bool.Decides.{nat_tests}
use Rattle.std.proofs.Common.{List}
use Rattle.dn_report.specs.declared.line.ReportLine.{ReportLine}
use Rattle.dn_report.specs.declared.outcome.Outcome.{Outcome}
use Rattle.dn_verify.specs.Course.{outcome_in}
use Rattle.dn_report.specs.declared.outcome.Outcome.TheVariants as outcomes
use Rattle.dn_report.specs.declared.words.IgnoredWord.TheVariants as ignored
use Rattle.dn_verify.specs.declared.scene.Scene.{Scene}
use Rattle.dn_verify.specs.declared.scene.Scene.TheVariants as scenes
use Rattle.dn_verify.specs.Breaks.{IsOfDue, first_of, kept_of, of_rule, rule_in, rule_of, under_judge}
use Rattle.dn_verify.specs.Judged.{BreaksBetween, IsJudgedBetween, IsJudgedDue, IsLeastOf, StandsWhereDue}

-- a line that has a rule is of one of the kinds that are due
pub has_kind : (scene : Scene) (o : Outcome) (m : ℕ) → rule_of scene o ≡ Some m → StandsWhereDue o
has_kind scene (outcomes.Unopened word) m e = tt
has_kind scene (outcomes.Listed r pairs) m e = tt
has_kind scene (outcomes.Out r bytes) m e = tt
has_kind scene (outcomes.Thin r count last) m e = tt
has_kind scene (outcomes.Message r slot text) m e = tt
has_kind scene (outcomes.Garbled r slot) m e = tt
has_kind scene (outcomes.Blame member reason) m e = tt
has_kind scene (outcomes.Silent member) m e = tt
has_kind scene (outcomes.Ignored word) m e = tt
has_kind scene _ m e = absurd cc

is_two : (m : ℕ) → Some 2 ≡ Some m → IsOfDue m
is_two m e = inl cc

is_five : (m : ℕ) → Some 5 ≡ Some m → IsOfDue m
is_five m e = inr (inl cc)

is_six : (m : ℕ) → Some 6 ≡ Some m → IsOfDue m
is_six m e = inr (inr cc)

judge_is : (scene : Scene) (m : ℕ) → under_judge scene ≡ Some m → IsOfDue m
judge_is scenes.Judge m e = is_six m e
judge_is _ m e = absurd cc

-- each rule of a line is one of these
due_is : (scene : Scene) (o : Outcome) (m : ℕ) → rule_of scene o ≡ Some m → IsOfDue m
due_is scene (outcomes.Unopened word) m e = is_two m e
due_is scene (outcomes.Listed r pairs) m e = is_five m e
due_is scene (outcomes.Out r bytes) m e = is_five m e
due_is scene (outcomes.Thin r count last) m e = is_five m e
due_is scene (outcomes.Message r slot text) m e = is_five m e
due_is scene (outcomes.Garbled r slot) m e = is_five m e
due_is scene (outcomes.Blame member reason) m e = is_six m e
due_is scene (outcomes.Silent member) m e = is_six m e
due_is scene (outcomes.Ignored ignored.None) m e = judge_is scene m e
due_is scene _ m e = absurd cc

kept_self : (x : ℕ) (o : Outcome) → kept_of x o (Some x) ≡ Some o
kept_self x o = grind (arith, nat_tests)

kept_other : (n k : ℕ) (o : Outcome) → (k ≡ n → ⊥) → kept_of n o (Some k) ≡ None
kept_other n k o differ = grind (arith, nat_tests)

number_is : (k n : ℕ) → k ≡ n → Some k ≡ Some n
number_is k n e = ap (λ (x : ℕ). Some x) e

kept_none : (n : ℕ) (o : Outcome) (r : Option ℕ) → (r ≡ Some n → ⊥) → kept_of n o r ≡ None
kept_none n o None not = refl
kept_none n o (Some k) not = kept_other n k o (λ e. not (number_is k n e))

apart : (o : Option Outcome) (x : Outcome) → o ≡ None → o ≡ Some x → ⊥
apart o x e f = cc

no_number : (m : ℕ) (r : Option ℕ) → r ≡ None → r ≡ Some m → ⊥
no_number m r e f = cc

one_number : (x m : ℕ) (r : Option ℕ) → r ≡ Some x → r ≡ Some m → x ≡ m
one_number x m r e f = cc

one_line : (x y : Outcome) (o : Option Outcome) → o ≡ Some x → o ≡ Some y → x ≡ y
one_line x y o e f = cc

-- a line with a rule
record Ruled (scene : Scene) (a : Option Outcome) (x : ℕ) : Type 0 where
  o : Outcome
  is : a ≡ Some o
  of : of_rule x scene a ≡ Some o
  due : IsOfDue x
  kind : StandsWhereDue o

ruled : (scene : Scene) (a : Option Outcome) (x : ℕ) → rule_in scene a ≡ Some x → Ruled scene a x
ruled scene None x e = absurd (no_number x None refl e)
ruled scene (Some o) x e = record {
  o = o;
  is = refl;
  of = ap (kept_of x o) e ∙ kept_self x o;
  due = due_is scene o x e;
  kind = has_kind scene o x e;
}

none_of : (scene : Scene) (a : Option Outcome) (m : ℕ) → (rule_in scene a ≡ Some m → ⊥) → of_rule m scene a ≡ None
none_of scene None m not = refl
none_of scene (Some o) m not = kept_none m o (rule_of scene o) not

module _ (scene : Scene) (a b : Option Outcome) where
  neither : (m : ℕ) → (rule_in scene a ≡ Some m → ⊥) → (rule_in scene b ≡ Some m → ⊥) → BreaksBetween scene a b m → ⊥
  neither m no_a no_b breaks = breaks.1 (none_of scene a m no_a ∙ sym (none_of scene b m no_b))

  first_alone : (x : ℕ) → rule_in scene a ≡ Some x → (rule_in scene b ≡ Some x → ⊥) → BreaksBetween scene a b x
  first_alone x e not =
      let s = ruled scene a x e in
      (s.due, λ same. apart (of_rule x scene b) s.o (none_of scene b x not) (sym same ∙ s.of))

  second_alone : (x : ℕ) → rule_in scene b ≡ Some x → (rule_in scene a ≡ Some x → ⊥) → BreaksBetween scene a b x
  second_alone x e not =
      let s = ruled scene b x e in
      (s.due, λ same. apart (of_rule x scene a) s.o (none_of scene a x not) (same ∙ s.of))

  module _ (differ : (o : Outcome) → a ≡ Some o → b ≡ Some o → StandsWhereDue o → ⊥) where
    both : (x : ℕ) → rule_in scene a ≡ Some x → rule_in scene b ≡ Some x → BreaksBetween scene a b x
    both x e f =
        let s = ruled scene a x e in
        let t = ruled scene b x f in (
          s.due,
          λ same.
              let one : t.o ≡ s.o = one_line t.o s.o (of_rule x scene b) t.of (sym same ∙ s.of) in
              differ s.o s.is (t.is ∙ ap (λ (o : Outcome). Some o) one) s.kind,
        )

    lesser : (x y : ℕ) → rule_in scene a ≡ Some x → rule_in scene b ≡ Some y → BreaksBetween scene a b (min x y)
    lesser x y e f =
        elim (cases_order x y) [
          | inl same ↦
              let is : min x y ≡ x = omega arith in
              subst (BreaksBetween scene a b) (sym is) (both x e (f ∙ number_is y x (sym same)))
          | inr (inl below) ↦
              let is : min x y ≡ x = omega arith in
              subst (BreaksBetween scene a b) (sym is)
              (first_alone x e (λ g. let z : y ≡ x = one_number y x (rule_in scene b) f g in absurd (omega arith)))
          | inr (inr above) ↦
              let is : min x y ≡ y = omega arith in
              subst (BreaksBetween scene a b) (sym is)
              (second_alone y f (λ g. let z : x ≡ y = one_number x y (rule_in scene a) e g in absurd (omega arith)))
        ]

    judged_of : (x y rule : Option ℕ) → rule_in scene a ≡ x → rule_in scene b ≡ y → IsLeastOf x y rule → IsJudgedBetween scene a b rule
    judged_of None None rule e f least =
        subst (IsJudgedBetween scene a b) (sym least)
        (λ m breaks. neither m (no_number m (rule_in scene a) e) (no_number m (rule_in scene b) f) breaks)
    judged_of None (Some y) rule e f least =
        subst (IsJudgedBetween scene a b) (sym least) (
          second_alone y f (no_number y (rule_in scene a) e),
          λ m breaks. elim (cases_lt m y) [
            | inl below ↦ absurd (neither m (no_number m (rule_in scene a) e)
                (λ g. let z : y ≡ m = one_number y m (rule_in scene b) f g in absurd (omega arith)) breaks)
            | inr above ↦ above
          ],
        )
    judged_of (Some x) None rule e f least =
        subst (IsJudgedBetween scene a b) (sym least) (
          first_alone x e (no_number x (rule_in scene b) f),
          λ m breaks. elim (cases_lt m x) [
            | inl below ↦ absurd (neither m (λ g. let z : x ≡ m = one_number x m (rule_in scene a) e g in absurd (omega arith))
                (no_number m (rule_in scene b) f) breaks)
            | inr above ↦ above
          ],
        )
    judged_of (Some x) (Some y) rule e f least =
        subst (IsJudgedBetween scene a b) (sym least) (
          lesser x y e f,
          λ m breaks. elim (cases_lt m (min x y)) [
            | inl below ↦ absurd (neither m (λ g. let z : x ≡ m = one_number x m (rule_in scene a) e g in absurd (omega arith))
                (λ g. let z : y ≡ m = one_number y m (rule_in scene b) f g in absurd (omega arith)) breaks)
            | inr above ↦ above
          ],
        )

    pub judged_between : (rule : Option ℕ) → IsLeastOf (rule_in scene a) (rule_in scene b) rule → IsJudgedBetween scene a b rule
    judged_between rule least = judged_of (rule_in scene a) (rule_in scene b) rule refl refl least

-- the line that stands is the one that is due
pub judged_same : (scene : Scene) (a b : Option Outcome) → a ≡ b → IsJudgedBetween scene a b None
judged_same scene a b same = λ m breaks. breaks.1 (ap (of_rule m scene) same)

pub judged_due : (scene : Scene) (told due : Option Outcome) (items : List Outcome) (l : ReportLine) (rule : Option ℕ) → told ≡ outcome_in (Some l)
    → due ≡ first_of items → IsJudgedBetween scene told due rule → IsJudgedDue scene items l rule
judged_due scene told due items l rule tells first judged =
    subst (λ (o : Option Outcome). IsJudgedBetween scene o (first_of items) rule) tells
    (subst (λ (o : Option Outcome). IsJudgedBetween scene told o rule) first judged)

pub least_of : (x y a b rule : Option ℕ) → a ≡ x → b ≡ y → IsLeastOf a b rule → IsLeastOf x y rule
least_of x y a b rule e f least = subst (λ (o : Option ℕ). IsLeastOf x o rule) f (subst (λ (o : Option ℕ). IsLeastOf o b rule) e least)
