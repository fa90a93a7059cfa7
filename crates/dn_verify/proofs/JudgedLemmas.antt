-- Which rule a line breaks by what it says itself.
use Rattle.std.proofs.Common.{◌≡◌, ◌≤◌, ◌<◌, ℕ, Bool, List, length, Some, None, sym, subst, refl, inl, inr, arith}
use Rattle.std.specs.Prelude.{◌⊎◌, ◌↔◌, IsTrue, Option, Result, min, IsSome, IfNone, OnOk, Ok, Err}
use Rattle.std.proofs.lemmas.Bool.Decides.{same_from_decides}
use Rattle.dn_wire.specs.declared.ids.Member.{Member}
use Rattle.dn_wire.specs.declared.ids.Round.{Round}
use Rattle.dn_report.specs.declared.line.EventLine.{EventLine}
use Rattle.dn_verify.specs.declared.stop.Stop.{Stop}
use Rattle.std.proofs.lemmas.Bool.{cases_lt, false≢true}
use Rattle.dn_report.specs.declared.line.ReportLine.{ReportLine}
use Rattle.dn_report.specs.declared.line.ReportLine.TheVariants as lines
use Rattle.dn_report.specs.declared.outcome.Outcome.{Outcome}
use Rattle.dn_report.specs.declared.outcome.Outcome.TheVariants as outcomes
use Rattle.dn_verify.specs.declared.course.Ending.{Ending}
use Rattle.dn_verify.specs.Course.{CourseView, place_after}
use Rattle.dn_verify.specs.Payloads.{Report}
use Rattle.dn_verify.specs.Rules.{IsHeldRightly, IsHonestWord, IsInOrder, IsNextPayload, IsOrderly, IsOrderlyEvent, IsProperPost, SomeHonestServer}
use Rattle.dn_verify.specs.Known.{Known}
use Rattle.dn_verify.specs.Breaks.{Breaks, BreaksDue, BreaksNone, BreaksOutcome, BreaksWord, IsOfDue, IsRefusedBy}
use Rattle.dn_verify.specs.Judged.{BreaksSelf, IsJudged, IsJudgedDue, IsLeastOf, IsStepped, Unless, UnlessEither, stopped}

not_some : (o : Option Ending) → IsSome o → o ≡ None → ⊥
not_some None h e = false≢true h
not_some (Some x) h e = cc

-- rules are counted from 1
outcome_some : (report : Report) (c : CourseView) (o : Outcome) (behind : List ReportLine) (m : ℕ) → BreaksOutcome report c o behind m → 1 ≤ m
outcome_some report c (outcomes.Post payload by bytes) behind m w = omega (arith, w.0)
outcome_some report c (outcomes.Told client server r told) behind m w = omega (arith, w.0)
outcome_some report c (outcomes.Certified server r) behind m w = omega (arith, w.0)
outcome_some report c (outcomes.Held member r) behind m w = omega (arith, w.0)
outcome_some report c _ behind m w = absurd w

word_some : (report : Report) (c : CourseView) (l : ReportLine) (behind : List ReportLine) (m : ℕ) → BreaksWord report c l behind m → 1 ≤ m
word_some report c (lines.Outcome o) behind m w = outcome_some report c o behind m w
word_some report c (lines.Audit signed digests honest) behind m w = omega (arith, w.0)
word_some report c _ behind m w = absurd w

module _ (report : Report) (c : CourseView) (l : ReportLine) (behind : List ReportLine) where
  -- V1 is all that is asked of it
  pub judged_order : (rule : Option ℕ) → ((m : ℕ) → BreaksWord report c l behind m → ⊥) → Unless 1 (IsOrderly report c l behind) rule
      → IsJudged report c l behind rule
  judged_order None none u = λ m b. elim b [ inl x ↦ x.1 u | inr w ↦ none m w ]
  judged_order (Some rule) none u =
      let breaks : BreaksSelf report c l behind rule = inl u in
      (breaks, λ other b. elim b [ inl x ↦ omega (arith, u.0, x.0) | inr w ↦ absurd (none other w) ])

  -- another rule is all that is asked of it
  pub judged_word : (n : ℕ) (P : Type 0) (rule : Option ℕ) → IsOrderly report c l behind → ((m : ℕ) → BreaksWord report c l behind m → (m ≡ n) × (P → ⊥))
      → ((P → ⊥) → BreaksWord report c l behind n) → Unless n P rule → IsJudged report c l behind rule
  judged_word n P None orderly only breaks u = λ m b. elim b [ inl x ↦ x.1 orderly | inr w ↦ (only m w).1 u ]
  judged_word n P (Some rule) orderly only breaks u =
      let broken : BreaksSelf report c l behind rule = inr (subst (λ (m : ℕ). BreaksWord report c l behind m) (sym u.0) (breaks u.1)) in
      (broken, λ other b. elim b [ inl x ↦ absurd (x.1 orderly) | inr w ↦ omega (arith, u.0, (only other w).0) ])

  -- V1 and another rule
  pub judged_either : (n : ℕ) (Q : Type 0) (rule : Option ℕ) → 1 ≤ n → ((m : ℕ) → BreaksWord report c l behind m → (m ≡ n) × (Q → ⊥))
      → ((Q → ⊥) → BreaksWord report c l behind n) → UnlessEither 1 (IsOrderly report c l behind) n Q rule → IsJudged report c l behind rule
  judged_either n Q None some only breaks u = λ m b. elim b [ inl x ↦ x.1 u.0 | inr w ↦ (only m w).1 u.1 ]
  judged_either n Q (Some rule) some only breaks (inl u) =
      let broken : BreaksSelf report c l behind rule = inl u in
      (broken, λ other b. elim b [ inl x ↦ omega (arith, u.0, x.0) | inr w ↦ omega (arith, u.0, some, (only other w).0) ])
  judged_either n Q (Some rule) some only breaks (inr u) =
      let broken : BreaksSelf report c l behind rule = inr (subst (λ (m : ℕ). BreaksWord report c l behind m) (sym u.0) (breaks u.2)) in
      (broken, λ other b. elim b [ inl x ↦ absurd (x.1 u.1) | inr w ↦ omega (arith, u.0, (only other w).0) ])

  -- nothing is asked of it
  pub judged_free : IsOrderly report c l behind → ((m : ℕ) → BreaksWord report c l behind m → ⊥) → IsJudged report c l behind None
  judged_free orderly none = λ m b. elim b [ inl x ↦ x.1 orderly | inr w ↦ none m w ]

-- the rules of lines that are due are counted from 2
due_some : (m : ℕ) → IsOfDue m → 1 ≤ m
due_some m (inl two) = omega arith
due_some m (inr (inl five)) = omega arith
due_some m (inr (inr six)) = omega arith

module _ (report : Report) (c : CourseView) (f : Known) (l : ReportLine) (behind : List ReportLine) where
  -- what it breaks by what is due, and what it says itself
  abbrev Own : ℕ → Type 0
  Own m = BreaksDue c.scene f.due l m ⊎ BreaksSelf report c l behind m

  own_if : (m : ℕ) → IsSome (place_after c.ending l) → Breaks report c f l behind m → Own m
  own_if m placed (inl x) = inr (inl (x.0, λ orderly. x.1 (record { placed = placed; orderly = orderly })))
  own_if m placed (inr (inl d)) = inl d
  own_if m placed (inr (inr w)) = inr (inr w)

  if_own : (m : ℕ) → Own m → Breaks report c f l behind m
  if_own m (inl d) = inr (inl d)
  if_own m (inr (inl x)) = inl (x.0, λ order. x.1 order.orderly)
  if_own m (inr (inr w)) = inr (inr w)

  first_some : (m : ℕ) → Breaks report c f l behind m → 1 ≤ m
  first_some m (inl x) = omega (arith, x.0)
  first_some m (inr (inl d)) = due_some m d.0
  first_some m (inr (inr w)) = word_some report c l behind m w

  -- the line may not stand where it does
  pub refused_place : (place_after c.ending l ≡ None) → IsRefusedBy report c f l behind 1
  refused_place none = record {
    broken = inl (refl, λ order. not_some (place_after c.ending l) order.placed none);
    least = first_some;
  }

  lesser_own : (x y : ℕ) → BreaksDue c.scene f.due l x → BreaksSelf report c l behind y → Own (min x y)
  lesser_own x y due self =
      elim (cases_lt y x) [
        | inl below ↦
            let e : min x y ≡ y = omega arith in
            subst Own (sym e) (inr self)
        | inr above ↦
            let e : min x y ≡ x = omega arith in
            subst Own (sym e) (inl due)
      ]

  -- what is due and what the line says itself
  pub stepped : (at : ℕ) (due own rule : Option ℕ) → IsSome (place_after c.ending l) → IsJudgedDue c.scene f.due l due → IsJudged report c l behind own
      → IsLeastOf due own rule → IsStepped report c f l behind at (stopped at rule)
  stepped at None None rule placed due judged least =
      subst (λ (r : Option ℕ). IsStepped report c f l behind at (stopped at r)) (sym least)
      (λ m b. elim (own_if m placed b) [ inl d ↦ due m d | inr s ↦ judged m s ])
  stepped at None (Some o) rule placed due judged least =
      subst (λ (r : Option ℕ). IsStepped report c f l behind at (stopped at r)) (sym least) (
        refl,
        record {
          broken = if_own o (inr judged.0);
          least = λ other b. elim (own_if other placed b) [ inl d ↦ absurd (due other d) | inr s ↦ judged.1 other s ];
        },
      )
  stepped at (Some d) None rule placed due judged least =
      subst (λ (r : Option ℕ). IsStepped report c f l behind at (stopped at r)) (sym least) (
        refl,
        record {
          broken = if_own d (inl due.0);
          least = λ other b. elim (own_if other placed b) [ inl x ↦ due.1 other x | inr s ↦ absurd (judged other s) ];
        },
      )
  stepped at (Some d) (Some o) rule placed due judged least =
      subst (λ (r : Option ℕ). IsStepped report c f l behind at (stopped at r)) (sym least) (
        refl,
        record {
          broken = if_own (min d o) (lesser_own d o due.0 judged.0);
          least = λ other b. elim (own_if other placed b) [ inl x ↦ omega (arith, due.1 other x) | inr s ↦ omega (arith, judged.1 other s) ];
        },
      )

-- the third word of the audit
module _ (report : Report) (c : CourseView) (behind : List ReportLine) (l : ReportLine) (signed digests honest : Bool) (is : l ≡ lines.Audit signed digests honest)
    (word : Bool) (corrupt : List Member) (servers : ℕ) (exact : IsTrue word ↔ SomeHonestServer corrupt servers) (same : report.corrupt ≡ corrupt) (count : length report.roster.servers ≡ servers) where
  audit_judged : (rule : Option ℕ) → Unless 8 (IsHonestWord report honest) rule → IsJudged report c l behind rule
  audit_judged rule u =
      subst (λ (x : ReportLine). IsJudged report c x behind rule) (sym is)
      (judged_word report c (lines.Audit signed digests honest) behind 8 (IsHonestWord report honest) rule tt (λ m w. w) (λ no. (refl, no)) u)

  word_is : IsTrue word ↔ SomeHonestServer report.corrupt (length report.roster.servers)
  word_is =
      subst (λ (ms : List Member). IsTrue word ↔ SomeHonestServer ms (length report.roster.servers)) (sym same)
      (subst (λ (n : ℕ). IsTrue word ↔ SomeHonestServer corrupt n) (sym count) exact)

  pub audit_right : honest ≡ word → IsJudged report c l behind None
  audit_right e = audit_judged None (subst (λ (b : Bool). IsTrue b ↔ SomeHonestServer report.corrupt (length report.roster.servers)) (sym e) word_is)

  pub audit_wrong : (honest ≡ word → ⊥) → IsJudged report c l behind (Some 8)
  audit_wrong other =
      audit_judged (Some 8) (refl, λ right. other (same_from_decides honest word right word_is))

pub judged_held : (report : Report) (c : CourseView) (behind : List ReportLine) (o : Outcome) (m : Member) (r : Round) (rule : Option ℕ) → o ≡ outcomes.Held m r
    → Unless 4 (IsHeldRightly report c m r) rule → IsJudged report c (lines.Outcome o) behind rule
judged_held report c behind o m r rule is u =
    subst (λ (x : Outcome). IsJudged report c (lines.Outcome x) behind rule) (sym is)
    (judged_word report c (lines.Outcome (outcomes.Held m r)) behind 4 (IsHeldRightly report c m r) rule tt (λ n w. w) (λ no. (refl, no)) u)

pub judged_post : (report : Report) (c : CourseView) (behind : List ReportLine) (o : Outcome) (payload : ℕ) (by : Member) (bytes : List ℕ) (rule : Option ℕ)
    → o ≡ outcomes.Post payload by bytes → UnlessEither 1 (IsNextPayload report c payload) 7 (IsProperPost report c.scene payload by) rule
    → IsJudged report c (lines.Outcome o) behind rule
judged_post report c behind o payload by bytes rule is u =
    subst (λ (x : Outcome). IsJudged report c (lines.Outcome x) behind rule) (sym is)
    (judged_either report c (lines.Outcome (outcomes.Post payload by bytes)) behind 7 (IsProperPost report c.scene payload by) rule (omega arith) (λ n w. w)
    (λ no. (refl, no)) u)

pub judged_event : (report : Report) (c : CourseView) (behind : List ReportLine) (l : ReportLine) (e : EventLine) (rule : Option ℕ) → l ≡ lines.Event e
    → Unless 1 (IsOrderlyEvent report c e behind) rule → IsJudged report c l behind rule
judged_event report c behind l e rule is u =
    subst (λ (x : ReportLine). IsJudged report c x behind rule) (sym is) (judged_order report c (lines.Event e) behind rule (λ m w. w) u)

pub if_none : (P : Type 0) (o : Option ℕ) → P → IfNone o P
if_none P None p = p
if_none P (Some x) p = tt

pub none_weaker : (P Q : Type 0) (o : Option ℕ) → (P → Q) → IfNone o P → IfNone o Q
none_weaker P Q None f p = f p
none_weaker P Q (Some x) f p = tt

pub on_ok : (P : Type 0) (r : Result (Unit {0}) Stop) → P → OnOk r P
on_ok P (Ok x) p = p
on_ok P (Err e) p = tt

-- what holds where the line breaks nothing
pub on_stopped : (P : Type 0) (at : ℕ) (due own rule : Option ℕ) → IsLeastOf due own rule → IfNone own P → OnOk (stopped at rule) P
on_stopped P at None None rule least p = subst (λ (r : Option ℕ). OnOk (stopped at r) P) (sym least) p
on_stopped P at None (Some o) rule least p = subst (λ (r : Option ℕ). OnOk (stopped at r) P) (sym least) tt
on_stopped P at (Some d) None rule least p = subst (λ (r : Option ℕ). OnOk (stopped at r) P) (sym least) tt
on_stopped P at (Some d) (Some o) rule least p = subst (λ (r : Option ℕ). OnOk (stopped at r) P) (sym least) tt

pub is_some : (o : Option Ending) (e : Ending) → Some e ≡ o → IsSome o
is_some o e is = subst (λ (x : Option Ending). IsSome x) is refl
