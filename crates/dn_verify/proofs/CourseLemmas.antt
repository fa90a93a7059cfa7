-- When two courses are one.
use Rattle.std.proofs.Common.{◌≡◌, ◌≤◌, ◌+◌, ◌-◌, ℕ, suc, List, Some, ap, ◌∙◌, arith}
use Rattle.std.specs.Prelude.{Option}
use Rattle.dn_report.specs.declared.line.ReportLine.{ReportLine}
use Rattle.dn_verify.specs.declared.course.Ending.{Ending}
use Rattle.dn_verify.specs.Steps.{behind_at, course_before, course_behind, line_at}
use Rattle.dn_wire.specs.declared.ids.Member.{Member}
use Rattle.dn_verify.specs.declared.told.ToldKey.{ToldKey}
use Rattle.dn_verify.specs.Flight.{Flight}
use Rattle.dn_verify.specs.Course.{CourseView, after, after_told, ending_or, no_course, place_after}

pub same_course : (a b : CourseView) → a.posted ≡ b.posted → ((p : ℕ) (m : Member) → a.puts p m ≡ b.puts p m) → a.sent ≡ b.sent
    → a.flight ≡ b.flight → ((key : ToldKey) → a.told key ≡ b.told key) → a.scene ≡ b.scene → a.closed ≡ b.closed → a.ending ≡ b.ending → a ≡ b
same_course a b posted puts sent flight told scene closed ending =
    λ i. record {
      posted = posted i;
      puts = λ p m. puts p m i;
      sent = sent i;
      flight = flight i;
      told = λ key. told key i;
      scene = scene i;
      closed = closed i;
      ending = ending i;
    }

pub same_flight : (f g : Flight) → ((id : ℕ) → f id ≡ g id) → f ≡ g
same_flight f g h = λ i id. h id i

-- the course goes on with a line
pub goes_on : (c : CourseView) (l : ReportLine) (behind : List ReportLine) (x : CourseView) (e : Ending) → x ≡ after_told l behind c → Some e ≡ place_after c.ending l
    → record x { ending = e } ≡ after c l behind
unfolding after
goes_on c l behind x e is at = λ i. record (is i) { ending = ap (λ (o : Option Ending). ending_or o c.ending) at i }

module _ (ls : List ReportLine) (first k : ℕ) (above : first ≤ k) where
  one_more : k + 1 - first ≡ suc (k - first)
  one_more = omega arith

  here : first + (k - first) ≡ k
  here = omega arith

  -- the course one line further
  pub before_more : course_before ls first (k + 1) ≡ after (course_before ls first k) (line_at ls k) (behind_at ls k)
  unfolding course_behind
  before_more =
      ap (course_behind ls first) one_more
      ∙ ap (λ (q : ℕ). after (course_behind ls first (k - first)) (line_at ls q) (behind_at ls q)) here

-- and before the first line
pub before_first : (ls : List ReportLine) (first : ℕ) → course_before ls first first ≡ no_course
unfolding course_behind
before_first ls first =
    let none : first - first ≡ 0 = omega arith in
    ap (course_behind ls first) none
