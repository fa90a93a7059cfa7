-- A verdict that names nobody as silent blames somebody.
use Rattle.std.proofs.Common.{List, [], ◌∷◌, map, refl, sym, subst, inl, inr}
use Rattle.std.specs.Prelude.{Contains}
use Rattle.dn_wire.specs.declared.ids.Member.{Member}
use Rattle.dn_report.specs.declared.outcome.Outcome.{Outcome}
use Rattle.dn_report.specs.declared.outcome.Outcome.TheVariants as outcomes
use Rattle.dn_report.specs.declared.words.BlameWord.{BlameWord}
use Rattle.dn_report.specs.declared.words.IgnoredWord.TheVariants as ignored
use Rattle.dn_trace.specs.declared.fault.Fault.{Fault}
use Rattle.dn_trace.specs.Trial.{Trial}
use Rattle.dn_trace.specs.Verdict.{IsVerdict, IsHeld}
use Rattle.dn_trace.proofs.Somebody.{somebody}
use Rattle.dn_cert.proofs.Orders.{here}
use Rattle.dn_headline.specs.Run.{RunView}
use Rattle.dn_headline.specs.Headline.{AnsweredBlameSomebody}
use Rattle.dn_headline.specs.Verdict.{word_of, lines_of}
use Rattle.dn_headline.specs.Invariant.{Facts, Invariant}

-- the first of those blamed has a line, and where nobody is blamed, the first of the silent has one
some_line : (trial : Trial) (blamed : List (Member × Fault)) (silent : List Member) → IsHeld trial → IsVerdict trial blamed silent
    → ((m : Member) → ¬ Contains (lines_of blamed silent) (outcomes.Silent m)) → (m : Member) × (reason : BlameWord) × Contains (lines_of blamed silent) (outcomes.Blame m reason)
some_line trial ((m, fault) ∷ blamed) silent held verdict none = (m, word_of fault, here (outcomes.Blame m (word_of fault)) (lines_of blamed silent))
some_line trial [] (m ∷ silent) held verdict none = absurd (none m (here (outcomes.Silent m) (map outcomes.Silent silent)))
some_line trial [] [] held verdict none = absurd (somebody trial [] held verdict refl)

pub answered_blame_somebody_lem : (w : RunView) (f : Facts) → Invariant w f → AnsweredBlameSomebody w
answered_blame_somebody_lem w f inv s r k there judges heeded answered =
    elim (inv.verdicts.judged s r k there judges) [
      | inl none ↦ absurd (heeded (subst (λ (os : List Outcome). Contains os (outcomes.Ignored ignored.None)) (sym none) (here (outcomes.Ignored ignored.None) [])))
      | inr v ↦
          let line = some_line v.trial v.blamed v.silent v.held v.verdict (λ m h. answered m (subst (λ (os : List Outcome). Contains os (outcomes.Silent m)) (sym v.told) h)) in
          (line.0, line.1, subst (λ (os : List Outcome). Contains os (outcomes.Blame line.0 line.1)) (sym v.told) line.2)
    ]
