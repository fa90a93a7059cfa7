-- A Judge tells a verdict.
use Rattle.std.proofs.Common.{◌≡◌, ℕ, List, [], ◌∷◌, ◌++◌, map, refl, sym, ap, subst, ◌∙◌, inl, inr, true, false}
use Rattle.std.specs.Prelude.{Contains, ◌⊎◌}
use Rattle.std.proofs.lemmas.List.Elements.{Contains-append_cases}
use Rattle.dn_wire.specs.declared.ids.Member.{Member}
use Rattle.dn_wire.specs.declared.ids.Round.{Round}
use Rattle.dn_wire.specs.declared.ids.SignerId.{SignerId}
use Rattle.dn_wire.specs.declared.ids.SignerId.TheVariants.{Client, Server, Slot}
use Rattle.dn_roster.specs.Roster.{RosterView}
use Rattle.dn_seal.specs.Said.{SaidView, Unseals, IsSaid, IsUnder}
use Rattle.dn_seal.proofs.SaidLemmas.{said_unseals}
use Rattle.dn_cert.proofs.Orders.{All-from_contains}
use Rattle.dn_cert.proofs.ListLemmas.{Contains-from_map}
use Rattle.dn_trace.specs.declared.fault.Fault.{Fault}
use Rattle.dn_trace.specs.declared.fault.Fault.TheVariants as faults
use Rattle.dn_trace.specs.Trial.{Trial}
use Rattle.dn_trace.specs.Verdict.{IsVerdict}
use Rattle.dn_report.specs.declared.event.Event.TheVariants as events
use Rattle.dn_report.specs.declared.outcome.Outcome.{Outcome}
use Rattle.dn_report.specs.declared.outcome.Outcome.TheVariants as outcomes
use Rattle.dn_report.specs.declared.words.IgnoredWord.TheVariants as ignored
use Rattle.dn_state.specs.Parts.{PartsView}
use Rattle.dn_state.specs.Words.{blame_word_of}
use Rattle.dn_state.specs.Verdicts.{IsJudgedSo, blame_line, silent_line, verdict_lines}
use Rattle.dn_state.specs.Verdicts.IsJudgedSo.{judged, none}
use Rattle.dn_headline.specs.Group.{clients_of}
use Rattle.dn_headline.specs.Log.{Step, Log, nobody, with_outcomes, AreNumbered}
use Rattle.dn_headline.specs.Run.{RunView, log}
use Rattle.dn_headline.specs.Spoken.{IsInFront}
use Rattle.dn_headline.specs.Certified.{IsChainOf}
use Rattle.dn_headline.specs.Heard.{IsHeard}
use Rattle.dn_headline.specs.Verdict.{word_of, lines_of}
use Rattle.dn_links.specs.Judging.{HasInFront, ComesFrom, IsJudged, JudgeStep}
use Rattle.dn_steps.specs.Fitting.{FitsLog, WasHeard, CameFrom}
use Rattle.dn_steps.specs.Tied.{IsTied}
use Rattle.dn_steps.proofs.Places.{only}
use Rattle.dn_steps.proofs.Runs.{next_run, log_next, step_cases, is_quiet, is_of_put, unput_lines}
use Rattle.dn_steps.proofs.Resting.{same_members, none_put, rested}

-- ---- what is heard

module _ (v : RunView) where
  comes_from : (l : Log) → log v ≡ l → (said : SaidView) (who : SignerId) → CameFrom l said who → ComesFrom v said who
  comes_from l is said (Server j) from = (from.0, subst (λ (z : Log). Contains z.puts from.0) (sym is) from.1, from.2)
  comes_from l is said (Client i) from = record {
    message = from.message;
    there = subst (λ (z : Log). Contains z.delivered from.message) (sym is) from.there;
    server = from.server;
    to = from.to;
    front = from.front;
  }
  comes_from l is said (Slot k) from = record {
    message = from.message;
    there = subst (λ (z : Log). Contains z.delivered from.message) (sym is) from.there;
    server = from.server;
    to = from.to;
    front = from.front;
  }

  in_front : (bytes : List ℕ) (said : SaidView) → Unseals v.group.roster said.bytes said.signer said.statement → HasInFront bytes said
      → IsInFront v.group.roster bytes said.signer said.statement
  in_front bytes said unseals h =
      elim h [
        | inl plain ↦ inl (record { envelope = said.bytes; is = plain; unseals = unseals })
        | inr submits ↦ inr (submits.0, record { submission = submits.1; envelope = said.bytes; is = submits.2; unseals = unseals })
      ]

  heard_of : (said : SaidView) (who : SignerId) → said.signer ≡ who → Unseals v.group.roster said.bytes said.signer said.statement → ComesFrom v said who
      → IsHeard v who said.statement
  heard_of said (Server j) e unseals from = record {
    put = from.0;
    there = from.1;
    says = record { envelope = said.bytes; is = from.2; unseals = subst (λ (z : SignerId). Unseals v.group.roster said.bytes z said.statement) e unseals };
  }
  heard_of said (Client i) e unseals from = record {
    message = from.message;
    there = from.there;
    server = from.server;
    to = from.to;
    front = subst (λ (z : SignerId). IsInFront v.group.roster from.message.bytes z said.statement) e (in_front from.message.bytes said unseals from.front);
  }
  heard_of said (Slot k) e unseals from = record {
    message = from.message;
    there = from.there;
    server = from.server;
    to = from.to;
    front = subst (λ (z : SignerId). IsInFront v.group.roster from.message.bytes z said.statement) e (in_front from.message.bytes said unseals from.front);
  }

-- ---- the lines of a verdict

same_word : (f : Fault) → blame_word_of f ≡ word_of f
same_word faults.Twice = refl
same_word faults.Entry = refl
same_word faults.Commit = refl
same_word faults.Shown = refl
same_word faults.Sum = refl
same_word faults.Pad = refl
same_word faults.Output = refl
same_word faults.Double = refl
same_word faults.Rebuttal = refl
same_word faults.Conceded = refl

same_blames : (blamed : List (Member × Fault)) → map blame_line blamed ≡ map (λ (b : Member × Fault). outcomes.Blame b.0 (word_of b.1)) blamed
same_blames [] = refl
same_blames (b ∷ bs) = λ t. outcomes.Blame b.0 (same_word b.1 t) ∷ same_blames bs t

same_lines : (blamed : List (Member × Fault)) (silent : List Member) → verdict_lines blamed silent ≡ lines_of blamed silent
same_lines blamed silent = ap (λ (os : List Outcome). os ++ map silent_line silent) (same_blames blamed)

-- each line of a verdict blames, or names who is silent; it puts nothing, and tells nothing of a server
of_verdict : (blamed : List (Member × Fault)) (silent : List Member) (o : Outcome) → Contains (verdict_lines blamed silent) o
    → (is_of_put o ≡ false) × (is_quiet o ≡ true)
of_verdict blamed silent o h =
    elim (Contains-append_cases (map blame_line blamed) (map silent_line silent) o h) [
      | inl a ↦ let b = Contains-from_map blame_line blamed o a in (ap is_of_put (sym b.2), ap is_quiet (sym b.2))
      | inr a ↦ let b = Contains-from_map silent_line silent o a in (ap is_of_put (sym b.2), ap is_quiet (sym b.2))
    ]

pub of_judge : (parts : PartsView) (r : Round) (k : ℕ) (lines : List Outcome) → IsJudgedSo parts r k lines → (o : Outcome) → Contains lines o
    → (is_of_put o ≡ false) × (is_quiet o ≡ true)
of_judge parts r k lines (judged trial blamed silent is verdict told) o h = of_verdict blamed silent o (subst (λ (os : List Outcome). Contains os o) told h)
of_judge parts r k lines (none no_trial told) o h =
    let is = only (outcomes.Ignored ignored.None) o (subst (λ (os : List Outcome). Contains os o) told h) in (ap is_of_put (sym is), ap is_quiet (sym is))

-- ---- the step

module _ (w : RunView) (old new : PartsView) (r : Round) (k : ℕ) (lines : List Outcome) (tied : IsTied w old) (judges : IsJudgedSo old r k lines) where
  abbrev s : Step
  s = record { event = events.Judge r k; outcomes = lines }

  abbrev v : RunView
  v = next_run w s w.plains w.sums

  unput : (with_outcomes true nobody (log w) lines ≡ log w) × AreNumbered true nobody (log w) lines
  unput = unput_lines true nobody (log w) lines (λ o h. (of_judge old r k lines judges o h).0)

  at : log v ≡ log w
  at = log_next w s w.plains w.sums ∙ unput.0

  heard_said : (said : SaidView) → Contains old.heard said → WasHeard w.group.roster (log w) said
  heard_said said h = tied.fits.heard said h

  does : IsJudgedSo old r k lines → (lines ≡ outcomes.Ignored ignored.None ∷ []) ⊎ IsJudged v r k lines
  does (none no_trial told) = inl told
  does (judged trial blamed silent is verdict told) =
      let accused = is.on.accused in
      let said = heard_said accused.said accused.among in
      let trial_is : trial ≡ record { roster = w.group.roster; body = trial.body; layout = trial.layout; k = k; given = old.heard } =
      is.on.is ∙ ap (λ (z : RosterView). record { roster = z; body = trial.body; layout = trial.layout; k = k; given = old.heard }) tied.group.roster in
      inr (record {
        servers = tied.group.is_roster.servers.0;
        chain = old.chain;
        of_run = subst (λ (l : Log). IsChainOf w.group.roster (clients_of w.group) l.puts old.chain) (sym at) tied.fits.chain;
        body = trial.body;
        inside = is.held;
        round = is.round;
        layout = trial.layout;
        after = is.after;
        accuser = accused.said.signer;
        accusation = accused.said.statement;
        found = accused.v;
        valid = accused.valid;
        accused = heard_of v accused.said accused.said.signer refl (said_unseals w.group.roster accused.said said.verified said.under)
            (comes_from v (log w) at accused.said accused.said.signer said.from);
        place = accused.place;
        given = old.heard;
        said = All-from_contains IsSaid old.heard (λ x h. (heard_said x h).verified);
        under = All-from_contains (IsUnder w.group.roster) old.heard (λ x h. (heard_said x h).under);
        from = λ x h. comes_from v (log w) at x x.signer (heard_said x h).from;
        blamed = blamed;
        silent = silent;
        verdict = subst (λ (z : Trial). IsVerdict z blamed silent) trial_is verdict;
        told = told ∙ same_lines blamed silent;
      })

  pub judged_is_tied : new ≡ old → IsTied v new
  judged_is_tied same = subst (IsTied v) (sym same) (rested w old old s tied (record {
    quiet = λ o h. (of_judge old r k lines judges o h).1;
    members = same_members old;
    fits = subst (λ (l : Log). FitsLog w.group l old) (sym at) tied.fits;
    orderly = record { numbered = unput.1; delivers = λ n e taken. absurd cc };
    unput = λ n p past there own. none_put (log w).puts (log v).puts (ap (λ (l : Log). l.puts) at) n p past there;
    unheard = λ x j q t m honest phase carries now. judge_is_not now.0 now.1;
    untexted = λ i h. refl;
    judge = λ x h. elim (step_cases w s x h) [
      | inl before ↦ inl before
      | inr this ↦ inr (inl (subst (JudgeStep v) this (record { r = r; k = k; event = refl; does = does judges })))
    ];
  })) where
    judge_is_not : (n : ℕ) → events.Judge r k ≡ events.Deliver n → ⊥
    judge_is_not n e = absurd cc
