-- What a verdict is told as: V6 is that these lines stand exactly under `judge`.
use Rattle.std.specs.Prelude.{◌≡◌, ◌<◌, ◌++◌, ◌∷◌, ℕ, List, [], map, length, All, Contains}
use Rattle.dn_wire.specs.declared.ids.Member.{Member}
use Rattle.dn_wire.specs.declared.ids.Round.{Round}
use Rattle.dn_record_types.specs.declared.body.Body.{Body}
use Rattle.dn_roster.specs.Roster.{RosterView}
use Rattle.dn_seal.specs.Said.{SaidView}
use Rattle.dn_cert.specs.declared.rules.Valid.{Valid}
use Rattle.dn_cert.specs.Chain.{ChainView, bodies, IsLayoutAfter}
use Rattle.dn_cert.specs.Evidence.{IsValid}
use Rattle.dn_trace.specs.declared.fault.Fault.{Fault}
use Rattle.dn_trace.specs.Trial.{Trial}
use Rattle.dn_trace.specs.Verdict.{IsVerdict}
use Rattle.dn_report.specs.declared.outcome.Outcome.{Outcome}
use Rattle.dn_report.specs.declared.outcome.Outcome.TheVariants as outcomes
use Rattle.dn_report.specs.declared.words.IgnoredWord.TheVariants as ignored
use Rattle.dn_verify.specs.Words.{blame_word_of}

-- the body has a digest of each server, and lists clients and servers of the group
pub record FitsGroup (roster : RosterView) (b : Body) : Type 0 where
  pub digests : length b.digests ≡ length roster.servers
  pub listed : All (λ l. (l.client.0 < length roster.clients) × (l.server.0 < length roster.servers)) b.listed

-- an accusation at this place was heard that holds against the body
pub record IsAccused (layout : List ℕ) (b : Body) (k : ℕ) (heard : List SaidView) : Type 0 where
  pub said : SaidView
  pub among : Contains heard said
  pub v : Valid
  pub valid : IsValid layout b said.signer said.statement v
  pub place : v.k ≡ k

-- A trial of place k on this body and layout: the body is one of the group's, and an accusation was heard that holds.
pub record IsTrialOn (roster : RosterView) (b : Body) (layout : List ℕ) (k : ℕ) (heard : List SaidView) (trial : Trial) : Type 0 where
  pub is : trial ≡ record { roster = roster; body = b; layout = layout; k = k; given = heard }
  pub fits : FitsGroup roster b
  pub accused : IsAccused layout b k heard

-- A trial of place k of round r: on the body that a chain has of the round and the layout after its prev, with what was heard.
pub record IsTrialIn (roster : RosterView) (chain : ChainView) (heard : List SaidView) (r : Round) (k : ℕ) (trial : Trial) : Type 0 where
  pub held : Contains (bodies chain) trial.body
  pub round : trial.body.r ≡ r
  pub after : IsLayoutAfter chain trial.body.prev.0 trial.layout
  pub on : IsTrialOn roster trial.body trial.layout k heard trial

-- who is blamed, with what
abbrev pub blame_line : Member × Fault → Outcome
blame_line b = outcomes.Blame b.0 (blame_word_of b.1)

abbrev pub silent_line : Member → Outcome
silent_line member = outcomes.Silent member

abbrev pub verdict_lines : List (Member × Fault) → List Member → List Outcome
verdict_lines blamed silent = map blame_line blamed ++ map silent_line silent

-- The lines under a `judge` of place k of round r: the verdict of the trial; and that it is ignored, where there is none to be held.
pub data IsJudgedSo (roster : RosterView) (chain : ChainView) (heard : List SaidView) (r : Round) (k : ℕ) (lines : List Outcome) : Type 0 where
  judged : (trial : Trial) (blamed : List (Member × Fault)) (silent : List Member) → IsTrialIn roster chain heard r k trial → IsVerdict trial blamed silent
      → lines ≡ verdict_lines blamed silent → IsJudgedSo roster chain heard r k lines
  none : ((trial : Trial) → ¬ IsTrialIn roster chain heard r k trial) → lines ≡ outcomes.Ignored ignored.None ∷ [] → IsJudgedSo roster chain heard r k lines
