-- What a call of the judge does in a run.
use Rattle.std.specs.Prelude.{◌≡◌, ◌≢◌, ◌⊎◌, ℕ, ◌≤◌, Bool, List, [], ◌∷◌, All, Contains}
use Rattle.dn_wire.specs.declared.ids.Member.{Member}
use Rattle.dn_wire.specs.declared.ids.Member.TheVariants as members
use Rattle.dn_wire.specs.declared.ids.Round.{Round}
use Rattle.dn_wire.specs.declared.ids.ServerId.{ServerId}
use Rattle.dn_wire.specs.declared.ids.SignerId.{SignerId}
use Rattle.dn_wire.specs.declared.ids.SignerId.TheVariants.{Client, Server, Slot}
use Rattle.dn_record_types.specs.declared.body.Body.{Body}
use Rattle.dn_record_types.specs.declared.payload.Payload.TheVariants as payloads
use Rattle.dn_record_types.specs.declared.statement.Statement.{Statement}
use Rattle.dn_seal.specs.Said.{SaidView, IsSaid, IsUnder}
use Rattle.dn_cert.specs.Chain.{ChainView, IsLayoutAfter, bodies}
use Rattle.dn_cert.specs.Evidence.{IsValid}
use Rattle.dn_cert.specs.declared.rules.Valid.{Valid}
use Rattle.dn_trace.specs.declared.fault.Fault.{Fault}
use Rattle.dn_trace.specs.Verdict.{IsVerdict}
use Rattle.dn_report.specs.declared.event.Event.TheVariants as events
use Rattle.dn_report.specs.declared.outcome.Outcome.{Outcome}
use Rattle.dn_report.specs.declared.outcome.Outcome.TheVariants as outcomes
use Rattle.dn_report.specs.declared.words.BlameWord.{BlameWord}
use Rattle.dn_report.specs.declared.words.IgnoredWord.TheVariants as ignored
use Rattle.dn_headline.specs.Group.{servers_of}
use Rattle.dn_headline.specs.Log.{Step, Put, Message}
use Rattle.dn_headline.specs.Run.{RunView, log}
use Rattle.dn_headline.specs.Spoken.{IsPayloadOf, IsSubmission}
use Rattle.dn_headline.specs.Certified.{IsRunChain}
use Rattle.dn_headline.specs.Heard.{IsHeard}
use Rattle.dn_headline.specs.Verdict.{lines_of}

-- the payload has this envelope of the statement in front: a plain payload, or a submission payload where it is one of a submission
abbrev pub HasInFront : List ℕ → SaidView → Type 0
HasInFront bytes said =
    IsPayloadOf bytes (payloads.Plain said.bytes) ⊎ ((cipher : List Bool) × IsSubmission said.statement × IsPayloadOf bytes (payloads.Submission cipher said.bytes))

-- a payload with the envelope in front was delivered to a server, other than early
pub record ArrivedAtAServer (w : RunView) (said : SaidView) : Type 0 where
  pub message : Message
  pub there : Contains (log w).delivered message
  pub server : ServerId
  pub to : message.to ≡ members.Server server
  pub front : HasInFront message.bytes said

-- Where an envelope that is handed to the judge comes from, by its signer: a server's from a plain payload that was put, a client's or a slot's
-- from a payload that reached a server.
abbrev pub ComesFrom : RunView → SaidView → SignerId → Type 0
ComesFrom w said (Server j) = (put : Put) × Contains (log w).puts put × IsPayloadOf put.bytes (payloads.Plain said.bytes)
ComesFrom w said (Client i) = ArrivedAtAServer w said
ComesFrom w said (Slot k) = ArrivedAtAServer w said

-- The judge is called on the run's certificate of round r and the layout after its prev in the run's chain, with an accusation that holds at
-- place k and envelopes that are heard; and the lines tell its verdict.
pub record IsJudged (w : RunView) (r : Round) (k : ℕ) (lines : List Outcome) : Type 0 where
  pub servers : 1 ≤ servers_of w.group
  pub chain : ChainView
  pub of_run : IsRunChain w chain
  pub body : Body
  pub inside : Contains (bodies chain) body
  pub round : body.r ≡ r
  pub layout : List ℕ
  pub after : IsLayoutAfter chain body.prev.0 layout
  pub accuser : SignerId
  pub accusation : Statement
  pub found : Valid
  pub valid : IsValid layout body accuser accusation found
  pub accused : IsHeard w accuser accusation
  pub place : found.k ≡ k
  pub given : List SaidView
  pub said : All IsSaid given
  pub under : All (IsUnder w.group.roster) given
  pub from : (said : SaidView) → Contains given said → ComesFrom w said said.signer
  pub blamed : List (Member × Fault)
  pub silent : List Member
  pub verdict : IsVerdict (record { roster = w.group.roster; body = body; layout = layout; k = k; given = given }) blamed silent
  pub told : lines ≡ lines_of blamed silent

-- a step that calls the judge: it is ignored, or judged
pub record JudgeStep (w : RunView) (s : Step) : Type 0 where
  pub r : Round
  pub k : ℕ
  pub event : s.event ≡ events.Judge r k
  pub does : (s.outcomes ≡ outcomes.Ignored ignored.None ∷ []) ⊎ IsJudged w r k s.outcomes

-- another step, whose outcomes blame nobody
pub record OtherStep (s : Step) : Type 0 where
  pub event : (r : Round) (k : ℕ) → s.event ≢ events.Judge r k
  pub blames : (m : Member) (reason : BlameWord) → ¬ Contains s.outcomes (outcomes.Blame m reason)

-- each step of the run after a call was one before, or calls the judge, or blames nobody
abbrev pub JudgeCalled : RunView → RunView → Type 0
JudgeCalled w v = (s : Step) → Contains v.history s → Contains w.history s ⊎ (JudgeStep v s ⊎ OtherStep s)
