-- Verdicts: who is blamed, and who is silent.
use Rattle.std.specs.Prelude.{◌≡◌, ◌≢◌, ◌<◌, ◌≤◌, ◌⊎◌, ℕ, List, map, All, AllPairs, Contains, true}
use Rattle.dn_wire.specs.declared.ids.ClientId.{ClientId}
use Rattle.dn_wire.specs.declared.ids.Member.{Member}
use Rattle.dn_wire.specs.declared.ids.Member.TheVariants as members
use Rattle.dn_wire.specs.declared.ids.Round.{Round}
use Rattle.dn_bits.specs.Bits.{bit}
use Rattle.dn_record_types.specs.declared.statement.Statement.{Statement}
use Rattle.dn_record_types.specs.declared.statement.Statement.TheVariants as kinds
use Rattle.dn_seal.specs.Dealt.{client}
use Rattle.dn_cert.specs.Evidence.{IsGood}
use Rattle.dn_trace.specs.declared.fault.Fault.{Fault}
use Rattle.dn_trace.specs.declared.fault.Fault.TheVariants as faults
use Rattle.dn_trace.specs.Trial.{Trial, Heard, round_of, servers_of}
use Rattle.dn_trace.specs.Reasons.{IsTwice, HasFalseEntry, HasFalseCommit, ShowsWrong, HasFalseSum, IsRebutted, HasFalseOutput, Rebuts}
use Rattle.dn_trace.specs.Challenged.{IsChallenged, IsOpened}

-- a submission for the judged round, by the client's key
pub record Submits (trial : Trial) (i : ℕ) (s : Statement) : Type 0 where
  pub prev : Round
  pub named : ClientId
  pub digest : List ℕ
  pub is : s ≡ kinds.Submission (round_of trial) prev named digest
  pub heard : Heard trial (client i) s

-- two different submissions for the judged round
pub record IsDouble (trial : Trial) (i : ℕ) : Type 0 where
  pub one : Statement
  pub submits_one : Submits trial i one
  pub other : Statement
  pub submits_other : Submits trial i other
  pub differ : one ≢ other

-- the client is challenged, and a rebuttal of its own isn't good
pub record RebutsBadly (trial : Trial) (i : ℕ) : Type 0 where
  pub challenged : IsChallenged trial i
  pub s : Statement
  pub j : ℕ
  pub rebuts : Rebuts trial i s j
  pub bad : ¬ IsGood trial.roster record { 0 = i } s

-- the client concedes the judged place
abbrev pub Concedes : Trial → ℕ → Type 0
Concedes trial i = Heard trial (client i) (kinds.Concede (round_of trial) trial.k)

-- the server has this fault
abbrev pub ServerHas : Trial → ℕ → Fault → Type 0
ServerHas trial j faults.Twice = IsTwice trial j
ServerHas trial j faults.Entry = HasFalseEntry trial j
ServerHas trial j faults.Commit = HasFalseCommit trial j
ServerHas trial j faults.Shown = ShowsWrong trial j
ServerHas trial j faults.Sum = HasFalseSum trial j
ServerHas trial j faults.Pad = IsRebutted trial j
ServerHas trial j faults.Output = (j < servers_of trial) × HasFalseOutput trial
ServerHas trial j faults.Double = ⊥
ServerHas trial j faults.Rebuttal = ⊥
ServerHas trial j faults.Conceded = ⊥

-- the client has this fault
abbrev pub ClientHas : Trial → ℕ → Fault → Type 0
ClientHas trial i faults.Twice = ⊥
ClientHas trial i faults.Entry = ⊥
ClientHas trial i faults.Commit = ⊥
ClientHas trial i faults.Shown = ⊥
ClientHas trial i faults.Sum = ⊥
ClientHas trial i faults.Pad = ⊥
ClientHas trial i faults.Output = ⊥
ClientHas trial i faults.Double = IsDouble trial i
ClientHas trial i faults.Rebuttal = RebutsBadly trial i
ClientHas trial i faults.Conceded = IsChallenged trial i × Concedes trial i

abbrev pub Has : Trial → Member → Fault → Type 0
Has trial (members.Client i) fault = ClientHas trial i.0 fault
Has trial (members.Server j) fault = ServerHas trial j.0 fault

-- the number of a reason
abbrev pub reason : Fault → ℕ
reason faults.Twice = 1
reason faults.Entry = 2
reason faults.Commit = 3
reason faults.Shown = 4
reason faults.Sum = 5
reason faults.Pad = 6
reason faults.Output = 7
reason faults.Double = 8
reason faults.Rebuttal = 9
reason faults.Conceded = 10

-- the fault is the member's, of those that it has the one of the least reason
pub record HasLeast (trial : Trial) (member : Member) (fault : Fault) : Type 0 where
  pub has : Has trial member fault
  pub least : (other : Fault) → Has trial member other → reason fault ≤ reason other

-- the client rebuts or concedes
abbrev pub Answers : Trial → ℕ → Type 0
Answers trial i = ((s : Statement) × (j : ℕ) × Rebuts trial i s j) ⊎ Concedes trial i

-- A server is silent that has not opened; and a client that is challenged and gives no answer, where no server is blamed.
abbrev pub IsSilent : Trial → Member → Type 0
IsSilent trial (members.Client i) =
    ((j : ℕ) (fault : Fault) → ¬ ServerHas trial j fault) × IsChallenged trial i.0 × (¬ Answers trial i.0)
IsSilent trial (members.Server j) = (j.0 < servers_of trial) × (¬ IsOpened trial j.0)

-- servers stand before clients, and each before those of greater numbers
abbrev pub StandsBefore : Member → Member → Type 0
StandsBefore (members.Server i) (members.Server j) = i.0 < j.0
StandsBefore (members.Server i) (members.Client j) = Unit {0}
StandsBefore (members.Client i) (members.Server j) = ⊥
StandsBefore (members.Client i) (members.Client j) = i.0 < j.0

-- Who is blamed, with what: each member that has a fault, with the one of its least reason. And who is silent.
pub record IsVerdict (trial : Trial) (blamed : List (Member × Fault)) (silent : List Member) : Type 0 where
  pub in_order : AllPairs StandsBefore (map (λ b. b.0) blamed)
  pub blames : All (λ b. HasLeast trial b.0 b.1) blamed
  pub all_blamed : (member : Member) (fault : Fault) → Has trial member fault → (least : Fault) × Contains blamed (member, least)
  pub silent_in_order : AllPairs StandsBefore silent
  pub are_silent : All (IsSilent trial) silent
  pub all_silent : (member : Member) → IsSilent trial member → Contains silent member

-- The output has a 1 at the judged place; and there are servers, and the body gives its clients to these.
pub record IsHeld (trial : Trial) : Type 0 where
  pub one : bit trial.body.out trial.k ≡ true
  pub servers : 1 ≤ servers_of trial
  pub listed : All (λ l. l.server.0 < servers_of trial) trial.body.listed
