-- What `judge` finds of each member, and the lists that it makes of this.
use Rattle.std.specs.Prelude.{◌≡◌, ◌<◌, ◌+◌, ℕ, Bool, true, false, List, [], ◌∷◌, length, slice_index_or, slice_set, Option, Some, None, All, Contains, ◌⊎◌}
use Rattle.dn_wire.specs.declared.ids.ClientId.{ClientId}
use Rattle.dn_wire.specs.declared.ids.Member.{Member}
use Rattle.dn_wire.specs.declared.ids.Member.TheVariants as members
use Rattle.dn_wire.specs.declared.ids.Round.{Round}
use Rattle.dn_wire.specs.declared.ids.SignerId.TheVariants.{Client}
use Rattle.dn_record_types.specs.declared.statement.Statement.{Statement}
use Rattle.dn_record_types.specs.declared.statement.Statement.TheVariants as kinds
use Rattle.dn_record_types.specs.declared.inventory.Entry.{Entry}
use Rattle.dn_roster.specs.Roster.{RosterView}
use Rattle.dn_cert.specs.Evidence.{IsGood}
use Rattle.dn_cert.specs.Signed.{EntryVerifies}
use Rattle.dn_trace.specs.declared.answers.Answer.{Answer}
use Rattle.dn_trace.specs.declared.answers.Answer.TheVariants as given
use Rattle.dn_trace.specs.declared.answers.Answers as found
use Rattle.dn_trace.specs.declared.entries.Submitted.{Submitted}
use Rattle.dn_trace.specs.declared.fault.Fault.{Fault}
use Rattle.dn_trace.specs.declared.fault.Fault.TheVariants as faults
use Rattle.dn_trace.specs.Trial.{Trial, IsEntered, round_of, servers_of}
use Rattle.dn_trace.specs.Reasons.{HasFalseEntry, IsRebutted, IsListed, Rebuts}
use Rattle.dn_trace.specs.Verdict.{Has, HasLeast, Answers, Concedes}
use Rattle.dn_trace.specs.Evidence.{Tells, HasOwn}

abbrev pub clients_of : Trial → ℕ
clients_of trial = length trial.roster.clients

-- the submissions for the judged round that entries of inventories stand for
pub record AreEntered (trial : Trial) (submitted : List Submitted) : Type 0 where
  pub each : All (λ x. IsEntered trial (Client x.client) (kinds.Submission (round_of trial) x.prev x.client x.digest)) submitted
  pub whole : (i named : ClientId) (prev : Round) (digest : List ℕ) → IsEntered trial (Client i) (kinds.Submission (round_of trial) prev named digest)
      → (named ≡ i) × Contains submitted record { prev = prev; client = i; digest = digest }

abbrev pub submitted_of : Round → Entry → Submitted
submitted_of prev e = record { prev = prev; client = e.client; digest = e.digest }

-- the flag tells whether each of the entries verifies
pub record TellsAllVerify (roster : RosterView) (r prev : Round) (entries : List Entry) (flag : Bool) : Type 0 where
  pub all : flag ≡ true → (e : Entry) → Contains entries e → EntryVerifies roster r prev e
  pub one : flag ≡ false → (e : Entry) × Contains entries e × ¬ EntryVerifies roster r prev e

-- the submissions of those entries of an inventory that verify are added to others
pub record AreAdded (roster : RosterView) (r prev : Round) (entries : List Entry) (old all : List Submitted) : Type 0 where
  pub kept : (x : Submitted) → Contains old x → Contains all x
  pub added : (e : Entry) → Contains entries e → EntryVerifies roster r prev e → Contains all (submitted_of prev e)
  pub each : (x : Submitted) → Contains all x
      → Contains old x ⊎ ((e : Entry) × Contains entries e × EntryVerifies roster r prev e × (submitted_of prev e ≡ x))

-- and of each server whether an inventory of its own has an entry that doesn't verify
pub record AreEntries (trial : Trial) (submitted : List Submitted) (flags : List Bool) : Type 0 where
  pub entered : AreEntered trial submitted
  pub tells : Tells flags (servers_of trial) (HasFalseEntry trial)

-- the submission for this round that a statement is
abbrev pub IsSubmission : Round → Statement → Option Submitted → Type 0
IsSubmission r s None = (x : Submitted) → ¬ (s ≡ kinds.Submission r x.prev x.client x.digest)
IsSubmission r s (Some x) = s ≡ kinds.Submission r x.prev x.client x.digest

-- A submission of client i is noted: it is the first, or the same as the first, or another one, where the client has a place at all.
pub data IsNoted (i : ℕ) (x : Submitted) (first new_first : List (Option Submitted)) (double new_double : List Bool) : Type 0 where
  nowhere : ((i < length first) × (i < length double) → ⊥) → new_first ≡ first → new_double ≡ double → IsNoted i x first new_first double new_double
  is_first : i < length first → slice_index_or first i None ≡ None → new_first ≡ slice_set first i (Some x) → new_double ≡ double → IsNoted i x first new_first double new_double
  again : slice_index_or first i None ≡ Some x → new_first ≡ first → new_double ≡ double → IsNoted i x first new_first double new_double
  other : (y : Submitted) → slice_index_or first i None ≡ Some y → (y ≡ x → ⊥) → i < length double → new_first ≡ first → new_double ≡ slice_set double i true
      → IsNoted i x first new_first double new_double

-- a rebuttal of the client that counts isn't good
pub record RebutsFalsely (trial : Trial) (i : ℕ) : Type 0 where
  pub s : Statement
  pub j : ℕ
  pub rebuts : Rebuts trial i s j
  pub bad : ¬ IsGood trial.roster record { 0 = i } s

-- the statement is a rebuttal for the judged round and place, which names server j
abbrev pub IsRebuttalFor : Trial → Statement → ℕ → Type 0
IsRebuttalFor trial s j = (seed : List ℕ) × (envelope : List ℕ) × (s ≡ kinds.Rebuttal (round_of trial) trial.k record { 0 = j } seed envelope)

-- what a statement of client i answers for the judged round and place
abbrev pub IsAnswer : Trial → ℕ → Statement → Option Answer → Type 0
IsAnswer trial i s None = ((j : ℕ) → ¬ IsRebuttalFor trial s j) × ¬ (s ≡ kinds.Concede (round_of trial) trial.k)
IsAnswer trial i s (Some (given.Rebuts j)) = IsRebuttalFor trial s j.0 × IsGood trial.roster record { 0 = i } s
IsAnswer trial i s (Some given.RebutsBadly) = ((j : ℕ) × IsRebuttalFor trial s j) × ¬ IsGood trial.roster record { 0 = i } s
IsAnswer trial i s (Some given.Concedes) = s ≡ kinds.Concede (round_of trial) trial.k

-- an answer of client i is noted
abbrev pub IsNotedAnswer : ℕ → Answer → found.Answers → found.Answers → Type 0
IsNotedAnswer i (given.Rebuts j) old new =
    (new.is_rebutted.items ≡ slice_set old.is_rebutted.items j.0 true) × (new.rebuts_badly.items ≡ old.rebuts_badly.items)
    × (new.concedes.items ≡ old.concedes.items) × (new.answers.items ≡ slice_set old.answers.items i true)
IsNotedAnswer i given.RebutsBadly old new =
    (new.is_rebutted.items ≡ old.is_rebutted.items) × (new.rebuts_badly.items ≡ slice_set old.rebuts_badly.items i true)
    × (new.concedes.items ≡ old.concedes.items) × (new.answers.items ≡ slice_set old.answers.items i true)
IsNotedAnswer i given.Concedes old new =
    (new.is_rebutted.items ≡ old.is_rebutted.items) × (new.rebuts_badly.items ≡ old.rebuts_badly.items)
    × (new.concedes.items ≡ slice_set old.concedes.items i true) × (new.answers.items ≡ slice_set old.answers.items i true)

-- what the clients that the body lists answer
pub record AreAnswers (trial : Trial) (is_rebutted rebuts_badly is_conceded is_answered : List Bool) : Type 0 where
  pub rebutted : Tells is_rebutted (servers_of trial) (IsRebutted trial)
  pub badly : Tells rebuts_badly (clients_of trial) (RebutsFalsely trial)
  pub conceded : Tells is_conceded (clients_of trial) (λ i. IsListed trial i × Concedes trial i)
  pub answered : Tells is_answered (clients_of trial) (λ i. IsListed trial i × Answers trial i)

-- of each server, the least of its own faults
pub record AreOwn (trial : Trial) (own : List (Option Fault)) : Type 0 where
  pub size : length own ≡ servers_of trial
  pub each : (j : ℕ) → j < servers_of trial → HasOwn trial j (slice_index_or own j None)

-- a member's fault of the least reason, where it has one
abbrev pub IsLeast : Trial → Member → Option Fault → Type 0
IsLeast trial member None = (fault : Fault) → ¬ Has trial member fault
IsLeast trial member (Some fault) = HasLeast trial member fault

-- of each member with a number below n, its fault
pub record AreLeast (trial : Trial) (member : ℕ → Member) (n : ℕ) (faults : List (Option Fault)) : Type 0 where
  pub size : length faults ≡ n
  pub each : (j : ℕ) → j < n → IsLeast trial (member j) (slice_index_or faults j None)

abbrev pub a_server : ℕ → Member
a_server j = members.Server record { 0 = j }

abbrev pub a_client : ℕ → Member
a_client i = members.Client record { 0 = i }

-- the members, from number n on, that have a fault
abbrev pub blames_from : (ℕ → Member) → ℕ → List (Option Fault) → List (Member × Fault)
blames_from member n [] = []
blames_from member n (None ∷ faults) = blames_from member (n + 1) faults
blames_from member n (Some fault ∷ faults) = (member n, fault) ∷ blames_from member (n + 1) faults

-- the members, from number n on, whose flag is set
abbrev pub members_from : (ℕ → Member) → ℕ → List Bool → List Member
members_from member n [] = []
members_from member n (true ∷ flags) = member n ∷ members_from member (n + 1) flags
members_from member n (false ∷ flags) = members_from member (n + 1) flags

-- the fault of a server, from its own fault, whether a good rebuttal names it, and whether the output is false
abbrev pub server_fault_of : Option Fault → Bool → Bool → Option Fault
server_fault_of (Some fault) rebutted output = Some fault
server_fault_of None true output = Some faults.Pad
server_fault_of None false true = Some faults.Output
server_fault_of None false false = None

-- the fault of a client, from whether it is double, challenged, rebuts badly and concedes
abbrev pub client_fault_of : Bool → Bool → Bool → Bool → Option Fault
client_fault_of true challenged badly concedes = Some faults.Double
client_fault_of false false badly concedes = None
client_fault_of false true true concedes = Some faults.Rebuttal
client_fault_of false true false true = Some faults.Conceded
client_fault_of false true false false = None
