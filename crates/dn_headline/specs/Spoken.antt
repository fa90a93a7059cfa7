-- What is said in payloads that were put, and what members signed.
use Rattle.std.specs.Prelude.{◌≡◌, ℕ, ◌≤◌, ◌⊎◌, Bool, true, List, Contains, slice_get, Some}
use Rattle.dn_wire.specs.declared.ids.SignerId.{SignerId}
use Rattle.dn_record_types.specs.declared.statement.Statement.{Statement}
use Rattle.dn_record_types.specs.declared.statement.Statement.TheVariants as kinds
use Rattle.dn_record_types.specs.declared.payload.Payload.{Payload}
use Rattle.dn_record_types.specs.declared.payload.Payload.TheVariants as payloads
use Rattle.dn_records.specs.Records.{payload_bytes, IsPayload}
use Rattle.dn_roster.specs.Roster.{RosterView}
use Rattle.dn_seal.specs.Said.{Unseals}
use Rattle.dn_headline.specs.Group.{IsKeyOf}
use Rattle.dn_headline.specs.Log.{Put}
use Rattle.dn_headline.specs.Run.{RunView, log}

-- the bytes are this payload
pub record IsPayloadOf (bytes : List ℕ) (p : Payload) : Type 0 where
  pub fits : IsPayload p
  pub spelled : bytes ≡ payload_bytes p

-- the bytes are a plain payload, whose envelope unseals as this statement
pub record Says (roster : RosterView) (bytes : List ℕ) (who : SignerId) (s : Statement) : Type 0 where
  pub envelope : List ℕ
  pub is : IsPayloadOf bytes (payloads.Plain envelope)
  pub unseals : Unseals roster envelope who s

abbrev pub IsSubmission : Statement → Type 0
IsSubmission (kinds.Submission r prev i digest) = Unit {0}
IsSubmission _ = ⊥

-- the bytes are a submission payload with this ciphertext, whose envelope unseals as this submission
pub record Submits (roster : RosterView) (bytes : List ℕ) (who : SignerId) (s : Statement) (cipher : List Bool) : Type 0 where
  pub submission : IsSubmission s
  pub envelope : List ℕ
  pub is : IsPayloadOf bytes (payloads.Submission cipher envelope)
  pub unseals : Unseals roster envelope who s

-- the statement was put in a plain payload
pub record WasSaid (w : RunView) (who : SignerId) (s : Statement) : Type 0 where
  pub put : Put
  pub there : Contains (log w).puts put
  pub says : Says w.group.roster put.bytes who s

-- the statement was put in a submission payload with this ciphertext
pub record WasSubmitted (w : RunView) (who : SignerId) (s : Statement) (cipher : List Bool) : Type 0 where
  pub put : Put
  pub there : Contains (log w).puts put
  pub submits : Submits w.group.roster put.bytes who s cipher

-- the envelope in front of a payload is the signer's on this statement
abbrev pub IsInFront : RosterView → List ℕ → SignerId → Statement → Type 0
IsInFront roster bytes who s = Says roster bytes who s ⊎ ((cipher : List Bool) × Submits roster bytes who s cipher)

-- The signer had signed the statement when payload number n was put: among the first n + 1 is one that the signer's member put by its own
-- core, with this statement in front. What a core signs it puts in the same event, so its signed statements are these.
pub record HadSigned (w : RunView) (n : ℕ) (who : SignerId) (s : Statement) : Type 0 where
  pub at : ℕ
  pub by_then : at ≤ n
  pub put : Put
  pub there : slice_get (log w).puts at ≡ Some put
  pub own : put.own ≡ true
  pub key : IsKeyOf w.group who put.by
  pub front : IsInFront w.group.roster put.bytes who s

-- the signer signed the statement in the run
pub record Signed (w : RunView) (who : SignerId) (s : Statement) : Type 0 where
  pub n : ℕ
  pub had : HadSigned w n who s
