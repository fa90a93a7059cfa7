-- Accusations and rebuttals.
use Rattle.std.specs.Prelude.{◌≡◌, ◌≢◌, ◌<◌, ◌≤◌, ◌⊎◌, ℕ, Bool, true, false, List, Some}
use Rattle.dn_wire.specs.declared.ids.ClientId.{ClientId}
use Rattle.dn_wire.specs.declared.ids.Round.{Round}
use Rattle.dn_wire.specs.declared.ids.ServerId.{ServerId}
use Rattle.dn_wire.specs.declared.ids.SlotId.{SlotId}
use Rattle.dn_wire.specs.declared.ids.SignerId.{SignerId}
use Rattle.dn_wire.specs.declared.ids.SignerId.TheVariants.{Slot, Server}
use Rattle.dn_bits.specs.Bits.{bit}
use Rattle.dn_hash.specs.Digests.{seed_commitment_of}
use Rattle.dn_pads.specs.Pads.{keystream_bit}
use Rattle.dn_record_types.specs.declared.body.Body.{Body}
use Rattle.dn_record_types.specs.declared.statement.Statement.{Statement}
use Rattle.dn_record_types.specs.declared.statement.Statement.TheVariants.{PadBits, Accusation, Rebuttal}
use Rattle.dn_layout.specs.Layout.{range_of}
use Rattle.dn_roster.specs.Roster.{RosterView, commitment_of}
use Rattle.dn_seal.specs.Said.{Unseals}
use Rattle.dn_cert.specs.declared.rules.Valid.{Valid}
use Rattle.dn_cert.specs.declared.rules.Invalid.{Invalid}
use Rattle.dn_cert.specs.declared.rules.Invalid.TheVariants.{Key, Place, Zero}

-- what a server's pad bits show of client i: its bit, and 0 past their end
abbrev pub shown_bit : List Bool → ClientId → Bool
shown_bit bits i = bit bits i.0

-- what a statement of pad bits shows of client i, and 0 where the statement is another
abbrev pub bit_in : Statement → ClientId → Bool
bit_in (PadBits r k bits) i = shown_bit bits i
bit_in _ i = false

-- place k is one of slot s
abbrev pub IsInSlot : List ℕ → ℕ → ℕ → Type 0
IsInSlot layout s k = (first : ℕ) × (past : ℕ) × (range_of layout s ≡ Some (first, past)) × (first ≤ k) × (k < past)

abbrev pub IsAccusation : Statement → Type 0
IsAccusation s = (r : Round) × (slot : SlotId) × (k : ℕ) × (s ≡ Accusation r slot k)

abbrev pub IsRebuttal : Statement → Type 0
IsRebuttal s = (r : Round) × (k : ℕ) × (server : ServerId) × (seed : List ℕ) × (envelope : List ℕ) × (s ≡ Rebuttal r k server seed envelope)

-- the slot itself accuses at this place of the body's round
abbrev pub IsBySlot : Body → SignerId → Statement → SlotId → ℕ → Type 0
IsBySlot body who s slot k = (who ≡ Slot slot) × (s ≡ Accusation body.r slot k)

-- The accusation holds: the slot itself makes it for the body's round, the place is one of the slot's, and the body isn't thin and its
-- output has a 1 there. A place past the output's end has a 0.
pub record IsValid (layout : List ℕ) (body : Body) (who : SignerId) (s : Statement) (v : Valid) : Type 0 where
  pub round : v.r ≡ body.r
  pub by_slot : IsBySlot body who s v.slot v.k
  pub place : IsInSlot layout v.slot.0 v.k
  pub full : body.thin ≡ false
  pub one : bit body.out v.k ≡ true

-- why an accusation doesn't hold: the first of these that is so
abbrev pub IsInvalid : List ℕ → Body → SignerId → Statement → Invalid → Type 0
IsInvalid layout body who s Key = (slot : SlotId) (k : ℕ) → ¬ IsBySlot body who s slot k
IsInvalid layout body who s Place = (slot : SlotId) × (k : ℕ) × IsBySlot body who s slot k × (¬ IsInSlot layout slot.0 k)
IsInvalid layout body who s Zero = (slot : SlotId) × (k : ℕ) × IsBySlot body who s slot k × IsInSlot layout slot.0 k × ((body.thin ≡ true) ⊎ (bit body.out k ≡ false))

-- A rebuttal of a client is good: the envelope that it carries unseals, as the named server's pad bits of the rebuttal's round and place;
-- the seed opens the commitment to the seed of the client and the server; and the pad of that seed has another bit at that place than
-- the one that the server shows of the client.
pub record IsGood (roster : RosterView) (client : ClientId) (s : Statement) : Type 0 where
  pub r : Round
  pub k : ℕ
  pub server : ServerId
  pub seed : List ℕ
  pub envelope : List ℕ
  pub bits : List Bool
  pub is : s ≡ Rebuttal r k server seed envelope
  pub unseals : Unseals roster envelope (Server server) (PadBits r k bits)
  pub opens : commitment_of roster client.0 server.0 ≡ Some (seed_commitment_of client.0 server.0 seed)
  pub differs : keystream_bit seed r.0 k ≢ shown_bit bits client
