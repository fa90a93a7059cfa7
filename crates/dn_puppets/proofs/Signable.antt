-- Statements that each signer can sign.
use Rattle.std.proofs.Common.{◌≡◌, ℕ, ◌^◌, ◌<◌, ◌≤◌, List, length, Bool, true, false, arith}
use Rattle.dn_wire.specs.declared.limits.TheConstants.{MAX_BITS, MAX_STATEMENT_BYTES}
use Rattle.dn_wire.specs.declared.ids.ClientId.{ClientId}
use Rattle.dn_wire.specs.declared.ids.Round.{Round}
use Rattle.dn_wire.specs.declared.ids.SlotId.{SlotId}
use Rattle.dn_wire.specs.declared.ids.SignerId.{SignerId}
use Rattle.dn_wire.specs.declared.ids.SignerId.TheVariants.{Client, Server, Slot}
use Rattle.dn_wire.specs.Signer.{number_of}
use Rattle.dn_record_types.specs.declared.statement.Statement.{Statement}
use Rattle.dn_record_types.specs.declared.statement.Statement.TheVariants as kinds
use Rattle.dn_records.specs.Records.{statement_bytes, IsStatement}
use Rattle.dn_seal.specs.Signer.{CanSign}
use Rattle.dn_seal.proofs.SizeLemmas.{can_sign}
use Rattle.dn_client.specs.Client.{Identity}
use Rattle.dn_client.specs.Signing.{signer_of}
use Rattle.dn_puppets.specs.Clients.{IsNumbered}
use Rattle.dn_puppets.specs.Statements.{IsSignable}

pub submission_signable : (r prev : Round) (i : ClientId) (digest : List ℕ) → r.0 < 2 ^ 64 → prev.0 < 2 ^ 64 → i.0 < 2 ^ 32 → length digest ≡ 32
    → IsSignable (kinds.Submission r prev i digest)
submission_signable r prev i digest low low' few long = λ who mine. can_sign who (kinds.Submission r prev i digest) mine (low, (low', (few, long))) tt

pub reveal_signable : (r : Round) (s : List Bool) → r.0 < 2 ^ 64 → length s ≤ MAX_BITS → IsSignable (kinds.Reveal r s)
reveal_signable r s low long = λ who mine. can_sign who (kinds.Reveal r s) mine (low, long) tt

pub pad_bits_signable : (r : Round) (k : ℕ) (bits : List Bool) → r.0 < 2 ^ 64 → k < 2 ^ 32 → length bits ≤ MAX_BITS → IsSignable (kinds.PadBits r k bits)
pad_bits_signable r k bits low small long = λ who mine. can_sign who (kinds.PadBits r k bits) mine (low, (small, long)) tt

pub accusation_signable : (r : Round) (s : SlotId) (k : ℕ) → r.0 < 2 ^ 64 → s.0 < 2 ^ 32 → k < 2 ^ 32 → IsSignable (kinds.Accusation r s k)
accusation_signable r s k low few small = λ who mine. can_sign who (kinds.Accusation r s k) mine (low, (few, small)) tt

pub concession_signable : (r : Round) (k : ℕ) → r.0 < 2 ^ 64 → k < 2 ^ 32 → IsSignable (kinds.Concede r k)
concession_signable r k low small = λ who mine. can_sign who (kinds.Concede r k) mine (low, small) tt

-- a statement whose bytes aren't too many for an envelope
pub short_signable : (s : Statement) → IsStatement s → length (statement_bytes s) ≤ MAX_STATEMENT_BYTES → IsSignable s
short_signable s is few (Client i) mine = (((omega arith, omega arith), mine), (few, is))
short_signable s is few (Server j) mine = (((omega arith, omega arith), mine), (few, is))
short_signable s is few (Slot t) mine = (((omega arith, omega arith), mine), (few, is))

-- the key of a client, or of its slot, signs it
pub signable_by : (who : Identity) (as_slot : Bool) (s : Statement) → IsNumbered who → IsSignable s → CanSign (signer_of who as_slot) s
signable_by who true s numbered can = can (Slot who.slot) numbered.slot
signable_by who false s numbered can = can (Client who.me) numbered.me
