-- What a client's keys may sign.
use Rattle.std.proofs.Common.{◌≡◌, ℕ, ◌^◌, ◌<◌, ◌≤◌, Bool, List, length, sym, ap, subst, arith}
use Rattle.dn_wire.specs.declared.limits.TheConstants.{MAX_CARRIED_BYTES}
use Rattle.dn_wire.specs.declared.ids.ClientId.{ClientId}
use Rattle.dn_wire.specs.declared.ids.Round.{Round}
use Rattle.dn_wire.specs.declared.ids.ServerId.{ServerId}
use Rattle.dn_wire.specs.declared.ids.SlotId.{SlotId}
use Rattle.dn_wire.specs.declared.ids.SignerId.TheVariants.{Client, Slot}
use Rattle.dn_record_types.specs.declared.statement.Statement.TheVariants.{Submission, Accusation, Rebuttal, PadBits}
use Rattle.dn_seal.specs.Signer.{CanSign}
use Rattle.dn_seal.specs.Said.{SaidView, IsSaid}
use Rattle.dn_seal.specs.Sizes.{HasShortSignatures, most_bytes}
use Rattle.dn_seal.proofs.SizeLemmas.{can_sign, said_few}

pub submission_fits : (r prev : Round) (i : ClientId) (digest : List ℕ) → r.0 < 2 ^ 64 → prev.0 < 2 ^ 64 → i.0 < 2 ^ 32 → length digest ≡ 32
    → CanSign (Client i) (Submission r prev i digest)
submission_fits r prev i digest low low' few long = can_sign (Client i) (Submission r prev i digest) few (low, (low', (few, long))) tt

pub accusation_fits : (r : Round) (s : SlotId) (k : ℕ) → r.0 < 2 ^ 64 → s.0 < 2 ^ 32 → k < 2 ^ 32 → CanSign (Slot s) (Accusation r s k)
accusation_fits r s k low few small = can_sign (Slot s) (Accusation r s k) few (low, (few, small)) tt

pub rebuttal_fits : (r : Round) (k : ℕ) (j : ServerId) (seed envelope : List ℕ) (i : ClientId) → r.0 < 2 ^ 64 → k < 2 ^ 32 → j.0 < 2 ^ 32 → i.0 < 2 ^ 32
    → length seed ≡ 32 → length envelope ≤ MAX_CARRIED_BYTES → CanSign (Client i) (Rebuttal r k j seed envelope)
rebuttal_fits r k j seed envelope i low small few mine long short =
    can_sign (Client i) (Rebuttal r k j seed envelope) mine (low, (small, (few, (long, short)))) tt

-- pad bits that somebody said can stand in a rebuttal
pub said_short : (said : SaidView) (r : Round) (k : ℕ) (bits : List Bool) → IsSaid said → said.statement ≡ PadBits r k bits → length said.bytes ≤ MAX_CARRIED_BYTES
said_short said r k bits is e =
    let free : HasShortSignatures said.statement = subst HasShortSignatures (sym e) tt in
    omega (arith, said_few said is free, ap most_bytes e)
