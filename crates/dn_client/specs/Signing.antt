-- What a client's keys sign for others.
use Rattle.std.specs.Prelude.{◌≡◌, ◌<◌, ℕ, Bool, true, false, List, [], ◌∷◌, ◌++◌, length, if◌then◌else◌}
use Rattle.dn_wire.specs.declared.ids.SignerId.{SignerId}
use Rattle.dn_wire.specs.declared.ids.SignerId.TheVariants.{Client, Slot}
use Rattle.dn_record_types.specs.declared.statement.Statement.{Statement}
use Rattle.dn_lms.specs.Key.{leaf_count}
use Rattle.dn_seal.specs.Signer.{sealed_in}
use Rattle.dn_seal.specs.declared.signer.SealFault.{SealFault}
use Rattle.dn_seal.specs.declared.signer.SealFault.TheVariants as faults
use Rattle.dn_seal.specs.SigningKey.{SigningKeyView}
use Rattle.dn_client.specs.Client.{ClientView, Identity, sealed_as_client, sealed_as_slot}

-- the client's slot, or the client
abbrev pub signer_of : Identity → Bool → SignerId
signer_of who as_slot = if as_slot then Slot who.slot else Client who.me

-- the envelope is that of the key's next statement
pub record IsSealedNext (old : SigningKeyView) (s : Statement) (envelope : List ℕ) (new : SigningKeyView) : Type 0 where
  pub leaf : length old.signed < leaf_count old.key
  pub sealed : envelope ≡ sealed_in old.digest old.who old.key (length old.signed) s
  pub signed : new ≡ record old { signed = old.signed ++ s ∷ [] }

-- why a key seals nothing: no leaf is left, or memory is wanting, after which a leaf may be lost
abbrev pub IsUnsealed : SigningKeyView → SealFault → SigningKeyView → Type 0
IsUnsealed old (faults.Exhausted seen) new = (length old.signed ≡ leaf_count old.key) × (seen ≡ leaf_count old.key) × (new ≡ old)
IsUnsealed old faults.NoMemory new = new ≡ record old { lost = new.lost }

-- the envelope of a statement that the client's key or its slot's signed next
abbrev pub IsSignedFor : ClientView → Bool → Statement → List ℕ → ClientView → Type 0
IsSignedFor old true s envelope new =
    (length old.signed_as_slot < leaf_count old.who.slot_key) × (envelope ≡ sealed_as_slot old.who (length old.signed_as_slot) s)
    × (new ≡ record old { signed_as_slot = old.signed_as_slot ++ s ∷ []; bent = true })
IsSignedFor old false s envelope new =
    (length old.signed < leaf_count old.who.key) × (envelope ≡ sealed_as_client old.who (length old.signed) s)
    × (new ≡ record old { signed = old.signed ++ s ∷ []; bent = true })

-- why nothing is signed: no leaf of the key is left
abbrev pub IsNotSigned : ClientView → Bool → SealFault → Type 0
IsNotSigned old true (faults.Exhausted seen) = (length old.signed_as_slot ≡ leaf_count old.who.slot_key) × (seen ≡ leaf_count old.who.slot_key)
IsNotSigned old false (faults.Exhausted seen) = (length old.signed ≡ leaf_count old.who.key) × (seen ≡ leaf_count old.who.key)
IsNotSigned old _ faults.NoMemory = Unit {0}
