-- When a client accuses at a place of a round, and what it signs.
use Rattle.std.specs.Prelude.{◌≡◌, ◌<◌, ◌≤◌, ◌⊎◌, ℕ, Bool, true, false, List, [], ◌∷◌, ◌++◌, length, Contains, Some, None, Option}
use Rattle.std.specs.Borrow.{Bor}
use Rattle.dn_wire.specs.declared.ids.Round.{Round}
use Rattle.dn_bits.specs.Bits.{bit}
use Rattle.dn_record_types.specs.declared.body.Body.{Body}
use Rattle.dn_layout.specs.Layout.{range_of}
use Rattle.dn_lms.specs.Key.{leaf_count}
use Rattle.dn_cert.specs.Chain.{bodies, Holds, IsLayoutAfter}
use Rattle.dn_cert.specs.Evidence.{IsInSlot}
use Rattle.dn_client.specs.declared.made.Made.{Made}
use Rattle.dn_client.specs.declared.accused.Accused.{Accused}
use Rattle.dn_client.specs.declared.accusing.AccuseFault.{AccuseFault}
use Rattle.dn_client.specs.declared.accusing.AccuseFault.TheVariants as refusals
use Rattle.dn_client.specs.Client.{ClientView, IsSpent, accusation_of, sealed_as_slot}
use Rattle.dn_client.specs.Holding.{Lists}

-- the round is held with this body, whose round has this layout
pub record IsHeldRound (v : ClientView) (r : Round) (b : Body) (lengths : List ℕ) : Type 0 where
  pub held : Contains (bodies v.chain) b
  pub round : b.r ≡ r
  pub after : IsLayoutAfter v.chain b.prev.0 lengths

-- the body lists what the client made for its round
abbrev pub IsListedMade : ClientView → Body → Made → Type 0
IsListedMade v b m = Contains v.made m × (m.r ≡ b.r) × Lists b v.who.me m.digest

-- the client's own text in a body's round: its plain text where the body lists what it made, and else nothing
abbrev pub IsOwnText : ClientView → Body → List Bool → Type 0
IsOwnText v b text =
    ((m : Made) × IsListedMade v b m × (text ≡ m.plain)) ⊎ (((m : Made) → ¬ IsListedMade v b m) × (text ≡ []))

-- The client's own bit at a place of a round that it holds, and the output's, where the place is in its slot. A bit past a string's end is 0.
pub record HasBits (v : ClientView) (r : Round) (k : ℕ) (own out : Bool) : Type 0 where
  pub body : Body
  pub lengths : List ℕ
  pub held : IsHeldRound v r body lengths
  pub place : IsInSlot lengths v.who.slot.0 k
  pub text : List Bool
  pub own_text : IsOwnText v body text
  pub own_is : own ≡ bit text k
  pub out_is : out ≡ bit body.out k

-- the range of the client's slot in the round of a body
abbrev pub IsRangeIn : ClientView → Body → Option (ℕ × ℕ) → Type 0
IsRangeIn v b range = (lengths : List ℕ) → IsLayoutAfter v.chain b.prev.0 lengths → range ≡ range_of lengths v.who.slot.0

-- the place lies in a range
abbrev pub IsWithin : Option (ℕ × ℕ) → ℕ → Type 0
IsWithin (Some range) k = (range.0 ≤ k) × (k < range.1)
IsWithin None k = ⊥

-- bit k of a text, and 0 past its end or where there is none
abbrev pub text_bit : Option (Bor (List Bool)) → ℕ → Bool
text_bit (Some text) k = bit text.now k
text_bit None k = false

-- an output has a 1 there, and the text a 0
abbrev pub DiffersAt : Option (Bor (List Bool)) → List Bool → ℕ → Type 0
DiffersAt own out k = (text_bit own k ≡ false) × (bit out k ≡ true)

-- the least such place from `first` to below `past`
abbrev pub IsFirstDiffering : Option (Bor (List Bool)) → List Bool → ℕ → ℕ → Option ℕ → Type 0
IsFirstDiffering own out first past (Some k) =
    (first ≤ k) × (k < past) × DiffersAt own out k × ((q : ℕ) → first ≤ q → q < k → ¬ DiffersAt own out q)
IsFirstDiffering own out first past None = (q : ℕ) → first ≤ q → q < past → ¬ DiffersAt own out q

-- the bit at that place was changed: the client's own is 0, and the output's is 1
abbrev pub IsJammed : ClientView → Round → ℕ → Type 0
IsJammed v r k = HasBits v r k false true

-- the place is in the client's slot in no layout of a body that it holds for the round
abbrev pub IsElsewhere : ClientView → Round → ℕ → Type 0
IsElsewhere v r k = (b : Body) × (lengths : List ℕ) × IsHeldRound v r b lengths × (¬ IsInSlot lengths v.who.slot.0 k)

-- the accusation stands in the list
abbrev pub IsAccusedAt : Round → ℕ → Accused → Type 0
IsAccusedAt r k a = (a.r ≡ r) × (a.k ≡ k)

abbrev pub HasAccused : ClientView → Round → ℕ → Type 0
HasAccused v r k = (a : Accused) × Contains v.accused a × IsAccusedAt r k a

-- why the client doesn't accuse: the first of these that is so
abbrev pub IsUnaccused : ClientView → Round → ℕ → AccuseFault → Type 0
IsUnaccused v r k refusals.Left = v.left ≡ true
IsUnaccused v r k (refusals.NoCert q) = (v.left ≡ false) × (q ≡ r) × (¬ Holds v.chain r.0)
IsUnaccused v r k (refusals.Place place) = (v.left ≡ false) × (place ≡ k) × IsElsewhere v r k
IsUnaccused v r k (refusals.NoEvidence own out) = (v.left ≡ false) × HasBits v r k own out × ((own ≡ true) ⊎ (out ≡ false))
IsUnaccused v r k refusals.Spent =
    (v.left ≡ false) × IsJammed v r k × (¬ HasAccused v r k) × (length v.signed_as_slot ≡ leaf_count v.who.slot_key)
IsUnaccused v r k refusals.NoMemory = Unit {0}

-- the accusation was made, and its envelope is given again
pub record IsAccusedAgain (old : ClientView) (r : Round) (k : ℕ) (envelope : List ℕ) (new : ClientView) : Type 0 where
  pub accused : Accused
  pub there : Contains old.accused accused
  pub at : IsAccusedAt r k accused
  pub given : envelope ≡ accused.envelope
  pub same : new ≡ old

abbrev pub accused_of : Round → ℕ → List ℕ → Accused
accused_of r k envelope = record { r = r; k = k; envelope = envelope }

-- it is made now, and signed as the next statement of the slot's key; nothing else changes
pub record IsAccusedNow (old : ClientView) (r : Round) (k : ℕ) (envelope : List ℕ) (new : ClientView) : Type 0 where
  pub first : ¬ HasAccused old r k
  pub leaf : length old.signed_as_slot < leaf_count old.who.slot_key
  pub sealed : envelope ≡ sealed_as_slot old.who (length old.signed_as_slot) (accusation_of old.who (accused_of r k envelope))
  pub kept : new ≡ record old {
    accused = old.accused ++ accused_of r k envelope ∷ [];
    signed_as_slot = old.signed_as_slot ++ accusation_of old.who (accused_of r k envelope) ∷ [];
  }

-- the accusation is made before or now
abbrev pub Accuses : ClientView → Round → ℕ → List ℕ → ClientView → Type 0
Accuses old r k envelope new =
    (old.left ≡ false) × IsJammed old r k × (IsAccusedAgain old r k envelope new ⊎ IsAccusedNow old r k envelope new)

-- the least jammed place of a round
pub record IsFirstJammed (v : ClientView) (r : Round) (k : ℕ) : Type 0 where
  pub jammed : IsJammed v r k
  pub first : (q : ℕ) → q < k → ¬ IsJammed v r q

-- the range of the client's slot in the round that it holds; nothing where it holds none or the slot is closed there
abbrev pub IsSlotStart : ClientView → Round → Option ℕ → Type 0
IsSlotStart v r (Some first) =
    (b : Body) × (lengths : List ℕ) × (past : ℕ) × IsHeldRound v r b lengths × (range_of lengths v.who.slot.0 ≡ Some (first, past))
IsSlotStart v r None = (b : Body) (lengths : List ℕ) → IsHeldRound v r b lengths → range_of lengths v.who.slot.0 ≡ None

-- why no accusation is made now: no leaf is left, or memory is wanting
abbrev pub IsNotMadeNow : ClientView → AccuseFault → ClientView → Type 0
IsNotMadeNow old refusals.Spent new = (length old.signed_as_slot ≡ leaf_count old.who.slot_key) × (new ≡ old)
IsNotMadeNow old refusals.NoMemory new = IsSpent old new
IsNotMadeNow old _ new = ⊥
