-- What `hold` does, and when it refuses.
use Rattle.std.specs.Prelude.{◌≡◌, ◌<◌, ◌≤◌, ◌+◌, ◌⊎◌, ℕ, Bool, true, false, List, map, length, Contains, Some}
use Rattle.std.specs.List.Sorted.{IsStrictlyIncreasing}
use Rattle.dn_wire.specs.declared.ids.ClientId.{ClientId}
use Rattle.dn_bits.specs.Bits.{bit}
use Rattle.dn_record_types.specs.declared.body.Body.{Body}
use Rattle.dn_record_types.specs.declared.body.Listed.{Listed}
use Rattle.dn_cert.specs.Certificate.{CertificateView}
use Rattle.dn_cert.specs.Chain.{ChainView, CanFollow, IsHoldRefused, with_held}
use Rattle.dn_cert.specs.declared.hold_fault.HoldFault.{HoldFault as ChainFault}
use Rattle.dn_cert.specs.declared.hold_fault.HoldFault.TheVariants as faults
use Rattle.dn_client.specs.declared.made.Made.{Made}
use Rattle.dn_client.specs.declared.holding.HoldFault.{HoldFault}
use Rattle.dn_client.specs.declared.holding.HoldFault.TheVariants as refusals
use Rattle.dn_client.specs.Client.{ClientView}

-- the rows ascend by their clients
abbrev pub Ascends : List Listed → Type 0
Ascends rows = IsStrictlyIncreasing (map (λ l. l.client.0) rows)

-- the body lists the client with this digest
abbrev pub Lists : Body → ClientId → List ℕ → Type 0
Lists b i digest = (l : Listed) × Contains b.listed l × (l.client ≡ i) × (l.digest ≡ digest)

-- an output has the block of what was made, in the range of its slot
pub record HasBlock (m : Made) (out : List Bool) : Type 0 where
  pub first : ℕ
  pub past : ℕ
  pub range : m.range ≡ Some (first, past)
  pub long : past ≤ length out
  pub block : (k : ℕ) → first ≤ k → k < past → bit out k ≡ bit m.plain k

-- a body brings out the text at this place of a queue that was carried there: the body lists the client's digest, and its output has the block
pub record IsBroughtOut (m : Made) (place : ℕ) (i : ClientId) (b : Body) : Type 0 where
  pub carried : m.carried ≡ Some place
  pub listed : Lists b i m.digest
  pub block : HasBlock m b.out

-- the body brings out the text at the head of the client's queue, which what the client made for its round carries
abbrev pub BringsOut : ClientView → Body → Type 0
BringsOut v b = (m : Made) × Contains v.made m × (m.r ≡ b.r) × IsBroughtOut m v.head v.who.me b

-- the head of the queue when the body is held: the next text where the body brings out the one there, and else as it was
abbrev pub IsNextHead : ClientView → Body → ℕ → Type 0
IsNextHead v b head = (BringsOut v b × (head ≡ v.head + 1)) ⊎ ((¬ BringsOut v b) × (head ≡ v.head))

-- the certificate is held, and the head may move on; nothing else changes
pub record IsHeld (old : ClientView) (c : CertificateView) (new : ClientView) : Type 0 where
  pub left : old.left ≡ false
  pub follows : CanFollow old.chain c.body
  pub head : ℕ
  pub moved : IsNextHead old c.body head
  pub kept : new ≡ record old { chain = record old.chain { held = with_held c.body old.chain.held }; head = head }

-- a chain's fault as a client's
abbrev pub fault_of : ChainFault → HoldFault
fault_of (faults.Known r) = refusals.Known r
fault_of (faults.NoPrev prev) = refusals.NoPrev prev
fault_of (faults.Floor count last) = refusals.Floor count last
fault_of (faults.Length have need) = refusals.Length have need
fault_of faults.NoMemory = refusals.NoMemory

-- why a chain doesn't hold a certificate with this body, as a client's fault
abbrev pub IsRefusedBy : ChainView → Body → HoldFault → Type 0
IsRefusedBy chain b refusals.Left = ⊥
IsRefusedBy chain b (refusals.Known r) = IsHoldRefused chain b (faults.Known r)
IsRefusedBy chain b (refusals.NoPrev prev) = IsHoldRefused chain b (faults.NoPrev prev)
IsRefusedBy chain b (refusals.Floor count last) = IsHoldRefused chain b (faults.Floor count last)
IsRefusedBy chain b (refusals.Length have need) = IsHoldRefused chain b (faults.Length have need)
IsRefusedBy chain b refusals.NoMemory = Unit {0}

-- why a client doesn't hold it: the first of these that is so
abbrev pub IsNotHeld : ClientView → Body → HoldFault → Type 0
IsNotHeld v b refusals.Left = v.left ≡ true
IsNotHeld v b (refusals.Known r) = (v.left ≡ false) × IsRefusedBy v.chain b (refusals.Known r)
IsNotHeld v b (refusals.NoPrev prev) = (v.left ≡ false) × IsRefusedBy v.chain b (refusals.NoPrev prev)
IsNotHeld v b (refusals.Floor count last) = (v.left ≡ false) × IsRefusedBy v.chain b (refusals.Floor count last)
IsNotHeld v b (refusals.Length have need) = (v.left ≡ false) × IsRefusedBy v.chain b (refusals.Length have need)
IsNotHeld v b refusals.NoMemory = Unit {0}
