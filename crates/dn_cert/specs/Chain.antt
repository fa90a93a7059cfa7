-- Rounds that hang together by their prev, the layouts after them, and how many clients counted in them.
use Rattle.std.specs.Prelude.{◌≡◌, ◌≢◌, ◌<◌, ◌≤◌, ◌⊎◌, ◌==◌, ℕ, List, [], ◌∷◌, map, length, replicate, All, Contains, nat_lt, if◌then◌else◌}
use Rattle.std.specs.List.Sorted.{IsStrictlyIncreasing}
use Rattle.dn_record_types.specs.declared.body.Body.{Body}
use Rattle.dn_layout.specs.Layout.{bits_of, next_of}
use Rattle.dn_cert.specs.Certificate.{CertificateView, IsCertificate}
use Rattle.dn_cert.specs.Floor.{is_due_thin}
use Rattle.dn_cert.specs.declared.hold_fault.HoldFault.{HoldFault}
use Rattle.dn_cert.specs.declared.hold_fault.HoldFault.TheVariants.{Known, NoPrev, Floor, Length, NoMemory}

-- the number of slots, and the bodies held, in order of their rounds
pub record ChainView : Type 0 where
  pub slots : ℕ
  pub held : List Body

abbrev pub bodies : ChainView → List Body
bodies chain = chain.held

-- a body of round r is held
abbrev pub Holds : ChainView → ℕ → Type 0
Holds chain r = (b : Body) × Contains (bodies chain) b × (b.r.0 ≡ r)

-- how many bits the output of a body has that comes after this layout: as many as the layout, and none where the body is thin
abbrev pub bits_due : List ℕ → Body → ℕ
bits_due before b = if b.thin then 0 else bits_of before

-- the layout after a body that comes after this one: the next one under the body's output, and this one where the body is thin
abbrev pub layout_after : List ℕ → Body → List ℕ
layout_after before b = if b.thin then before else next_of before b.out

-- The layout after a round: after round 0 all slots are closed; after a round that has a body, it is the layout after that body, which
-- comes after the layout after the body's prev.
pub data LayoutAfter (slots : ℕ) (bodies : List Body) : ℕ → List ℕ → Type 0 where
  at_first : {r : ℕ} {lengths : List ℕ} → r ≡ 0 → lengths ≡ replicate slots 0 → LayoutAfter slots bodies r lengths
  after_prev : {r : ℕ} {lengths : List ℕ} (b : Body) (before : List ℕ) → Contains bodies b → b.r.0 ≡ r
      → LayoutAfter slots bodies b.prev.0 before → lengths ≡ layout_after before b → LayoutAfter slots bodies r lengths

-- the layout after a round of a chain
abbrev pub IsLayoutAfter : ChainView → ℕ → List ℕ → Type 0
IsLayoutAfter chain r lengths = LayoutAfter chain.slots (bodies chain) r lengths

-- how many clients the body of a round lists, and 0 where there is no such body
abbrev pub count_in : List Body → ℕ → ℕ
count_in [] r = 0
count_in (b ∷ bs) r = if b.r.0 == r then length b.listed else count_in bs r

-- how many clients counted in a round of a chain, and 0 for round 0 and where the round isn't held
abbrev pub count_at : ChainView → ℕ → ℕ
count_at chain r = count_in (bodies chain) r

-- the body is thin exactly where the floor says so of the clients that it lists and those that counted in the round of its prev
abbrev pub IsAtFloor : ChainView → Body → Type 0
IsAtFloor chain b = b.thin ≡ is_due_thin b.version (length b.listed) (count_at chain b.prev.0)

-- The body can follow: its round isn't held, its prev is, or is 0, it is thin exactly where the floor says so, and its output is as long as
-- is due after prev.
pub record CanFollow (chain : ChainView) (b : Body) : Type 0 where
  pub new : ¬ Holds chain b.r.0
  pub layout : List ℕ
  pub after : IsLayoutAfter chain b.prev.0 layout
  pub floor : IsAtFloor chain b
  pub long : length b.out ≡ bits_due layout b

-- a round of the chain: 0, or one that is held
abbrev pub IsRound : ChainView → ℕ → Type 0
IsRound chain r = (layout : List ℕ) × IsLayoutAfter chain r layout

-- Why a body can't follow: the first of these that is so.
abbrev pub IsHoldRefused : ChainView → Body → HoldFault → Type 0
IsHoldRefused chain b (Known r) = (r ≡ b.r) × Holds chain b.r.0
IsHoldRefused chain b (NoPrev prev) = (prev ≡ b.prev) × (¬ Holds chain b.r.0) × (b.prev.0 ≢ 0) × (¬ Holds chain b.prev.0)
IsHoldRefused chain b (Floor count last) =
    (count ≡ length b.listed) × (last ≡ count_at chain b.prev.0)
    × (¬ Holds chain b.r.0) × IsRound chain b.prev.0 × (¬ IsAtFloor chain b)
IsHoldRefused chain b (Length have need) =
    (¬ Holds chain b.r.0) × ((layout : List ℕ) × IsLayoutAfter chain b.prev.0 layout × (need ≡ bits_due layout b))
    × IsAtFloor chain b × (have ≡ length b.out) × (have ≢ need)
IsHoldRefused chain b NoMemory = Unit {0}

-- the bodies with one more, in order of their rounds
abbrev pub with_held : Body → List Body → List Body
with_held b [] = b ∷ []
with_held b (d ∷ ds) = if nat_lt d.r.0 b.r.0 then d ∷ with_held b ds else b ∷ d ∷ ds

-- the body is that of a certificate
abbrev pub HasCertificate : Body → Type 0
HasCertificate b = (c : CertificateView) × IsCertificate c × (c.body ≡ b)

-- what a chain keeps: bodies of certificates, one a round, each after its prev
pub record IsChain (chain : ChainView) : Type 0 where
  pub slots : (1 ≤ chain.slots) × (chain.slots ≤ 512)
  pub certified : All HasCertificate (bodies chain)
  pub ascends : IsStrictlyIncreasing (map (λ b. b.r.0) (bodies chain))
  pub before : All (λ b. b.prev.0 < b.r.0) (bodies chain)
  pub floor : (b : Body) → Contains (bodies chain) b → IsAtFloor chain b
  pub long : (b : Body) → Contains (bodies chain) b → (lengths : List ℕ) × IsLayoutAfter chain b.prev.0 lengths × (length b.out ≡ bits_due lengths b)

-- the greatest round held below r, or 0 where none is
pub record IsLatestBelow (chain : ChainView) (r latest : ℕ) : Type 0 where
  pub held : (latest ≡ 0) ⊎ (Holds chain latest × (latest < r))
  pub greatest : (q : ℕ) → Holds chain q → q < r → q ≤ latest

-- the bodies of two chains are one where their rounds are
abbrev pub Agree : ChainView → ChainView → Type 0
Agree chain other = (b c : Body) → Contains (bodies chain) b → Contains (bodies other) c → b.r ≡ c.r → b ≡ c
