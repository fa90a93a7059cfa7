-- When a client answers a challenge, and with what.
use Rattle.std.specs.Prelude.{◌≡◌, ◌≢◌, ◌<◌, ◌⊎◌, ℕ, Bool, true, false, List, [], ◌∷◌, ◌++◌, map, length, slice_get, slice_index_or, Contains, Some}
use Rattle.dn_wire.specs.declared.ids.ClientId.{ClientId}
use Rattle.dn_wire.specs.declared.ids.Round.{Round}
use Rattle.dn_wire.specs.declared.ids.SignerId.TheVariants.{Client, Server}
use Rattle.dn_bits.specs.Bits.{bit}
use Rattle.dn_bits.specs.XorAll.{xor_all}
use Rattle.dn_pads.specs.Pads.{keystream_bit}
use Rattle.dn_record_types.specs.declared.body.Body.{Body}
use Rattle.dn_record_types.specs.declared.body.Listed.{Listed}
use Rattle.dn_record_types.specs.declared.statement.Statement.{Statement}
use Rattle.dn_record_types.specs.declared.statement.Statement.TheVariants as kinds
use Rattle.dn_layout.specs.Layout.{bits_of}
use Rattle.dn_lms.specs.Key.{leaf_count}
use Rattle.dn_roster.specs.Roster.{RosterView}
use Rattle.dn_seal.specs.Said.{SaidView, Unseals}
use Rattle.dn_seal.specs.Signer.{CanSign}
use Rattle.dn_seal.specs.declared.challenge.Challenge.{Challenge}
use Rattle.dn_cert.specs.Chain.{bodies, Holds}
use Rattle.dn_cert.specs.Evidence.{bit_in, IsRebuttal, IsGood}
use Rattle.dn_client.specs.declared.made.Made.{Made}
use Rattle.dn_client.specs.declared.answering.AnswerFault.{AnswerFault}
use Rattle.dn_client.specs.declared.answering.AnswerFault.TheVariants as refusals
use Rattle.dn_client.specs.Client.{ClientView, Identity, seed_with, sealed_as_client}
use Rattle.dn_client.specs.Accusing.{IsHeldRound}

-- the body has a row of this client
abbrev pub Names : Body → ClientId → Type 0
Names b i = (l : Listed) × Contains b.listed l × (l.client ≡ i)

-- what was said is the pad bits of server j for this round and place
abbrev pub ArePadBits : Round → ℕ → ℕ → SaidView → Type 0
ArePadBits r k j said = (bits : List Bool) × (said.signer ≡ Server record { 0 = j }) × (said.statement ≡ kinds.PadBits r k bits)

-- the pad bits of n servers, in order
pub record AreOpenings (r : Round) (k n : ℕ) (shown : List SaidView) : Type 0 where
  pub count : length shown ≡ n
  pub each : (j : ℕ) (said : SaidView) → slice_get shown j ≡ Some said → ArePadBits r k j said

-- the sum of the bits that are shown of client i
abbrev pub shown_sum : List SaidView → ClientId → Bool
shown_sum shown i = xor_all (map (λ said. bit_in said.statement i) shown)

-- the ciphertext that the client made for a round, or nothing
abbrev pub IsOwnCipher : ClientView → Round → List Bool → Type 0
IsOwnCipher v r cipher =
    ((m : Made) × Contains v.made m × (m.r ≡ r) × (cipher ≡ m.cipher)) ⊎ (((m : Made) → Contains v.made m → m.r ≢ r) × (cipher ≡ []))

-- the client's own bit at a place of a round, and 0 past the end of its ciphertext or without one
abbrev pub IsOwnBit : ClientView → Round → ℕ → Bool → Type 0
IsOwnBit v r k own = (cipher : List Bool) × IsOwnCipher v r cipher × (own ≡ bit cipher k)

-- the challenge shows the pad bits of all servers for a place of a body's round
abbrev pub IsOpened : ClientView → Challenge → List ℕ → Type 0
IsOpened v c lengths = (c.k < bits_of lengths) × AreOpenings c.r c.k (length v.who.seeds) c.shown.items

-- The client is asked for its bit at a place of a round: it holds the round, whose body names it, the place is in the round, and the pad
-- bits of all servers are there.
pub record IsAsked (v : ClientView) (c : Challenge) : Type 0 where
  pub body : Body
  pub lengths : List ℕ
  pub held : IsHeldRound v c.r body lengths
  pub named : Names body v.who.me
  pub opened : IsOpened v c lengths

-- the round is held, and its body names the client, but the place isn't in the round or the pad bits aren't those of all servers
pub record IsMisshapen (v : ClientView) (c : Challenge) : Type 0 where
  pub body : Body
  pub lengths : List ℕ
  pub held : IsHeldRound v c.r body lengths
  pub named : Names body v.who.me
  pub shape : ¬ IsOpened v c lengths

abbrev pub HasAnswered : ClientView → Challenge → Type 0
HasAnswered v c = Contains v.answered (record { r = c.r; k = c.k })

-- what is shown of the client adds up to its own bit, or doesn't
abbrev pub AddsUp : ClientView → Challenge → Type 0
AddsUp v c = IsOwnBit v c.r c.k (shown_sum c.shown.items v.who.me)

abbrev pub Differs : ClientView → Challenge → Type 0
Differs v c = (own : Bool) × IsOwnBit v c.r c.k own × (shown_sum c.shown.items v.who.me ≢ own)

-- what server j shows of client i is the bit of their pad
abbrev pub ShowsTrue : List SaidView → List (List ℕ) → ClientId → Round → ℕ → ℕ → Type 0
ShowsTrue shown seeds i r k j =
    (said : SaidView) → slice_get shown j ≡ Some said → bit_in said.statement i ≡ keystream_bit (slice_index_or seeds j []) r.0 k

-- server j is the first that shows another bit
pub record IsFirstFalse (shown : List SaidView) (seeds : List (List ℕ)) (i : ClientId) (r : Round) (k j : ℕ) : Type 0 where
  pub said : SaidView
  pub there : slice_get shown j ≡ Some said
  pub shows : bit_in said.statement i ≢ keystream_bit (slice_index_or seeds j []) r.0 k
  pub before : (h : ℕ) → h < j → ShowsTrue shown seeds i r k h

-- the client, which hasn't left, is asked for the first time, and what is shown of it doesn't add up to its own bit
pub record IsChallenged (v : ClientView) (c : Challenge) : Type 0 where
  pub left : v.left ≡ false
  pub asked : IsAsked v c
  pub first : ¬ HasAnswered v c
  pub differs : Differs v c

-- each server shows the true bit of the client
abbrev pub AllShowTrue : ClientView → Challenge → Type 0
AllShowTrue v c = (j : ℕ) → ShowsTrue c.shown.items v.who.seeds v.who.me c.r c.k j

-- server j is the first that shows a false bit of it
abbrev pub IsRebuttable : ClientView → Challenge → ℕ → Type 0
IsRebuttable v c j = IsFirstFalse c.shown.items v.who.seeds v.who.me c.r c.k j

-- why the client doesn't answer: the first of these that is so
abbrev pub IsUnanswered : ClientView → Challenge → AnswerFault → Type 0
IsUnanswered v c refusals.Left = v.left ≡ true
IsUnanswered v c (refusals.NoCert r) = (v.left ≡ false) × (r ≡ c.r) × (¬ Holds v.chain c.r.0)
IsUnanswered v c (refusals.NotListed r) =
    (v.left ≡ false) × (r ≡ c.r) × ((b : Body) × Contains (bodies v.chain) b × (b.r ≡ c.r) × (¬ Names b v.who.me))
IsUnanswered v c refusals.Shape = (v.left ≡ false) × IsMisshapen v c
IsUnanswered v c refusals.Answered = (v.left ≡ false) × IsAsked v c × HasAnswered v c
IsUnanswered v c refusals.NotChallenged = (v.left ≡ false) × IsAsked v c × (¬ HasAnswered v c) × AddsUp v c
IsUnanswered v c refusals.AllTrue = IsChallenged v c × AllShowTrue v c
IsUnanswered v c refusals.Spent = IsChallenged v c × ((j : ℕ) × IsRebuttable v c j) × (length v.signed ≡ leaf_count v.who.key)
IsUnanswered v c refusals.NoMemory = Unit {0}

-- the rebuttal against server j, which said this
abbrev pub rebuttal_of : Identity → Challenge → ℕ → SaidView → Statement
rebuttal_of who c j said = kinds.Rebuttal c.r c.k record { 0 = j } (seed_with who j) said.bytes

-- The client rebuts the first server that shows a false bit of it, with their seed and what the server said, signed as the next statement
-- of its key. Nothing else changes.
pub record IsRebutted (old : ClientView) (c : Challenge) (envelope : List ℕ) (new : ClientView) : Type 0 where
  pub challenged : IsChallenged old c
  pub server : ℕ
  pub false_bit : IsRebuttable old c server
  pub leaf : length old.signed < leaf_count old.who.key
  pub fits : CanSign (Client old.who.me) (rebuttal_of old.who c server false_bit.said)
  pub sealed : envelope ≡ sealed_as_client old.who (length old.signed) (rebuttal_of old.who c server false_bit.said)
  pub kept : new ≡ record old {
    answered = old.answered ++ record { r = c.r; k = c.k } ∷ [];
    signed = old.signed ++ rebuttal_of old.who c server false_bit.said ∷ [];
  }

-- under the roster the envelope is that of a good rebuttal of the client
abbrev pub IsGoodRebuttal : RosterView → ClientId → List ℕ → Type 0
IsGoodRebuttal roster i envelope =
    (s : Statement) × IsRebuttal s × Unseals roster envelope (Client i) s × IsGood roster i s

-- the challenge is one to the client, and this is the first server that shows a false bit of it
abbrev pub IsChallengedBy : ClientView → Challenge → ℕ → Type 0
IsChallengedBy v c j = IsChallenged v c × IsRebuttable v c j
