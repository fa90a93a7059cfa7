-- What holds of each run: the product's main promises. All but the last hold where the run's audit is clean.
use Rattle.std.specs.Prelude.{◌≡◌, ℕ, ◌<◌, true, false, Contains}
use Rattle.dn_wire.specs.declared.ids.ClientId.{ClientId}
use Rattle.dn_wire.specs.declared.ids.ServerId.{ServerId}
use Rattle.dn_wire.specs.declared.ids.Round.{Round}
use Rattle.dn_wire.specs.declared.ids.Member.{Member}
use Rattle.dn_told.specs.declared.told.WindowTold.TheVariants.{Included}
use Rattle.dn_bits.specs.Bits.{xor_bits, zeros, bit}
use Rattle.dn_record_types.specs.declared.body.Body.{Body}
use Rattle.dn_record_types.specs.declared.body.Listed.{Listed}
use Rattle.dn_report.specs.declared.event.Event.TheVariants as events
use Rattle.dn_report.specs.declared.outcome.Outcome.TheVariants as outcomes
use Rattle.dn_report.specs.declared.words.BlameWord.{BlameWord}
use Rattle.dn_report.specs.declared.words.IgnoredWord.TheVariants as ignored
use Rattle.dn_headline.specs.Group.{IsServer, IsHonestServer, IsHonestClient, is_corrupt}
use Rattle.dn_headline.specs.Log.{Step}
use Rattle.dn_headline.specs.Run.{RunView, PlainMade, Happened}
use Rattle.dn_cert.specs.Chain.{ChainView, bodies}
use Rattle.dn_headline.specs.Certified.{IsCertified, IsRunChain, entries_of, HasLength, HasOutput}
use Rattle.dn_headline.specs.Plains.{IsMadeFor}
use Rattle.dn_headline.specs.Strings.{Behind, contribution, contributions, deviation, corrupt_deviations}
use Rattle.dn_headline.specs.Submissions.{WasTold, IsOnlyLate}
use Rattle.dn_headline.specs.Delivered.{IsFullyDelivered, HasCertificate}

-- two certificates of one round have one body
abbrev pub OneBodyPerRound : RunView → Type 0
OneBodyPerRound w = (b c : Body) → IsCertified w b → IsCertified w c → b.r ≡ c.r → b ≡ c

-- a client told Included by an honest server counts exactly once if its round is certified
abbrev pub IncludedCountOnce : RunView → Type 0
IncludedCountOnce w = (i : ClientId) (j : ServerId) (b : Body) → IsHonestServer w.group j → WasTold w j i b.r Included
    → IsCertified w b → entries_of b i ≡ 1

-- a client told only Late doesn't count
abbrev pub LateNeverCount : RunView → Type 0
LateNeverCount w = (i : ClientId) (b : Body) → IsOnlyLate w i b.r → IsCertified w b → entries_of b i ≡ 0

-- each certified body has a length, and one
abbrev pub LengthsAreSound : RunView → Type 0
LengthsAreSound w = (b : Body) → IsCertified w b
    → ((n : ℕ) × HasLength w b n) × ((n m : ℕ) → HasLength w b n → HasLength w b m → n ≡ m)

-- the run's chain holds each certified body
abbrev pub CertifiedAreInChain : RunView → Type 0
CertifiedAreInChain w = (chain : ChainView) (b : Body) → IsRunChain w chain → IsCertified w b → Contains (bodies chain) b

-- a certified output is the XOR of the counted contributions and the corrupt servers' deviations
abbrev pub OutputIsTheirs : RunView → Type 0
OutputIsTheirs w = (b : Body) (n : ℕ) (x : Behind w b n) → HasOutput w b n
    → b.out ≡ xor_bits (contributions w.group b n x.cipher) (corrupt_deviations w.group b n x.cipher x.sum)

-- an honest server's deviation is zeros
abbrev pub HonestServersAddNothing : RunView → Type 0
HonestServersAddNothing w = (b : Body) (n : ℕ) (x : Behind w b n) (j : ServerId) → HasOutput w b n → IsHonestServer w.group j
    → deviation w.group b n x.cipher x.sum j.0 ≡ zeros n

-- an honest listed client's contribution is the plain text that it made for the round, by the client rule
abbrev pub HonestClientsAddTheirText : RunView → Type 0
HonestClientsAddTheirText w = (b : Body) (n : ℕ) (x : Behind w b n) (l : Listed) → HasOutput w b n → Contains b.listed l → IsHonestClient w.group l.client
    → (m : PlainMade) × IsMadeFor w b l.client m × (contribution w.group b n x.cipher l.client.0 ≡ m.plain)

-- at place k the contributions of all other listed clients, and the deviations of all servers, are 0
pub record IsAlone (w : RunView) (b : Body) (n : ℕ) (x : Behind w b n) (l : Listed) (k : ℕ) : Type 0 where
  pub clients : (o : Listed) → Contains b.listed o → ¬ (o.client ≡ l.client) → bit (contribution w.group b n x.cipher o.client.0) k ≡ false
  pub servers : (j : ServerId) → IsServer w.group j → bit (deviation w.group b n x.cipher x.sum j.0) k ≡ false

-- where an honest listed client is alone at a place, the output has the bit of its plain text there; so its block stands where it is alone in its slot
abbrev pub BlocksStand : RunView → Type 0
BlocksStand w = (b : Body) (n : ℕ) (x : Behind w b n) (l : Listed) (k : ℕ) → HasOutput w b n → Contains b.listed l → IsHonestClient w.group l.client
    → k < n → IsAlone w b n x l k → (m : PlainMade) × IsMadeFor w b l.client m × (bit b.out k ≡ bit m.plain k)

-- a fully delivered honest round is certified: each server holds a certificate of it
abbrev pub DeliveredAreCertified : RunView → Type 0
DeliveredAreCertified w = (r : Round) (j : ServerId) → IsFullyDelivered w r → IsServer w.group j → HasCertificate w j r

-- no honest member is blamed
abbrev pub OnlyCorruptAreBlamed : RunView → Type 0
OnlyCorruptAreBlamed w = (m : Member) (reason : BlameWord) → Happened w (outcomes.Blame m reason) → is_corrupt w.group m ≡ true

-- a verdict that names nobody as silent blames somebody
abbrev pub AnsweredBlameSomebody : RunView → Type 0
AnsweredBlameSomebody w = (s : Step) (r : Round) (k : ℕ) → Contains w.history s → s.event ≡ events.Judge r k
    → ¬ Contains s.outcomes (outcomes.Ignored ignored.None) → ((m : Member) → ¬ Contains s.outcomes (outcomes.Silent m))
    → (m : Member) × (reason : BlameWord) × Contains s.outcomes (outcomes.Blame m reason)
