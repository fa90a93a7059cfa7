-- What each step of a run keeps: what is said of the run, and what the cores of its honest members know.
use Rattle.std.specs.Prelude.{◌≡◌, ◌≢◌, ◌↔◌, ◌⊎◌, ℕ, ◌<◌, Bool, true, false, List, [], ◌∷◌, length, map, All, Contains, slice_get, Some}
use Rattle.dn_wire.specs.declared.ids.ClientId.{ClientId}
use Rattle.dn_wire.specs.declared.ids.ServerId.{ServerId}
use Rattle.dn_wire.specs.declared.ids.SlotId.{SlotId}
use Rattle.dn_wire.specs.declared.ids.Round.{Round}
use Rattle.dn_wire.specs.declared.ids.Member.{Member}
use Rattle.dn_wire.specs.declared.ids.Member.TheVariants as members
use Rattle.dn_wire.specs.declared.ids.SignerId.{SignerId}
use Rattle.dn_wire.specs.declared.ids.SignerId.TheVariants.{Client, Server, Slot}
use Rattle.dn_told.specs.declared.told.WindowTold.{WindowTold}
use Rattle.dn_told.specs.declared.told.WindowTold.TheVariants as tolds
use Rattle.dn_bits.specs.Bits.{bit, bytes_of, xor_bits, below}
use Rattle.dn_hash.specs.Digests.{seed_commitment_of, cipher_digest_of, server_digest_of}
use Rattle.dn_pads.specs.Pads.{keystream_bit}
use Rattle.dn_record_types.specs.declared.body.Body.{Body}
use Rattle.dn_record_types.specs.declared.body.Listed.{Listed}
use Rattle.dn_record_types.specs.declared.inventory.Entry.{Entry}
use Rattle.dn_record_types.specs.declared.inventory.Inventory.{Inventory}
use Rattle.dn_record_types.specs.declared.shown.ShownCipher.{ShownCipher}
use Rattle.dn_record_types.specs.declared.statement.Statement.{Statement}
use Rattle.dn_record_types.specs.declared.statement.Statement.TheVariants as kinds
use Rattle.dn_record_types.specs.declared.statement.WordTold.{WordTold}
use Rattle.dn_record_types.specs.declared.statement.WordTold.TheVariants as words
use Rattle.dn_record_types.specs.Place.{Place, place_of}
use Rattle.dn_layout.specs.Layout.{bits_of}
use Rattle.dn_roster.specs.Roster.{commitment_of}
use Rattle.dn_seal.specs.Said.{Unseals}
use Rattle.dn_cert.specs.Signed.{EntryVerifies}
use Rattle.dn_cert.specs.Trim.{Names, IsTrim, given_to}
use Rattle.dn_cert.specs.Chain.{ChainView, bodies, Holds, IsLayoutAfter, count_at}
use Rattle.dn_cert.specs.Evidence.{shown_bit}
use Rattle.dn_cert.specs.Floor.{is_due_thin}
use Rattle.dn_server.specs.Justified.{Seat, Course, Justified, AreInventories, AreOfRows, server_string, digest_by}
use Rattle.dn_report.specs.declared.event.Event.TheVariants as events
use Rattle.dn_report.specs.declared.outcome.Outcome.TheVariants as outcomes
use Rattle.dn_report.specs.declared.words.BlameWord.{BlameWord}
use Rattle.dn_report.specs.declared.words.IgnoredWord.TheVariants as ignored
use Rattle.dn_report.specs.declared.words.SpoilWord.{SpoilWord}
use Rattle.dn_headline.specs.Group.{GroupView, IsServer, clients_of, servers_of, seed_of, pads_of_client, IsHonestServer, IsHonestClient}
use Rattle.dn_headline.specs.Log.{Step, Put, Message, message_of}
use Rattle.dn_headline.specs.Run.{RunView, PlainMade, log, Happened}
use Rattle.dn_headline.specs.Spoken.{Says, WasSaid, WasSubmitted, HadSigned, Signed}
use Rattle.dn_headline.specs.Certified.{IsCertified, IsCertifiedAt}
use Rattle.dn_headline.specs.Submissions.{WasTold}
use Rattle.dn_headline.specs.Plains.{PlainsKeepRules}
use Rattle.dn_headline.specs.Delivered.{IsPhaseOf, HasCertificate}
use Rattle.dn_headline.specs.Verdict.{IsVerdictOf}

-- a statement that a core keeps, with its signer
pub record Kept : Type 0 where
  pub by : SignerId
  pub statement : Statement

-- what an honest server's core knows: the certificates that it holds, the round that it opened last, whether that runs, what it keeps of
-- this round's inventories, commitments, ciphertexts and signed bodies, and all that it signed
pub record ServerFacts : Type 0 where
  pub chain : ChainView
  pub last : ℕ
  pub runs : Bool
  pub kept : List Kept
  pub signed : List Statement

-- what an honest client's core knows: the certificates that it holds, and all that it signed by its own key and by its slot's
pub record ClientFacts : Type 0 where
  pub chain : ChainView
  pub signed : List Statement
  pub accused : List Statement

pub record Facts : Type 0 where
  pub server : ServerId → ServerFacts
  pub client : ClientId → ClientFacts

-- a server's seat in the group
abbrev pub seat_of : GroupView → ServerId → Seat
seat_of g j = record { roster = g.roster; number = j.0; seeds = map (λ i. seed_of g i j.0) (below (clients_of g)) }

-- the course of a body's round, where it has n bits
abbrev pub course_of : Body → ℕ → Course
course_of b n = record { r = b.r; prev = b.prev; bits = n }

-- server j told the submission's client Included, and the submission was put with this ciphertext
abbrev pub WasIncluded : RunView → ServerId → Statement → List Bool → Type 0
WasIncluded w j (kinds.Submission r prev i digest) cipher = WasTold w j i r tolds.Included × WasSubmitted w (Client i) (kinds.Submission r prev i digest) cipher
WasIncluded w j _ cipher = ⊥

-- the body is justified at server j by what was said in the run
abbrev pub IsJustified : RunView → Facts → ServerId → Body → Type 0
IsJustified w f j b = Justified (WasSaid w) (WasIncluded w j) (seat_of w.group j) (f.server j).chain b

-- ---- what was signed, kept and held is in the run

abbrev pub Signs : Facts → ServerId → Statement → Type 0
Signs f j s = Contains (f.server j).signed s

abbrev pub ClientSigns : Facts → ClientId → Statement → Type 0
ClientSigns f i s = Contains (f.client i).signed s

-- What the core of an honest member put with a statement in front, this member signed; and what an honest server signed was said. (A statement
-- that goes to nobody, and whose bytes somebody else had put before, leaves no trace of its signer among the outcomes.)
pub record PutIsSigned (w : RunView) (f : Facts) : Type 0 where
  pub servers : (j : ServerId) (s : Statement) → IsHonestServer w.group j → Signed w (Server j) s → Signs f j s
  pub clients : (i : ClientId) (s : Statement) → IsHonestClient w.group i → Signed w (Client i) s → ClientSigns f i s
  pub slots : (i : ClientId) (slot : SlotId) (s : Statement) → IsHonestClient w.group i → slice_get w.group.owners slot.0 ≡ Some i
      → Signed w (Slot slot) s → Contains (f.client i).accused s
  pub said : (j : ServerId) (s : Statement) → IsHonestServer w.group j → Signs f j s → WasSaid w (Server j) s

abbrev pub Keeps : Facts → ServerId → ServerId → Statement → Type 0
Keeps f j x s = (k : Kept) × Contains (f.server j).kept k × (k.by ≡ Server x) × (k.statement ≡ s)

-- what a server keeps was said
abbrev pub KeptIsSaid : RunView → Facts → Type 0
KeptIsSaid w f = (j x : ServerId) (s : Statement) → IsHonestServer w.group j → Keeps f j x s → WasSaid w (Server x) s

-- bodies of one round that a chain holds are one
abbrev pub HoldsOneEach : ChainView → Type 0
HoldsOneEach chain = (b c : Body) → Contains (bodies chain) b → Contains (bodies chain) c → b.r.0 ≡ c.r.0 → b ≡ c

-- the chain is for the group's clients, a certificate of each body that it holds was put, and it holds one a round
pub record IsHeldChain (w : RunView) (chain : ChainView) : Type 0 where
  pub slots : chain.slots ≡ clients_of w.group
  pub certified : All (IsCertified w) (bodies chain)
  pub one_each : HoldsOneEach chain

pub record HeldIsPut (w : RunView) (f : Facts) : Type 0 where
  pub servers : (j : ServerId) → IsHonestServer w.group j → IsHeldChain w (f.server j).chain
  pub clients : (i : ClientId) → IsHonestClient w.group i → IsHeldChain w (f.client i).chain

-- ---- what honest servers sign

-- two statements for one place are one
abbrev pub OnePerPlace : (Statement → Type 0) → Type 0
OnePerPlace Made = (place : Place) (s t : Statement) → Made s → Made t → place_of s ≡ Some place → place_of t ≡ Some place → s ≡ t

-- what a server told of submissions: once for each client and round, but for Repeat
abbrev pub ToldOnce : RunView → Type 0
ToldOnce w = (j : ServerId) (i : ClientId) (r : Round) (told again : WindowTold) → IsHonestServer w.group j → WasTold w j i r told → WasTold w j i r again
    → told ≢ tolds.Repeat → again ≢ tolds.Repeat → told ≡ again

abbrev pub word_of : WordTold → WindowTold
word_of words.Included = tolds.Included
word_of words.Late = tolds.Late

-- a receipt is of what was told, with the digest of the submission
pub record FitsReceipt (w : RunView) (j : ServerId) (r : Round) (i : ClientId) (digest : List ℕ) (word : WordTold) : Type 0 where
  pub told : WasTold w j i r (word_of word)
  pub prev : Round
  pub cipher : List Bool
  pub submitted : WasSubmitted w (Client i) (kinds.Submission r prev i digest) cipher

-- An inventory is of the round's prev as it was opened; it names exactly the clients told Included; and each of its entries verifies and
-- is that of the submission which the client was told of.
pub record FitsInventory (w : RunView) (f : Facts) (j : ServerId) (v : Inventory) : Type 0 where
  pub opened : Happened w (outcomes.Opened j v.r v.prev)
  pub included : (i : ClientId) → WasTold w j i v.r tolds.Included ↔ Names v i
  pub verify : All (EntryVerifies w.group.roster v.r v.prev) v.entries
  pub receipts : (e : Entry) → Contains v.entries e → Signs f j (kinds.Receipt v.r e.client e.digest words.Included)

-- the server heard all inventories of a round, and by the floor their trim is of a round with data
pub record IsFull (w : RunView) (f : Facts) (j : ServerId) (r : Round) : Type 0 where
  pub prev : Round
  pub opened : Happened w (outcomes.Opened j r prev)
  pub layout : List ℕ
  pub after : IsLayoutAfter (f.server j).chain prev.0 layout
  pub inventories : List Inventory
  pub listed : List Listed
  pub heard : AreInventories (WasSaid w) (seat_of w.group j) (record { r = r; prev = prev; bits = bits_of layout }) inventories
  pub trim : IsTrim inventories listed
  pub full : is_due_thin w.group.roster.version (length listed) (count_at (f.server j).chain prev.0) ≡ false

-- A server ciphertext is committed to, was made, and is as long as the round.
pub record FitsReveal (w : RunView) (f : Facts) (j : ServerId) (r : Round) (sum : List Bool) : Type 0 where
  pub committed : Signs f j (kinds.Commit r (server_digest_of r.0 j.0 (bytes_of sum)))
  pub made : Contains w.sums (record { server = j; r = r; sum = sum })
  pub prev : Round
  pub opened : Happened w (outcomes.Opened j r prev)
  pub layout : List ℕ
  pub after : IsLayoutAfter (f.server j).chain prev.0 layout
  pub long : length sum ≡ bits_of layout

-- the server holds a body of round r that it signed and that has an output
pub record HasSignedBody (w : RunView) (f : Facts) (j : ServerId) (r : Round) : Type 0 where
  pub body : Body
  pub held : Contains (bodies (f.server j).chain) body
  pub round : body.r ≡ r
  pub signed : Signs f j (kinds.Sign body)
  pub full : body.thin ≡ false

-- pad bits are the server's true pad bits of the clients that the body lists, and 0 of others
pub record FitsPadBits (w : RunView) (f : Facts) (j : ServerId) (r : Round) (k : ℕ) (bits : List Bool) : Type 0 where
  pub of : HasSignedBody w f j r
  pub within : k < length of.body.out
  pub each : length bits ≡ clients_of w.group
  pub listed : (l : Listed) → Contains of.body.listed l → bit bits l.client.0 ≡ keystream_bit (seed_of w.group l.client.0 j.0) r.0 k
  pub others : (i : ClientId) → ((l : Listed) → Contains of.body.listed l → ¬ (l.client ≡ i)) → bit bits i.0 ≡ false

-- what is shown is the ciphertext behind the body's digest, with the ciphertexts of the clients that the body gives to the server
pub record FitsShown (w : RunView) (f : Facts) (j : ServerId) (r : Round) (sum : List Bool) (ciphers : List ShownCipher) : Type 0 where
  pub of : HasSignedBody w f j r
  pub layout : List ℕ
  pub after : IsLayoutAfter (f.server j).chain of.body.prev.0 layout
  pub rows : AreOfRows (course_of of.body (bits_of layout)) (given_to of.body.listed j.0) ciphers
  pub itself : sum ≡ server_string (seat_of w.group j) (course_of of.body (bits_of layout)) of.body.listed ciphers
  pub digest : slice_get of.body.digests j.0 ≡ Some (digest_by (course_of of.body (bits_of layout)) j.0 sum)

-- each statement that server j signed is of a server's kinds, and fits what the run knows
abbrev pub FitsServer : RunView → Facts → ServerId → Statement → Type 0
FitsServer w f j (kinds.Submission r prev i digest) = ⊥
FitsServer w f j (kinds.Receipt r i digest word) = FitsReceipt w j r i digest word
FitsServer w f j (kinds.Inventory v) = FitsInventory w f j v
FitsServer w f j (kinds.Commit r digest) = IsFull w f j r
FitsServer w f j (kinds.Reveal r sum) = FitsReveal w f j r sum
FitsServer w f j (kinds.Sign b) = IsJustified w f j b
FitsServer w f j (kinds.PadBits r k bits) = FitsPadBits w f j r k bits
FitsServer w f j (kinds.Shown r sum ciphers) = FitsShown w f j r sum ciphers
FitsServer w f j (kinds.Accusation r s k) = ⊥
FitsServer w f j (kinds.Rebuttal r k x seed envelope) = ⊥
FitsServer w f j (kinds.Concede r k) = ⊥

pub record ServersKeepRules (w : RunView) (f : Facts) : Type 0 where
  pub one_each : (j : ServerId) → IsHonestServer w.group j → OnePerPlace (Signs f j)
  pub fit : (j : ServerId) (s : Statement) → IsHonestServer w.group j → Signs f j s → FitsServer w f j s
  pub told_once : ToldOnce w

-- ---- what honest clients sign

-- A submission has the digest of a ciphertext as long as the round after a prev that the client holds, made of its plain text and its pads.
pub record FitsSubmission (w : RunView) (f : Facts) (i : ClientId) (r prev : Round) (client : ClientId) (digest : List ℕ) : Type 0 where
  pub itself : client ≡ i
  pub made : PlainMade
  pub of_run : Contains w.plains made
  pub is : (made.client ≡ i) × (made.r ≡ r) × (made.prev ≡ prev)
  pub layout : List ℕ
  pub after : IsLayoutAfter (f.client i).chain prev.0 layout
  pub long : length made.plain ≡ bits_of layout
  pub hashed : digest ≡ cipher_digest_of r.0 i.0 (bytes_of (xor_bits made.plain (pads_of_client w.group i.0 r.0 (bits_of layout))))
  pub submitted : WasSubmitted w (Client i) (kinds.Submission r prev i digest) (xor_bits made.plain (pads_of_client w.group i.0 r.0 (bits_of layout)))

-- A rebuttal reveals the seed that was dealt, and carries pad bits of the server whose bit for the client is false.
pub record FitsRebuttal (w : RunView) (i : ClientId) (r : Round) (k : ℕ) (x : ServerId) (seed envelope : List ℕ) : Type 0 where
  pub seed_is : seed ≡ seed_of w.group i.0 x.0
  pub server : x.0 < servers_of w.group
  pub bits : List Bool
  pub unseals : Unseals w.group.roster envelope (Server x) (kinds.PadBits r k bits)
  pub differs : keystream_bit seed r.0 k ≢ shown_bit bits i

-- a client signs submissions and rebuttals alone
abbrev pub FitsClient : RunView → Facts → ClientId → Statement → Type 0
FitsClient w f i (kinds.Submission r prev client digest) = FitsSubmission w f i r prev client digest
FitsClient w f i (kinds.Rebuttal r k x seed envelope) = FitsRebuttal w i r k x seed envelope
FitsClient w f i _ = ⊥

pub record ClientsKeepRules (w : RunView) (f : Facts) : Type 0 where
  pub one_each : (i : ClientId) (r p q : Round) (k l : ClientId) (d e : List ℕ) → IsHonestClient w.group i → ClientSigns f i (kinds.Submission r p k d)
      → ClientSigns f i (kinds.Submission r q l e) → kinds.Submission r p k d ≡ kinds.Submission r q l e
  pub fit : (i : ClientId) (s : Statement) → IsHonestClient w.group i → ClientSigns f i s → FitsClient w f i s

-- ---- rounds

-- Why a server gave a round up: what was said that can't be so beside what the server knows, or what was said under its own number before it
-- had signed it.
pub data SpoilCause (w : RunView) (f : Facts) (j : ServerId) (r : Round) (x : ServerId) : Type 0 where
  by_twice : (place : Place) (s t : Statement) → WasSaid w (Server x) s → WasSaid w (Server x) t → place_of s ≡ Some place → place_of t ≡ Some place
      → s ≢ t → SpoilCause w f j r x
  by_prev : (v : Inventory) (p : Round) → WasSaid w (Server x) (kinds.Inventory v) → v.r ≡ r → Happened w (outcomes.Opened j r p) → v.prev ≢ p → SpoilCause w f j r x
  by_entry : (v : Inventory) → WasSaid w (Server x) (kinds.Inventory v) → ¬ All (EntryVerifies w.group.roster v.r v.prev) v.entries → SpoilCause w f j r x
  by_length : (sum : List Bool) (p : Round) (layout : List ℕ) → WasSaid w (Server x) (kinds.Reveal r sum) → Happened w (outcomes.Opened j r p)
      → IsLayoutAfter (f.server j).chain p.0 layout → length sum ≢ bits_of layout → SpoilCause w f j r x
  by_commit : (sum : List Bool) (digest : List ℕ) → WasSaid w (Server x) (kinds.Reveal r sum) → WasSaid w (Server x) (kinds.Commit r digest)
      → server_digest_of r.0 x.0 (bytes_of sum) ≢ digest → SpoilCause w f j r x
  by_forgery : (n : ℕ) (put : Put) (s : Statement) → x ≡ j → slice_get (log w).puts n ≡ Some put → Says w.group.roster put.bytes (Server j) s
      → ¬ HadSigned w n (Server j) s → SpoilCause w f j r x
  by_body : (own other : Body) → own.r ≡ r → other.r ≡ r → IsJustified w f j own → WasSaid w (Server x) (kinds.Sign other) → other ≢ own → SpoilCause w f j r x

-- the server runs the round
pub record Runs (f : Facts) (j : ServerId) (r : Round) : Type 0 where
  pub last : (f.server j).last ≡ r.0
  pub runs : (f.server j).runs ≡ true

-- what became of a round that a server opened
pub data EndOf (w : RunView) (f : Facts) (j : ServerId) (r : Round) : Type 0 where
  certified : HasCertificate w j r → EndOf w f j r
  given_up : Happened w (outcomes.Abandoned j r) → EndOf w f j r
  spoiled_by : (x : ServerId) (reason : SpoilWord) → Happened w (outcomes.Spoiled j r x reason) → EndOf w f j r
  going_on : Runs f j r → EndOf w f j r

-- from each server the core keeps one of these statements
abbrev pub KeepsAll : RunView → Facts → ServerId → (Statement → Type 0) → Type 0
KeepsAll w f j Is = (x : ServerId) → IsServer w.group x → (s : Statement) × Keeps f j x s × Is s

abbrev pub IsInventory : Round → Statement → Type 0
IsInventory r s = (v : Inventory) × (s ≡ kinds.Inventory v) × (v.r ≡ r)

abbrev pub IsCommit : Round → Statement → Type 0
IsCommit r s = (digest : List ℕ) × (s ≡ kinds.Commit r digest)

abbrev pub IsReveal : Round → Statement → Type 0
IsReveal r s = (sum : List Bool) × (s ≡ kinds.Reveal r sum)

abbrev pub IsSign : Round → Statement → Type 0
IsSign r s = (b : Body) × (s ≡ kinds.Sign b) × (b.r ≡ r)

-- the server signed one of these statements
abbrev pub HasSigned : Facts → ServerId → (Statement → Type 0) → Type 0
HasSigned f j Is = (s : Statement) × Signs f j s × Is s

-- A round that runs has gone on as far as what is kept allows: its inventory is signed once its window closed, and each further statement
-- once all of the kind before are kept. It doesn't keep all signatures of its body, since then its run would have ended.
pub record HasGoneOn (w : RunView) (f : Facts) (j : ServerId) (r : Round) : Type 0 where
  pub own_kept : (s : Statement) → Signs f j s → IsPhaseOf r s → Keeps f j j s
  pub inventory : (count : ℕ) → Happened w (outcomes.Closed j r count) → HasSigned f j (IsInventory r)
  pub commit : HasSigned f j (IsInventory r) → KeepsAll w f j (IsInventory r) → HasSigned f j (IsCommit r) ⊎ HasSigned f j (IsSign r)
  pub reveal : HasSigned f j (IsCommit r) → KeepsAll w f j (IsCommit r) → HasSigned f j (IsReveal r)
  pub sign : HasSigned f j (IsReveal r) → KeepsAll w f j (IsReveal r) → HasSigned f j (IsSign r)
  pub goes_on : (b : Body) → b.r ≡ r → Signs f j (kinds.Sign b) → ¬ ((x : ServerId) → IsServer w.group x → Keeps f j x (kinds.Sign b))

pub record RoundsGoOn (w : RunView) (f : Facts) : Type 0 where
  pub opened_once : (j : ServerId) (r p q : Round) → IsHonestServer w.group j → Happened w (outcomes.Opened j r p) → Happened w (outcomes.Opened j r q) → p ≡ q
  pub ends : (j : ServerId) (r p : Round) → IsHonestServer w.group j → Happened w (outcomes.Opened j r p) → EndOf w f j r
  pub gone_on : (j : ServerId) (r : Round) → IsHonestServer w.group j → Runs f j r → HasGoneOn w f j r
  pub spoiled : (j x : ServerId) (r : Round) (reason : SpoilWord) → IsHonestServer w.group j → Happened w (outcomes.Spoiled j r x reason) → SpoilCause w f j r x
  -- a certificate of a body's prev was put before the body was signed
  pub prev_before : (j : ServerId) (n : ℕ) (b : Body) → IsHonestServer w.group j → HadSigned w n (Server j) (kinds.Sign b)
      → (b.prev.0 ≡ 0) ⊎ ((m : ℕ) × (c : Body) × (m < n) × IsCertifiedAt w m c × (c.r ≡ b.prev))
  pub certificates : (j : ServerId) (r : Round) → IsHonestServer w.group j → HasCertificate w j r → Holds (f.server j).chain r.0

-- ---- messages

-- the message is server x's own, to server j, and says this
pub record Carries (w : RunView) (x j : ServerId) (s : Statement) (m : Message) : Type 0 where
  pub from : m.from ≡ members.Server x
  pub to : m.to ≡ members.Server j
  pub own : m.own ≡ true
  pub says : Says w.group.roster m.bytes (Server x) s

-- a message of a server was delivered, lost, or is in flight
abbrev pub HasFate : RunView → Message → Type 0
HasFate w m = Contains (log w).delivered m ⊎ Contains (log w).lost m ⊎ ((id : ℕ) × Contains (log w).flight id × (message_of (log w) id ≡ m))

pub record MessagesArrive (w : RunView) (f : Facts) : Type 0 where
  pub was_put : (m : Message) → Contains (log w).delivered m → (p : Put) × Contains (log w).puts p × (p.bytes ≡ m.bytes)
  pub sent : (x j : ServerId) (r : Round) (s : Statement) → IsHonestServer w.group x → IsHonestServer w.group j → x.0 ≢ j.0 → IsPhaseOf r s → Signs f x s
      → (m : Message) × Carries w x j s m × HasFate w m
  pub kept : (x j : ServerId) (r : Round) (s : Statement) (m : Message) → IsHonestServer w.group j → IsPhaseOf r s → Carries w x j s m
      → Contains (log w).delivered m → Runs f j r → Keeps f j x s

-- ---- verdicts

pub record VerdictsAreRight (w : RunView) : Type 0 where
  -- a Judge is ignored, or tells the verdict
  pub judged : (s : Step) (r : Round) (k : ℕ) → Contains w.history s → s.event ≡ events.Judge r k
      → (s.outcomes ≡ outcomes.Ignored ignored.None ∷ []) ⊎ IsVerdictOf w r k s.outcomes
  -- nothing else blames
  pub alone : (s : Step) (m : Member) (reason : BlameWord) → Contains w.history s → Contains s.outcomes (outcomes.Blame m reason)
      → (r : Round) × (k : ℕ) × (s.event ≡ events.Judge r k)

-- the roster commits to the seeds that were dealt
abbrev pub SeedsAreDealt : GroupView → Type 0
SeedsAreDealt g = (i j : ℕ) → i < clients_of g → j < servers_of g → commitment_of g.roster i j ≡ Some (seed_commitment_of i j (seed_of g i j))

pub record Invariant (w : RunView) (f : Facts) : Type 0 where
  pub put_is_signed : PutIsSigned w f
  pub kept_is_said : KeptIsSaid w f
  pub held_is_put : HeldIsPut w f
  pub servers : ServersKeepRules w f
  pub clients : ClientsKeepRules w f
  pub plains : PlainsKeepRules w
  pub rounds : RoundsGoOn w f
  pub messages : MessagesArrive w f
  pub verdicts : VerdictsAreRight w
  pub seeds : SeedsAreDealt w.group
