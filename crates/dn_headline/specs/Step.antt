-- One call of a core in a run, with all that it puts: what is new in the run after it, and what of that keeps the run's invariant.
use Rattle.std.specs.Prelude.{◌≡◌, ◌≢◌, ◌⊎◌, ◌++◌, ℕ, ◌≤◌, true, false, List, [], ◌∷◌, length, Contains, slice_get, Some}
use Rattle.dn_wire.specs.declared.ids.ClientId.{ClientId}
use Rattle.dn_wire.specs.declared.ids.ServerId.{ServerId}
use Rattle.dn_wire.specs.declared.ids.SlotId.{SlotId}
use Rattle.dn_wire.specs.declared.ids.Round.{Round}
use Rattle.dn_wire.specs.declared.ids.Member.{Member}
use Rattle.dn_wire.specs.declared.ids.Member.TheVariants as members
use Rattle.dn_wire.specs.declared.ids.SignerId.{SignerId}
use Rattle.dn_wire.specs.declared.ids.SignerId.TheVariants.{Client, Server, Slot}
use Rattle.dn_told.specs.declared.told.WindowTold.{WindowTold}
use Rattle.dn_told.specs.declared.told.WindowTold.TheVariants as tolds
use Rattle.dn_record_types.specs.Place.{Place, place_of}
use Rattle.dn_record_types.specs.declared.body.Body.{Body}
use Rattle.dn_record_types.specs.declared.inventory.Inventory.{Inventory}
use Rattle.dn_record_types.specs.declared.statement.Statement.{Statement}
use Rattle.dn_record_types.specs.declared.statement.Statement.TheVariants as kinds
use Rattle.dn_cert.specs.Chain.{ChainView, bodies, Holds}
use Rattle.dn_report.specs.declared.event.Event.TheVariants as events
use Rattle.dn_report.specs.declared.outcome.Outcome.{Outcome}
use Rattle.dn_report.specs.declared.outcome.Outcome.TheVariants as outcomes
use Rattle.dn_report.specs.declared.words.BlameWord.{BlameWord}
use Rattle.dn_report.specs.declared.words.IgnoredWord.TheVariants as ignored
use Rattle.dn_report.specs.declared.words.SpoilWord.{SpoilWord}
use Rattle.dn_headline.specs.Group.{GroupView, IsHonestServer, IsHonestClient, IsKeyOf, clients_of}
use Rattle.dn_headline.specs.Log.{Step, Put, Message, message_of}
use Rattle.dn_headline.specs.Run.{RunView, PlainMade, SumMade, log, Happened}
use Rattle.dn_headline.specs.Spoken.{IsInFront, WasSaid}
use Rattle.dn_headline.specs.Certified.{IsCertified}
use Rattle.dn_headline.specs.Submissions.{WasTold}
use Rattle.dn_headline.specs.Plains.{PlainsKeepRules}
use Rattle.dn_headline.specs.Delivered.{IsPhaseOf, HasCertificate}
use Rattle.dn_headline.specs.Verdict.{IsVerdictOf}
use Rattle.dn_headline.specs.Invariant.{Facts, Signs, ClientSigns, Keeps, Carries, HasFate, FitsServer, FitsClient, SpoilCause, EndOf, Runs, HasGoneOn, HoldsOneEach, SeedsAreDealt}

-- the run has all that it had: what was put, in order, what happened, what was made, and which messages were delivered or lost; and nothing
-- happened but these lines
pub record Grows (w v : RunView) (lines : List Outcome) : Type 0 where
  pub more : List Put
  pub puts : (log v).puts ≡ (log w).puts ++ more
  pub happened : (o : Outcome) → Happened w o → Happened v o
  pub new : (o : Outcome) → Happened v o → Happened w o ⊎ Contains lines o
  pub told : (o : Outcome) → Contains lines o → Happened v o
  pub plains : (m : PlainMade) → Contains w.plains m → Contains v.plains m
  pub sums : (m : SumMade) → Contains w.sums m → Contains v.sums m
  pub delivered : (m : Message) → Contains (log w).delivered m → Contains (log v).delivered m
  pub lost : (m : Message) → Contains (log w).lost m → Contains (log v).lost m

-- the chain has all that it had
pub record ChainGrows (chain more : ChainView) : Type 0 where
  pub slots : more.slots ≡ chain.slots
  pub held : (b : Body) → Contains (bodies chain) b → Contains (bodies more) b

-- the signer signed the statement in this call: its core put it
pub record IsNewlySigned (w v : RunView) (who : SignerId) (s : Statement) : Type 0 where
  pub at : ℕ
  pub new : length (log w).puts ≤ at
  pub put : Put
  pub there : slice_get (log v).puts at ≡ Some put
  pub own : put.own ≡ true
  pub key : IsKeyOf v.group who put.by
  pub front : IsInFront v.group.roster put.bytes who s

-- the bodies that a core held stay, of each further one a certificate was put, and it holds one a round
pub record ChainFollows (v : RunView) (chain more : ChainView) : Type 0 where
  pub grows : ChainGrows chain more
  pub one_each : HoldsOneEach more
  pub certified : (b : Body) → Contains (bodies more) b → Contains (bodies chain) b ⊎ IsCertified v b

-- the core wasn't called, and nothing of it happened
pub record IsUntouched (w v : RunView) (f g : Facts) (j : ServerId) : Type 0 where
  pub facts : g.server j ≡ f.server j
  pub closed : (r : Round) (count : ℕ) → Happened v (outcomes.Closed j r count) → Happened w (outcomes.Closed j r count)

-- what was told in the call, and the statements that each server signed in it, by the rules of servers
pub record ServersFollow (w v : RunView) (f g : Facts) (lines : List Outcome) (fresh : ServerId → List Statement) : Type 0 where
  pub chains : (j : ServerId) → IsHonestServer v.group j → ChainFollows v (f.server j).chain (g.server j).chain
  pub signed : (j : ServerId) → IsHonestServer v.group j → (g.server j).signed ≡ (f.server j).signed ++ fresh j
  pub put : (j : ServerId) (s : Statement) → IsHonestServer v.group j → IsNewlySigned w v (Server j) s → Signs g j s
  pub said : (j : ServerId) (s : Statement) → IsHonestServer v.group j → Contains (fresh j) s → WasSaid v (Server j) s
  pub kept : (j x : ServerId) (s : Statement) → IsHonestServer v.group j → Keeps g j x s → Keeps f j x s ⊎ WasSaid v (Server x) s
  pub fit : (j : ServerId) (s : Statement) → IsHonestServer v.group j → Contains (fresh j) s → FitsServer v g j s
  pub one_each : (j : ServerId) (place : Place) (s t : Statement) → IsHonestServer v.group j → Contains (fresh j) s → Signs g j t
      → place_of s ≡ Some place → place_of t ≡ Some place → s ≡ t
  -- a client is told once, and Included for the first time only while the round's inventory isn't signed
  pub told_once : (j : ServerId) (i : ClientId) (r : Round) (told again : WindowTold) → IsHonestServer v.group j → Contains lines (outcomes.Told i j r told) → WasTold v j i r again
      → told ≢ tolds.Repeat → again ≢ tolds.Repeat → told ≡ again
  pub told_open : (j : ServerId) (i : ClientId) (r : Round) (u : Inventory) → Contains lines (outcomes.Told i j r tolds.Included)
      → IsHonestServer v.group j → u.r ≡ r → Signs f j (kinds.Inventory u) → WasTold w j i r tolds.Included

-- the statements that each client signed in the call, by its own key and by its slot's, by the rules of clients
pub record ClientsFollow (w v : RunView) (f g : Facts) : Type 0 where
  pub fresh : ClientId → List Statement
  pub chains : (i : ClientId) → IsHonestClient v.group i → ChainFollows v (f.client i).chain (g.client i).chain
  pub signed : (i : ClientId) → IsHonestClient v.group i → (g.client i).signed ≡ (f.client i).signed ++ fresh i
  pub put : (i : ClientId) (s : Statement) → IsHonestClient v.group i → IsNewlySigned w v (Client i) s → ClientSigns g i s
  pub accused : (i : ClientId) (s : Statement) → IsHonestClient v.group i → Contains (f.client i).accused s → Contains (g.client i).accused s
  pub put_accused : (i : ClientId) (slot : SlotId) (s : Statement) → IsHonestClient v.group i → slice_get v.group.owners slot.0 ≡ Some i
      → IsNewlySigned w v (Slot slot) s → Contains (g.client i).accused s
  pub fit : (i : ClientId) (s : Statement) → IsHonestClient v.group i → Contains (fresh i) s → FitsClient v g i s
  pub one_each : (i : ClientId) (r p q : Round) (k l : ClientId) (d e : List ℕ) → IsHonestClient v.group i
      → Contains (fresh i) (kinds.Submission r p k d) → ClientSigns g i (kinds.Submission r q l e)
      → kinds.Submission r p k d ≡ kinds.Submission r q l e
  pub plains : PlainsKeepRules v

pub record RoundsFollow (w v : RunView) (f g : Facts) (lines : List Outcome) : Type 0 where
  pub opened_once : (j : ServerId) (r p q : Round) → IsHonestServer v.group j → Contains lines (outcomes.Opened j r p) → Happened v (outcomes.Opened j r q) → p ≡ q
  -- a round that is opened, or that ran, runs or has ended
  pub ends : (j : ServerId) (r p : Round) → IsHonestServer v.group j → Happened v (outcomes.Opened j r p) → Contains lines (outcomes.Opened j r p) ⊎ Runs f j r
      → EndOf v g j r
  pub gone_on : (j : ServerId) (r : Round) → IsHonestServer v.group j → Runs g j r → IsUntouched w v f g j ⊎ HasGoneOn v g j r
  pub spoiled : (j x : ServerId) (r : Round) (reason : SpoilWord) → IsHonestServer v.group j → Contains lines (outcomes.Spoiled j r x reason) → SpoilCause v g j r x
  pub prev_before : (j : ServerId) (b : Body) → IsHonestServer v.group j → IsNewlySigned w v (Server j) (kinds.Sign b)
      → (b.prev.0 ≡ 0) ⊎ ((c : Body) × IsCertified w c × (c.r ≡ b.prev))
  pub certificates : (j : ServerId) (r : Round) → IsHonestServer v.group j → HasCertificate v j r → HasCertificate w j r ⊎ Holds (g.server j).chain r.0

pub record MessagesFollow (w v : RunView) (f g : Facts) (fresh : ServerId → List Statement) : Type 0 where
  pub was_put : (m : Message) → Contains (log v).delivered m → Contains (log w).delivered m ⊎ ((p : Put) × Contains (log v).puts p × (p.bytes ≡ m.bytes))
  -- a message of a server stays in flight, or is delivered or lost
  pub flies : (id : ℕ) (x : ServerId) → Contains (log w).flight id → (message_of (log w) id).from ≡ members.Server x → HasFate v (message_of (log w) id)
  pub sent : (x j : ServerId) (r : Round) (s : Statement) → IsHonestServer v.group x → IsHonestServer v.group j → x.0 ≢ j.0 → IsPhaseOf r s
      → Contains (fresh x) s → (m : Message) × Carries v x j s m × HasFate v m
  pub kept : (x j : ServerId) (r : Round) (s : Statement) (m : Message) → IsHonestServer v.group j → IsPhaseOf r s → Carries v x j s m
      → Contains (log v).delivered m → Runs g j r → (Contains (log w).delivered m × Runs f j r × (Keeps f j x s → Keeps g j x s)) ⊎ Keeps g j x s

pub record VerdictsFollow (w v : RunView) : Type 0 where
  pub judged : (s : Step) (r : Round) (k : ℕ) → Contains v.history s → s.event ≡ events.Judge r k
      → Contains w.history s ⊎ ((s.outcomes ≡ outcomes.Ignored ignored.None ∷ []) ⊎ IsVerdictOf v r k s.outcomes)
  pub alone : (s : Step) (m : Member) (reason : BlameWord) → Contains v.history s → Contains s.outcomes (outcomes.Blame m reason)
      → Contains w.history s ⊎ ((r : Round) × (k : ℕ) × (s.event ≡ events.Judge r k))

-- what a call adds to a run, by the rules
pub record Follows (w : RunView) (f : Facts) (v : RunView) (g : Facts) : Type 0 where
  pub group : v.group ≡ w.group
  pub lines : List Outcome
  pub fresh : ServerId → List Statement
  pub grows : Grows w v lines
  pub servers : ServersFollow w v f g lines fresh
  pub clients : ClientsFollow w v f g
  pub rounds : RoundsFollow w v f g lines
  pub messages : MessagesFollow w v f g fresh
  pub verdicts : VerdictsFollow w v

-- ---- the beginning

-- the run in which nothing has happened
abbrev pub first_run : GroupView → RunView
first_run group = record { group = group; history = []; plains = []; sums = [] }

-- a core that holds no body
pub record HoldsNone (group : GroupView) (chain : ChainView) : Type 0 where
  pub slots : chain.slots ≡ clients_of group
  pub none : chain.held ≡ []

-- the cores as they are made: they hold, keep and have signed nothing, and run no round; and the roster commits to the seeds
pub record Begins (group : GroupView) (f : Facts) : Type 0 where
  pub servers : (j : ServerId) → IsHonestServer group j
      → HoldsNone group (f.server j).chain × ((f.server j).runs ≡ false) × ((f.server j).kept ≡ []) × ((f.server j).signed ≡ [])
  pub clients : (i : ClientId) → IsHonestClient group i → HoldsNone group (f.client i).chain × ((f.client i).signed ≡ []) × ((f.client i).accused ≡ [])
  pub seeds : SeedsAreDealt group
