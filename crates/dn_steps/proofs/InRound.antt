-- What a server's core does in a call in which its round stays, by its acts.
use Rattle.std.proofs.Common.{◌≡◌, ◌≢◌, ℕ, ◌≤◌, List, ◌++◌, length, true}
use Rattle.std.specs.Prelude.{Bool, Contains, ◌⊎◌, All, Some, slice_get}
use Rattle.dn_wire.specs.declared.ids.ClientId.{ClientId}
use Rattle.dn_wire.specs.declared.ids.ServerId.{ServerId}
use Rattle.dn_wire.specs.declared.ids.Round.{Round}
use Rattle.dn_wire.specs.declared.ids.Member.{Member}
use Rattle.dn_wire.specs.declared.ids.Member.TheVariants as members
use Rattle.dn_wire.specs.declared.ids.SignerId.{SignerId}
use Rattle.dn_wire.specs.declared.ids.SignerId.TheVariants.{Client, Server}
use Rattle.dn_told.specs.declared.told.WindowTold.{WindowTold}
use Rattle.dn_bits.specs.Bits.{bytes_of}
use Rattle.dn_hash.specs.Digests.{server_digest_of}
use Rattle.dn_record_types.specs.Place.{Place, place_of}
use Rattle.dn_record_types.specs.declared.body.Body.{Body}
use Rattle.dn_record_types.specs.declared.inventory.Inventory.{Inventory}
use Rattle.dn_record_types.specs.declared.statement.Statement.{Statement}
use Rattle.dn_record_types.specs.declared.statement.Statement.TheVariants as kinds
use Rattle.dn_record_types.specs.declared.statement.WordTold.{WordTold}
use Rattle.dn_roster.specs.Roster.{RosterView}
use Rattle.dn_seal.specs.Said.{SaidView}
use Rattle.dn_cert.specs.Certificate.{CertificateView, IsCertificate, IsCertificateUnder}
use Rattle.dn_cert.specs.Chain.{Holds, bodies}
use Rattle.dn_cert.specs.Signed.{EntryVerifies}
use Rattle.dn_server.specs.declared.act.Act.{Act}
use Rattle.dn_server.specs.declared.act.Act.TheVariants as acts
use Rattle.dn_server.specs.declared.act.SpoilReason.{SpoilReason}
use Rattle.dn_server.specs.declared.claims.Claim.{Claim}
use Rattle.dn_server.specs.Keeping.{round_of}
use Rattle.dn_server.specs.Server.{ServerView}
use Rattle.dn_exchange.specs.Spoiling.{IsDueBody}
use Rattle.dn_headline.specs.Group.{IsServer}
use Rattle.dn_headline.specs.Run.{RunView}
use Rattle.dn_headline.specs.Spoken.{Says, IsInFront, WasSaid, WasSubmitted}
use Rattle.dn_headline.specs.Delivered.{IsPhaseOf}
use Rattle.dn_headline.specs.Invariant.{HoldsOneEach, word_of}
use Rattle.dn_headline.specs.Step.{ChainGrows}
use Rattle.dn_links.specs.Link.{IsOfRecord}
use Rattle.dn_steps.specs.Openings.{KeepsOpenings}

-- why a server gave its round up, by what was said before the call, and by the cores before and after it
pub data Spoils (w : RunView) (j : ServerId) (c d : ServerView) (x : ServerId) : Type 0 where
  two_said : (place : Place) (s t : Statement) → WasSaid w (Server x) s → WasSaid w (Server x) t → place_of s ≡ Some place → place_of t ≡ Some place → s ≢ t → Spoils w j c d x
  prev_said : (v : Inventory) → 1 ≤ c.run.r.0 → WasSaid w (Server x) (kinds.Inventory v) → v.r ≡ c.run.r → v.prev ≢ c.run.prev → Spoils w j c d x
  entry_said : (v : Inventory) → WasSaid w (Server x) (kinds.Inventory v) → ¬ All (EntryVerifies w.group.roster v.r v.prev) v.entries → Spoils w j c d x
  sum_said : (sum : List Bool) → 1 ≤ c.run.r.0 → WasSaid w (Server x) (kinds.Reveal c.run.r sum) → length sum ≢ d.run.bits → Spoils w j c d x
  commit_said : (sum : List Bool) (digest : List ℕ) → WasSaid w (Server x) (kinds.Reveal c.run.r sum) → WasSaid w (Server x) (kinds.Commit c.run.r digest)
      → server_digest_of c.run.r.0 x.0 (bytes_of sum) ≢ digest → Spoils w j c d x
  forged : (s : Statement) → x ≡ j → WasSaid w (Server j) s → ¬ Contains c.signed s → Spoils w j c d x
  body_said : (own : List ℕ) → IsDueBody d x own → Spoils w j c d x

-- the act tells of a certificate of the group, which is posted
pub record IsPosted (roster : RosterView) (did : List Act) (e : CertificateView) : Type 0 where
  pub certificate : IsCertificate e
  pub under : IsCertificateUnder roster e
  pub to : List Member
  pub posted : Contains did (acts.Post to e.bytes)

-- the statement is posted, as the server says it; and where it is of a phase of a round, to each other server
pub record PostsIt (w : RunView) (j : ServerId) (did : List Act) (t : Statement) : Type 0 where
  pub to : List Member
  pub bytes : List ℕ
  pub posted : Contains did (acts.Post to bytes)
  pub says : Says w.group.roster bytes (Server j) t
  pub others : (r : Round) (k : ServerId) → IsPhaseOf r t → IsServer w.group k → j.0 ≢ k.0 → Contains to (members.Server k)

-- what is kept newly is of the round: it is signed in the call, or was said before
abbrev pub IsKeptNow : RunView → ServerId → ServerView → List Statement → SaidView → Type 0
IsKeptNow w j c fresh said =
    (round_of said.statement ≡ Some c.run.r) × ((Contains fresh said.statement × (said.signer ≡ Server j)) ⊎ WasSaid w said.signer said.statement)

pub record ActsInRound (w : RunView) (j : ServerId) (c : ServerView) (did : List Act) (d : ServerView) (fresh : List Statement) : Type 0 where
  -- the core and its record
  pub seat : d.seat ≡ c.seat
  pub key : d.key ≡ c.key
  pub r : d.run.r ≡ c.run.r
  pub prev : d.run.prev ≡ c.run.prev
  pub stays_closed : c.run.window.closed ≡ true → d.run.window.closed ≡ true
  pub keeps : (said : SaidView) → Contains c.run.kept said → Contains d.run.kept said
  pub kept : (said : SaidView) → Contains d.run.kept said → Contains c.run.kept said ⊎ IsKeptNow w j c fresh said
  pub none_opened : (q p : Round) → ¬ Contains did (acts.Opened q p)
  pub closes : (q : Round) (count : ℕ) → Contains did (acts.Closed q count) → (q ≡ c.run.r) × (d.run.window.closed ≡ true)
  -- what clients are told
  pub told : (i : ClientId) (q : Round) (t : WindowTold) → Contains did (acts.Told i q t) → q ≡ c.run.r
  pub claims : (i : ClientId) (claim : Claim) → slice_get d.run.claims i.0 ≡ Some (Some claim) → (slice_get c.run.claims i.0 ≡ Some (Some claim))
      ⊎ (Contains did (acts.Told i c.run.r (word_of claim.told)) × WasSubmitted w (Client i) (kinds.Submission c.run.r c.run.prev i claim.digest) claim.cipher)
  pub claimed : (i : ClientId) (claim : Claim) → slice_get c.run.claims i.0 ≡ Some (Some claim) → slice_get d.run.claims i.0 ≡ Some (Some claim)
  pub told_claimed : (i : ClientId) (word : WordTold) → Contains did (acts.Told i c.run.r (word_of word))
      → (claim : Claim) × (slice_get d.run.claims i.0 ≡ Some (Some claim)) × (claim.told ≡ word)
  -- what is signed and posted
  pub signed : d.signed ≡ c.signed ++ fresh
  pub of_record : (t : Statement) → Contains fresh t → IsOfRecord d t
  pub posted : (t : Statement) → Contains fresh t → PostsIt w j did t
  pub fronts : (to : List Member) (bytes : List ℕ) → Contains did (acts.Post to bytes) → (who : SignerId) (t : Statement) → IsInFront w.group.roster bytes who t
      → (who ≡ Server j) × Contains d.signed t
  pub prev_held : (b : Body) → Contains fresh (kinds.Sign b) → (b.prev.0 ≡ 0) ⊎ ((e : Body) × Contains (bodies c.chain) e × (e.r ≡ b.prev))
  -- what is held
  pub grows : ChainGrows c.chain d.chain
  pub one_each : HoldsOneEach c.chain → HoldsOneEach d.chain
  pub new_held : (b : Body) → Contains (bodies d.chain) b → Contains (bodies c.chain) b ⊎ ((e : CertificateView) × IsPosted w.group.roster did e × (e.body ≡ b))
  pub certified : (e : CertificateView) → Contains did (acts.Certified e) → Holds d.chain e.body.r.0
  pub none_held : (q : Round) → ¬ Contains did (acts.Held q)
  -- how its run goes on
  pub runs_on : d.run.is_running ≡ true → c.run.is_running ≡ true
  pub ran : c.run.is_running ≡ true → (d.run.is_running ≡ true) ⊎ (((e : CertificateView) × Contains did (acts.Certified e) × (e.body.r ≡ c.run.r))
      ⊎ ((x : ServerId) × (reason : SpoilReason) × (kept : List ℕ) × (came : List ℕ) × Contains did (acts.Spoiled x reason kept came)))
  pub spoiled : (x : ServerId) (reason : SpoilReason) (kept came : List ℕ) → Contains did (acts.Spoiled x reason kept came) → Spoils w j c d x
  -- what it opened
  pub openings : KeepsOpenings w.group.roster c → KeepsOpenings w.group.roster d
