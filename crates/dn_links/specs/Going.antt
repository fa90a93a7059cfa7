-- What going on in its round does to a server's core, by its acts.
use Rattle.std.specs.Prelude.{◌≡◌, ◌<◌, ◌⊎◌, ◌++◌, ℕ, true, List, Contains, Some}
use Rattle.dn_wire.specs.declared.ids.Member.{Member}
use Rattle.dn_wire.specs.declared.ids.ServerId.{ServerId}
use Rattle.dn_lms.specs.Key.{leaf_count}
use Rattle.dn_record_types.specs.declared.body.Body.{Body}
use Rattle.dn_record_types.specs.declared.payload.Payload.TheVariants as payloads
use Rattle.dn_record_types.specs.declared.statement.Statement.{Statement}
use Rattle.dn_records.specs.Records.{payload_bytes}
use Rattle.dn_seal.specs.Said.{SaidView}
use Rattle.dn_seal.specs.Signer.{sealed_bytes}
use Rattle.dn_cert.specs.Certificate.{CertificateView, IsCertificate, IsCertificateUnder}
use Rattle.dn_cert.specs.Chain.{bodies}
use Rattle.dn_server.specs.declared.act.Act.{Act}
use Rattle.dn_server.specs.declared.act.Act.TheVariants as acts
use Rattle.dn_server.specs.declared.act.SpoilReason.{SpoilReason}
use Rattle.dn_server.specs.Keeping.{round_of}
use Rattle.dn_server.specs.Server.{ServerView, itself, others_of, everyone_of}
use Rattle.dn_headline.specs.Invariant.{HoldsOneEach}

-- the bytes are a plain payload of the statement, as the core seals it at a leaf
abbrev pub IsSealedBy : ServerView → Statement → List ℕ → Type 0
IsSealedBy c s bytes =
    (q : ℕ) × (q < leaf_count c.key) × (bytes ≡ payload_bytes (payloads.Plain (sealed_bytes c.seat.roster (itself c) c.key q s)))

-- a certificate of the group that the core made, and posts to all
pub record Certifies (c : ServerView) (did : List Act) (e : CertificateView) : Type 0 where
  pub told : Contains did (acts.Certified e)
  pub certificate : IsCertificate e
  pub under : IsCertificateUnder c.seat.roster e
  pub posted : Contains did (acts.Post (everyone_of c.seat) e.bytes)

-- the run ended with a certificate, or it is spoiled
abbrev pub EndsBy : ServerView → List Act → Type 0
EndsBy c did =
    ((e : CertificateView) × Certifies c did e × (e.body.r ≡ c.run.r))
    ⊎ ((x : ServerId) × (reason : SpoilReason) × (kept : List ℕ) × (came : List ℕ) × Contains did (acts.Spoiled x reason kept came))

-- each statement that the core keeps is of its round
abbrev pub KeepsRound : ServerView → Type 0
KeepsRound c = (said : SaidView) → Contains c.run.kept said → round_of said.statement ≡ Some c.run.r

-- The round stays, with its claims. What the core signed anew are statements of the round, each of which it posts to the other servers, and it posts
-- nothing else but certificates that it made; it keeps what it kept and its own statements, and holds what it held and the bodies of these certificates;
-- and a run that ended is told.
pub record GoesBy (c : ServerView) (did : List Act) (d : ServerView) : Type 0 where
  pub seat : d.seat ≡ c.seat
  pub key : d.key ≡ c.key
  pub r : d.run.r ≡ c.run.r
  pub prev : d.run.prev ≡ c.run.prev
  pub claims : d.run.claims ≡ c.run.claims
  pub closed : c.run.window.closed ≡ true → d.run.window.closed ≡ true
  pub fresh : List Statement
  pub signed : d.signed ≡ c.signed ++ fresh
  pub of_round : (s : Statement) → Contains fresh s → round_of s ≡ Some c.run.r
  pub posted : (s : Statement) → Contains fresh s → (bytes : List ℕ) × IsSealedBy c s bytes × Contains did (acts.Post (others_of c.seat) bytes)
  pub posts : (to : List Member) (bytes : List ℕ) → Contains did (acts.Post to bytes)
      → ((s : Statement) × Contains fresh s × IsSealedBy c s bytes) ⊎ ((e : CertificateView) × Certifies c did e × (bytes ≡ e.bytes))
  pub kept : (said : SaidView) → Contains d.run.kept said
      → Contains c.run.kept said ⊎ (Contains fresh said.statement × (said.signer ≡ itself c))
  pub keeps : (said : SaidView) → Contains c.run.kept said → Contains d.run.kept said
  pub slots : d.chain.slots ≡ c.chain.slots
  pub held : (b : Body) → Contains (bodies c.chain) b → Contains (bodies d.chain) b
  pub new : (b : Body) → Contains (bodies d.chain) b → Contains (bodies c.chain) b ⊎ ((e : CertificateView) × Certifies c did e × (e.body ≡ b))
  pub one_each : HoldsOneEach c.chain → HoldsOneEach d.chain
  pub runs_on : d.run.is_running ≡ true → c.run.is_running ≡ true
  pub ends : KeepsRound c → c.run.is_running ≡ true → (d.run.is_running ≡ true) ⊎ EndsBy c did
