-- What a call of one honest server's core did in a run.
use Rattle.std.specs.Prelude.{◌≡◌, ◌≢◌, ◌≤◌, ◌⊎◌, ◌++◌, ℕ, true, List, Contains}
use Rattle.dn_wire.specs.declared.ids.ClientId.{ClientId}
use Rattle.dn_wire.specs.declared.ids.ServerId.{ServerId}
use Rattle.dn_wire.specs.declared.ids.Round.{Round}
use Rattle.dn_wire.specs.declared.ids.Member.TheVariants as members
use Rattle.dn_wire.specs.declared.ids.SignerId.TheVariants.{Server}
use Rattle.dn_told.specs.declared.told.WindowTold.{WindowTold}
use Rattle.dn_record_types.specs.declared.body.Body.{Body}
use Rattle.dn_record_types.specs.declared.statement.Statement.{Statement}
use Rattle.dn_record_types.specs.declared.statement.Statement.TheVariants as kinds
use Rattle.dn_seal.specs.Said.{SaidView}
use Rattle.dn_cert.specs.Chain.{Holds, bodies}
use Rattle.dn_server.specs.Server.{ServerView}
use Rattle.dn_exchange.specs.Disciplined.{Disciplined}
use Rattle.dn_exchange.specs.Settled.{Settled}
use Rattle.dn_report.specs.declared.outcome.Outcome.{Outcome}
use Rattle.dn_report.specs.declared.outcome.Outcome.TheVariants as outcomes
use Rattle.dn_report.specs.declared.words.SpoilWord.{SpoilWord}
use Rattle.dn_headline.specs.Group.{IsHonestServer}
use Rattle.dn_headline.specs.Log.{Message}
use Rattle.dn_headline.specs.Run.{RunView, log}
use Rattle.dn_headline.specs.Delivered.{IsPhaseOf}
use Rattle.dn_headline.specs.Invariant.{Facts, SpoilCause, Carries, HasFate, Keeps, Runs}
use Rattle.dn_headline.specs.Step.{ChainFollows, IsNewlySigned}
use Rattle.dn_links.specs.Link.{Moves, StaysInRound, IsOfRecord, RunsOrEnds}
use Rattle.dn_links.specs.MessageLink.{LogMoves, DeliversNow}
use Rattle.dn_steps.specs.Openings.{KeepsOpenings}

-- the lines tell nothing of server k
pub record TellNothingOf (k : ServerId) (lines : List Outcome) : Type 0 where
  pub opened : (q p : Round) → ¬ Contains lines (outcomes.Opened k q p)
  pub closed : (q : Round) (count : ℕ) → ¬ Contains lines (outcomes.Closed k q count)
  pub told : (i : ClientId) (q : Round) (told : WindowTold) → ¬ Contains lines (outcomes.Told i k q told)
  pub spoiled : (q : Round) (x : ServerId) (reason : SpoilWord) → ¬ Contains lines (outcomes.Spoiled k q x reason)
  pub certified : (q : Round) → ¬ Contains lines (outcomes.Certified k q)
  pub held : (q : Round) → ¬ Contains lines (outcomes.Held (members.Server k) q)

-- what the call did at server j, whose core was this and is that now
pub record ServerCall (w v : RunView) (g : Facts) (lines : List Outcome) (moved : LogMoves (log w) (log v)) (j : ServerId) (fresh : List Statement) (c d : ServerView)
    : Type 0 where
  pub moves : Moves v j c d lines
  pub disciplined : Disciplined d
  pub chains : ChainFollows v c.chain d.chain
  pub signed : d.signed ≡ c.signed ++ fresh
  pub of_record : (t : Statement) → Contains fresh t → IsOfRecord d t
  pub put : (t : Statement) → IsNewlySigned w v (Server j) t → Contains d.signed t
  pub settled : d.run.is_running ≡ true → Settled d
  pub ran : c.run.is_running ≡ true → RunsOrEnds j d lines c.run.r
  pub opened : (r p : Round) → Contains lines (outcomes.Opened j r p) → RunsOrEnds j d lines r
  pub spoiled : (x : ServerId) (r : Round) (reason : SpoilWord) → Contains lines (outcomes.Spoiled j r x reason) → SpoilCause v g j r x
  pub prev_held : (b : Body) → Contains fresh (kinds.Sign b) → (b.prev.0 ≡ 0) ⊎ ((e : Body) × Contains (bodies c.chain) e × (e.r ≡ b.prev))
  pub certificates : (r : Round) → Contains lines (outcomes.Certified j r) ⊎ Contains lines (outcomes.Held (members.Server j) r) → Holds d.chain r.0
  pub sent : (k : ServerId) (r : Round) (t : Statement) → IsHonestServer v.group k → j.0 ≢ k.0 → IsPhaseOf r t → Contains fresh t
      → (m : Message) × Carries v j k t m × HasFate v m
  pub keeps_on : (said : SaidView) → StaysInRound v j c d lines → Contains c.run.kept said → Contains d.run.kept said
  pub runs_on : StaysInRound v j c d lines → d.run.is_running ≡ true → c.run.is_running ≡ true
  pub hears : (x : ServerId) (r : Round) (t : Statement) (m : Message) → IsPhaseOf r t → Carries v x j t m → DeliversNow (log w) (log v) moved m → Runs g j r
      → Keeps g j x t
  pub not_ahead : (x : ServerId) (r : Round) (t : Statement) (m : Message) → IsPhaseOf r t → Carries v x j t m → DeliversNow (log w) (log v) moved m → r.0 ≤ d.run.r.0
  pub key : d.key ≡ c.key
  pub bent : d.bent ≡ c.bent
  pub openings : KeepsOpenings v.group.roster d
