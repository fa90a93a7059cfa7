-- What ties an honest server's core to the run.
use Rattle.std.specs.Prelude.{◌≡◌, ◌≢◌, ◌<◌, ◌≤◌, ◌⊎◌, ◌++◌, ℕ, true, List, [], map, Contains, slice_get, Some}
use Rattle.dn_wire.specs.declared.ids.ClientId.{ClientId}
use Rattle.dn_wire.specs.declared.ids.ServerId.{ServerId}
use Rattle.dn_wire.specs.declared.ids.Round.{Round}
use Rattle.dn_wire.specs.declared.ids.Member.TheVariants as members
use Rattle.dn_wire.specs.declared.ids.SignerId.TheVariants.{Client, Server}
use Rattle.dn_told.specs.declared.told.WindowTold.{WindowTold}
use Rattle.dn_record_types.specs.declared.statement.Statement.{Statement}
use Rattle.dn_record_types.specs.declared.statement.Statement.TheVariants as kinds
use Rattle.dn_record_types.specs.declared.statement.WordTold.{WordTold}
use Rattle.dn_seal.specs.Said.{SaidView}
use Rattle.dn_cert.specs.Chain.{Holds, bodies}
use Rattle.dn_server.specs.declared.claims.Claim.{Claim}
use Rattle.dn_server.specs.declared.run.Sum.{Sum}
use Rattle.dn_record_types.specs.declared.body.Body.{Body}
use Rattle.dn_server.specs.Server.{ServerView}
use Rattle.dn_server.specs.Keeping.{round_of}
use Rattle.dn_exchange.specs.Settled.{Settled}
use Rattle.dn_exchange.specs.Disciplined.{Disciplined}
use Rattle.dn_headline.specs.Group.{IsHonestServer}
use Rattle.dn_headline.specs.Step.{ChainFollows, IsNewlySigned}
use Rattle.dn_report.specs.declared.outcome.Outcome.{Outcome}
use Rattle.dn_report.specs.declared.outcome.Outcome.TheVariants as outcomes
use Rattle.dn_report.specs.declared.words.SpoilWord.{SpoilWord}
use Rattle.dn_headline.specs.Run.{RunView, Happened}
use Rattle.dn_headline.specs.Spoken.{WasSaid, WasSubmitted}
use Rattle.dn_headline.specs.Submissions.{WasTold}
use Rattle.dn_headline.specs.Invariant.{Facts, ServerFacts, SpoilCause, seat_of, word_of}

-- what the invariant of runs sees of a core
abbrev pub facts_of : ServerView → ServerFacts
facts_of c = record {
  chain = c.chain;
  last = c.run.r.0;
  runs = c.run.is_running;
  kept = map (λ said. record { by = said.signer; statement = said.statement }) c.run.kept;
  signed = c.signed;
}

-- The record of the round that a core opened last, and the run: the round was opened so and none above it; the claims are what was told in
-- it; what is kept was said, of this round, and what the core signed was said too; and its ciphertext was made.
pub record IsLinked (w : RunView) (j : ServerId) (c : ServerView) : Type 0 where
  pub seat : c.seat ≡ seat_of w.group j
  pub opened : 1 ≤ c.run.r.0 → Happened w (outcomes.Opened j c.run.r c.run.prev)
  pub opened_below : (r p : Round) → Happened w (outcomes.Opened j r p) → r.0 ≤ c.run.r.0
  pub claims : (i : ClientId) (claim : Claim) → slice_get c.run.claims i.0 ≡ Some (Some claim)
      → WasTold w j i c.run.r (word_of claim.told) × WasSubmitted w (Client i) (kinds.Submission c.run.r c.run.prev i claim.digest) claim.cipher
  pub told : (i : ClientId) (word : WordTold) → WasTold w j i c.run.r (word_of word)
      → (claim : Claim) × (slice_get c.run.claims i.0 ≡ Some (Some claim)) × (claim.told ≡ word)
  pub closed : (count : ℕ) → Happened w (outcomes.Closed j c.run.r count) → c.run.window.closed ≡ true
  pub closed_below : (r : Round) (count : ℕ) → Happened w (outcomes.Closed j r count) → r.0 ≤ c.run.r.0
  pub told_below : (i : ClientId) (r : Round) (told : WindowTold) → WasTold w j i r told → r.0 ≤ c.run.r.0
  pub kept : (said : SaidView) → Contains c.run.kept said → WasSaid w said.signer said.statement
  pub kept_round : (said : SaidView) → Contains c.run.kept said → round_of said.statement ≡ Some c.run.r
  pub signed : (s : Statement) → Contains c.signed s → WasSaid w (Server j) s
  pub made : (sum : Sum) → c.run.sum ≡ Some sum → Contains w.sums (record { server = j; r = c.run.r; sum = sum.s })

-- a core that has opened no round: it has no claims, keeps nothing, and has signed nothing
pub record IsUnopened (c : ServerView) : Type 0 where
  pub round : c.run.r.0 ≡ 0
  pub claims : (i : ClientId) (claim : Claim) → slice_get c.run.claims i.0 ≢ Some (Some claim)
  pub kept : c.run.kept ≡ []
  pub signed : c.signed ≡ []
  pub sum : (sum : Sum) → c.run.sum ≢ Some sum

-- the statement is of the round that the core opened last, or an opening
abbrev pub IsOfRecord : ServerView → Statement → Type 0
IsOfRecord c (kinds.Submission r prev i digest) = r ≡ c.run.r
IsOfRecord c (kinds.Receipt r i digest word) = r ≡ c.run.r
IsOfRecord c (kinds.Inventory v) = v.r ≡ c.run.r
IsOfRecord c (kinds.Commit r digest) = r ≡ c.run.r
IsOfRecord c (kinds.Reveal r sum) = r ≡ c.run.r
IsOfRecord c (kinds.Sign b) = b.r ≡ c.run.r
IsOfRecord c _ = Unit {0}

-- ---- a call

-- a call in which the core's round stays: a client that it tells has a claim, and the claims stay; and what it keeps newly was said, of the round
pub record StaysInRound (v : RunView) (j : ServerId) (c d : ServerView) (lines : List Outcome) : Type 0 where
  pub r : d.run.r ≡ c.run.r
  pub prev : d.run.prev ≡ c.run.prev
  pub none_opened : (q p : Round) → ¬ Contains lines (outcomes.Opened j q p)
  pub stays_closed : c.run.window.closed ≡ true → d.run.window.closed ≡ true
  pub closes : (q : Round) (count : ℕ) → Contains lines (outcomes.Closed j q count) → (q ≡ c.run.r) × (d.run.window.closed ≡ true)
  pub told : (i : ClientId) (q : Round) (told : WindowTold) → Contains lines (outcomes.Told i j q told) → q ≡ c.run.r
  pub kept : (said : SaidView) → Contains d.run.kept said → Contains c.run.kept said ⊎ (WasSaid v said.signer said.statement × (round_of said.statement ≡ Some c.run.r))
  pub claims : (i : ClientId) (claim : Claim) → slice_get d.run.claims i.0 ≡ Some (Some claim) → (slice_get c.run.claims i.0 ≡ Some (Some claim))
      ⊎ (Contains lines (outcomes.Told i j c.run.r (word_of claim.told)) × WasSubmitted v (Client i) (kinds.Submission c.run.r c.run.prev i claim.digest) claim.cipher)
  pub claimed : (i : ClientId) (claim : Claim) → slice_get c.run.claims i.0 ≡ Some (Some claim) → slice_get d.run.claims i.0 ≡ Some (Some claim)
  pub told_claimed : (i : ClientId) (word : WordTold) → Contains lines (outcomes.Told i j c.run.r (word_of word))
      → (claim : Claim) × (slice_get d.run.claims i.0 ≡ Some (Some claim)) × (claim.told ≡ word)

-- a call that opens a round above the last, without claims, and with nothing kept
pub record OpensRound (j : ServerId) (c d : ServerView) (lines : List Outcome) : Type 0 where
  pub above : c.run.r.0 < d.run.r.0
  pub line : Contains lines (outcomes.Opened j d.run.r d.run.prev)
  pub only : (q p : Round) → Contains lines (outcomes.Opened j q p) → (q ≡ d.run.r) × (p ≡ d.run.prev)
  pub none_told : (i : ClientId) (q : Round) (told : WindowTold) → ¬ Contains lines (outcomes.Told i j q told)
  pub none_closed : (q : Round) (count : ℕ) → ¬ Contains lines (outcomes.Closed j q count)
  pub none_kept : d.run.kept ≡ []
  pub none_claimed : (i : ClientId) (claim : Claim) → slice_get d.run.claims i.0 ≢ Some (Some claim)

-- how a call moves a core on
pub record Moves (v : RunView) (j : ServerId) (c d : ServerView) (lines : List Outcome) : Type 0 where
  pub seat : d.seat ≡ c.seat
  pub signed : (s : Statement) → Contains d.signed s → Contains c.signed s ⊎ WasSaid v (Server j) s
  pub made : (sum : Sum) → d.run.sum ≡ Some sum → ((d.run.r ≡ c.run.r) × (c.run.sum ≡ Some sum)) ⊎ Contains v.sums (record { server = j; r = d.run.r; sum = sum.s })
  pub round : StaysInRound v j c d lines ⊎ OpensRound j c d lines

-- What a call did at the servers: each honest server's core before and after it, with what a core promises.
pub record ServersCalled (w v : RunView) (f g : Facts) (lines : List Outcome) (fresh : ServerId → List Statement) : Type 0 where
  pub before : ServerId → ServerView
  pub after : ServerId → ServerView
  pub facts_before : (j : ServerId) → IsHonestServer v.group j → f.server j ≡ facts_of (before j)
  pub facts_after : (j : ServerId) → IsHonestServer v.group j → g.server j ≡ facts_of (after j)
  pub linked : (j : ServerId) → IsHonestServer v.group j → IsLinked w j (before j)
  pub moves : (j : ServerId) → IsHonestServer v.group j → Moves v j (before j) (after j) lines
  pub were_disciplined : (j : ServerId) → IsHonestServer v.group j → Disciplined (before j)
  pub disciplined : (j : ServerId) → IsHonestServer v.group j → Disciplined (after j)
  pub chains : (j : ServerId) → IsHonestServer v.group j → ChainFollows v (before j).chain (after j).chain
  pub signed : (j : ServerId) → IsHonestServer v.group j → (after j).signed ≡ (before j).signed ++ fresh j
  pub of_record : (j : ServerId) (s : Statement) → IsHonestServer v.group j → Contains (fresh j) s → IsOfRecord (after j) s
  pub put : (j : ServerId) (s : Statement) → IsHonestServer v.group j → IsNewlySigned w v (Server j) s → Contains (after j).signed s

-- a round runs on after a call, or a line tells how it ended
abbrev pub RunsOrEnds : ServerId → ServerView → List Outcome → Round → Type 0
RunsOrEnds j d lines r =
    ((d.run.is_running ≡ true) × (d.run.r ≡ r))
    ⊎ Contains lines (outcomes.Certified j r) ⊎ Contains lines (outcomes.Held (members.Server j) r) ⊎ Contains lines (outcomes.Abandoned j r)
    ⊎ ((x : ServerId) × (reason : SpoilWord) × Contains lines (outcomes.Spoiled j r x reason))

-- What the call did to rounds: a core that runs one is settled; a round that ran or was opened runs on or ended; each spoiling has a cause; what
-- is signed follows a round that was held before; and a certificate that is told is held.
pub record RoundsCalled (w v : RunView) (f g : Facts) (lines : List Outcome) (fresh : ServerId → List Statement) (before after : ServerId → ServerView) : Type 0 where
  pub settled : (j : ServerId) → IsHonestServer v.group j → (after j).run.is_running ≡ true → Settled (after j)
  pub ran : (j : ServerId) → IsHonestServer v.group j → (before j).run.is_running ≡ true → RunsOrEnds j (after j) lines (before j).run.r
  pub opened : (j : ServerId) (r p : Round) → IsHonestServer v.group j → Contains lines (outcomes.Opened j r p) → RunsOrEnds j (after j) lines r
  pub spoiled : (j x : ServerId) (r : Round) (reason : SpoilWord) → IsHonestServer v.group j → Contains lines (outcomes.Spoiled j r x reason) → SpoilCause v g j r x
  pub prev_held : (j : ServerId) (b : Body) → IsHonestServer v.group j → Contains (fresh j) (kinds.Sign b)
      → (b.prev.0 ≡ 0) ⊎ ((e : Body) × Contains (bodies (before j).chain) e × (e.r ≡ b.prev))
  pub certificates : (j : ServerId) (r : Round) → IsHonestServer v.group j
      → Contains lines (outcomes.Certified j r) ⊎ Contains lines (outcomes.Held (members.Server j) r) → Holds (after j).chain r.0
