-- The certificate of a round, from the signatures that a server keeps.
use Rattle.std.specs.Prelude.{◌≡◌, ℕ, ◌<◌, ◌≤◌, List, [], length, Some, IsSome, option_map, slice_get, slice_index_or, true, if◌then◌else◌}
use Rattle.dn_record_types.specs.declared.body.Body.{Body}
use Rattle.dn_record_types.specs.declared.statement.Statement.TheVariants as kinds
use Rattle.dn_roster.specs.Roster.{RosterView, digest_of}
use Rattle.dn_seal.specs.Said.{SaidView}
use Rattle.dn_cert.specs.Signed.{SignsBody}
use Rattle.dn_records.specs.Records.{IsPayload}
use Rattle.dn_record_types.specs.declared.payload.Payload.TheVariants as payloads
use Rattle.dn_cert.specs.Certificate.{IsOfRoster}
use Rattle.dn_cert.specs.Chain.{CanFollow}
use Rattle.dn_server.specs.declared.parts.Parts.{Parts}
use Rattle.dn_rounds.specs.Going.{IsUnopposed, Steps}
use Rattle.dn_server.specs.Parts.{live}
use Rattle.dn_server.specs.declared.run.Stage.{Stage}
use Rattle.dn_server.specs.declared.run.Stage.TheVariants as stages
use Rattle.dn_server.specs.Keeping.{HasAll}
use Rattle.dn_rounds.specs.Sound.{ListingsFit, ThinBodiesFit, HasSum, StringsFit, BodiesFit, AreSound}
use Rattle.dn_server.specs.declared.act.Act.{Act}
use Rattle.dn_server.specs.declared.run.Run.{Run}
use Rattle.dn_server.specs.Server.{kept_of, statement_of, servers_in}

-- the signature of server j on the body, which is kept and verifies under the roster
pub record IsSignatureBy (roster : RosterView) (kept : List SaidView) (b : Body) (j : ℕ) (signature : List ℕ) : Type 0 where
  pub kept_so : option_map (λ s. s.signature) (kept_of kept 6 j) ≡ Some signature
  pub signs : SignsBody (digest_of roster) (slice_index_or roster.servers j []) j b signature
  pub short : length signature < 65536

-- of each of n servers its signature on the body
pub record AreSignatures (roster : RosterView) (kept : List SaidView) (b : Body) (n : ℕ) (signatures : List (List ℕ)) : Type 0 where
  pub each : length signatures ≡ n
  pub by : (j : ℕ) (signature : List ℕ) → slice_get signatures j ≡ Some signature → IsSignatureBy roster kept b j signature

-- What is asked of the body that the server signed, for it to be certified: no server signed another one; it is one of the group's; it can be
-- held; and it can stand in a payload with the servers' signatures.
pub record IsCertifiable (p : Parts) (b : Body) : Type 0 where
  pub unopposed : IsUnopposed (live p) b
  pub group : IsOfRoster p.identity.roster b
  pub follows : CanFollow p.chain b
  pub fits : (signatures : List (List ℕ)) → AreSignatures p.identity.roster p.run.kept b (servers_in (live p)) signatures → IsPayload (payloads.Certificate b signatures)

-- What is asked of the server's parts at each stage, so that it can take the step that is due.
abbrev pub CanStep : Stage → Parts → Type 0
CanStep stages.Collecting p = Unit {0}
CanStep stages.Listed p = ListingsFit p × ThinBodiesFit p × (length p.seeds.items ≤ 512) × ((1 ≤ p.workers) × (p.workers ≤ 16))
CanStep stages.Committed p = HasSum p.run × (p.run.bits ≤ 65536)
CanStep stages.Revealed p = HasSum p.run × StringsFit (live p) × HasAll 4 p.run.kept (servers_in (live p)) × BodiesFit p
CanStep stages.Signed p =
    IsSome (kept_of p.run.kept 6 p.identity.number)
    × ((b : Body) → statement_of p.run.kept 6 p.identity.number ≡ Some (kinds.Sign b) → IsCertifiable p b)

-- Whatever steps the server takes from here on, it can take the next one.
abbrev pub IsSteady : Parts → Type 0
IsSteady p = (q : Parts) (did : List Act) → Steps (live p) did (live q) → q.run.is_running ≡ true → AreSound (live q) q.run.kept × CanStep q.run.stage q

-- how many steps are left at most
abbrev pub left_at : Stage → ℕ
left_at stages.Collecting = 5
left_at stages.Listed = 4
left_at stages.Committed = 3
left_at stages.Revealed = 2
left_at stages.Signed = 1

abbrev pub steps_left : Run → ℕ
steps_left run = if run.is_running then left_at run.stage else 0
