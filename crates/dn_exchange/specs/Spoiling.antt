-- What a server tells where a body spoils its round.
use Rattle.std.specs.Prelude.{◌≡◌, ◌≢◌, ℕ, List, Contains}
use Rattle.dn_wire.specs.declared.ids.ServerId.{ServerId}
use Rattle.dn_record_types.specs.declared.body.Body.{Body}
use Rattle.dn_record_types.specs.declared.statement.Statement.TheVariants as kinds
use Rattle.dn_records.specs.Records.{body_bytes}
use Rattle.dn_seal.specs.Dealt.{server}
use Rattle.dn_seal.specs.Said.{SaidView}
use Rattle.dn_server.specs.declared.act.Act.{Act}
use Rattle.dn_server.specs.declared.act.Act.TheVariants as acts
use Rattle.dn_server.specs.declared.act.SpoilReason.TheVariants as spoils
use Rattle.dn_server.specs.declared.answer.Answer.{Answer}
use Rattle.dn_server.specs.declared.answer.Answer.TheVariants as answers
use Rattle.dn_server.specs.Justified.{Justified}
use Rattle.dn_server.specs.Server.{ServerView, WasIncluded}
use Rattle.dn_exchange.specs.Disciplined.{IsSaidBy}

-- The bytes are those of a body of the server's last round that is justified, be it signed or not; and it keeps that server j signed another body of
-- that round.
pub record IsDueBody (v : ServerView) (j : ServerId) (bytes : List ℕ) : Type 0 where
  pub body : Body
  pub spelled : bytes ≡ body_bytes body
  pub round : body.r ≡ v.run.r
  pub justified : Justified (IsSaidBy v) (WasIncluded v.run) v.seat v.chain body
  pub other : Body
  pub kept : SaidView
  pub among : Contains v.run.kept kept
  pub by : kept.signer ≡ server j.0
  pub said : kept.statement ≡ kinds.Sign other
  pub other_round : other.r ≡ v.run.r
  pub differs : other ≢ body

-- each body that the server tells as its own against another one is justified, and differs from that
abbrev pub OwnBodiesAreDue : ServerView → List Act → Type 0
OwnBodiesAreDue v did = (j : ServerId) (own came : List ℕ) → Contains did (acts.Spoiled j spoils.Body own came) → IsDueBody v j own

-- the same, by its answer
abbrev pub TellsDueBodies : ServerView → Answer → Type 0
TellsDueBodies v (answers.Acts did) = OwnBodiesAreDue v did
TellsDueBodies v _ = Unit {0}
