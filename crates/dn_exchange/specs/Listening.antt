-- What a server answers to a statement, and what it is afterwards.
use Rattle.std.specs.Prelude.{◌≡◌, ◌≢◌, ℕ, Some, None}
use Rattle.dn_wire.specs.declared.ids.Round.{Round}
use Rattle.dn_seal.specs.Dealt.{server}
use Rattle.dn_seal.specs.Said.{SaidView}
use Rattle.dn_server.specs.declared.answer.Answer.{Answer}
use Rattle.dn_server.specs.declared.answer.Reason.TheVariants as reasons
use Rattle.dn_server.specs.Answers.{ignored}
use Rattle.dn_server.specs.Keeping.{round_of}
use Rattle.dn_server.specs.Server.{ServerView}
use Rattle.dn_openings.specs.Hearing.{HearsEvidence}
use Rattle.dn_exchange.specs.Hearing.{HearsRound}

-- A statement comes: one that servers make to each other of a round, which no other makes; or an accusation, an opening or an answer to a challenge,
-- or what is of no use.
pub data Hears (v : ServerView) (said : SaidView) (answer : Answer) (after : ServerView) : Type 0 where
  not_by_server : (r : Round) → round_of said.statement ≡ Some r → ((j : ℕ) → said.signer ≢ server j) → answer ≡ ignored reasons.Kind → after ≡ v
      → Hears v said answer after
  of_round : (j : ℕ) (r : Round) → said.signer ≡ server j → round_of said.statement ≡ Some r → HearsRound v j r said answer after → Hears v said answer after
  of_evidence : round_of said.statement ≡ None → HearsEvidence v said answer after → Hears v said answer after
