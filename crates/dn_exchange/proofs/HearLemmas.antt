-- Hearing a statement of the round.
use Rattle.std.proofs.Common.{◌≡◌, ◌≢◌, ◌≤◌, ℕ, true, [], ◌∷◌, Some, None, ap, arith, inl, inr}
use Rattle.std.specs.Prelude.{option_map}
use Rattle.dn_wire.specs.declared.ids.Round.{Round}
use Rattle.dn_cert.proofs.ChainLemmas.{round_is}
use Rattle.dn_records.specs.Records.{kind_byte}
use Rattle.dn_seal.specs.Said.{SaidView}
use Rattle.dn_server.specs.declared.answer.Answer.{Answer}
use Rattle.dn_server.specs.Server.{ServerView, kept_of, ended}
use Rattle.dn_server.specs.Answers.{does}
use Rattle.dn_rounds.specs.Going.{spoiled_twice}
use Rattle.dn_exchange.specs.Hearing.{HearsRound, KeepsHeard}
use Rattle.dn_exchange.specs.Hearing.HearsRound.{is_second, is_faulty, goes_on}

pub heard_so : (v : ServerView) (j : ℕ) (r : Round) (said : SaidView) (a : Answer) (w : ServerView) → r ≡ v.run.r → v.run.is_running ≡ true
    → kept_of v.run.kept (kind_byte said.statement) j ≡ None → KeepsHeard v j said a w → HearsRound v j r said a w
heard_so v j r said a w same runs none k =
    elim k [ inl f ↦ is_faulty f.0 same runs none f.1 f.2 f.3 | inr g ↦ goes_on g.0 same runs none g.1 g.2 g.3 ]

pub second_so : (v : ServerView) (j : ℕ) (r : Round) (said kept : SaidView) (a : Answer) (w : ServerView) → r ≡ v.run.r → v.run.is_running ≡ true
    → kept_of v.run.kept (kind_byte said.statement) j ≡ Some kept → kept.statement ≢ said.statement → a ≡ does (spoiled_twice j kept.statement said.statement ∷ []) → w ≡ ended v
    → HearsRound v j r said a w
second_so v j r said kept a w same runs there differs answer after =
    is_second kept.statement same runs (ap (option_map (λ (s : SaidView). s.statement)) there) differs answer after

pub same_round : (r q : Round) → r.0 ≤ q.0 → q.0 ≤ r.0 → r ≡ q
same_round r q a b = round_is r q (omega arith)
