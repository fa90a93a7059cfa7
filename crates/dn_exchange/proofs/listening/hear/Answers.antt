use Rattle.std.proofs.Common.{◌≡◌, Some, None, refl, sym, ap, ◌∙◌, rules}
use Rattle.std.proofs.lemmas.Result.{IfOk-weaker}
use Rattle.dn_seal.specs.Said.{SaidView}
use Rattle.dn_server.specs.Keeping.{round_of}
use Rattle.dn_server.specs.Parts.{live}
use Rattle.dn_server.specs.Server.{ServerView}
use Rattle.dn_openings.specs.Hearing.{HearsEvidence}
use Rattle.dn_exchange.specs.Hearing.{HearsRound}
use Rattle.dn_exchange.specs.Listening.{Hears, not_by_server, of_round, of_evidence}
use Rattle.dn_exchange.proofs.listening.hear.Goals as goal

pub returns-in_default : goal.returns-in_default
returns-in_default g c =
    let v : ServerView = live c.args.parts.now in
    let said : SaidView = c.args.said.now in
    let after : ServerView = live c.hear.new.parts in
    let none : round_of said.statement ≡ None = ap round_of (sym c.statement.ensures.value) ∙ sym c.round_of.ensures ∙ c.in_default.is in
    record {
      heard = IfOk-weaker c.hear.result (λ a. HearsEvidence v said a after) (λ a. Hears v said a after) (λ a h. of_evidence none h) c.hear.ensures.heard;
      said = c.statement.ensures.said;
    }

pub hear_round-requires : goal.hear_round-requires
hear_round-requires g c =
    let round : round_of c.args.said.now.statement ≡ Some c.in-Some.r = ap round_of (sym c.statement.ensures.value) ∙ sym c.round_of.ensures ∙ c.in-Some.is in (
      search rules,
      (round, λ at. c.requires.round c.in-Server.j.0 (sym c.signer.ensures.value ∙ c.in-Server.is) (round ∙ ap Some at) c.statement.ensures.said),
    )

pub returns-in-Server : goal.returns-in-Server
returns-in-Server g c =
    let v : ServerView = live c.args.parts.now in
    let said : SaidView = c.args.said.now in
    let after : ServerView = live c.hear_round.new.parts in
    let j = c.in-Server.j.0 in
    let r = c.in-Some.r in
    record {
      heard = IfOk-weaker c.hear_round.result (λ a. HearsRound v j r said a after) (λ a. Hears v said a after)
          (λ a h. of_round j r (sym c.signer.ensures.value ∙ c.in-Server.is) (ap round_of (sym c.statement.ensures.value) ∙ sym c.round_of.ensures ∙ c.in-Some.is) h)
          c.hear_round.ensures;
      said = c.statement.ensures.said;
    }

pub returns-in_default-signer : goal.returns-in_default-signer
returns-in_default-signer g c =
    record {
      heard = not_by_server c.in-Some.r (ap round_of (sym c.statement.ensures.value) ∙ sym c.round_of.ensures ∙ c.in-Some.is)
          (λ j e. c.in_default-signer.not-Server record { 0 = j } (c.signer.ensures.value ∙ e)) refl refl;
      said = c.statement.ensures.said;
    }
