use Rattle.std.proofs.Common.{◌≡◌, ◌∙◌, ◌<◌, ℕ, Some, length, ap, subst, sym, refl}
use Rattle.dn_record_types.specs.declared.body.Body.{Body}
use Rattle.dn_record_types.specs.declared.statement.Statement.TheVariants as kinds
use Rattle.dn_roster.specs.Roster.{RosterView}
use Rattle.dn_cert.specs.Chain.{CanFollow}
use Rattle.dn_server.specs.Keeping.{HasAll}
use Rattle.dn_server.specs.Server.{statement_of}
use Rattle.dn_rounds.specs.Going.{IsAgreed}
use Rattle.dn_rounds.specs.Going.Step.{certifies}
use Rattle.dn_server.specs.Parts.{live}
use Rattle.dn_rounds.specs.Certifying.{IsCertifiable}
use Rattle.dn_rounds.proofs.CertifyLemmas.{all_sign}
use Rattle.dn_rounds.proofs.certifying.certify_round.Goals as goal
use Rattle.dn_rounds.proofs.certifying.certify_round.Goals.{In_ok-body}

-- the body that the server signed
own : (c : In_ok-body) → statement_of c.args.parts.now.run.kept 6 c.args.parts.now.identity.number ≡ Some (kinds.Sign c.in_ok-body.body)
own c =
    let kept = c.args.parts.now.run.kept in
    subst (λ (k : ℕ). statement_of kept 6 k ≡ Some (kinds.Sign c.in_ok-body.body)) c.number.ensures
    (c.body_by.ensures.value ∙ ap (λ (b : Body). Some (kinds.Sign b)) (sym c.in_ok-body.ensures))

ready : (c : In_ok-body) → IsCertifiable c.args.parts.now c.in_ok-body.body
ready c = c.requires.ready c.in_ok-body.body (own c)

signs : (c : In_ok-body) → (j : ℕ) → j < length c.args.parts.now.identity.roster.servers → statement_of c.args.parts.now.run.kept 6 j ≡ Some (kinds.Sign c.in_ok-body.body)
signs c =
    let p = c.args.parts.now in
    let n = c.servers-n.ensures.value ∙ ap (λ (r : RosterView). length r.servers) c.roster.ensures.value in
    let full = subst (λ (k : ℕ). HasAll 6 p.run.kept k) n (c.is_full.ensures.full c.if-not-is_full.false) in
    all_sign p.run.kept (length p.identity.roster.servers) c.in_ok-body.body full (ready c).unopposed

pub certificate-requires-clause-signs : goal.certificate-requires-clause-signs
certificate-requires-clause-signs c = signs (goal.at.certificate-requires-clause-signs c).In_ok-body

pub certificate-requires-clause-group : goal.certificate-requires-clause-group
certificate-requires-clause-group c = (ready (goal.at.certificate-requires-clause-group c).In_ok-body).group

pub announce-requires : goal.announce-requires
announce-requires c =
    subst (λ (b : Body). CanFollow c.args.parts.now.chain b) (sym c.in_ok-certificate.ensures.body) (ready (goal.at.announce-requires c).In_ok-body).follows

pub returns : goal.returns
returns c =
    let p = c.args.parts.now in
    let b = c.in_ok-body.body in
    let x = c.in_ok-certificate.certificate in
    let at : IsAgreed (live p) b = record { stage = c.requires.stage; signs = signs (goal.at.returns c).In_ok-body } in
    let follows = subst (λ (y : Body). CanFollow p.chain y) (sym c.in_ok-certificate.ensures.body) (ready (goal.at.returns c).In_ok-body).follows in
    (_, c.in_ok-announce.ensures.told, certifies b x at c.in_ok-certificate.ensures follows refl c.in_ok-announce.ensures.after)
