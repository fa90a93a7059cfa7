use Rattle.std.proofs.Common.{◌∙◌, ℕ, List, length, subst, sym}
use Rattle.dn_record_types.specs.declared.body.Body.{Body}
use Rattle.dn_record_types.specs.declared.payload.Payload.TheVariants as payloads
use Rattle.dn_records.specs.Records.{payload_bytes}
use Rattle.dn_roster.specs.Roster.{RosterView, digest_of}
use Rattle.dn_cert.specs.Certificate.{CertificateView, IsCertificateUnder, IsSigned}
use Rattle.dn_server.specs.Parts.{live}
use Rattle.dn_rounds.specs.Certifying.{AreSignatures}
use Rattle.dn_rounds.specs.Going.{IsCertificateOf}
use Rattle.dn_rounds.proofs.CertifyLemmas.{are_signed, if_both}
use Rattle.dn_rounds.proofs.certifying.certificate.Goals as goal
use Rattle.dn_rounds.proofs.certifying.certificate.Goals.{In_ok-copy}

mine : (c : In_ok-copy) → AreSignatures c.args.parts.now.identity.roster c.args.parts.now.run.kept c.args.b.now (length c.args.parts.now.identity.roster.servers) c.in_ok-signatures.signatures.items
mine c =
    let kept = c.args.parts.now.run.kept in
    let sigs = c.in_ok-signatures.signatures.items in
    let made = subst (λ (k : ℕ). AreSignatures c.roster-roster.result.now kept c.args.b.now k sigs) c.servers.ensures.value c.in_ok-signatures.ensures in
    subst (λ (r : RosterView). AreSignatures r kept c.args.b.now (length r.servers) sigs) c.roster-roster.ensures.value made

abbrev IsSignedUnder : RosterView → Body → List (List ℕ) → Type 0
IsSignedUnder roster b signatures = IsSigned (digest_of roster) roster.version (length roster.clients) roster.servers b signatures

pub certify-requires : goal.certify-requires
certify-requires c =
    let here = (goal.at.certify-requires c).In_ok-copy in
    let sigs = c.in_ok-signatures.signatures.items in
    let roster = c.args.parts.now.identity.roster in
    let is = are_signed roster c.args.parts.now.run.kept c.args.b.now sigs (mine here) c.requires.group (c.requires.fits sigs (mine here)) in
    subst (λ (b : Body). IsSignedUnder c.roster-roster.result.now b c.of.result) (sym c.in_ok-copy.ensures)
    (subst (λ (l : List (List ℕ)). IsSignedUnder c.roster-roster.result.now c.args.b.now l) (sym c.of.ensures)
    (subst (λ (r : RosterView). IsSignedUnder r c.args.b.now sigs) (sym c.roster-roster.ensures.value) is))

pub returns : goal.returns
returns c =
    let here = (goal.at.returns c).In_ok-copy in
    let sigs = c.in_ok-signatures.signatures.items in
    let all = mine here in
    if_both c.certify.result _ _ (IsCertificateOf (live c.args.parts.now) c.args.b.now)
    (λ (x : CertificateView) is parts. record {
      signatures = sigs;
      certificate = is.0;
      under = subst (λ (r : RosterView). IsCertificateUnder r x) c.roster-roster.ensures.value is.1;
      body = parts.0 ∙ c.in_ok-copy.ensures;
      bytes = parts.1 ∙ (λ i. payload_bytes (payloads.Certificate (c.in_ok-copy.ensures i) (c.of.ensures i)));
      each = all.each;
      kept = λ j signature there. (all.by j signature there).kept_so;
    })
    c.certify.ensures.certificate c.certify.ensures.parts
