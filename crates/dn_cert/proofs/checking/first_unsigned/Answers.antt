use Rattle.std.proofs.Common.{◌≡◌, ℕ, List, [], get_or, ap, subst, ◌∙◌, arith}
use borrow.Author.Count.{below_more}
use Rattle.std.proofs.lemmas.List.{get_or_default}
use Rattle.dn_wire.specs.declared.ids.SignerId.TheVariants.{Server}
use Rattle.dn_records.specs.Records.{statement_bytes}
use Rattle.dn_record_types.specs.declared.statement.Statement.TheVariants.{Sign}
use Rattle.dn_lms.specs.Signature.{Verifies}
use Rattle.dn_roster.specs.Roster.{digest_of, signed_bytes_of}
use Rattle.dn_cert.specs.Certificate.{IsSignedAt}
use Rattle.dn_cert.proofs.checking.first_unsigned.Goals as goal

pub loop-j-preserved : goal.loop-j-preserved
loop-j-preserved c =
    let roster = c.args.roster.now in
    let j = c.loop-j.j in
    let bytes : c.deref.result.now ≡ statement_bytes (Sign c.args.body.now) = c.deref.ensures.value ∙ c.in_ok-statement.ensures in
    let signed : c.deref-in-loop-j.result.now ≡ signed_bytes_of (digest_of roster) (Server record { 0 = j }) (statement_bytes (Sign c.args.body.now)) =
    c.deref-in-loop-j.ensures.value ∙ c.in_ok-signed.ensures ∙ ap (signed_bytes_of (digest_of roster) (Server record { 0 = j })) bytes in
    let default : get_or c.args.signatures.now j c.index-signatures-j.result ≡ get_or c.args.signatures.now j [] =
    get_or_default c.args.signatures.now j c.index-signatures-j.result [] (omega (arith, c.requires.each)) in
    let signature : c.get.result.now ≡ get_or c.args.signatures.now j [] = c.get.ensures ∙ c.index-signatures-j.is ∙ default in
    let holds : Verifies c.server_key.result.now c.deref-in-loop-j.result.now c.get.result.now = c.verify.ensures.0 c.if-not-verify.false in
    let here : IsSignedAt (digest_of roster) roster.servers c.args.body.now c.args.signatures.now j =
    subst (λ (k : List ℕ). Verifies k (signed_bytes_of (digest_of roster) (Server record { 0 = j }) (statement_bytes (Sign c.args.body.now))) (get_or c.args.signatures.now j [])) c.server_key.ensures.key
    (subst (λ (m : List ℕ). Verifies c.server_key.result.now m (get_or c.args.signatures.now j [])) signed
    (subst (λ (s : List ℕ). Verifies c.server_key.result.now c.deref-in-loop-j.result.now s) signature holds)) in
    below_more (IsSignedAt (digest_of roster) roster.servers c.args.body.now c.args.signatures.now) j c.loop-j.invariant here
