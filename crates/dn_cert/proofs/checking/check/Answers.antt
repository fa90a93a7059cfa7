use Rattle.std.proofs.Common.{◌≡◌, sym, subst}
use Rattle.std.specs.Prelude.{◌⊎◌, IfErr}
use Rattle.dn_cert.specs.declared.fault.CertFault.TheVariants as refusals
use Rattle.dn_cert.specs.Certificate.{ArePartsRefused, IsRefused}
use Rattle.dn_cert.proofs.RefusalLemmas.{refused_for_memory, refused_for_form, same_parts, refused_if, accepted_if}
use Rattle.dn_cert.proofs.checking.check.Goals as goal

pub returns-in-Err-clause-signed : goal.returns-in-Err-clause-signed
returns-in-Err-clause-signed c =
    let r = refused_for_form c.args.roster.now c.args.bytes.now c.in-Err.fault c.in-Err.ensures.exact in
    λ b s k e. refused_for_memory c.args.roster.now c.args.bytes.now b s k e c.from.result (subst (IsRefused c.args.roster.now c.args.bytes.now) (sym c.from.ensures) r)

pub returns-clause-refused : goal.returns-clause-refused
returns-clause-refused c =
    let e = c.in-Ok.ensures.exact in
    let u = subst (λ s. IfErr c.certified.result (λ f. (f ≡ refusals.NoMemory) ⊎ ArePartsRefused c.args.roster.now c.in-Ok.parts.0 s f)) c.get.ensures c.certified.ensures.refused in
    refused_if c.args.roster.now c.args.bytes.now c.in-Ok.parts.0 c.in-Ok.parts.1 c.certified.result e u

pub returns-clause-signed : goal.returns-clause-signed
returns-clause-signed c = λ b s k e.
    let parts = same_parts c.args.roster.now c.args.bytes.now b s k e c.in-Ok.parts.0 c.in-Ok.parts.1 c.in-Ok.ensures.exact in
    accepted_if c.args.roster.now c.args.bytes.now b s c.certified.result c.in-Ok.parts.0 k e parts.0 c.certified.ensures.certificate (returns-clause-refused c)
