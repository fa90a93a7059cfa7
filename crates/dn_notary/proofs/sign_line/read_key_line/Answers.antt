use Rattle.std.proofs.Common.{◌≡◌, ◌∙◌, length, sym, ap}
use Rattle.dn_lines.specs.declared.fault.LineFault.TheVariants.{Grammar}
use Rattle.dn_notary.proofs.SignedLaws.{found_key, no_key, same_key, refused_key}
use Rattle.dn_notary.proofs.sign_line.read_key_line.Goals as goal

pub returns-then-get-eq-PUBLIC-clause-found : goal.returns-then-get-eq-PUBLIC-clause-found
returns-then-get-eq-PUBLIC-clause-found c =
    let found = found_key c.args.line.now c.in-Ok.key c.in-Ok.ensures in
    ((found.0, ap length (sym c.get.ensures) ∙ c.if-get-eq-PUBLIC.true), found.1)

pub returns-else-get-eq-PUBLIC-clause-only : goal.returns-else-get-eq-PUBLIC-clause-only
returns-else-get-eq-PUBLIC-clause-only c = λ is other fits e.
    c.if-get-eq-PUBLIC.false (ap length (c.get.ensures ∙ same_key c.args.line.now c.in-Ok.key other c.in-Ok.ensures fits.0 e) ∙ fits.1)

pub returns-in-Err-clause-only : goal.returns-in-Err-clause-only
returns-in-Err-clause-only c = λ is key fits e.
    let same : c.in-Err.fault ≡ Grammar = cc in
    no_key c.args.line.now key (refused_key c.in-Err.fault _ c.in-Err.ensures same) fits.0 e
