use Rattle.std.proofs.Common.{subst, sym, ◌≤◌, ap, length}
use Rattle.dn_record_types.specs.declared.body.Body.{Body}
use Rattle.dn_cert.specs.Chain.{IsHoldRefused}
use Rattle.dn_cert.proofs.ThinLemmas.{few_listed}
use Rattle.dn_client.proofs.Refusals.{refused_by}
use Rattle.dn_client.proofs.holding.take.Goals as goal

pub refusal-requires : goal.refusal-requires
refusal-requires c = subst (λ (b : Body). length b.listed ≤ 512) (sym c.body.ensures.value) (few_listed c.args.c.now c.body.ensures.certificate)

pub returns-in-Err-clause-refused : goal.returns-in-Err-clause-refused
returns-in-Err-clause-refused c =
    refused_by c.args.chain.now c.args.c.now.body c.in-Err.fault c.from-in-Err.result
    (subst (λ b. IsHoldRefused c.args.chain.now b c.in-Err.fault) (ap (λ x. x.body) c.in_ok-copy.ensures.same) c.in-Err.ensures.refused) c.from-in-Err.ensures
