use Rattle.std.proofs.Common.{◌≡◌, rules}
use Rattle.dn_verify.proofs.JudgedLemmas.{audit_right, audit_wrong}
use Rattle.dn_verify.proofs.report_judging.mark_rule.Goals as goal

pub returns-then-honest-some_honest_server-clause-rule : goal.returns-then-honest-some_honest_server-clause-rule
returns-then-honest-some_honest_server-clause-rule c = λ report course behind corrupt servers.
    let same : c.in-Audit.honest ≡ c.some_honest_server.result = search rules in
    audit_right report course behind c.args.line.now c.in-Audit.signed c.in-Audit.digests c.in-Audit.honest c.in-Audit.is c.some_honest_server.result c.args.corrupt.now c.args.servers
    c.some_honest_server.ensures corrupt servers same

pub returns-else-honest-some_honest_server-clause-rule : goal.returns-else-honest-some_honest_server-clause-rule
returns-else-honest-some_honest_server-clause-rule c = λ report course behind corrupt servers.
    let other : c.in-Audit.honest ≡ c.some_honest_server.result → ⊥ = search rules in
    audit_wrong report course behind c.args.line.now c.in-Audit.signed c.in-Audit.digests c.in-Audit.honest c.in-Audit.is c.some_honest_server.result c.args.corrupt.now c.args.servers
    c.some_honest_server.ensures corrupt servers other
