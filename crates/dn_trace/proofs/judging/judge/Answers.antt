use Rattle.std.proofs.Common.{◌≡◌, ◌≢◌, ◌<◌, [], length, subst}
use Rattle.std.proofs.lemmas.List.Elements.{All-weaker}
use Rattle.std.proofs.lemmas.Result.{IfOk-weaker}
use Rattle.dn_record_types.specs.declared.statement.Statement.{Statement}
use Rattle.dn_wire.specs.declared.ids.SignerId.{SignerId}
use Rattle.dn_cert.specs.Evidence.{IsValid}
use Rattle.dn_trace.specs.Trial.{Trial}
use Rattle.dn_trace.specs.Verdict.{IsVerdict, IsHeld}
use Rattle.dn_trace.proofs.Somebody.{somebody}
use Rattle.dn_trace.proofs.judging.judge.Goals as goal

pub returns-clause-somebody : goal.returns-clause-somebody
returns-clause-somebody g c =
    let a = c.args in
    let trial : Trial = record { roster = a.roster.now; body = a.body.now; layout = a.layout.now; k = a.v.now.k; given = a.heard.now } in
    IfOk-weaker c.verdict_on.result
    (λ v. IsVerdict c.new-case.result v.blamed v.silent)
    (λ v. (who : SignerId) (s : Statement) → IsValid a.layout.now a.body.now who s a.v.now → v.silent ≡ [] → v.blamed ≢ [])
    (λ v is who s valid silent blamed.
    let held : IsHeld trial = record {
      one = valid.one;
      servers = c.servers-servers.ensures.limits.servers.0;
      listed = All-weaker (λ l. (l.client.0 < length a.roster.now.clients) × (l.server.0 < length a.roster.now.servers)) (λ l. l.server.0 < length a.roster.now.servers) (λ l h. h.1) a.body.now.listed c.requires.listed;
    } in
    let verdict : IsVerdict trial v.blamed [] = subst (IsVerdict trial v.blamed) silent (subst (λ t. IsVerdict t v.blamed v.silent) c.new-case.ensures is) in
    somebody trial v.blamed held verdict blamed)
    c.verdict_on.ensures
