use Rattle.std.proofs.Common.{◌∙◌}
use Rattle.dn_server.proofs.KeptLemmas.{kept_kind}
use Rattle.dn_server.proofs.Shapes.{sign_shape}
use Rattle.dn_rounds.proofs.gathering.body_by.Goals as goal

pub unreachable-requires-in_default-statement : goal.unreachable-requires-in_default-statement
unreachable-requires-in_default-statement c =
    let said = c.in-Some.said.now in
    let is = sign_shape said.statement (kept_kind c.args.kept.now 6 c.args.j.0 said c.in-Some.ensures) in
    c.in_default-statement.not-Sign is.0 (c.statement.ensures.value ∙ is.1)
