use Rattle.std.proofs.Common.{◌≡◌, ◌∷◌, ◌∙◌}
use Rattle.std.proofs.lemmas.Result.{IfOk-weaker}
use Rattle.dn_records.specs.Records.{statement_bytes}
use Rattle.dn_record_types.specs.declared.statement.Statement.TheVariants.{Sign}
use Rattle.dn_cert.proofs.SpelledBody.{sign_spelled}
use Rattle.dn_cert.proofs.checking.sign_bytes.Goals as goal

pub returns : goal.returns
returns c =
    IfOk-weaker c.behind_kind.result (λ v. v.items ≡ 6 ∷ c.body_part.result.now) (λ v. v.items ≡ statement_bytes (Sign c.args.body.now))
    (λ v is. is ∙ sign_spelled c.args.body.now c.body_part.result.now c.body_part.ensures) c.behind_kind.ensures
