use Rattle.std.proofs.Common.{◌≡◌, ap, subst, ◌∙◌, arith}
use Rattle.dn_record_types.specs.Part.{Gives}
use Rattle.dn_record_types.specs.Records.{statement_bytes, IsStatement, statement_of}
use Rattle.dn_record_types.proofs.RecordLaws.{statement_found, statement_again, found_by}
use Rattle.dn_record_reading.proofs.decoding.decode.Goals as goal

pub returns-clause-found : goal.returns-clause-found
returns-clause-found c = found_by c.whole_statement.result (statement_of c.args.bytes.now) (λ x. IsStatement x × (c.args.bytes.now ≡ statement_bytes x)) c.whole_statement.ensures (statement_found c.args.bytes.now (λ i. omega (arith, c.type_inv.bytes i)))

pub returns-clause-only : goal.returns-clause-only
returns-clause-only c = λ x fits e. subst (λ f. Gives c.whole_statement.result f) (ap statement_of e ∙ statement_again x fits) c.whole_statement.ensures
