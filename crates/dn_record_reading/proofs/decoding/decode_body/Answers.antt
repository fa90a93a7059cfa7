use Rattle.std.proofs.Common.{◌≡◌, ap, subst, ◌∙◌, arith}
use Rattle.dn_record_types.specs.Part.{Gives}
use Rattle.dn_record_types.specs.Records.{body_bytes, IsBody, body_of}
use Rattle.dn_record_types.proofs.RecordLaws.{body_found, body_again, found_by}
use Rattle.dn_record_reading.proofs.decoding.decode_body.Goals as goal

pub returns-clause-found : goal.returns-clause-found
returns-clause-found c = found_by c.whole_body.result (body_of c.args.bytes.now) (λ x. IsBody x × (c.args.bytes.now ≡ body_bytes x)) c.whole_body.ensures (body_found c.args.bytes.now (λ i. omega (arith, c.type_inv.bytes i)))

pub returns-clause-only : goal.returns-clause-only
returns-clause-only c = λ x fits e. subst (λ f. Gives c.whole_body.result f) (ap body_of e ∙ body_again x fits) c.whole_body.ensures
