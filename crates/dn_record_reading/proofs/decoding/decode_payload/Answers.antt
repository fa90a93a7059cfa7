use Rattle.std.proofs.Common.{◌≡◌, ap, subst, ◌∙◌, arith}
use Rattle.dn_record_types.specs.Part.{Gives}
use Rattle.dn_record_types.specs.Records.{payload_bytes, IsPayload, payload_of}
use Rattle.dn_record_types.proofs.RecordLaws.{payload_found, payload_again, found_by}
use Rattle.dn_record_reading.proofs.decoding.decode_payload.Goals as goal

pub returns-clause-found : goal.returns-clause-found
returns-clause-found c = found_by c.whole_payload.result (payload_of c.args.bytes.now) (λ x. IsPayload x × (c.args.bytes.now ≡ payload_bytes x)) c.whole_payload.ensures (payload_found c.args.bytes.now (λ i. omega (arith, c.type_inv.bytes i)))

pub returns-clause-only : goal.returns-clause-only
returns-clause-only c = λ x fits e. subst (λ f. Gives c.whole_payload.result f) (ap payload_of e ∙ payload_again x fits) c.whole_payload.ensures
