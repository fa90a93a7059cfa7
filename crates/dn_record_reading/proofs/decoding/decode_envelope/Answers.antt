use Rattle.std.proofs.Common.{◌≡◌, ap, subst, ◌∙◌, arith}
use Rattle.dn_record_types.specs.Part.{Gives}
use Rattle.dn_record_types.specs.Records.{envelope_bytes, IsEnvelope, envelope_of}
use Rattle.dn_record_types.proofs.RecordLaws.{envelope_found, envelope_again, found_by}
use Rattle.dn_record_reading.proofs.decoding.decode_envelope.Goals as goal

pub returns-clause-found : goal.returns-clause-found
returns-clause-found c = found_by c.whole_envelope.result (envelope_of c.args.bytes.now) (λ x. IsEnvelope x × (c.args.bytes.now ≡ envelope_bytes x)) c.whole_envelope.ensures (envelope_found c.args.bytes.now (λ i. omega (arith, c.type_inv.bytes i)))

pub returns-clause-only : goal.returns-clause-only
returns-clause-only c = λ x fits e. subst (λ f. Gives c.whole_envelope.result f) (ap envelope_of e ∙ envelope_again x fits) c.whole_envelope.ensures
