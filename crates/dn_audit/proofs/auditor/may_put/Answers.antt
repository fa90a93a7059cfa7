use Rattle.std.proofs.Common.{ℕ, List, subst}
use Rattle.std.specs.Prelude.{IfOk, IsTrue, ◌↔◌}
use Rattle.dn_record_types.specs.declared.payload.Payload.{Payload}
use Rattle.dn_record_types.specs.declared.payload.Payload.TheVariants as payloads
use Rattle.dn_audit.specs.Signatures.{IsPayloadOf}
use Rattle.dn_audit.specs.Auditor.{SealsAreTheirs, SignaturesAreTheirs}
use Rattle.dn_audit.proofs.Payloads.{PartsOfPayload, both_payload, same_answer}
use Rattle.dn_audit.proofs.auditor.may_put.Goals as goal

pub returns-in-Ok-Submission : goal.returns-in-Ok-Submission
returns-in-Ok-Submission c =
    let k = c.args.known.now in
    let s = c.in-Ok-Submission in
    let at : IsPayloadOf c.args.bytes.now s.field-0 = record { fits = s.ensures.found.0; spelled = s.ensures.found.1 } in
    let both = subst (λ (p : Payload). PartsOfPayload k.roster.now k.group.now k.signings.now p ↔ SignaturesAreTheirs k.roster.now k.group.now k.signings.now c.args.bytes.now) s.field-0-is
    (both_payload k.roster.now k.group.now k.signings.now c.args.bytes.now s.field-0 at) in
    same_answer c.may_be_put.result (SealsAreTheirs k.roster.now k.group.now k.signings.now s.envelope) _ both
    (subst (λ (x : List ℕ). IfOk c.may_be_put.result (λ b. IsTrue b ↔ SealsAreTheirs k.roster.now k.group.now k.signings.now x)) c.get.ensures c.may_be_put.ensures)

pub returns-in-Ok-Plain : goal.returns-in-Ok-Plain
returns-in-Ok-Plain c =
    let k = c.args.known.now in
    let s = c.in-Ok-Plain in
    let at : IsPayloadOf c.args.bytes.now s.field-0 = record { fits = s.ensures.found.0; spelled = s.ensures.found.1 } in
    let both = subst (λ (p : Payload). PartsOfPayload k.roster.now k.group.now k.signings.now p ↔ SignaturesAreTheirs k.roster.now k.group.now k.signings.now c.args.bytes.now) s.field-0-is
    (both_payload k.roster.now k.group.now k.signings.now c.args.bytes.now s.field-0 at) in
    same_answer c.may_be_put-in-Ok-Plain.result (SealsAreTheirs k.roster.now k.group.now k.signings.now s.envelope) _ both
    (subst (λ (x : List ℕ). IfOk c.may_be_put-in-Ok-Plain.result (λ b. IsTrue b ↔ SealsAreTheirs k.roster.now k.group.now k.signings.now x)) c.get-in-Ok-Plain.ensures
    c.may_be_put-in-Ok-Plain.ensures)

pub returns-in-Ok-Certificate : goal.returns-in-Ok-Certificate
returns-in-Ok-Certificate c =
    let k = c.args.known.now in
    let s = c.in-Ok-Certificate in
    let at : IsPayloadOf c.args.bytes.now s.field-0 = record { fits = s.ensures.found.0; spelled = s.ensures.found.1 } in
    let both = subst (λ (p : Payload). PartsOfPayload k.roster.now k.group.now k.signings.now p ↔ SignaturesAreTheirs k.roster.now k.group.now k.signings.now c.args.bytes.now) s.field-0-is
    (both_payload k.roster.now k.group.now k.signings.now c.args.bytes.now s.field-0 at) in
    same_answer c.may_certify.result (PartsOfPayload k.roster.now k.group.now k.signings.now (payloads.Certificate s.body s.signatures)) _ both c.may_certify.ensures

pub returns-in-Ok-Challenge : goal.returns-in-Ok-Challenge
returns-in-Ok-Challenge c =
    let k = c.args.known.now in
    let s = c.in-Ok-Challenge in
    let at : IsPayloadOf c.args.bytes.now s.field-0 = record { fits = s.ensures.found.0; spelled = s.ensures.found.1 } in
    let both = subst (λ (p : Payload). PartsOfPayload k.roster.now k.group.now k.signings.now p ↔ SignaturesAreTheirs k.roster.now k.group.now k.signings.now c.args.bytes.now) s.field-0-is
    (both_payload k.roster.now k.group.now k.signings.now c.args.bytes.now s.field-0 at) in
    same_answer c.may_challenge.result (PartsOfPayload k.roster.now k.group.now k.signings.now (payloads.Challenge s.field-0-0 s.field-0-1 s.envelopes)) _ both c.may_challenge.ensures
