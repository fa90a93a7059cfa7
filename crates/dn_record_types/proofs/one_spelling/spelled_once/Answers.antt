use Rattle.dn_record_types.proofs.RecordLaws.{statement_once, body_once, envelope_once, payload_once}
use Rattle.dn_record_types.proofs.one_spelling.spelled_once.Goals as goal

pub returns-clause-statements : goal.returns-clause-statements
returns-clause-statements c = statement_once

pub returns-clause-bodies : goal.returns-clause-bodies
returns-clause-bodies c = body_once

pub returns-clause-envelopes : goal.returns-clause-envelopes
returns-clause-envelopes c = envelope_once

pub returns-clause-payloads : goal.returns-clause-payloads
returns-clause-payloads c = payload_once
