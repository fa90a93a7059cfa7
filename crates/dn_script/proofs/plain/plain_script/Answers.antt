use Rattle.dn_script.proofs.PlainLaws.{rest_can_say, begun_is_script}
use Rattle.dn_script.proofs.plain.plain_script.Goals as goal

pub lines_behind-requires : goal.lines_behind-requires
lines_behind-requires c =
    rest_can_say c.in-Some.field-0-0.now c.in-Plain.clients c.in-Plain.servers c.in-Plain.bits c.in-Plain.seed c.lines.result.now c.in-Some.rest.now c.args.script.now
    c.lines.ensures c.in-Some.ensures.cases.0 c.in-Plain.is c.requires

pub returns-clause-legal : goal.returns-clause-legal
returns-clause-legal c =
    begun_is_script c.in-Some.field-0-0.now c.in-Plain.clients c.in-Plain.servers c.in-Plain.bits c.in-Plain.seed c.lines.result.now c.in-Some.rest.now c.args.script.now
    c.lines.ensures c.in-Some.ensures.cases.0 c.in-Plain.is c.requires c.in_ok-lines_behind.field-0.items c.in_ok-lines_behind.ensures
