use Rattle.dn_record_types.specs.declared.body.Listed.{Listed}
use Rattle.dn_cert.proofs.Parts.{parts_whole, parts_rows, parts_have}
use Rattle.dn_cert.proofs.trim_laws.servers_part_the_list.Goals as goal

pub returns-clause-whole : goal.returns-clause-whole
returns-clause-whole c = parts_whole (λ (l : Listed). l.server.0)

pub returns-clause-rows : goal.returns-clause-rows
returns-clause-rows c = parts_rows (λ (l : Listed). l.server.0)

pub returns-clause-given : goal.returns-clause-given
returns-clause-given c = parts_have (λ (l : Listed). l.server.0)
