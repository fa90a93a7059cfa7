-- What saying a statement of the round does to a server's parts.
use Rattle.std.specs.Prelude.{◌-◌}
use Rattle.dn_record_types.specs.declared.statement.Statement.{Statement}
use Rattle.dn_records.specs.Records.{kind_byte}
use Rattle.dn_server.specs.declared.parts.Parts.{Parts}
use Rattle.dn_server.specs.declared.run.Stage.{Stage}
use Rattle.dn_server.specs.Identity.{with_said, said_at}
use Rattle.dn_server.specs.Server.{kept_of}
use Rattle.dn_rounds.specs.Going.{with_own}

-- the parts after the server has said a statement of its round
abbrev pub spoken : Parts → Statement → Stage → Parts
spoken p s stage = record p {
  identity = with_said p.identity s;
  aside = p.aside - 1;
  run = record p.run { stage = stage; kept = with_own (kept_of p.run.kept (kind_byte s) p.identity.number) p.run.kept (said_at p.identity s) };
}
