-- What the lines read so far say about those behind them.
use Rattle.std.specs.Prelude.{ℕ, Bool, false, List, []}
use Rattle.dn_wire.specs.declared.ids.Member.{Member}
use Rattle.dn_script.specs.declared.context.Form.{Form}
use Rattle.dn_script.specs.declared.context.Form.TheVariants.{Nothing}
use Rattle.dn_script.specs.Judged.{Group}

-- The form that has begun, the numbers of its first line, the corrupt members, and the clients for which a plain script has said
-- something; whether the line before was the first of a group script, and whether the last line was read.
pub record Context : Type 0 where
  pub form : Form
  pub clients : ℕ
  pub servers : ℕ
  pub bits : ℕ
  pub corrupt : List Member
  pub said : List Member
  pub after_group : Bool
  pub ended : Bool

abbrev pub nothing_yet : Context
nothing_yet = record { form = Nothing; clients = 0; servers = 0; bits = 0; corrupt = []; said = []; after_group = false; ended = false }

abbrev pub group_in : Context → Group
group_in c = record { clients = c.clients; servers = c.servers; corrupt = c.corrupt }
