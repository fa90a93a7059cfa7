use Rattle.dn_script.proofs.ScriptLaws.{script_known}
use Rattle.dn_script.proofs.laws.read_again.Goals as goal

pub returns : goal.returns
returns c = script_known
