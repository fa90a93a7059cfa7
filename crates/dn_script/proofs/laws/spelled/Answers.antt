use Rattle.dn_script.proofs.ScriptLaws.{script_spelled}
use Rattle.dn_script.proofs.laws.spelled.Goals as goal

pub returns : goal.returns
returns c = script_spelled
