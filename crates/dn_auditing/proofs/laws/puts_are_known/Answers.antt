use Rattle.dn_auditing.proofs.Putting.{first_put}
use Rattle.dn_auditing.proofs.laws.puts_are_known.Goals as goal

pub returns : goal.returns
returns c = λ g is_roster marked marks puts made p old mid looked new more own knows notes looks adds shows.
    first_put g is_roster marked marks puts made p old mid looked new more own knows notes looks adds shows
