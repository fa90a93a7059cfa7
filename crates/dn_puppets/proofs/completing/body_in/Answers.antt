use Rattle.std.proofs.Common.{◌∙◌, sym}
use Rattle.dn_puppets.proofs.Spelled.{said_body}
use Rattle.dn_puppets.proofs.completing.body_in.Goals as goal

pub returns-in-Sign : goal.returns-in-Sign
returns-in-Sign c =
    said_body c.in_ok-said_in.field-0.now c.in-Sign.body c.statement.ensures.said (sym c.statement.ensures.value ∙ c.in-Sign.is)
