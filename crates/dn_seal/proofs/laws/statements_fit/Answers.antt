use Rattle.dn_seal.proofs.SizeLemmas.{can_sign, bytes_few, said_few}
use Rattle.dn_seal.proofs.laws.statements_fit.Goals as goal

pub returns-clause-can : goal.returns-clause-can
returns-clause-can c = can_sign

pub returns-clause-bytes : goal.returns-clause-bytes
returns-clause-bytes c = bytes_few

pub returns-clause-said : goal.returns-clause-said
returns-clause-said c = said_few
