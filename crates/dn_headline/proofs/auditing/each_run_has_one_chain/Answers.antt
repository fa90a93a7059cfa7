use Rattle.dn_headline.specs.Group.{clients_of}
use Rattle.dn_headline.specs.Run.{log}
use Rattle.dn_headline.proofs.ChainOfRun.{chain_exists, chain_is_one}
use Rattle.dn_headline.proofs.auditing.each_run_has_one_chain.Goals as goal

pub returns-clause-some : goal.returns-clause-some
returns-clause-some c w are = chain_exists w.group.roster (clients_of w.group) (log w).puts are

pub returns-clause-one : goal.returns-clause-one
returns-clause-one c w a b x y = chain_is_one w.group.roster (clients_of w.group) (log w).puts a b x y
