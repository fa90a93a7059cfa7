use Rattle.std.proofs.Common.{rules, lit<}
use Rattle.dn_record_types.specs.declared.statement.Statement.TheVariants.{Accusation}
use Rattle.dn_seal.specs.Dealt.{slot}
use Rattle.dn_seal.proofs.SizeLemmas.{can_sign}
use Rattle.dn_accuse.proofs.tests.accusation.Goals as goal

pub returns : goal.returns
returns c = can_sign (slot 0) (Accusation (record { 0 = 2 }) (record { 0 = 0 }) c.args.k) (lit< tt) (search rules) tt
