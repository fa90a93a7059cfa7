use Rattle.std.proofs.Common.{◌∷◌, [], ℕ, List, replicate, rules, lit<}
use Rattle.dn_record_types.specs.declared.statement.Statement.TheVariants.{Rebuttal}
use Rattle.dn_seal.specs.Dealt.{slot}
use Rattle.dn_seal.proofs.SizeLemmas.{can_sign}
use Rattle.dn_accuse.proofs.tests.empty_rebuttal.Goals as goal

pub returns : goal.returns
returns c = can_sign (slot 0) (Rebuttal (record { 0 = 2 }) 100 (record { 0 = 1 }) (replicate 32 7) c.of.result) (lit< tt) (search rules) tt
