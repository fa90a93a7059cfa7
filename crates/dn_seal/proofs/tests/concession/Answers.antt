use Rattle.std.proofs.Common.{◌≡◌, length, refl, arith}
use Rattle.dn_records.specs.Fields.{spell_number}
use Rattle.dn_records.specs.Records.{statement_bytes}
use Rattle.dn_record_types.specs.declared.statement.Statement.TheVariants.{Concede}
use Rattle.dn_seal.proofs.tests.concession.Goals as goal

pub returns : goal.returns
unfolding statement_bytes spell_number
returns c =
    let long : length (statement_bytes (Concede record { 0 = c.args.r } 7)) ≡ 13 = refl in
    (((omega arith, omega arith), omega arith), (omega (arith, long), (c.ranges.r.fits, omega arith)))
