use Rattle.dn_record_types.proofs.FieldLaws.{byte_exact, short_exact, word_exact, long_exact, up_to_exact, exactly_exact}
use Rattle.dn_record_types.proofs.BitLaws.{bits_exact}
use Rattle.dn_record_types.proofs.one_spelling.fields_are_exact.Goals as goal

pub returns-clause-byte : goal.returns-clause-byte
returns-clause-byte c = byte_exact

pub returns-clause-short : goal.returns-clause-short
returns-clause-short c = short_exact

pub returns-clause-word : goal.returns-clause-word
returns-clause-word c = word_exact

pub returns-clause-long : goal.returns-clause-long
returns-clause-long c = long_exact

pub returns-clause-limited : goal.returns-clause-limited
returns-clause-limited c = up_to_exact

pub returns-clause-bytes : goal.returns-clause-bytes
returns-clause-bytes c = exactly_exact

pub returns-clause-bits : goal.returns-clause-bits
returns-clause-bits c = bits_exact
