use Rattle.dn_lines.proofs.FieldLaws.{between_exact, number_exact, long_number_exact, bytes_exact, client_exact, server_exact, slot_exact, round_exact, member_exact}
use Rattle.dn_lines.proofs.laws.fields_are_exact.Goals as goal

pub returns-clause-limited : goal.returns-clause-limited
returns-clause-limited c = between_exact

pub returns-clause-numbers : goal.returns-clause-numbers
returns-clause-numbers c = number_exact

pub returns-clause-long_numbers : goal.returns-clause-long_numbers
returns-clause-long_numbers c = long_number_exact

pub returns-clause-bytes : goal.returns-clause-bytes
returns-clause-bytes c = bytes_exact

pub returns-clause-clients : goal.returns-clause-clients
returns-clause-clients c = client_exact

pub returns-clause-servers : goal.returns-clause-servers
returns-clause-servers c = server_exact

pub returns-clause-slots : goal.returns-clause-slots
returns-clause-slots c = slot_exact

pub returns-clause-rounds : goal.returns-clause-rounds
returns-clause-rounds c = round_exact

pub returns-clause-members : goal.returns-clause-members
returns-clause-members c = member_exact
