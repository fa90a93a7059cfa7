use Rattle.std.proofs.Common.{◌≡◌, length}
use Rattle.dn_lines.specs.Form.{read_each}
use Rattle.dn_lines.proofs.Loop.{with_front}
use Rattle.dn_report.specs.Forms.{pair}
use Rattle.dn_report.proofs.reading_lists.pair_list.Given as goal

abbrev pub invariant-loop-text : goal.invariant-loop-text
invariant-loop-text l = with_front l.list.items (read_each pair.read l.fields) ≡ read_each pair.read l.initial.fields

abbrev pub decreases-loop-text : goal.decreases-loop-text
decreases-loop-text l = length l.fields
