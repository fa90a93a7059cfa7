use Rattle.std.specs.Prelude.{codes}
use Rattle.dn_lines.specs.Fields.{member}
use Rattle.dn_report.proofs.ListedLaws.{word_and_each}
use Rattle.dn_report.proofs.putting_lists.put_corrupt_header.Goals as goal

pub returns : goal.returns
returns c =
    word_and_each (codes "corrupt") member.spell c.args.members.now c.args.out.now.items c.put_bytes.new.out.items c.add_members.new.out.items
    c.in_ok-put_bytes.ensures.ok c.in_ok-add_members.ensures
