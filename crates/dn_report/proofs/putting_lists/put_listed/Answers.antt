use Rattle.std.specs.Prelude.{codes}
use Rattle.std.specs.Fmt.{decimal}
use Rattle.dn_report.specs.Forms.{pair}
use Rattle.dn_report.proofs.ListedLaws.{words_and_each}
use Rattle.dn_report.proofs.putting_lists.put_listed.Goals as goal

pub returns : goal.returns
returns c =
    words_and_each (codes "listed") (decimal c.args.r.0) pair.spell c.args.pairs.now c.args.out.now.items c.put_bytes.new.out.items c.add_number.new.out.items c.add_pairs.new.out.items
    c.in_ok-put_bytes.ensures.ok c.in_ok-add_number.ensures c.in_ok-add_pairs.ensures
