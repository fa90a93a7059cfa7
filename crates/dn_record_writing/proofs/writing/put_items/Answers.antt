use Rattle.std.proofs.Common.{subst, sym}
use Rattle.std.proofs.lemmas.List.Elements.{All-from_recursion}
use Rattle.dn_record_writing.proofs.writing.put_items.Goals as goal

pub put_item-requires : goal.put_item-requires
put_item-requires g c =
    subst g.T.WriteItem.fits (sym c.item-item.is)
    (All-from_recursion g.T.WriteItem.fits c.args.items.now c.requires c.loop-item.item-index c.item-item.result c.loop-item-test.true)
