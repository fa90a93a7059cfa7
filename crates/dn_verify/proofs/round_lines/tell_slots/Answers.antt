use Rattle.dn_verify.specs.Telling.{slot_lines}
use Rattle.dn_verify.proofs.RoundLemmas.{items_more}
use Rattle.dn_verify.proofs.round_lines.tell_slots.Goals as goal

pub loop-slot-preserved : goal.loop-slot-preserved
loop-slot-preserved c =
    items_more (slot_lines c.args.r c.args.layout.now c.args.output.now) c.loop-slot.slot c.args.due.now.items c.loop-slot.due.items c.tell_slot.new.due.items
    c.loop-slot.invariant c.in_ok-tell_slot.ensures
