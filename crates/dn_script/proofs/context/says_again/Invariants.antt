use Rattle.std.proofs.Common.{◌≡◌, drop}
use Rattle.dn_wire.specs.declared.ids.Member.TheVariants.{Client}
use Rattle.dn_script.specs.Judged.{is_among}
use Rattle.dn_script.specs.Script.{client_number}
use Rattle.dn_script.proofs.context.says_again.Given as goal

abbrev pub invariant-loop-m : goal.invariant-loop-m
invariant-loop-m l =
    is_among (Client ((client_number 0).value l.text)) (drop l.m-index l.said) ≡ is_among (Client ((client_number 0).value l.text)) l.said
