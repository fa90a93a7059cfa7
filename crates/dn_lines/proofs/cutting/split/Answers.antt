use Rattle.std.proofs.Common.{◌≡◌, get_or, subst}
use Rattle.std.specs.Prelude.{false, ◌==◌}
use Rattle.std.proofs.lemmas.Bool.{ne_eqb}
use Rattle.std.proofs.lemmas.List.{take_all}
use Rattle.std.proofs.lemmas.List.Elements.{All-more}
use Rattle.dn_lines.specs.Exact.{IsFree}
use Rattle.dn_lines.proofs.cutting.split.Goals as goal

pub loop-i-preserved : goal.loop-i-preserved
loop-i-preserved c =
    All-more (λ b. (b == c.args.byte) ≡ false) c.args.line.now c.loop-i.i 0 c.loop-i-test.true c.loop-i.invariant
    (ne_eqb (get_or c.args.line.now c.loop-i.i 0) c.args.byte c.if-b-byte.false)

pub returns : goal.returns
returns c = subst (IsFree c.args.byte) (take_all c.loop-i.i c.args.line.now c.loop-i-test.false) c.loop-i.invariant
