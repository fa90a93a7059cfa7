use Rattle.std.proofs.Common.{◌∙◌, ◌+◌, sym}
use Rattle.dn_script.specs.Script.{at_end}
use Rattle.dn_script.proofs.ParsingLaws.{nothing_left, something_left, ends_here, gives_same}
use Rattle.dn_script.proofs.parsing.finish.Goals as goal

pub returns-then-is_empty : goal.returns-then-is_empty
returns-then-is_empty c =
    gives_same c.ended.result _ _ (nothing_left c.args.read.lines.items c.args.rest.now c.args.read.reading c.args.number c.args.read.count (sym c.is_empty.ensures ∙ c.if-is_empty.true)) c.ended.ensures

pub returns-in-Ok : goal.returns-in-Ok
returns-in-Ok c =
    let left = something_left c.args.read.lines.items c.args.rest.now c.args.read.reading c.args.number c.args.read.count (sym c.is_empty.ensures ∙ c.if-is_empty.false) in
    gives_same c.ended-in-Ok.result _ _ (left ∙ c.in-Ok.ensures.read (λ d k. at_end d (c.args.number + 1))) c.ended-in-Ok.ensures

pub returns-in-Err : goal.returns-in-Err
returns-in-Err c =
    let left = something_left c.args.read.lines.items c.args.rest.now c.args.read.reading c.args.number c.args.read.count (sym c.is_empty.ensures ∙ c.if-is_empty.false) in
    ends_here c.in-Err.fault _ _ _ left (c.in-Err.ensures.read (λ d k. at_end d (c.args.number + 1)))
