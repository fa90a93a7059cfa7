use Rattle.std.proofs.Common.{◌+◌, ◌∙◌, sym, ap, arith}
use Rattle.dn_script.specs.Script.{read_parts, parts_of, behind}
use Rattle.dn_script.proofs.ParsingLaws.{read_step, read_rest, ends_here, gives_same, length_after}
use Rattle.dn_script.proofs.parsing.parse_script.Goals as goal

pub returns-in-Err : goal.returns-in-Err
returns-in-Err c =
    let step = read_step c.loop-line.parser.lines.items c.loop-line.rest.now c.in-Some.line.now c.in-Some.after.now c.loop-line.parser.reading c.loop-line.number c.loop-line.parser.count c.in-Some.ensures in
    let line = c.without_return.ensures in
    ends_here c.in-Err.fault _ _ _ (sym c.loop-line.invariant.read ∙ step)
    (rw line at (c.in-Err.ensures.read (λ d k. read_parts (parts_of c.in-Some.after.now) d (c.loop-line.number + 1) k)))

pub loop-line-smaller : goal.loop-line-smaller
loop-line-smaller c = let shorter = length_after c.loop-line.rest.now c.in-Some.line.now c.in-Some.after.now c.in-Some.ensures.0 in omega arith

pub loop-line-preserved : goal.loop-line-preserved
loop-line-preserved c =
    let shorter = length_after c.loop-line.rest.now c.in-Some.line.now c.in-Some.after.now c.in-Some.ensures.0 in
    let step = read_step c.loop-line.parser.lines.items c.loop-line.rest.now c.in-Some.line.now c.in-Some.after.now c.loop-line.parser.reading c.loop-line.number c.loop-line.parser.count c.in-Some.ensures in
    let line = c.without_return.ensures in
    let goes = rw line at (c.in_default-take_line.ensures.read (λ d k. read_parts (parts_of c.in-Some.after.now) d (c.loop-line.number + 1) k)) in
    record {
      read = sym goes ∙ (sym step ∙ c.loop-line.invariant.read);
      number = omega arith;
      count = omega arith;
    }

pub returns : goal.returns
returns c =
    gives_same c.finish.result _ _
    (sym c.loop-line.invariant.read ∙ ap (λ ps. behind c.loop-line.parser.lines.items (read_parts ps c.loop-line.parser.reading c.loop-line.number c.loop-line.parser.count)) (read_rest c.loop-line.rest.now c.in_default.ensures))
    c.finish.ensures
