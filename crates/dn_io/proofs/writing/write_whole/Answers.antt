use Rattle.std.proofs.Common.{◌+◌, length, arith, ap, length-drop}
use Rattle.std.proofs.lemmas.List.{take_rest}
use Rattle.dn_io.proofs.WholeLemmas.{front_more}
use Rattle.dn_io.proofs.writing.write_whole.Goals as goal

pub loop-at-preserved : goal.loop-at-preserved
loop-at-preserved g c = record {
  within = let s = c.in-Ok.ensures.some in omega (arith, s.0, length-drop c.loop-at.at c.args.bytes.now, ap length (take_rest c.args.bytes.now c.loop-at.at));
  put = front_more _ _ _ c.loop-at.at c.in-Ok.count c.args.bytes.now c.loop-at.invariant.put c.in-Ok.ensures.bytes;
  later = omega (arith, c.in-Ok.ensures.faults, c.loop-at.invariant.later);
}

pub returns-in-Err-Failed-clause-err : goal.returns-in-Err-Failed-clause-err
returns-in-Err-Failed-clause-err g c =
    let h = c.in-Err-Failed.ensures.bytes in
    (c.loop-at.at + h.0, front_more _ _ _ c.loop-at.at h.0 c.args.bytes.now c.loop-at.invariant.put h.1)

pub returns-in-Err-NoMemory-clause-err : goal.returns-in-Err-NoMemory-clause-err
returns-in-Err-NoMemory-clause-err g c =
    let h = c.in-Err-NoMemory.ensures.bytes in
    (c.loop-at.at + h.0, front_more _ _ _ c.loop-at.at h.0 c.args.bytes.now c.loop-at.invariant.put h.1)
