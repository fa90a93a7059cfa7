use Rattle.std.proofs.Common.{◌+◌, ◌∙◌, sym, ap, arith}
use Rattle.dn_script.specs.Script.{parts_of}
use Rattle.dn_notary.specs.Entries.{read_parts}
use Rattle.dn_notary.proofs.PartLemmas.{length_after}
use Rattle.dn_notary.proofs.ListingLemmas.{read_step, read_rest, ends_here, gives_same}
use Rattle.dn_notary.proofs.entries.parse_entries.Goals as goal

pub returns-in-Err : goal.returns-in-Err
returns-in-Err c =
    let step = read_step c.loop-line.rest.now c.in-Some.line.now c.in-Some.after.now c.loop-line.listing c.loop-line.number c.in-Some.ensures in
    let line = c.without_return.ensures in
    ends_here c.in-Err.fault _ _ (sym c.loop-line.invariant.read ∙ step)
    (rw line at (c.in-Err.ensures (λ k. read_parts (parts_of c.in-Some.after.now) k (c.loop-line.number + 1))))

pub loop-line-smaller : goal.loop-line-smaller
loop-line-smaller c = let shorter = length_after c.loop-line.rest.now c.in-Some.line.now c.in-Some.after.now c.in-Some.ensures.0 in omega arith

pub loop-line-preserved : goal.loop-line-preserved
loop-line-preserved c =
    let shorter = length_after c.loop-line.rest.now c.in-Some.line.now c.in-Some.after.now c.in-Some.ensures.0 in
    let step = read_step c.loop-line.rest.now c.in-Some.line.now c.in-Some.after.now c.loop-line.listing c.loop-line.number c.in-Some.ensures in
    let line = c.without_return.ensures in
    let goes = rw line at (c.in_default-take_line.ensures (λ k. read_parts (parts_of c.in-Some.after.now) k (c.loop-line.number + 1))) in
    record {
      read = sym goes ∙ (sym step ∙ c.loop-line.invariant.read);
      number = omega arith;
    }

pub returns : goal.returns
returns c =
    gives_same (λ v. v.items) c.finish.result _ _
    (sym c.loop-line.invariant.read ∙ ap (λ ps. read_parts ps c.loop-line.listing c.loop-line.number) (read_rest c.loop-line.rest.now c.in_default.ensures))
    c.finish.ensures
