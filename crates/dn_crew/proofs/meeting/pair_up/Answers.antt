use Rattle.std.proofs.Common.{◌≡◌, ◌+◌, ◌-◌, ◌∙◌, ap, sym, take, length, length-append, slice_get, arith}
use Rattle.dn_crew.proofs.MeetLemmas.{pop_take, paired_more}
use Rattle.dn_crew.proofs.meeting.pair_up.Goals as goal

pub loop-k-preserved : goal.loop-k-preserved
loop-k-preserved c =
    let i = c.loop-k.invariant in
    let n = c.len-count.result in
    let k = c.loop-k.k in
    let np : n ≡ length c.args.passes.items = c.len-count.ensures ∙ c.args.passes.ok.0 in
    let p = pop_take c.args.passes.items c.pop.new.self.items (n - k) c.in-Some.pass (sym i.passes ∙ c.in-Some.ensures.items) (omega (arith, np)) in
    let q = pop_take c.args.cores.items c.pop-in-loop-k.new.self.items (n - k) c.in-Some-pop.core (sym i.cores ∙ c.in-Some-pop.ensures.items) (omega (arith, i.count)) in
    let less : n - k - 1 ≡ n - (k + 1) = omega arith in
    let place : n - k - 1 ≡ length c.args.cores.items - 1 - k = omega (arith, i.count) in
    record {
      count = i.count;
      passes = p.0 ∙ ap (λ m. take m c.args.passes.items) less;
      cores = q.0 ∙ ap (λ m. take m c.args.cores.items) less;
      long = ap length c.in_ok-push.ensures.items ∙ length-append c.loop-k.workers.items _ ∙ ap (λ m. m + 1) i.long;
      paired = paired_more c.args.passes.items c.args.cores.items k c.loop-k.workers.items c.push.new.self.items _ i.paired i.long c.in_ok-push.ensures.items
          (ap (slice_get c.args.passes.items) (sym place) ∙ p.1) (ap (slice_get c.args.cores.items) (sym place) ∙ q.1) c.new-inbox.ensures.items;
    }
