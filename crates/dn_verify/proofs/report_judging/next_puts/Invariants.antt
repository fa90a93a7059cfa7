use Rattle.std.proofs.Common.{◌≡◌, ◌≤◌, ◌<◌, ◌+◌, ℕ, length, drop, slice_index, vec_len}
use Rattle.dn_verify.specs.Rules.{from_put}
use Rattle.dn_verify.specs.Steps.{behind_at}
use Rattle.dn_verify.proofs.report_judging.next_puts.Given as goal

abbrev pub invariant-loop-i : goal.invariant-loop-i
invariant-loop-i l = record {
  within : l.i ≤ l.count;
  len : vec_len l.next ≡ l.count;
  count : l.count ≡ length l.lines;
  here : from_put (drop l.i l.lines) ≡ drop l.last l.lines;
  done : (k : ℕ) → l.i ≤ k → k < l.count → from_put (behind_at l.lines k) ≡ drop (slice_index l.next.items k) l.lines;
}

abbrev pub decreases-loop-i : goal.decreases-loop-i
decreases-loop-i l = l.i
