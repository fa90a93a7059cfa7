use Rattle.std.proofs.Common.{◌≡◌, ℕ, ◌∷◌, [], None, take}
use Rattle.dn_counts.specs.Counts.{total}
use Rattle.dn_gate.specs.Pass.{IsReady}
use Rattle.dn_crew.specs.Shares.{IsRecorded, counted, share_from}
use Rattle.dn_crew.proofs.sharing.submit_share.Given as goal

abbrev pub invariant-loop-at : goal.invariant-loop-at
invariant-loop-at g l = record {
  gate : l.share.pass.gate ≡ l.gate;
  ready : IsReady l.share.pass;
  numbers : l.share.pass.numbers ≡ l.worker ∷ [];
  closing : l.share.pass.closing ≡ None;
  refused : l.share.pass.refused ≡ [];
  did : IsRecorded l.list l.worker l.share.pass l.share.draws.items l.share.repeats.items;
  all : (h : ℕ → ℕ) → counted h l.share.draws.items l.share.repeats.items ≡ total h (share_from 0 l.workers l.worker (take l.at l.list));
}
