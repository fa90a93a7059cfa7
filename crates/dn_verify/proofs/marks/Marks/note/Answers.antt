use Rattle.std.proofs.Common.{◌≡◌, ℕ, Bool, cond, true, ap, ◌∙◌}
use Rattle.std.specs.Ordering.{nat_cmp}
use Rattle.std.specs.BTreeSet.{contains}
use Rattle.dn_verify.specs.Kept.{has_mark}
use Rattle.dn_verify.specs.Telling.{with_number}
use Rattle.dn_verify.proofs.KeyLemmas.{at_number}
use Rattle.dn_verify.proofs.marks.Marks.note.Goals as goal

pub returns : goal.returns
returns c =
    let one : (q : ℕ) → contains nat_cmp c.insert.new.self q ≡ with_number c.args.number (has_mark c.args.self.now) q =
    λ q. c.in_ok-insert.ensures.updates.0 q ∙ ap (λ (b : Bool). cond b true (has_mark c.args.self.now q)) (at_number c.args.number q) in
    λ i q. one q i
