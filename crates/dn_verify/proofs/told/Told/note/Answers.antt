use Rattle.std.proofs.Common.{◌≡◌, ℕ, Bool, cond, true, ap, ◌∙◌}
use Rattle.std.specs.Ordering.{is_eq}
use Rattle.dn_verify.specs.Course.{is_told_key}
use Rattle.dn_verify.specs.Kept.{has_told, key_of, three_cmp}
use Rattle.dn_verify.proofs.KeyLemmas.{at_told}
use Rattle.dn_verify.proofs.told.Told.note.Goals as goal

pub returns : goal.returns
returns c = λ q.
    let at : is_eq (three_cmp c.number_of.result (key_of q)) ≡ is_told_key c.args.key q =
    ap (λ (k : ℕ × (ℕ × ℕ)). is_eq (three_cmp k (key_of q))) c.number_of.ensures ∙ at_told c.args.key q in
    c.in_ok-insert.ensures.updates.0 (key_of q) ∙ ap (λ (b : Bool). cond b true (has_told c.args.self.now q)) at
