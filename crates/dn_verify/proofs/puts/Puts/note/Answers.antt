use Rattle.std.proofs.Common.{◌≡◌, ℕ, Bool, ◌==◌, cond, true, ap, ◌∙◌}
use Rattle.std.specs.Prelude.{◌&&◌}
use Rattle.std.specs.Ordering.{is_eq}
use Rattle.dn_verify.specs.Course.{is_member}
use Rattle.dn_verify.specs.Kept.{has_put, member_number, pair_cmp}
use Rattle.dn_verify.proofs.KeyLemmas.{at_put}
use Rattle.dn_verify.proofs.puts.Puts.note.Goals as goal

pub returns : goal.returns
returns c = λ p m.
    let by = c.in-Some.member in
    let at : is_eq (pair_cmp (c.args.payload, c.member_number.result) (p, member_number m)) ≡ (c.args.payload == p && is_member by m) =
    ap (λ (k : ℕ). is_eq (pair_cmp (c.args.payload, k) (p, member_number m))) c.member_number.ensures ∙ at_put c.args.payload p by m in
    rw c.in-Some.is
    (c.in_ok-insert.ensures.updates.0 (p, member_number m) ∙ ap (λ (b : Bool). cond b true (has_put c.args.self.now p m)) at)
