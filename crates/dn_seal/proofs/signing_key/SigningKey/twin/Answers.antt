use Rattle.std.proofs.Common.{◌≡◌, ◌≤◌, ◌+◌, ◌-◌, length, sym, ap, subst, ◌∙◌, arith}
use Rattle.std.proofs.lemmas.List.FromFn.{length-range_with_len}
use Rattle.dn_leaf.specs.Drawer.{PassView}
use Rattle.dn_lms.specs.Key.{Key, IsKey, leaf_count}
use Rattle.dn_seal.specs.SigningKey.{SigningKeyView}
use Rattle.dn_seal.proofs.signing_key.SigningKey.twin.Goals as goal

pub invariant_of-result : goal.invariant_of-result
invariant_of-result c =
    let s = c.in_ok-signer.ensures.signer in
    let p = c.in_ok-signer.ensures.pass in
    let i = c.self.invariant in
    let copied : length c.in_ok-copies.field-0.items ≡ length c.self.inside.signed.items = ap length (c.in_ok-copies.ensures ∙ c.deref.ensures.value) in
    let count : leaf_count c.in_ok-signer.signer.key ≡ leaf_count c.self.inside.signer.key = ap leaf_count s.0 in
    let few : length c.in_ok-copies.field-0.items ≤ leaf_count c.in_ok-signer.signer.key = omega (arith, copied, count, i.5) in
    let left : c.left.result + length c.self.inside.signed.items ≡ leaf_count c.self.inside.signer.key =
    subst (λ (v : SigningKeyView). c.left.result + length v.signed ≡ leaf_count v.key) (sym c.self.view_is) c.left.ensures.count in
    let drawn : length c.in_ok-signer.pass.draws ≡ c.self.inside.leaves - c.left.result = ap (λ (v : PassView). length v.draws) p ∙ length-range_with_len 0 (c.self.inside.leaves - c.left.result) in
    let many : length c.in_ok-signer.pass.draws ≡ length c.in_ok-copies.field-0.items = omega (arith, copied, left, drawn, i.1) in (
      subst IsKey (sym s.0) i.0,
      i.1 ∙ ap leaf_count (sym s.0),
      s.2,
      ap (λ (v : PassView). v.drawer) p,
      ap (λ (v : PassView). v.stands) p,
      few,
      λ lost. (ap (λ (v : PassView). v.seen) p, many),
    )
