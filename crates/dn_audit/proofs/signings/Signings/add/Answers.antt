use Rattle.std.proofs.Common.{◌≡◌, ◌⊎◌, map, Bool, true, false, refl, sym, subst, ◌∙◌}
use Rattle.std.specs.Prelude.{Contains, ◌↔◌, not}
use Rattle.dn_audit.proofs.Lists.{joined, held_to}
use Rattle.dn_audit.proofs.signings.Signings.add.Goals as goal

not_no : (b : Bool) → not b ≡ false → b ≡ true
not_no true h = refl
not_no false h = sym h

pub returns : goal.returns
returns c =
    let old = c.self.inside.signed.keys in
    let new = c.insert.new.self.keys in
    let bytes = c.args.bytes.items in
    λ x. subst (λ xs. Contains (map (λ k. k.items) new) x ↔ (Contains xs x ⊎ (x ≡ bytes))) c.self.view_is
    (joined (λ k. k.items) c.args.bytes old new c.in_ok-insert.field-0 c.in_ok-insert.ensures.keys
    (λ no. held_to (λ k. k.items) bytes old (not_no _ (sym c.in_ok-insert.ensures.added ∙ no))) x)
