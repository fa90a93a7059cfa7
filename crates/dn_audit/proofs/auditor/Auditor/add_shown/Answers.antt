use Rattle.std.proofs.Common.{◌≡◌, ◌++◌, ◌∷◌, [], take, length, subst, ap, ◌∙◌, ◌+◌, ◌<◌, List, get_or}
use Rattle.dn_record_types.specs.declared.shown.ShownCipher.{ShownCipher}
use Rattle.dn_audit.specs.Auditor.{AddsStrings, hashed_cipher, with_ciphers}
use Rattle.dn_audit.proofs.Audits.{adds_both, adds_same, one_shown_more}
use Rattle.dn_audit.proofs.auditor.Auditor.add_shown.Goals as goal

pub loop-each-preserved : goal.loop-each-preserved
loop-each-preserved c =
    let i = c.loop-each.each-index in
    let r = c.args.r.0 in
    let xs = c.args.shown.now in
    let x = c.each-item.result in
    let is : x ≡ get_or xs i x = c.each-item.is ∙ ap (λ (l : List ShownCipher). get_or l i x) c.get-each-items.ensures in
    let lt = subst (λ (l : List ShownCipher). i < length l) c.get-each-items.ensures c.loop-each-test.true in
    let now = subst (λ (y : ShownCipher). AddsStrings c.loop-each.self c.add_cipher.new.self (λ s. record s { ciphers = s.ciphers ++ hashed_cipher r y.client.0 y.cipher ∷ [] })) is c.in_ok-add_cipher.ensures in
    adds_same c.args.self.now c.add_cipher.new.self _ (with_ciphers r (take (i + 1) xs)) (λ s. one_shown_more r i xs x s lt)
    (adds_both c.args.self.now c.loop-each.self c.add_cipher.new.self (with_ciphers r (take i xs)) _ c.loop-each.invariant now)
