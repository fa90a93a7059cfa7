use Rattle.std.proofs.Common.{◌+◌, [], ◌∷◌, length, ap, ◌∙◌, length-append}
use Rattle.dn_hss.proofs.key.places.Goals as goal

pub loop-preserved : goal.loop-preserved
loop-preserved c =
    ap length c.in_ok-push.ensures.items ∙ (length-append c.loop.places.items (c.new.result ∷ []) ∙ ap (λ n. n + 1) c.loop.invariant)
