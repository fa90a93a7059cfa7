use Rattle.std.proofs.Common.{◌∙◌, ◌++◌, ◌∷◌, [], ap, sym}
use Rattle.dn_bits.proofs.SumLemmas.{below_more}
use Rattle.dn_cmd.proofs.window.all_below.Goals as goal

pub loop-client-preserved : goal.loop-client-preserved
loop-client-preserved c =
    c.in_ok-push.ensures.items ∙ ap (λ l. l ++ c.loop-client.client ∷ []) c.loop-client.invariant ∙ sym (below_more c.loop-client.client)
