use Rattle.std.proofs.Common.{◌∙◌, ◌∷◌, [], ◌++◌, map, ap, sym}
use Rattle.std.proofs.lemmas.List.{map-append}
use Rattle.dn_bits.specs.Bits.{below}
use Rattle.dn_bits.proofs.SumLemmas.{below_more}
use Rattle.dn_server.specs.Server.{client_member}
use Rattle.dn_puppets.proofs.completing.others.Goals as goal

pub loop-i-preserved : goal.loop-i-preserved
loop-i-preserved c =
    let i = c.loop-i.i in
    c.in_ok-push.ensures.items ∙ ap (λ l. l ++ client_member i ∷ []) c.loop-i.invariant
    ∙ sym (ap (map client_member) (below_more i) ∙ map-append client_member (below i) (i ∷ []))
