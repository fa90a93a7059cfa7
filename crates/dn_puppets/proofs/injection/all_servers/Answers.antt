use Rattle.std.proofs.Common.{◌∙◌, ◌∷◌, [], ◌++◌, map, ap, sym}
use Rattle.std.proofs.lemmas.List.{map-append}
use Rattle.dn_bits.specs.Bits.{below}
use Rattle.dn_bits.proofs.SumLemmas.{below_more}
use Rattle.dn_server.specs.Server.{server_member}
use Rattle.dn_puppets.proofs.injection.all_servers.Goals as goal

pub loop-j-preserved : goal.loop-j-preserved
loop-j-preserved c =
    let j = c.loop-j.j in
    c.in_ok-push.ensures.items ∙ ap (λ l. l ++ server_member j ∷ []) c.loop-j.invariant
    ∙ sym (ap (map server_member) (below_more j) ∙ map-append server_member (below j) (j ∷ []))
