use Rattle.std.proofs.Common.{◌∙◌, ◌++◌, ◌∷◌, [], ap, sym, map, take, get_or, refl}
use Rattle.dn_cmd.specs.Round.{cipher}
use Rattle.dn_cmd.proofs.RoundLemmas.{map_more, counted_within}
use Rattle.dn_cmd.proofs.round.ciphers.Goals as goal

pub cipher-requires-clause-within : goal.cipher-requires-clause-within
cipher-requires-clause-within c =
    counted_within c.args.script.now c.args.counted.now c.loop-client.client-index c.requires.counted c.loop-client-test.true

pub loop-client-preserved : goal.loop-client-preserved
loop-client-preserved c =
    let p = c.args.script.now in
    let is = c.args.counted.now in
    let k = c.loop-client.client-index in
    c.in_ok-push.ensures.items ∙ ap (λ l. l ++ c.in_ok-cipher.field-0 ∷ []) c.loop-client.invariant
    ∙ ap (λ b. map (cipher p) (take k is) ++ b ∷ []) c.in_ok-cipher.ensures
    ∙ sym (map_more is k (get_or is k 0) c.loop-client-test.true refl (cipher p))
