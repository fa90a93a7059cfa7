use Rattle.std.proofs.Common.{◌∙◌, ◌∷◌, [], ◌++◌, ap, sym}
use Rattle.std.specs.List.{filter_map}
use Rattle.std.proofs.lemmas.List.Elements.{filter_map-append}
use Rattle.dn_bits.specs.Bits.{below}
use Rattle.dn_bits.proofs.SumLemmas.{below_more}
use Rattle.dn_exchange.specs.Closing.{entry_at}
use Rattle.dn_exchange.proofs.closing.entries.Goals as goal

pub loop-i-preserved : goal.loop-i-preserved
loop-i-preserved c =
    let i = c.loop-i.i in
    let at = entry_at c.args.claims.now in
    c.in_ok-put_entry.ensures ∙ ap (λ l. l ++ filter_map at (i ∷ [])) c.loop-i.invariant
    ∙ sym (ap (filter_map at) (below_more i) ∙ filter_map-append at (below i) (i ∷ []))
