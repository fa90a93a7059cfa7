use Rattle.std.proofs.Common.{◌∙◌, ℕ, List, ◌∷◌, [], ◌++◌, ap, sym, map}
use Rattle.std.proofs.lemmas.List.{map-append}
use Rattle.dn_bits.specs.Bits.{below}
use Rattle.dn_bits.proofs.SumLemmas.{below_more}
use Rattle.dn_seal.specs.Dealt.{seed_dealt_to}
use Rattle.dn_exchange.proofs.making.seeds_of.Goals as goal

pub loop-i-preserved : goal.loop-i-preserved
loop-i-preserved c =
    let i = c.loop-i.i in
    let f : ℕ → List ℕ = λ k. seed_dealt_to c.args.dealt.now.spec k c.args.j in
    c.in_ok-push.ensures.items ∙ ap (λ x. c.loop-i.seeds.items ++ x ∷ []) c.seed_of.ensures ∙ ap (λ l. l ++ f i ∷ []) c.loop-i.invariant
    ∙ sym (ap (map f) (below_more i) ∙ map-append f (below i) (i ∷ []))
