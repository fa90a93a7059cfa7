use Rattle.std.proofs.Common.{rules, arith, ap, ◌∙◌, ◌∷◌, [], take, get_or-set_other, get_or, ◌+◌}
use Rattle.std.proofs.lemmas.List.{take_more, map-append}
use Rattle.dn_gate.specs.Pass.{numbers_of}
use Rattle.dn_gate.proofs.Made.{word_more}
use Rattle.dn_gate.proofs.gate.first_words.Goals as goal

pub loop-client-preserved : goal.loop-client-preserved
loop-client-preserved c =
    let i = c.loop-client.invariant in
    let here = get_or c.args.before.now c.loop-client.client-index record { 0 = 0 } in
    record {
      long = search rules;
      control = get_or-set_other c.loop-client.words.items (here.0 + 1) 0 1 0 (λ e. omega arith) ∙ i.control;
      each = word_more _ _ _ _ _ i.long (c.requires.before c.loop-client.client-index record { 0 = 0 } c.loop-client-test.true)
          (ap numbers_of (take_more c.args.before.now c.loop-client.client-index record { 0 = 0 } c.loop-client-test.true) ∙ map-append _ (take c.loop-client.client-index c.args.before.now) (here ∷ [])) i.each;
    }
