use Rattle.std.proofs.Common.{◌≡◌, false, sym, ◌∙◌}
use Rattle.std.proofs.lemmas.List.Elements.{All-more}
use Rattle.dn_script.specs.Words.{is_gap}
use Rattle.dn_script.proofs.words.word_length.Goals as goal

pub loop-i-preserved : goal.loop-i-preserved
loop-i-preserved c = All-more (λ b. is_gap b ≡ false) c.args.line.now c.loop-i.i 0 c.loop-i-test.true c.loop-i.invariant (sym c.is_gap.ensures ∙ c.if-is_gap.false)
