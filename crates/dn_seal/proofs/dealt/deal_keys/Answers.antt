use Rattle.std.proofs.Common.{◌≡◌, ◌++◌, ◌∷◌, [], ℕ, ap, sym, subst, ◌∙◌}
use Rattle.std.specs.Prelude.{All}
use Rattle.std.proofs.lemmas.List.Elements.{All-push}
use Rattle.dn_lms.specs.Key.{IsKey}
use Rattle.dn_seal.specs.Dealt.{key_dealt_to, nth_signer}
use Rattle.dn_seal.proofs.ListLemmas.{one_more}
use Rattle.dn_seal.proofs.dealt.deal_keys.Goals as goal

pub loop-number-preserved : goal.loop-number-preserved
loop-number-preserved c =
    let i = c.loop-number.invariant in
    let pushed : c.push.new.self.items ≡ c.loop-number.keys.items ++ c.in_ok-key.key ∷ [] = c.in_ok-push.ensures.items in
    record {
      dealt = one_more (λ (n : ℕ). key_dealt_to c.args.spec.now (nth_signer c.args.kind n)) c.loop-number.keys.items _ c.loop-number.number c.in_ok-key.key i.dealt pushed (c.in_ok-key.ensures.0 ∙ ap (key_dealt_to c.args.spec.now) c.signer.ensures);
      keys = subst (All IsKey) (sym pushed) (All-push IsKey c.loop-number.keys.items c.in_ok-key.key i.keys c.in_ok-key.ensures.1);
    }
