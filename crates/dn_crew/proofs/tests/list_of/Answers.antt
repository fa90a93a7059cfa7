use Rattle.std.proofs.Common.{◌+◌, ◌<◌, ◌∙◌, ap, sym, refl, subst, All}
use Rattle.std.proofs.lemmas.List.Elements.{All-push}
use Rattle.dn_crew.specs.Race.{numbers_of}
use Rattle.dn_crew.proofs.OrderLemmas.{counts_more}
use Rattle.dn_crew.proofs.tests.list_of.Goals as goal

pub loop-at-preserved : goal.loop-at-preserved
loop-at-preserved c =
    let i = c.loop-at.invariant in
    let e = c.in_ok-push.ensures.items in
    record {
      numbers = ap numbers_of e ∙ counts_more c.loop-at.list.items _ c.loop-at.at i.numbers refl;
      clients = subst (All (λ m. m.0.0 < 6)) (sym e) (All-push (λ m. m.0.0 < 6) c.loop-at.list.items _ i.clients (c.requires c.loop-at.at 0 c.loop-at-test.true));
      long = c.in_ok-push.ensures.len ∙ ap (λ n. n + 1) i.long;
    }
