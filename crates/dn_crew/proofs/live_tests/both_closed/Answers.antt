use Rattle.std.proofs.Common.{◌≡◌, ◌+◌, ◌∙◌, ap, sym, subst, All}
use Rattle.std.proofs.lemmas.List.Elements.{All-push}
use Rattle.dn_crew.proofs.live_tests.both_closed.Goals as goal

pub loop-j-preserved : goal.loop-j-preserved
loop-j-preserved g c =
    let i = c.loop-j.invariant in
    record {
      long = c.in_ok-push.ensures.len ∙ ap (λ n. n + 1) i.long;
      group = subst (All (λ v. v.seat.roster ≡ c.args.dealt.now.roster)) (sym c.in_ok-push.ensures.items) (All-push (λ v. v.seat.roster ≡ c.args.dealt.now.roster) c.loop-j.cores.items c.in_ok-core.core i.group c.in_ok-core.ensures);
    }
