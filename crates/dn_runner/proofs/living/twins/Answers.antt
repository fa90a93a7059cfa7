use Rattle.std.proofs.Common.{◌≡◌, All, IfSome, vec_len, arith, sym, ap, subst, ◌∙◌}
use Rattle.std.proofs.lemmas.List.Elements.{All-push}
use Rattle.dn_seal.specs.Dealt.{dealt_roster}
use Rattle.dn_runner.proofs.living.twins.Goals as goal
use Rattle.dn_runner.proofs.living.twins.Goals.{in-Some+in_ok-push, in_default}

pub loop-j-preserved : goal.loop-j-preserved
loop-j-preserved c =
    let roster = dealt_roster c.args.run.now.group.spec in
    elim c.match-twin.branch [
      | in-Some+in_ok-push w ↦
          let longer = ap (λ v. vec_len v) w.cores-is ∙ w.in_ok-push.ensures.len in
          let items = ap (λ v. v.items) w.cores-is ∙ w.in_ok-push.ensures.items in
          let twin = subst (λ t. IfSome t (λ core. core.seat.roster ≡ roster)) w.in-Some.is c.in_ok-twin.ensures in
          record {
            few = omega (arith, longer);
            group =
                subst (λ l. All (λ core. core.seat.roster ≡ roster) l) (sym items)
                (All-push (λ core. core.seat.roster ≡ roster) c.loop-j.cores.items w.in-Some.core c.loop-j.invariant.group twin);
          }
      | in_default w ↦
          let same = ap (λ v. vec_len v) w.cores-is in
          record {
            few = omega (arith, same);
            group = subst (λ v. All (λ core. core.seat.roster ≡ roster) v.items) (sym w.cores-is) c.loop-j.invariant.group;
          }
    ]
