use Rattle.std.proofs.Common.{rules, ◌≡◌, sym, subst, All}
use Rattle.std.proofs.lemmas.List.Elements.{All-push}
use Rattle.dn_puppets.specs.Puppets.{IsOfRoster}
use Rattle.dn_puppets.proofs.servers.server_puppets.Goals as goal

pub loop-j-preserved : goal.loop-j-preserved
loop-j-preserved c =
    subst (λ xs. All (IsOfRoster c.args.dealt.now.roster) xs) (sym c.in_ok-push.ensures.items)
    (All-push (IsOfRoster c.args.dealt.now.roster) c.loop-j.puppets.items c.in_ok-puppet_of.field-0 c.loop-j.invariant c.in_ok-puppet_of.ensures)
