use Rattle.std.proofs.Common.{refl, sym, subst}
use Rattle.dn_exchange.specs.Disciplined.{Disciplined}
use Rattle.dn_exchange.specs.Invariant.{IsSound}
use Rattle.dn_exchange.specs.Making.{first_server}
use Rattle.dn_exchange.specs.Whole.{IsWhole}
use Rattle.dn_exchange.proofs.CallsWhole.{first_whole, whole_disciplined}
use Rattle.dn_exchange.proofs.FirstSound.{first_sound}
use Rattle.dn_exchange.proofs.server_core.ServerCore.make.Goals as goal

pub invariant_of-result : goal.invariant_of-result
invariant_of-result c = λ e.
    let d = c.args.dealt.now in
    let first : IsSound (first_server d.spec d.roster c.args.j.0 c.args.workers) =
    first_sound d.spec d.roster c.args.j.0 c.args.workers c.in_ok-make.ensures.group c.requires.within c.requires.some c.requires.few c.in_ok-make.ensures.member c.in_ok-make.ensures.key in
    subst IsWhole (sym c.in_ok-make.ensures.value) (first_whole d.spec d.roster c.args.j.0 c.args.workers c.in_ok-make.ensures.group first)

pub returns-clause-disciplined : goal.returns-clause-disciplined
returns-clause-disciplined c =
    let d = c.args.dealt.now in
    let first : IsSound (first_server d.spec d.roster c.args.j.0 c.args.workers) =
    first_sound d.spec d.roster c.args.j.0 c.args.workers c.in_ok-make.ensures.group c.requires.within c.requires.some c.requires.few c.in_ok-make.ensures.member c.in_ok-make.ensures.key in
    subst Disciplined (sym c.in_ok-make.ensures.value)
    (whole_disciplined (first_server d.spec d.roster c.args.j.0 c.args.workers) (first_whole d.spec d.roster c.args.j.0 c.args.workers c.in_ok-make.ensures.group first) refl)
