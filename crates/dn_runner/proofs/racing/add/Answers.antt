use Rattle.std.proofs.Common.{◌≡◌, ◌<◌, false, length, sym, ap, subst, arith, ◌∙◌}
use Rattle.std.specs.Prelude.{◌==◌}
use Rattle.std.specs.List.{list_any}
use Rattle.dn_wire.specs.declared.limits.TheConstants.{MAX_RACE_LIST}
use Rattle.dn_runner.specs.Racing.{CanRace}
use Rattle.dn_runner.proofs.RaceLemmas.{one_racer_more}
use Rattle.dn_runner.proofs.racing.add.Goals as goal

pub returns-in_ok-push : goal.returns-in_ok-push
returns-in_ok-push c =
    let list = c.args.list.now.items in
    let room : length list < MAX_RACE_LIST = omega arith in
    let new : list_any (λ m. m.1 == c.args.id) list ≡ false =
    ap (λ l. list_any (λ m. m.1 == c.args.id) l) (sym c.deref.ensures.value) ∙ sym c.has_number.ensures ∙ c.if-not-has_number.true in
    subst (CanRace c.args.clients) (sym c.in_ok-push.ensures.items) (one_racer_more c.args.clients list (c.args.client, c.args.id) c.requires room c.if-client-clients.true new)
