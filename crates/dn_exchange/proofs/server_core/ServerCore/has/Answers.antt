use Rattle.std.proofs.Common.{◌≡◌, Some, subst, refl}
use Rattle.std.specs.Prelude.{slice_get}
use Rattle.dn_server.specs.Server.{ServerView}
use Rattle.dn_exchange.proofs.server_core.ServerCore.has.Goals as goal

pub returns-in-Some : goal.returns-in-Some
returns-in-Some c =
    let claim = c.in-Some._claim.now in
    (λ e. (claim, subst (λ (v : ServerView). slice_get v.run.claims c.args.i.0 ≡ Some (Some claim)) c.self.view_is c.in-Some.ensures), λ h. refl)
