use Rattle.std.proofs.Common.{◌≡◌, subst}
use Rattle.std.specs.Prelude.{Contains}
use Rattle.std.proofs.lemmas.Bool.Decides.{Decides-eqb}
use Rattle.std.proofs.lemmas.Slice.Eq.{slice_eq-Decides}
use Rattle.dn_client.proofs.Listing.{listed_with}
use Rattle.dn_client.proofs.holding.lists.Goals as goal

pub returns-in-Some : goal.returns-in-Some
returns-in-Some c =
    let row = c.in-Some.row.now in
    let same = slice_eq-Decides Decides-eqb _ _ _ c.eq.ensures in
    let found = subst (λ rows. Contains rows row × (row.client ≡ c.args.client)) c.get.ensures c.in-Some.ensures.found in
    (λ t. (row, found.0, found.1, same.0 t), λ lists. same.1 (listed_with c.args.body.now row c.args.client c.args.digest.now c.requires found lists))
