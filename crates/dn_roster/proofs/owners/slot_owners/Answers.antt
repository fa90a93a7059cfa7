use Rattle.std.proofs.Common.{ap, sym, subst, ◌∙◌, map}
use Rattle.std.specs.List.Sorted.{IsPermutation}
use Rattle.dn_roster.specs.Owners.{IsOwners}
use Rattle.dn_roster.proofs.OwnersLemmas.{owned}
use Rattle.dn_roster.proofs.owners.slot_owners.Goals as goal

pub returns : goal.returns
returns c =
    let pairs = c.sort_unstable.new.self.items in
    let moved = subst (λ xs. IsPermutation xs pairs) c.in_ok-clients.ensures c.sort_unstable.ensures.permutation in
    let found = c.in_ok-owners.ensures ∙ ap (map (λ p. p.1)) c.deref.ensures.value in
    subst (IsOwners c.args.group.now) (sym found) (owned c.args.group.now pairs moved c.sort_unstable.ensures.sorted)
