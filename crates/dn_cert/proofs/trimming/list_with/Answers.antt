use Rattle.std.proofs.Common.{◌≡◌, ◌++◌, ◌∷◌, [], ℕ, List, length, sym, subst}
use Rattle.dn_record_types.specs.declared.body.Listed.{Listed}
use Rattle.dn_record_types.specs.declared.inventory.Entry.{Entry}
use Rattle.dn_record_types.specs.declared.inventory.Inventory.{Inventory}
use Rattle.dn_cert.specs.Trim.{IsTrim}
use Rattle.dn_cert.proofs.Merging.{merged, merged_whole}
use Rattle.dn_cert.proofs.TrimLemmas.{with_inventory_trims}
use Rattle.dn_cert.proofs.trimming.list_with.Goals as goal

pub returns : goal.returns
returns c = λ below number trim.
    let listed = c.args.listed.now in
    let whole = merged_whole c.args.server.0 listed c.get-entries.result.now c.loop-i.i c.loop-i.k c.loop-i.all.items c.if-i-listed.false c.if-k-entries.false c.loop-i.invariant.rest in
    let all = with_inventory_trims below c.args.inventory.now listed trim c.requires in
    subst (IsTrim (below ++ c.args.inventory.now ∷ [])) (sym whole)
    (subst (λ (e : List Entry). IsTrim (below ++ c.args.inventory.now ∷ []) (merged c.args.server.0 listed e)) (sym c.get-entries.ensures)
    (subst (λ n. IsTrim (below ++ c.args.inventory.now ∷ []) (merged n listed c.args.inventory.now.entries)) number all))
