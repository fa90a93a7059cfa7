use Rattle.std.proofs.Common.{◌∙◌, ◌≤◌, ℕ, Bool, [], length, ap, subst, refl, arith}
use Rattle.dn_roster.specs.Roster.{RosterView}
use Rattle.dn_record_types.specs.declared.inventory.Inventory.{Inventory}
use Rattle.dn_cert.specs.Floor.{is_due_thin}
use Rattle.dn_cert.specs.Chain.{count_at}
use Rattle.dn_server.specs.Keeping.{IsMissing}
use Rattle.dn_rounds.specs.Going.{IsListing}
use Rattle.dn_server.specs.Parts.{live}
use Rattle.dn_rounds.proofs.CommitLemmas.{waits_for_inventories}
use Rattle.dn_rounds.proofs.ThinLemmas.{listed_few}
use Rattle.dn_rounds.proofs.committing.list_up.Goals as goal

pub returns-then-not-is_full : goal.returns-then-not-is_full
returns-then-not-is_full g c =
    let p = c.args.parts.now in
    let n = c.servers-n.ensures.value ∙ ap (λ (r : RosterView). length r.servers) c.roster.ensures.value in
    let missing = subst (λ (k : ℕ). IsMissing 3 p.run.kept k) n (c.is_full.ensures.missing c.if-not-is_full.true) in
    let some : Inventory = record { r = record { 0 = 0 }; prev = record { 0 = 0 }; entries = [] } in
    (refl, refl, waits_for_inventories (live p) c.requires.stage missing some)

pub overflow_cast-len : goal.overflow_cast-len
overflow_cast-len g c =
    let p = c.args.parts.now in
    let listed = c.in_ok-listed.listed.items in
    let found = c.in_ok-listed.ensures in
    let thin : Bool = is_due_thin p.identity.roster.version (length listed) (count_at p.chain p.run.prev.0) in
    let listing : IsListing (live p) thin listed = record { inventories = found.0; kept = found.1; trim = found.2; floor = refl } in
    let few : length listed ≤ length p.seeds.items = listed_few listed (length p.seeds.items) found.2.ascends (c.requires.fit thin listed listing).1 in
    let long = c.in_ok-listed.listed.ok.0 in
    omega (arith, c.requires.seeds, c.len.ensures, long, few)
