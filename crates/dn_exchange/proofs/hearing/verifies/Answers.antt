use Rattle.std.proofs.Common.{rules}
use Rattle.dn_server.specs.Parts.{live}
use Rattle.dn_exchange.proofs.ClaimedEntries.{claimed_entry_verifies}
use Rattle.dn_exchange.proofs.hearing.verifies.Goals as goal

pub returns-then-is_of_claim : goal.returns-then-is_of_claim
returns-then-is_of_claim c =
    let v = live c.args.parts.now in
    let inventory = c.args.inventory.now in (
      λ _. claimed_entry_verifies v.seat v.run inventory.r inventory.prev c.args.entry.now c.requires.round c.requires.prev c.requires.claims
          (c.is_of_claim.ensures c.if-is_of_claim.true),
      λ _. search rules,
    )
