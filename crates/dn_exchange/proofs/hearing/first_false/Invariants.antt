use Rattle.std.proofs.Common.{◌≡◌, ◌<◌, ℕ, Some}
use Rattle.std.specs.Prelude.{slice_get}
use Rattle.dn_record_types.specs.declared.inventory.Entry.{Entry}
use Rattle.dn_cert.specs.Signed.{EntryVerifies}
use Rattle.dn_exchange.proofs.hearing.first_false.Given as goal

abbrev pub invariant-loop-at : goal.invariant-loop-at
invariant-loop-at l = (k : ℕ) (e : Entry) → k < l.at → slice_get l.inventory.entries k ≡ Some e → EntryVerifies l.parts.identity.roster l.inventory.r l.inventory.prev e
