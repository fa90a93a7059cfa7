-- The entries of claims verify.
use Rattle.std.proofs.Common.{◌≡◌, sym, subst}
use Rattle.dn_wire.specs.declared.ids.Round.{Round}
use Rattle.dn_record_types.specs.declared.inventory.Entry.{Entry}
use Rattle.dn_cert.specs.Signed.{EntryVerifies}
use Rattle.dn_server.specs.declared.run.Run.{Run}
use Rattle.dn_server.specs.Justified.{Seat}
use Rattle.dn_exchange.specs.Invariant.{AreClaims, IsOfClaim}

-- in the round of the claims
entry_of_claim : (seat : Seat) (run : Run) (e : Entry) → AreClaims seat run → IsOfClaim run e → EntryVerifies seat.roster run.r run.prev e
entry_of_claim seat run e are of = subst (EntryVerifies seat.roster run.r run.prev) of.2 (are e.client.0 of.0 of.1).verifies

-- in the same round, by another name
pub claimed_entry_verifies : (seat : Seat) (run : Run) (r prev : Round) (e : Entry) → r ≡ run.r → prev ≡ run.prev → AreClaims seat run → IsOfClaim run e
    → EntryVerifies seat.roster r prev e
claimed_entry_verifies seat run r prev e same after are of =
    subst (λ x. EntryVerifies seat.roster x prev e) (sym same)
    (subst (λ y. EntryVerifies seat.roster run.r y e) (sym after) (entry_of_claim seat run e are of))
