-- A client stays the same client, whatever it is asked.
use Rattle.std.proofs.Common.{◌≡◌, ℕ, List, Bool, true, false, refl, ap, inl, inr}
use Rattle.dn_wire.specs.declared.ids.Round.{Round}
use Rattle.dn_record_types.specs.declared.statement.Statement.{Statement}
use Rattle.dn_client.specs.declared.submitting.Submission.{Submission}
use Rattle.dn_client.specs.Client.{ClientView}
use Rattle.dn_client.specs.Signing.{IsSignedFor}
use Rattle.dn_client.specs.Submitting.{IsSubmitted}

pub signed_same : (old : ClientView) (as_slot : Bool) (s : Statement) (envelope : List ℕ) (new : ClientView) → IsSignedFor old as_slot s envelope new → new.who ≡ old.who
signed_same old true s envelope new is = ap (λ (v : ClientView). v.who) is.2
signed_same old false s envelope new is = ap (λ (v : ClientView). v.who) is.2

pub submitted_same : (old : ClientView) (r : Round) (s : Submission) (new : ClientView) → IsSubmitted old r s new → new.who ≡ old.who
submitted_same old r s new (_, inl again) = ap (λ (v : ClientView). v.who) again.same
submitted_same old r s new (_, inr now) = ap (λ (v : ClientView). v.who) now.kept
