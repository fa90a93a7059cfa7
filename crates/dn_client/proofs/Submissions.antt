-- A submission that is given again.
use Rattle.std.proofs.Common.{◌≡◌, false, inl, Ok, Err, Result}
use Rattle.std.specs.Prelude.{IfOk}
use Rattle.dn_wire.specs.declared.ids.Round.{Round}
use Rattle.dn_client.specs.declared.made.Made.{Made}
use Rattle.dn_client.specs.declared.submitting.Submission.{Submission}
use Rattle.dn_client.specs.Client.{ClientView}
use Rattle.dn_client.specs.Submitting.{IsLastMade, IsOfLast, IsSubmitted}

pub given_again : {F : Type 0} (v new : ClientView) (r : Round) (result : Result Submission F) → v.left ≡ false → (m : Made) → IsLastMade v m → m.r ≡ r
    → IfOk result (λ s. IsOfLast v s × (new ≡ v)) → IfOk result (λ s. IsSubmitted v r s new)
given_again v new r (Ok s) here m last round h = (here, inl record { made = m; last = last; round = round; given = h.0 m last; same = h.1 })
given_again v new r (Err e) here m last round h = tt
