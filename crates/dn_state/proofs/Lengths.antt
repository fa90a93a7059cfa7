-- A client's ciphertext is within the limit of a round.
use Rattle.std.proofs.Common.{◌≡◌, ℕ, ◌≤◌, Bool, true, false, List, length, Contains, replicate, IsTrue, refl, sym, subst, arith, inl, inr, zero, suc}
use Rattle.std.specs.Prelude.{sum, if◌then◌else◌}
use Rattle.std.proofs.lemmas.List.{length-replicate}
use Rattle.std.proofs.lemmas.List.Elements.{All-replicate, All-contains, Contains-push}
use Rattle.dn_wire.specs.declared.ids.Round.{Round}
use Rattle.dn_wire.specs.declared.limits.TheConstants.{MAX_BITS}
use Rattle.dn_record_types.specs.declared.body.Body.{Body}
use Rattle.dn_layout.specs.Block.{is_length}
use Rattle.dn_layout.specs.Layout.{next_of, IsLayout}
use Rattle.dn_layout.proofs.LayoutLemmas.{next_of-IsLayout}
use Rattle.dn_cert.specs.Chain.{LayoutAfter, layout_after}
use Rattle.dn_client.specs.declared.made.Made.{Made}
use Rattle.dn_client.specs.declared.submitting.Submission.{Submission}
use Rattle.dn_client.specs.Client.{ClientView, IsClient, IsMade}
use Rattle.dn_client.specs.Submitting.{IsSubmitted}
use Rattle.dn_client.proofs.Discipline.{made_long}

none_open : (n : ℕ) → sum (replicate n 0) ≡ 0
none_open zero = refl
none_open (suc n) = none_open n

first : (slots : ℕ) → 1 ≤ slots → slots ≤ 512 → IsLayout (replicate slots 0)
first slots some few =
    let long = length-replicate {A = ℕ} slots 0 in
    record {
      some = omega (arith, long, some);
      few = omega (arith, long, few);
      sizes = All-replicate (λ len. IsTrue (is_length len)) slots 0 refl;
      fits = omega (arith, long, few, none_open slots);
    }

after_one : (before : List ℕ) (b : Body) → IsLayout before → IsLayout (layout_after before b)
after_one before b is = by b.thin
  where
    by : (thin : Bool) → IsLayout (if thin then before else next_of before b.out)
    by true = is
    by false = next_of-IsLayout before b.out is

-- the layout after a round of a chain is one
pub is_layout : (slots : ℕ) (bodies : List Body) (r : ℕ) (lengths : List ℕ) → 1 ≤ slots → slots ≤ 512 → LayoutAfter slots bodies r lengths → IsLayout lengths
is_layout slots bodies r lengths some few (LayoutAfter.at_first _ is) = subst IsLayout (sym is) (first slots some few)
is_layout slots bodies r lengths some few (LayoutAfter.after_prev b before _ _ prev is) =
    subst IsLayout (sym is) (after_one before b (is_layout slots bodies b.prev.0 before some few prev))

made_within : (v : ClientView) (m : Made) → IsClient v → Contains v.made m → length m.cipher ≤ MAX_BITS
made_within v m client there =
    let is = All-contains (IsMade v.who v.chain v.queue v.signed) v.made m client.made there in
    let layout = is_layout v.chain.slots v.chain.held m.prev.0 is.lengths client.chain.slots.0 client.chain.slots.1 is.after in
    omega (arith, (made_long v.who is.lengths _ is.place m is.content).1, layout.fits)

-- what a client submits is within the limit
pub submitted_within : (old : ClientView) (r : Round) (s : Submission) (new : ClientView) → IsSubmitted old r s new → IsClient new → length s.cipher ≤ MAX_BITS
submitted_within old r s new (_, inl again) client =
    let last = subst (λ v. Contains v.made again.made) (sym again.same) (subst (λ ms. Contains ms again.made) (sym again.last.1) (Contains-push again.last.0 again.made)) in
    subst (λ x. length x.cipher ≤ MAX_BITS) (sym again.given) (made_within new again.made client last)
submitted_within old r s new (_, inr now) client =
    let last = subst (λ v. Contains v.made now.made) (sym now.kept) (Contains-push old.made now.made) in
    subst (λ x. length x.cipher ≤ MAX_BITS) (sym now.given) (made_within new now.made client last)
