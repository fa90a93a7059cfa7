-- The layouts of a chain's rounds are layouts, so that no round has more bits than a payload can carry.
use Rattle.std.proofs.Common.{◌≡◌, ℕ, zero, suc, ◌≤◌, ◌+◌, ◌*◌, ◌/◌, List, replicate, refl, sym, subst, arith, inl, inr, true, false, Bool}
use Rattle.std.specs.Prelude.{Contains, IsTrue, sum}
use Rattle.std.proofs.lemmas.List.{length-replicate}
use Rattle.std.proofs.lemmas.List.Elements.{All-contains}
use Rattle.dn_record_types.specs.declared.body.Body.{Body}
use Rattle.dn_records.specs.Records.{IsPayload}
use Rattle.dn_record_types.specs.declared.payload.Payload.TheVariants as payloads
use Rattle.dn_layout.specs.Block.{is_length}
use Rattle.dn_layout.specs.Layout.{IsLayout}
use Rattle.dn_layout.proofs.LayoutLemmas.{next_of-IsLayout}
use Rattle.dn_cert.specs.Chain.{LayoutAfter, layout_after}
use Rattle.dn_cert.specs.Chain.LayoutAfter.{at_first, after_prev}
use Rattle.dn_cert.proofs.Orders.{nothing, first_or_later, All-from_contains}
use Rattle.dn_client.specs.declared.made.Made.{Made}
use Rattle.dn_client.specs.Client.{ClientView, IsClient, IsMade}
use Rattle.dn_client.proofs.Discipline.{made_long}

-- ---- the layout before any round

none_other : (n x : ℕ) → Contains (replicate n 0) x → 0 ≡ x
none_other zero x h = absurd (nothing x h)
none_other (suc n) x h = elim (first_or_later 0 (replicate n 0) x h) [ inl e ↦ e | inr behind ↦ none_other n x behind ]

sum_of_none : (n : ℕ) → sum (replicate n 0) ≡ 0
sum_of_none zero = refl
sum_of_none (suc n) = let rest = sum_of_none n in omega (arith, rest)

few_bytes : (n : ℕ) → n ≤ 512 → 8 * ((n + 7) / 8) ≤ 1024
few_bytes n le = omega arith

first_layout : (slots : ℕ) → 1 ≤ slots → slots ≤ 512 → IsLayout (replicate slots 0)
first_layout slots some few =
    let long = length-replicate {A = ℕ} slots 0 in
    let none = sum_of_none slots in
    record {
      some = omega (arith, long, some);
      few = omega (arith, long, few);
      sizes = All-from_contains (λ (n : ℕ). IsTrue (is_length n)) (replicate slots 0) (λ x h. subst (λ (n : ℕ). IsTrue (is_length n)) (none_other slots x h) refl);
      fits = rw long (rw none (let le = few_bytes slots few in omega (arith, le)));
    }

after_is : (t : Bool) (before : List ℕ) (b : Body) → b.thin ≡ t → IsLayout before → IsLayout (layout_after before b)
after_is true before b thin is = rw thin is
after_is false before b thin is = rw thin (next_of-IsLayout before b.out is)

pub layouts_are : (slots : ℕ) (bodies : List Body) (r : ℕ) (l : List ℕ) → 1 ≤ slots → slots ≤ 512 → LayoutAfter slots bodies r l → IsLayout l
layouts_are slots bodies r l some few (at_first z is) = subst IsLayout (sym is) (first_layout slots some few)
layouts_are slots bodies r l some few (after_prev b before inside at rest is) =
    subst IsLayout (sym is) (after_is b.thin before b refl (layouts_are slots bodies b.prev.0 before some few rest))

-- ---- what a client made can be carried

pub made_fits : (c : ClientView) (m : Made) → IsClient c → Contains c.made m → IsPayload (payloads.Submission m.cipher m.envelope)
made_fits c m client there =
    let is = All-contains (IsMade c.who c.chain c.queue c.signed) c.made m client.made there in
    let layout = layouts_are c.chain.slots c.chain.held m.prev.0 is.lengths client.chain.slots.0 client.chain.slots.1 is.after in
    let long = (made_long c.who is.lengths _ is.place m is.content).1 in
    let few = layout.fits in
    omega (arith, long, few)
