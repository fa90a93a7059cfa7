-- Where a client's slot lies in a round that it holds, and at which places its bits were changed.
use Rattle.std.proofs.Common.{◌≡◌, ℕ, ◌<◌, ◌≤◌, Bool, true, false, List, [], Option, Some, None, refl, sym, ap, subst, ◌∙◌, inl, inr, arith, Result, Ok, Err}
use Rattle.std.specs.Prelude.{Contains, MatchOption, IfSome, IfNone, IfErr, ◌⊎◌}
use Rattle.std.specs.Borrow.{Bor}
use Rattle.dn_wire.specs.declared.ids.Round.{Round}
use Rattle.dn_bits.specs.Bits.{bit}
use Rattle.dn_record_types.specs.declared.body.Body.{Body}
use Rattle.dn_layout.specs.Layout.{range_of}
use Rattle.dn_cert.specs.Chain.{bodies, IsLayoutAfter}
use Rattle.dn_cert.specs.Evidence.{IsInSlot}
use Rattle.dn_client.specs.declared.made.Made.{Made}
use Rattle.dn_client.specs.declared.accusing.AccuseFault.{AccuseFault}
use Rattle.dn_client.specs.declared.accusing.AccuseFault.TheVariants as refusals
use Rattle.dn_client.specs.Client.{ClientView, IsClient}
use Rattle.dn_client.specs.Accusing.{IsHeldRound, IsRangeIn, IsSlotStart, IsWithin, IsElsewhere, HasBits, HasAccused, IsNotMadeNow, IsUnaccused, IsJammed, IsFirstJammed, IsFirstDiffering, IsListedMade, IsOwnText, DiffersAt, text_bit}
use Rattle.dn_client.proofs.Heads.{one_made, one_body}

abbrev pub IsBodyAt : ClientView → Round → Body → Type 0
IsBodyAt v r b = Contains (bodies v.chain) b × (b.r ≡ r)

held_round : (v : ClientView) (r : Round) (b : Body) → IsClient v → IsBodyAt v r b → (lengths : List ℕ) × IsHeldRound v r b lengths
held_round v r b is there = let long = is.chain.long b there.0 in (long.0, record { held = there.0; round = there.1; after = long.1 })

pub starts_nowhere : (v : ClientView) (r : Round) (b : Body) → IsClient v → IsBodyAt v r b → IsRangeIn v b None → IsSlotStart v r None
starts_nowhere v r b is there lies c lengths held =
    let same : c ≡ b = one_body v c b is held.held there.0 (held.round ∙ sym there.1) in
    sym (lies lengths (subst (λ (x : Body). IsLayoutAfter v.chain x.prev.0 lengths) same held.after))

pub starts_there : (v : ClientView) (r : Round) (b : Body) (first past : ℕ) → IsClient v → IsBodyAt v r b → IsRangeIn v b (Some (first, past)) → IsSlotStart v r (Some first)
starts_there v r b first past is there lies =
    let h = held_round v r b is there in (b, h.0, past, h.1, sym (lies h.0 h.1.after))

-- the parts of a changed bit, at the body that is held
JamAt : ClientView → Round → ℕ → Body → Type 0
JamAt v r k b = (lengths : List ℕ) × IsHeldRound v r b lengths × IsInSlot lengths v.who.slot.0 k × ((text : List Bool) × IsOwnText v b text × (false ≡ bit text k)) × (true ≡ bit b.out k)

jam_at : (v : ClientView) (r : Round) (k : ℕ) (b : Body) → IsClient v → IsBodyAt v r b → IsJammed v r k → JamAt v r k b
unfolding JamAt
jam_at v r k b is there j =
    let same : j.body ≡ b = one_body v j.body b is j.held.held there.0 (j.held.round ∙ sym there.1) in
    subst (JamAt v r k) same (j.lengths, j.held, j.place, (j.text, j.own_text, j.own_is), j.out_is)

pub jams_nowhere : (v : ClientView) (r : Round) (b : Body) → IsClient v → IsBodyAt v r b → IsRangeIn v b None → (k : ℕ) → ¬ IsJammed v r k
unfolding JamAt
jams_nowhere v r b is there lies k j =
    let at = jam_at v r k b is there j in
    let none = lies at.0 at.1.after in
    let some = at.2.2 in absurd cc

-- the client's own text is one
one_text : (v : ClientView) (b : Body) (s t : List Bool) → IsClient v → IsOwnText v b s → IsOwnText v b t → s ≡ t
one_text v b s t is (inl a) (inl c) = a.2 ∙ ap (λ (m : Made). m.plain) (one_made v a.0 c.0 is a.1.0 c.1.0 (a.1.1 ∙ sym c.1.1)) ∙ sym c.2
one_text v b s t is (inl a) (inr c) = absurd (c.0 a.0 a.1)
one_text v b s t is (inr a) (inl c) = absurd (a.0 c.0 c.1)
one_text v b s t is (inr a) (inr c) = a.1 ∙ sym c.1

one_pair : (o : Option (ℕ × ℕ)) (p q : ℕ × ℕ) → o ≡ Some p → Some q ≡ o → p ≡ q
one_pair o p q e f = cc

module _ (v : ClientView) (r : Round) (b : Body) (own : Option (Bor (List Bool))) (text : List Bool) (first past : ℕ) (is : IsClient v) (there : IsBodyAt v r b)
    (lies : IsRangeIn v b (Some (first, past))) (mine : IsOwnText v b text) (bits : (k : ℕ) → text_bit own k ≡ bit text k) where
  pub jams : (k : ℕ) → first ≤ k → k < past → DiffersAt own b.out k → IsJammed v r k
  jams k low high d =
      let h = held_round v r b is there in record {
        body = b;
        lengths = h.0;
        held = h.1;
        place = (first, past, sym (lies h.0 h.1.after), low, high);
        text = text;
        own_text = mine;
        own_is = sym d.0 ∙ bits k;
        out_is = sym d.1;
      }

  pub jammed_so : (k : ℕ) → IsJammed v r k → (first ≤ k) × (k < past) × DiffersAt own b.out k
  unfolding JamAt
  jammed_so k j =
      let at = jam_at v r k b is there j in
      let pair = one_pair (range_of at.0 v.who.slot.0) (at.2.0, at.2.1) (first, past) at.2.2 (lies at.0 at.1.after) in
      let low : at.2.0 ≡ first = ap (λ p. p.0) pair in
      let high : at.2.1 ≡ past = ap (λ p. p.1) pair in
      let same = one_text v b at.3.0 text is at.3.1 mine in
      (omega (arith, at.2.3, low), omega (arith, at.2.4, high), (bits k ∙ ap (λ t. bit t k) (sym same) ∙ sym at.3.2, sym at.4))

  pub first_jam : (o : Option ℕ) → IsFirstDiffering own b.out first past o → MatchOption o ((k : ℕ) → ¬ IsJammed v r k) (IsFirstJammed v r)
  first_jam (Some k) d = record { jammed = jams k d.0 d.1 d.2; first = λ q lt j. let so = jammed_so q j in d.3 q so.0 lt so.2 }
  first_jam None d = λ k j. let so = jammed_so k j in d k so.0 so.1 so.2

-- ---- one place

within_slot : (v : ClientView) (b : Body) (lengths : List ℕ) (range : Option (ℕ × ℕ)) (k : ℕ) → IsRangeIn v b range → IsLayoutAfter v.chain b.prev.0 lengths → IsWithin range k
    → IsInSlot lengths v.who.slot.0 k
within_slot v b lengths (Some range) k lies after there = (range.0, range.1, sym (lies lengths after), there.0, there.1)
within_slot v b lengths None k lies after there = absurd there

slot_within : (v : ClientView) (b : Body) (lengths : List ℕ) (range : Option (ℕ × ℕ)) (k : ℕ) → IsRangeIn v b range → IsLayoutAfter v.chain b.prev.0 lengths
    → IsInSlot lengths v.who.slot.0 k → IsWithin range k
slot_within v b lengths (Some range) k lies after at =
    let same = one_pair (range_of lengths v.who.slot.0) (at.0, at.1) range at.2 (lies lengths after) in
    (omega (arith, at.3, ap (λ p. p.0) same), omega (arith, at.4, ap (λ p. p.1) same))
slot_within v b lengths None k lies after at = let e = lies lengths after in let f = at.2 in absurd cc

pub elsewhere : (v : ClientView) (r : Round) (b : Body) (range : Option (ℕ × ℕ)) (k : ℕ) → IsClient v → IsBodyAt v r b → IsRangeIn v b range → (IsWithin range k → ⊥) → IsElsewhere v r k
elsewhere v r b range k is there lies out =
    let h = held_round v r b is there in (b, h.0, h.1, λ at. out (slot_within v b h.0 range k lies h.1.after at))

pub has_bits : (v : ClientView) (r : Round) (b : Body) (range : Option (ℕ × ℕ)) (own : Option (Bor (List Bool))) (k : ℕ) → IsClient v → IsBodyAt v r b → IsRangeIn v b range
    → IsWithin range k → (text : List Bool) × IsOwnText v b text × ((q : ℕ) → text_bit own q ≡ bit text q) → HasBits v r k (text_bit own k) (bit b.out k)
has_bits v r b range own k is there lies in_range mine =
    let h = held_round v r b is there in record {
      body = b;
      lengths = h.0;
      held = h.1;
      place = within_slot v b h.0 range k lies h.1.after in_range;
      text = mine.0;
      own_text = mine.1;
      own_is = mine.2 k;
      out_is = refl;
    }

pub own_text_is : (v : ClientView) (b : Body) (own : Option (Bor (List Bool))) → IfSome own (λ text. (m : Made) × IsListedMade v b m × (text.now ≡ m.plain))
    → IfNone own ((m : Made) → ¬ IsListedMade v b m) → (text : List Bool) × IsOwnText v b text × ((q : ℕ) → text_bit own q ≡ bit text q)
own_text_is v b (Some t) some none = (t.now, inl some, λ q. refl)
own_text_is v b None some none = ([], inr (none, refl), λ q. refl)

pub spared : (a b : Bool) → ((a ≡ true) ⊎ (b ≡ false) → ⊥) → (a ≡ false) × (b ≡ true)
spared true b free = absurd (free (inl refl))
spared false false free = absurd (free (inr refl))
spared false true free = (refl, refl)

pub not_made_now : {T : Type 0} (v new : ClientView) (r : Round) (k : ℕ) (result : Result T AccuseFault) → v.left ≡ false → IsJammed v r k → (HasAccused v r k → ⊥)
    → IfErr result (λ f. IsNotMadeNow v f new) → IfErr result (IsUnaccused v r k)
not_made_now v new r k (Ok x) here jammed first un = un
not_made_now v new r k (Err refusals.Left) here jammed first un = absurd un
not_made_now v new r k (Err (refusals.NoCert q)) here jammed first un = absurd un
not_made_now v new r k (Err (refusals.Place q)) here jammed first un = absurd un
not_made_now v new r k (Err (refusals.NoEvidence a b)) here jammed first un = absurd un
not_made_now v new r k (Err refusals.Spent) here jammed first un = (here, jammed, first, un.0)
not_made_now v new r k (Err refusals.NoMemory) here jammed first un = tt
