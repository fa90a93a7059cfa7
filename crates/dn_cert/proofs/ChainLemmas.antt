-- Layouts along a chain, and a chain with one body more.
use Rattle.std.proofs.Common.{◌≡◌, ◌≢◌, ℕ, zero, suc, ◌<◌, ◌≤◌, List, [], ◌∷◌, length, map, get_or, refl, sym, ap, subst, ◌∙◌, arith, lt-ltb, le-ltb, inl, inr}
use Rattle.std.specs.Prelude.{All, Contains, insert}
use Rattle.std.specs.List.Sorted.{IsStrictlyIncreasing}
use Rattle.std.proofs.lemmas.List.{get_or-map, length-map}
use Rattle.std.proofs.lemmas.List.Elements.{All-contains, Contains-get_or}
use Rattle.dn_record_types.specs.declared.body.Body.{Body}
use Rattle.dn_wire.specs.declared.ids.Round.{Round}
use Rattle.dn_cert.specs.declared.hold_fault.HoldFault.{HoldFault}
use Rattle.dn_cert.specs.declared.hold_fault.HoldFault.TheVariants as faults
use Rattle.dn_cert.specs.Chain.{ChainView, bodies, Holds, LayoutAfter, IsLayoutAfter, bits_due, layout_after, count_at, IsAtFloor, CanFollow, IsRound, IsHoldRefused, with_held, HasCertificate, IsChain, Agree}
use Rattle.dn_cert.specs.Chain.LayoutAfter.{at_first, after_prev}
use Rattle.dn_cert.specs.Floor.{is_due_thin}
use Rattle.dn_cert.proofs.CountLemmas.{count_none, count_found}
use Rattle.dn_cert.proofs.ListLemmas.{one_of_number, map-insert, All-insert, Contains-insert, Contains-insert_itself, Contains-insert_cases, IsStrictlyIncreasing-insert}

pub round_is : (r q : Round) → r.0 ≡ q.0 → r ≡ q
round_is r q e = λ i. record { 0 = e i }

-- two layouts after a round are one, where the bodies are
pub layouts_agree : (slots : ℕ) (bs cs : List Body) → All (λ b. b.prev.0 < b.r.0) bs → All (λ b. b.prev.0 < b.r.0) cs
    → ((b c : Body) → Contains bs b → Contains cs c → b.r ≡ c.r → b ≡ c)
    → (r : ℕ) (l : List ℕ) → LayoutAfter slots bs r l → (m : List ℕ) → LayoutAfter slots cs r m → l ≡ m
layouts_agree slots bs cs up down one r l (at_first z is) m (at_first y it) = is ∙ sym it
layouts_agree slots bs cs up down one r l (at_first z is) m (after_prev c after inside at rest it) =
    let below = All-contains (λ b. b.prev.0 < b.r.0) cs c down inside in absurd (omega arith)
layouts_agree slots bs cs up down one r l (after_prev b before inside at rest is) m (at_first y it) =
    let below = All-contains (λ b. b.prev.0 < b.r.0) bs b up inside in absurd (omega arith)
layouts_agree slots bs cs up down one r l (after_prev b before inside at rest is) m (after_prev c after within on less it) =
    let same = one b c inside within (round_is b.r c.r (at ∙ sym on)) in
    let again = layouts_agree slots bs cs up down one b.prev.0 before rest after (subst (λ x. LayoutAfter slots cs x.prev.0 after) (sym same) less) in
    is ∙ (λ i. layout_after (again i) (same i)) ∙ sym it

pub chains_agree_lem : (chain other : ChainView) (r : ℕ) (l m : List ℕ) → IsChain chain → IsChain other → chain.slots ≡ other.slots
    → Agree chain other → IsLayoutAfter chain r l → IsLayoutAfter other r m → l ≡ m
chains_agree_lem chain other r l m c o slots agree d e =
    layouts_agree chain.slots (bodies chain) (bodies other) c.before o.before agree r l d m (subst (λ s. LayoutAfter s (bodies other) r m) (sym slots) e)

pub layout_is_one_lem : (chain : ChainView) (r : ℕ) (l m : List ℕ) → IsChain chain → IsLayoutAfter chain r l → IsLayoutAfter chain r m → l ≡ m
layout_is_one_lem chain r l m c d e =
    chains_agree_lem chain chain r l m c c refl (λ x y a b k. one_of_number (λ v. v.r.0) (bodies chain) c.ascends x y a b (ap (λ q. q.0) k)) d e

-- a body of a round that is held is that of the round
pub one_body : (chain : ChainView) → IsChain chain → (x y : Body) → Contains (bodies chain) x → Contains (bodies chain) y → x.r.0 ≡ y.r.0 → x ≡ y
one_body chain c x y a b e = one_of_number (λ v. v.r.0) (bodies chain) c.ascends x y a b e

pub count_held : (chain : ChainView) (b : Body) → IsChain chain → Contains (bodies chain) b → count_at chain b.r.0 ≡ length b.listed
count_held chain b c a = count_found (bodies chain) (one_body chain c) b a

pub count_unheld : (chain : ChainView) (r : ℕ) → ¬ Holds chain r → count_at chain r ≡ 0
count_unheld chain r none = count_none (bodies chain) r (λ b a e. none (b, a, e))

pub count_first : (chain : ChainView) → IsChain chain → count_at chain 0 ≡ 0
count_first chain c = count_unheld chain 0 (λ h. let below = All-contains (λ b. b.prev.0 < b.r.0) (bodies chain) h.0 c.before h.1 in omega (arith, h.2))

-- the counts of a round that two chains have are one, where their bodies are
pub counts_agree_lem : (chain other : ChainView) (r : ℕ) → IsChain chain → IsChain other → Agree chain other → IsRound chain r → IsRound other r → count_at chain r ≡ count_at other r
counts_agree_lem chain other r c o agree round same = by_round round.0 round.1 same.0 same.1
  where
    by_round : (l : List ℕ) → LayoutAfter chain.slots (bodies chain) r l → (m : List ℕ) → LayoutAfter other.slots (bodies other) r m → count_at chain r ≡ count_at other r
    by_round l (at_first z is) m e = ap (count_at chain) z ∙ count_first chain c ∙ sym (count_first other o) ∙ sym (ap (count_at other) z)
    by_round l (after_prev b before inside at rest is) m (at_first z it) =
        ap (count_at chain) z ∙ count_first chain c ∙ sym (count_first other o) ∙ sym (ap (count_at other) z)
    by_round l (after_prev b before inside at rest is) m (after_prev d after within on less it) =
        let one = agree b d inside within (round_is b.r d.r (at ∙ sym on)) in
        sym (ap (count_at chain) at) ∙ count_held chain b c inside ∙ ap (λ (x : Body). length x.listed) one ∙ sym (count_held other d o within) ∙ ap (count_at other) on

-- what holds of fewer bodies holds of more
pub layout_stays : (slots : ℕ) (bs more : List Body) → ((b : Body) → Contains bs b → Contains more b) → (r : ℕ) (l : List ℕ) → LayoutAfter slots bs r l → LayoutAfter slots more r l
layout_stays slots bs more grows r l (at_first z is) = at_first z is
layout_stays slots bs more grows r l (after_prev b before inside at rest is) =
    after_prev b before (grows b inside) at (layout_stays slots bs more grows b.prev.0 before rest) is

-- a round with a layout is round 0 or held
pub has_layout : (chain : ChainView) (r : ℕ) (l : List ℕ) → r ≢ 0 → IsLayoutAfter chain r l → Holds chain r
has_layout chain r l z (at_first y is) = absurd (z y)
has_layout chain r l z (after_prev b before inside at rest is) = (b, inside, at)

-- what can follow isn't refused, but for want of memory
pub follows_so : (chain : ChainView) (b : Body) (f : HoldFault) → IsChain chain → CanFollow chain b → IsHoldRefused chain b f → f ≡ faults.NoMemory
follows_so chain b (faults.Known r) c can un = absurd (can.new un.1)
follows_so chain b (faults.NoPrev prev) c can un = absurd (un.3 (has_layout chain b.prev.0 can.layout un.2 can.after))
follows_so chain b (faults.Floor count last) c can un = absurd (un.4 can.floor)
follows_so chain b (faults.Length have need) c can un =
    let same = layout_is_one_lem chain b.prev.0 un.1.0 can.layout c un.1.1 can.after in
    absurd (un.4 (un.3 ∙ can.long ∙ sym (ap (λ l. bits_due l b) same) ∙ sym un.1.2))
follows_so chain b faults.NoMemory c can un = refl

-- a body stands before the first whose round isn't below its own
pub with_held-insert : (c : Body) (ds : List Body) (at : ℕ) → at ≤ length ds
    → ((k : ℕ) (d : Body) → k < at → (get_or ds k d).r.0 < c.r.0)
    → ((k : ℕ) (d : Body) → at ≤ k → k < length ds → c.r.0 ≤ (get_or ds k d).r.0)
    → with_held c ds ≡ insert ds at c
with_held-insert c [] zero fits below above = refl
with_held-insert c [] (suc at) fits below above = absurd (omega arith)
with_held-insert c (d ∷ ds) zero fits below above = rw (le-ltb d.r.0 c.r.0 (above 0 d (omega arith) (omega arith))) refl
with_held-insert c (d ∷ ds) (suc at) fits below above =
    rw (lt-ltb d.r.0 c.r.0 (below 0 d (omega arith)))
    (ap (λ l. d ∷ l) (with_held-insert c ds at (omega arith) (λ k e lt. below (suc k) e (omega arith)) (λ k e le lt. above (suc k) e (omega arith) (omega arith))))

-- a chain with one body more, in its place
module _ (chain : ChainView) (c : Body) (at : ℕ) (is : IsChain chain) (cert : HasCertificate c) (can : CanFollow chain c) (fits : at ≤ length chain.held)
    (below : (k : ℕ) (d : Body) → k < at → (get_or chain.held k d).r.0 < c.r.0)
    (above : (k : ℕ) (d : Body) → at ≤ k → k < length chain.held → c.r.0 ≤ (get_or chain.held k d).r.0) where
  abbrev pub longer : ChainView
  longer = record { slots = chain.slots; held = insert chain.held at c }

  bodies_longer : bodies longer ≡ insert (bodies chain) at c
  bodies_longer = refl

  pub body_stays : (b : Body) → Contains (bodies chain) b → Contains (bodies longer) b
  body_stays b a = subst (λ l. Contains l b) (sym bodies_longer) (Contains-insert (bodies chain) at c b a)

  pub body_comes : Contains (bodies longer) c
  body_comes = subst (λ l. Contains l c) (sym bodies_longer) (Contains-insert_itself (bodies chain) at c)

  pub layouts_stay : (r : ℕ) (l : List ℕ) → IsLayoutAfter chain r l → IsLayoutAfter longer r l
  layouts_stay r l d = layout_stays chain.slots (bodies chain) (bodies longer) body_stays r l d

  -- the layout after the new round
  pub layout_comes : (before : List ℕ) → IsLayoutAfter chain c.prev.0 before → IsLayoutAfter longer c.r.0 (layout_after before c)
  layout_comes before d = after_prev c before body_comes refl (layouts_stay c.prev.0 before d) refl

  rounds_longer : map (λ (b : Body). b.r.0) (bodies longer) ≡ insert (map (λ (b : Body). b.r.0) (bodies chain)) at c.r.0
  rounds_longer = ap (map (λ (b : Body). b.r.0)) bodies_longer ∙ map-insert (λ (b : Body). b.r.0) (bodies chain) at c

  length-rounds : length (map (λ (b : Body). b.r.0) (bodies chain)) ≡ length chain.held
  length-rounds = length-map (bodies chain) (λ (b : Body). b.r.0)

  round_at : (k : ℕ) → k < length chain.held → get_or (map (λ (b : Body). b.r.0) (bodies chain)) k 0 ≡ (get_or chain.held k c).r.0
  round_at k within = get_or-map (λ (b : Body). b.r.0) (bodies chain) k c 0 within

  -- no round held is the new one
  apart : (k : ℕ) → k < length chain.held → c.r.0 ≢ (get_or chain.held k c).r.0
  apart k within e = can.new (get_or chain.held k c, Contains-get_or chain.held k c within, sym e)

  rounds_ascend : IsStrictlyIncreasing (map (λ (b : Body). b.r.0) (bodies longer))
  rounds_ascend =
      subst IsStrictlyIncreasing (sym rounds_longer)
      (IsStrictlyIncreasing-insert (map (λ (b : Body). b.r.0) (bodies chain)) at c.r.0 is.ascends (omega (arith, length-rounds))
      (λ k lt. omega (arith, round_at k (omega arith), below k c lt))
      (λ k le lt. let within : k < length chain.held = omega (arith, length-rounds) in
      let other = apart k within in omega (arith, round_at k within, above k c le within, other)))

  before_rises : All (λ (b : Body). b.prev.0 < b.r.0) (bodies longer)
  before_rises =
      subst (All (λ (b : Body). b.prev.0 < b.r.0)) (sym bodies_longer)
      (All-insert (bodies chain) at c (λ (b : Body). b.prev.0 < b.r.0) is.before (subst (λ (x : Body). x.prev.0 < x.r.0) cert.2 cert.1.signed.within.after))

  -- the count of a round of the chain stays
  count_held_longer : (b : Body) → Contains (bodies chain) b → count_at longer b.r.0 ≡ length b.listed
  count_held_longer b a = count_found (bodies longer) (one_of_number (λ (v : Body). v.r.0) (bodies longer) rounds_ascend) b (body_stays b a)

  none_first : (b : Body) → Contains (bodies longer) b → b.r.0 ≢ 0
  none_first b a e = let below = All-contains (λ (x : Body). x.prev.0 < x.r.0) (bodies longer) b before_rises a in omega arith

  count_stays : (r : ℕ) (l : List ℕ) → IsLayoutAfter chain r l → count_at longer r ≡ count_at chain r
  count_stays r l (at_first z it) =
      ap (count_at longer) z ∙ count_none (bodies longer) 0 none_first ∙ sym (count_first chain is) ∙ sym (ap (count_at chain) z)
  count_stays r l (after_prev b before inside on rest it) =
      sym (ap (count_at longer) on) ∙ count_held_longer b inside ∙ sym (count_held chain b is inside) ∙ ap (count_at chain) on

  -- a body at the floor stays there
  floor_stays : (b : Body) (l : List ℕ) → IsLayoutAfter chain b.prev.0 l → IsAtFloor chain b → IsAtFloor longer b
  floor_stays b l d e = e ∙ ap (is_due_thin b.version (length b.listed)) (sym (count_stays b.prev.0 l d))

  at_floor : (b : Body) → Contains (bodies longer) b → IsAtFloor longer b
  at_floor b a =
      elim (Contains-insert_cases (bodies chain) at c b (subst (λ l. Contains l b) bodies_longer a)) [
        | inl old ↦ let l = is.long b old in floor_stays b l.0 l.1 (is.floor b old)
        | inr new ↦ subst (IsAtFloor longer) new (floor_stays c can.layout can.after can.floor)
      ]

  long_enough : (b : Body) → Contains (bodies longer) b → (lengths : List ℕ) × IsLayoutAfter longer b.prev.0 lengths × (length b.out ≡ bits_due lengths b)
  long_enough b a =
      elim (Contains-insert_cases (bodies chain) at c b (subst (λ l. Contains l b) bodies_longer a)) [
        | inl old ↦ let l = is.long b old in (l.0, layouts_stay b.prev.0 l.0 l.1, l.2)
        | inr new ↦ subst (λ (x : Body). (lengths : List ℕ) × IsLayoutAfter longer x.prev.0 lengths × (length x.out ≡ bits_due lengths x)) new
            (can.layout, layouts_stay c.prev.0 can.layout can.after, can.long)
      ]

  pub longer_is_chain : IsChain longer
  longer_is_chain = record {
    slots = is.slots;
    certified = All-insert chain.held at c HasCertificate is.certified cert;
    ascends = rounds_ascend;
    before = before_rises;
    floor = at_floor;
    long = long_enough;
  }

  pub longer_is_with : record chain { held = with_held c chain.held } ≡ longer
  longer_is_with = ap (λ l. record { slots = chain.slots; held = l }) (with_held-insert c chain.held at fits below above)
