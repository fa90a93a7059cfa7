-- Bodies with the layouts after them, in order of rounds.
use Rattle.std.proofs.Common.{◌≡◌, ◌≢◌, ℕ, ◌-◌, ◌<◌, ◌≤◌, List, [], ◌∷◌, length, map, get_or, refl, sym, ap, subst, ◌∙◌, arith, inl, inr, true, false, Some, None}
use Rattle.std.specs.Prelude.{Option, IfSome, IfNone, is_some, All, Contains, insert}
use Rattle.std.specs.List.{AllWithin}
use Rattle.std.specs.List.Sorted.{IsStrictlyIncreasing}
use Rattle.std.proofs.lemmas.Bool.{cases_lt}
use Rattle.std.proofs.lemmas.List.{get_or-map, length-map, get_or_default}
use Rattle.std.proofs.lemmas.List.Elements.{All-contains, All-weaker}
use Rattle.dn_record_types.specs.declared.body.Body.{Body}
use Rattle.dn_cert.specs.declared.held.Held.{Held}
use Rattle.dn_cert.specs.Chain.{ChainView, bodies, Holds, IsLayoutAfter, layout_after, count_at, CanFollow, IsChain, IsLatestBelow, with_held, HasCertificate}
use Rattle.dn_cert.proofs.ListLemmas.{rises, Contains-map, Contains-from_map, map-insert, All-insert}
use Rattle.dn_cert.proofs.ThinLemmas.{few_listed}
use Rattle.dn_cert.proofs.ChainLemmas.{count_held, count_unheld, longer, longer_is_chain, longer_is_with, layouts_stay, layout_comes}

-- where the first that isn't below a number doesn't have it, none has
pub none_of : {X : Type 0} (n : X → ℕ) (xs : List X) (r at : ℕ) → IsStrictlyIncreasing (map n xs) → AllWithin (λ x. n x < r) xs 0 at
    → AllWithin (λ x. r ≤ n x) xs at (length xs) → ((d : X) → at < length xs → n (get_or xs at d) ≢ r) → All (λ x. n x ≢ r) xs
none_of n xs r at up below above first k d within e =
    elim (cases_lt k at) [
      | inl lt ↦ let h = below k d (omega arith) lt in omega arith
      | inr le ↦ elim (cases_lt at k) [
        | inl lt ↦ let h = rises n xs up at k d lt within in let g = above at d (omega arith) (omega arith) in omega arith
        | inr ge ↦ let same : at ≡ k = omega arith in first d (omega arith) (ap (λ j. n (get_or xs j d)) same ∙ e)
      ]
    ]

abbrev round_of : Held → ℕ
round_of h = h.body.r.0

-- the chain that is made of them
abbrev pub chain_of : ℕ → List Held → ChainView
chain_of slots held = record { slots = slots; held = map (λ (h : Held). h.body) held }

-- what such a chain keeps
abbrev pub Keeps : ℕ → List Held → Type 0
Keeps slots held = IsChain (chain_of slots held) × All (λ (h : Held). IsLayoutAfter (chain_of slots held) h.body.r.0 h.layout) held

map_twice : (held : List Held) → map (λ (b : Body). b.r.0) (map (λ (h : Held). h.body) held) ≡ map round_of held
map_twice [] = refl
map_twice (h ∷ hs) = ap (λ l. round_of h ∷ l) (map_twice hs)

pub held_ascend : (slots : ℕ) (held all : List Held) → held ≡ all → IsChain (chain_of slots all) → IsStrictlyIncreasing (map (λ (h : Held). h.body.r.0) held)
held_ascend slots held all e is = subst (λ l. IsStrictlyIncreasing (map round_of l)) (sym e) (subst IsStrictlyIncreasing (map_twice all) is.ascends)

module _ (slots : ℕ) (held : List Held) where
  -- one of them is held, with its round
  pub body_held : (h : Held) → Contains held h → Contains (bodies (chain_of slots held)) h.body
  body_held h a = Contains-map (λ (h : Held). h.body) held h a

  -- what is held is one of them
  pub held_from : (b : Body) → Contains (bodies (chain_of slots held)) b → (h : Held) × Contains held h × (h.body ≡ b)
  held_from b a = Contains-from_map (λ (h : Held). h.body) held b a

  pub not_held : (r : ℕ) → All (λ (h : Held). h.body.r.0 ≢ r) held → ¬ Holds (chain_of slots held) r
  not_held r none holds =
      let h = held_from holds.0 holds.1 in
      All-contains (λ (h : Held). h.body.r.0 ≢ r) held h.0 none h.1 (ap (λ (b : Body). b.r.0) h.2 ∙ holds.2)

  -- none is held below a round
  pub none_below : (r : ℕ) → AllWithin (λ (h : Held). r ≤ h.body.r.0) held 0 (length held) → IsLatestBelow (chain_of slots held) r 0
  none_below r above = record {
    held = inl refl;
    greatest = λ q holds less.
        let h = held_from holds.0 holds.1 in
        let k = above h.1.0 h.0 (omega arith) h.1.1 in
        absurd (omega (arith, ap round_of h.1.2, ap (λ (b : Body). b.r.0) h.2, holds.2, k));
  }

  -- the last of those below a round
  pub last_below : (r at : ℕ) (h : Held) → IsStrictlyIncreasing (map round_of held) → 0 < at → at ≤ length held
      → AllWithin (λ (h : Held). h.body.r.0 < r) held 0 at → AllWithin (λ (h : Held). r ≤ h.body.r.0) held at (length held)
      → get_or held (at - 1) h ≡ h → IsLatestBelow (chain_of slots held) r h.body.r.0
  last_below r at h up some fits below above is = record {
    held = inr ((h.body, body_held h (at - 1, omega arith, is), refl), (let k = below (at - 1) h (omega arith) (omega arith) in omega (arith, ap round_of is, k)));
    greatest = λ q holds less.
        let g = held_from holds.0 holds.1 in
        let here : round_of g.0 ≡ q = ap (λ (b : Body). b.r.0) g.2 ∙ holds.2 in
        elim (cases_lt g.1.0 (at - 1)) [
          | inl lt ↦ let k = rises round_of held up g.1.0 (at - 1) g.0 lt (omega arith) in
              omega (arith, ap round_of g.1.2, here, k, ap round_of (get_or_default held (at - 1) g.0 h (omega arith) ∙ is))
          | inr ge ↦ elim (cases_lt (at - 1) g.1.0) [
            | inl lt ↦ let k = above g.1.0 g.0 (omega arith) g.1.1 in absurd (omega (arith, ap round_of g.1.2, here, k))
            | inr le ↦ let same : g.1.0 ≡ at - 1 = omega arith in
                omega (arith, here, ap round_of g.1.2, ap (λ j. round_of (get_or held j g.0)) same, ap round_of (get_or_default held (at - 1) g.0 h (omega arith) ∙ is))
          ]
        ];
  }

-- one more, in its place
module _ (slots : ℕ) (held : List Held) (h : Held) (at : ℕ) (keeps : Keeps slots held) (cert : HasCertificate h.body) (can : CanFollow (chain_of slots held) h.body)
    (fits : at ≤ length held) (below : AllWithin (λ (g : Held). g.body.r.0 < h.body.r.0) held 0 at)
    (above : AllWithin (λ (g : Held). h.body.r.0 ≤ g.body.r.0) held at (length held)) where
  abbrev there : List Body
  there = map (λ (g : Held). g.body) held

  abbrev now : ChainView
  now = chain_of slots (insert held at h)

  fits_there : at ≤ length there
  fits_there = rw (length-map held (λ (g : Held). g.body)) fits

  below_there : (k : ℕ) (d : Body) → k < at → (get_or there k d).r.0 < h.body.r.0
  below_there k d lt = rw (get_or-map (λ (g : Held). g.body) held k h d (omega arith)) (below k h (omega arith) lt)

  above_there : (k : ℕ) (d : Body) → at ≤ k → k < length there → h.body.r.0 ≤ (get_or there k d).r.0
  above_there k d le lt =
      let within : k < length held = rw (length-map held (λ (g : Held). g.body)) at lt in
      rw (get_or-map (λ (g : Held). g.body) held k h d within) (above k h le within)

  abbrev more : ChainView
  more = longer (chain_of slots held) h.body at keeps.0 cert can fits_there below_there above_there

  now_is : now ≡ more
  now_is = ap (λ l. record { slots = slots; held = l }) (map-insert (λ (g : Held). g.body) held at h)

  pub holds_with : now ≡ record (chain_of slots held) { held = with_held h.body there }
  holds_with = now_is ∙ sym (longer_is_with (chain_of slots held) h.body at keeps.0 cert can fits_there below_there above_there)

  pub keeps_more : (before : List ℕ) → IsLayoutAfter (chain_of slots held) h.body.prev.0 before → h.layout ≡ layout_after before h.body → Keeps slots (insert held at h)
  keeps_more before after is =
      let stays = layouts_stay (chain_of slots held) h.body at keeps.0 cert can fits_there below_there above_there in
      let comes = layout_comes (chain_of slots held) h.body at keeps.0 cert can fits_there below_there above_there before after in (
        subst IsChain (sym now_is) (longer_is_chain (chain_of slots held) h.body at keeps.0 cert can fits_there below_there above_there),
        subst (λ v. All (λ (g : Held). IsLayoutAfter v g.body.r.0 g.layout) (insert held at h)) (sym now_is)
            (All-insert held at h (λ (g : Held). IsLayoutAfter more g.body.r.0 g.layout)
            (All-weaker (λ (g : Held). IsLayoutAfter (chain_of slots held) g.body.r.0 g.layout) (λ (g : Held). IsLayoutAfter more g.body.r.0 g.layout) (λ g. stays g.body.r.0 g.layout) held keeps.1)
            (subst (λ l. IsLayoutAfter more h.body.r.0 l) (sym is) comes)),
      )

-- the same of a chain that is seen so
module _ (slots : ℕ) (held all : List Held) (chain : ChainView) (same : held ≡ all) (is : chain_of slots all ≡ chain) where
  pub body_seen : (h : Held) → Contains held h → Contains (bodies chain) h.body
  body_seen h a = subst (λ v. Contains (bodies v) h.body) is (body_held slots all h (subst (λ l. Contains l h) same a))

  pub none_seen : (r : ℕ) → All (λ (h : Held). h.body.r.0 ≢ r) held → ¬ Holds chain r
  none_seen r none = subst (λ v. ¬ Holds v r) is (not_held slots all r (subst (All (λ (h : Held). h.body.r.0 ≢ r)) same none))

  -- how many counted in the round of one of them, and in a round of none of them
  pub count_seen : (h : Held) → IsChain (chain_of slots all) → Contains held h → count_at chain h.body.r.0 ≡ length h.body.listed
  count_seen h c a = count_held chain h.body (subst IsChain is c) (body_seen h a)

  pub no_count_seen : (r : ℕ) → All (λ (h : Held). h.body.r.0 ≢ r) held → count_at chain r ≡ 0
  no_count_seen r none = count_unheld chain r (none_seen r none)

  pub none_below_seen : (r at : ℕ) → at ≡ 0 → AllWithin (λ (h : Held). r ≤ h.body.r.0) held at (length held) → IsLatestBelow chain r 0
  none_below_seen r at z above =
      let there = subst (λ l. AllWithin (λ (h : Held). r ≤ h.body.r.0) l 0 (length l)) same (subst (λ n. AllWithin (λ (h : Held). r ≤ h.body.r.0) held n (length held)) z above) in
      subst (λ v. IsLatestBelow v r 0) is (none_below slots all r there)

  pub last_below_seen : (r at : ℕ) (h : Held) → IsChain (chain_of slots all) → 0 < at → at ≤ length held
      → AllWithin (λ (h : Held). h.body.r.0 < r) held 0 at → AllWithin (λ (h : Held). r ≤ h.body.r.0) held at (length held)
      → get_or all (at - 1) h ≡ h → IsLatestBelow chain r h.body.r.0
  last_below_seen r at h keeps some fits below above e =
      let there = subst (λ l. AllWithin (λ (h : Held). r ≤ h.body.r.0) l at (length l)) same above in
      let here = subst (λ l. AllWithin (λ (h : Held). h.body.r.0 < r) l 0 at) same below in
      subst (λ v. IsLatestBelow v r h.body.r.0) is (last_below slots all r at h (held_ascend slots all all refl keeps) some (omega (arith, ap length same)) here there e)

-- none of them lists more than 512 clients
pub few_seen : (slots : ℕ) (held all : List Held) → held ≡ all → IsChain (chain_of slots all) → (h : Held) → Contains held h → length h.body.listed ≤ 512
few_seen slots held all same is h a =
    let has = All-contains HasCertificate (bodies (chain_of slots all)) h.body is.certified (body_held slots all h (subst (λ l. Contains l h) same a)) in
    subst (λ (b : Body). length b.listed ≤ 512) has.2 (few_listed has.0 has.1)

-- what a look found, and what it says where it found nothing
pub found_one : {A : Type 0} (P : A → Type 0) (o : Option A) → IfSome o P → is_some o ≡ true → (x : A) × P x
found_one P (Some x) p e = (x, p)
found_one P None p e = absurd cc

pub found_none : {A : Type 0} (Q : Type 0) (o : Option A) → IfNone o Q → is_some o ≡ false → Q
found_none Q (Some x) q e = absurd cc
found_none Q None q e = q

-- one more body, from what the calls said
pub held_more : (slots : ℕ) (items new there : List Held) (chain : ChainView) (c asked laid placed : Body) (before layout : List ℕ) (at : ℕ)
    → chain_of slots items ≡ chain → Keeps slots items → HasCertificate c
    → asked ≡ c → CanFollow chain asked → IsLayoutAfter chain asked.prev.0 before
    → laid ≡ c → layout ≡ layout_after before laid
    → there ≡ items → placed ≡ c → at ≤ length there
    → AllWithin (λ (h : Held). h.body.r.0 < placed.r.0) there 0 at
    → AllWithin (λ (h : Held). placed.r.0 ≤ h.body.r.0) there at (length there)
    → new ≡ insert items at (record { body = c; layout = layout })
    → Keeps slots new × CanFollow chain c × (chain_of slots new ≡ record chain { held = with_held c chain.held })
held_more slots items new there chain c asked laid placed before layout at seen keeps cert asks can after on is same by fits below above pushed =
    let h : Held = record { body = c; layout = layout } in
    let follows : CanFollow chain c = subst (CanFollow chain) asks can in
    let can' : CanFollow (chain_of slots items) c = subst (λ v. CanFollow v c) (sym seen) follows in
    let after' : IsLayoutAfter (chain_of slots items) c.prev.0 before = subst (λ v. IsLayoutAfter v c.prev.0 before) (sym seen) (subst (λ (b : Body). IsLayoutAfter chain b.prev.0 before) asks after) in
    let fits' : at ≤ length items = omega (arith, ap length same) in
    let below' : AllWithin (λ (g : Held). g.body.r.0 < c.r.0) items 0 at =
    subst (λ l. AllWithin (λ (g : Held). g.body.r.0 < c.r.0) l 0 at) same (subst (λ (b : Body). AllWithin (λ (g : Held). g.body.r.0 < b.r.0) there 0 at) by below) in
    let above' : AllWithin (λ (g : Held). c.r.0 ≤ g.body.r.0) items at (length items) =
    subst (λ l. AllWithin (λ (g : Held). c.r.0 ≤ g.body.r.0) l at (length l)) same (subst (λ (b : Body). AllWithin (λ (g : Held). b.r.0 ≤ g.body.r.0) there at (length there)) by above) in
    let more = keeps_more slots items h at keeps cert can' fits' below' above' before after' (is ∙ ap (layout_after before) on) in
    let with' = holds_with slots items h at keeps cert can' fits' below' above' in (
      subst (Keeps slots) (sym pushed) more,
      follows,
      ap (chain_of slots) pushed ∙ with' ∙ ap (λ (v : ChainView). record v { held = with_held c v.held }) seen,
    )
