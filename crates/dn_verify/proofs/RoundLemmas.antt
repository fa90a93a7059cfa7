-- What rounds of a chain came to.
use Rattle.std.proofs.Common.{◌≡◌, ◌≢◌, ℕ, ◌+◌, Bool, false, List, [], ◌∷◌, ◌++◌, length, refl, sym, ap, ◌∙◌}
use Rattle.std.specs.Prelude.{Contains, flat_map, if◌then◌else◌}
use Rattle.std.proofs.lemmas.List.{append-nil, append_assoc}
use Rattle.std.proofs.lemmas.Grind.{flat_map-append}
use Rattle.dn_bits.specs.Bits.{below}
use Rattle.dn_bits.proofs.SumLemmas.{below_more}
use Rattle.dn_record_types.specs.declared.body.Body.{Body}
use Rattle.dn_layout.specs.Layout.{bits_of}
use Rattle.dn_cert.specs.Chain.{ChainView, bodies, Holds, LayoutAfter, IsLayoutAfter, IsChain}
use Rattle.dn_cert.specs.Chain.LayoutAfter.{at_first, after_prev}
use Rattle.dn_cert.proofs.ChainLemmas.{one_body, layout_is_one_lem}

module _ (chain : ChainView) (chained : IsChain chain) (b : Body) (there : Contains (bodies chain) b) where
  due : Bool → List ℕ → ℕ
  due thin layout = if thin then 0 else bits_of layout

  -- the output of a body that isn't thin is as long as the round
  pub output_long : (layout : List ℕ) → b.thin ≡ false → IsLayoutAfter chain b.prev.0 layout → length b.out ≡ bits_of layout
  unfolding due
  output_long layout full after =
      let of = chained.long b there in
      let same : of.0 ≡ layout = layout_is_one_lem chain b.prev.0 of.0 layout chained of.1 after in
      of.2 ∙ (λ i. due (full i) (same i))

  held_or_first : (r : ℕ) (layout : List ℕ) → LayoutAfter chain.slots (bodies chain) r layout → (r ≢ 0) × (¬ Holds chain r) → ⊥
  held_or_first r layout (at_first zero is) not = not.0 zero
  held_or_first r layout (after_prev c before inside at rest is) not = not.1 (c, inside, at)

  -- there is a layout before it
  pub has_layout : (b.prev.0 ≢ 0) × (¬ Holds chain b.prev.0) → ⊥
  has_layout not = let of = chained.long b there in held_or_first b.prev.0 of.0 of.1 not

-- a body of a round of which the chain has another one isn't the chain's
pub is_other : (chain : ChainView) (b held : Body) → IsChain chain → Contains (bodies chain) held → held.r ≡ b.r → held ≢ b → ¬ Contains (bodies chain) b
is_other chain b held chained there at differ inside = differ (one_body chain chained held b there inside (ap (λ r. r.0) at))

-- none of a round of which it has none is
pub is_unheld : (chain : ChainView) (b : Body) → (¬ Holds chain b.r.0) → ¬ Contains (bodies chain) b
is_unheld chain b none inside = none (b, inside, refl)

-- one element's items more, among those of numbers in order
pub items_more : {A : Type 0} (f : ℕ → List A) (i : ℕ) (first before after : List A) → before ≡ first ++ flat_map f (below i) → after ≡ before ++ f i
    → after ≡ first ++ flat_map f (below (i + 1))
items_more f i first before after so_far more =
    let last : flat_map f (i ∷ []) ≡ f i = append-nil (f i) in
    let all : flat_map f (below (i + 1)) ≡ flat_map f (below i) ++ f i =
    ap (flat_map f) (below_more i) ∙ flat_map-append f (below i) (i ∷ []) ∙ ap (λ xs. flat_map f (below i) ++ xs) last in
    more ∙ ap (λ xs. xs ++ f i) so_far ∙ append_assoc first (flat_map f (below i)) (f i) ∙ ap (λ xs. first ++ xs) (sym all)
