-- A chain with one body more is one.
use Rattle.std.proofs.Common.{◌≡◌, ℕ, zero, suc, ◌<◌, ◌≤◌, List, length, get_or, map, sym, subst, ◌∙◌, arith, inl, inr}
use Rattle.std.specs.List.Sorted.{IsStrictlyIncreasing}
use Rattle.std.proofs.lemmas.Bool.{cases_lt}
use Rattle.std.proofs.lemmas.Option.{same_Some, slice_get-get_or}
use Rattle.dn_record_types.specs.declared.body.Body.{Body}
use Rattle.dn_cert.specs.Chain.{ChainView, IsChain, CanFollow, HasCertificate}
use Rattle.dn_cert.proofs.ChainLemmas.{longer_is_chain, longer_is_with}
use Rattle.dn_cert.proofs.GrowthLemmas.{held_stays, layouts_stay_on, counts_stay_on}
use Rattle.dn_cert.proofs.ListLemmas.{rises}
use Rattle.dn_exchange.proofs.Grows.{HoldsMore}
use Rattle.dn_exchange.proofs.HoldSound.{longer}

same_at : (xs : List Body) (k : ℕ) (d e : Body) → k < length xs → get_or xs k d ≡ get_or xs k e
same_at xs k d e lt = same_Some (get_or xs k d) (get_or xs k e) (sym (slice_get-get_or xs k d lt) ∙ slice_get-get_or xs k e lt)

-- the first bodies are of rounds below that of c, and the others, as far as the m-th, aren't
record Split (c : Body) (ds : List Body) (m : ℕ) : Type 0 where
  at : ℕ
  fits : at ≤ m
  below : (k : ℕ) → k < at → (get_or ds k c).r.0 < c.r.0
  above : (k : ℕ) → at ≤ k → k < m → c.r.0 ≤ (get_or ds k c).r.0

split : (c : Body) (ds : List Body) → IsStrictlyIncreasing (map (λ (b : Body). b.r.0) ds) → (m : ℕ) → m ≤ length ds → Split c ds m
split c ds up zero le = record { at = 0; fits = omega arith; below = λ k lt. absurd (omega (arith, lt)); above = λ k ge lt. absurd (omega (arith, lt)) }
split c ds up (suc m) le =
    let s : Split c ds m = split c ds up m (omega (arith, le)) in
    elim (cases_lt s.at m) [
      | inl before ↦ record {
        at = s.at;
        fits = omega (arith, before);
        below = s.below;
        above = λ k ge lt.
            elim (cases_lt k m) [
              | inl less ↦ s.above k ge less
              | inr last ↦
                  let first = s.above s.at (omega arith) before in
                  let rise = rises (λ (b : Body). b.r.0) ds up s.at k c (omega (arith, before, last)) (omega (arith, lt, le)) in
                  omega (arith, first, rise)
            ];
      }
      | inr all ↦ elim (cases_lt (get_or ds m c).r.0 c.r.0) [
        | inl low ↦ record {
          at = suc m;
          fits = omega arith;
          below = λ k lt.
              elim (cases_lt k m) [
                | inl less ↦ s.below k (omega (arith, less, all))
                | inr last ↦ let is : m ≡ k = omega (arith, lt, last) in subst (λ n. (get_or ds n c).r.0 < c.r.0) is low
              ];
          above = λ k ge lt. absurd (omega (arith, ge, lt));
        }
        | inr high ↦ record {
          at = m;
          fits = omega arith;
          below = λ k lt. s.below k (omega (arith, lt, all));
          above = λ k ge lt. let is : m ≡ k = omega (arith, ge, lt) in subst (λ n. c.r.0 ≤ (get_or ds n c).r.0) is high;
        }
      ]
    ]

module _ (chain : ChainView) (c : Body) (is : IsChain chain) (cert : HasCertificate c) (can : CanFollow chain c) where
  pub longer_chain : IsChain (longer chain c)
  longer_chain =
      let s = split c chain.held is.ascends (length chain.held) (omega arith) in
      let fits : s.at ≤ length chain.held = s.fits in
      let below : (k : ℕ) (d : Body) → k < s.at → (get_or chain.held k d).r.0 < c.r.0 = λ k d lt. subst (λ (b : Body). b.r.0 < c.r.0) (same_at chain.held k c d (omega (arith, lt, fits))) (s.below k lt) in
      let above : (k : ℕ) (d : Body) → s.at ≤ k → k < length chain.held → c.r.0 ≤ (get_or chain.held k d).r.0 = λ k d ge lt. subst (λ (b : Body). c.r.0 ≤ b.r.0) (same_at chain.held k c d lt) (s.above k ge lt) in
      subst IsChain (sym (longer_is_with chain c s.at is cert can fits below above)) (longer_is_chain chain c s.at is cert can fits below above)

  pub holds_more : HoldsMore chain (longer chain c)
  holds_more = record {
    more_is = longer_chain;
    all = held_stays c chain.held;
    layouts = λ r l after. layouts_stay_on chain c r l after;
    counts = λ r l after. counts_stay_on chain c r is cert can (l, after);
  }
