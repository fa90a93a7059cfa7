-- A chain that grows by a body.
use Rattle.std.proofs.Common.{◌≡◌, ◌≢◌, ℕ, ◌<◌, Bool, true, false, cond, ltb, List, [], ◌∷◌, length, sym, ap, subst, ◌∙◌, arith, inl, inr}
use Rattle.std.specs.Prelude.{Contains, ◌⊎◌}
use Rattle.std.proofs.lemmas.List.{length-replicate}
use Rattle.std.proofs.lemmas.List.Elements.{All-contains}
use Rattle.dn_record_types.specs.declared.body.Body.{Body}
use Rattle.dn_layout.specs.Layout.{next_of}
use Rattle.dn_layout.proofs.LengthLemmas.{length-next_of}
use Rattle.dn_cert.specs.Chain.{ChainView, bodies, LayoutAfter, IsLayoutAfter, count_at, CanFollow, IsRound, with_held, HasCertificate, IsChain}
use Rattle.dn_cert.specs.Chain.LayoutAfter.{at_first, after_prev}
use Rattle.dn_cert.proofs.Orders.{here, later, first_or_later, nothing}
use Rattle.dn_cert.proofs.CountLemmas.{count_none, count_found}
use Rattle.dn_cert.proofs.ChainLemmas.{layout_stays, one_body, count_held, count_first}

pub held_stays : (b : Body) (ds : List Body) (c : Body) → Contains ds c → Contains (with_held b ds) c
held_stays b [] c a = absurd (nothing c a)
held_stays b (d ∷ ds) c a =
    elim (ltb d.r.0 b.r.0) as (λ t. Contains (cond t (d ∷ with_held b ds) (b ∷ d ∷ ds)) c) [
      | true ↦ elim (first_or_later d ds c a) [
        | inl first ↦ subst (λ (x : Body). Contains (d ∷ with_held b ds) x) first (here d (with_held b ds))
        | inr behind ↦ later d (with_held b ds) c (held_stays b ds c behind)
      ]
      | false ↦ later b (d ∷ ds) c a
    ]

pub held_comes : (b : Body) (ds : List Body) → Contains (with_held b ds) b
held_comes b [] = here b []
held_comes b (d ∷ ds) =
    elim (ltb d.r.0 b.r.0) as (λ t. Contains (cond t (d ∷ with_held b ds) (b ∷ d ∷ ds)) b) [
      | true ↦ later d (with_held b ds) b (held_comes b ds)
      | false ↦ here b (d ∷ ds)
    ]

pub held_only : (b : Body) (ds : List Body) (c : Body) → Contains (with_held b ds) c → (b ≡ c) ⊎ Contains ds c
held_only b [] c a = first_or_later b [] c a
held_only b (d ∷ ds) c a =
    elim (ltb d.r.0 b.r.0) as (λ t. Contains (cond t (d ∷ with_held b ds) (b ∷ d ∷ ds)) c → (b ≡ c) ⊎ Contains (d ∷ ds) c) [
      | true ↦ λ h. elim (first_or_later d (with_held b ds) c h) [
        | inl first ↦ inr (subst (λ (x : Body). Contains (d ∷ ds) x) first (here d ds))
        | inr behind ↦ elim (held_only b ds c behind) [ inl is ↦ inl is | inr old ↦ inr (later d ds c old) ]
      ]
      | false ↦ λ h. first_or_later b (d ∷ ds) c h
    ] a

pub layouts_stay_on : (chain : ChainView) (b : Body) (r : ℕ) (l : List ℕ) → IsLayoutAfter chain r l → IsLayoutAfter (record chain { held = with_held b chain.held }) r l
layouts_stay_on chain b r l d = layout_stays chain.slots (bodies chain) (with_held b (bodies chain)) (held_stays b (bodies chain)) r l d

module _ (chain : ChainView) (b : Body) (is : IsChain chain) (has : HasCertificate b) (can : CanFollow chain b) where
  abbrev grown : ChainView
  grown = record chain { held = with_held b chain.held }

  one_grown : (x y : Body) → Contains (bodies grown) x → Contains (bodies grown) y → x.r.0 ≡ y.r.0 → x ≡ y
  one_grown x y p q e =
      elim (held_only b (bodies chain) x p) [
        | inl x_new ↦ elim (held_only b (bodies chain) y q) [
          | inl y_new ↦ sym x_new ∙ y_new
          | inr y_old ↦ absurd (can.new (y, y_old, sym e ∙ sym (ap (λ (v : Body). v.r.0) x_new)))
        ]
        | inr x_old ↦ elim (held_only b (bodies chain) y q) [
          | inl y_new ↦ absurd (can.new (x, x_old, e ∙ sym (ap (λ (v : Body). v.r.0) y_new)))
          | inr y_old ↦ one_body chain is x y x_old y_old e
        ]
      ]

  rises : (x : Body) → Contains (bodies grown) x → x.prev.0 < x.r.0
  rises x p =
      elim (held_only b (bodies chain) x p) [
        | inl new ↦ subst (λ (v : Body). v.prev.0 < v.r.0) (has.2 ∙ new) has.1.signed.within.after
        | inr old ↦ All-contains (λ (v : Body). v.prev.0 < v.r.0) (bodies chain) x is.before old
      ]

  none_of_round_0 : (x : Body) → Contains (bodies grown) x → x.r.0 ≢ 0
  none_of_round_0 x p e = let below = rises x p in omega arith

  by_layout : (r : ℕ) (l : List ℕ) → IsLayoutAfter chain r l → count_at grown r ≡ count_at chain r
  by_layout r l (at_first z it) =
      ap (count_at grown) z ∙ count_none (bodies grown) 0 none_of_round_0 ∙ sym (count_first chain is) ∙ sym (ap (count_at chain) z)
  by_layout r l (after_prev d before inside on rest it) =
      sym (ap (count_at grown) on) ∙ count_found (bodies grown) one_grown d (held_stays b (bodies chain) d inside)
      ∙ sym (count_held chain d is inside) ∙ ap (count_at chain) on

pub counts_stay_on : (chain : ChainView) (b : Body) (r : ℕ) → IsChain chain → HasCertificate b → CanFollow chain b → IsRound chain r
    → count_at (record chain { held = with_held b chain.held }) r ≡ count_at chain r
counts_stay_on chain b r is has can round = by_layout chain b is has can r round.0 round.1

either_long : (t : Bool) (l m : List ℕ) (n : ℕ) → length l ≡ n → length m ≡ n → length (cond t l m) ≡ n
either_long true l m n a b = a
either_long false l m n a b = b

length-after : (slots : ℕ) (bs : List Body) (r : ℕ) (l : List ℕ) → LayoutAfter slots bs r l → length l ≡ slots
length-after slots bs r l (at_first z is) = ap length is ∙ length-replicate slots 0
length-after slots bs r l (after_prev b before inside at rest is) =
    let long : length before ≡ slots = length-after slots bs b.prev.0 before rest in
    ap length is ∙ either_long b.thin before (next_of before b.out) slots long (length-next_of before b.out ∙ long)

pub length-layout : (chain : ChainView) (r : ℕ) (l : List ℕ) → IsLayoutAfter chain r l → length l ≡ chain.slots
length-layout chain r l d = length-after chain.slots (bodies chain) r l d
