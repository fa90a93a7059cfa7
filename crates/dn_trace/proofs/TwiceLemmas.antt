-- Two statements for one place, as places in what was said.
use Rattle.std.proofs.Common.{◌≡◌, ℕ, zero, suc, ◌+◌, true, cond, eqb, List, ◌++◌, refl, sym, ap, ◌∙◌, subst, arith, inl, inr, Option, Some, None}
use Rattle.std.specs.Prelude.{Contains, ◌&&◌}
use Rattle.std.proofs.lemmas.Bool.{eqb-true, eq-eqb, cases_Bool, and_parts}
use Rattle.std.proofs.lemmas.Option.{same_Some, none-some, cond_some}
use Rattle.std.proofs.lemmas.List.Elements.{All-contains, Contains-append_left, Contains-append_right, Contains-append_cases}
use Rattle.dn_wire.specs.declared.ids.Round.{Round}
use Rattle.dn_record_types.specs.Place.{Place, receipt_of, inventory_of, commit_of, reveal_of, sign_of, pad_bits_of, shown_of, place_of}
use Rattle.dn_record_types.specs.declared.statement.Statement.{Statement}
use Rattle.dn_record_types.specs.declared.statement.Statement.TheVariants as kinds
use Rattle.dn_seal.specs.Dealt.{server}
use Rattle.dn_seal.specs.Said.{SaidView}
use Rattle.dn_trace.specs.Trial.{Trial, Heard, Says, IsCarried, round_of}
use Rattle.dn_trace.specs.Reasons.{IsTwice, IsJudged, Makes, is_server}
use Rattle.dn_trace.specs.Evidence.{AreCarried, place_number, number_by}
use Rattle.dn_trace.proofs.HeardLemmas.{server_is}

-- the number of a place
abbrev number : Place → ℕ
number (receipt_of r i) = 6 + i.0
number (inventory_of r) = 0
number (commit_of r) = 1
number (reveal_of r) = 2
number (sign_of r) = 3
number (pad_bits_of r k) = 4
number (shown_of r) = 5

-- the judged place with a number
abbrev place_at : Round → ℕ → ℕ → Place
place_at r k zero = inventory_of r
place_at r k (suc zero) = commit_of r
place_at r k (suc (suc zero)) = reveal_of r
place_at r k (suc (suc (suc zero))) = sign_of r
place_at r k (suc (suc (suc (suc zero)))) = pad_bits_of r k
place_at r k (suc (suc (suc (suc (suc zero))))) = shown_of r
place_at r k (suc (suc (suc (suc (suc (suc i)))))) = receipt_of r record { 0 = i }

judged_at : (trial : Trial) (q : ℕ) → IsJudged trial (place_at (round_of trial) trial.k q)
judged_at trial zero = refl
judged_at trial (suc zero) = refl
judged_at trial (suc (suc zero)) = refl
judged_at trial (suc (suc (suc zero))) = refl
judged_at trial (suc (suc (suc (suc zero)))) = (refl, refl)
judged_at trial (suc (suc (suc (suc (suc zero))))) = refl
judged_at trial (suc (suc (suc (suc (suc (suc i)))))) = refl

round_is : (a b : Round) → eqb a.0 b.0 ≡ true → a ≡ b
round_is a b e = ap (λ n. record { 0 = n }) (eqb-true a.0 b.0 e)

-- a statement with a number has the place of that number
numbered : (r : Round) (k : ℕ) (s : Statement) (q : ℕ) → place_number r k s ≡ Some q → place_of s ≡ Some (place_at r k q)
numbered r k (kinds.Submission round prev i d) q e = absurd (none-some q e)
numbered r k (kinds.Receipt round i d t) q e =
    let h = cond_some (eqb round.0 r.0) (6 + i.0) q e in
    let six : 6 + i.0 ≡ suc (suc (suc (suc (suc (suc i.0))))) = omega arith in
    ap (λ a. Some (receipt_of a i)) (round_is round r h.0) ∙ ap (λ n. Some (place_at r k n)) (sym six ∙ h.1)
numbered r k (kinds.Inventory v) q e =
    let h = cond_some (eqb v.r.0 r.0) 0 q e in ap (λ a. Some (inventory_of a)) (round_is v.r r h.0) ∙ ap (λ n. Some (place_at r k n)) h.1
numbered r k (kinds.Commit round d) q e =
    let h = cond_some (eqb round.0 r.0) 1 q e in ap (λ a. Some (commit_of a)) (round_is round r h.0) ∙ ap (λ n. Some (place_at r k n)) h.1
numbered r k (kinds.Reveal round s) q e =
    let h = cond_some (eqb round.0 r.0) 2 q e in ap (λ a. Some (reveal_of a)) (round_is round r h.0) ∙ ap (λ n. Some (place_at r k n)) h.1
numbered r k (kinds.Sign b) q e =
    let h = cond_some (eqb b.r.0 r.0) 3 q e in ap (λ a. Some (sign_of a)) (round_is b.r r h.0) ∙ ap (λ n. Some (place_at r k n)) h.1
numbered r k (kinds.PadBits round at bits) q e =
    let h = cond_some (eqb round.0 r.0 && eqb at k) 4 q e in
    let both = and_parts (eqb round.0 r.0) (eqb at k) h.0 in
    (λ i. Some (pad_bits_of (round_is round r both.0 i) (eqb-true at k both.1 i))) ∙ ap (λ n. Some (place_at r k n)) h.1
numbered r k (kinds.Shown round s shown) q e =
    let h = cond_some (eqb round.0 r.0) 5 q e in ap (λ a. Some (shown_of a)) (round_is round r h.0) ∙ ap (λ n. Some (place_at r k n)) h.1
numbered r k (kinds.Accusation round s at) q e = absurd (none-some q e)
numbered r k (kinds.Rebuttal round at j seed envelope) q e = absurd (none-some q e)
numbered r k (kinds.Concede round at) q e = absurd (none-some q e)

-- a statement for a judged place has that place's number
has_number : (trial : Trial) (s : Statement) (p : Place) → place_of s ≡ Some p → IsJudged trial p → place_number (round_of trial) trial.k s ≡ Some (number p)
has_number trial (kinds.Submission round prev i d) p e judged = absurd (none-some p e)
has_number trial (kinds.Receipt round i d t) p e judged =
    let h = same_Some (receipt_of round i) p e in
    let here = subst (IsJudged trial) (sym h) judged in
    rw (eq-eqb round.0 (round_of trial).0 (ap (λ a. a.0) here)) (ap (λ x. Some (number x)) h)
has_number trial (kinds.Inventory v) p e judged =
    let h = same_Some (inventory_of v.r) p e in
    let here = subst (IsJudged trial) (sym h) judged in
    rw (eq-eqb v.r.0 (round_of trial).0 (ap (λ a. a.0) here)) (ap (λ x. Some (number x)) h)
has_number trial (kinds.Commit round d) p e judged =
    let h = same_Some (commit_of round) p e in
    let here = subst (IsJudged trial) (sym h) judged in
    rw (eq-eqb round.0 (round_of trial).0 (ap (λ a. a.0) here)) (ap (λ x. Some (number x)) h)
has_number trial (kinds.Reveal round s) p e judged =
    let h = same_Some (reveal_of round) p e in
    let here = subst (IsJudged trial) (sym h) judged in
    rw (eq-eqb round.0 (round_of trial).0 (ap (λ a. a.0) here)) (ap (λ x. Some (number x)) h)
has_number trial (kinds.Sign b) p e judged =
    let h = same_Some (sign_of b.r) p e in
    let here = subst (IsJudged trial) (sym h) judged in
    rw (eq-eqb b.r.0 (round_of trial).0 (ap (λ a. a.0) here)) (ap (λ x. Some (number x)) h)
has_number trial (kinds.PadBits round at bits) p e judged =
    let h = same_Some (pad_bits_of round at) p e in
    let here = subst (IsJudged trial) (sym h) judged in
    rw (eq-eqb round.0 (round_of trial).0 (ap (λ a. a.0) here.0), eq-eqb at trial.k here.1) (ap (λ x. Some (number x)) h)
has_number trial (kinds.Shown round s shown) p e judged =
    let h = same_Some (shown_of round) p e in
    let here = subst (IsJudged trial) (sym h) judged in
    rw (eq-eqb round.0 (round_of trial).0 (ap (λ a. a.0) here)) (ap (λ x. Some (number x)) h)
has_number trial (kinds.Accusation round s at) p e judged = absurd (none-some p e)
has_number trial (kinds.Rebuttal round at j seed envelope) p e judged = absurd (none-some p e)
has_number trial (kinds.Concede round at) p e judged = absurd (none-some p e)

module _ (trial : Trial) (carried : List SaidView) (are : AreCarried trial carried) (j : ℕ) where
  abbrev all : List SaidView
  all = trial.given ++ carried

  abbrev by : SaidView → Option ℕ
  by = number_by j (round_of trial) trial.k

  -- what has a number is what the server makes for that place
  makes : (x : SaidView) (q : ℕ) → Contains all x → by x ≡ Some q → Makes trial j (place_at (round_of trial) trial.k q) x.statement
  makes x q among e =
      let test : is_server j x.signer ≡ true = elim (cases_Bool (is_server j x.signer)) [
        | inl is ↦ is
        | inr other ↦ absurd (none-some q (sym (ap (λ b. cond b (place_number (round_of trial) trial.k x.statement) None) other) ∙ e))
      ] in
      let who = server_is j x.signer test in
      let n : place_number (round_of trial) trial.k x.statement ≡ Some q = sym (ap (λ b. cond b (place_number (round_of trial) trial.k x.statement) None) test) ∙ e in
      let heard : Heard trial x.signer x.statement = elim (Contains-append_cases trial.given carried x among) [
        | inl given ↦ inl (x, given, refl, refl)
        | inr in_rebuttal ↦ inr (inl (All-contains (λ y. IsCarried trial y.signer y.statement) carried x are.each in_rebuttal))
      ] in
      (subst (λ w. Heard trial w x.statement) who heard, numbered (round_of trial) trial.k x.statement q n)

  pub twice_from : (x y : SaidView) (q : ℕ) → Contains all x → Contains all y → by x ≡ Some q → by y ≡ Some q → ¬ (x.statement ≡ y.statement) → IsTwice trial j
  twice_from x y q among_x among_y ex ey differ = record {
    place = place_at (round_of trial) trial.k q;
    judged = judged_at trial q;
    one = x.statement;
    makes_one = makes x q among_x ex;
    other = y.statement;
    makes_other = makes y q among_y ey;
    differ = differ;
  }

  -- what a server makes for a judged place is among what was said, with the place's number
  found : (s : Statement) (p : Place) → IsJudged trial p → Makes trial j p s → (x : SaidView) × Contains all x × (x.statement ≡ s) × (by x ≡ Some (number p))
  found s p judged made =
      let n = has_number trial s p made.1 judged in
      let says : Says all (server j) s = elim made.0 [
        | inl given ↦ (given.0, Contains-append_left trial.given carried given.0 given.1, given.2, given.3)
        | inr other ↦ elim other [
          | inl c ↦
              let place : pad_bits_of c.signed_r c.signed_k ≡ p = same_Some (pad_bits_of c.signed_r c.signed_k) p (sym (ap place_of c.is) ∙ made.1) in
              let here = subst (IsJudged trial) (sym place) judged in
              let is : s ≡ kinds.PadBits (round_of trial) trial.k c.bits = c.is ∙ (λ i. kinds.PadBits (here.0 i) (here.1 i) c.bits) in
              let w = are.whole (server j) c.bits (subst (IsCarried trial (server j)) is c) in
              (w.0, Contains-append_right trial.given carried w.0 w.1, w.2, w.3 ∙ sym is)
          | inr entered ↦ let e = entered.client in absurd cc
        ]
      ] in (
        says.0,
        says.1,
        says.3,
        ap (λ w. cond (is_server j w) (place_number (round_of trial) trial.k says.0.statement) None) says.2
            ∙ ap (λ b. cond b (place_number (round_of trial) trial.k says.0.statement) None) (eq-eqb j j refl)
            ∙ ap (place_number (round_of trial) trial.k) says.3 ∙ n,
      )

  pub not_twice : ((x y : SaidView) (q : ℕ) → Contains all x → Contains all y → by x ≡ Some q → by y ≡ Some q → x.statement ≡ y.statement) → ¬ IsTwice trial j
  not_twice same t =
      let a = found t.one t.place t.judged t.makes_one in
      let b = found t.other t.place t.judged t.makes_other in
      t.differ (sym a.2 ∙ same a.0 b.0 (number t.place) a.1 b.1 a.3 b.3 ∙ b.2)
