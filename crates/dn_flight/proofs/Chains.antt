-- Places with keys in a list, and the links of each to the nearest ones with its key.
use Rattle.std.proofs.Common.{◌≡◌, ◌≢◌, ℕ, ◌+◌, ◌<◌, ◌≤◌, ◌⊎◌, inl, inr, ⊎_elim, ◌==◌, ◌&&◌, List, [], ◌∷◌, ◌++◌, length, cond, nat_lt, Bool, true, false, refl, ap, ◌∙◌, sym, arith, append_assoc, append-nil, length-append, eq-eqb, ne_eqb, le-ltb}
use Rattle.dn_flight.specs.Arena.{none}
use Rattle.dn_flight.specs.Chains.{has, first_of, last_from, last_of, count, IsLinked, IsApart}
use mathlib.Core.Logic.{dite}
use native.Mathlib.Decide.{ℕ_discrete, dec_le}

pub count-append : (p : ℕ) (u v : List (ℕ × ℕ)) → count p (u ++ v) ≡ count p u + count p v
count-append p [] v = omega arith
count-append p (y ∷ u) v = omega (arith, count-append p u v)

bit : (t : Bool) → cond {A = ℕ} t 1 0 ≤ 1
bit true = omega arith
bit false = omega arith

pub apart_at : (cs b : List (ℕ × ℕ)) (x : ℕ × ℕ) (a : List (ℕ × ℕ)) → IsApart cs → cs ≡ b ++ x ∷ a → (x.0 < none) × (count x.0 b ≡ 0) × (count x.0 a ≡ 0)
apart_at cs b x a apart is =
    let all : count x.0 cs ≡ count x.0 b + (1 + count x.0 a) = ap (count x.0) is ∙ count-append x.0 b (x ∷ a) ∙ ap (λ (t : Bool). count x.0 b + (cond {A = ℕ} t 1 0 + count x.0 a)) (eq-eqb x.0 x.0 refl) in
    let most = apart x.0 in
    dite (dec_le none x.0)
    (λ le. absurd (omega (arith, all, most, ap (λ (t : Bool). cond {A = ℕ} t 1 0) (le_ltb none x.0 le))))
    (λ gt. (omega arith, omega (arith, all, most, bit (nat_lt x.0 none)), omega (arith, all, most, bit (nat_lt x.0 none))))
  where
    le_ltb : (n q : ℕ) → n ≤ q → nat_lt q n ≡ false
    le_ltb n q h = le-ltb q n h

off : true ≡ false → ⊥
off e = cc

first_has : (k : ℕ) (a b : List (ℕ × ℕ)) → has k a ≡ true → first_of k (a ++ b) ≡ first_of k a
first_has k [] b h = absurd (off (sym h))
first_has k (x ∷ a) b h = by (x.1 == k) h (first_has k a b)
  where
    by : (t : Bool) → cond t true (has k a) ≡ true → (has k a ≡ true → first_of k (a ++ b) ≡ first_of k a) → cond t x.0 (first_of k (a ++ b)) ≡ cond t x.0 (first_of k a)
    by true h more = refl
    by false h more = more h

first_not : (k : ℕ) (a b : List (ℕ × ℕ)) → has k a ≡ false → first_of k (a ++ b) ≡ first_of k b
first_not k [] b h = refl
first_not k (x ∷ a) b h = by (x.1 == k) h (first_not k a b)
  where
    by : (t : Bool) → cond t true (has k a) ≡ false → (has k a ≡ false → first_of k (a ++ b) ≡ first_of k b) → cond t x.0 (first_of k (a ++ b)) ≡ first_of k b
    by true h more = absurd (off h)
    by false h more = more h

last_has : (acc other k : ℕ) (c : List (ℕ × ℕ)) → has k c ≡ true → last_from acc k c ≡ last_from other k c
last_has acc other k [] h = absurd (off (sym h))
last_has acc other k (x ∷ c) h = by (x.1 == k) h (last_has acc other k c)
  where
    by : (t : Bool) → cond t true (has k c) ≡ true → (has k c ≡ true → last_from acc k c ≡ last_from other k c) → last_from (cond t x.0 acc) k c ≡ last_from (cond t x.0 other) k c
    by true h more = refl
    by false h more = more h

pub last_not : (acc k : ℕ) (c : List (ℕ × ℕ)) → has k c ≡ false → last_from acc k c ≡ acc
last_not acc k [] h = refl
last_not acc k (x ∷ c) h = by (x.1 == k) h (last_not acc k c)
  where
    by : (t : Bool) → cond t true (has k c) ≡ false → (has k c ≡ false → last_from acc k c ≡ acc) → last_from (cond t x.0 acc) k c ≡ acc
    by true h more = absurd (off h)
    by false h more = more h

pub last_append : (acc k : ℕ) (b c : List (ℕ × ℕ)) → last_from acc k (b ++ c) ≡ last_from (last_from acc k b) k c
last_append acc k [] c = refl
last_append acc k (x ∷ b) c = last_append (cond (x.1 == k) x.0 acc) k b c

pub first_in : (k : ℕ) (a : List (ℕ × ℕ)) → has k a ≡ true → 0 < count (first_of k a) a
first_in k [] h = absurd (off (sym h))
first_in k (x ∷ a) h = by (x.1 == k) h (first_in k a)
  where
    by : (t : Bool) → cond t true (has k a) ≡ true → (has k a ≡ true → 0 < count (first_of k a) a) → 0 < cond (x.0 == cond t x.0 (first_of k a)) 1 0 + count (cond t x.0 (first_of k a)) a
    by true h more = omega (arith, ap (λ (q : Bool). cond {A = ℕ} q 1 0) (eq-eqb x.0 x.0 refl))
    by false h more = omega (arith, more h)

first_none : (k : ℕ) (a : List (ℕ × ℕ)) → has k a ≡ false → first_of k a ≡ none
first_none k [] h = refl
first_none k (x ∷ a) h = by (x.1 == k) h (first_none k a)
  where
    by : (t : Bool) → cond t true (has k a) ≡ false → (has k a ≡ false → first_of k a ≡ none) → cond t x.0 (first_of k a) ≡ none
    by true h more = absurd (off h)
    by false h more = more h

pub last_in : (acc k : ℕ) (c : List (ℕ × ℕ)) → has k c ≡ true → 0 < count (last_from acc k c) c
last_in acc k [] h = absurd (off (sym h))
last_in acc k (x ∷ c) h = by (x.1 == k) (has k c) refl refl h (λ a. last_in a k c)
  where
    by : (t u : Bool) → (x.1 == k) ≡ t → has k c ≡ u → cond (x.1 == k) true (has k c) ≡ true → ((a : ℕ) → has k c ≡ true → 0 < count (last_from a k c) c)
        → 0 < cond (x.0 == last_from (cond (x.1 == k) x.0 acc) k c) 1 0 + count (last_from (cond (x.1 == k) x.0 acc) k c) c
    by t true e d h more = omega (arith, more (cond (x.1 == k) x.0 acc) d)
    by true false e d h more =
        let it : last_from (cond (x.1 == k) x.0 acc) k c ≡ x.0 = last_not (cond (x.1 == k) x.0 acc) k c d ∙ ap (λ (q : Bool). cond q x.0 acc) e in
        omega (arith, ap (λ (q : Bool). cond {A = ℕ} q 1 0) (eq-eqb x.0 (last_from (cond (x.1 == k) x.0 acc) k c) (sym it)))
    by false false e d h more = absurd (off (sym h ∙ ap (λ (q : Bool). cond q true (has k c)) e ∙ d))

-- what isn't a place there is neither the first nor the last
not_first : (k p : ℕ) (a : List (ℕ × ℕ)) → p < none → count p a ≡ 0 → first_of k a ≢ p
not_first k p a low zero_it e = by (has k a) refl
  where
    by : (t : Bool) → has k a ≡ t → ⊥
    by true h = absurd (omega (arith, first_in k a h, ap (λ (q : ℕ). count q a) e, zero_it))
    by false h = absurd (omega (arith, first_none k a h, e, low))

not_last : (acc k p : ℕ) (c : List (ℕ × ℕ)) → acc ≢ p → count p c ≡ 0 → last_from acc k c ≢ p
not_last acc k p c other zero_it e = by (has k c) refl
  where
    by : (t : Bool) → has k c ≡ t → ⊥
    by true h = absurd (omega (arith, last_in acc k c h, ap (λ (q : ℕ). count q c) e, zero_it))
    by false h = other (sym (last_not acc k c h) ∙ e)

abbrev tail_of : List (ℕ × ℕ) → List (ℕ × ℕ)
tail_of [] = []
tail_of (x ∷ a) = a

abbrev head_or : ℕ × ℕ → List (ℕ × ℕ) → ℕ × ℕ
head_or d [] = d
head_or d (x ∷ a) = x

-- where an element of two lists together stands
pub split : (B A b : List (ℕ × ℕ)) (x : ℕ × ℕ) (a : List (ℕ × ℕ)) → B ++ A ≡ b ++ x ∷ a
    → ((c : List (ℕ × ℕ)) × (B ≡ b ++ x ∷ c) × (a ≡ c ++ A)) ⊎ ((c : List (ℕ × ℕ)) × (A ≡ c ++ x ∷ a) × (b ≡ B ++ c))
split [] A b x a e = inr (b, e, refl)
split (y ∷ B) A [] x a e = inl (B, ap (λ h. h ∷ B) (ap (head_or x) e), sym (ap tail_of e))
split (y ∷ B) A (z ∷ b) x a e = ⊎_elim
    (λ t. inl (t.0, (λ j. ap (head_or y) e j ∷ t.1 j), t.2))
    (λ t. inr (t.0, t.1, (λ j. ap (head_or y) (sym e) j ∷ t.2 j)))
    (split B A b x a (ap tail_of e))

pub eqb : (x y : ℕ) → (x ≡ y → ⊥) → (x == y) ≡ false
eqb x y ne = ne_eqb x y ne

count_front : (p : ℕ) (u v : List (ℕ × ℕ)) → count p (u ++ v) ≡ 0 → count p u ≡ 0
count_front p u v h = omega (arith, h, count-append p u v)

count_back : (p : ℕ) (u v : List (ℕ × ℕ)) → count p (u ++ v) ≡ 0 → count p v ≡ 0
count_back p u v h = omega (arith, h, count-append p u v)

-- the links after an element was taken out
module _ (before after : ℕ → ℕ) (B : List (ℕ × ℕ)) (e : ℕ × ℕ) (A : List (ℕ × ℕ)) (linked : IsLinked before after (B ++ e ∷ A)) (apart : IsApart (B ++ e ∷ A)) where
  skip_first : (k : ℕ) (c : List (ℕ × ℕ)) → e.1 ≢ k → first_of k (c ++ e ∷ A) ≡ first_of k (c ++ A)
  skip_first k c ne = by (has k c) refl
    where
      by : (t : Bool) → has k c ≡ t → first_of k (c ++ e ∷ A) ≡ first_of k (c ++ A)
      by true h = first_has k c (e ∷ A) h ∙ sym (first_has k c A h)
      by false h = first_not k c (e ∷ A) h ∙ ap (λ (q : Bool). cond q e.0 (first_of k A)) (eqb e.1 k ne) ∙ sym (first_not k c A h)

  pub remove_after : (b : List (ℕ × ℕ)) (x : ℕ × ℕ) (a : List (ℕ × ℕ)) → B ++ A ≡ b ++ x ∷ a → cond (x.0 == last_of e.1 B) (first_of e.1 A) (after x.0) ≡ first_of x.1 a
  remove_after b x a is = ⊎_elim
      (λ t. first_part t.0 t.1 t.2)
      (λ t. second_part t.0 t.1 t.2)
      (split B A b x a is)
    where
      unless : (u v : ℕ) → (x.0 ≢ last_of e.1 B) → v ≡ first_of x.1 a → cond (x.0 == last_of e.1 B) u v ≡ first_of x.1 a
      unless u v ne q = ap (λ (t : Bool). cond t u v) (eqb x.0 (last_of e.1 B) ne) ∙ q

      second_part : (c : List (ℕ × ℕ)) → A ≡ c ++ x ∷ a → b ≡ B ++ c → cond (x.0 == last_of e.1 B) (first_of e.1 A) (after x.0) ≡ first_of x.1 a
      second_part c at before_it =
          let there : B ++ e ∷ A ≡ (B ++ e ∷ c) ++ x ∷ a = ap (λ l. B ++ e ∷ l) at ∙ sym (append_assoc B (e ∷ c) (x ∷ a)) in
          let far = apart_at (B ++ e ∷ A) (B ++ e ∷ c) x a apart there in
          unless (first_of e.1 A) (after x.0) (λ q. not_last none e.1 x.0 B (λ z. omega (arith, z, far.0)) (count_front x.0 B (e ∷ c) far.1) (sym q)) (linked (B ++ e ∷ c) x a there).1

      first_part : (c : List (ℕ × ℕ)) → B ≡ b ++ x ∷ c → a ≡ c ++ A → cond (x.0 == last_of e.1 B) (first_of e.1 A) (after x.0) ≡ first_of x.1 a
      first_part c at rest =
          let there : B ++ e ∷ A ≡ b ++ x ∷ (c ++ e ∷ A) = ap (λ l. l ++ e ∷ A) at ∙ append_assoc b (x ∷ c) (e ∷ A) in
          let far = apart_at (B ++ e ∷ A) b x (c ++ e ∷ A) apart there in
          let was = (linked b x (c ++ e ∷ A) there).1 in
          let last_is : last_of e.1 B ≡ last_from (cond (x.1 == e.1) x.0 (last_of e.1 b)) e.1 c = ap (last_of e.1) at ∙ last_append none e.1 b (x ∷ c) in
          let in_b : last_of e.1 b ≢ x.0 = not_last none e.1 x.0 b (λ z. omega (arith, z, far.0)) far.1 in
          let in_c : count x.0 c ≡ 0 = count_front x.0 c (e ∷ A) far.2 in
          dite (ℕ_discrete x.1 e.1)
          (λ same. by (has e.1 c) refl same last_is was in_c)
          (λ other. unless (first_of e.1 A) (after x.0)
          (λ q. not_last (cond (x.1 == e.1) x.0 (last_of e.1 b)) e.1 x.0 c (λ z. in_b (sym (ap (λ (t : Bool). cond t x.0 (last_of e.1 b)) (eqb x.1 e.1 other)) ∙ z)) in_c (sym last_is ∙ sym q))
          (was ∙ skip_first x.1 c (λ z. other (sym z)) ∙ ap (first_of x.1) (sym rest)))
        where
          by : (t : Bool) → has e.1 c ≡ t → x.1 ≡ e.1 → last_of e.1 B ≡ last_from (cond (x.1 == e.1) x.0 (last_of e.1 b)) e.1 c → after x.0 ≡ first_of x.1 (c ++ e ∷ A) → count x.0 c ≡ 0
              → cond (x.0 == last_of e.1 B) (first_of e.1 A) (after x.0) ≡ first_of x.1 a
          by true h same last_is was in_c =
              let low : x.0 < none = (apart_at (B ++ e ∷ A) b x (c ++ e ∷ A) apart (ap (λ l. l ++ e ∷ A) at ∙ append_assoc b (x ∷ c) (e ∷ A))).0 in
              unless (first_of e.1 A) (after x.0)
              (λ q. not_last none e.1 x.0 c (λ z. omega (arith, z, low)) in_c (last_has none (cond (x.1 == e.1) x.0 (last_of e.1 b)) e.1 c h ∙ sym last_is ∙ sym q))
              (was ∙ ap (λ (k : ℕ). first_of k (c ++ e ∷ A)) same ∙ first_has e.1 c (e ∷ A) h ∙ sym (first_has e.1 c A h) ∙ ap (λ (k : ℕ). first_of k (c ++ A)) (sym same) ∙ ap (first_of x.1) (sym rest))
          by false h same last_is was in_c =
              let it : last_of e.1 B ≡ x.0 = last_is ∙ last_not (cond (x.1 == e.1) x.0 (last_of e.1 b)) e.1 c h ∙ ap (λ (t : Bool). cond t x.0 (last_of e.1 b)) (eq-eqb x.1 e.1 same) in
              ap (λ (t : Bool). cond t (first_of e.1 A) (after x.0)) (eq-eqb x.0 (last_of e.1 B) (sym it))
              ∙ sym (first_not e.1 c A h) ∙ ap (λ (k : ℕ). first_of k (c ++ A)) (sym same) ∙ ap (first_of x.1) (sym rest)

  first_else : (k : ℕ) (c : List (ℕ × ℕ)) (x : ℕ × ℕ) (a : List (ℕ × ℕ)) → x.0 < none → count x.0 c ≡ 0 → count x.0 a ≡ 0 → (has k c ≡ true) ⊎ (x.1 ≢ k) → first_of k (c ++ x ∷ a) ≢ x.0
  first_else k c x a low in_c in_a h q = by (has k c) refl h
    where
      by : (t : Bool) → has k c ≡ t → (has k c ≡ true) ⊎ (x.1 ≢ k) → ⊥
      by true d h = not_first k x.0 c low in_c (sym (first_has k c (x ∷ a) d) ∙ q)
      by false d h = ⊎_elim
          (λ y. off (sym y ∙ d))
          (λ other. not_first k x.0 a low in_a (sym (first_not k c (x ∷ a) d ∙ ap (λ (t : Bool). cond t x.0 (first_of k a)) (eqb x.1 k other)) ∙ q))
          h

  pub remove_before : (b : List (ℕ × ℕ)) (x : ℕ × ℕ) (a : List (ℕ × ℕ)) → B ++ A ≡ b ++ x ∷ a → cond (x.0 == first_of e.1 A) (last_of e.1 B) (before x.0) ≡ last_of x.1 b
  remove_before b x a is = ⊎_elim
      (λ t. first_part t.0 t.1 t.2)
      (λ t. second_part t.0 t.1 t.2)
      (split B A b x a is)
    where
      unless : (u v : ℕ) → (x.0 ≢ first_of e.1 A) → v ≡ last_of x.1 b → cond (x.0 == first_of e.1 A) u v ≡ last_of x.1 b
      unless u v ne q = ap (λ (t : Bool). cond t u v) (eqb x.0 (first_of e.1 A) ne) ∙ q

      first_part : (c : List (ℕ × ℕ)) → B ≡ b ++ x ∷ c → a ≡ c ++ A → cond (x.0 == first_of e.1 A) (last_of e.1 B) (before x.0) ≡ last_of x.1 b
      first_part c at rest =
          let there : B ++ e ∷ A ≡ b ++ x ∷ (c ++ e ∷ A) = ap (λ l. l ++ e ∷ A) at ∙ append_assoc b (x ∷ c) (e ∷ A) in
          let far = apart_at (B ++ e ∷ A) b x (c ++ e ∷ A) apart there in
          let in_A : count x.0 A ≡ 0 = count_back x.0 (e ∷ []) A (count_back x.0 c (e ∷ A) far.2) in
          unless (last_of e.1 B) (before x.0) (λ q. not_first e.1 x.0 A far.0 in_A (sym q)) (linked b x (c ++ e ∷ A) there).0

      second_part : (c : List (ℕ × ℕ)) → A ≡ c ++ x ∷ a → b ≡ B ++ c → cond (x.0 == first_of e.1 A) (last_of e.1 B) (before x.0) ≡ last_of x.1 b
      second_part c at front =
          let there : B ++ e ∷ A ≡ (B ++ e ∷ c) ++ x ∷ a = ap (λ l. B ++ e ∷ l) at ∙ sym (append_assoc B (e ∷ c) (x ∷ a)) in
          let far = apart_at (B ++ e ∷ A) (B ++ e ∷ c) x a apart there in
          let in_c : count x.0 c ≡ 0 = count_back x.0 (e ∷ []) c (count_back x.0 B (e ∷ c) far.1) in
          let was : before x.0 ≡ last_from (cond (e.1 == x.1) e.0 (last_of x.1 B)) x.1 c = (linked (B ++ e ∷ c) x a there).0 ∙ last_append none x.1 B (e ∷ c) in
          let due : last_of x.1 b ≡ last_from (last_of x.1 B) x.1 c = ap (last_of x.1) front ∙ last_append none x.1 B c in
          dite (ℕ_discrete x.1 e.1)
          (λ same. by (has e.1 c) refl same was due far.0 in_c far.2 at)
          (λ other. unless (last_of e.1 B) (before x.0)
          (λ q. first_else e.1 c x a far.0 in_c far.2 (inr other) (sym (q ∙ ap (first_of e.1) at)))
          (was ∙ ap (λ (t : Bool). last_from (cond t e.0 (last_of x.1 B)) x.1 c) (eqb e.1 x.1 (λ z. other (sym z))) ∙ sym due))
        where
          by : (t : Bool) → has e.1 c ≡ t → x.1 ≡ e.1 → before x.0 ≡ last_from (cond (e.1 == x.1) e.0 (last_of x.1 B)) x.1 c → last_of x.1 b ≡ last_from (last_of x.1 B) x.1 c
              → x.0 < none → count x.0 c ≡ 0 → count x.0 a ≡ 0 → A ≡ c ++ x ∷ a → cond (x.0 == first_of e.1 A) (last_of e.1 B) (before x.0) ≡ last_of x.1 b
          by true h same was due low in_c in_a at = unless (last_of e.1 B) (before x.0)
              (λ q. first_else e.1 c x a low in_c in_a (inl h) (sym (q ∙ ap (first_of e.1) at)))
              (was ∙ last_has (cond (e.1 == x.1) e.0 (last_of x.1 B)) (last_of x.1 B) x.1 c (ap (λ (k : ℕ). has k c) same ∙ h) ∙ sym due)
          by false h same was due low in_c in_a at =
              let it : first_of e.1 A ≡ x.0 = ap (first_of e.1) at ∙ first_not e.1 c (x ∷ a) h ∙ ap (λ (t : Bool). cond t x.0 (first_of e.1 a)) (eq-eqb x.1 e.1 same) in
              ap (λ (t : Bool). cond t (last_of e.1 B) (before x.0)) (eq-eqb x.0 (first_of e.1 A) (sym it))
              ∙ sym (due ∙ ap (λ (k : ℕ). last_from (last_of k B) k c) same ∙ last_not (last_of e.1 B) e.1 c h)

  pub remove_linked : IsLinked (λ p. cond (p == first_of e.1 A) (last_of e.1 B) (before p)) (λ p. cond (p == last_of e.1 B) (first_of e.1 A) (after p)) (B ++ A)
  remove_linked b x a is = (remove_before b x a is, remove_after b x a is)

  pub remove_apart : IsApart (B ++ A)
  remove_apart p = omega (arith, apart p, count-append p B A, count-append p B (e ∷ A))

-- the links after an element was put behind the others
module _ (before after : ℕ → ℕ) (cs : List (ℕ × ℕ)) (e : ℕ × ℕ) (linked : IsLinked before after cs) (apart : IsApart cs) (low_e : e.0 < none) (new_e : count e.0 cs ≡ 0) where
  other_place : (b : List (ℕ × ℕ)) (x : ℕ × ℕ) (c : List (ℕ × ℕ)) → cs ≡ b ++ x ∷ c → x.0 ≢ e.0
  other_place b x c at q = absurd (omega (arith, new_e, ap (count e.0) at, count-append e.0 b (x ∷ c), ap (λ (t : Bool). cond {A = ℕ} t 1 0) (eq-eqb x.0 e.0 q)))

  put_before : (b : List (ℕ × ℕ)) (x : ℕ × ℕ) (a : List (ℕ × ℕ)) → cs ++ e ∷ [] ≡ b ++ x ∷ a → cond (x.0 == e.0) (last_of e.1 cs) (before x.0) ≡ last_of x.1 b
  put_before b x a is = ⊎_elim
      (λ t. ap (λ (q : Bool). cond q (last_of e.1 cs) (before x.0)) (eqb x.0 e.0 (other_place b x t.0 t.1)) ∙ (linked b x t.0 t.1).0)
      (λ t. let s = sole t.0 x a t.1 in ap (λ (q : Bool). cond q (last_of e.1 cs) (before x.0)) (eq-eqb x.0 e.0 (ap (λ (y : ℕ × ℕ). y.0) s.0)) ∙ ap (λ (y : ℕ × ℕ). last_of y.1 cs) (sym s.0) ∙ ap (last_of x.1) (sym (t.2 ∙ ap (λ l. cs ++ l) s.1 ∙ append-nil cs)))
      (split cs (e ∷ []) b x a is)
    where
      sole : (c : List (ℕ × ℕ)) (y : ℕ × ℕ) (d : List (ℕ × ℕ)) → e ∷ [] ≡ c ++ y ∷ d → (y ≡ e) × (c ≡ []) × (d ≡ [])
      sole [] y d q = (sym (ap (head_or e) q), refl, sym (ap tail_of q))
      sole (z ∷ c) y d q = absurd (omega (arith, ap length (ap tail_of q), length-append c (y ∷ d)))

  put_after : (b : List (ℕ × ℕ)) (x : ℕ × ℕ) (a : List (ℕ × ℕ)) → cs ++ e ∷ [] ≡ b ++ x ∷ a → cond (x.0 == e.0) none (cond (x.0 == last_of e.1 cs) e.0 (after x.0)) ≡ first_of x.1 a
  put_after b x a is = ⊎_elim
      (λ t. ap (λ (q : Bool). cond q none (cond (x.0 == last_of e.1 cs) e.0 (after x.0))) (eqb x.0 e.0 (other_place b x t.0 t.1)) ∙ inside t.0 t.1 t.2)
      (λ t. let s = sole t.0 x a t.1 in ap (λ (q : Bool). cond q none (cond (x.0 == last_of e.1 cs) e.0 (after x.0))) (eq-eqb x.0 e.0 (ap (λ (y : ℕ × ℕ). y.0) s.0)) ∙ ap (first_of x.1) (sym s.2))
      (split cs (e ∷ []) b x a is)
    where
      sole : (c : List (ℕ × ℕ)) (y : ℕ × ℕ) (d : List (ℕ × ℕ)) → e ∷ [] ≡ c ++ y ∷ d → (y ≡ e) × (c ≡ []) × (d ≡ [])
      sole [] y d q = (sym (ap (head_or e) q), refl, sym (ap tail_of q))
      sole (z ∷ c) y d q = absurd (omega (arith, ap length (ap tail_of q), length-append c (y ∷ d)))

      unless : (u v w : ℕ) → (x.0 ≢ last_of e.1 cs) → v ≡ w → cond (x.0 == last_of e.1 cs) u v ≡ w
      unless u v w ne q = ap (λ (t : Bool). cond t u v) (eqb x.0 (last_of e.1 cs) ne) ∙ q

      inside : (c : List (ℕ × ℕ)) → cs ≡ b ++ x ∷ c → a ≡ c ++ e ∷ [] → cond (x.0 == last_of e.1 cs) e.0 (after x.0) ≡ first_of x.1 a
      inside c at rest =
          let far = apart_at cs b x c apart at in
          let was = (linked b x c at).1 in
          let last_is : last_of e.1 cs ≡ last_from (cond (x.1 == e.1) x.0 (last_of e.1 b)) e.1 c = ap (last_of e.1) at ∙ last_append none e.1 b (x ∷ c) in
          let in_b : last_of e.1 b ≢ x.0 = not_last none e.1 x.0 b (λ z. omega (arith, z, far.0)) far.1 in
          dite (ℕ_discrete x.1 e.1)
          (λ same. by (has e.1 c) refl same last_is was far.0 far.2)
          (λ other. unless e.0 (after x.0) (first_of x.1 a)
          (λ q. not_last (cond (x.1 == e.1) x.0 (last_of e.1 b)) e.1 x.0 c (λ z. in_b (sym (ap (λ (t : Bool). cond t x.0 (last_of e.1 b)) (eqb x.1 e.1 other)) ∙ z)) far.2 (sym last_is ∙ sym q))
          (was ∙ no_other (has x.1 c) refl other ∙ ap (first_of x.1) (sym rest)))
        where
          no_other : (t : Bool) → has x.1 c ≡ t → x.1 ≢ e.1 → first_of x.1 c ≡ first_of x.1 (c ++ e ∷ [])
          no_other true h other = sym (first_has x.1 c (e ∷ []) h)
          no_other false h other = first_none x.1 c h ∙ sym (first_not x.1 c (e ∷ []) h ∙ ap (λ (t : Bool). cond t e.0 none) (eqb e.1 x.1 (λ z. other (sym z))))

          by : (t : Bool) → has e.1 c ≡ t → x.1 ≡ e.1 → last_of e.1 cs ≡ last_from (cond (x.1 == e.1) x.0 (last_of e.1 b)) e.1 c → after x.0 ≡ first_of x.1 c → x.0 < none → count x.0 c ≡ 0
              → cond (x.0 == last_of e.1 cs) e.0 (after x.0) ≡ first_of x.1 a
          by true h same last_is was low in_c = unless e.0 (after x.0) (first_of x.1 a)
              (λ q. not_last none e.1 x.0 c (λ z. omega (arith, z, low)) in_c (last_has none (cond (x.1 == e.1) x.0 (last_of e.1 b)) e.1 c h ∙ sym last_is ∙ sym q))
              (was ∙ sym (first_has x.1 c (e ∷ []) (ap (λ (k : ℕ). has k c) same ∙ h)) ∙ ap (first_of x.1) (sym rest))
          by false h same last_is was low in_c =
              let it : last_of e.1 cs ≡ x.0 = last_is ∙ last_not (cond (x.1 == e.1) x.0 (last_of e.1 b)) e.1 c h ∙ ap (λ (t : Bool). cond t x.0 (last_of e.1 b)) (eq-eqb x.1 e.1 same) in
              ap (λ (t : Bool). cond t e.0 (after x.0)) (eq-eqb x.0 (last_of e.1 cs) (sym it))
              ∙ sym (ap (first_of x.1) rest ∙ first_not x.1 c (e ∷ []) (ap (λ (k : ℕ). has k c) same ∙ h) ∙ ap (λ (t : Bool). cond t e.0 none) (eq-eqb e.1 x.1 (sym same)))

  pub put_linked : IsLinked (λ p. cond (p == e.0) (last_of e.1 cs) (before p)) (λ p. cond (p == e.0) none (cond (p == last_of e.1 cs) e.0 (after p))) (cs ++ e ∷ [])
  put_linked b x a is = (put_before b x a is, put_after b x a is)

-- the ends after an element was taken out
module _ (B : List (ℕ × ℕ)) (e : ℕ × ℕ) (A : List (ℕ × ℕ)) (apart : IsApart (B ++ e ∷ A)) where
  low_in : (p : ℕ) → 0 < count p (B ++ e ∷ A) → p < none
  low_in p h = dite (dec_le none p)
      (λ le. absurd (omega (arith, h, apart p, ap (λ (t : Bool). cond {A = ℕ} t 1 0) (le-ltb p none le))))
      (λ gt. omega arith)

  pub first_removed : (k : ℕ) → first_of k (B ++ A) ≡ cond ((last_of e.1 B == none) && (k == e.1)) (first_of e.1 A) (first_of k (B ++ e ∷ A))
  first_removed k = dite (ℕ_discrete k e.1)
      (λ same. by (has e.1 B) refl same)
      (λ other. sym (ap (λ (t : Bool). cond t (first_of e.1 A) (first_of k (B ++ e ∷ A))) (ap (λ (t : Bool). (last_of e.1 B == none) && t) (eqb k e.1 other) ∙ and_false (last_of e.1 B == none)) ∙ skip (has k B) refl other))
    where
      and_false : (t : Bool) → (t && false) ≡ false
      and_false true = refl
      and_false false = refl

      skip : (t : Bool) → has k B ≡ t → k ≢ e.1 → first_of k (B ++ e ∷ A) ≡ first_of k (B ++ A)
      skip true h other = first_has k B (e ∷ A) h ∙ sym (first_has k B A h)
      skip false h other = first_not k B (e ∷ A) h ∙ ap (λ (q : Bool). cond q e.0 (first_of k A)) (eqb e.1 k (λ z. other (sym z))) ∙ sym (first_not k B A h)

      by : (t : Bool) → has e.1 B ≡ t → k ≡ e.1 → first_of k (B ++ A) ≡ cond ((last_of e.1 B == none) && (k == e.1)) (first_of e.1 A) (first_of k (B ++ e ∷ A))
      by true h same =
          let h' : has k B ≡ true = ap (λ (j : ℕ). has j B) same ∙ h in
          let far : last_of e.1 B ≢ none = λ z. absurd (omega (arith, z, low_in (last_of e.1 B) (omega (arith, last_in none e.1 B h, count-append (last_of e.1 B) B (e ∷ A))))) in
          first_has k B A h' ∙ sym (first_has k B (e ∷ A) h') ∙ sym (ap (λ (t : Bool). cond (t && (k == e.1)) (first_of e.1 A) (first_of k (B ++ e ∷ A))) (eqb (last_of e.1 B) none far))
      by false h same =
          let h' : has k B ≡ false = ap (λ (j : ℕ). has j B) same ∙ h in
          first_not k B A h' ∙ ap (λ (j : ℕ). first_of j A) same
          ∙ sym ((λ j. cond ((eq-eqb (last_of e.1 B) none (last_not none e.1 B h) j) && (eq-eqb k e.1 same j)) (first_of e.1 A) (first_of k (B ++ e ∷ A))))

  pub last_removed : (k : ℕ) → last_of k (B ++ A) ≡ cond ((first_of e.1 A == none) && (k == e.1)) (last_of e.1 B) (last_of k (B ++ e ∷ A))
  last_removed k = dite (ℕ_discrete k e.1)
      (λ same. by (has e.1 A) refl same)
      (λ other. sym (ap (λ (t : Bool). cond t (last_of e.1 B) (last_of k (B ++ e ∷ A))) (ap (λ (t : Bool). (first_of e.1 A == none) && t) (eqb k e.1 other) ∙ and_false (first_of e.1 A == none)) ∙ skip other))
    where
      and_false : (t : Bool) → (t && false) ≡ false
      and_false true = refl
      and_false false = refl

      skip : k ≢ e.1 → last_of k (B ++ e ∷ A) ≡ last_of k (B ++ A)
      skip other = last_append none k B (e ∷ A) ∙ ap (λ (t : Bool). last_from (cond t e.0 (last_of k B)) k A) (eqb e.1 k (λ z. other (sym z))) ∙ sym (last_append none k B A)

      by : (t : Bool) → has e.1 A ≡ t → k ≡ e.1 → last_of k (B ++ A) ≡ cond ((first_of e.1 A == none) && (k == e.1)) (last_of e.1 B) (last_of k (B ++ e ∷ A))
      by true h same =
          let h' : has k A ≡ true = ap (λ (j : ℕ). has j A) same ∙ h in
          let far : first_of e.1 A ≢ none = λ z. absurd (omega (arith, z, low_in (first_of e.1 A) (omega (arith, first_in e.1 A h, count-append (first_of e.1 A) B (e ∷ A))))) in
          last_append none k B A ∙ last_has (last_of k B) (cond (e.1 == k) e.0 (last_of k B)) k A h' ∙ sym (last_append none k B (e ∷ A))
          ∙ sym (ap (λ (t : Bool). cond (t && (k == e.1)) (last_of e.1 B) (last_of k (B ++ e ∷ A))) (eqb (first_of e.1 A) none far))
      by false h same =
          let h' : has k A ≡ false = ap (λ (j : ℕ). has j A) same ∙ h in
          last_append none k B A ∙ last_not (last_of k B) k A h' ∙ ap (λ (j : ℕ). last_of j B) same
          ∙ sym ((λ j. cond ((eq-eqb (first_of e.1 A) none (first_none e.1 A h) j) && (eq-eqb k e.1 same j)) (last_of e.1 B) (last_of k (B ++ e ∷ A))))

-- links that are the same at the places of the list
pub linked_same : (before after before' after' : ℕ → ℕ) (cs : List (ℕ × ℕ)) → ((p : ℕ) → 0 < count p cs → (before' p ≡ before p) × (after' p ≡ after p)) → IsLinked before after cs → IsLinked before' after' cs
linked_same before after before' after' cs same linked b x a is =
    let here : 0 < count x.0 cs = omega (arith, ap (count x.0) is, count-append x.0 b (x ∷ a), ap (λ (t : Bool). cond {A = ℕ} t 1 0) (eq-eqb x.0 x.0 refl)) in
    ((same x.0 here).0 ∙ (linked b x a is).0, (same x.0 here).1 ∙ (linked b x a is).1)

-- the last is a place of the list, or none
pub last_is_place : (k : ℕ) (b : List (ℕ × ℕ)) → (last_of k b ≡ none) ⊎ (0 < count (last_of k b) b)
last_is_place k b = by (has k b) refl
  where
    by : (t : Bool) → has k b ≡ t → (last_of k b ≡ none) ⊎ (0 < count (last_of k b) b)
    by true h = inr (last_in none k b h)
    by false h = inl (last_not none k b h)

pub first_is_place : (k : ℕ) (a : List (ℕ × ℕ)) → (first_of k a ≡ none) ⊎ (0 < count (first_of k a) a)
first_is_place k a = by (has k a) refl
  where
    by : (t : Bool) → has k a ≡ t → (first_of k a ≡ none) ⊎ (0 < count (first_of k a) a)
    by true h = inr (first_in k a h)
    by false h = inl (first_none k a h)

pub has_at : (k : ℕ) (b : List (ℕ × ℕ)) (x : ℕ × ℕ) (a : List (ℕ × ℕ)) → x.1 ≡ k → has k (b ++ x ∷ a) ≡ true
has_at k [] x a q = ap (λ (t : Bool). cond t true (has k a)) (eq-eqb x.1 k q)
has_at k (y ∷ b) x a q = by (y.1 == k) (has_at k b x a q)
  where
    by : (t : Bool) → has k (b ++ x ∷ a) ≡ true → cond t true (has k (b ++ x ∷ a)) ≡ true
    by true more = refl
    by false more = more

-- the ends after an element was put behind the others
module _ (cs : List (ℕ × ℕ)) (e : ℕ × ℕ) (apart : IsApart cs) where
  pub first_put : (k : ℕ) → first_of k (cs ++ e ∷ []) ≡ cond ((last_of e.1 cs == none) && (k == e.1)) e.0 (first_of k cs)
  first_put k = dite (ℕ_discrete k e.1)
      (λ same. by (has e.1 cs) refl same)
      (λ other. sym (ap (λ (t : Bool). cond t e.0 (first_of k cs)) (ap (λ (t : Bool). (last_of e.1 cs == none) && t) (eqb k e.1 other) ∙ and_false (last_of e.1 cs == none)) ∙ skip (has k cs) refl other))
    where
      and_false : (t : Bool) → (t && false) ≡ false
      and_false true = refl
      and_false false = refl

      skip : (t : Bool) → has k cs ≡ t → k ≢ e.1 → first_of k cs ≡ first_of k (cs ++ e ∷ [])
      skip true h other = sym (first_has k cs (e ∷ []) h)
      skip false h other = first_none k cs h ∙ sym (first_not k cs (e ∷ []) h ∙ ap (λ (t : Bool). cond t e.0 none) (eqb e.1 k (λ z. other (sym z))))

      low_in : (p : ℕ) → 0 < count p cs → p < none
      low_in p h = dite (dec_le none p)
          (λ le. absurd (omega (arith, h, apart p, ap (λ (t : Bool). cond {A = ℕ} t 1 0) (le-ltb p none le))))
          (λ gt. omega arith)

      by : (t : Bool) → has e.1 cs ≡ t → k ≡ e.1 → first_of k (cs ++ e ∷ []) ≡ cond ((last_of e.1 cs == none) && (k == e.1)) e.0 (first_of k cs)
      by true h same =
          let far : last_of e.1 cs ≢ none = λ z. absurd (omega (arith, z, low_in (last_of e.1 cs) (last_in none e.1 cs h))) in
          first_has k cs (e ∷ []) (ap (λ (j : ℕ). has j cs) same ∙ h) ∙ sym (ap (λ (t : Bool). cond (t && (k == e.1)) e.0 (first_of k cs)) (eqb (last_of e.1 cs) none far))
      by false h same =
          first_not k cs (e ∷ []) (ap (λ (j : ℕ). has j cs) same ∙ h) ∙ ap (λ (t : Bool). cond t e.0 none) (eq-eqb e.1 k (sym same))
          ∙ sym ((λ j. cond ((eq-eqb (last_of e.1 cs) none (last_not none e.1 cs h) j) && (eq-eqb k e.1 same j)) e.0 (first_of k cs)))

  pub last_put : (k : ℕ) → last_of k (cs ++ e ∷ []) ≡ cond (e.1 == k) e.0 (last_of k cs)
  last_put k = last_append none k cs (e ∷ [])
