-- What was put stays put, and what was put last stands last.
use Rattle.std.proofs.Common.{◌≡◌, ℕ, zero, suc, ◌+◌, ◌<◌, ◌≤◌, List, [], ◌∷◌, ◌++◌, length, refl, sym, ap, subst, ◌∙◌, arith, inl, inr, true}
use Rattle.std.specs.Prelude.{Contains, ◌⊎◌, slice_get, Some}
use Rattle.std.proofs.lemmas.Option.{slice_get_within, slice_get-get_or, get_or_from_slice_get}
use Rattle.dn_wire.specs.declared.ids.SignerId.{SignerId}
use Rattle.dn_record_types.specs.declared.statement.Statement.{Statement}
use Rattle.dn_headline.specs.Group.{GroupView, IsKeyOf, IsHonestKey}
use Rattle.dn_headline.specs.Log.{Put}
use Rattle.dn_headline.specs.Signatures.{HasSignature}
use Rattle.dn_headline.specs.Spoken.{IsInFront}
use Rattle.dn_auditing.specs.Puts.{HadPut, WasPut, AreTheirs}

-- ---- places

place_stays : {A : Type 0} (xs ys : List A) (n : ℕ) (x : A) → slice_get xs n ≡ Some x → slice_get (xs ++ ys) n ≡ Some x
place_stays [] ys n x h = absurd cc
place_stays (z ∷ xs) ys zero x h = h
place_stays (z ∷ xs) ys (suc n) x h = place_stays xs ys n x h

place_at_end : {A : Type 0} (xs : List A) (x : A) → slice_get (xs ++ x ∷ []) (length xs) ≡ Some x
place_at_end [] x = refl
place_at_end (z ∷ xs) x = place_at_end xs x

same_place : {A : Type 0} (x y : A) → Some x ≡ Some y → x ≡ y
same_place x y h = cc

place_cases : {A : Type 0} (xs : List A) (y : A) (n : ℕ) (x : A) → slice_get (xs ++ y ∷ []) n ≡ Some x → (slice_get xs n ≡ Some x) ⊎ ((n ≡ length xs) × (y ≡ x))
place_cases [] y zero x h = inr (refl, same_place y x h)
place_cases [] y (suc n) x h = absurd cc
place_cases (z ∷ xs) y zero x h = inl h
place_cases (z ∷ xs) y (suc n) x h = elim (place_cases xs y n x h) [ inl there ↦ inl there | inr last ↦ inr (ap suc last.0, last.1) ]

pub place_of : {A : Type 0} (xs : List A) (x : A) → Contains xs x → (n : ℕ) × (slice_get xs n ≡ Some x)
place_of xs x h = (h.0, slice_get-get_or xs h.0 x h.1 ∙ ap Some h.2)

pub one_at : {A : Type 0} (xs : List A) (n : ℕ) (x : A) → slice_get xs n ≡ Some x → Contains xs x
one_at xs n x at = (n, slice_get_within xs n x at, get_or_from_slice_get xs n x x at)

-- ---- what honest cores put

module _ (g : GroupView) (puts : List Put) (who : SignerId) (s : Statement) where
  pub had_more : (more : List Put) (n : ℕ) → HadPut g puts n who s → HadPut g (puts ++ more) n who s
  had_more more n h = record {
    at = h.at;
    by_then = h.by_then;
    put = h.put;
    there = place_stays puts more h.at h.put h.there;
    own = h.own;
    key = h.key;
    front = h.front;
  }

  pub was_more : (more : List Put) → WasPut g puts who s → WasPut g (puts ++ more) who s
  was_more more h = (h.0, had_more more h.0 h.1)

  had_later : (n m : ℕ) → n ≤ m → HadPut g puts n who s → HadPut g puts m who s
  had_later n m le h = record { at = h.at; by_then = omega (arith, h.by_then, le); put = h.put; there = h.there; own = h.own; key = h.key; front = h.front }

  -- what is put last
  pub was_last : (p : Put) → p.own ≡ true → IsKeyOf g who p.by → IsInFront g.roster p.bytes who s → WasPut g (puts ++ p ∷ []) who s
  was_last p own key front = (
    length puts,
    record { at = length puts; by_then = omega arith; put = p; there = place_at_end puts p; own = own; key = key; front = front },
  )

  -- it was put before, or is put last
  pub was_cases : (p : Put) → WasPut g (puts ++ p ∷ []) who s → WasPut g puts who s ⊎ ((p.own ≡ true) × IsKeyOf g who p.by × IsInFront g.roster p.bytes who s)
  was_cases p w = by w.1
    where
      by : HadPut g (puts ++ p ∷ []) w.0 who s → WasPut g puts who s ⊎ ((p.own ≡ true) × IsKeyOf g who p.by × IsInFront g.roster p.bytes who s)
      by h = elim (place_cases puts p h.at h.put h.there) [
        | inl before ↦ inl (w.0, record { at = h.at; by_then = h.by_then; put = h.put; there = before; own = h.own; key = h.key; front = h.front })
        | inr last ↦ inr (
          ap (λ (q : Put). q.own) last.1 ∙ h.own,
          subst (λ (q : Put). IsKeyOf g who q.by) (sym last.1) h.key,
          subst (λ (q : Put). IsInFront g.roster q.bytes who s) (sym last.1) h.front,
        )
      ]

  had_back : (p : Put) (n : ℕ) → n < length puts → HadPut g (puts ++ p ∷ []) n who s → HadPut g puts n who s
  had_back p n lt h =
      elim (place_cases puts p h.at h.put h.there) [
        | inl before ↦ record { at = h.at; by_then = h.by_then; put = h.put; there = before; own = h.own; key = h.key; front = h.front }
        | inr last ↦ absurd (omega (arith, last.0, h.by_then, lt))
      ]

  had_in : (n : ℕ) → length puts ≤ n + 1 → (m : ℕ) → HadPut g puts m who s → HadPut g puts n who s
  had_in n le m h = record {
    at = h.at;
    by_then = let within = slice_get_within puts h.at h.put h.there in omega (arith, within, le);
    put = h.put;
    there = h.there;
    own = h.own;
    key = h.key;
    front = h.front;
  }

-- ---- whether signatures are theirs

-- of each signature in these bytes that is under an honest key the statement was put
abbrev pub SignedArePut : GroupView → List Put → List ℕ → Type 0
SignedArePut g puts bytes = (who : SignerId) (s : Statement) → IsHonestKey g who → HasSignature g.roster bytes who s → WasPut g puts who s

module _ (g : GroupView) (puts : List Put) (p : Put) where
  pub theirs_so_far : AreTheirs g (puts ++ p ∷ []) → AreTheirs g puts
  theirs_so_far h n q who s at honest signed =
      had_back g puts who s p n (slice_get_within puts n q at) (h n q who s (place_stays puts (p ∷ []) n q at) honest signed)

  pub theirs_last : AreTheirs g (puts ++ p ∷ []) → SignedArePut g (puts ++ p ∷ []) p.bytes
  theirs_last h who s honest signed = (length puts, h (length puts) p who s (place_at_end puts p) honest signed)

  pub theirs_with : AreTheirs g puts → SignedArePut g (puts ++ p ∷ []) p.bytes → AreTheirs g (puts ++ p ∷ [])
  theirs_with h last n q who s at honest signed =
      elim (place_cases puts p n q at) [
        | inl before ↦ had_more g puts who s (p ∷ []) n (h n q who s before honest signed)
        | inr end ↦
            let was = last who s honest (subst (λ (x : Put). HasSignature g.roster x.bytes who s) (sym end.1) signed) in
            let long : length (puts ++ p ∷ []) ≤ n + 1 = subst (λ m. length (puts ++ p ∷ []) ≤ m + 1) (sym end.0) (one_longer puts p) in
            had_in g (puts ++ p ∷ []) who s n long was.0 was.1
      ]
    where
      one_longer : (xs : List Put) (x : Put) → length (xs ++ x ∷ []) ≤ length xs + 1
      one_longer [] x = omega arith
      one_longer (y ∷ ys) x = let rest = one_longer ys x in omega (arith, rest)

-- where bytes were put, what is signed in them was
pub signed_before : (g : GroupView) (puts : List Put) (q : Put) (bytes : List ℕ) → Contains puts q → q.bytes ≡ bytes → AreTheirs g puts → SignedArePut g puts bytes
signed_before g puts q bytes among same h who s honest signed =
    let at = place_of puts q among in
    (at.0, h at.0 q who s at.1 honest (subst (λ (b : List ℕ). HasSignature g.roster b who s) (sym same) signed))
