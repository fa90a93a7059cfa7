-- The strings of a run where more is put.
use Rattle.std.proofs.Common.{◌≡◌, ℕ, List, [], ◌∷◌, ◌++◌, sym, ap, subst, ◌∙◌, inl, inr}
use Rattle.std.specs.Prelude.{Contains, ◌⊎◌, ◌↔◌}
use Rattle.std.proofs.lemmas.List.Elements.{Contains-append_left, Contains-push, Contains-push_cases}
use Rattle.dn_audit.specs.Strings.{Hashed}
use Rattle.dn_audit.specs.Auditor.{RunStrings, hashed_sum}
use Rattle.dn_headline.specs.Group.{GroupView}
use Rattle.dn_headline.specs.Log.{Put}
use Rattle.dn_headline.specs.Run.{SumMade}
use Rattle.dn_auditing.specs.Shows.{ShowsSeed, ShowsCipher, ShowsSum, AddsShown, IsMade, IsShown, AreStringsOf}

-- ---- what is shown by one put more

module _ (shows : List ℕ → Hashed → Type 0) (puts : List Put) (p : Put) (y : Hashed) where
  shown_still : IsShown shows puts y → IsShown shows (puts ++ p ∷ []) y
  shown_still h = (h.0, Contains-append_left puts (p ∷ []) h.0 h.1, h.2)

  shown_cases : IsShown shows (puts ++ p ∷ []) y → IsShown shows puts y ⊎ shows p.bytes y
  shown_cases h =
      elim (Contains-push_cases puts p h.0 h.1) [
        | inl before ↦ inl (h.0, before, h.2)
        | inr last ↦ inr (subst (λ (q : Put). shows q.bytes y) (sym last) h.2)
      ]

  shown_more : IsShown shows (puts ++ p ∷ []) y ↔ (IsShown shows puts y ⊎ shows p.bytes y)
  shown_more = (shown_cases, λ h. elim h [ inl before ↦ shown_still before | inr last ↦ (p, Contains-push puts p, last) ])

  -- bytes that were put before show nothing more
  shown_again : (q : Put) → Contains puts q → q.bytes ≡ p.bytes → IsShown shows (puts ++ p ∷ []) y ↔ IsShown shows puts y
  shown_again q among same =
      (λ h. elim (shown_cases h) [ inl before ↦ before | inr last ↦ (q, among, subst (λ (b : List ℕ). shows b y) (sym same) last) ], shown_still)

-- ---- chains of facts that are one

through : {A B C : Type 0} → A ↔ B → B ↔ C → A ↔ C
through f g = (λ a. g.0 (f.0 a), λ c. f.1 (g.1 c))

back : {A B : Type 0} → A ↔ B → B ↔ A
back f = (f.1, f.0)

either : {A B C : Type 0} → B ↔ C → (A ⊎ B) ↔ (A ⊎ C)
either f = (λ h. elim h [ inl a ↦ inl a | inr b ↦ inr (f.0 b) ], λ h. elim h [ inl a ↦ inl a | inr c ↦ inr (f.1 c) ])

first : {A B C : Type 0} → A ↔ B → (A ⊎ C) ↔ (B ⊎ C)
first f = (λ h. elim h [ inl a ↦ inl (f.0 a) | inr c ↦ inr c ], λ h. elim h [ inl b ↦ inl (f.1 b) | inr c ↦ inr c ])

grouped : {A B C : Type 0} → ((A ⊎ B) ⊎ C) ↔ (A ⊎ (B ⊎ C))
grouped = (
  λ h. elim h [ inl ab ↦ elim ab [ inl a ↦ inl a | inr b ↦ inr (inl b) ] | inr c ↦ inr (inr c) ],
  λ h. elim h [ inl a ↦ inl (inl a) | inr bc ↦ elim bc [ inl b ↦ inl (inr b) | inr c ↦ inr c ] ],
)

swapped : {A B C : Type 0} → ((A ⊎ B) ⊎ C) ↔ ((A ⊎ C) ⊎ B)
swapped = (
  λ h. elim h [ inl ab ↦ elim ab [ inl a ↦ inl (inl a) | inr b ↦ inr b ] | inr c ↦ inl (inr c) ],
  λ h. elim h [ inl ac ↦ elim ac [ inl a ↦ inl (inl a) | inr c ↦ inr c ] | inr b ↦ inl (inr b) ],
)

-- ---- strings

module _ (g : GroupView) (puts : List Put) (made : List SumMade) (x : RunStrings) (are : AreStringsOf g puts made x) where
  -- with what a new put shows
  pub strings_more : (p : Put) (more : RunStrings → RunStrings) → AddsShown g.roster p.bytes more → AreStringsOf g (puts ++ p ∷ []) made (more x)
  strings_more p more adds = record {
    seeds = λ y. through (adds.seeds x y) (through (first (are.seeds y)) (through grouped (either (back (shown_more (ShowsSeed g.roster) puts p y)))));
    ciphers = λ y. through (adds.ciphers x y) (through (first (are.ciphers y)) (back (shown_more (ShowsCipher g.roster) puts p y)));
    sums = λ y. through (adds.sums x y) (through (first (are.sums y)) (through grouped (either (back (shown_more (ShowsSum g.roster) puts p y)))));
  }

  -- where the same bytes are put again
  pub strings_again : (p q : Put) → Contains puts q → q.bytes ≡ p.bytes → AreStringsOf g (puts ++ p ∷ []) made x
  strings_again p q among same = record {
    seeds = λ y. through (are.seeds y) (either (back (shown_again (ShowsSeed g.roster) puts p y q among same)));
    ciphers = λ y. through (are.ciphers y) (back (shown_again (ShowsCipher g.roster) puts p y q among same));
    sums = λ y. through (are.sums y) (either (back (shown_again (ShowsSum g.roster) puts p y q among same)));
  }

  made_with : (m : SumMade) (y : Hashed) → (IsMade made y ⊎ (hashed_sum m.r.0 m.server.0 m.sum ≡ y)) ↔ IsMade (made ++ m ∷ []) y
  made_with m y = (
    λ h. elim h [ inl old ↦ (old.0, Contains-append_left made (m ∷ []) old.0 old.1, old.2) | inr new ↦ (m, Contains-push made m, sym new) ],
    λ h. elim (Contains-push_cases made m h.0 h.1) [
      | inl old ↦ inl (h.0, old, h.2)
      | inr new ↦ inr (ap (λ (o : SumMade). hashed_sum o.r.0 o.server.0 o.sum) new ∙ sym h.2)
    ],
  )

  pushed : (m : SumMade) (y : Hashed) → Contains (x.sums ++ hashed_sum m.r.0 m.server.0 m.sum ∷ []) y ↔ (Contains x.sums y ⊎ (hashed_sum m.r.0 m.server.0 m.sum ≡ y))
  pushed m y =
      let last = hashed_sum m.r.0 m.server.0 m.sum in (
        λ h. Contains-push_cases x.sums last y h,
        λ h. elim h [
          | inl before ↦ Contains-append_left x.sums (last ∷ []) y before
          | inr same ↦ subst (Contains (x.sums ++ last ∷ [])) same (Contains-push x.sums last)
        ],
      )

  -- with a ciphertext that a server made
  pub strings_made : (m : SumMade)
      → AreStringsOf g puts (made ++ m ∷ []) (record x { sums = x.sums ++ hashed_sum m.r.0 m.server.0 m.sum ∷ [] })
  strings_made m = record {
    seeds = are.seeds;
    ciphers = are.ciphers;
    sums = λ y. through (pushed m y) (through (first (are.sums y)) (through swapped (first (made_with m y))));
  }

  -- where other ciphertexts are those that were made
  pub strings_so : (other : List SumMade) → ((m : SumMade) → Contains made m ↔ Contains other m) → AreStringsOf g puts other x
  strings_so other same = record {
    seeds = are.seeds;
    ciphers = are.ciphers;
    sums = λ y. through (are.sums y) (first (λ h. (h.0, (same h.0).0 h.1, h.2), λ h. (h.0, (same h.0).1 h.1, h.2)));
  }
