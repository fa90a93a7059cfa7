-- A text has one verdict.
use Rattle.std.proofs.Common.{◌≡◌, ℕ, ◌+◌, List, inl, inr, refl, sym, subst, ◌∙◌}
use Rattle.std.specs.Prelude.{◌⊎◌}
use Rattle.dn_io.specs.declared.rule.Rule.TheVariants.{N}
use Rattle.dn_notary.specs.Signed.{head_text, end_text, key_text, sign_text, IsKeyBytes, FitsSign}
use Rattle.dn_notary.specs.declared.sign_line.SignLine.{SignLine}
use Rattle.dn_notary.specs.declared.verdict.Verdict.{Verdict}
use Rattle.dn_notary.specs.declared.verdict.Verdict.TheVariants.{Accepted, Broken}
use Rattle.dn_notary.specs.Notarized.{HasLine, none_left, HasItsLeaves, IsVerified, Judges, JudgesText}
use Rattle.dn_notary.specs.Notarized.Judges.{no_line, last_line, behind_last, other_leaves, unverified, signed}
use Rattle.dn_notary.specs.Notarized.JudgesText.{no_head, no_key, signed_list}
use Rattle.dn_notary.proofs.PartLemmas.{same_line, same_rest}
use Rattle.dn_notary.proofs.SignedLaws.{one_sign, one_key, end_is_no_sign}

-- how the lines are judged where the first of them is the last line
abbrev AtEnd : List (List ℕ) → ℕ → ℕ → Verdict → Type 0
AtEnd rest n count v = ((rest ≡ none_left) × (v ≡ Accepted count)) ⊎ ((rest ≡ none_left → ⊥) × (v ≡ Broken (n + 1) (N 1)))

-- the same where it is a signed entry
abbrev AtSign : List ℕ → SignLine → List (List ℕ) → ℕ → ℕ → Verdict → Type 0
AtSign key s rest n count v =
    ((HasItsLeaves key count s → ⊥) × (v ≡ Broken n (N 2)))
    ⊎ ((HasItsLeaves key count s × (IsVerified key s → ⊥) × (v ≡ Broken n (N 3)))
    ⊎ (HasItsLeaves key count s × IsVerified key s × Judges key rest (n + 1) (count + 1) v))

at_end : (key : List ℕ) (parts rest : List (List ℕ)) (n count : ℕ) (v : Verdict) → HasLine end_text parts rest → Judges key parts n count v → AtEnd rest n count v
at_end key parts rest n count v has (no_line p m c none other) = absurd (other rest has)
at_end key parts rest n count v has (last_line p m c h) = inl (same_rest end_text end_text parts rest none_left has h, refl)
at_end key parts rest n count v has (behind_last p more m c h some) = inr (λ e. some (sym (same_rest end_text end_text parts rest more has h) ∙ e), refl)
at_end key parts rest n count v has (other_leaves p more m c s h fits leaves) = absurd (end_is_no_sign s (same_line end_text (sign_text s) parts rest more has h))
at_end key parts rest n count v has (unverified p more m c s h fits leaves wrong) = absurd (end_is_no_sign s (same_line end_text (sign_text s) parts rest more has h))
at_end key parts rest n count v has (signed p more m c s w h fits leaves good j) = absurd (end_is_no_sign s (same_line end_text (sign_text s) parts rest more has h))

at_sign : (key : List ℕ) (parts rest : List (List ℕ)) (n count : ℕ) (s : SignLine) (v : Verdict) → HasLine (sign_text s) parts rest → FitsSign s → Judges key parts n count v
    → AtSign key s rest n count v
at_sign key parts rest n count s v has fits (no_line p m c none other) = absurd (none s rest fits has)
at_sign key parts rest n count s v has fits (last_line p m c h) = absurd (end_is_no_sign s (same_line end_text (sign_text s) parts none_left rest h has))
at_sign key parts rest n count s v has fits (behind_last p more m c h some) = absurd (end_is_no_sign s (same_line end_text (sign_text s) parts more rest h has))
at_sign key parts rest n count s v has fits (other_leaves p more m c t h others leaves) =
    let same = one_sign s t fits others (same_line (sign_text s) (sign_text t) parts rest more has h) in
    inl (λ l. leaves (subst (HasItsLeaves key count) same l), refl)
at_sign key parts rest n count s v has fits (unverified p more m c t h others leaves wrong) =
    let same = one_sign s t fits others (same_line (sign_text s) (sign_text t) parts rest more has h) in
    inr (inl (subst (HasItsLeaves key count) (sym same) leaves, λ good. wrong (subst (IsVerified key) same good), refl))
at_sign key parts rest n count s v has fits (signed p more m c t w h others leaves good j) =
    let same = one_sign s t fits others (same_line (sign_text s) (sign_text t) parts rest more has h) in
    let behind = same_rest (sign_text s) (sign_text t) parts rest more has h in
    inr (inr (
      subst (HasItsLeaves key count) (sym same) leaves,
      subst (IsVerified key) (sym same) good,
      subst (λ (q : List (List ℕ)). Judges key q (n + 1) (count + 1) v) (sym behind) j,
    ))

-- and where it is neither
at_none : (key : List ℕ) (parts : List (List ℕ)) (n count : ℕ) (v : Verdict) → ((s : SignLine) (rest : List (List ℕ)) → FitsSign s → HasLine (sign_text s) parts rest → ⊥)
    → ((rest : List (List ℕ)) → HasLine end_text parts rest → ⊥) → Judges key parts n count v → v ≡ Broken n (N 1)
at_none key parts n count v no_sign no_end (no_line p m c none other) = refl
at_none key parts n count v no_sign no_end (last_line p m c h) = absurd (no_end none_left h)
at_none key parts n count v no_sign no_end (behind_last p more m c h some) = absurd (no_end more h)
at_none key parts n count v no_sign no_end (other_leaves p more m c t h others leaves) = absurd (no_sign t more others h)
at_none key parts n count v no_sign no_end (unverified p more m c t h others leaves wrong) = absurd (no_sign t more others h)
at_none key parts n count v no_sign no_end (signed p more m c t w h others leaves good j) = absurd (no_sign t more others h)

pub one_end : (key : List ℕ) (parts : List (List ℕ)) (n count : ℕ) (v w : Verdict) → Judges key parts n count v → Judges key parts n count w → v ≡ w
one_end key parts n count v w (no_line p m c none other) j = sym (at_none key parts n count w none other j)
one_end key parts n count v w (last_line p m c h) j =
    elim (at_end key parts none_left n count w h j) [ inl a ↦ sym a.1 | inr b ↦ absurd (b.0 refl) ]
one_end key parts n count v w (behind_last p more m c h some) j =
    elim (at_end key parts more n count w h j) [ inl a ↦ absurd (some a.0) | inr b ↦ sym b.1 ]
one_end key parts n count v w (other_leaves p more m c t h fits leaves) j =
    elim (at_sign key parts more n count t w h fits j) [
      | inl a ↦ sym a.1
      | inr (inl b) ↦ absurd (leaves b.0)
      | inr (inr d) ↦ absurd (leaves d.0)
    ]
one_end key parts n count v w (unverified p more m c t h fits leaves wrong) j =
    elim (at_sign key parts more n count t w h fits j) [
      | inl a ↦ absurd (a.0 leaves)
      | inr (inl b) ↦ sym b.2
      | inr (inr d) ↦ absurd (wrong d.1)
    ]
one_end key parts n count v w (signed p more m c t x h fits leaves good i) j =
    elim (at_sign key parts more n count t w h fits j) [
      | inl a ↦ absurd (a.0 leaves)
      | inr (inl b) ↦ absurd (b.1 good)
      | inr (inr d) ↦ one_end key more (n + 1) (count + 1) v w i d.2
    ]

-- behind the head
at_key : (parts rest : List (List ℕ)) (v : Verdict) → HasLine head_text parts rest → JudgesText parts v
    → ((((key : List ℕ) (more : List (List ℕ)) → IsKeyBytes key → HasLine (key_text key) rest more → ⊥) × (v ≡ Broken 2 (N 1)))
    ⊎ ((key : List ℕ) × (more : List (List ℕ)) × IsKeyBytes key × HasLine (key_text key) rest more × Judges key more 3 0 v))
at_key parts rest v has (no_head none) = absurd (none rest has)
at_key parts rest v has (no_key other h none) =
    let same = same_rest head_text head_text parts rest other has h in
    inl (λ key more fits k. none key more fits (subst (λ (q : List (List ℕ)). HasLine (key_text key) q more) same k), refl)
at_key parts rest v has (signed_list other more key w h fits k j) =
    let same = same_rest head_text head_text parts rest other has h in
    inr (key, more, fits, subst (λ (q : List (List ℕ)). HasLine (key_text key) q more) (sym same) k, j)

no_head_told : (parts : List (List ℕ)) (v : Verdict) → ((rest : List (List ℕ)) → HasLine head_text parts rest → ⊥) → JudgesText parts v → v ≡ Broken 1 (N 1)
no_head_told parts v none (no_head other) = refl
no_head_told parts v none (no_key rest h other) = absurd (none rest h)
no_head_told parts v none (signed_list rest more key w h fits k j) = absurd (none rest h)

pub one_verdict : (parts : List (List ℕ)) (v w : Verdict) → JudgesText parts v → JudgesText parts w → v ≡ w
one_verdict parts v w (no_head none) j = sym (no_head_told parts w none j)
one_verdict parts v w (no_key rest h none) j =
    elim (at_key parts rest w h j) [ inl a ↦ sym a.1 | inr b ↦ absurd (none b.0 b.1 b.2 b.3) ]
one_verdict parts v w (signed_list rest more key x h fits k i) j =
    elim (at_key parts rest w h j) [
      | inl a ↦ absurd (a.0 key more fits k)
      | inr b ↦
          let same = one_key key b.0 fits.0 b.2.0 (same_line (key_text key) (key_text b.0) rest more b.1 k b.3) in
          let behind = same_rest (key_text key) (key_text b.0) rest more b.1 k b.3 in
          one_end key more 3 0 v w i
          (subst (λ (q : List (List ℕ)). Judges key q 3 0 w) (sym behind) (subst (λ (l : List ℕ). Judges l b.1 3 0 w) (sym same) b.4))
    ]
