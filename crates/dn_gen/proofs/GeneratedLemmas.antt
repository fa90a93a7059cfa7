-- Texts one behind the other.
use Rattle.std.proofs.Common.{◌≡◌, ℕ, ◌+◌, List, ◌++◌, sym, ap, ◌∙◌, append-nil, append_assoc}
use Rattle.dn_roster.proofs.DealingLemmas.{flat_map-more}
use Rattle.dn_gen.specs.Generated.{for_each}

-- nothing is written yet
pub none_yet : (text : ℕ → List ℕ) (before : List ℕ) → before ≡ before ++ for_each 0 text
unfolding for_each
none_yet text before = sym (append-nil before)

-- one more is written
pub one_more : (text : ℕ → List ℕ) (before now next : List ℕ) (n : ℕ) → now ≡ before ++ for_each n text → next ≡ now ++ text n → next ≡ before ++ for_each (n + 1) text
unfolding for_each
one_more text before now next n so_far more =
    more ∙ ap (λ (l : List ℕ). l ++ text n) so_far ∙ append_assoc before (for_each n text) (text n)
    ∙ ap (λ (l : List ℕ). before ++ l) (sym (flat_map-more text n))

pub all_written : (text : ℕ → List ℕ) (before now : List ℕ) (n k : ℕ) → n ≡ k → now ≡ before ++ for_each n text → now ≡ before ++ for_each k text
all_written text before now n k same h = h ∙ ap (λ (m : ℕ). before ++ for_each m text) same

-- four texts, one behind the other
pub four_parts : (before a b c d o1 o2 o3 o4 : List ℕ) → o1 ≡ before ++ a → o2 ≡ o1 ++ b → o3 ≡ o2 ++ c → o4 ≡ o3 ++ d
    → o4 ≡ before ++ (((a ++ b) ++ c) ++ d)
four_parts before a b c d o1 o2 o3 o4 e1 e2 e3 e4 = rw (e4, e3, e2, e1) (simp append_assoc)
