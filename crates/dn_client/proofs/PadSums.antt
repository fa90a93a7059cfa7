-- Pads that are added one after the other.
use Rattle.std.proofs.Common.{◌≡◌, ℕ, ◌+◌, ◌<◌, Bool, List, [], ◌∷◌, ◌++◌, map, take, length, get_or, sym, ap, ◌∙◌}
use Rattle.std.proofs.lemmas.List.{take_more}
use Rattle.dn_bits.specs.Bits.{xor_bits, sum_bits}
use Rattle.dn_bits.proofs.SumLemmas.{xor_assoc, xor_zeros, zeros_xor, length-xor}
use Rattle.dn_bits.proofs.WordLemmas.{length-zeros}
use Rattle.dn_pads.specs.Pads.{pad_of}
use Rattle.dn_pads.proofs.PadLaws.{length-pad}

module _ (r n : ℕ) where
  abbrev pads : List (List ℕ) → List (List Bool)
  pads seeds = map (λ (s : List ℕ). pad_of s r n) seeds

  length-pads : (seeds : List (List ℕ)) → length (sum_bits n (pads seeds)) ≡ n
  length-pads [] = length-zeros n
  length-pads (s ∷ seeds) = length-xor (pad_of s r n) (sum_bits n (pads seeds)) n (length-pad s r n) (length-pads seeds)

  pads-push : (seeds : List (List ℕ)) (s : List ℕ) → sum_bits n (pads (seeds ++ s ∷ [])) ≡ xor_bits (sum_bits n (pads seeds)) (pad_of s r n)
  pads-push [] s = xor_zeros (pad_of s r n) n (length-pad s r n) ∙ sym (zeros_xor (pad_of s r n) n (length-pad s r n))
  pads-push (t ∷ seeds) s =
      ap (xor_bits (pad_of t r n)) (pads-push seeds s) ∙ sym (xor_assoc (pad_of t r n) (sum_bits n (pads seeds)) (pad_of s r n))

  -- no pad is added
  pub no_pad : (x : List Bool) → length x ≡ n → xor_bits x (sum_bits n []) ≡ x
  no_pad x long = xor_zeros x n long

  -- one pad more
  pub pad_more : (x : List Bool) (seeds : List (List ℕ)) (k : ℕ) (d : List ℕ) → k < length seeds
      → xor_bits (xor_bits x (sum_bits n (pads (take k seeds)))) (pad_of (get_or seeds k d) r n) ≡ xor_bits x (sum_bits n (pads (take (k + 1) seeds)))
  pad_more x seeds k d within =
      xor_assoc x (sum_bits n (pads (take k seeds))) (pad_of (get_or seeds k d) r n)
      ∙ ap (xor_bits x) (sym (pads-push (take k seeds) (get_or seeds k d)) ∙ ap (λ l. sum_bits n (pads l)) (sym (take_more seeds k d within)))

  pub length-added : (x : List Bool) (seeds : List (List ℕ)) → length x ≡ n → length (xor_bits x (sum_bits n (pads seeds))) ≡ n
  length-added x seeds long = length-xor x (sum_bits n (pads seeds)) n long (length-pads seeds)

  pub pad_after : (x : List Bool) (seeds : List (List ℕ)) (k : ℕ) (d : List ℕ) (old new : List Bool) → k < length seeds
      → old ≡ xor_bits x (sum_bits n (pads (take k seeds))) → length old ≡ n → new ≡ xor_bits old (pad_of (get_or seeds k d) r (length old))
      → new ≡ xor_bits x (sum_bits n (pads (take (k + 1) seeds)))
  pad_after x seeds k d old new within was long is =
      is ∙ (λ i. xor_bits (was i) (pad_of (get_or seeds k d) r (long i))) ∙ pad_more x seeds k d within
