-- As many values are taken as the closing counts.
use Rattle.std.proofs.Common.{◌≡◌, ℕ, ◌≤◌, List, [], length, ap, subst, ◌∙◌, arith, IfSome, Option, Some}
use Rattle.dn_counts.specs.Counts.{total, times}
use Rattle.dn_gate.specs.Rule.{At, many, marked_count, is_mark, sees}
use Rattle.dn_gate.specs.Collected.{clients_of, took_all}
use Rattle.dn_wire.specs.declared.ids.ClientId.{ClientId}
use Rattle.dn_counts.proofs.Sums.{total-append, times-append}
use Rattle.dn_gate.proofs.Marks.{many_le}
use Rattle.dn_gate.proofs.Rights.{with_right}

module _ {T : Type 0} where
  -- none is left out
  pub none_left : (m n : At T) (found : List (ℕ × ℕ)) (clients long : ℕ) → n ≡ (with_right m.0 found 1, []) → many (λ i. total (is_mark i) n.0.looked) clients ≤ long → many (λ i. total (is_mark i) found) clients ≤ long
  none_left m n found clients long is full =
      let more = many_le (λ i. total (is_mark i) found) (λ i. total (is_mark i) n.0.looked) (λ i. omega (arith, ap (λ (x : At T). total (is_mark i) x.0.looked) is, total-append (is_mark i) m.0.looked found)) clients in
      omega (arith, more, full)

  -- none is there too many
  pub none_over : (m n t : At T) (found : List (ℕ × ℕ)) (xs : List (ClientId × T)) (clients count : ℕ) → n ≡ (with_right m.0 found 1, []) → t ≡ (took_all n.0 (clients_of xs), []) → m.0.closing ≡ Some count → m.0.clients ≡ clients
      → IfSome t.0.closing (λ c. many (λ i. sees i t.0) t.0.clients ≤ c) → length xs ≤ many (λ i. times i (clients_of xs)) clients → length xs ≤ count
  none_over m n t found xs clients count is then closing wide told few =
      let t' : t ≡ (took_all (with_right m.0 found 1) (clients_of xs), []) = then ∙ ap (λ (x : At T). (took_all x.0 (clients_of xs), [])) is in
      let bound : many (λ i. sees i t.0) t.0.clients ≤ count = subst (λ (o : Option ℕ). IfSome o (λ c. many (λ i. sees i t.0) t.0.clients ≤ c)) (ap (λ (x : At T). x.0.closing) t' ∙ closing) told in
      let more = many_le (λ i. times i (clients_of xs)) (λ i. sees i t.0) (λ i. omega (arith, ap (λ (x : At T). times i x.0.taken) t', times-append i m.0.taken (clients_of xs))) clients in
      omega (arith, few, more, bound, ap (many (λ i. sees i t.0)) (ap (λ (x : At T). x.0.clients) t' ∙ wide))

  pub all_taken : (m n t : At T) (found : List (ℕ × ℕ)) (xs : List (ClientId × T)) (clients count marked : ℕ) → n ≡ (with_right m.0 found 1, []) → t ≡ (took_all n.0 (clients_of xs), []) → m.0.closing ≡ Some count → m.0.clients ≡ clients
      → IfSome t.0.closing (λ c. many (λ i. sees i t.0) t.0.clients ≤ c) → length xs ≤ many (λ i. times i (clients_of xs)) clients → many (λ i. total (is_mark i) n.0.looked) clients ≤ length xs
      → count ≤ marked → marked_count found ≡ marked → marked_count found ≤ many (λ i. total (is_mark i) found) clients → (marked_count found ≡ count) × (length xs ≡ count)
  all_taken m n t found xs clients count marked is then closing wide told few full enough counted each =
      let left = none_left m n found clients (length xs) is full in
      let over = none_over m n t found xs clients count is then closing wide told few in (omega (arith, left, over, enough, counted, each), omega (arith, left, over, enough, counted, each))
