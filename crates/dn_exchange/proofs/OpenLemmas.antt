-- Counting the clients of a server.
use Rattle.std.proofs.Common.{◌≡◌, ◌≢◌, ℕ, ◌+◌, ◌%◌, [], ◌∷◌, ap, ◌∙◌, arith, cond}
use Rattle.std.specs.Prelude.{count_by, ◌==◌}
use Rattle.std.proofs.lemmas.List.Sums.{sum_by-append}
use Rattle.std.proofs.lemmas.Bool.{eq-eqb}
use Rattle.dn_bits.specs.Bits.{below}
use Rattle.dn_bits.proofs.SumLemmas.{below_more}
use Rattle.dn_server.proofs.MemberLemmas.{differs}
use Rattle.dn_exchange.specs.Opening.{expected_at}

more : (i servers j : ℕ) → expected_at (i + 1) servers j ≡ expected_at i servers j + (0 + cond (i % servers == j) 1 0)
more i servers j = ap (count_by (λ k. k % servers == j)) (below_more i) ∙ sum_by-append (λ k. cond (k % servers == j) 1 0) (below i) (i ∷ [])

-- one client more that is the server's, or isn't
pub expected_one : (i servers j : ℕ) → i % servers ≡ j → expected_at (i + 1) servers j ≡ expected_at i servers j + 1
expected_one i servers j e =
    let bit = ap {B = ℕ} (λ b. cond b 1 0) (eq-eqb (i % servers) j e) in
    let all = more i servers j in
    omega (arith, bit, all)

pub expected_same : (i servers j : ℕ) → i % servers ≢ j → expected_at (i + 1) servers j ≡ expected_at i servers j
expected_same i servers j n =
    let bit = ap {B = ℕ} (λ b. cond b 1 0) (differs (i % servers) j n) in
    let all = more i servers j in
    omega (arith, bit, all)
