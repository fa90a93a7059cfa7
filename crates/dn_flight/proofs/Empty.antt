-- A flight without messages.
use Rattle.std.proofs.Common.{◌≡◌, ℕ, zero, suc, ◌+◌, ◌<◌, ◌≤◌, List, [], ◌∷◌, ◌++◌, length, cond, nat_lt, Bool, refl, ap, ◌∙◌, sym, subst, arith, eq-eqb, ne_eqb, le-ltb, lt-ltb}
use mathlib.Core.Logic.{dite}
use native.Mathlib.Decide.{ℕ_discrete}
use Rattle.dn_nodes.specs.declared.node.Node.{Node}
use Rattle.dn_flight.specs.Arena.{none, no_ends, free_node}
use Rattle.dn_flight.specs.Side.{first_end, last_end}
use Rattle.dn_flight.specs.Whole.{IsWhole, IsFree, times}
use Rattle.dn_flight.specs.declared.heads.Ends.{Ends}
use Rattle.dn_flight.specs.declared.side.Side.{Side}
use Rattle.dn_flight.specs.declared.side.Side.TheVariants.{To, From}

-- the numbers from n on, as many as told
range : ℕ → ℕ → List ℕ
range n zero = []
range n (suc k) = n ∷ range (n + 1) k

length-range : (n k : ℕ) → length (range n k) ≡ k
unfolding range
length-range n zero = refl
length-range n (suc k) = omega (arith, length-range (n + 1) k)

times_below : (n k p : ℕ) → p < n → times p (range n k) ≡ 0
unfolding range
times_below n zero p h = refl
times_below n (suc k) p h = omega (arith, times_below (n + 1) k p (omega arith), ap (λ (t : Bool). cond {A = ℕ} t 1 0) (ne_eqb n p (λ q. omega arith)))

times_range : (n k p : ℕ) → n ≤ p → times p (range n k) ≡ cond (nat_lt p (n + k)) 1 0
unfolding range
times_range n zero p h = sym (ap (λ (t : Bool). cond {A = ℕ} t 1 0) (le-ltb p (n + 0) (omega arith)))
times_range n (suc k) p h = dite (ℕ_discrete n p)
    (λ q. omega (arith, ap (λ (t : Bool). cond {A = ℕ} t 1 0) (eq-eqb n p q), times_below (n + 1) k p (omega arith), ap (λ (t : Bool). cond {A = ℕ} t 1 0) (lt-ltb p (n + suc k) (omega arith))))
    (λ ne. let e : n + 1 + k ≡ n + suc k = omega arith in omega (arith, ap (λ (t : Bool). cond {A = ℕ} t 1 0) (ne_eqb n p ne), times_range (n + 1) k p (omega arith), ap (λ (j : ℕ). cond {A = ℕ} (nat_lt p j) 1 0) e))

chain : (nodes : ℕ → Node) (n k : ℕ) → n + k ≡ none → ((p : ℕ) → p < none → nodes p ≡ free_node (p + 1)) → IsFree nodes n (range n k)
unfolding range
chain nodes n zero e h = omega (arith, e)
chain nodes n (suc k) e h = (refl, subst (λ (p : ℕ). IsFree nodes p (range (n + 1) k)) (sym (ap (λ (x : Node). x.to_after) (h n (omega (arith, e))))) (chain nodes (n + 1) k (omega (arith, e)) h))

pub whole_none : (nodes : ℕ → Node) (heads : ℕ → Ends) → ((p : ℕ) → p < none → nodes p ≡ free_node (p + 1)) → ((q : ℕ) → heads q ≡ no_ends) → IsWhole nodes heads 0 [] 0
whole_none nodes heads free ends = record {
  ids = λ b e a is. absurd (nothing b e a is);
  order = omega arith;
  linked = λ side b x a is. absurd (nothing b x a is);
  firsts = λ side k. ap (first_end side) (ends k) ∙ first_none side;
  lasts = λ side k. ap (last_end side) (ends k) ∙ last_none side;
  places = (range 0 none, chain nodes 0 none refl free, (λ p. omega (arith, times_range 0 none p (omega arith))), omega (arith, length-range 0 none));
}
  where
    nothing : (b : List (ℕ × ℕ)) (e : ℕ × ℕ) (a : List (ℕ × ℕ)) → [] ≡ b ++ e ∷ a → ⊥
    nothing [] e a is = absurd (omega (arith, ap length is))
    nothing (y ∷ b) e a is = absurd (omega (arith, ap length is))

    first_none : (side : Side) → first_end side no_ends ≡ none
    first_none To = refl
    first_none From = refl

    last_none : (side : Side) → last_end side no_ends ≡ none
    last_none To = refl
    last_none From = refl
