-- One submission more that can race.
use Rattle.std.proofs.Common.{◌≡◌, ℕ, ◌+◌, ◌<◌, ◌≤◌, Bool, true, false, cond, List, [], ◌∷◌, ◌++◌, length, refl, sym, ap, subst, ◌∙◌, arith, zero-add}
use Rattle.std.specs.Prelude.{◌==◌, ◌||◌}
use Rattle.std.specs.List.{list_any}
use Rattle.std.proofs.lemmas.Bool.{eqb-true}
use Rattle.std.proofs.lemmas.List.{length_push}
use Rattle.std.proofs.lemmas.List.Elements.{All-push}
use Rattle.dn_counts.specs.Counts.{times, equal}
use Rattle.dn_counts.proofs.Sums.{times-append, times-push, hit}
use Rattle.dn_wire.specs.declared.ids.ClientId.{ClientId}
use Rattle.dn_wire.specs.declared.limits.TheConstants.{MAX_RACE_LIST}
use Rattle.dn_crew.specs.Race.{numbers_of}
use Rattle.dn_runner.specs.Racing.{CanRace}

neither : (b rest : Bool) (n : ℕ) → b || rest ≡ false → (rest ≡ false → n ≡ 0) → cond b 1 0 + n ≡ 0
neither true rest n is none = cc
neither false rest n is none = zero-add n ∙ none is

-- a number that isn't there stands there no time
not_there : (k : ℕ) (list : List (ClientId × ℕ)) → list_any (λ m. m.1 == k) list ≡ false → times k (numbers_of list) ≡ 0
not_there k [] is = refl
not_there k (m ∷ list) is =
    times-append k (m.1 ∷ []) (numbers_of list) ∙ ap (λ n. n + times k (numbers_of list)) (zero-add (equal m.1 k))
    ∙ neither (m.1 == k) (list_any (λ x. x.1 == k) list) (times k (numbers_of list)) is (not_there k list)

numbers_of-push : (list : List (ClientId × ℕ)) (m : ClientId × ℕ) → numbers_of (list ++ m ∷ []) ≡ numbers_of list ++ m.1 ∷ []
numbers_of-push [] m = refl
numbers_of-push (x ∷ list) m = ap (λ l. x.1 ∷ l) (numbers_of-push list m)

by_test : (b : Bool) (n q : ℕ) (ns : List ℕ) → (q == n) ≡ b → times n ns ≤ 1 → times q ns ≡ 0 → times n ns + equal q n ≤ 1
by_test true n q ns e few none =
    let same : q ≡ n = eqb-true q n e in
    let no : times n ns ≡ 0 = subst (λ k. times k ns ≡ 0) same none in
    let yes : equal q n ≡ 1 = hit q n same in
    omega (arith, no, yes)
by_test false n q ns e few none =
    let no : equal q n ≡ 0 = ap (λ b. cond b 1 0) e in
    omega (arith, no, few)

differ_more : (n q : ℕ) (ns : List ℕ) → times n ns ≤ 1 → times q ns ≡ 0 → times n (ns ++ q ∷ []) ≤ 1
differ_more n q ns few none = subst (λ k. k ≤ 1) (sym (times-push n ns q)) (by_test (q == n) n q ns refl few none)

pub one_racer_more : (clients : ℕ) (list : List (ClientId × ℕ)) (m : ClientId × ℕ) → CanRace clients list → length list < MAX_RACE_LIST → m.0.0 < clients
    → list_any (λ x. x.1 == m.1) list ≡ false → CanRace clients (list ++ m ∷ [])
one_racer_more clients list m can room inside new = record {
  few = let longer = length_push list m in omega (arith, longer);
  clients_are = All-push (λ x. x.0.0 < clients) list m can.clients_are inside;
  differ = λ n. subst (λ ns. times n ns ≤ 1) (sym (numbers_of-push list m)) (differ_more n m.1 (numbers_of list) (can.differ n) (not_there m.1 list new));
}
