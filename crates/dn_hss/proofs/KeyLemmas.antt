-- The leaves of a key's trees, as code counts them.
use Rattle.std.proofs.Common.{◌≡◌, ℕ, ◌*◌, ◌/◌, ◌%◌, ◌^◌, ◌<◌, ◌≤◌, List, [], ◌++◌, Result, Ok, Err, IfErr, refl, sym, ap, subst, ◌∙◌, arith}
use Rattle.std.specs.Prelude.{IsErrAnd}
use Rattle.std.specs.Int.{w32, to_be_bytes}
use Rattle.std.proofs.Math.Nat.{mul-le-mul}
use Rattle.dn_ots.specs.Parameters.{IsCode}
use Rattle.dn_lms.specs.Fault.{IsFault}
use Rattle.dn_lms.specs.declared.pair.KeyFault.{KeyFault}
use Rattle.dn_lms.specs.declared.pair.KeyFault.TheVariants.{NoMemory}
use Rattle.dn_lms_definitions.specs.Key.{Key, IsKey, IsLms, leaf_count}
use Rattle.dn_lms_definitions.specs.Signature.{public_key, lms_signature}
use Rattle.dn_lms_definitions.proofs.Laws.{sizes}
use Rattle.dn_hss_definitions.specs.Hss.{TwoLevelKey, IsTwoLevelKey, tree_leaves, hss_count, top_of, second_of, hss_public_key, hss_signature}
use Rattle.dn_hss_definitions.proofs.Laws.{top_count, second_count, tree_within, leaf_within}
use Rattle.dn_hss.specs.declared.origin.Origin.{Origin}
use Rattle.dn_hss.specs.Origin.{key_from}

-- so many leaves has each tree of the key
pub record Counts (key : TwoLevelKey) (n : ℕ) : Type 0 where
  pub leaves : n ≡ tree_leaves key
  pub some : 0 < n
  pub few : n ≤ 32768
  pub square : n * n < 2 ^ 32

pub counts : (key : TwoLevelKey) (top : Key) (n : ℕ) → IsTwoLevelKey key → top ≡ top_of key → n ≡ leaf_count top → Counts key n
counts key top n k is count =
    let leaves : n ≡ tree_leaves key = count ∙ ap leaf_count is ∙ top_count key in
    let s = sizes key.lms k.lms_known in
    let few : n ≤ 32768 = omega (arith, s.few, leaves) in
    record {
      leaves = leaves;
      some = omega (arith, s.some, leaves);
      few = few;
      square = omega (arith, mul-le-mul few few);
    }

pub square_is : (key : TwoLevelKey) (n : ℕ) → n ≡ tree_leaves key → n * n ≡ hss_count key
unfolding hss_count
square_is key n e = rw e refl

-- the second tree whose leaf stands for leaf q of the key, and that leaf
pub tree_number : (key : TwoLevelKey) (n q : ℕ) → IsTwoLevelKey key → n ≡ tree_leaves key → q < hss_count key → q / n < tree_leaves key
tree_number key n q k e lt = rw e (tree_within key q k lt)

pub tree_small : (key : TwoLevelKey) (top : Key) (n q : ℕ) → IsTwoLevelKey key → top ≡ top_of key → n ≡ tree_leaves key → q < hss_count key
    → q / n < leaf_count top
tree_small key top n q k is e lt = let count : leaf_count top ≡ tree_leaves key = ap leaf_count is ∙ top_count key in rw count (tree_number key n q k e lt)

pub leaf_small : (key : TwoLevelKey) (second : Key) (t n q : ℕ) → IsTwoLevelKey key → second ≡ second_of key t → n ≡ tree_leaves key
    → q % n < leaf_count second
leaf_small key second t n q k is e =
    let count : leaf_count second ≡ tree_leaves key = ap leaf_count is ∙ second_count key t in
    rw (count, e) (leaf_within key q k)

-- the codes of a key whose top tree was made
pub codes_known : (key : TwoLevelKey) (top : Key) → IsKey top → top ≡ top_of key → IsLms key.lms × IsCode key.ots
unfolding top_of
codes_known key top k is =
    (subst IsLms (ap (λ (t : Key). t.lms) is) k.lms_known, subst IsCode (ap (λ (t : Key). t.ots) is) k.ots_known)

pub want_of_memory : {A : Type 0} (r : Result A KeyFault) (lms ots : ℕ) → IsErrAnd r (λ e. e ≡ NoMemory) → IsLms lms × IsCode ots → IfErr r (IsFault lms ots)
want_of_memory (Ok x) lms ots h known = tt
want_of_memory (Err e) lms ots h known = subst (IsFault lms ots) (sym h) known

-- a kept tree by what it was made from
pub same_second : (o p : Origin) (t s : ℕ) (tree : Key) → tree ≡ second_of (key_from o) t → o ≡ p → t ≡ s → tree ≡ second_of (key_from p) s
same_second o p t s tree made same number = made ∙ rw (same, number) refl

-- ---- the pieces of public keys and signatures

pub public_made : (key : TwoLevelKey) (top : Key) (two public v s1 s2 : List ℕ) → top ≡ top_of key → two ≡ to_be_bytes w32 2 → public ≡ public_key top
    → v ≡ [] → s1 ≡ v ++ two → s2 ≡ s1 ++ public → s2 ≡ hss_public_key key
unfolding hss_public_key
public_made key top two public v s1 s2 et e2 ep ev h1 h2 = rw (h2, h1, ev, e2, ep, et) refl

pub signature_made : (key : TwoLevelKey) (top second : Key) (n q : ℕ) (msg one by_top public by_second v s1 s2 s3 s4 : List ℕ)
    → n ≡ tree_leaves key → top ≡ top_of key → second ≡ second_of key (q / tree_leaves key) → one ≡ to_be_bytes w32 1 → public ≡ public_key second
    → by_top ≡ lms_signature top (q / n) public → by_second ≡ lms_signature second (q % n) msg
    → v ≡ [] → s1 ≡ v ++ one → s2 ≡ s1 ++ by_top → s3 ≡ s2 ++ public → s4 ≡ s3 ++ by_second → s4 ≡ hss_signature key q msg
unfolding hss_signature
signature_made key top second n q msg one by_top public by_second v s1 s2 s3 s4 en et es e1 ep ea eb ev h1 h2 h3 h4 =
    rw (h4, h3, h2, h1, ev, ea, eb, ep, e1, en, et, es) refl
