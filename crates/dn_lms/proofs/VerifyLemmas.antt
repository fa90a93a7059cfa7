-- The parts of a signature as the verifier cuts them, and answers on tests.
use Rattle.std.proofs.Common.{◌≡◌, ℕ, ◌+◌, ◌-◌, ◌/◌, true, false, List, length, take, drop, refl, ap, ◌∙◌, arith}
use Rattle.std.specs.Prelude.{IsTrue}
use Rattle.std.proofs.lemmas.List.{take-take, take_rest, length-take-le, length-drop}
use Rattle.dn_ots.specs.Parameters.{IsCode, ots_length}
use Rattle.dn_ots.specs.Ots.{ots_candidate}
use Rattle.dn_ots.proofs.ParameterLemmas.{limits}
use Rattle.dn_lms.specs.Key.{height, leaves_of}
use Rattle.dn_lms.specs.Tree.{leaf_hash, climb}
use Rattle.dn_lms.specs.Signature.{lms_length, leaf_in, ots_signature_in, path_in, candidate_root}

-- an answer false where a fact fails
pub false_answer : (P : Type 0) → (P → ⊥) → (IsTrue false → P) × (P → IsTrue false)
false_answer P fails = (λ h. let wrong : false ≡ true = h in cc, λ p. absurd (fails p))

-- the one-time signature
pub ots_part : (sig : List ℕ) (code n : ℕ) → n ≡ ots_length code → take (4 + n - 4) (drop 4 sig) ≡ ots_signature_in code sig
ots_part sig code n e =
    let long : 4 + n - 4 ≡ ots_length code = omega arith in
    ap (λ (k : ℕ). take k (drop 4 sig)) long

pub length-ots_part : (sig : List ℕ) (lms code : ℕ) → length sig ≡ lms_length lms code → length (ots_signature_in code sig) ≡ ots_length code
unfolding lms_length
length-ots_part sig lms code e = length-take-le (ots_length code) (drop 4 sig) (omega (arith, length-drop 4 sig))

pub take-ots_part : (sig : List ℕ) (code : ℕ) → IsCode code → take 4 (ots_signature_in code sig) ≡ take 4 (drop 4 sig)
take-ots_part sig code known = take-take 4 (ots_length code) (drop 4 sig) (omega (arith, (limits code known).size))

-- the type code after it
pub code_part : (sig : List ℕ) (code n : ℕ) → n ≡ ots_length code → take (4 + n + 4 - (4 + n)) (drop (4 + n) sig) ≡ take 4 (drop (4 + ots_length code) sig)
code_part sig code n e =
    let four : 4 + n + 4 - (4 + n) ≡ 4 = omega arith in
    rw (four, e) refl

-- the path
pub path_part_is : (sig : List ℕ) (code n : ℕ) → n ≡ ots_length code → take (length sig - (4 + n + 4)) (drop (4 + n + 4) sig) ≡ path_in code sig
path_part_is sig code n e =
    let at : 4 + n + 4 ≡ 8 + ots_length code = omega arith in
    take_rest sig (4 + n + 4) ∙ ap (λ (k : ℕ). drop k sig) at

pub path_levels : (sig : List ℕ) (lms code : ℕ) → length sig ≡ lms_length lms code → length (path_in code sig) / 32 ≡ height lms
unfolding lms_length
path_levels sig lms code e = omega (arith, length-drop (8 + ots_length code) sig)

-- the candidate for the root, by the steps of the code
pub root_is : (lms code : ℕ) (id msg sig key leaf path top : List ℕ) (q r n : ℕ) → q ≡ leaf_in sig → r ≡ leaves_of lms + q
    → key ≡ ots_candidate code id q msg (ots_signature_in code sig) → leaf ≡ leaf_hash id r key → path ≡ path_in code sig → n ≡ height lms
    → top ≡ climb id path r leaf n → top ≡ candidate_root lms code id msg sig
unfolding candidate_root
root_is lms code id msg sig key leaf path top q r n eq er ek el ep en et = et ∙ rw (en, ep, el, ek, er, eq) refl
