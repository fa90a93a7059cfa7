-- The parts of a public key of two levels and of a signature, as code cuts them.
use Rattle.std.proofs.Common.{◌≡◌, ℕ, ◌+◌, ◌-◌, ◌*◌, List, length, take, drop, refl, ap, ◌∙◌, arith}
use Rattle.std.proofs.lemmas.List.{take_rest}
use Rattle.dn_ots.specs.Parameters.{ots_length}
use Rattle.dn_lms_definitions.specs.Key.{height}
use Rattle.dn_lms_definitions.specs.Signature.{Verifies, lms_length, lms_in, ots_in, number_at}
use Rattle.dn_hss_definitions.specs.Hss.{HssVerifies, top_in, top_length, top_signature_in, second_in, second_signature_in}

pub top_length_is : (public : List ℕ) (lms code sig_len h : ℕ) → lms ≡ lms_in (top_in public) → code ≡ ots_in (top_in public) → sig_len ≡ ots_length code
    → h ≡ height lms → 8 + sig_len + 32 * h ≡ top_length public
unfolding top_length lms_length
top_length_is public lms code sig_len h el ec es eh = rw (es, eh, el, ec) refl

-- what code cuts out
pub record Cuts (public sig : List ℕ) (n : ℕ) (top first second last : List ℕ) : Type 0 where
  pub top_is : top ≡ top_in public
  pub first_is : first ≡ top_signature_in public sig
  pub second_is : second ≡ second_in public sig
  pub last_is : last ≡ second_signature_in public sig

pub cuts : (public sig : List ℕ) (n : ℕ) → n ≡ top_length public
    → Cuts public sig n (take (length public - 4) (drop 4 public)) (take (4 + n - 4) (drop 4 sig)) (take (4 + n + 56 - (4 + n)) (drop (4 + n) sig))
    (take (length sig - (4 + n + 56)) (drop (4 + n + 56) sig))
cuts public sig n e =
    let a : 4 + n - 4 ≡ n = omega arith in
    let b : 4 + n + 56 - (4 + n) ≡ 56 = omega arith in
    let d : 4 + n + 56 ≡ 60 + n = omega arith in
    record {
      top_is = take_rest public 4;
      first_is = ap (λ (k : ℕ). take k (drop 4 sig)) (a ∙ e);
      second_is = ap (λ (k : ℕ). take k (drop (4 + n) sig)) b ∙ ap (λ (k : ℕ). take 56 (drop (4 + k) sig)) e;
      last_is = take_rest sig (4 + n + 56) ∙ ap (λ (k : ℕ). drop k sig) d ∙ ap (λ (k : ℕ). drop (60 + k) sig) e;
    }

pub by_parts : (public msg sig : List ℕ) (n : ℕ) (top first second last : List ℕ) → Cuts public sig n top first second last → length public ≡ 60 → number_at public 0 ≡ 2
    → number_at sig 0 ≡ 1 → Verifies top second first → Verifies second msg last → HssVerifies public msg sig
by_parts public msg sig n top first second last cut long two one above below = record {
  key_long = long;
  levels = two;
  signed_keys = one;
  top = rw (← cut.top_is, ← cut.second_is, ← cut.first_is) above;
  second = rw (← cut.second_is, ← cut.last_is) below;
}

pub last_part : (public msg sig : List ℕ) (n : ℕ) (top first second last : List ℕ) → Cuts public sig n top first second last → HssVerifies public msg sig → Verifies second msg last
last_part public msg sig n top first second last cut v = rw (cut.second_is, cut.last_is) v.second
