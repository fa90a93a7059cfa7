use Rattle.std.proofs.Common.{◌≡◌, ◌+◌, ◌*◌, ◌/◌, ◌-◌, ◌^◌, ◌%◌, ◌≤◌, ◌++◌, ℕ, List, [], ◌∷◌, length, sym, refl, ap, ◌∙◌, arith, append-nil, length-append}
use Rattle.std.specs.Int.{w16, to_be_bytes}
use Rattle.std.proofs.lemmas.List.{take_at, drop_at}
use borrow.Rule.Slice.PartMut.{put_mid}
use Rattle.dn_ots.specs.Parameters.{width, last_step}
use Rattle.dn_ots.specs.Digits.{coef, sum_below, checksum, with_checksum}
use Rattle.dn_ots.proofs.ParameterLemmas.{limits, hash_fields}
use Rattle.dn_ots.proofs.DigitLemmas.{coef_small, sum_below_none, sum_below_more, digits_sum_small, checksum_fits}
use Rattle.dn_ots.proofs.digits.with_checksum.Goals as goal

-- what digit i of a hash lacks
abbrev lack : ℕ → List ℕ → ℕ → ℕ
lack code s i = last_step code - coef s i (width code)

lack_le : (code : ℕ) (s : List ℕ) (i : ℕ) → lack code s i ≤ last_step code
lack_le code s i = omega arith

pub nonzero_div-i-end : goal.nonzero_div-i-end
nonzero_div-i-end c = rw c.args.params.row.width_is (limits c.args.params.code c.args.params.row.known).positive

pub loop-i-init : goal.loop-i-init
loop-i-init c = sym (sum_below_none _)

pub coef-requires-clause-within : goal.coef-requires-clause-within
coef-requires-clause-within c =
    let lt = rw c.args.params.row.width_is at c.loop-i-test.true in
    rw c.args.params.row.width_is (omega (arith, hash_fields c.args.params.code c.args.params.row.known c.loop-i.i lt))

pub overflow_sub-last_step : goal.overflow_sub-last_step
overflow_sub-last_step c =
    rw (c.coef.ensures, c.last_step.ensures) (coef_small c.args.hash c.loop-i.i c.args.params.code c.args.params.row.known)

pub overflow_add-sum : goal.overflow_add-sum
overflow_add-sum c =
    let code = c.args.params.code in
    let lt = rw c.args.params.row.width_is at c.loop-i-test.true in
    let small = digits_sum_small (lack code c.args.hash) code (c.loop-i.i + 1) c.args.params.row.known (lack_le code c.args.hash) (omega arith) in
    let more = sum_below_more (lack code c.args.hash) c.loop-i.i in
    let now : c.from-sum.result ≡ lack code c.args.hash c.loop-i.i = rw (c.from-sum.ensures, c.coef.ensures, c.last_step.ensures) refl in
    let sum = c.loop-i.invariant in
    omega arith

pub loop-i-preserved : goal.loop-i-preserved
loop-i-preserved c =
    let code = c.args.params.code in
    let now : c.from-sum.result ≡ lack code c.args.hash c.loop-i.i = rw (c.from-sum.ensures, c.coef.ensures, c.last_step.ensures) refl in
    let more = sum_below_more (lack code c.args.hash) c.loop-i.i in
    let sum = c.loop-i.invariant in
    omega arith

pub overflow_cast-params : goal.overflow_cast-params
overflow_cast-params c =
    let l = limits c.args.params.code c.args.params.row.known in
    let s = c.args.params.row.shift_is in
    omega arith

pub overflow_shl-sum : goal.overflow_shl-sum
overflow_shl-sum c =
    let l = limits c.args.params.code c.args.params.row.known in
    let s = c.args.params.row.shift_is in
    omega arith

-- the last two bytes written over
tail_put : (h x : List ℕ) → length h ≡ 32 → put_mid 32 2 (h ++ 0 ∷ 0 ∷ []) x ≡ h ++ x
tail_put h x l = rw (take_at h (0 ∷ 0 ∷ []) 32 l, drop_at h (0 ∷ 0 ∷ []) 32 l, append-nil x) refl

pub returns-clause-value : goal.returns-clause-value
unfolding with_checksum checksum
returns-clause-value c =
    let code = c.args.params.code in
    let end : c.loop-i.i ≡ 256 / width code = rw (← c.args.params.row.width_is) (omega arith) in
    let fits = checksum_fits code (lack code c.args.hash) c.args.params.row.known (lack_le code c.args.hash) in
    let sum : c.loop-i.sum ≡ sum_below (lack code c.args.hash) (256 / width code) = c.loop-i.invariant ∙ ap (sum_below (lack code c.args.hash)) end in
    let shifted : c.loop-i.sum * 2 ^ c.args.params.ls % 65536 ≡ checksum code c.args.hash =
    rw (sum, c.args.params.row.shift_is) (omega arith) in
    let tail : c.copy_from_slice-2.new.self ≡ to_be_bytes w16 (checksum code c.args.hash) =
    c.copy_from_slice-2.ensures.after ∙ c.to_be_bytes.ensures ∙ ap (to_be_bytes w16) shifted in
    let head : c.copy_from_slice.new.self ≡ c.args.hash = c.copy_from_slice.ensures.after in
    rw (head, tail) (tail_put c.args.hash _ (ap length (sym head) ∙ c.copy_from_slice.ensures.len))

pub returns-clause-long : goal.returns-clause-long
returns-clause-long c =
    let tail : length c.copy_from_slice-2.new.self ≡ 2 = ap length (c.copy_from_slice-2.ensures.after ∙ c.to_be_bytes.ensures) in
    let whole = ap length (tail_put c.copy_from_slice.new.self c.copy_from_slice-2.new.self c.copy_from_slice.ensures.len) in
    let parts = length-append c.copy_from_slice.new.self c.copy_from_slice-2.new.self in
    whole ∙ parts ∙ omega (arith, tail, c.copy_from_slice.ensures.len)
