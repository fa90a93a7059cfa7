use Rattle.std.proofs.Common.{◌≡◌, length, ◌∙◌, arith}
use Rattle.dn_hss_definitions.specs.Hss.{TwoLevelKey, IsTwoLevelKey}
use Rattle.dn_hss.proofs.KeyLemmas.{counts, codes_known, want_of_memory}
use Rattle.dn_hss.proofs.key.HssKey.make.Goals as goal

abbrev key_of : goal.In_ok-seconds → TwoLevelKey
key_of c = record { lms = c.args.lms; ots = c.args.ots; seed = c.args.seed }

is_key : (c : goal.In_ok-seconds) → IsTwoLevelKey (key_of c)
is_key c =
    let known = codes_known (key_of c) c.in_ok-top.top c.in_ok-top.ensures.key c.in_ok-top.ensures.value in
    let long : length c.args.seed ≡ 32 = omega arith in
    record { lms_known = known.0; ots_known = known.1; seed_long = long }

pub returns-in_err-seconds-clause-fault : goal.returns-in_err-seconds-clause-fault
returns-in_err-seconds-clause-fault c =
    want_of_memory c.from_residual-in_err-seconds.result c.args.lms c.args.ots c.from_residual-in_err-seconds.ensures.1
    (codes_known (record { lms = c.args.lms; ots = c.args.ots; seed = c.args.seed }) c.in_ok-top.top c.in_ok-top.ensures.key c.in_ok-top.ensures.value)

pub invariant_of-result : goal.invariant_of-result
invariant_of-result c =
    let n = counts (key_of c) c.in_ok-top.top c.leaves.result (is_key c) c.in_ok-top.ensures.value (c.leaves.ensures.count) in
    record { key = is_key c; top = c.in_ok-top.ensures.value; places = c.in_ok-seconds.ensures ∙ n.leaves }

pub returns-clause-key : goal.returns-clause-key
returns-clause-key c = is_key c
