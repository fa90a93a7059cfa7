use Rattle.std.proofs.Common.{◌≡◌, ◌∙◌, true, false, Some, sym, ap, length, take}
use Rattle.dn_ots.specs.Ots.{ots_candidate}
use Rattle.dn_ots.proofs.KeyLemmas.{ots_candidate-ots_signature, length-ots_signature, take-ots_signature}
use Rattle.dn_ots.proofs.candidates.candidate.Goals as goal

pub returns-then-not-has_form-clause-true_signature : goal.returns-then-not-has_form-clause-true_signature
returns-then-not-has_form-clause-true_signature c = λ seed e.
    let long = ap length e ∙ length-ots_signature c.args.params.code c.args.id.now seed c.args.msg.now c.args.q ∙ sym c.args.params.row.length_is in
    let front = ap (take 4) e ∙ take-ots_signature c.args.params.code c.args.id.now seed c.args.msg.now c.args.q in
    let false_is_true : false ≡ true = c.if-not-has_form.ensures.1 (long, front) in
    cc

pub returns-clause-true_signature : goal.returns-clause-true_signature
returns-clause-true_signature c = λ seed e.
    ap Some (c.candidate_key.ensures ∙ ap (ots_candidate c.args.params.code c.args.id.now c.args.q c.args.msg.now) e
    ∙ ots_candidate-ots_signature c.args.params.code c.args.id.now seed c.args.msg.now c.args.q c.args.params.row.known)
