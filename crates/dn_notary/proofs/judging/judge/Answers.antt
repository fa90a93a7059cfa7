use Rattle.std.proofs.Common.{◌≡◌, true, false, refl}
use Rattle.dn_script.specs.Script.{parts_of}
use Rattle.dn_notary.specs.Signed.{head_text}
use Rattle.dn_notary.proofs.PartLemmas.{has_line, no_feed, same_line}
use Rattle.dn_notary.proofs.JudgingLemmas.{without_head, as_text}
use Rattle.dn_notary.proofs.judging.judge.Goals as goal

pub returns-in_default : goal.returns-in_default
returns-in_default c =
    rw c.no_line.ensures (without_head (parts_of c.args.text.now) (λ rest h. no_feed c.args.text.now head_text rest c.in_default.ensures h))

pub returns-then-not-is_head : goal.returns-then-not-is_head
returns-then-not-is_head c =
    rw c.no_line-then-not-is_head.ensures
    (without_head (parts_of c.args.text.now)
    (λ more h.
    let same : false ≡ true = c.if-not-is_head.ensures.1 (same_line c.in-Some.line.now head_text (parts_of c.args.text.now) (parts_of c.in-Some.rest.now) more
    (has_line c.args.text.now c.in-Some.line.now c.in-Some.rest.now c.in-Some.ensures) h) in cc))

pub returns : goal.returns
returns c =
    c.judge_key.ensures (parts_of c.args.text.now)
    (as_text c.in-Some.line.now head_text (parts_of c.args.text.now) (parts_of c.in-Some.rest.now) (c.if-not-is_head.ensures.0 refl)
    (has_line c.args.text.now c.in-Some.line.now c.in-Some.rest.now c.in-Some.ensures))
