use Rattle.std.proofs.Common.{Err, ap}
use Rattle.dn_script.specs.Script.{parts_of}
use Rattle.dn_notary.specs.Signed.{key_text}
use Rattle.dn_notary.proofs.PartLemmas.{has_line, no_feed, same_line}
use Rattle.dn_notary.proofs.JudgingLemmas.{without_key, judged_with_key}
use Rattle.dn_notary.proofs.judging.judge_key.Goals as goal

pub returns-in_default : goal.returns-in_default
returns-in_default c = λ parts has.
    rw c.no_line.ensures
    (without_key parts (parts_of c.args.text.now) has (λ key more fits h. no_feed c.args.text.now (key_text key) more c.in_default.ensures h))

pub returns-in-Ok : goal.returns-in-Ok
returns-in-Ok c = λ parts has.
    judged_with_key c.judge_entries.result parts (parts_of c.args.text.now) (parts_of c.in-Some.rest.now) c.in-Some.line.now c.in-Ok.key c.get.result.now has
    c.in-Ok.ensures.found.0 (has_line c.args.text.now c.in-Some.line.now c.in-Some.rest.now c.in-Some.ensures) c.in-Ok.ensures.found.1 c.get.ensures c.judge_entries.ensures

pub returns-in-Err-Grammar : goal.returns-in-Err-Grammar
returns-in-Err-Grammar c = λ parts has.
    rw c.no_line-in-Err-Grammar.ensures
    (without_key parts (parts_of c.args.text.now) has
    (λ key more fits h. c.in-Err-Grammar.ensures.only (ap Err c.in-Err-Grammar.field-0-is) key fits
    (same_line c.in-Some.line.now (key_text key) (parts_of c.args.text.now) (parts_of c.in-Some.rest.now) more
    (has_line c.args.text.now c.in-Some.line.now c.in-Some.rest.now c.in-Some.ensures) h)))
