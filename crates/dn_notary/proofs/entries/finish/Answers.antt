use Rattle.std.proofs.Common.{◌+◌, ◌∙◌, sym}
use Rattle.dn_notary.specs.Entries.{at_end}
use Rattle.dn_notary.proofs.ListingLemmas.{nothing_left, something_left, ends_here, gives_same}
use Rattle.dn_notary.proofs.entries.finish.Goals as goal

pub returns-then-is_empty : goal.returns-then-is_empty
returns-then-is_empty c =
    gives_same (λ v. v.items) c.ended.result _ _ (nothing_left c.args.rest.now c.args.listing c.args.number (sym c.is_empty.ensures ∙ c.if-is_empty.true)) c.ended.ensures

pub returns-in-Ok : goal.returns-in-Ok
returns-in-Ok c =
    let left = something_left c.args.rest.now c.args.listing c.args.number (sym c.is_empty.ensures ∙ c.if-is_empty.false) in
    gives_same (λ v. v.items) c.ended-in-Ok.result _ _ (left ∙ c.in-Ok.ensures (λ k. at_end k (c.args.number + 1))) c.ended-in-Ok.ensures

pub returns-in-Err : goal.returns-in-Err
returns-in-Err c =
    let left = something_left c.args.rest.now c.args.listing c.args.number (sym c.is_empty.ensures ∙ c.if-is_empty.false) in
    ends_here c.in-Err.fault _ _ left (c.in-Err.ensures (λ k. at_end k (c.args.number + 1)))
