use Rattle.std.proofs.Common.{◌≡◌, Some, rules}
use Rattle.std.proofs.lemmas.List.Elements.{All-push}
use Rattle.dn_verify.specs.Steps.{posted_bytes}
use Rattle.dn_verify.specs.Under.{IsContentUnder}
use Rattle.dn_verify.proofs.ContentLemmas.{contents-posted}
use Rattle.dn_verify.proofs.opening.add_content.Goals as goal

pub returns-clause-under : goal.returns-clause-under
returns-clause-under c =
    rw c.in_ok-push.ensures.items
    (All-push (IsContentUnder c.args.roster.now) c.args.contents.now.items c.in_ok-content.content c.requires c.in_ok-content.ensures.under)

pub returns-clause-contents : goal.returns-clause-contents
returns-clause-contents c = λ payloads h.
    let posted : posted_bytes c.args.line.now ≡ Some c.get.result.now = search rules in
    rw c.in_ok-push.ensures.items
    (contents-posted c.args.roster.now payloads c.args.contents.now.items c.get.result.now c.in_ok-content.content (posted_bytes c.args.line.now) posted h
    c.in_ok-content.ensures.content)
