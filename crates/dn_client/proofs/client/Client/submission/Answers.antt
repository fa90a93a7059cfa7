use Rattle.std.proofs.Common.{sym, ap, ◌∙◌}
use Rattle.dn_client.specs.Client.{ClientView}
use Rattle.dn_client.proofs.Submissions.{given_again}
use Rattle.dn_client.proofs.client.Client.submission.Goals as goal

pub returns-in-Last-clause-given : goal.returns-in-Last-clause-given
returns-in-Last-clause-given c =
    let last = c.in-Last.ensures in
    given_again c.args.self.now c.submit_again.new.self c.args.r c.submit_again.result
    (sym (ap (λ (v : ClientView). v.left) c.self.view_is) ∙ c.if-self-2.false) last.1
    (last.0, sym (ap (λ (v : ClientView). v.made) c.self.view_is) ∙ sym c.deref.ensures.value ∙ last.2) last.3 c.submit_again.ensures.given
