use Rattle.std.proofs.Common.{sym}
use Rattle.dn_cmd.proofs.WindowLemmas.{at_submit}
use Rattle.dn_cmd.proofs.window.submit.Goals as goal

pub returns-clause-at : goal.returns-clause-at
returns-clause-at c = λ n past at.
    at_submit n c.args.window.now c.submit-told.new.self c.args.marks.now past at c.submit-told.ensures.clients c.submit-told.ensures.expected
    c.args.client.0 c.submit-told.result c.mark.new.marks c.requires.within (sym (c.submit-told.ensures.one_list past at.after))
    c.mark.ensures (c.submit-told.ensures.history past at.after)
