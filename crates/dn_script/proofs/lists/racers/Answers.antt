use Rattle.std.proofs.Common.{ap, arith, length, sym, ◌∙◌}
use Rattle.dn_script.specs.Judged.{honest_client, seen_as}
use Rattle.dn_script.specs.Row.{read_every}
use Rattle.dn_script.proofs.RowLaws.{goes_on, refused, is_done}
use Rattle.dn_script.proofs.lists.racers.Goals as goal

pub returns-in-Err : goal.returns-in-Err
returns-in-Err c =
    rw c.bad.ensures (refused (honest_client (seen_as c.args.group)) c.loop-text.list.items c.loop-text.n c.in-Some.text.now c.loop-text.words c.take.new.self c.in-Err.flaw
    (read_every (honest_client (seen_as c.args.group)) c.args.first c.args.words.now) c.in-Some.ensures (sym c.honest_client.ensures ∙ c.in-Err.is) c.loop-text.invariant.0)

pub loop-text-preserved : goal.loop-text-preserved
loop-text-preserved c = (
  rw c.in_ok-push.ensures.items (goes_on (honest_client (seen_as c.args.group)) c.loop-text.list.items c.loop-text.n c.in-Some.text.now c.loop-text.words c.take.new.self c.in-Ok.client
      (read_every (honest_client (seen_as c.args.group)) c.args.first c.args.words.now) c.in-Some.ensures (sym c.honest_client.ensures ∙ c.in-Ok.is) c.loop-text.invariant.0),
  omega (arith, c.loop-text.invariant.1, ap length c.in-Some.ensures),
)

pub returns : goal.returns
returns c =
    is_done (honest_client (seen_as c.args.group)) c.loop-text.list.items c.loop-text.n c.loop-text.words (read_every (honest_client (seen_as c.args.group)) c.args.first c.args.words.now)
    c.in_default.ensures c.loop-text.invariant.0
