-- A call of a core in a run: all that it did.
use Rattle.std.specs.Prelude.{◌≡◌, List}
use Rattle.dn_wire.specs.declared.ids.ServerId.{ServerId}
use Rattle.dn_record_types.specs.declared.statement.Statement.{Statement}
use Rattle.dn_report.specs.declared.outcome.Outcome.{Outcome}
use Rattle.dn_headline.specs.Run.{RunView}
use Rattle.dn_headline.specs.Invariant.{Facts}
use Rattle.dn_headline.specs.Step.{Grows}
use Rattle.dn_links.specs.Link.{ServersCalled, RoundsCalled}
use Rattle.dn_links.specs.ClientLink.{ClientsCalled}
use Rattle.dn_links.specs.MessageLink.{MessagesCalled}
use Rattle.dn_links.specs.Judging.{JudgeCalled}

-- The run after a call has these lines more; and what the call did at the servers, to their rounds, at the clients, to messages, and by the
-- judge is what these promise.
pub record IsCall (w : RunView) (f : Facts) (v : RunView) (g : Facts) : Type 0 where
  pub group : v.group ≡ w.group
  pub lines : List Outcome
  pub fresh : ServerId → List Statement
  pub grows : Grows w v lines
  pub servers : ServersCalled w v f g lines fresh
  pub rounds : RoundsCalled w v f g lines fresh servers.before servers.after
  pub clients : ClientsCalled w v f g
  pub messages : MessagesCalled w v f g lines fresh servers.before servers.after
  pub judge : JudgeCalled w v
