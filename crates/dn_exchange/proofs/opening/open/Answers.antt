use Rattle.std.proofs.Common.{◌∙◌, length, ap, arith}
use Rattle.std.proofs.lemmas.Result.{IfOk-weaker}
use Rattle.dn_roster.specs.Roster.{RosterView}
use Rattle.dn_server.specs.declared.run.Run.{Run}
use Rattle.dn_server.specs.Server.{ServerView}
use Rattle.dn_server.specs.Parts.{live}
use Rattle.dn_exchange.specs.Opening.{fresh_run, expected_at}
use Rattle.dn_exchange.specs.Opening.Opens.{opens}
use Rattle.dn_exchange.proofs.opening.open.Goals as goal

pub returns-clause-opens : goal.returns-clause-opens
returns-clause-opens c =
    let p = c.args.parts.now in
    let v : ServerView = live p in
    let r = c.args.r in
    let prev = c.latest_below-prev.result in
    let roster = c.roster-roster.ensures.value in
    let clients = c.clients-clients.ensures.value ∙ ap (λ (x : RosterView). length x.clients) roster in
    let servers = c.servers-servers.ensures.value ∙ ap (λ (x : RosterView). length x.servers) roster in
    let expected = c.expected_at-expected.ensures.count ∙ (λ i. expected_at (clients i) (servers i) (c.number.ensures i)) in
    let with_run : Run → ServerView = λ x. record v { aside = 4; run = x } in
    IfOk-weaker c.does_one.result _ _
    (λ a is. opens prev c.in-Some.layout.now c.requires.new c.requires.idle (omega (arith, c.requires.leaves)) c.latest_below-prev.ensures.latest c.in-Some.ensures.layout is
    (ap with_run (c.in_ok-parts.ensures.value ∙ (λ i. fresh_run (clients i) (expected i) r prev (c.bits.ensures.bits i)))))
    c.does_one.ensures
