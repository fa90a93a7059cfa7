use Rattle.std.proofs.Common.{◌∙◌, ℕ, List, [], None, false}
use Rattle.dn_cert.specs.Chain.{ChainView}
use Rattle.dn_seal.specs.Said.{SaidView}
use Rattle.dn_server.specs.declared.past.Past.{Past}
use Rattle.dn_server.specs.declared.places.Place.{Place}
use Rattle.dn_server.specs.declared.run.Run.{Run}
use Rattle.dn_server.specs.Identity.{IdentityView}
use Rattle.dn_server.specs.Server.{ServerView}
use Rattle.dn_exchange.specs.Making.{first_run}
use Rattle.dn_exchange.specs.Opening.{expected_at}
use Rattle.dn_exchange.proofs.making.make.Goals as goal

of_parts : ℕ → IdentityView → List (List ℕ) → ChainView → Run → List Past → List Place → List SaidView → List Place → ServerView
of_parts workers d seeds chain run pasts places evidence challenged = record {
  seat = record { roster = d.roster; number = d.number; seeds = seeds };
  workers = workers;
  key = d.key;
  chain = chain;
  run = run;
  pasts = pasts;
  signed = d.signed;
  aside = 0;
  opened = places;
  evidence = evidence;
  challenged = challenged;
  bend = None;
  bent = false;
  spent = false;
}

pub returns-clause-value : goal.returns-clause-value
unfolding of_parts
returns-clause-value c =
    let clients = c.numbers-clients.ensures.clients in
    let servers = c.numbers-clients.ensures.servers in
    let expected = c.expected_at-expected.ensures.count ∙ (λ i. expected_at (clients i) (servers i) c.args.j.0) in
    let chain = c.in_ok-make.ensures.none ∙ (λ i. record { slots = clients i; held = [] }) in
    let run = c.in_ok-no_run.ensures ∙ (λ i. first_run (clients i) (expected i)) in
    λ i. of_parts c.args.workers (c.in_ok-identity_of.ensures.value i) (c.in_ok-seeds_of.ensures i) (chain i) (run i) (c.none.ensures i) (c.none-2.ensures i) (c.none-3.ensures i) (c.none-4.ensures i)
