-- Whoever is heard is in the roster.
use Rattle.std.proofs.Common.{◌≡◌, ℕ, ◌<◌, List, Some, length, sym, ap, ◌∙◌, subst, inl, inr}
use Rattle.std.proofs.lemmas.Option.{slice_get_within}
use Rattle.std.proofs.lemmas.List.Elements.{All-contains}
use Rattle.dn_wire.specs.declared.ids.SignerId.{SignerId}
use Rattle.dn_record_types.specs.declared.statement.Statement.{Statement}
use Rattle.dn_roster.specs.Roster.{key_of}
use Rattle.dn_seal.specs.Dealt.{client, server}
use Rattle.dn_seal.specs.Said.{IsUnder}
use Rattle.dn_trace.specs.Trial.{Trial, Heard, CanJudge, servers_of}
use Rattle.dn_trace.specs.declared.fault.Fault.{Fault}
use Rattle.dn_trace.specs.declared.fault.Fault.TheVariants as faults
use Rattle.dn_trace.specs.Verdict.{ServerHas, ClientHas}
use Rattle.dn_trace.specs.Challenged.{IsChallenged}
use Rattle.dn_trace.specs.Tables.{clients_of}

module _ (trial : Trial) (can : CanJudge trial) where
  key_heard : (who : SignerId) (s : Statement) → Heard trial who s → (key : List ℕ) × (key_of trial.roster who ≡ Some key)
  key_heard who s (inl given) =
      let under = All-contains (IsUnder trial.roster) trial.given given.0 can.under given.1 in
      (given.0.key, ap (key_of trial.roster) (sym given.2) ∙ under.1)
  key_heard who s (inr (inl c)) = (c.unseals.key, c.unseals.known)
  key_heard who s (inr (inr e)) = (e.verifies.0, ap (key_of trial.roster) e.client ∙ e.verifies.1)

  server_heard : (j : ℕ) (s : Statement) → Heard trial (server j) s → j < servers_of trial
  server_heard j s heard = let k = key_heard (server j) s heard in slice_get_within trial.roster.servers j k.0 k.1

  client_heard : (i : ℕ) (s : Statement) → Heard trial (client i) s → i < clients_of trial
  client_heard i s heard = let k = key_heard (client i) s heard in slice_get_within trial.roster.clients i k.0 k.1

  pub server_in : (j : ℕ) (fault : Fault) → ServerHas trial j fault → j < servers_of trial
  server_in j faults.Twice has = server_heard j has.one has.makes_one.0
  server_in j faults.Entry has = server_heard j _ has.heard
  server_in j faults.Commit has = server_heard j _ has.revealed
  server_in j faults.Shown has = server_heard j _ has.shows
  server_in j faults.Sum has = server_heard j _ has.shows
  server_in j faults.Pad has =
      let good = has.good in
      let rebuts = has.rebuts in
      let e = sym good.is ∙ rebuts.is in
      let same : good.server ≡ record { 0 = j } = cc in
      slice_get_within trial.roster.servers j good.unseals.key (ap (λ x. key_of trial.roster (server x)) (sym (ap (λ x. x.0) same)) ∙ good.unseals.known)
  server_in j faults.Output has = has.0
  server_in j faults.Double has = absurd has
  server_in j faults.Rebuttal has = absurd has
  server_in j faults.Conceded has = absurd has

  pub client_in : (i : ℕ) (fault : Fault) → ClientHas trial i fault → i < clients_of trial
  client_in i faults.Twice has = absurd has
  client_in i faults.Entry has = absurd has
  client_in i faults.Commit has = absurd has
  client_in i faults.Shown has = absurd has
  client_in i faults.Sum has = absurd has
  client_in i faults.Pad has = absurd has
  client_in i faults.Output has = absurd has
  client_in i faults.Double has = client_heard i has.one has.submits_one.heard
  client_in i faults.Rebuttal has = client_heard i has.s has.rebuts.heard
  client_in i faults.Conceded has = client_heard i _ has.1

  pub challenged_in : (i : ℕ) → IsChallenged trial i → i < clients_of trial
  challenged_in i ch =
      let l = All-contains (λ l. (l.client.0 < length trial.roster.clients) × (l.server.0 < servers_of trial)) trial.body.listed ch.row can.listed ch.listed in
      subst (λ n. n < clients_of trial) ch.client l.0
