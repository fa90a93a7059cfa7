-- A server's core is called, and nothing is put.
use Rattle.std.proofs.Common.{◌≡◌, ◌≢◌, ℕ, ◌<◌, ◌≤◌, zero, suc, List, [], ◌∷◌, ◌++◌, length, replicate, refl, sym, ap, subst, ◌∙◌, inl, inr, true, false}
use Rattle.std.specs.Prelude.{Contains, Some, None, slice_get}
use Rattle.dn_wire.specs.declared.ids.ClientId.{ClientId}
use Rattle.dn_wire.specs.declared.ids.ServerId.{ServerId}
use Rattle.dn_wire.specs.declared.ids.Round.{Round}
use Rattle.dn_wire.specs.declared.ids.Member.TheVariants as members
use Rattle.dn_cert.proofs.Orders.{here, nothing}
use Rattle.dn_audit.specs.Auditor.{AuditorView}
use Rattle.dn_server.specs.declared.claims.Claim.{Claim}
use Rattle.dn_server.specs.Server.{ServerView, ended}
use Rattle.dn_exchange.specs.Disciplined.{Disciplined}
use Rattle.dn_exchange.specs.Settled.{Settled}
use Rattle.dn_exchange.specs.Opening.{fresh_run}
use Rattle.dn_report.specs.declared.event.Event.{Event}
use Rattle.dn_report.specs.declared.outcome.Outcome.{Outcome}
use Rattle.dn_report.specs.declared.outcome.Outcome.TheVariants as outcomes
use Rattle.dn_state.specs.Parts.{PartsView}
use Rattle.dn_state.specs.Members.{server_at, with_server}
use Rattle.dn_state.specs.Calling.{KeepsRules}
use Rattle.dn_headline.specs.Group.{IsHonestClient, IsHonestServer}
use Rattle.dn_headline.specs.Log.{Step, Log, Put, actor_of, is_own, with_outcomes, AreNumbered}
use Rattle.dn_headline.specs.Run.{RunView, log}
use Rattle.dn_headline.specs.Plains.{text_in}
use Rattle.dn_headline.specs.Invariant.{HoldsOneEach}
use Rattle.dn_headline.specs.Step.{ChainFollows}
use Rattle.dn_links.specs.MessageLink.{LogMoves}
use Rattle.dn_links.specs.MessageLink.LogMoves.{by_step}
use Rattle.dn_links.specs.Judging.{OtherStep}
use Rattle.dn_steps.specs.Cores.{facts_in}
use Rattle.dn_steps.specs.Fitting.{FitsLog}
use Rattle.dn_steps.specs.Tied.{IsTied, IsServerTied}
use Rattle.dn_steps.specs.ServerCall.{TellNothingOf, ServerCall}
use Rattle.dn_steps.proofs.Places.{no_more, only}
use Rattle.dn_steps.proofs.Members.{server_is_honest, server_core_is}
use Rattle.dn_steps.proofs.Runs.{next_run, log_next, step_cases, run_grows, is_of_put, is_blame, unput_lines}
use Rattle.dn_steps.proofs.Resting.{none_put}
use Rattle.dn_steps.proofs.Quiet.{texts_rest}
use Rattle.dn_steps.proofs.Idle.{IsCalm, clash, other_step}
use Rattle.dn_steps.proofs.OneServer.{rests_so, served}

-- the parts with the server's core, and with what the audit knows
abbrev pub with_core : PartsView → ServerId → ServerView → AuditorView → PartsView
with_core parts j d auditor = record (with_server parts j d) { auditor = auditor }

module _ (w : RunView) (old : PartsView) (e : Event) (lines : List Outcome) (tied : IsTied w old) (calm : IsCalm e)
    (untexted : (i : ClientId) → IsHonestClient w.group i → text_in i e ≡ []) (unput : (o : Outcome) → Contains lines o → is_of_put o ≡ false)
    (blames : (o : Outcome) → Contains lines o → is_blame o ≡ false) (j : ServerId) (c : ServerView) (at_c : server_at old j ≡ Some c) where
  abbrev s : Step
  s = record { event = e; outcomes = lines }

  abbrev v : RunView
  v = next_run w s w.plains w.sums

  honest : IsHonestServer w.group j
  honest = server_is_honest w old tied j c at_c

  -- the core before the call
  pub tied_core : IsServerTied w j c
  tied_core = subst (IsServerTied w j) (server_core_is old j c at_c) (tied.servers j honest)

  pub one_each : HoldsOneEach c.chain
  one_each = subst (λ (z : ServerView). HoldsOneEach z.chain) (server_core_is old j c at_c) (tied.invariant.held_is_put.servers j honest).one_each

  pub chain_rests : ChainFollows v c.chain c.chain
  chain_rests = record { grows = record { slots = refl; held = λ b h. h }; one_each = one_each; certified = λ b h. inl h }

  pub nothing_put : (with_outcomes (is_own e) (actor_of (log w) e) (log w) lines ≡ log w) × AreNumbered (is_own e) (actor_of (log w) e) (log w) lines
  nothing_put = unput_lines (is_own e) (actor_of (log w) e) (log w) lines unput

  at : log v ≡ log w
  at =
      log_next w s w.plains w.sums ∙ ap (λ (l : Log). with_outcomes (is_own e) (actor_of (log w) e) l lines) (calm.removes (log w) lines)
      ∙ nothing_put.0

  pub no_put : (n : ℕ) (p : Put) → length (log w).puts ≤ n → slice_get (log v).puts n ≡ Some p → ⊥
  no_put n p past there = none_put (log w).puts (log v).puts (ap (λ (l : Log). l.puts) at) n p past there

  abbrev pub moved : LogMoves (log w) (log v)
  moved = by_step s (record {
    numbered = subst (λ (l : Log). AreNumbered (is_own e) (actor_of (log w) e) l lines) (sym (calm.removes (log w) lines)) nothing_put.1;
    delivers = λ id is taken. absurd (calm.delivers id is);
  }) (log_next w s w.plains w.sums)

  -- the call keeps the tie
  pub called_is_tied : (d : ServerView) (auditor : AuditorView) → ((k : ServerId) → k.0 ≢ j.0 → TellNothingOf k lines)
      → ServerCall w v (facts_in (with_core old j d auditor)) lines moved j [] c d → IsTied v (with_core old j d auditor)
  called_is_tied d auditor of_others call = served w old (with_core old j d auditor) (w.history ++ s ∷ []) w.sums lines tied j [] c d (record {
    here = at_c;
    servers = refl;
    rest = record { roster = refl; opens = refl; group = refl; clients = refl; left = refl };
    fits = subst (λ (l : Log). FitsLog w.group l (with_core old j d auditor)) (sym at)
        (record { payloads = tied.fits.payloads; flight = tied.fits.flight; chain = tied.fits.chain; heard = tied.fits.heard });
    grows = run_grows w s w.plains w.sums (λ m h. h) (λ m h. h);
    moved = moved;
    of_others = of_others;
    by_server = λ n p past there own. absurd (no_put n p past there);
    to_server = λ k m other to now. calm.delivers now.0 now.1;
    call = call;
    texts = λ i h. texts_rest w old old s w.plains w.sums tied i (untexted i h);
    sums_of = λ m h. inl h;
    judge = λ x h. elim (step_cases w s x h) [
      | inl before ↦ inl before
      | inr this ↦ inr (inr (subst OtherStep this (other_step e lines calm.judges blames)))
    ];
  })

  -- ---- the core stays as it was

  pub core_rests : (d : ServerView) (auditor : AuditorView) → d ≡ c → ((k : ServerId) → TellNothingOf k lines) → IsTied v (with_core old j d auditor)
  core_rests d auditor same none =
      called_is_tied d auditor (λ k other. none k)
      (subst (ServerCall w v (facts_in (with_core old j d auditor)) lines moved j [] c) (sym same) (record {
        moves = record { seat = refl; signed = λ t h. inl h; made = λ sum h. inl (refl, h); round = inl (rests_so v j c lines (none j)) };
        disciplined = tied_core.disciplined;
        chains = chain_rests;
        signed = no_more c.signed;
        of_record = λ t h. absurd (nothing t h);
        put = λ t now. absurd (no_put now.at now.put now.new now.there);
        settled = tied_core.settled;
        ran = λ on. inl (on, refl);
        opened = λ r p line. absurd ((none j).opened r p line);
        spoiled = λ x r reason line. absurd ((none j).spoiled r x reason line);
        prev_held = λ b h. absurd (nothing _ h);
        certificates = λ r line. absurd (elim line [ inl a ↦ (none j).certified r a | inr a ↦ (none j).held r a ]);
        sent = λ k r t hk ne phase h. absurd (nothing t h);
        keeps_on = λ said stays h. h;
        runs_on = λ stays on. on;
        hears = λ x r t m phase carries now runs. absurd (calm.delivers now.0 now.1);
        not_ahead = λ x r t m phase carries now. absurd (calm.delivers now.0 now.1);
        key = refl;
        bent = refl;
        openings = record { evidence = tied_core.openings.evidence; opened = tied_core.openings.opened };
      }))

  -- ---- the round is given up

  pub abandons_so : (d : ServerView) (auditor : AuditorView) → KeepsRules c d → c.run.is_running ≡ true → d ≡ ended c → lines ≡ outcomes.Abandoned j d.run.r ∷ []
      → IsTied v (with_core old j d auditor)
  abandons_so d auditor rules on is told =
      let line_is : (o : Outcome) → Contains lines o → outcomes.Abandoned j d.run.r ≡ o = λ o h. only _ o (subst (λ (os : List Outcome). Contains os o) told h) in
      let none : (k : ServerId) → TellNothingOf k lines = λ k. record {
        opened = λ q p h. let x = line_is _ h in absurd cc;
        closed = λ q count h. let x = line_is _ h in absurd cc;
        told = λ i q t h. let x = line_is _ h in absurd cc;
        spoiled = λ q y reason h. let x = line_is _ h in absurd cc;
        certified = λ q h. let x = line_is _ h in absurd cc;
        held = λ q h. let x = line_is _ h in absurd cc;
      } in
      let rests = rests_so v j c lines (none j) in
      called_is_tied d auditor (λ k other. none k)
      (subst (ServerCall w v (facts_in (with_core old j d auditor)) lines moved j [] c) (sym is) (record {
        moves = record {
          seat = refl;
          signed = λ t h. inl h;
          made = λ sum h. inl (refl, h);
          round = inl (record {
            r = refl;
            prev = refl;
            none_opened = rests.none_opened;
            stays_closed = λ h. refl;
            closes = λ q count h. absurd ((none j).closed q count h);
            told = rests.told;
            kept = λ said h. inl h;
            claims = λ i claim h. inl h;
            claimed = λ i claim h. h;
            told_claimed = λ i word h. absurd ((none j).told i c.run.r _ h);
          });
        };
        disciplined = subst Disciplined is (rules.disciplined (rules.bent ∙ tied_core.straight));
        chains = chain_rests;
        signed = no_more c.signed;
        of_record = λ t h. absurd (nothing t h);
        put = λ t now. absurd (no_put now.at now.put now.new now.there);
        settled = λ running. absurd cc;
        ran = λ was. inr (inr (inr (inl (subst (λ (os : List Outcome). Contains os (outcomes.Abandoned j c.run.r)) (sym told)
            (subst (λ (r : Round). Contains (outcomes.Abandoned j r ∷ []) (outcomes.Abandoned j c.run.r)) (sym (ap (λ (z : ServerView). z.run.r) is)) (here (outcomes.Abandoned j c.run.r) []))))));
        opened = λ r p line. absurd ((none j).opened r p line);
        spoiled = λ x r reason line. absurd ((none j).spoiled r x reason line);
        prev_held = λ b h. absurd (nothing _ h);
        certificates = λ r line. absurd (elim line [ inl a ↦ (none j).certified r a | inr a ↦ (none j).held r a ]);
        sent = λ k r t hk ne phase h. absurd (nothing t h);
        keeps_on = λ said stays h. h;
        runs_on = λ stays running. on;
        hears = λ x r t m phase carries now runs. absurd (calm.delivers now.0 now.1);
        not_ahead = λ x r t m phase carries now. absurd (calm.delivers now.0 now.1);
        key = refl;
        bent = refl;
        openings = record { evidence = tied_core.openings.evidence; opened = tied_core.openings.opened };
      }))

  -- ---- a round is opened

  no_claim : (n k : ℕ) (claim : Claim) → slice_get (replicate n None) k ≢ Some (Some claim)
  no_claim zero k claim h = absurd cc
  no_claim (suc n) zero claim h = absurd cc
  no_claim (suc n) (suc k) claim h = no_claim n k claim h

  pub opens_so : (d : ServerView) (auditor : AuditorView) (r prev : Round) (clients expected bits : ℕ) → KeepsRules c d → c.run.is_running ≡ false → c.run.r.0 < r.0
      → d ≡ record c { aside = 4; run = fresh_run clients expected r prev bits } → lines ≡ outcomes.Opened j r prev ∷ [] → IsTied v (with_core old j d auditor)
  opens_so d auditor r prev clients expected bits rules off above is told =
      let line_is : (o : Outcome) → Contains lines o → outcomes.Opened j r prev ≡ o = λ o h. only _ o (subst (λ (os : List Outcome). Contains os o) told h) in
      let the_line : Contains lines (outcomes.Opened j r prev) = subst (λ (os : List Outcome). Contains os (outcomes.Opened j r prev)) (sym told) (here (outcomes.Opened j r prev) []) in
      let next : ServerView = record c { aside = 4; run = fresh_run clients expected r prev bits } in
      let others : (k : ServerId) → k.0 ≢ j.0 → TellNothingOf k lines = λ k other. record {
        opened = λ q p h. other (opened_by k j q p r prev (line_is _ h));
        closed = λ q count h. let x = line_is _ h in absurd cc;
        told = λ i q t h. let x = line_is _ h in absurd cc;
        spoiled = λ q y reason h. let x = line_is _ h in absurd cc;
        certified = λ q h. let x = line_is _ h in absurd cc;
        held = λ q h. let x = line_is _ h in absurd cc;
      } in
      called_is_tied d auditor others
      (subst (ServerCall w v (facts_in (with_core old j d auditor)) lines moved j [] c) (sym is) (record {
        moves = record {
          seat = refl;
          signed = λ t h. inl h;
          made = λ sum h. absurd cc;
          round = inr (record {
            above = above;
            line = the_line;
            only = λ q p h. opened_same j q p r prev (line_is _ h);
            none_told = λ i q t h. let x = line_is _ h in absurd cc;
            none_closed = λ q count h. let x = line_is _ h in absurd cc;
            none_kept = refl;
            none_claimed = λ i claim h. no_claim clients i.0 claim h;
          });
        };
        disciplined = subst Disciplined is (rules.disciplined (rules.bent ∙ tied_core.straight));
        chains = chain_rests;
        signed = no_more c.signed;
        of_record = λ t h. absurd (nothing t h);
        put = λ t now. absurd (no_put now.at now.put now.new now.there);
        settled = λ on. subst Settled is (rules.settled (rules.bent ∙ tied_core.straight) (ap (λ (z : ServerView). z.run.is_running) is));
        ran = λ on. absurd (clash c.run.is_running on off);
        opened = λ q p h. inl (refl, sym (opened_same j q p r prev (line_is _ h)).0);
        spoiled = λ x q reason h. let y = line_is _ h in absurd cc;
        prev_held = λ b h. absurd (nothing _ h);
        certificates = λ q line. absurd (elim line [ inl a ↦ not_certified q (line_is _ a) | inr a ↦ not_held q (line_is _ a) ]);
        sent = λ k q t hk ne phase h. absurd (nothing t h);
        keeps_on = λ said stays h. absurd (stays.none_opened r prev the_line);
        runs_on = λ stays running. absurd (stays.none_opened r prev the_line);
        hears = λ x q t m phase carries now runs. absurd (calm.delivers now.0 now.1);
        not_ahead = λ x q t m phase carries now. absurd (calm.delivers now.0 now.1);
        key = refl;
        bent = refl;
        openings = record { evidence = tied_core.openings.evidence; opened = tied_core.openings.opened };
      }))
    where
      opened_by : (k n : ServerId) (q p a b : Round) → outcomes.Opened n a b ≡ outcomes.Opened k q p → k.0 ≡ n.0
      opened_by k n q p a b x = cc

      opened_same : (n : ServerId) (q p a b : Round) → outcomes.Opened n a b ≡ outcomes.Opened n q p → (q ≡ a) × (p ≡ b)
      opened_same n q p a b x = (cc, cc)

      not_certified : (q : Round) → outcomes.Opened j r prev ≡ outcomes.Certified j q → ⊥
      not_certified q x = absurd cc

      not_held : (q : Round) → outcomes.Opened j r prev ≡ outcomes.Held (members.Server j) q → ⊥
      not_held q x = absurd cc
