-- A message that says nothing reaches an honest server: a certificate, or a challenge.
use Rattle.std.proofs.Common.{◌≡◌, ◌≢◌, ℕ, ◌≤◌, List, [], ◌∷◌, ◌++◌, length, refl, sym, ap, subst, ◌∙◌, inl, inr, true, false}
use Rattle.std.specs.Prelude.{Contains, ◌⊎◌, Some, slice_get, slice_set}
use Rattle.std.specs.List.{list_any}
use Rattle.dn_wire.specs.declared.ids.ClientId.{ClientId}
use Rattle.dn_wire.specs.declared.ids.ServerId.{ServerId}
use Rattle.dn_wire.specs.declared.ids.Round.{Round}
use Rattle.dn_wire.specs.declared.ids.Member.TheVariants as members
use Rattle.dn_wire.specs.declared.ids.SignerId.TheVariants.{Server}
use Rattle.dn_record_types.specs.declared.body.Body.{Body}
use Rattle.dn_record_types.specs.declared.statement.Statement.{Statement}
use Rattle.dn_cert.specs.Certificate.{CertificateView}
use Rattle.dn_cert.specs.Chain.{ChainView, CanFollow, with_held}
use Rattle.dn_cert.proofs.GrowthLemmas.{held_stays, held_comes, held_only}
use Rattle.dn_cert.proofs.Orders.{here, nothing, first_or_later}
use Rattle.dn_server.specs.Server.{ServerView, ended}
use Rattle.dn_exchange.specs.Disciplined.{Disciplined}
use Rattle.dn_exchange.specs.Settled.{Settled}
use Rattle.dn_exchange.specs.Ending.{with_certificate}
use Rattle.dn_report.specs.declared.event.Event.TheVariants as events
use Rattle.dn_report.specs.declared.outcome.Outcome.{Outcome}
use Rattle.dn_report.specs.declared.outcome.Outcome.TheVariants as outcomes
use Rattle.dn_report.specs.declared.words.SpoilWord.{SpoilWord}
use Rattle.dn_told.specs.declared.told.WindowTold.{WindowTold}
use Rattle.dn_flight.specs.declared.msg.Msg.{Msg}
use Rattle.dn_flight.specs.Flight.{with_id}
use Rattle.dn_state.specs.Parts.{PartsView}
use Rattle.dn_state.specs.Members.{server_at}
use Rattle.dn_state.specs.Calling.{KeepsRules}
use Rattle.dn_headline.specs.Group.{IsHonestServer}
use Rattle.dn_headline.specs.Log.{Step, Log, Message, Put, message_of, is_early_or_none, with_outcomes, with_removal, AreNumbered}
use Rattle.dn_headline.specs.Run.{RunView, log}
use Rattle.dn_headline.specs.Spoken.{Says}
use Rattle.dn_headline.specs.Certified.{IsCertified}
use Rattle.dn_headline.specs.Invariant.{HoldsOneEach}
use Rattle.dn_headline.specs.Step.{ChainFollows}
use Rattle.dn_links.specs.MessageLink.{LogMoves}
use Rattle.dn_links.specs.MessageLink.LogMoves.{by_step}
use Rattle.dn_links.specs.Judging.{OtherStep}
use Rattle.dn_steps.specs.Cores.{facts_in}
use Rattle.dn_steps.specs.Fitting.{FitsLog}
use Rattle.dn_steps.specs.Tied.{IsTied, IsServerTied}
use Rattle.dn_steps.specs.ServerCall.{TellNothingOf, ServerCall}
use Rattle.dn_steps.proofs.Places.{no_more}
use Rattle.dn_steps.proofs.Removing.{with_delivered}
use Rattle.dn_steps.proofs.Members.{server_is_honest, server_core_is}
use Rattle.dn_steps.proofs.Runs.{next_run, log_next, step_cases, run_grows, is_quiet, is_of_put, is_blame, unput_lines, all_taken}
use Rattle.dn_steps.proofs.Quiet.{texts_rest}
use Rattle.dn_steps.proofs.Resting.{none_put}
use Rattle.dn_steps.proofs.Idle.{other_step}
use Rattle.dn_steps.proofs.Taking.{delivering, taken_log, receiver, in_flight, same_deliver}
use Rattle.dn_steps.proofs.OneServer.{SameClients, rests_so, served}

-- lines that tell nothing of servers tell nothing of this one
pub quiet_tell_nothing : (k : ServerId) (lines : List Outcome) → ((o : Outcome) → Contains lines o → is_quiet o ≡ true) → TellNothingOf k lines
quiet_tell_nothing k lines quiet = record {
  opened = λ q p h. let e = quiet _ h in absurd cc;
  closed = λ q count h. let e = quiet _ h in absurd cc;
  told = λ i q t h. let e = quiet _ h in absurd cc;
  spoiled = λ q x reason h. let e = quiet _ h in absurd cc;
  certified = λ q h. let e = quiet _ h in absurd cc;
  held = λ q h. let e = quiet _ h in absurd cc;
}

-- a line that isn't told of a put, nor says that a message was early, nor blames
pub record IsTold (line : Outcome) : Type 0 where
  pub unput : is_of_put line ≡ false
  pub taken : is_early_or_none line ≡ false
  pub blames : is_blame line ≡ false

module _ (w : RunView) (old : PartsView) (id : ℕ) (m : Msg) (tied : IsTied w old) (found : with_id id old.flight.msgs ≡ Some m) (j : ServerId) (to : m.to ≡ members.Server j)
    (c : ServerView) (at_c : server_at old j ≡ Some c)
    (unsaid : (x : ServerId) (t : Statement) → Says w.group.roster (message_of (log w) id).bytes (Server x) t → ⊥) where
  abbrev start : Log
  start = with_delivered (log w) id

  -- the parts with this core of the server's, and the message taken
  pub record HasServer (d : ServerView) (new : PartsView) : Type 0 where
    pub servers : new.servers ≡ slice_set old.servers j.0 (Some d)
    pub rest : SameClients old new
    pub fits : FitsLog w.group start new

  honest : IsHonestServer w.group j
  honest = server_is_honest w old tied j c at_c

  pub tied_core : IsServerTied w j c
  tied_core = subst (IsServerTied w j) (server_core_is old j c at_c) (tied.servers j honest)

  pub one_each : HoldsOneEach c.chain
  one_each = subst (λ (z : ServerView). HoldsOneEach z.chain) (server_core_is old j c at_c) (tied.invariant.held_is_put.servers j honest).one_each

  actor : (message_of (log w) id).to ≡ members.Server j
  actor = receiver w old id m tied found ∙ to

  module _ (lines : List Outcome) (told : (o : Outcome) → Contains lines o → IsTold o) where
    abbrev s : Step
    s = delivering id lines

    abbrev v : RunView
    v = next_run w s w.plains w.sums

    pub removal : with_removal (log w) (events.Deliver id) lines ≡ start
    removal = taken_log (log w) id lines (all_taken lines (λ o h. (told o h).taken))

    pub unput : (with_outcomes true (message_of (log w) id).to start lines ≡ start) × AreNumbered true (message_of (log w) id).to start lines
    unput = unput_lines true (message_of (log w) id).to start lines (λ o h. (told o h).unput)

    pub log_is : log v ≡ start
    log_is = log_next w s w.plains w.sums ∙ ap (λ (l : Log). with_outcomes true (message_of (log w) id).to l lines) removal ∙ unput.0

    pub no_put : (n : ℕ) (p : Put) → length (log w).puts ≤ n → slice_get (log v).puts n ≡ Some p → ⊥
    no_put n p past there = none_put (log w).puts (log v).puts (ap (λ (l : Log). l.puts) log_is) n p past there

    abbrev pub moved : LogMoves (log w) (log v)
    moved = by_step s (record {
      numbered = subst (λ (l : Log). AreNumbered true (message_of (log w) id).to l lines) (sym removal) unput.1;
      delivers = λ n e was. subst (Contains (log w).flight) (same_deliver w old id m tied found n lines e) (in_flight w old id m tied found);
    }) (log_next w s w.plains w.sums)

    -- what is delivered now says nothing
    pub says_nothing : (x : ServerId) (t : Statement) (y : Message) → Says w.group.roster y.bytes (Server x) t
        → (n : ℕ) × (s.event ≡ events.Deliver n) × (list_any is_early_or_none s.outcomes ≡ false) × (message_of (log w) n ≡ y) → ⊥
    says_nothing x t y says now =
        let same : y ≡ message_of (log w) id = sym now.3 ∙ ap (message_of (log w)) (sym (same_deliver w old id m tied found now.0 lines now.1)) in
        unsaid x t (subst (λ (z : Message). Says w.group.roster z.bytes (Server x) t) same says)

    not_others : (k : ServerId) → k.0 ≢ j.0 → members.Server j ≡ members.Server k → ⊥
    not_others k other e = other (number_of e) where
      number_of : members.Server j ≡ members.Server k → k.0 ≡ j.0
      number_of x = cc

    pub called_is_tied : (d : ServerView) (new : PartsView) → HasServer d new → ((k : ServerId) → k.0 ≢ j.0 → TellNothingOf k lines)
        → ServerCall w v (facts_in new) lines moved j [] c d → IsTied v new
    called_is_tied d new has of_others call = served w old new (w.history ++ s ∷ []) w.sums lines tied j [] c d (record {
      here = at_c;
      servers = has.servers;
      rest = has.rest;
      fits = subst (λ (l : Log). FitsLog w.group l new) (sym log_is) has.fits;
      grows = run_grows w s w.plains w.sums (λ y h. h) (λ y h. h);
      moved = moved;
      of_others = of_others;
      by_server = λ n p past there own. absurd (no_put n p past there);
      to_server = λ k y other to_k now.
          let same : message_of (log w) id ≡ y = ap (message_of (log w)) (same_deliver w old id m tied found now.0 lines now.1) ∙ now.3 in
          not_others k other (sym actor ∙ ap (λ (z : Message). z.to) same ∙ to_k);
      call = call;
      texts = λ i h. texts_rest w old old s w.plains w.sums tied i refl;
      sums_of = λ y h. inl h;
      judge = λ x h. elim (step_cases w s x h) [
        | inl before ↦ inl before
        | inr this ↦ inr (inr (subst OtherStep this (other_step (events.Deliver id) lines (λ r k e. absurd cc) (λ o there. (told o there).blames))))
      ];
    })

    -- ---- the core stays as it was

    pub core_rests : (d : ServerView) (new : PartsView) → d ≡ c → HasServer d new → ((k : ServerId) → TellNothingOf k lines) → IsTied v new
    core_rests d new same has none =
        called_is_tied d new has (λ k other. none k) (subst (ServerCall w v (facts_in new) lines moved j [] c) (sym same) (record {
          moves = record { seat = refl; signed = λ t h. inl h; made = λ sum h. inl (refl, h); round = inl (rests_so v j c lines (none j)) };
          disciplined = tied_core.disciplined;
          chains = record { grows = record { slots = refl; held = λ b h. h }; one_each = one_each; certified = λ b h. inl h };
          signed = no_more c.signed;
          of_record = λ t h. absurd (nothing t h);
          put = λ t now. absurd (no_put now.at now.put now.new now.there);
          settled = tied_core.settled;
          ran = λ on. inl (on, refl);
          opened = λ r p line. absurd ((none j).opened r p line);
          spoiled = λ x r reason line. absurd ((none j).spoiled r x reason line);
          prev_held = λ b h. absurd (nothing _ h);
          certificates = λ r line. absurd (elim line [ inl a ↦ (none j).certified r a | inr a ↦ (none j).held r a ]);
          sent = λ k r t hk ne phase h. absurd (nothing t h);
          keeps_on = λ said stays h. h;
          runs_on = λ stays on. on;
          hears = λ x r t y phase carries now runs. absurd (says_nothing x t y carries.says now);
          not_ahead = λ x r t y phase carries now. absurd (says_nothing x t y carries.says now);
          key = refl;
          bent = refl;
          openings = record { evidence = tied_core.openings.evidence; opened = tied_core.openings.opened };
        }))

    -- ---- a certificate is held

    module _ (certificate : CertificateView) (can : CanFollow c.chain certificate.body) (was_put : IsCertified v certificate.body) (rest : List Outcome)
        (lines_are : lines ≡ outcomes.Held (members.Server j) certificate.body.r ∷ rest) (quiet : (o : Outcome) → Contains rest o → is_quiet o ≡ true) where
      abbrev b : Body
      b = certificate.body

      abbrev held_line : Outcome
      held_line = outcomes.Held (members.Server j) b.r

      among : (o : Outcome) → Contains lines o → (held_line ≡ o) ⊎ (is_quiet o ≡ true)
      among o h = elim (first_or_later held_line rest o (subst (λ (os : List Outcome). Contains os o) lines_are h)) [ inl e ↦ inl e | inr behind ↦ inr (quiet o behind) ]

      the_line : Contains lines held_line
      the_line = subst (λ (os : List Outcome). Contains os held_line) (sym lines_are) (here held_line rest)

      none_opened : (k : ServerId) (q p : Round) → ¬ Contains lines (outcomes.Opened k q p)
      none_opened k q p h = elim (among _ h) [ inl e ↦ absurd cc | inr e ↦ absurd cc ]

      none_closed : (k : ServerId) (q : Round) (count : ℕ) → ¬ Contains lines (outcomes.Closed k q count)
      none_closed k q count h = elim (among _ h) [ inl e ↦ absurd cc | inr e ↦ absurd cc ]

      none_told : (k : ServerId) (i : ClientId) (q : Round) (t : WindowTold) → ¬ Contains lines (outcomes.Told i k q t)
      none_told k i q t h = elim (among _ h) [ inl e ↦ absurd cc | inr e ↦ absurd cc ]

      none_spoiled : (k : ServerId) (q : Round) (x : ServerId) (reason : SpoilWord) → ¬ Contains lines (outcomes.Spoiled k q x reason)
      none_spoiled k q x reason h = elim (among _ h) [ inl e ↦ absurd cc | inr e ↦ absurd cc ]

      none_certified : (k : ServerId) (q : Round) → ¬ Contains lines (outcomes.Certified k q)
      none_certified k q h = elim (among _ h) [ inl e ↦ absurd cc | inr e ↦ absurd cc ]

      held_same : (k : ServerId) (q : Round) → held_line ≡ outcomes.Held (members.Server k) q → (k.0 ≡ j.0) × (b.r ≡ q)
      held_same k q e = (cc, cc)

      of_others : (k : ServerId) → k.0 ≢ j.0 → TellNothingOf k lines
      of_others k other = record {
        opened = none_opened k;
        closed = none_closed k;
        told = none_told k;
        spoiled = none_spoiled k;
        certified = none_certified k;
        held = λ q h. elim (among _ h) [ inl e ↦ other (held_same k q e).0 | inr e ↦ absurd cc ];
      }

      grown : ChainView
      grown = record c.chain { held = with_held b c.chain.held }

      grown_one : HoldsOneEach (record c.chain { held = with_held b c.chain.held })
      grown_one x y hx hy eq =
          elim (held_only b c.chain.held x hx) [
            | inl x_new ↦ elim (held_only b c.chain.held y hy) [
              | inl y_new ↦ sym x_new ∙ y_new
              | inr y_old ↦ absurd (can.new (y, y_old, sym eq ∙ ap (λ (z : Body). z.r.0) (sym x_new)))
            ]
            | inr x_old ↦ elim (held_only b c.chain.held y hy) [
              | inl y_new ↦ absurd (can.new (x, x_old, eq ∙ ap (λ (z : Body). z.r.0) (sym y_new)))
              | inr y_old ↦ one_each x y x_old y_old eq
            ]
          ]

      chain_follows : ChainFollows v c.chain (record c.chain { held = with_held b c.chain.held })
      chain_follows = record {
        grows = record { slots = refl; held = λ x h. held_stays b c.chain.held x h };
        one_each = grown_one;
        certified = λ x h. elim (held_only b c.chain.held x h) [ inl e ↦ inr (subst (IsCertified v) e was_put) | inr before ↦ inl before ];
      }

      -- the run goes on
      pub held_so : (d : ServerView) (new : PartsView) → KeepsRules c d → d ≡ with_certificate c certificate → HasServer d new → IsTied v new
      held_so d new rules is has =
          called_is_tied d new has of_others (subst (ServerCall w v (facts_in new) lines moved j [] c) (sym is) (record {
            moves = record {
              seat = refl;
              signed = λ t h. inl h;
              made = λ sum h. inl (refl, h);
              round = inl (record {
                r = refl;
                prev = refl;
                none_opened = none_opened j;
                stays_closed = λ h. h;
                closes = λ q count h. absurd (none_closed j q count h);
                told = λ i q t h. absurd (none_told j i q t h);
                kept = λ said h. inl h;
                claims = λ i claim h. inl h;
                claimed = λ i claim h. h;
                told_claimed = λ i word h. absurd (none_told j i c.run.r _ h);
              });
            };
            disciplined = subst Disciplined is (rules.disciplined (rules.bent ∙ tied_core.straight));
            chains = chain_follows;
            signed = no_more c.signed;
            of_record = λ t h. absurd (nothing t h);
            put = λ t now. absurd (no_put now.at now.put now.new now.there);
            settled = λ on. subst Settled is (rules.settled (rules.bent ∙ tied_core.straight) (ap (λ (z : ServerView). z.run.is_running) is ∙ on));
            ran = λ on. inl (on, refl);
            opened = λ r p line. absurd (none_opened j r p line);
            spoiled = λ x r reason line. absurd (none_spoiled j r x reason line);
            prev_held = λ x h. absurd (nothing _ h);
            certificates = λ r line. elim line [
              | inl a ↦ absurd (none_certified j r a)
              | inr a ↦ elim (among _ a) [ inl e ↦ (b, held_comes b c.chain.held, ap (λ (q : Round). q.0) (held_same j r e).1) | inr e ↦ absurd cc ]
            ];
            sent = λ k r t hk ne phase h. absurd (nothing t h);
            keeps_on = λ said stays h. h;
            runs_on = λ stays on. on;
            hears = λ x r t y phase carries now runs. absurd (says_nothing x t y carries.says now);
            not_ahead = λ x r t y phase carries now. absurd (says_nothing x t y carries.says now);
            key = refl;
            bent = refl;
            openings = record { evidence = tied_core.openings.evidence; opened = tied_core.openings.opened };
          }))

      -- the run of its round ends
      pub ends_so : (d : ServerView) (new : PartsView) → KeepsRules c d → c.run.is_running ≡ true → b.r ≡ c.run.r → d ≡ ended (with_certificate c certificate) → HasServer d new
          → IsTied v new
      ends_so d new rules on round is has =
          called_is_tied d new has of_others (subst (ServerCall w v (facts_in new) lines moved j [] c) (sym is) (record {
            moves = record {
              seat = refl;
              signed = λ t h. inl h;
              made = λ sum h. inl (refl, h);
              round = inl (record {
                r = refl;
                prev = refl;
                none_opened = none_opened j;
                stays_closed = λ h. refl;
                closes = λ q count h. absurd (none_closed j q count h);
                told = λ i q t h. absurd (none_told j i q t h);
                kept = λ said h. inl h;
                claims = λ i claim h. inl h;
                claimed = λ i claim h. h;
                told_claimed = λ i word h. absurd (none_told j i c.run.r _ h);
              });
            };
            disciplined = subst Disciplined is (rules.disciplined (rules.bent ∙ tied_core.straight));
            chains = chain_follows;
            signed = no_more c.signed;
            of_record = λ t h. absurd (nothing t h);
            put = λ t now. absurd (no_put now.at now.put now.new now.there);
            settled = λ running. absurd cc;
            ran = λ was. inr (inr (inl (subst (λ (r : Round). Contains lines (outcomes.Held (members.Server j) r)) round the_line)));
            opened = λ r p line. absurd (none_opened j r p line);
            spoiled = λ x r reason line. absurd (none_spoiled j r x reason line);
            prev_held = λ x h. absurd (nothing _ h);
            certificates = λ r line. elim line [
              | inl a ↦ absurd (none_certified j r a)
              | inr a ↦ elim (among _ a) [ inl e ↦ (b, held_comes b c.chain.held, ap (λ (q : Round). q.0) (held_same j r e).1) | inr e ↦ absurd cc ]
            ];
            sent = λ k r t hk ne phase h. absurd (nothing t h);
            keeps_on = λ said stays h. h;
            runs_on = λ stays running. on;
            hears = λ x r t y phase carries now runs. absurd (says_nothing x t y carries.says now);
            not_ahead = λ x r t y phase carries now. absurd (says_nothing x t y carries.says now);
            key = refl;
            bent = refl;
            openings = record { evidence = tied_core.openings.evidence; opened = tied_core.openings.opened };
          }))
