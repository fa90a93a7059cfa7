-- A server's core is called, its round stays, and its acts are carried out: the call keeps the tie.
use Rattle.std.proofs.Common.{◌≡◌, ◌≢◌, ℕ, ◌≤◌, ◌<◌, List, [], ◌∷◌, ◌++◌, length, refl, sym, ap, subst, ◌∙◌, inl, inr, true, arith}
use Rattle.std.specs.Prelude.{Bool, Contains, ◌⊎◌, Option, Some, slice_get, slice_set}
use Rattle.std.proofs.lemmas.List.Elements.{Contains-append_left, Contains-append_right, Contains-append_cases}
use Rattle.dn_wire.specs.declared.ids.ClientId.{ClientId}
use Rattle.dn_wire.specs.declared.ids.ServerId.{ServerId}
use Rattle.dn_wire.specs.declared.ids.Round.{Round}
use Rattle.dn_wire.specs.declared.ids.Member.{Member}
use Rattle.dn_wire.specs.declared.ids.Member.TheVariants as members
use Rattle.dn_wire.specs.declared.ids.SignerId.{SignerId}
use Rattle.dn_wire.specs.declared.ids.SignerId.TheVariants.{Client, Server}
use Rattle.dn_record_types.specs.declared.body.Body.{Body}
use Rattle.dn_record_types.specs.declared.statement.Statement.{Statement}
use Rattle.dn_record_types.specs.declared.statement.Statement.TheVariants as kinds
use Rattle.dn_seal.specs.Said.{SaidView}
use Rattle.dn_cert.specs.Certificate.{CertificateView}
use Rattle.dn_cert.specs.Chain.{ChainView, IsLayoutAfter, Holds, bodies}
use Rattle.dn_server.specs.declared.act.Act.{Act}
use Rattle.dn_server.specs.declared.act.Act.TheVariants as acts
use Rattle.dn_server.specs.declared.run.Sum.{Sum}
use Rattle.dn_server.specs.Justified.{Justified, Seat}
use Rattle.dn_server.specs.Server.{ServerView, WasIncluded as WasClaimed}
use Rattle.dn_exchange.specs.Disciplined.{Disciplined, IsSaidBy}
use Rattle.dn_exchange.specs.Settled.{Settled}
use Rattle.dn_exchange.specs.Spoiling.{IsDueBody}
use Rattle.dn_report.specs.declared.outcome.Outcome.{Outcome}
use Rattle.dn_report.specs.declared.outcome.Outcome.TheVariants as outcomes
use Rattle.dn_report.specs.declared.words.SpoilWord.{SpoilWord}
use Rattle.dn_state.specs.Parts.{PartsView}
use Rattle.dn_state.specs.Calling.{KeepsRules}
use Rattle.dn_headline.specs.Group.{GroupView, IsHonestServer, IsHonestClient, IsKeyOf}
use Rattle.dn_headline.specs.Plains.{texts_of}
use Rattle.dn_links.specs.Judging.{JudgeCalled}
use Rattle.dn_steps.specs.Fitting.{FitsLog}
use Rattle.dn_steps.proofs.OneServer.{SameClients, served}
use Rattle.dn_headline.specs.Log.{Step, Log, Message, Put, message_of, with_outcomes}
use Rattle.dn_headline.specs.Run.{RunView, SumMade, log, Happened}
use Rattle.dn_headline.specs.Spoken.{Says, WasSaid, WasSubmitted, HadSigned, IsInFront}
use Rattle.dn_headline.specs.Certified.{IsCertified}
use Rattle.dn_headline.specs.Submissions.{WasTold}
use Rattle.dn_headline.specs.Delivered.{IsPhaseOf}
use Rattle.dn_headline.specs.Invariant.{Facts, ServerFacts, Kept, IsJustified, WasIncluded, SpoilCause, Carries, HasFate, Keeps, Runs, HoldsOneEach, seat_of, word_of}
use Rattle.dn_headline.specs.Invariant.SpoilCause.{by_twice, by_prev, by_entry, by_length, by_commit, by_forgery, by_body}
use Rattle.dn_headline.specs.Step.{Grows, ChainFollows, IsNewlySigned}
use Rattle.dn_headline.proofs.Growing.{said_stays, submitted_stays, had_cases}
use Rattle.dn_headline.proofs.Justifying.{justified_grows}
use Rattle.dn_links.specs.Link.{facts_of, IsLinked, Moves, StaysInRound, RunsOrEnds}
use Rattle.dn_links.specs.MessageLink.{LogMoves, DeliversNow}
use Rattle.dn_links.proofs.Moving.{still_linked}
use Rattle.dn_steps.specs.Tied.{IsTied, IsServerTied}
use Rattle.dn_steps.specs.ServerCall.{ServerCall}
use Rattle.dn_seal.specs.Dealt.{server}
use Rattle.dn_hash.specs.Digests.{server_digest_of}
use Rattle.dn_bits.specs.Bits.{bytes_of}
use Rattle.dn_record_types.specs.declared.statement.WordTold.{WordTold}
use Rattle.dn_cert.proofs.ListLemmas.{Contains-map}
use Rattle.dn_state.specs.Members.{server_at}
use Rattle.dn_state.specs.Words.{spoil_word_of}
use Rattle.dn_steps.specs.Cores.{server_of, facts_in}
use Rattle.dn_steps.proofs.Members.{server_is_honest, server_core_is, server_within, core_set_same}
use Rattle.std.proofs.lemmas.Option.{slice_get_within}
use Rattle.dn_steps.proofs.Places.{place_from_behind, place_of_one, place_stays}
use Rattle.dn_steps.proofs.Sending.{put_of, message_from}
use Rattle.dn_steps.proofs.Acting.{ActsSo}
use Rattle.dn_steps.proofs.ActLines.{opened_line, closed_line, told_line, spoiled_line, certified_line, held_line, of_others}
use Rattle.dn_steps.proofs.InRound.{ActsInRound, Spoils, IsPosted, PostsIt}
use Rattle.dn_steps.proofs.InRound.Spoils.{two_said, prev_said, entry_said, sum_said, commit_said, forged, body_said}

-- ---- what a core knows was said in the run

said_in_run : (w : RunView) (j : ServerId) (c : ServerView) → IsLinked w j c → (who : SignerId) (s : Statement) → IsSaidBy c who s → WasSaid w who s
said_in_run w j c link who s h =
    elim h [
      | inl own ↦
          let number : c.seat.number ≡ j.0 = ap (λ (z : Seat). z.number) link.seat in
          subst (λ (z : SignerId). WasSaid w z s) (sym own.0) (subst (λ (n : ℕ). WasSaid w (server n) s) (sym number) (link.signed s own.1))
      | inr other ↦
          let k = other.1 in
          subst (λ (z : SignerId). WasSaid w z s) k.2 (subst (λ (z : Statement). WasSaid w k.0.signer z) k.3 (link.kept k.0 k.1))
    ]

included_in_run : (w : RunView) (j : ServerId) (c : ServerView) → IsLinked w j c → (s : Statement) (cipher : List Bool) → WasClaimed c.run s cipher → WasIncluded w j s cipher
included_in_run w j c link s cipher h =
    let told = link.claims h.client h.claim h.claimed in
    subst (λ (z : Statement). WasIncluded w j z cipher) (sym h.is) (
      subst (λ (t : WordTold). WasTold w j h.client c.run.r (word_of t)) h.told told.0,
      subst (λ (z : List Bool). WasSubmitted w (Client h.client) (kinds.Submission c.run.r c.run.prev h.client h.claim.digest) z) (sym h.cipher) told.1,
    )

module _ (w : RunView) (old : PartsView) (tied : IsTied w old) (j : ServerId) (c : ServerView) (at_c : server_at old j ≡ Some c) (d : ServerView) (history : List Step)
    (sums : List SumMade) (did : List Act) (fresh : List Statement) (start : Log) (mid new : PartsView) (lines : List Outcome)
    (so : ActsSo w.group j d.run.r did start mid new lines) (call : ActsInRound w j c did d fresh) where
  abbrev v : RunView
  v = record { group = w.group; history = history; plains = w.plains; sums = sums }

  honest : IsHonestServer w.group j
  honest = server_is_honest w old tied j c at_c

  core_is : server_of old j ≡ c
  core_is = server_core_is old j c at_c

  tied_core : IsServerTied w j c
  tied_core = subst (IsServerTied w j) core_is (tied.servers j honest)

  one_each : HoldsOneEach c.chain
  one_each = subst (λ (z : ServerView). HoldsOneEach z.chain) core_is (tied.invariant.held_is_put.servers j honest).one_each

  module _ (puts : start.puts ≡ (log w).puts) (at : log v ≡ with_outcomes true (members.Server j) start lines) (grows : Grows w v lines)
      (made : (sum : Sum) → d.run.sum ≡ Some sum → Contains sums (record { server = j; r = d.run.r; sum = sum.s })) (rules : KeepsRules c d) where
    disciplined : Disciplined d
    disciplined = rules.disciplined (rules.bent ∙ tied_core.straight)

    -- ---- what is put

    newly_put : (n : ℕ) (p : Put) → length (log w).puts ≤ n → slice_get (log v).puts n ≡ Some p
        → (to : List Member) × (bytes : List ℕ) × Contains did (acts.Post to bytes) × (put_of true (members.Server j) bytes ≡ p)
    newly_put n p past there =
        let placed : slice_get ((log w).puts ++ so.more) n ≡ Some p =
        subst (λ (ps : List Put). slice_get ps n ≡ Some p) (ap (λ (l : Log). l.puts) at ∙ so.puts ∙ ap (λ (ps : List Put). ps ++ so.more) puts) there in
        so.each p (place_from_behind (log w).puts so.more n p past placed)

    pub put_by_server : (n : ℕ) (p : Put) → length (log w).puts ≤ n → slice_get (log v).puts n ≡ Some p → p.own ≡ true → p.by ≡ members.Server j
    put_by_server n p past there own = sym (ap (λ (q : Put). q.by) (newly_put n p past there).3)

    -- what stands in front of it is a statement of the server's, which it signed
    pub new_front : (n : ℕ) (p : Put) → length (log w).puts ≤ n → slice_get (log v).puts n ≡ Some p → (who : SignerId) (t : Statement)
        → IsInFront w.group.roster p.bytes who t → (who ≡ Server j) × Contains d.signed t
    new_front n p past there who t front =
        let post = newly_put n p past there in
        call.fronts post.0 post.1 post.2 who t (subst (λ (q : Put). IsInFront w.group.roster q.bytes who t) (sym post.3) front)

    -- what stands in front of what is put in the call is by the key of the member that puts it
    pub own_fronts : (p : Put) → Contains (log v).puts p → Contains (log w).puts p
        ⊎ ((who : SignerId) (t : Statement) → IsInFront w.group.roster p.bytes who t → IsKeyOf w.group who p.by)
    own_fronts p h =
        elim (Contains-append_cases (log w).puts so.more p (subst (λ (ps : List Put). Contains ps p) (ap (λ (l : Log). l.puts) at ∙ so.puts ∙ ap (λ (ps : List Put). ps ++ so.more) puts) h)) [
          | inl old ↦ inl old
          | inr new ↦ inr (λ who t front.
              let post = so.each p new in
              let is = call.fronts post.0 post.1 post.2 who t (subst (λ (q : Put). IsInFront w.group.roster q.bytes who t) (sym post.3) front) in
              subst (λ (z : SignerId). IsKeyOf w.group z p.by) (sym is.0) (ap (λ (q : Put). q.by) post.3))
        ]

    newly_signed : (t : Statement) → IsNewlySigned w v (Server j) t → Contains d.signed t
    newly_signed t now = (new_front now.at now.put now.new now.there (Server j) t now.front).1

    posted_put : (to : List Member) (bytes : List ℕ) → Contains did (acts.Post to bytes) → (p : Put) × Contains (log v).puts p × (p.bytes ≡ bytes)
    posted_put to bytes h = let p = so.put to bytes h in (p.0, subst (λ (l : Log). Contains l.puts p.0) (sym at) p.1, p.2)

    fresh_said : (t : Statement) → Contains fresh t → WasSaid v (Server j) t
    fresh_said t h =
        let it = call.posted t h in
        let p = posted_put it.to it.bytes it.posted in
        record { put = p.0; there = p.1; says = subst (λ (b : List ℕ). Says w.group.roster b (Server j) t) (sym p.2) it.says }

    fresh_sent : (k : ServerId) (r : Round) (t : Statement) → IsHonestServer v.group k → j.0 ≢ k.0 → IsPhaseOf r t → Contains fresh t
        → (m : Message) × Carries v j k t m × HasFate v m
    fresh_sent k r t hk ne phase h =
        let it = call.posted t h in
        let m = message_from true (members.Server j) it.bytes (members.Server k) in (
          m,
          record { from = refl; to = refl; own = refl; says = it.says },
          elim (so.fates it.to it.bytes (members.Server k) it.posted (it.others r k phase hk.server ne)) [
            | inl lost ↦ inr (inl (subst (λ (l : Log). Contains l.lost m) (sym at) lost))
            | inr flies ↦ inr (inr (
              flies.0,
              subst (λ (l : Log). Contains l.flight flies.0) (sym at) flies.1,
              ap (λ (l : Log). message_of l flies.0) at ∙ flies.2,
            ))
          ],
        )

    certificate_put : (e : CertificateView) → IsPosted w.group.roster did e → IsCertified v e.body
    certificate_put e is =
        let p = posted_put is.to e.bytes is.posted in
        record { put = p.0; there = p.1; certificate = e; is = record { certificate = is.certificate; under = is.under; spelled = sym p.2 }; body = refl }

    -- ---- how the core moves

    said_then : (who : SignerId) (s : Statement) → WasSaid w who s → WasSaid v who s
    said_then who s h = said_stays w history w.plains sums lines grows who s h

    stays : StaysInRound v j c d lines
    stays = record {
      r = call.r;
      prev = call.prev;
      none_opened = λ q p h. call.none_opened q p (opened_line w.group j d.run.r did start mid new lines so j q p h).1;
      stays_closed = call.stays_closed;
      closes = λ q count h. call.closes q count (closed_line w.group j d.run.r did start mid new lines so j q count h).1;
      told = λ i q t h. call.told i q t (told_line w.group j d.run.r did start mid new lines so j i q t h).1;
      kept = λ said h. elim (call.kept said h) [
        | inl old ↦ inl old
        | inr now ↦ inr (
          elim now.1 [
            | inl own ↦ subst (λ (who : SignerId). WasSaid v who said.statement) (sym own.1) (fresh_said said.statement own.0)
            | inr was ↦ said_then said.signer said.statement was
          ],
          now.0,
        )
      ];
      claims = λ i claim h. elim (call.claims i claim h) [
        | inl old ↦ inl old
        | inr now ↦ inr (
          so.told (acts.Told i c.run.r (word_of claim.told)) (outcomes.Told i j c.run.r (word_of claim.told)) now.0 refl,
          submitted_stays w history w.plains sums lines grows (Client i) (kinds.Submission c.run.r c.run.prev i claim.digest) claim.cipher now.1,
        )
      ];
      claimed = call.claimed;
      told_claimed = λ i word h. call.told_claimed i word (told_line w.group j d.run.r did start mid new lines so j i c.run.r (word_of word) h).1;
    }

    moves : Moves v j c d lines
    moves = record {
      seat = call.seat;
      signed = λ s h. elim (Contains-append_cases c.signed fresh s (subst (λ (ss : List Statement). Contains ss s) call.signed h)) [ inl old ↦ inl old | inr now ↦ inr (fresh_said s now) ];
      made = λ sum h. inr (made sum h);
      round = inl stays;
    }

    linked : IsLinked v j d
    linked = still_linked w history w.plains sums lines grows j c d tied_core.linked moves

    chains : ChainFollows v c.chain d.chain
    chains = record {
      grows = call.grows;
      one_each = call.one_each one_each;
      certified = λ b h. elim (call.new_held b h) [ inl old ↦ inl old | inr new ↦ inr (subst (IsCertified v) new.2 (certificate_put new.0 new.1)) ];
    }

    -- ---- why the round is spoiled

    module _ (g : Facts) (facts : g.server j ≡ facts_of d) where
      due_is_justified : (b : Body) → Justified (IsSaidBy d) (WasClaimed d.run) d.seat d.chain b → IsJustified v g j b
      due_is_justified b just =
          let chain : d.chain ≡ (g.server j).chain = ap (λ (z : ServerFacts). z.chain) (sym facts) in
          subst (λ (z : ChainView). Justified (WasSaid v) (WasIncluded v j) (seat_of v.group j) z b) chain
          (subst (λ (z : Seat). Justified (WasSaid v) (WasIncluded v j) z d.chain b) linked.seat
          (justified_grows (IsSaidBy d) (WasSaid v) (WasClaimed d.run) (WasIncluded v j) (said_in_run v j d linked) (included_in_run v j d linked) d.seat d.chain d.chain b
          (record { layouts = λ r l h. h; counts = λ r l h. refl }) just))

      opened_so : 1 ≤ c.run.r.0 → Happened v (outcomes.Opened j d.run.r c.run.prev)
      opened_so some =
          subst (λ (p : Round). Happened v (outcomes.Opened j d.run.r p)) call.prev (linked.opened (subst (λ (q : Round). 1 ≤ q.0) (sym call.r) some))

      in_round : (make : Round → Statement) (x : ServerId) → WasSaid w (Server x) (make c.run.r) → WasSaid v (Server x) (make d.run.r)
      in_round make x said = subst (λ (q : Round). WasSaid v (Server x) (make q)) (sym call.r) (said_then (Server x) (make c.run.r) said)

      put_stays_at : (n : ℕ) (p : Put) → slice_get (log w).puts n ≡ Some p → slice_get (log v).puts n ≡ Some p
      put_stays_at n p there = subst (λ (ps : List Put). slice_get ps n ≡ Some p) (sym grows.puts) (place_stays (log w).puts grows.more n p there)

      -- the server had not signed by then what it had not signed before the call
      not_had : (n : ℕ) (s : Statement) → n < length (log w).puts → ¬ Contains c.signed s → HadSigned v n (Server j) s → ⊥
      not_had n s within unsigned had =
          elim (had_cases w history w.plains sums lines grows n (Server j) s had) [
            | inl before ↦ unsigned (subst (λ (z : ServerView). Contains z.signed s) core_is (tied.invariant.put_is_signed.servers j s honest (record { n = n; had = before })))
            | inr now ↦ let past = now.1 in absurd (omega arith)
          ]

      cause : (x : ServerId) → Spoils w j c d x → SpoilCause v g j d.run.r x
      cause x (two_said place s t said other ps pt differ) = by_twice place s t (said_then (Server x) s said) (said_then (Server x) t other) ps pt differ
      cause x (prev_said n some said round differ) =
          by_prev n c.run.prev (said_then (Server x) (kinds.Inventory n) said) (round ∙ sym call.r) (opened_so some) differ
      cause x (entry_said n said false_one) = by_entry n (said_then (Server x) (kinds.Inventory n) said) false_one
      cause x (sum_said sum some said differ) =
          let course = disciplined.course (subst (λ (q : Round). 1 ≤ q.0) (sym call.r) some) in
          by_length sum c.run.prev course.0 (in_round (λ q. kinds.Reveal q sum) x said) (opened_so some)
          (subst (λ (z : ServerFacts). IsLayoutAfter z.chain c.run.prev.0 course.0) (sym facts) (subst (λ (p : Round). IsLayoutAfter d.chain p.0 course.0) call.prev course.1))
          (λ e. differ (e ∙ sym course.2))
      cause x (commit_said sum digest said committed differ) =
          by_commit sum digest (in_round (λ q. kinds.Reveal q sum) x said) (in_round (λ q. kinds.Commit q digest) x committed)
          (subst (λ (q : Round). server_digest_of q.0 x.0 (bytes_of sum) ≢ digest) (sym call.r) differ)
      cause x (forged s same said unsigned) =
          let at = place_of_one (log w).puts said.put said.there in
          by_forgery at.0 said.put s same (put_stays_at at.0 said.put at.1) said.says (λ had. not_had at.0 s (slice_get_within (log w).puts at.0 said.put at.1) unsigned had)
      cause x (body_said own due) =
          by_body due.body due.other due.round due.other_round (due_is_justified due.body due.justified)
          (subst (λ (who : SignerId). WasSaid v who (kinds.Sign due.other)) due.by (subst (WasSaid v due.kept.signer) due.said (linked.kept due.kept due.among))) due.differs

      word_back : (r : Round) (x : ServerId) (reason : SpoilWord) → Contains lines (outcomes.Spoiled j r x reason) → SpoilCause v g j r x
      word_back r x reason h =
          let is = spoiled_line w.group j d.run.r did start mid new lines so j r x reason h in
          subst (λ (q : Round). SpoilCause v g j q x) (sym is.1) (cause x (call.spoiled x is.2.0 is.2.1 is.2.2 is.2.3))

      -- what is delivered now the server keeps, where it runs that round; and it is of no round above its last one
      pub record Takes (moved : LogMoves (log w) (log v)) : Type 0 where
        pub hears : (x : ServerId) (r : Round) (t : Statement) (m : Message) → IsPhaseOf r t → Carries v x j t m → DeliversNow (log w) (log v) moved m → d.run.r.0 ≡ r.0
            → d.run.is_running ≡ true → (said : SaidView) × Contains d.run.kept said × (said.signer ≡ Server x) × (said.statement ≡ t)
        pub not_ahead : (x : ServerId) (r : Round) (t : Statement) (m : Message) → IsPhaseOf r t → Carries v x j t m → DeliversNow (log w) (log v) moved m → r.0 ≤ d.run.r.0

      module _ (moved : LogMoves (log w) (log v)) (takes : Takes moved) where
        run_ends : (r : Round) → c.run.r ≡ r → c.run.is_running ≡ true → RunsOrEnds j d lines r
        run_ends r is on =
            elim (call.ran on) [
              | inl runs ↦ inl (runs, call.r ∙ is)
              | inr over ↦ elim over [
                | inl e ↦ inr (inl (subst (λ (q : Round). Contains lines (outcomes.Certified j q)) (e.2 ∙ is) (so.told (acts.Certified e.0) (outcomes.Certified j e.0.body.r) e.1 refl)))
                | inr x ↦ inr (inr (inr (inr (
                  x.0,
                  spoil_word_of x.1,
                  subst (λ (q : Round). Contains lines (outcomes.Spoiled j q x.0 (spoil_word_of x.1))) (call.r ∙ is)
                      (so.told (acts.Spoiled x.0 x.1 x.2 x.3) (outcomes.Spoiled j d.run.r x.0 (spoil_word_of x.1)) x.4 refl),
                ))))
              ]
            ]

        keeps_it : (x : ServerId) (t : Statement) (said : SaidView) → Contains d.run.kept said → said.signer ≡ Server x → said.statement ≡ t → Keeps g j x t
        keeps_it x t said h by is =
            let kept : Kept = record { by = said.signer; statement = said.statement } in
            (kept, subst (λ (z : ServerFacts). Contains z.kept kept) (sym facts) (Contains-map (λ (z : SaidView). record { by = z.signer; statement = z.statement }) d.run.kept said h), by, is)

        pub server_call : ServerCall w v g lines moved j fresh c d
        server_call = record {
          moves = moves;
          disciplined = disciplined;
          chains = chains;
          signed = call.signed;
          of_record = call.of_record;
          put = newly_signed;
          settled = λ on. rules.settled (rules.bent ∙ tied_core.straight) on;
          ran = λ on. run_ends c.run.r refl on;
          opened = λ r p line. absurd (call.none_opened r p (opened_line w.group j d.run.r did start mid new lines so j r p line).1);
          spoiled = λ x r reason line. word_back r x reason line;
          prev_held = call.prev_held;
          certificates = λ r line. elim line [
            | inl a ↦ let e = (certified_line w.group j d.run.r did start mid new lines so j r a).1 in
                subst (λ (q : Round). Holds d.chain q.0) e.2 (call.certified e.0 e.1)
            | inr a ↦ absurd (call.none_held r (held_line w.group j d.run.r did start mid new lines so j r a).1)
          ];
          sent = λ k r t hk ne phase h. fresh_sent k r t hk ne phase h;
          keeps_on = λ said still h. call.keeps said h;
          runs_on = λ still on. call.runs_on on;
          hears = λ x r t m phase carries now runs.
              let said = takes.hears x r t m phase carries now (ap (λ (z : ServerFacts). z.last) (sym facts) ∙ runs.last) (ap (λ (z : ServerFacts). z.runs) (sym facts) ∙ runs.runs) in
              keeps_it x t said.0 said.1 said.2 said.3;
          not_ahead = takes.not_ahead;
          key = call.key;
          bent = rules.bent;
          openings = call.openings tied_core.openings;
        }

    -- ---- the call keeps the tie

    module _ (servers : mid.servers ≡ slice_set old.servers j.0 (Some d)) (rest : SameClients old mid) where
      new_servers : new.servers ≡ slice_set old.servers j.0 (Some d)
      new_servers = so.same.servers ∙ servers

      pub at_here : server_at new j ≡ Some d
      at_here = ap (λ (cs : List (Option ServerView)). server_at (record old { servers = cs }) j) new_servers ∙ core_set_same old.servers j.0 d (server_within old j c at_c)

      pub facts_here : (facts_in new).server j ≡ facts_of d
      facts_here = ap facts_of (server_core_is new j d at_here)

      -- what is known of the step in which the server is called
      pub record IsStep : Type 0 where
        pub moved : LogMoves (log w) (log v)
        pub takes : Takes (facts_in new) facts_here moved
        pub to_server : (k : ServerId) (m : Message) → k.0 ≢ j.0 → m.to ≡ members.Server k → DeliversNow (log w) (log v) moved m → ⊥
        pub texts : (i : ClientId) → IsHonestClient w.group i → texts_of v i ≡ texts_of w i
        pub sums_of : (m : SumMade) → Contains sums m → Contains w.sums m ⊎ (m.server ≡ j)
        pub judge : JudgeCalled w v

      pub acted_is_tied : IsStep → IsTied v new
      acted_is_tied step = served w old new history sums lines tied j fresh c d (record {
        here = at_c;
        servers = new_servers;
        rest = record {
          roster = so.same.roster ∙ rest.roster;
          opens = so.same.opens ∙ rest.opens;
          group = so.same.group ∙ rest.group;
          clients = so.same.clients ∙ rest.clients;
          left = so.same.left ∙ rest.left;
        };
        fits = subst (λ (l : Log). FitsLog w.group l new) (sym at) so.fits;
        grows = grows;
        moved = step.moved;
        of_others = of_others w.group j d.run.r did start mid new lines so;
        by_server = put_by_server;
        to_server = step.to_server;
        call = server_call (facts_in new) facts_here step.moved step.takes;
        texts = step.texts;
        sums_of = step.sums_of;
        judge = step.judge;
      })
