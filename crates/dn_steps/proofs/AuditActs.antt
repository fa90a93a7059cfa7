-- What an auditor knows stays right where a server's answer is carried out.
use Rattle.std.proofs.Common.{◌≡◌, ℕ, List, [], ◌∷◌, ◌++◌, refl, sym, ap, subst, ◌∙◌, inl, inr, Bool, true, false}
use Rattle.std.specs.Prelude.{Contains, ◌⊎◌, Option, Some, None}
use Rattle.std.specs.Option.{option_to_list}
use Rattle.std.proofs.lemmas.List.Elements.{Contains-append_left}
use Rattle.dn_wire.specs.declared.ids.Member.{Member}
use Rattle.dn_wire.specs.declared.ids.Member.TheVariants as members
use Rattle.dn_wire.specs.declared.ids.Round.{Round}
use Rattle.dn_wire.specs.declared.ids.ServerId.{ServerId}
use Rattle.dn_roster.specs.Roster.{IsRoster}
use Rattle.dn_cert.specs.Certificate.{CertificateView}
use Rattle.dn_cert.proofs.Orders.{here, later, nothing}
use Rattle.dn_server.specs.declared.act.Act.{Act}
use Rattle.dn_server.specs.declared.act.Act.TheVariants as acts
use Rattle.dn_server.specs.declared.answer.Answer.{Answer}
use Rattle.dn_server.specs.declared.answer.Answer.TheVariants as answers
use Rattle.dn_audit.specs.Group.{GroupView as Marked}
use Rattle.dn_report.specs.declared.outcome.Outcome.{Outcome}
use Rattle.dn_report.specs.declared.outcome.Outcome.TheVariants as outcomes
use Rattle.dn_record_types.specs.declared.body.Body.{Body}
use Rattle.dn_state.specs.Parts.{PartsView}
use Rattle.dn_state.specs.Putting.{Puts}
use Rattle.dn_state.specs.Acting.{Acts, ComesOf, TellsCertified, line_of}
use Rattle.dn_state.specs.Doing.{InTurn, own}
use Rattle.dn_state.specs.Telling.{TellsRound}
use Rattle.dn_state.specs.Words.{ignored_word_of}
use Rattle.dn_headline.specs.Group.{GroupView}
use Rattle.dn_headline.specs.Log.{Log, Put, actor_after, with_outcome, with_outcomes}
use Rattle.dn_headline.specs.Run.{SumMade}
use Rattle.dn_auditing.specs.Known.{MarksKeys}
use Rattle.dn_steps.proofs.Places.{only}
use Rattle.dn_steps.proofs.Runs.{is_of_put, is_quiet, put_is_quiet, unput_lines}
use Rattle.dn_steps.proofs.PutLines.{puts_lines}
use Rattle.dn_steps.proofs.RoundLines.{told_plain, told_keeps}
use Rattle.dn_steps.proofs.Acting.{actors_after, outcomes_after, actors_both}
use Rattle.dn_steps.proofs.AuditPuts.{Keeps, AreOwn, keeps_same, put_is_known}

-- ---- lines after lines

-- what was put stays put
one_stays : (own : Bool) (actor : Member) (log : Log) (o : Outcome) (p : Put) → Contains log.puts p → Contains (with_outcome own actor log o).puts p
unfolding with_outcome
one_stays own actor log (outcomes.Post payload by bytes) p h = Contains-append_left log.puts _ p h
one_stays own actor log (outcomes.Sent id payload to) p h = Contains-append_left log.puts _ p h
one_stays own actor log (outcomes.Full payload to) p h = Contains-append_left log.puts _ p h
one_stays own actor log _ p h = h

pub puts_stay : (own : Bool) (actor : Member) (log : Log) (lines : List Outcome) (p : Put) → Contains log.puts p → Contains (with_outcomes own actor log lines).puts p
unfolding with_outcomes
puts_stay own actor log [] p h = h
puts_stay own actor log (o ∷ os) p h = puts_stay own (actor_after actor o) (with_outcome own actor log o) os p (one_stays own actor log o p h)

-- lines that tell nothing of servers don't change who puts
quiet_actor : (actor : Member) (o : Outcome) → is_quiet o ≡ true → actor_after actor o ≡ actor
quiet_actor actor (outcomes.Closed j r count) e = absurd cc
quiet_actor actor _ e = refl

pub quiet_actors : (actor : Member) (lines : List Outcome) → ((o : Outcome) → Contains lines o → is_quiet o ≡ true) → actors_after actor lines ≡ actor
unfolding actors_after
quiet_actors actor [] quiet = refl
quiet_actors actor (o ∷ os) quiet =
    subst (λ (a : Member). actors_after a os ≡ actor) (sym (quiet_actor actor o (quiet o (here o os)))) (quiet_actors actor os (λ x h. quiet x (later o os x h)))

-- ---- what is done for one server

-- after some lines, by who put before them, the auditor knows all, no core is another, and the same member puts
pub record Goes (g : GroupView) (marked : Marked) (made : List SumMade) (actor : Member) (log : Log) (old new : PartsView) (lines : List Outcome) : Type 0 where
  pub keeps : Keeps g marked made (with_outcomes true actor log lines) new
  pub servers : new.servers ≡ old.servers
  pub actor_is : actors_after actor lines ≡ actor

module _ (g : GroupView) (is_roster : IsRoster g.roster) (marked : Marked) (marks : MarksKeys g marked) (made : List SumMade) where
  -- nothing is put
  pub goes_unput : (actor : Member) (log : Log) (old new : PartsView) (lines : List Outcome) → new.payloads ≡ old.payloads → new.group ≡ old.group → new.auditor ≡ old.auditor
      → new.servers ≡ old.servers → ((o : Outcome) → Contains lines o → is_of_put o ≡ false) → actors_after actor lines ≡ actor → Keeps g marked made log old
      → Goes g marked made actor log old new lines
  goes_unput actor log old new lines payloads group auditor servers unput stays k = record {
    keeps = subst (λ l. Keeps g marked made l new) (sym (unput_lines true actor log lines unput).0) (keeps_same g marked made log old new payloads group auditor k);
    servers = servers;
    actor_is = stays;
  }

  -- a member puts by its own core
  pub goes_put : (actor : Member) (to : List Member) (bytes : List ℕ) (log : Log) (old new : PartsView) (lines : List Outcome) → Puts old (own actor) to bytes new lines
      → AreOwn g (with_outcomes true actor log lines).puts → Keeps g marked made log old → Goes g marked made actor log old new lines
  goes_put actor to bytes log old new lines h are k = record {
    keeps = put_is_known g is_roster marked marks made log old new (own actor) to bytes lines k h are;
    servers = h.members.servers;
    actor_is = quiet_actors actor lines (λ o there. put_is_quiet o (puts_lines old new (own actor) to bytes lines h o there));
  }

  -- one thing after another
  pub goes_both : (actor : Member) (log : Log) (old between new : PartsView) (first rest lines : List Outcome) → lines ≡ first ++ rest
      → AreOwn g (with_outcomes true actor log lines).puts → (AreOwn g (with_outcomes true actor log first).puts → Goes g marked made actor log old between first)
      → ((l : Log) → Keeps g marked made l between → AreOwn g (with_outcomes true actor l rest).puts → Goes g marked made actor l between new rest)
      → Goes g marked made actor log old new lines
  goes_both actor log old between new first rest lines is are begins goes_on =
      let mid = with_outcomes true actor log first in
      let all : with_outcomes true actor log lines ≡ with_outcomes true (actors_after actor first) mid rest =
      ap (with_outcomes true actor log) is ∙ outcomes_after true actor log first rest in
      let one = begins (λ p h. are p (subst (λ (l : Log). Contains l.puts p) (sym all) (puts_stay true (actors_after actor first) mid rest p h))) in
      let after : with_outcomes true actor log lines ≡ with_outcomes true actor mid rest = all ∙ ap (λ a. with_outcomes true a mid rest) one.actor_is in
      let two = goes_on mid one.keeps (λ p h. are p (subst (λ (l : Log). Contains l.puts p) (sym after) h)) in
      record {
        keeps = subst (λ l. Keeps g marked made l new) (sym after) two.keeps;
        servers = two.servers ∙ one.servers;
        actor_is = ap (actors_after actor) is ∙ actors_both actor first rest ∙ ap (λ a. actors_after a rest) one.actor_is ∙ two.actor_is;
      }

  -- what a round came to is told
  pub goes_told : (actor : Member) (log : Log) (old new : PartsView) (body : Body) (lines : List Outcome) → TellsRound old body new lines → Keeps g marked made log old
      → Goes g marked made actor log old new lines
  goes_told actor log old new body lines h k =
      goes_unput actor log old new lines (told_keeps (λ x. x.payloads ≡ old.payloads) old body new lines h refl refl)
      (told_keeps (λ x. x.group ≡ old.group) old body new lines h refl refl) (told_keeps (λ x. x.auditor ≡ old.auditor) old body new lines h refl refl)
      (told_keeps (λ x. x.servers ≡ old.servers) old body new lines h refl refl) (λ o there. (told_plain old body new lines h o there).unput)
      (quiet_actors actor lines (λ o there. (told_plain old body new lines h o there).quiet)) k

  -- lines that are told, and no more
  pub one_line : (actor : Member) (log : Log) (old new : PartsView) (line : Outcome) (lines : List Outcome) → new ≡ old → lines ≡ line ∷ [] → is_of_put line ≡ false
      → actor_after actor line ≡ actor → Keeps g marked made log old → Goes g marked made actor log old new lines
  unfolding actors_after
  one_line actor log old new line lines same is unput stays k =
      subst (λ os. Goes g marked made actor log old new os) (sym is)
      (goes_unput actor log old new (line ∷ []) (ap (λ (x : PartsView). x.payloads) same) (ap (λ (x : PartsView). x.group) same) (ap (λ (x : PartsView). x.auditor) same)
      (ap (λ (x : PartsView). x.servers) same) (λ o h. ap is_of_put (sym (only line o h)) ∙ unput) stays k)

  -- a certificate is told
  certified_goes : (j : ServerId) (last : Round) (c : CertificateView) (log : Log) (old new : PartsView) (lines : List Outcome) → Acts j last (acts.Certified c) old new lines
      → AreOwn g (with_outcomes true (members.Server j) log lines).puts → Keeps g marked made log old → Goes g marked made (members.Server j) log old new lines
  certified_goes j last c log old new lines h are k =
      goes_both (members.Server j) log old h.between new h.lines_first h.lines_rest lines h.told are
      (λ first. one_line (members.Server j) log old h.between (outcomes.Certified j c.body.r) h.lines_first h.begins.0 h.begins.1 refl refl k)
      (λ l keeps rest.
      let with_chain : PartsView = record h.between { chain = h.goes_on.chain } in
      let told = goes_told (members.Server j) l with_chain new c.body h.lines_rest h.goes_on.tells (keeps_same g marked made l h.between with_chain refl refl refl keeps) in
      record { keeps = told.keeps; servers = told.servers; actor_is = told.actor_is })

  -- ---- acts

  act_goes : (j : ServerId) (last : Round) (act : Act) (log : Log) (old new : PartsView) (lines : List Outcome) → Acts j last act old new lines
      → AreOwn g (with_outcomes true (members.Server j) log lines).puts → Keeps g marked made log old → Goes g marked made (members.Server j) log old new lines
  act_goes j last (acts.Post to payload) log old new lines h are k = goes_put (members.Server j) to payload log old new lines h are k
  act_goes j last (acts.Certified c) log old new lines h are k = certified_goes j last c log old new lines h are k
  act_goes j last (acts.Opened r prev) log old new lines h are k = one_line (members.Server j) log old new (outcomes.Opened j r prev) lines h.0 h.1 refl refl k
  act_goes j last (acts.Told client r told) log old new lines h are k = one_line (members.Server j) log old new (outcomes.Told client j r told) lines h.0 h.1 refl refl k
  act_goes j last (acts.Closed r count) log old new lines h are k = one_line (members.Server j) log old new (outcomes.Closed j r count) lines h.0 h.1 refl refl k
  act_goes j last (acts.Spoiled by reason kept came) log old new lines h are k = one_line (members.Server j) log old new _ lines h.0 h.1 refl refl k
  act_goes j last (acts.Held r) log old new lines h are k = one_line (members.Server j) log old new (outcomes.Held (members.Server j) r) lines h.0 h.1 refl refl k
  act_goes j last acts.Abandoned log old new lines h are k = one_line (members.Server j) log old new (outcomes.Abandoned j last) lines h.0 h.1 refl refl k

  pub acts_go : (j : ServerId) (last : Round) (did : List Act) (log : Log) (old new : PartsView) (lines : List Outcome) → InTurn (Acts j last) did old new lines
      → AreOwn g (with_outcomes true (members.Server j) log lines).puts → Keeps g marked made log old → Goes g marked made (members.Server j) log old new lines
  unfolding actors_after
  acts_go j last [] log old new lines h are k =
      subst (λ os. Goes g marked made (members.Server j) log old new os) (sym h.1)
      (goes_unput (members.Server j) log old new [] (ap (λ (x : PartsView). x.payloads) h.0) (ap (λ (x : PartsView). x.group) h.0) (ap (λ (x : PartsView). x.auditor) h.0)
      (ap (λ (x : PartsView). x.servers) h.0) (λ o there. absurd (nothing o there)) refl k)
  acts_go j last (act ∷ others) log old new lines h are k =
      goes_both (members.Server j) log old h.between new h.lines_first h.lines_rest lines h.told are
      (λ first. act_goes j last act log old h.between h.lines_first h.begins first k)
      (λ l keeps rest. acts_go j last others l h.between new h.lines_rest h.goes_on rest keeps)

  -- an answer is carried out
  pub answer_goes : (j : ServerId) (last : Round) (answer : Answer) (log : Log) (old new : PartsView) (lines : List Outcome) → ComesOf j last answer old new lines
      → AreOwn g (with_outcomes true (members.Server j) log lines).puts → Keeps g marked made log old → Goes g marked made (members.Server j) log old new lines
  answer_goes j last (answers.Acts did) log old new lines h are k = acts_go j last did log old new lines h are k
  answer_goes j last (answers.Ignored reason) log old new lines h are k = one_line (members.Server j) log old new (outcomes.Ignored (ignored_word_of reason)) lines h.0 h.1 refl refl k
  answer_goes j last answers.Early log old new lines h are k = one_line (members.Server j) log old new outcomes.Early lines h.0 h.1 refl refl k
