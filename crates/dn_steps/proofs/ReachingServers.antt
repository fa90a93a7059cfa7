-- What comes of a certificate or a challenge that reaches an honest server keeps the tie.
use Rattle.std.proofs.Common.{◌≡◌, ℕ, List, [], ◌∷◌, ◌++◌, refl, sym, ap, subst, ◌∙◌, inl, inr, true, false, Bool}
use Rattle.std.specs.Prelude.{Contains, Option, Some, None, slice_set, option_map}
use Rattle.std.proofs.lemmas.Option.{same_Some}
use Rattle.std.proofs.lemmas.List.Elements.{Contains-append_right}
use Rattle.dn_wire.specs.declared.ids.ServerId.{ServerId}
use Rattle.dn_wire.specs.declared.ids.Round.{Round}
use Rattle.dn_wire.specs.declared.ids.Member.TheVariants as members
use Rattle.dn_wire.specs.declared.ids.SignerId.{SignerId}
use Rattle.dn_wire.specs.declared.ids.SignerId.TheVariants.{Server}
use Rattle.dn_record_types.specs.declared.body.Body.{Body}
use Rattle.dn_record_types.specs.declared.statement.Statement.{Statement}
use Rattle.dn_record_types.specs.declared.payload.Payload.{Payload}
use Rattle.dn_record_types.specs.declared.payload.Payload.TheVariants as payloads
use Rattle.dn_records.specs.Records.{payload_bytes, IsPayload}
use Rattle.dn_record_types.proofs.RecordLaws.{payload_once}
use Rattle.dn_roster.specs.Roster.{RosterView}
use Rattle.dn_cert.specs.Certificate.{CertificateView}
use Rattle.dn_cert.specs.Opening.{IsOpened}
use Rattle.dn_cert.specs.declared.opened.Opened.{Opened}
use Rattle.dn_cert.specs.declared.opened.Opened.TheVariants as opened
use Rattle.dn_cert.proofs.Orders.{here, first_or_later}
use Rattle.dn_server.specs.declared.act.Act.TheVariants as acts
use Rattle.dn_server.specs.declared.answer.Answer.{Answer}
use Rattle.dn_server.specs.declared.answer.Answer.TheVariants as answers
use Rattle.dn_server.specs.declared.answer.Reason.{Reason}
use Rattle.dn_server.specs.declared.answer.Reason.TheVariants as reasons
use Rattle.dn_server.specs.Server.{ServerView}
use Rattle.dn_exchange.specs.Ending.{HoldsOn}
use Rattle.dn_exchange.specs.Ending.HoldsOn.{is_known, has_no_prev, is_off_floor, is_of_other_length, is_held, ends_run}
use Rattle.dn_payloads.specs.declared.content.Content.{Content}
use Rattle.dn_payloads.specs.declared.content.Content.TheVariants as contents
use Rattle.dn_payloads.specs.Payloads.{PayloadView, IsContent}
use Rattle.dn_report.specs.declared.outcome.Outcome.{Outcome}
use Rattle.dn_report.specs.declared.outcome.Outcome.TheVariants as outcomes
use Rattle.dn_flight.specs.declared.msg.Msg.{Msg}
use Rattle.dn_flight.specs.Flight.{with_id}
use Rattle.dn_audit.specs.Auditor.{AuditorView}
use Rattle.dn_state.specs.Parts.{PartsView, has}
use Rattle.dn_state.specs.Words.{ignored_word_of}
use Rattle.dn_state.specs.Members.{server_at, with_server}
use Rattle.dn_state.specs.Acting.{ComesOf}
use Rattle.dn_state.specs.Telling.{TellsRound, with_told}
use Rattle.dn_state.specs.Delivering.{content_of, opened_in, opened_at, body_of, without_message, tells_held, TellsBodyIf, IsRuled, IsHeard, IsHeardIf, ComesOfMessage, ComesOfReply, ReachesCore, ReachesServer}
use Rattle.dn_state.specs.Delivering.ComesOfMessage.{keeps, does}
use Rattle.dn_state.specs.Delivering.ComesOfReply.{stays, takes}
use Rattle.dn_state.specs.Delivering.ReachesServer.{reaches, passes}
use Rattle.dn_headline.specs.Group.{GroupView}
use Rattle.dn_headline.specs.Log.{Log, message_of, is_early_or_none}
use Rattle.dn_headline.specs.Run.{RunView, log}
use Rattle.dn_headline.specs.Spoken.{Says}
use Rattle.dn_headline.specs.Certified.{IsCertificateOf, IsCertified}
use Rattle.dn_steps.specs.Fitting.{FitsLog}
use Rattle.dn_steps.specs.Tied.{IsTied}
use Rattle.dn_steps.specs.ServerCall.{TellNothingOf}
use Rattle.dn_steps.proofs.OneServer.{SameClients}
use Rattle.dn_steps.proofs.Places.{only, one_at}
use Rattle.dn_steps.proofs.Following.{certificate_of_content}
use Rattle.dn_steps.proofs.Removing.{with_delivered, delivered_fits, heard_fits}
use Rattle.dn_steps.proofs.Runs.{next_run, is_quiet}
use Rattle.dn_steps.proofs.Taking.{IsPlain, delivering, number, receiver, payload}
use Rattle.dn_steps.proofs.RoundLines.{told_plain, told_keeps, told_fits}
use Rattle.dn_steps.proofs.ServerEvents.{ignored_tells_nothing}
use Rattle.dn_steps.proofs.ToServers.{IsTold, HasServer, log_is, core_rests, held_so, ends_so}

-- ---- payloads in which nothing is said

-- nothing is said in what opens: it is a certificate, or a challenge
abbrev pub IsUnsaid : Opened → Type 0
IsUnsaid (opened.Certificate c) = Unit {0}
IsUnsaid (opened.Challenge c) = Unit {0}
IsUnsaid (opened.Submission cipher said) = ⊥
IsUnsaid (opened.Plain said) = ⊥

unsaid_opens : (roster : RosterView) (bytes : List ℕ) (who : SignerId) (t : Statement) (x : Opened) (p : Payload) → IsUnsaid x → IsPayload p → bytes ≡ payload_bytes p
    → IsOpened roster p x → Says roster bytes who t → ⊥
unsaid_opens roster bytes who t x (payloads.Certificate body signatures) u fits is o says =
    let same = payload_once (payloads.Plain says.envelope) (payloads.Certificate body signatures) tt fits (sym says.is.spelled ∙ is) in absurd cc
unsaid_opens roster bytes who t x (payloads.Challenge r k envelopes) u fits is o says =
    let same = payload_once (payloads.Plain says.envelope) (payloads.Challenge r k envelopes) tt fits (sym says.is.spelled ∙ is) in absurd cc
unsaid_opens roster bytes who t (opened.Certificate c) (payloads.Plain e) u fits is o says = o
unsaid_opens roster bytes who t (opened.Challenge c) (payloads.Plain e) u fits is o says = o
unsaid_opens roster bytes who t (opened.Submission cipher said) (payloads.Plain e) u fits is o says = u
unsaid_opens roster bytes who t (opened.Plain said) (payloads.Plain e) u fits is o says = u
unsaid_opens roster bytes who t (opened.Certificate c) (payloads.Submission x e) u fits is o says = o
unsaid_opens roster bytes who t (opened.Challenge c) (payloads.Submission x e) u fits is o says = o
unsaid_opens roster bytes who t (opened.Submission cipher said) (payloads.Submission x e) u fits is o says = u
unsaid_opens roster bytes who t (opened.Plain said) (payloads.Submission x e) u fits is o says = u

pub content_is : (content : Content) (x : Opened) → opened_in (Some content) ≡ Some x → content ≡ contents.Opened x
content_is (contents.Opened y) x e = ap contents.Opened (same_Some y x e)
content_is contents.Form x e = absurd cc
content_is contents.Stranger x e = absurd cc
content_is contents.Signature x e = absurd cc

pub reason_taken : (reason : Reason) → is_early_or_none (outcomes.Ignored (ignored_word_of reason)) ≡ false
reason_taken reasons.Old = refl
reason_taken reasons.Running = refl
reason_taken reasons.Spent = refl
reason_taken reasons.Key = refl
reason_taken reasons.Prev = refl
reason_taken reasons.Length = refl
reason_taken reasons.Digest = refl
reason_taken reasons.Shut = refl
reason_taken reasons.Idle = refl
reason_taken reasons.Repeat = refl
reason_taken reasons.Kind = refl
reason_taken reasons.Body = refl
reason_taken reasons.Place = refl
reason_taken reasons.Zero = refl
reason_taken reasons.Known = refl
reason_taken reasons.Floor = refl

plain_told : (o : Outcome) → IsPlain o → IsTold o
plain_told o h = record { unput = h.unput; taken = h.taken; blames = h.blames }

not_early_ignored : (reason : Reason) → answers.Ignored reason ≡ answers.Early → ⊥
not_early_ignored reason e = absurd cc

module _ (w : RunView) (old : PartsView) (id : ℕ) (m : Msg) (tied : IsTied w old) (found : with_id id old.flight.msgs ≡ Some m) (j : ServerId) (to : m.to ≡ members.Server j)
    (c : ServerView) (at_c : server_at old j ≡ Some c) (x : Opened) (carries : opened_at old m.payload ≡ Some x) (nothing_said : IsUnsaid x) where
  content : (p : PayloadView) × Contains old.payloads.items p × IsContent w.group.roster p.bytes (contents.Opened x) × (p.bytes ≡ (message_of (log w) id).bytes)
  content =
      let p = payload w old id m tied found in
      let at : content_of old.payloads m.payload ≡ Some p.0.content = ap (option_map (λ (y : PayloadView). y.content)) p.1 in
      let is = content_is p.0.content x (ap opened_in (sym at) ∙ carries) in
      let inside = one_at old.payloads.items m.payload p.0 p.1 in
      (p.0, inside, subst (IsContent w.group.roster p.0.bytes) is (tied.fits.payloads.content p.0 inside), p.2)

  unsaid : (y : ServerId) (t : Statement) → Says w.group.roster (message_of (log w) id).bytes (Server y) t → ⊥
  unsaid y t says =
      let h = content in
      unsaid_opens w.group.roster h.0.bytes (Server y) t x h.2.0 nothing_said h.2.1 h.2.2 h.2.3
      (subst (λ (b : List ℕ). Says w.group.roster b (Server y) t) (sym h.3) says)

  abbrev Has : ServerView → PartsView → Type 0
  Has d new = HasServer w old id m tied found j to c at_c unsaid d new

  -- the parts after the core's answer, and after the message was heard
  replied_has : (d : ServerView) (replied heard : PartsView) (auditor : AuditorView) → replied ≡ record (with_server old j d) { auditor = auditor }
      → IsHeard m.payload (without_message replied m.id) heard → Has d heard
  replied_has d replied heard auditor is hears =
      let gone = delivered_fits w.group (log w) old id tied.fits in
      let mid = without_message (record (with_server old j d) { auditor = auditor }) id in
      let mid_fits : FitsLog w.group (with_delivered (log w) id) mid = record { payloads = gone.payloads; flight = gone.flight; chain = gone.chain; heard = gone.heard } in
      let there : IsHeard m.payload mid heard =
      subst (λ (n : ℕ). IsHeard m.payload (without_message (record (with_server old j d) { auditor = auditor }) n) heard) (number w old id m tied found)
      (subst (λ (z : PartsView). IsHeard m.payload (without_message z m.id) heard) is hears) in
      let p = payload w old id m tied found in
      record {
        servers = keeps_servers d mid (has mid.delivered m.payload) heard there refl;
        rest = keeps_rest mid (has mid.delivered m.payload) heard there (record { roster = refl; opens = refl; group = refl; clients = refl; left = refl });
        fits = heard_fits w.group (with_delivered (log w) id) mid heard m.payload p.0 (message_of (log w) id) j mid_fits p.1 (one_at old.payloads.items m.payload p.0 p.1)
            (Contains-append_right (log w).delivered (message_of (log w) id ∷ []) (message_of (log w) id) (here (message_of (log w) id) []))
            (receiver w old id m tied found ∙ to) p.2 there;
      }
    where
      keeps_servers : (e : ServerView) (a : PartsView) (t : Bool) (b : PartsView) → IsHeardIf t m.payload a b → a.servers ≡ slice_set old.servers j.0 (Some e)
          → b.servers ≡ slice_set old.servers j.0 (Some e)
      keeps_servers e a true b same h = ap (λ (z : PartsView). z.servers) same ∙ h
      keeps_servers e a false b first h = ap (λ (z : PartsView). z.servers) first ∙ h

      keeps_rest : (a : PartsView) (t : Bool) (b : PartsView) → IsHeardIf t m.payload a b → SameClients old a → SameClients old b
      keeps_rest a true b same h = subst (SameClients old) (sym same) h
      keeps_rest a false b first h =
          subst (SameClients old) (sym first) (record { roster = h.roster; opens = h.opens; group = h.group; clients = h.clients; left = h.left })

  told_has : (d : ServerView) (r : ℕ) (parts : PartsView) → Has d parts → Has d (with_told r parts)
  told_has d r parts h = record {
    servers = h.servers;
    rest = record { roster = h.rest.roster; opens = h.rest.opens; group = h.rest.group; clients = h.rest.clients; left = h.rest.left };
    fits = told_fits w.group (with_delivered (log w) id) parts r h.fits;
  }

  -- ---- the answer is that it is ignored

  ignored_after : (d : ServerView) (last : Round) (reason : Reason) (answer : Answer) (body : Option Body) (heard new : PartsView) (lines : List Outcome) → answer ≡ answers.Ignored reason
      → d ≡ c → Has d heard → ComesOfMessage j last answer body heard new lines → IsTied (next_run w (delivering id lines) w.plains w.sums) new
  ignored_after d last reason answer body heard new lines is same has_it (keeps e tells) = let x = sym is ∙ e in absurd cc
  ignored_after d last reason answer body heard new lines is same has_it (does other out) =
      let line = outcomes.Ignored (ignored_word_of reason) in
      let first = subst (λ (a : Answer). ComesOf j last a heard out.between out.lines_first) is out.does in
      let rest = subst (λ (os : List Outcome). TellsBodyIf (tells_held os) body out.between new out.lines_rest) first.1 out.tells in
      let told : lines ≡ line ∷ [] = out.told ∙ (λ t. first.1 t ++ rest.1 t) in
      let is_told : (o : Outcome) → Contains lines o → IsTold o =
      λ o h. subst IsTold (only line o (subst (λ (os : List Outcome). Contains os o) told h)) (record { unput = refl; taken = reason_taken reason; blames = refl }) in
      core_rests w old id m tied found j to c at_c unsaid lines is_told d new same (subst (Has d) (sym (rest.0 ∙ first.0)) has_it)
      (λ k. subst (TellNothingOf k) (sym told) (ignored_tells_nothing (ignored_word_of reason) k))

  ignored_reply : (d : ServerView) (last : Round) (reason : Reason) (answer : Answer) (body : Option Body) (replied new : PartsView) (lines : List Outcome) (auditor : AuditorView)
      → answer ≡ answers.Ignored reason → d ≡ c → replied ≡ record (with_server old j d) { auditor = auditor } → ComesOfReply m j last answer body replied new lines
      → IsTied (next_run w (delivering id lines) w.plains w.sums) new
  ignored_reply d last reason answer body replied new lines auditor is same kept (stays e tells) = absurd (not_early_ignored reason (sym is ∙ e))
  ignored_reply d last reason answer body replied new lines auditor is same kept (takes other up) =
      ignored_after d last reason answer body up.heard new lines is same (replied_has d replied up.heard auditor kept up.hears) up.comes

  -- ---- the certificate is held

  module _ (certificate : CertificateView) (is_certificate : x ≡ opened.Certificate certificate) where
    put_before : (l : Log) → l ≡ with_delivered (log w) id → (v : RunView) → v.group ≡ w.group → log v ≡ l → IsCertified v certificate.body
    put_before l is v group at =
        let h = content in
        let put = tied.fits.payloads.put h.0 h.1 in
        record {
          put = put.0;
          there = subst (λ (z : Log). Contains z.puts put.0) (sym (at ∙ is)) put.1;
          certificate = certificate;
          is = subst (λ (b : List ℕ). IsCertificateOf v.group.roster b certificate) (sym put.2)
              (subst (λ (z : GroupView). IsCertificateOf z.roster h.0.bytes certificate) (sym group)
              (certificate_of_content w.group.roster h.0.bytes certificate (subst (λ (y : Opened). IsContent w.group.roster h.0.bytes (contents.Opened y)) is_certificate h.2)));
          body = refl;
        }

    held_after : (d : ServerView) (last : Round) (answer : Answer) (heard new : PartsView) (lines : List Outcome)
        → answer ≡ answers.Acts (acts.Held certificate.body.r ∷ []) → Has d heard → ComesOfMessage j last answer (Some certificate.body) heard new lines
        → (((rest : List Outcome) → lines ≡ outcomes.Held (members.Server j) certificate.body.r ∷ rest → (told : (o : Outcome) → Contains lines o → IsTold o)
        → ((o : Outcome) → Contains rest o → is_quiet o ≡ true) → Has d new → IsTied (next_run w (delivering id lines) w.plains w.sums) new))
        → IsTied (next_run w (delivering id lines) w.plains w.sums) new
    held_after d last answer heard new lines is has_it (keeps e tells) goes = let y = sym is ∙ e in absurd cc
    held_after d last answer heard new lines is has_it (does other out) goes =
        let line = outcomes.Held (members.Server j) certificate.body.r in
        let first = subst (λ (a : Answer). ComesOf j last a heard out.between out.lines_first) is out.does in
        let first_is : out.lines_first ≡ line ∷ [] = first.told ∙ (λ t. first.begins.1 t ++ first.goes_on.1 t) in
        let between : Has d out.between = subst (Has d) (sym (first.goes_on.0 ∙ first.begins.0)) has_it in
        let rest : TellsRound out.between certificate.body new out.lines_rest =
        subst (λ (os : List Outcome). TellsBodyIf (tells_held os) (Some certificate.body) out.between new out.lines_rest) first_is out.tells in
        let lines_are : lines ≡ line ∷ out.lines_rest = out.told ∙ ap (λ (os : List Outcome). os ++ out.lines_rest) first_is in
        let plain = told_plain out.between certificate.body new out.lines_rest rest in
        let is_told : (o : Outcome) → Contains lines o → IsTold o =
        λ o h. elim (first_or_later line out.lines_rest o (subst (λ (os : List Outcome). Contains os o) lines_are h)) [
          | inl e ↦ subst IsTold e (record { unput = refl; taken = refl; blames = refl })
          | inr behind ↦ plain_told o (plain o behind)
        ] in
        goes out.lines_rest lines_are is_told (λ o h. (plain o h).quiet)
        (told_keeps (Has d) out.between certificate.body new out.lines_rest rest between (told_has d certificate.body.r.0 out.between between))

    held_reply : (d : ServerView) (last : Round) (answer : Answer) (replied new : PartsView) (lines : List Outcome) (auditor : AuditorView)
        → answer ≡ answers.Acts (acts.Held certificate.body.r ∷ []) → replied ≡ record (with_server old j d) { auditor = auditor }
        → ComesOfReply m j last answer (Some certificate.body) replied new lines
        → (((rest : List Outcome) → lines ≡ outcomes.Held (members.Server j) certificate.body.r ∷ rest → (told : (o : Outcome) → Contains lines o → IsTold o)
        → ((o : Outcome) → Contains rest o → is_quiet o ≡ true) → Has d new → IsTied (next_run w (delivering id lines) w.plains w.sums) new))
        → IsTied (next_run w (delivering id lines) w.plains w.sums) new
    held_reply d last answer replied new lines auditor is kept (stays e tells) goes = let y = sym is ∙ e in absurd cc
    held_reply d last answer replied new lines auditor is kept (takes other up) goes =
        held_after d last answer up.heard new lines is (replied_has d replied up.heard auditor kept up.hears) up.comes goes

    holds_reply : (new : PartsView) (lines : List Outcome) (core : ReachesCore m j x c old new lines) → HoldsOn c certificate core.answer core.replies.after
        → IsTied (next_run w (delivering id lines) w.plains w.sums) new
    holds_reply new lines core (is_known r why is same) =
        ignored_reply core.replies.after core.last reasons.Known core.answer (body_of x) core.replied new lines core.replies.auditor is same core.replies.kept core.comes
    holds_reply new lines core (has_no_prev prev why is same) =
        ignored_reply core.replies.after core.last reasons.Prev core.answer (body_of x) core.replied new lines core.replies.auditor is same core.replies.kept core.comes
    holds_reply new lines core (is_off_floor count last why is same) =
        ignored_reply core.replies.after core.last reasons.Floor core.answer (body_of x) core.replied new lines core.replies.auditor is same core.replies.kept core.comes
    holds_reply new lines core (is_of_other_length have need why is same) =
        ignored_reply core.replies.after core.last reasons.Length core.answer (body_of x) core.replied new lines core.replies.auditor is same core.replies.kept core.comes
    holds_reply new lines core (is_held can not_running is same) =
        held_reply core.replies.after core.last core.answer core.replied new lines core.replies.auditor is core.replies.kept
        (subst (λ (y : Opened). ComesOfReply m j core.last core.answer (body_of y) core.replied new lines) is_certificate core.comes)
        (λ rest lines_are told quiet has_it.
        held_so w old id m tied found j to c at_c unsaid lines told certificate can
        (put_before (with_delivered (log w) id) refl (next_run w (delivering id lines) w.plains w.sums) refl (log_is w old id m tied found j to c at_c unsaid lines told))
        rest lines_are quiet core.replies.after new (subst (λ (y : Opened). IsRuled y c core.replies.after) is_certificate core.replies.rules) same has_it)
    holds_reply new lines core (ends_run can running is same) =
        held_reply core.replies.after core.last core.answer core.replied new lines core.replies.auditor is core.replies.kept
        (subst (λ (y : Opened). ComesOfReply m j core.last core.answer (body_of y) core.replied new lines) is_certificate core.comes)
        (λ rest lines_are told quiet has_it.
        ends_so w old id m tied found j to c at_c unsaid lines told certificate can
        (put_before (with_delivered (log w) id) refl (next_run w (delivering id lines) w.plains w.sums) refl (log_is w old id m tied found j to c at_c unsaid lines told))
        rest lines_are quiet core.replies.after new (subst (λ (y : Opened). IsRuled y c core.replies.after) is_certificate core.replies.rules) running.0 running.1 same has_it)

-- by what the payload carries
core_reached : (w : RunView) (old : PartsView) (id : ℕ) (m : Msg) (tied : IsTied w old) (found : with_id id old.flight.msgs ≡ Some m) (j : ServerId) (to : m.to ≡ members.Server j)
    (c : ServerView) (at_c : server_at old j ≡ Some c) (x : Opened) → opened_at old m.payload ≡ Some x → IsUnsaid x → (new : PartsView) (lines : List Outcome)
    → ReachesCore m j x c old new lines → IsTied (next_run w (delivering id lines) w.plains w.sums) new
core_reached w old id m tied found j to c at_c (opened.Certificate certificate) carries u new lines core =
    holds_reply w old id m tied found j to c at_c (opened.Certificate certificate) carries u certificate refl new lines core core.replies.answered
core_reached w old id m tied found j to c at_c (opened.Challenge challenge) carries u new lines core =
    ignored_reply w old id m tied found j to c at_c (opened.Challenge challenge) carries u core.replies.after core.last reasons.Kind core.answer None core.replied new lines
    core.replies.auditor core.replies.answered.0 core.replies.answered.1 core.replies.kept core.comes
core_reached w old id m tied found j to c at_c (opened.Submission cipher said) carries u new lines core = absurd u
core_reached w old id m tied found j to c at_c (opened.Plain said) carries u new lines core = absurd u

pub server_reached_is_tied : (w : RunView) (old : PartsView) (id : ℕ) (m : Msg) (tied : IsTied w old) (found : with_id id old.flight.msgs ≡ Some m) (j : ServerId) (to : m.to ≡ members.Server j)
    (c : ServerView) → server_at old j ≡ Some c → (x : Opened) → opened_at old m.payload ≡ Some x → IsUnsaid x → (new : PartsView) (lines : List Outcome)
    → ReachesServer m j old new lines → IsTied (next_run w (delivering id lines) w.plains w.sums) new
server_reached_is_tied w old id m tied found j to c at_c x carries u new lines (reaches y d opens at_d core) =
    core_reached w old id m tied found j to d at_d y opens (subst IsUnsaid (same_Some x y (sym carries ∙ opens)) u) new lines core
server_reached_is_tied w old id m tied found j to c at_c x carries u new lines (passes why rests) =
    absurd (elim why [ inl none ↦ no_open (sym none ∙ carries) | inr none ↦ no_core (sym none ∙ at_c) ]) where
      no_open : ◌≡◌ {A = Option Opened} None (Some x) → ⊥
      no_open e = absurd cc

      no_core : ◌≡◌ {A = Option ServerView} None (Some c) → ⊥
      no_core e = absurd cc
