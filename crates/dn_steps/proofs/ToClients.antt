-- A message reaches an honest client.
use Rattle.std.proofs.Common.{◌≡◌, ℕ, ◌≤◌, List, [], ◌∷◌, length, refl, sym, ap, subst, ◌∙◌, inl, inr, true, false}
use Rattle.std.specs.Prelude.{Contains, Some, slice_get, slice_set, option_map}
use Rattle.std.specs.List.{list_any}
use Rattle.std.proofs.lemmas.Option.{same_Some}
use Rattle.std.proofs.lemmas.List.Elements.{Contains-append_right}
use Rattle.dn_wire.specs.declared.ids.ClientId.{ClientId}
use Rattle.dn_wire.specs.declared.ids.ServerId.{ServerId}
use Rattle.dn_wire.specs.declared.ids.Round.{Round}
use Rattle.dn_wire.specs.declared.ids.Member.{Member}
use Rattle.dn_wire.specs.declared.ids.Member.TheVariants as members
use Rattle.dn_wire.specs.declared.ids.SignerId.TheVariants.{Client, Slot}
use Rattle.dn_record_types.specs.declared.statement.Statement.{Statement}
use Rattle.dn_record_types.specs.declared.payload.Payload.{Payload}
use Rattle.dn_record_types.specs.declared.payload.Payload.TheVariants as payloads
use Rattle.dn_records.specs.Records.{payload_bytes}
use Rattle.dn_roster.specs.Roster.{RosterView}
use Rattle.dn_seal.specs.Said.{Unseals}
use Rattle.dn_seal.specs.Challenge.{AreOpened}
use Rattle.dn_seal.specs.declared.challenge.Challenge.{Challenge}
use Rattle.dn_seal.proofs.SaidLemmas.{sealed_unseals}
use Rattle.dn_cert.specs.Certificate.{CertificateView}
use Rattle.dn_cert.specs.Opening.{IsOpened}
use Rattle.dn_cert.specs.declared.opened.Opened.{Opened}
use Rattle.dn_cert.specs.declared.opened.Opened.TheVariants as opened
use Rattle.dn_cert.proofs.Orders.{here}
use Rattle.dn_client.specs.Client.{ClientView, IsClient, IsIn, sealed_as_client}
use Rattle.dn_client.specs.Answering.{IsRebutted, rebuttal_of}
use Rattle.dn_report.specs.declared.event.Event.TheVariants as events
use Rattle.dn_report.specs.declared.outcome.Outcome.{Outcome}
use Rattle.dn_payloads.specs.declared.content.Content.{Content}
use Rattle.dn_payloads.specs.declared.content.Content.TheVariants as contents
use Rattle.dn_payloads.specs.Payloads.{PayloadView, IsContent}
use Rattle.dn_flight.specs.declared.msg.Msg.{Msg}
use Rattle.dn_flight.specs.Flight.{with_id}
use Rattle.dn_state.specs.Parts.{PartsView}
use Rattle.dn_state.specs.Doing.{own}
use Rattle.dn_state.specs.Members.{client_at, with_client, all_servers}
use Rattle.dn_state.specs.Calling.{PutsToServers}
use Rattle.dn_state.specs.Delivering.{content_of, opened_in, opened_at, without_message}
use Rattle.dn_headline.specs.Group.{IsHonestServer}
use Rattle.dn_headline.specs.Log.{Step, Log, Message, Put, message_of, is_early_or_none, with_outcomes, with_removal, AreNumbered, IsOrderly}
use Rattle.dn_headline.specs.Run.{RunView, log}
use Rattle.dn_headline.specs.Certified.{IsCertificateOf, IsCertified}
use Rattle.dn_headline.specs.Plains.{texts_of}
use Rattle.dn_headline.specs.Delivered.{IsPhaseOf}
use Rattle.dn_headline.specs.Invariant.{Carries}
use Rattle.dn_links.specs.ClientLink.{ClientCall}
use Rattle.dn_links.specs.ClientLink.ClientCall.{answers}
use Rattle.dn_links.specs.Judging.{JudgeCalled, OtherStep}
use Rattle.dn_steps.specs.Fitting.{FitsLog}
use Rattle.dn_steps.specs.Tied.{IsTied}
use Rattle.dn_steps.proofs.Places.{one_at}
use Rattle.dn_steps.proofs.Following.{certificate_of_content}
use Rattle.dn_steps.proofs.Putting.{PutsSo, puts_so}
use Rattle.dn_steps.proofs.PutLines.{puts_lines, puts_keep_members}
use Rattle.dn_steps.proofs.Removing.{with_delivered, delivered_fits}
use Rattle.dn_steps.proofs.Members.{client_is_honest, client_core_is}
use Rattle.dn_steps.proofs.Runs.{next_run, log_next, step_cases, is_of_put, is_blame, put_is_quiet, put_is_taken, put_blames_none, unput_lines, all_taken}
use Rattle.dn_steps.proofs.Quiet.{texts_rest}
use Rattle.dn_steps.proofs.Resting.{none_put}
use Rattle.dn_steps.proofs.Saying.{client_fits_too}
use Rattle.dn_steps.proofs.Idle.{other_step}
use Rattle.dn_steps.proofs.OwnPuts.{StandsAlone, put_by_client, plain_stands, plain_fronts, plain_goes, no_slot}
use Rattle.dn_steps.proofs.Taking.{IsPlain, delivering, taken_log, receiver, in_flight, payload, same_deliver}
use Rattle.dn_steps.proofs.OneClient.{SameServers, turned}
use Rattle.dn_steps.proofs.Unputting.{KeepsFronts}

-- ---- what opens is what the payload has

content_opens : (content : Content) (x : Opened) → opened_in (Some content) ≡ Some x → content ≡ contents.Opened x
content_opens (contents.Opened y) x e = ap contents.Opened (same_Some y x e)
content_opens contents.Form x e = absurd cc
content_opens contents.Stranger x e = absurd cc
content_opens contents.Signature x e = absurd cc

opens_challenge : (roster : RosterView) (c : Challenge) (p : Payload) → IsOpened roster p (opened.Challenge c) → (envelopes : List (List ℕ)) × AreOpened roster envelopes c.shown.items
opens_challenge roster c (payloads.Challenge r k envelopes) o = (envelopes, o.2)
opens_challenge roster c (payloads.Submission cipher envelope) o = absurd o
opens_challenge roster c (payloads.Plain envelope) o = absurd o
opens_challenge roster c (payloads.Certificate body signatures) o = absurd o

module _ (w : RunView) (old : PartsView) (id : ℕ) (m : Msg) (tied : IsTied w old) (found : with_id id old.flight.msgs ≡ Some m) (i : ClientId) (to : m.to ≡ members.Client i) where
  abbrev start : Log
  start = with_delivered (log w) id

  abbrev gone : PartsView
  gone = without_message old id

  pub gone_fits : FitsLog w.group start gone
  gone_fits = delivered_fits w.group (log w) old id tied.fits

  actor : (message_of (log w) id).to ≡ members.Client i
  actor = receiver w old id m tied found ∙ to

  -- the content of the message's payload
  pub opened_so : (x : Opened) → opened_at gone m.payload ≡ Some x → (p : PayloadView) × Contains old.payloads.items p × IsContent w.group.roster p.bytes (contents.Opened x)
  opened_so x e =
      let p = payload w old id m tied found in
      let content : content_of old.payloads m.payload ≡ Some p.0.content = ap (option_map (λ (y : PayloadView). y.content)) p.1 in
      let is = content_opens p.0.content x (ap opened_in (sym content) ∙ e) in
      let inside = one_at old.payloads.items m.payload p.0 p.1 in
      (p.0, inside, subst (IsContent w.group.roster p.0.bytes) is (tied.fits.payloads.content p.0 inside))

  module _ (lines : List Outcome) (taken : (o : Outcome) → Contains lines o → is_early_or_none o ≡ false) (blames : (o : Outcome) → Contains lines o → is_blame o ≡ false) where
    abbrev s : Step
    s = delivering id lines

    abbrev v : RunView
    v = next_run w s w.plains w.sums

    removal : with_removal (log w) (events.Deliver id) lines ≡ start
    removal = taken_log (log w) id lines (all_taken lines taken)

    log_is : log v ≡ with_outcomes true (members.Client i) start lines
    log_is =
        log_next w s w.plains w.sums ∙ ap (λ (l : Log). with_outcomes true (message_of (log w) id).to l lines) removal
        ∙ ap (λ (a : Member). with_outcomes true a start lines) actor

    orderly : AreNumbered true (members.Client i) start lines → IsOrderly (log w) s
    orderly numbered = record {
      numbered = subst (λ (l : Log). AreNumbered true (message_of (log w) id).to l lines) (sym removal)
          (subst (λ (a : Member). AreNumbered true a start lines) (sym actor) numbered);
      delivers = λ n e was. subst (Contains (log w).flight) (same_deliver w old id m tied found n lines e) (in_flight w old id m tied found);
    }

    not_server : (j : ServerId) → members.Client i ≡ members.Server j → ⊥
    not_server j e = absurd cc

    unheard : (x j : ServerId) (r : Round) (t : Statement) (y : Message) → IsHonestServer w.group j → IsPhaseOf r t → Carries v x j t y
        → (n : ℕ) × (s.event ≡ events.Deliver n) × (list_any is_early_or_none s.outcomes ≡ false) × (message_of (log w) n ≡ y) → ⊥
    unheard x j r t y honest phase carries now =
        let same : message_of (log w) id ≡ y = ap (message_of (log w)) (same_deliver w old id m tied found now.0 lines now.1) ∙ now.3 in
        not_server j (sym actor ∙ ap (λ (z : Message). z.to) same ∙ carries.to)

    judge : JudgeCalled w v
    judge = λ x there. elim (step_cases w s x there) [
      | inl before ↦ inl before
      | inr this ↦ inr (inr (subst OtherStep this (other_step (events.Deliver id) lines (λ r k e. absurd cc) blames)))
    ]

    -- a client's texts are those that it had
    module _ (c : ClientView) (at_c : client_at old i ≡ Some c) where
      texts : c.queue ≡ texts_of v i
      texts =
          let h = client_is_honest w old tied i c at_c in
          subst (λ (z : ClientView). z.queue ≡ texts_of w i) (client_core_is old i c at_c) (tied.clients i h).linked.queue
          ∙ sym (texts_rest w old old s w.plains w.sums tied i refl)

  -- ---- lines are told of the client

  module _ (lines : List Outcome) (plain : (o : Outcome) → Contains lines o → IsPlain o) where
    unput : (with_outcomes true (members.Client i) start lines ≡ start) × AreNumbered true (members.Client i) start lines
    unput = unput_lines true (members.Client i) start lines (λ o h. (plain o h).unput)

    pub log_plain : log (next_run w (delivering id lines) w.plains w.sums) ≡ start
    log_plain = log_is lines (λ o h. (plain o h).taken) (λ o h. (plain o h).blames) ∙ unput.0

    pub client_taken : (c d : ClientView) → client_at old i ≡ Some c → (new : PartsView) → new.clients ≡ slice_set old.clients i.0 (Some d) → SameServers old new
        → FitsLog w.group start new → ClientCall (next_run w (delivering id lines) w.plains w.sums) i c d → d.queue ≡ c.queue → IsClient d
        → IsTied (next_run w (delivering id lines) w.plains w.sums) new
    client_taken c d at_c new clients rest fits call queue client =
        let t = λ (o : Outcome) (h : Contains lines o). (plain o h).taken in
        let b = λ (o : Outcome) (h : Contains lines o). (plain o h).blames in
        let v = next_run w (delivering id lines) w.plains w.sums in
        let no_put : (n : ℕ) (p : Put) → length (log w).puts ≤ n → slice_get (log v).puts n ≡ Some p → ⊥ =
        λ n p past there. none_put (log w).puts (log v).puts (ap (λ (l : Log). l.puts) log_plain) n p past there in
        turned w old new (delivering id lines) w.plains tied i c d (record {
          here = at_c;
          clients = clients;
          rest = rest;
          quiet = λ o h. (plain o h).quiet;
          fits = subst (λ (l : Log). FitsLog w.group l new) (sym log_plain) fits;
          orderly = orderly lines t b unput.1;
          by_client = λ n p past there own. absurd (no_put n p past there);
          unheard = unheard lines t b;
          call = call;
          queue = queue ∙ texts lines t b c at_c;
          others = λ k other. refl;
          more = λ y there. there;
          made = λ y there. inl there;
          client = client;
          put = λ x now. absurd (no_put now.at now.put now.new now.there);
          put_accused = λ slot x owns now. absurd (no_put now.at now.put now.new now.there);
          judge = judge lines t b;
        })

    -- a certificate that the message carries was put
    pub carried_certificate : (c : CertificateView) → opened_at gone m.payload ≡ Some (opened.Certificate c) → IsCertified (next_run w (delivering id lines) w.plains w.sums) c.body
    carried_certificate c e =
        let p = opened_so (opened.Certificate c) e in
        let put = tied.fits.payloads.put p.0 p.1 in
        record {
          put = put.0;
          there = subst (λ (l : Log). Contains l.puts put.0) (sym log_plain) put.1;
          certificate = c;
          is = subst (λ (b : List ℕ). IsCertificateOf w.group.roster b c) (sym put.2) (certificate_of_content w.group.roster p.0.bytes c p.2);
          body = refl;
        }

  -- ---- the client answers a challenge

  pub client_rebuts : (c d : ClientView) (challenge : Challenge) (envelope : List ℕ) (new : PartsView) (lines : List Outcome) → client_at old i ≡ Some c
      → opened_at gone m.payload ≡ Some (opened.Challenge challenge) → IsRebutted c challenge envelope d → IsClient d
      → PutsToServers i envelope (with_client gone i d) new lines → IsTied (next_run w (delivering id lines) w.plains w.sums) new
  client_rebuts c d challenge envelope new lines at_c carries rebutted client put =
      let mid = with_client gone i d in
      let v = next_run w (delivering id lines) w.plains w.sums in
      let bytes = payload_bytes (payloads.Plain envelope) in
      let to_all = all_servers mid in
      let h = client_is_honest w old tied i c at_c in
      let link = subst (λ (z : ClientView). IsIn w.group.roster z.who × (z.who.me ≡ i) × IsClient z) (client_core_is old i c at_c)
      ((tied.clients i h).linked.within, (tied.clients i h).linked.me, (tied.clients i h).client) in
      let of_put : (o : Outcome) → Contains lines o → is_of_put o ≡ true = λ o there. puts_lines mid new (own (members.Client i)) to_all bytes lines put o there in
      let t : (o : Outcome) → Contains lines o → is_early_or_none o ≡ false = λ o there. put_is_taken o (of_put o there) in
      let b : (o : Outcome) → Contains lines o → is_blame o ≡ false = λ o there. put_blames_none o (of_put o there) in
      let so : PutsSo w.group true (members.Client i) to_all bytes start new lines =
      puts_so w.group start mid new (own (members.Client i)) to_all bytes lines (client_fits_too w.group start gone i d gone_fits) tied.group.opens
      (plain_goes w.group.roster envelope to_all) put in
      let keeps = puts_keep_members mid new (own (members.Client i)) to_all bytes lines put in
      let statement = rebuttal_of c.who challenge rebutted.server rebutted.false_bit.said in
      let unseals : Unseals w.group.roster envelope (Client i) statement =
      subst (λ (e : List ℕ). Unseals w.group.roster e (Client i) statement) (sym rebutted.sealed)
      (subst (λ (z : ClientId). Unseals w.group.roster (sealed_as_client c.who (length c.signed) statement) (Client z) statement) link.1
      (sealed_unseals w.group.roster c.who.digest (Client c.who.me) c.who.key (length c.signed) statement link.0.digest link.0.key link.2.keys.0 rebutted.leaf rebutted.fits)) in
      let stands : StandsAlone w v (Client i) statement = plain_stands w v i to_all bytes start new lines so refl (log_is lines t b) envelope refl (Client i) statement unseals in
      let signed : Contains d.signed statement =
      subst (λ (z : ClientView). Contains z.signed statement) (sym rebutted.kept) (Contains-append_right c.signed (statement ∷ []) statement (here statement [])) in
      let opens = opened_so (opened.Challenge challenge) carries in
      let shown = opens_challenge w.group.roster challenge opens.2.0 opens.2.3 in
      turned w old new (delivering id lines) w.plains tied i c d (record {
        here = at_c;
        clients = keeps.clients;
        rest = record { roster = keeps.roster; opens = keeps.opens; group = keeps.group; servers = keeps.servers; left = keeps.left };
        quiet = λ o there. put_is_quiet o (of_put o there);
        fits = subst (λ (l : Log). FitsLog w.group l new) (sym (log_is lines t b)) so.fits;
        orderly = orderly lines t b so.numbered;
        by_client = put_by_client w v i to_all bytes start new lines so refl (log_is lines t b);
        unheard = unheard lines t b;
        call = answers challenge shown.0 envelope rebutted shown.1;
        queue = ap (λ (z : ClientView). z.queue) rebutted.kept ∙ texts lines t b c at_c;
        others = λ k other. refl;
        more = λ y there. there;
        made = λ y there. inl there;
        client = client;
        put = λ x now. subst (Contains d.signed) (sym (stands.alone (Client i) x now).1) signed;
        put_accused = λ slot x owns now. absurd (no_slot i slot (stands.alone (Slot slot) x now).0);
        judge = judge lines t b;
      })

  pub rebuttal_fronts : (c d : ClientView) (challenge : Challenge) (envelope : List ℕ) (new : PartsView) (lines : List Outcome) → client_at old i ≡ Some c
      → IsRebutted c challenge envelope d → PutsToServers i envelope (with_client gone i d) new lines → KeepsFronts w (next_run w (delivering id lines) w.plains w.sums)
  rebuttal_fronts c d challenge envelope new lines at_c rebutted put =
      let mid = with_client gone i d in
      let v = next_run w (delivering id lines) w.plains w.sums in
      let bytes = payload_bytes (payloads.Plain envelope) in
      let to_all = all_servers mid in
      let h = client_is_honest w old tied i c at_c in
      let link = subst (λ (z : ClientView). IsIn w.group.roster z.who × (z.who.me ≡ i) × IsClient z) (client_core_is old i c at_c)
      ((tied.clients i h).linked.within, (tied.clients i h).linked.me, (tied.clients i h).client) in
      let of_put : (o : Outcome) → Contains lines o → is_of_put o ≡ true = λ o there. puts_lines mid new (own (members.Client i)) to_all bytes lines put o there in
      let t : (o : Outcome) → Contains lines o → is_early_or_none o ≡ false = λ o there. put_is_taken o (of_put o there) in
      let b : (o : Outcome) → Contains lines o → is_blame o ≡ false = λ o there. put_blames_none o (of_put o there) in
      let so : PutsSo w.group true (members.Client i) to_all bytes start new lines =
      puts_so w.group start mid new (own (members.Client i)) to_all bytes lines (client_fits_too w.group start gone i d gone_fits) tied.group.opens
      (plain_goes w.group.roster envelope to_all) put in
      let statement = rebuttal_of c.who challenge rebutted.server rebutted.false_bit.said in
      let unseals : Unseals w.group.roster envelope (Client i) statement =
      subst (λ (e : List ℕ). Unseals w.group.roster e (Client i) statement) (sym rebutted.sealed)
      (subst (λ (z : ClientId). Unseals w.group.roster (sealed_as_client c.who (length c.signed) statement) (Client z) statement) link.1
      (sealed_unseals w.group.roster c.who.digest (Client c.who.me) c.who.key (length c.signed) statement link.0.digest link.0.key link.2.keys.0 rebutted.leaf rebutted.fits)) in
      plain_fronts w v i to_all bytes start new lines so refl (log_is lines t b) envelope refl (Client i) statement unseals refl
