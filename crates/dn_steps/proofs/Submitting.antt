-- A client submits what it made.
use Rattle.std.proofs.Common.{◌≡◌, ℕ, List, [], ◌∷◌, ◌++◌, refl, sym, ap, subst, ◌∙◌, inl, inr, true}
use Rattle.std.specs.Prelude.{Contains, ◌⊎◌, Some}
use Rattle.std.proofs.lemmas.List.Elements.{All-contains, Contains-append_left, Contains-append_right, Contains-append_cases}
use Rattle.dn_wire.specs.declared.ids.ClientId.{ClientId}
use Rattle.dn_wire.specs.declared.ids.ServerId.{ServerId}
use Rattle.dn_wire.specs.declared.ids.Round.{Round}
use Rattle.dn_wire.specs.declared.ids.Member.TheVariants as members
use Rattle.dn_wire.specs.declared.ids.SignerId.TheVariants.{Client, Slot}
use Rattle.dn_record_types.specs.declared.payload.Payload.TheVariants as payloads
use Rattle.dn_records.specs.Records.{payload_bytes, IsPayload}
use Rattle.dn_seal.specs.Said.{Unseals}
use Rattle.dn_cert.proofs.Orders.{here}
use Rattle.dn_cert.proofs.ListLemmas.{one_of_number}
use Rattle.dn_client.specs.declared.made.Made.{Made}
use Rattle.dn_client.specs.declared.submitting.Submission.{Submission}
use Rattle.dn_client.specs.Client.{ClientView, Identity, IsIn, IsMade, submission_of}
use Rattle.dn_client.specs.Submitting.{IsSubmitted, given_of}
use Rattle.dn_client.proofs.Envelopes.{made_unseals}
use Rattle.dn_report.specs.declared.event.Event.TheVariants as events
use Rattle.dn_report.specs.declared.outcome.Outcome.{Outcome}
use Rattle.dn_report.specs.declared.outcome.Outcome.TheVariants as outcomes
use Rattle.dn_state.specs.Parts.{PartsView}
use Rattle.dn_state.specs.Doing.{own}
use Rattle.dn_state.specs.Members.{client_at, with_client}
use Rattle.dn_state.specs.Calling.{Submits, SubmitsTo}
use Rattle.dn_state.specs.Calling.Submits.{submits as submits_so, refuses, rests}
use Rattle.dn_headline.specs.Log.{Step, Log, with_outcomes}
use Rattle.dn_headline.specs.Run.{RunView, PlainMade, log}
use Rattle.dn_headline.specs.Plains.{texts_of}
use Rattle.dn_links.specs.ClientLink.{IsPutOf, plain_of}
use Rattle.dn_links.specs.ClientLink.ClientCall.{submits}
use Rattle.dn_links.specs.Judging.{OtherStep}
use Rattle.dn_steps.specs.Fitting.{FitsLog}
use Rattle.dn_steps.specs.Tied.{IsTied}
use Rattle.dn_steps.proofs.Places.{only, one_at}
use Rattle.dn_steps.proofs.Putting.{PutsSo, puts_so}
use Rattle.dn_steps.proofs.PutLines.{puts_lines, puts_keep_members}
use Rattle.dn_steps.proofs.Members.{client_is_honest, client_core_is}
use Rattle.dn_steps.proofs.Runs.{next_run, log_next, step_cases, is_of_put, put_is_quiet, put_blames_none}
use Rattle.dn_steps.proofs.Quiet.{texts_rest}
use Rattle.dn_steps.proofs.Lengths.{made_fits}
use Rattle.dn_steps.proofs.Saying.{client_fits_too}
use Rattle.dn_steps.proofs.Idle.{IsCalm, no_lines, one_ignored, other_step, idle_is_tied}
use Rattle.dn_steps.proofs.OwnPuts.{StandsAlone, put_by_client, was_put, submission_stands, submission_fronts, no_slot}
use Rattle.dn_steps.proofs.OneClient.{turned}
use Rattle.dn_steps.proofs.Unputting.{KeepsFronts, none_unput, one_unput, unput_keeps}

pub submitting_is_calm : (i : ClientId) (j : ServerId) (r : Round) → IsCalm (events.Submit i j r)
submitting_is_calm i j r = record { removes = λ l lines. refl; delivers = λ id e. absurd cc; judges = λ q k e. absurd cc }

-- what a client gave, by what it gave of
pub record Gave (c d : ClientView) (r : Round) (s : Submission) (plains : List PlainMade) (more : List PlainMade) (i : ClientId) : Type 0 where
  pub made : Made
  pub there : Contains d.made made
  pub round : made.r ≡ r
  pub given : s ≡ given_of made
  pub who : d.who ≡ c.who
  pub queue : d.queue ≡ c.queue
  pub grows : (m : PlainMade) → Contains plains m → Contains more m
  pub has : Contains more (plain_of i made)
  pub new : (m : PlainMade) → Contains more m → Contains plains m ⊎ ((m.client ≡ i) × (of : Made) × Contains d.made of × (m ≡ plain_of i of))

-- with the plain texts that there are then
gave : (c d : ClientView) (r : Round) (s : Submission) (plains : List PlainMade) (i : ClientId) → ((m : Made) → Contains c.made m → Contains plains (plain_of i m))
    → IsSubmitted c r s d → (more : List PlainMade) × Gave c d r s plains more i
gave c d r s plains i were submitted =
    elim submitted.1 [
      | inl again ↦
          let last : Contains c.made again.made =
          subst (λ (ms : List Made). Contains ms again.made) (sym again.last.1) (Contains-append_right again.last.0 (again.made ∷ []) again.made (here again.made [])) in (
            plains,
            record {
              made = again.made;
              there = subst (λ (z : ClientView). Contains z.made again.made) (sym again.same) last;
              round = again.round;
              given = again.given;
              who = ap (λ (z : ClientView). z.who) again.same;
              queue = ap (λ (z : ClientView). z.queue) again.same;
              grows = λ m h. h;
              has = were again.made last;
              new = λ m h. inl h;
            },
          )
      | inr now ↦
          let there : Contains d.made now.made =
          subst (λ (z : ClientView). Contains z.made now.made) (sym now.kept) (Contains-append_right c.made (now.made ∷ []) now.made (here now.made [])) in (
            plains ++ plain_of i now.made ∷ [],
            record {
              made = now.made;
              there = there;
              round = now.content.round;
              given = now.given;
              who = ap (λ (z : ClientView). z.who) now.kept;
              queue = ap (λ (z : ClientView). z.queue) now.kept;
              grows = λ m h. Contains-append_left plains (plain_of i now.made ∷ []) m h;
              has = Contains-append_right plains (plain_of i now.made ∷ []) (plain_of i now.made) (here (plain_of i now.made) []);
              new = λ m h. elim (Contains-append_cases plains (plain_of i now.made ∷ []) m h) [
                | inl was ↦ inl was
                | inr last ↦ let is = only (plain_of i now.made) m last in inr (ap (λ (z : PlainMade). z.client) (sym is), now.made, there, sym is)
              ];
            },
          )
    ]

module _ (w : RunView) (old new : PartsView) (i : ClientId) (j : ServerId) (r : Round) (lines : List Outcome) (tied : IsTied w old)
    (c : ClientView) (at_c : client_at old i ≡ Some c) (to : SubmitsTo i j r c old new lines) where
  abbrev d : ClientView
  d = to.after

  abbrev s : Step
  s = record { event = events.Submit i j r; outcomes = lines }

  abbrev mid : PartsView
  mid = with_client old i d

  gives : (more : List PlainMade) × Gave c d r to.submission w.plains more i
  gives =
      let h = client_is_honest w old tied i c at_c in
      gave c d r to.submission w.plains i
      (λ m there. ((tied.clients i h).linked.made m (subst (λ (z : ClientView). Contains z.made m) (sym (client_core_is old i c at_c)) there)).0) to.given

  module _ (more : List PlainMade) (g : Gave c d r to.submission w.plains more i) where
    abbrev v : RunView
    v = next_run w s more w.sums

    abbrev bytes : List ℕ
    bytes = payload_bytes (payloads.Submission to.submission.cipher to.submission.envelope)

    so : PutsSo w.group true (members.Client i) (members.Server j ∷ []) bytes (log w) new lines
    so = puts_so w.group (log w) mid new (own (members.Client i)) (members.Server j ∷ []) bytes lines (client_fits_too w.group (log w) old i d tied.fits) tied.group.opens tt to.put

    at : log v ≡ with_outcomes true (members.Client i) (log w) lines
    at = log_next w s more w.sums

    cipher_is : to.submission.cipher ≡ g.made.cipher
    cipher_is = ap (λ (z : Submission). z.cipher) g.given

    envelope_is : to.submission.envelope ≡ g.made.envelope
    envelope_is = ap (λ (z : Submission). z.envelope) g.given

    within : IsIn w.group.roster d.who
    within =
        let h = client_is_honest w old tied i c at_c in
        subst (IsIn w.group.roster) (sym g.who) (subst (λ (z : ClientView). IsIn w.group.roster z.who) (client_core_is old i c at_c) (tied.clients i h).linked.within)

    me : d.who.me ≡ i
    me =
        let h = client_is_honest w old tied i c at_c in
        ap (λ (z : Identity). z.me) g.who ∙ subst (λ (z : ClientView). z.who.me ≡ i) (client_core_is old i c at_c) (tied.clients i h).linked.me

    fits : IsPayload (payloads.Submission to.submission.cipher to.submission.envelope)
    fits = subst (λ (z : Submission). IsPayload (payloads.Submission z.cipher z.envelope)) (sym g.given) (made_fits d g.made to.client g.there)

    unseals : Unseals w.group.roster to.submission.envelope (Client i) (submission_of d.who g.made)
    unseals =
        subst (λ (e : List ℕ). Unseals w.group.roster e (Client i) (submission_of d.who g.made)) (sym envelope_is)
        (subst (λ (z : ClientId). Unseals w.group.roster g.made.envelope (Client z) (submission_of d.who g.made)) me (made_unseals w.group.roster d g.made within to.client g.there))

    signed : Contains d.signed (submission_of d.who g.made)
    signed =
        let is = All-contains (IsMade d.who d.chain d.queue d.signed) d.made g.made to.client.made g.there in
        one_at d.signed is.sealed.0 (submission_of d.who g.made) is.sealed.2

    stands : StandsAlone w v (Client i) (submission_of d.who g.made)
    stands =
        submission_stands w v i (members.Server j ∷ []) bytes (log w) new lines so refl at to.submission.cipher to.submission.envelope fits refl (Client i)
        (submission_of d.who g.made) unseals

    put_of_made : (m : Made) → Contains d.made m → m.r ≡ r → IsPutOf v i m
    put_of_made m there round =
        let same : g.made ≡ m =
        one_of_number (λ (z : Made). z.r.0) d.made to.client.ascends g.made m g.there there (ap (λ (q : Round). q.0) (g.round ∙ sym round)) in
        let put = was_put w v i (members.Server j ∷ []) bytes (log w) new lines so refl at in
        subst (IsPutOf v i) same (record {
          of_run = g.has;
          put = put.0;
          there = put.1;
          is = record { fits = made_fits d g.made to.client g.there; spelled = put.2 ∙ ap (λ (z : Submission). payload_bytes (payloads.Submission z.cipher z.envelope)) g.given };
        })

    of_put : (o : Outcome) → Contains lines o → is_of_put o ≡ true
    of_put o there = puts_lines mid new (own (members.Client i)) (members.Server j ∷ []) bytes lines to.put o there

    submit_is_not : (id : ℕ) → events.Submit i j r ≡ events.Deliver id → ⊥
    submit_is_not id e = absurd cc

    pub submitted_with : IsTied v new
    submitted_with =
        let keeps = puts_keep_members mid new (own (members.Client i)) (members.Server j ∷ []) bytes lines to.put in
        let h = client_is_honest w old tied i c at_c in
        let link = subst (λ (z : ClientView). z.queue ≡ texts_of w i) (client_core_is old i c at_c) (tied.clients i h).linked.queue in
        turned w old new s more tied i c d (record {
          here = at_c;
          clients = keeps.clients;
          rest = record { roster = keeps.roster; opens = keeps.opens; group = keeps.group; servers = keeps.servers; left = keeps.left };
          quiet = λ o there. put_is_quiet o (of_put o there);
          fits = subst (λ (l : Log). FitsLog w.group l new) (sym at) so.fits;
          orderly = record { numbered = so.numbered; delivers = λ id e taken. absurd cc };
          by_client = put_by_client w v i (members.Server j ∷ []) bytes (log w) new lines so refl at;
          unheard = λ x k q t m honest phase carries now. submit_is_not now.0 now.1;
          call = submits r to.submission to.given put_of_made;
          queue = g.queue ∙ link ∙ sym (texts_rest w old new s more w.sums tied i refl);
          others = λ k other. refl;
          more = g.grows;
          made = g.new;
          client = to.client;
          put = λ t now. subst (Contains d.signed) (sym (stands.alone (Client i) t now).1) signed;
          put_accused = λ slot t owns now. absurd (no_slot i slot (stands.alone (Slot slot) t now).0);
          judge = λ x there. elim (step_cases w s x there) [
            | inl before ↦ inl before
            | inr this ↦ inr (inr (subst OtherStep this (other_step (events.Submit i j r) lines (submitting_is_calm i j r).judges (λ o told. put_blames_none o (of_put o told)))))
          ];
        })

    fronts_with : KeepsFronts w v
    fronts_with =
        submission_fronts w v i (members.Server j ∷ []) bytes (log w) new lines so refl at to.submission.cipher to.submission.envelope fits refl (Client i)
        (submission_of d.who g.made) unseals refl

  pub submitted_fronts : (plains : List PlainMade) → KeepsFronts w (next_run w s plains w.sums)
  submitted_fronts plains = fronts_with gives.0 gives.1

  pub submitted_is_tied : (plains : List PlainMade) × IsTied (next_run w s plains w.sums) new
  submitted_is_tied = (gives.0, submitted_with gives.0 gives.1)

-- a client submits, or refuses, or isn't there
pub submit_is_tied : (w : RunView) (old new : PartsView) (i : ClientId) (j : ServerId) (r : Round) (lines : List Outcome) → IsTied w old → Submits i j r old new lines
    → (plains : List PlainMade) × IsTied (next_run w (record { event = events.Submit i j r; outcomes = lines }) plains w.sums) new
submit_is_tied w old new i j r lines tied (submits_so c at_c to) = submitted_is_tied w old new i j r lines tied c at_c to
submit_is_tied w old new i j r lines tied (refuses c at_c nothing) = (
  w.plains,
  subst (λ (os : List Outcome). IsTied (next_run w (record { event = events.Submit i j r; outcomes = os }) w.plains w.sums) new) (sym nothing.told.tells.1)
      (idle_is_tied w old (events.Submit i j r) _ tied (submitting_is_calm i j r) (one_ignored nothing.told.why) (λ k h. refl) new nothing.told.tells.0),
)
submit_is_tied w old new i j r lines tied (rests none becomes) = (
  w.plains,
  subst (λ (os : List Outcome). IsTied (next_run w (record { event = events.Submit i j r; outcomes = os }) w.plains w.sums) new) (sym becomes.1)
      (idle_is_tied w old (events.Submit i j r) [] tied (submitting_is_calm i j r) no_lines (λ k h. refl) new becomes.0),
)

pub submit_fronts : (w : RunView) (old new : PartsView) (i : ClientId) (j : ServerId) (r : Round) (lines : List Outcome) → IsTied w old → Submits i j r old new lines
    → (plains : List PlainMade) → KeepsFronts w (next_run w (record { event = events.Submit i j r; outcomes = lines }) plains w.sums)
submit_fronts w old new i j r lines tied (submits_so c at_c to) plains = submitted_fronts w old new i j r lines tied c at_c to plains
submit_fronts w old new i j r lines tied (refuses c at_c nothing) plains =
    unput_keeps w (events.Submit i j r) lines plains w.sums (one_unput (outcomes.Ignored nothing.told.why) lines nothing.told.tells.1 refl)
submit_fronts w old new i j r lines tied (rests none becomes) plains = unput_keeps w (events.Submit i j r) lines plains w.sums (none_unput lines becomes.1)
