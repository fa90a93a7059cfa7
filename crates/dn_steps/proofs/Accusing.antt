-- A client accuses.
use Rattle.std.proofs.Common.{◌≡◌, ℕ, List, [], ◌∷◌, refl, sym, ap, subst, ◌∙◌, inl, inr, true}
use Rattle.std.specs.Prelude.{Contains, slice_get, Some}
use Rattle.std.proofs.lemmas.List.Elements.{All-contains, Contains-append_right}
use Rattle.dn_wire.specs.declared.ids.ClientId.{ClientId}
use Rattle.dn_wire.specs.declared.ids.Round.{Round}
use Rattle.dn_wire.specs.declared.ids.Member.TheVariants as members
use Rattle.dn_wire.specs.declared.ids.SignerId.TheVariants.{Client, Slot}
use Rattle.dn_record_types.specs.declared.payload.Payload.TheVariants as payloads
use Rattle.dn_records.specs.Records.{payload_bytes}
use Rattle.dn_seal.specs.Said.{Unseals}
use Rattle.dn_cert.proofs.Orders.{here}
use Rattle.dn_client.specs.declared.accused.Accused.{Accused}
use Rattle.dn_client.specs.Client.{ClientView, Identity, IsIn, IsAccused, accusation_of}
use Rattle.dn_client.specs.Accusing.{Accuses, accused_of}
use Rattle.dn_client.proofs.Envelopes.{accusation_unseals}
use Rattle.dn_report.specs.declared.event.Event.TheVariants as events
use Rattle.dn_report.specs.declared.outcome.Outcome.{Outcome}
use Rattle.dn_report.specs.declared.outcome.Outcome.TheVariants as outcomes
use Rattle.dn_state.specs.Parts.{PartsView}
use Rattle.dn_state.specs.Doing.{own}
use Rattle.dn_state.specs.Members.{client_at, with_client, all_servers}
use Rattle.dn_state.specs.Calling.{AccusesAt, AccusesAll}
use Rattle.dn_state.specs.Calling.AccusesAt.{accuses as accuses_so, refuses, rests}
use Rattle.dn_headline.specs.Log.{Step, Log, with_outcomes}
use Rattle.dn_headline.specs.Run.{RunView, log}
use Rattle.dn_headline.specs.Plains.{texts_of}
use Rattle.dn_links.specs.ClientLink.ClientCall.{accuses}
use Rattle.dn_links.specs.Judging.{OtherStep}
use Rattle.dn_steps.specs.Fitting.{FitsLog}
use Rattle.dn_steps.specs.Tied.{IsTied}
use Rattle.dn_steps.proofs.Places.{one_at}
use Rattle.dn_steps.proofs.Putting.{PutsSo, puts_so}
use Rattle.dn_steps.proofs.PutLines.{puts_lines, puts_keep_members}
use Rattle.dn_steps.proofs.Members.{client_is_honest, client_core_is}
use Rattle.dn_steps.proofs.Runs.{next_run, log_next, step_cases, is_of_put, put_is_quiet, put_blames_none}
use Rattle.dn_steps.proofs.Quiet.{texts_rest}
use Rattle.dn_steps.proofs.Saying.{client_fits_too}
use Rattle.dn_steps.proofs.Idle.{IsCalm, no_lines, one_ignored, other_step, idle_is_tied}
use Rattle.dn_steps.proofs.OwnPuts.{StandsAlone, put_by_client, plain_stands, plain_fronts, plain_goes, no_client_key}
use Rattle.dn_steps.proofs.OneClient.{turned}
use Rattle.dn_steps.proofs.Unputting.{KeepsFronts, none_unput, one_unput, unput_keeps}

accusing_is_calm : (i : ClientId) (r : Round) (k : ℕ) → IsCalm (events.Accuse i r k)
accusing_is_calm i r k = record { removes = λ l lines. refl; delivers = λ id e. absurd cc; judges = λ q n e. absurd cc }

-- what a client accused of
record AccusedSo (c d : ClientView) (envelope : List ℕ) : Type 0 where
  accused : Accused
  there : Contains d.accused accused
  given : envelope ≡ accused.envelope
  who : d.who ≡ c.who
  queue : d.queue ≡ c.queue

accused_so : (c d : ClientView) (r : Round) (k : ℕ) (envelope : List ℕ) → Accuses c r k envelope d → AccusedSo c d envelope
accused_so c d r k envelope h =
    elim h.2 [
      | inl again ↦ record {
        accused = again.accused;
        there = subst (λ (z : ClientView). Contains z.accused again.accused) (sym again.same) again.there;
        given = again.given;
        who = ap (λ (z : ClientView). z.who) again.same;
        queue = ap (λ (z : ClientView). z.queue) again.same;
      }
      | inr now ↦ record {
        accused = accused_of r k envelope;
        there = subst (λ (z : ClientView). Contains z.accused (accused_of r k envelope)) (sym now.kept)
            (Contains-append_right c.accused (accused_of r k envelope ∷ []) (accused_of r k envelope) (here (accused_of r k envelope) []));
        given = refl;
        who = ap (λ (z : ClientView). z.who) now.kept;
        queue = ap (λ (z : ClientView). z.queue) now.kept;
      }
    ]

module _ (w : RunView) (old new : PartsView) (i : ClientId) (r : Round) (k : ℕ) (lines : List Outcome) (tied : IsTied w old)
    (c : ClientView) (at_c : client_at old i ≡ Some c) (to : AccusesAll i r k c old new lines) where
  abbrev d : ClientView
  d = to.after

  abbrev s : Step
  s = record { event = events.Accuse i r k; outcomes = lines }

  abbrev v : RunView
  v = next_run w s w.plains w.sums

  abbrev mid : PartsView
  mid = with_client old i d

  abbrev bytes : List ℕ
  bytes = payload_bytes (payloads.Plain to.envelope)

  a : AccusedSo c d to.envelope
  a = accused_so c d r k to.envelope to.given

  so : PutsSo w.group true (members.Client i) (all_servers mid) bytes (log w) new lines
  so =
      puts_so w.group (log w) mid new (own (members.Client i)) (all_servers mid) bytes lines (client_fits_too w.group (log w) old i d tied.fits) tied.group.opens
      (plain_goes w.group.roster to.envelope (all_servers mid)) to.put

  at : log v ≡ with_outcomes true (members.Client i) (log w) lines
  at = log_next w s w.plains w.sums

  within : IsIn w.group.roster d.who
  within =
      let h = client_is_honest w old tied i c at_c in
      subst (IsIn w.group.roster) (sym a.who) (subst (λ (z : ClientView). IsIn w.group.roster z.who) (client_core_is old i c at_c) (tied.clients i h).linked.within)

  unseals : Unseals w.group.roster to.envelope (Slot d.who.slot) (accusation_of d.who a.accused)
  unseals =
      subst (λ (e : List ℕ). Unseals w.group.roster e (Slot d.who.slot) (accusation_of d.who a.accused)) (sym a.given)
      (accusation_unseals w.group.roster d a.accused within to.client a.there)

  signed : Contains d.signed_as_slot (accusation_of d.who a.accused)
  signed =
      let is = All-contains (IsAccused d.who d.chain d.signed_as_slot) d.accused a.accused to.client.accused a.there in
      one_at d.signed_as_slot is.sealed.0 (accusation_of d.who a.accused) is.sealed.2

  stands : StandsAlone w v (Slot d.who.slot) (accusation_of d.who a.accused)
  stands = plain_stands w v i (all_servers mid) bytes (log w) new lines so refl at to.envelope refl (Slot d.who.slot) (accusation_of d.who a.accused) unseals

  of_put : (o : Outcome) → Contains lines o → is_of_put o ≡ true
  of_put o there = puts_lines mid new (own (members.Client i)) (all_servers mid) bytes lines to.put o there

  accuse_is_not : (id : ℕ) → events.Accuse i r k ≡ events.Deliver id → ⊥
  accuse_is_not id e = absurd cc

  pub accused_is_tied : IsTied v new
  accused_is_tied =
      let keeps = puts_keep_members mid new (own (members.Client i)) (all_servers mid) bytes lines to.put in
      let h = client_is_honest w old tied i c at_c in
      let link = subst (λ (z : ClientView). z.queue ≡ texts_of w i) (client_core_is old i c at_c) (tied.clients i h).linked.queue in
      turned w old new s w.plains tied i c d (record {
        here = at_c;
        clients = keeps.clients;
        rest = record { roster = keeps.roster; opens = keeps.opens; group = keeps.group; servers = keeps.servers; left = keeps.left };
        quiet = λ o there. put_is_quiet o (of_put o there);
        fits = subst (λ (l : Log). FitsLog w.group l new) (sym at) so.fits;
        orderly = record { numbered = so.numbered; delivers = λ id e taken. absurd cc };
        by_client = put_by_client w v i (all_servers mid) bytes (log w) new lines so refl at;
        unheard = λ x j q t m honest phase carries now. accuse_is_not now.0 now.1;
        call = accuses r k to.envelope to.given;
        queue = a.queue ∙ link ∙ sym (texts_rest w old new s w.plains w.sums tied i refl);
        others = λ n other. refl;
        more = λ m there. there;
        made = λ m there. inl there;
        client = to.client;
        put = λ t now. absurd (no_client_key i d.who.slot (stands.alone (Client i) t now).0);
        put_accused = λ slot t owns now. subst (Contains d.signed_as_slot) (sym (stands.alone (Slot slot) t now).1) signed;
        judge = λ x there. elim (step_cases w s x there) [
          | inl before ↦ inl before
          | inr this ↦ inr (inr (subst OtherStep this (other_step (events.Accuse i r k) lines (accusing_is_calm i r k).judges (λ o told. put_blames_none o (of_put o told)))))
        ];
      })

  owns : slice_get w.group.owners d.who.slot.0 ≡ Some i
  owns =
      let h = client_is_honest w old tied i c at_c in
      subst (λ (z : Identity). slice_get w.group.owners z.slot.0 ≡ Some i) (sym a.who)
      (subst (λ (z : ClientView). slice_get w.group.owners z.who.slot.0 ≡ Some i) (client_core_is old i c at_c) (tied.clients i h).linked.owns)

  pub accused_fronts : KeepsFronts w v
  accused_fronts =
      plain_fronts w v i (all_servers mid) bytes (log w) new lines so refl at to.envelope refl (Slot d.who.slot) (accusation_of d.who a.accused) unseals (i, owns, refl)

-- a client accuses, or refuses, or isn't there
pub accuse_is_tied : (w : RunView) (old new : PartsView) (i : ClientId) (r : Round) (k : ℕ) (lines : List Outcome) → IsTied w old → AccusesAt i r k old new lines
    → IsTied (next_run w (record { event = events.Accuse i r k; outcomes = lines }) w.plains w.sums) new
accuse_is_tied w old new i r k lines tied (accuses_so c at_c to) = accused_is_tied w old new i r k lines tied c at_c to
accuse_is_tied w old new i r k lines tied (refuses c at_c nothing) =
    subst (λ (os : List Outcome). IsTied (next_run w (record { event = events.Accuse i r k; outcomes = os }) w.plains w.sums) new) (sym nothing.told.tells.1)
    (idle_is_tied w old (events.Accuse i r k) _ tied (accusing_is_calm i r k) (one_ignored nothing.told.why) (λ n h. refl) new nothing.told.tells.0)
accuse_is_tied w old new i r k lines tied (rests none becomes) =
    subst (λ (os : List Outcome). IsTied (next_run w (record { event = events.Accuse i r k; outcomes = os }) w.plains w.sums) new) (sym becomes.1)
    (idle_is_tied w old (events.Accuse i r k) [] tied (accusing_is_calm i r k) no_lines (λ n h. refl) new becomes.0)

pub accuse_fronts : (w : RunView) (old new : PartsView) (i : ClientId) (r : Round) (k : ℕ) (lines : List Outcome) → IsTied w old → AccusesAt i r k old new lines
    → KeepsFronts w (next_run w (record { event = events.Accuse i r k; outcomes = lines }) w.plains w.sums)
accuse_fronts w old new i r k lines tied (accuses_so c at_c to) = accused_fronts w old new i r k lines tied c at_c to
accuse_fronts w old new i r k lines tied (refuses c at_c nothing) =
    unput_keeps w (events.Accuse i r k) lines w.plains w.sums (one_unput (outcomes.Ignored nothing.told.why) lines nothing.told.tells.1 refl)
accuse_fronts w old new i r k lines tied (rests none becomes) = unput_keeps w (events.Accuse i r k) lines w.plains w.sums (none_unput lines becomes.1)
