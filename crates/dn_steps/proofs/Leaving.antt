-- A client leaves.
use Rattle.std.proofs.Common.{◌≡◌, ℕ, ◌≤◌, List, [], ◌∷◌, length, refl, sym, ap, subst, ◌∙◌, inl, inr, true, false}
use Rattle.std.specs.Prelude.{Contains, Option, Some, None, slice_get}
use Rattle.std.proofs.lemmas.List.{length-set}
use Rattle.dn_wire.specs.declared.ids.ClientId.{ClientId}
use Rattle.dn_wire.specs.declared.ids.Member.TheVariants as members
use Rattle.dn_client.specs.Client.{ClientView, IsClient}
use Rattle.dn_report.specs.declared.event.Event.TheVariants as events
use Rattle.dn_report.specs.declared.outcome.Outcome.{Outcome}
use Rattle.dn_report.specs.declared.outcome.Outcome.TheVariants as outcomes
use Rattle.dn_state.specs.Parts.{PartsView}
use Rattle.dn_state.specs.Members.{client_at}
use Rattle.dn_state.specs.Calling.{Leaves, left_in, without_client}
use Rattle.dn_headline.specs.Log.{Step, Log, Put, with_outcomes, AreNumbered}
use Rattle.dn_headline.specs.Run.{RunView, log}
use Rattle.dn_headline.specs.Plains.{texts_of}
use Rattle.dn_links.specs.ClientLink.ClientCall.{rests}
use Rattle.dn_links.specs.Judging.{OtherStep}
use Rattle.dn_steps.specs.Fitting.{FitsLog}
use Rattle.dn_steps.specs.Tied.{IsTied}
use Rattle.dn_steps.proofs.Places.{only}
use Rattle.dn_steps.proofs.Clients.{left_is_client}
use Rattle.dn_steps.proofs.Members.{client_is_honest, client_core_is}
use Rattle.dn_steps.proofs.Removing.{with_dropped, dropped_fits}
use Rattle.dn_steps.proofs.Runs.{next_run, log_next, step_cases, is_quiet, is_of_put, is_blame, unput_lines}
use Rattle.dn_steps.proofs.Quiet.{texts_rest}
use Rattle.dn_steps.proofs.Resting.{none_put, rested}
use Rattle.dn_steps.proofs.Idle.{other_step}
use Rattle.dn_steps.proofs.OneClient.{turned}

module _ (w : RunView) (old : PartsView) (i : ClientId) (n : ℕ) (tied : IsTied w old) where
  abbrev lines : List Outcome
  lines = outcomes.Dropped n ∷ []

  abbrev s : Step
  s = record { event = events.Leave i; outcomes = lines }

  abbrev v : RunView
  v = next_run w s w.plains w.sums

  of_line : (P : Outcome → Type 0) → P (outcomes.Dropped n) → (o : Outcome) → Contains lines o → P o
  of_line P p o h = subst P (only (outcomes.Dropped n) o h) p

  unput : (with_outcomes true (members.Client i) (with_dropped (log w) i) lines ≡ with_dropped (log w) i) × AreNumbered true (members.Client i) (with_dropped (log w) i) lines
  unput = unput_lines true (members.Client i) (with_dropped (log w) i) lines (of_line (λ o. is_of_put o ≡ false) refl)

  at : log v ≡ with_dropped (log w) i
  at = log_next w s w.plains w.sums ∙ unput.0

  no_put : (k : ℕ) (p : Put) → length (log w).puts ≤ k → slice_get (log v).puts k ≡ Some p → ⊥
  no_put k p past there = none_put (log w).puts (log v).puts (ap (λ (l : Log). l.puts) at) k p past there

  fits : FitsLog w.group (log v) (without_client old i)
  fits =
      let dropped = dropped_fits w.group (log w) old i tied.fits in
      subst (λ (l : Log). FitsLog w.group l (without_client old i)) (sym at)
      (record { payloads = dropped.payloads; flight = dropped.flight; chain = dropped.chain; heard = dropped.heard })

  leave_is_not : (id : ℕ) → events.Leave i ≡ events.Deliver id → ⊥
  leave_is_not id e = absurd cc

  other : OtherStep s
  other = other_step (events.Leave i) lines (λ r k e. absurd cc) (of_line (λ o. is_blame o ≡ false) refl)

  with_core : (c : ClientView) → client_at old i ≡ Some c → IsTied v (without_client old i)
  with_core c here =
      let h = client_is_honest w old tied i c here in
      let link = subst (λ (z : ClientView). z.queue ≡ texts_of w i) (client_core_is old i c here) (tied.clients i h).linked.queue in
      turned w old (without_client old i) s w.plains tied i c (record c { left = true }) (record {
        here = here;
        clients = ap (left_in old.clients i.0) here;
        rest = record { roster = refl; opens = refl; group = refl; servers = refl; left = length-set old.left i.0 true };
        quiet = of_line (λ o. is_quiet o ≡ true) refl;
        fits = fits;
        orderly = record { numbered = unput.1; delivers = λ id e taken. absurd cc };
        by_client = λ k p past there own. absurd (no_put k p past there);
        unheard = λ x j r t m honest phase carries now. leave_is_not now.0 now.1;
        call = rests (record { who = refl; chain = refl; made = refl; signed = refl; signed_as_slot = refl; bent = refl });
        queue = link ∙ sym (texts_rest w old old s w.plains w.sums tied i refl);
        others = λ k apart. refl;
        more = λ m there. there;
        made = λ m there. inl there;
        client = left_is_client c (subst IsClient (client_core_is old i c here) (tied.clients i h).client);
        put = λ t now. absurd (no_put now.at now.put now.new now.there);
        put_accused = λ slot t owns now. absurd (no_put now.at now.put now.new now.there);
        judge = λ x there. elim (step_cases w s x there) [ inl before ↦ inl before | inr this ↦ inr (inr (subst OtherStep this other)) ];
      })

  without_core : client_at old i ≡ None → IsTied v (without_client old i)
  without_core none = rested w old (without_client old i) s tied (record {
    quiet = of_line (λ o. is_quiet o ≡ true) refl;
    members = record { roster = refl; opens = refl; group = refl; clients = ap (left_in old.clients i.0) none; servers = refl; left = length-set old.left i.0 true };
    fits = fits;
    orderly = record { numbered = unput.1; delivers = λ id e taken. absurd cc };
    unput = λ k p past there own. no_put k p past there;
    unheard = λ x j r t m honest phase carries now. leave_is_not now.0 now.1;
    untexted = λ k h. refl;
    judge = λ x there. elim (step_cases w s x there) [ inl before ↦ inl before | inr this ↦ inr (inr (subst OtherStep this other)) ];
  })

  pub left_so : (o : Option ClientView) → client_at old i ≡ o → IsTied v (without_client old i)
  left_so (Some c) here = with_core c here
  left_so None none = without_core none

pub left_is_tied : (w : RunView) (old new : PartsView) (i : ClientId) (told : List Outcome) → IsTied w old → Leaves i old new told
    → IsTied (next_run w (record { event = events.Leave i; outcomes = told }) w.plains w.sums) new
left_is_tied w old new i told tied tells =
    subst (λ (os : List Outcome). IsTied (next_run w (record { event = events.Leave i; outcomes = os }) w.plains w.sums) new) (sym tells.1)
    (subst (IsTied (next_run w (record { event = events.Leave i; outcomes = outcomes.Dropped _ ∷ [] }) w.plains w.sums)) (sym tells.0)
    (left_so w old i _ tied (client_at old i) refl))
