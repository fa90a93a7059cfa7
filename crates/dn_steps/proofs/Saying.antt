-- A text joins a client's queue.
use Rattle.std.proofs.Common.{◌≡◌, ◌≢◌, ℕ, ◌≤◌, List, [], ◌∷◌, ◌++◌, length, refl, sym, ap, subst, ◌∙◌, arith, inl, inr, true, Bool, cond}
use Rattle.std.specs.Prelude.{◌==◌, Some, None, slice_get}
use Rattle.std.proofs.lemmas.Bool.{ne_eqb}
use Rattle.dn_wire.specs.declared.ids.ClientId.{ClientId}
use Rattle.dn_wire.specs.declared.limits.TheConstants.{MAX_TEXT}
use Rattle.dn_cert.proofs.Orders.{nothing, same_client}
use Rattle.dn_client.specs.Client.{ClientView, IsClient}
use Rattle.dn_report.specs.declared.outcome.Outcome.{Outcome}
use Rattle.dn_report.specs.declared.event.Event.TheVariants as events
use Rattle.dn_state.specs.Parts.{PartsView}
use Rattle.dn_state.specs.Members.{client_at, with_client}
use Rattle.dn_state.specs.Calling.{SaysText, with_text}
use Rattle.dn_state.specs.Calling.SaysText.{says, rests}
use Rattle.dn_headline.specs.Group.{GroupView, IsHonestClient}
use Rattle.dn_headline.specs.Log.{Step, Log, Put, with_outcomes, with_step}
use Rattle.dn_headline.specs.Run.{RunView, log}
use Rattle.dn_headline.specs.Plains.{text_in, texts_of}
use Rattle.dn_links.specs.ClientLink.ClientCall.{rests as rests_so}
use Rattle.dn_links.specs.Judging.{OtherStep}
use Rattle.dn_links.proofs.Clients.{texts_more}
use Rattle.dn_steps.specs.Fitting.{FitsLog}
use Rattle.dn_steps.specs.Tied.{IsTied}
use Rattle.dn_steps.proofs.Clients.{with_text_is_client}
use Rattle.dn_steps.proofs.Members.{client_is_honest, honest_client_has, client_core_is}
use Rattle.dn_steps.proofs.Runs.{next_run, log_next, step_cases}
use Rattle.dn_steps.proofs.Resting.{none_put}
use Rattle.dn_steps.proofs.Idle.{IsCalm, no_lines, other_step, idle_is_tied}
use Rattle.dn_steps.proofs.OneClient.{turned}

-- with another core the parts fit the log as they did
pub client_fits_too : (g : GroupView) (l : Log) (parts : PartsView) (i : ClientId) (d : ClientView) → FitsLog g l parts → FitsLog g l (with_client parts i d)
client_fits_too g l parts i d fits = record { payloads = fits.payloads; flight = fits.flight; chain = fits.chain; heard = fits.heard }

saying_is_calm : (i : ClientId) (text : List ℕ) → IsCalm (events.Say i text)
saying_is_calm i text = record { removes = λ l lines. refl; delivers = λ id e. absurd cc; judges = λ r k e. absurd cc }

abbrev saying : ClientId → List ℕ → Step
saying i text = record { event = events.Say i text; outcomes = [] }

log_after : (l : Log) (i : ClientId) (text : List ℕ) → with_step l (saying i text) ≡ l
unfolding with_outcomes
log_after l i text = refl

text_of_others : (i k : ClientId) (text : List ℕ) → k.0 ≢ i.0 → text_in k (events.Say i text) ≡ []
text_of_others i k text other = ap (λ (t : Bool). cond t (text ∷ []) []) (ne_eqb i.0 k.0 (λ e. other (sym e)))

text_of_itself : (i : ClientId) (text : List ℕ) → text_in i (events.Say i text) ≡ text ∷ []
text_of_itself i text = ap (λ (t : Bool). cond t (text ∷ []) []) (same_number i.0) where
  same_number : (n : ℕ) → (n == n) ≡ true
  same_number n = grind arith

module _ (w : RunView) (old new : PartsView) (i : ClientId) (text : List ℕ) (tied : IsTied w old) (short : length text ≤ MAX_TEXT) where
  abbrev v : RunView
  v = next_run w (saying i text) w.plains w.sums

  at : log v ≡ log w
  at = log_next w (saying i text) w.plains w.sums ∙ log_after (log w) i text

  no_put : (n : ℕ) (p : Put) → length (log w).puts ≤ n → slice_get (log v).puts n ≡ Some p → ⊥
  no_put n p past there = none_put (log w).puts (log v).puts (ap (λ (l : Log). l.puts) at) n p past there

  said_by : (c : ClientView) → client_at old i ≡ Some c → IsTied v (with_client old i (with_text c text))
  said_by c here =
      let h = client_is_honest w old tied i c here in
      let link = subst (λ (z : ClientView). z.queue ≡ texts_of w i) (client_core_is old i c here) (tied.clients i h).linked.queue in
      turned w old (with_client old i (with_text c text)) (saying i text) w.plains tied i c (with_text c text) (record {
        here = here;
        clients = refl;
        rest = record { roster = refl; opens = refl; group = refl; servers = refl; left = refl };
        quiet = λ o there. absurd (nothing o there);
        fits = subst (λ (l : Log). FitsLog w.group l (with_client old i (with_text c text))) (sym at) (client_fits_too w.group (log w) old i (with_text c text) tied.fits);
        orderly = record { numbered = tt; delivers = λ id e taken. absurd cc };
        by_client = λ n p past there own. absurd (no_put n p past there);
        unheard = λ x j r t m honest phase carries now. say_is_not now.0 now.1;
        call = rests_so (record { who = refl; chain = refl; made = refl; signed = refl; signed_as_slot = refl; bent = refl });
        queue =
            ap (λ (q : List (List ℕ)). q ++ text ∷ []) link ∙ ap (λ (ts : List (List ℕ)). texts_of w i ++ ts) (sym (text_of_itself i text))
            ∙ sym (texts_more i w.history (saying i text));
        others = λ k other. text_of_others i k text other;
        more = λ m there. there;
        made = λ m there. inl there;
        client = with_text_is_client c text short (subst IsClient (client_core_is old i c here) (tied.clients i h).client);
        put = λ t now. absurd (no_put now.at now.put now.new now.there);
        put_accused = λ slot t owns now. absurd (no_put now.at now.put now.new now.there);
        judge = λ x there. elim (step_cases w (saying i text) x there) [
          | inl before ↦ inl before
          | inr this ↦ inr (inr (subst OtherStep this (other_step (events.Say i text) [] (saying_is_calm i text).judges no_lines.blames)))
        ];
      })
    where
      say_is_not : (id : ℕ) → events.Say i text ≡ events.Deliver id → ⊥
      say_is_not id e = absurd cc

  unspoken : client_at old i ≡ None → (k : ClientId) → IsHonestClient w.group k → text_in k (events.Say i text) ≡ []
  unspoken none k h = text_of_others i k text (λ same.
      let some = honest_client_has w old tied k h in
      let both = sym none ∙ ap (client_at old) (sym (same_client k i same)) ∙ some in absurd cc)

  pub said_is_tied : (lines : List Outcome) → SaysText i text old new lines → IsTied (next_run w (record { event = events.Say i text; outcomes = lines }) w.plains w.sums) new
  said_is_tied lines (says c here becomes) =
      subst (λ (os : List Outcome). IsTied (next_run w (record { event = events.Say i text; outcomes = os }) w.plains w.sums) new) (sym becomes.1)
      (subst (IsTied v) (sym becomes.0) (said_by c here))
  said_is_tied lines (rests none becomes) =
      subst (λ (os : List Outcome). IsTied (next_run w (record { event = events.Say i text; outcomes = os }) w.plains w.sums) new) (sym becomes.1)
      (idle_is_tied w old (events.Say i text) [] tied (saying_is_calm i text) no_lines (unspoken none) new becomes.0)
