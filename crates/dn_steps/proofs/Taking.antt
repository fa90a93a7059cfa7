-- A message arrives at a corrupt member, carries what doesn't open, or isn't there.
use Rattle.std.proofs.Common.{◌≡◌, ℕ, List, [], ◌∷◌, map, refl, sym, ap, subst, ◌∙◌, inl, inr, true, false, Bool, cond}
use Rattle.std.specs.Prelude.{Contains, Some, slice_get, option_map}
use Rattle.std.specs.Option.{option_and_then}
use Rattle.std.specs.List.{list_any}
use Rattle.std.proofs.lemmas.List.Elements.{Contains-append_right}
use Rattle.dn_wire.specs.declared.ids.Member.{Member}
use Rattle.dn_wire.specs.declared.ids.Member.TheVariants as members
use Rattle.dn_wire.specs.declared.ids.ServerId.{ServerId}
use Rattle.dn_wire.specs.declared.ids.Round.{Round}
use Rattle.dn_wire.specs.declared.ids.SignerId.TheVariants.{Server}
use Rattle.dn_record_types.specs.declared.statement.Statement.{Statement}
use Rattle.dn_cert.proofs.Orders.{here}
use Rattle.dn_cert.proofs.ListLemmas.{Contains-map}
use Rattle.dn_cert.specs.declared.payload_fault.PayloadFault.TheVariants as faults
use Rattle.dn_report.specs.declared.event.Event.TheVariants as events
use Rattle.dn_report.specs.declared.outcome.Outcome.{Outcome}
use Rattle.dn_report.specs.declared.outcome.Outcome.TheVariants as outcomes
use Rattle.dn_report.specs.declared.words.IgnoredWord.TheVariants as ignored
use Rattle.dn_report.specs.declared.words.UnopenedWord.{UnopenedWord}
use Rattle.dn_payloads.specs.declared.content.Content.{Content}
use Rattle.dn_payloads.specs.declared.content.Content.TheVariants as contents
use Rattle.dn_payloads.specs.Payloads.{PayloadView, IsContent}
use Rattle.dn_flight.specs.declared.msg.Msg.{Msg}
use Rattle.dn_flight.specs.Flight.{with_id}
use Rattle.dn_audit.specs.Group.{is_corrupt as is_marked}
use Rattle.dn_state.specs.Parts.{PartsView, has}
use Rattle.dn_state.specs.Words.{unopened_word_of}
use Rattle.dn_state.specs.Doing.{Tells}
use Rattle.dn_state.specs.Delivering.{IsHeard, IsHeardIf, IsTaken, content_of, unopened_at, without_message}
use Rattle.dn_headline.specs.Group.{IsHonestServer}
use Rattle.dn_headline.specs.Log.{Step, Log, message_of, is_early_or_none, with_outcomes, with_removal, AreNumbered}
use Rattle.dn_headline.specs.Run.{RunView, log}
use Rattle.dn_headline.specs.Spoken.{Says}
use Rattle.dn_headline.specs.Invariant.{Carries}
use Rattle.dn_links.specs.Judging.{OtherStep}
use Rattle.dn_steps.specs.Fitting.{FitsLog}
use Rattle.dn_steps.specs.Tied.{IsTied}
use Rattle.dn_steps.proofs.Places.{only, one_at}
use Rattle.dn_steps.proofs.Removing.{with_delivered, delivered_fits, is_with_id, payload_of_message, heard_fits}
use Rattle.dn_steps.proofs.Unopened.{unopened_says}
use Rattle.dn_steps.proofs.Runs.{next_run, log_next, step_cases, is_quiet, is_of_put, is_blame, unput_lines, all_taken}
use Rattle.dn_steps.proofs.Resting.{SameMembers, same_members, without_keeps_members, none_put, rested}

-- the line is told of a message that is taken, and of nothing else
pub record IsPlain (line : Outcome) : Type 0 where
  pub quiet : is_quiet line ≡ true
  pub unput : is_of_put line ≡ false
  pub taken : is_early_or_none line ≡ false
  pub blames : is_blame line ≡ false

pub one_plain : (line : Outcome) → IsPlain line → (o : Outcome) → Contains (line ∷ []) o → IsPlain o
one_plain line plain o h = subst IsPlain (only line o h) plain

abbrev pub delivering : ℕ → List Outcome → Step
delivering id lines = record { event = events.Deliver id; outcomes = lines }

-- the log after a message is taken
pub taken_log : (l : Log) (id : ℕ) (lines : List Outcome) → list_any is_early_or_none lines ≡ false → with_removal l (events.Deliver id) lines ≡ with_delivered l id
taken_log l id lines taken = ap (λ (t : Bool). cond t l (with_delivered l id)) taken

not_both : (t : Bool) → t ≡ true → t ≡ false → ⊥
not_both true a b = absurd cc
not_both false a b = absurd cc

module _ (w : RunView) (old : PartsView) (id : ℕ) (m : Msg) (tied : IsTied w old) (found : with_id id old.flight.msgs ≡ Some m) where
  pub there : Contains old.flight.msgs m
  there = (is_with_id id old.flight.msgs m found).0

  pub number : m.id ≡ id
  number = (is_with_id id old.flight.msgs m found).1

  pub in_flight : Contains (log w).flight id
  in_flight =
      subst (λ (ids : List ℕ). Contains ids id) (sym tied.fits.flight.numbers)
      (subst (Contains (map (λ (x : Msg). x.id) old.flight.msgs)) number (Contains-map (λ (x : Msg). x.id) old.flight.msgs m there))

  pub receiver : (message_of (log w) id).to ≡ m.to
  receiver = subst (λ (n : ℕ). (message_of (log w) n).to ≡ m.to) number (tied.fits.flight.messages m there).to

  pub payload : (x : PayloadView) × (slice_get old.payloads.items m.payload ≡ Some x) × (x.bytes ≡ (message_of (log w) id).bytes)
  payload =
      let x = payload_of_message w.group (log w) old m tied.fits there in
      (x.0, x.1, subst (λ (n : ℕ). x.0.bytes ≡ (message_of (log w) n).bytes) number x.2)

  pub same_deliver : (n : ℕ) (lines : List Outcome) → (delivering id lines).event ≡ events.Deliver n → id ≡ n
  same_deliver n lines e = cc

  -- ---- plain lines are told

  module _ (lines : List Outcome) (plain : (o : Outcome) → Contains lines o → IsPlain o) (after : PartsView) (members : SameMembers old after) (fits : FitsLog w.group (with_delivered (log w) id) after)
      (unheard : (x j : ServerId) (r : Round) (t : Statement) → IsHonestServer w.group j → Carries w x j t (message_of (log w) id) → ⊥) where
    abbrev s : Step
    s = delivering id lines

    abbrev v : RunView
    v = next_run w s w.plains w.sums

    taken : list_any is_early_or_none lines ≡ false
    taken = all_taken lines (λ o h. (plain o h).taken)

    unput : (with_outcomes true (message_of (log w) id).to (with_delivered (log w) id) lines ≡ with_delivered (log w) id)
        × AreNumbered true (message_of (log w) id).to (with_delivered (log w) id) lines
    unput = unput_lines true (message_of (log w) id).to (with_delivered (log w) id) lines (λ o h. (plain o h).unput)

    at : log v ≡ with_delivered (log w) id
    at =
        log_next w s w.plains w.sums
        ∙ ap (λ (l : Log). with_outcomes true (message_of (log w) id).to l lines) (taken_log (log w) id lines taken) ∙ unput.0

    pub taken_is_tied : IsTied v after
    taken_is_tied = rested w old after s tied (record {
      quiet = λ o h. (plain o h).quiet;
      members = members;
      fits = subst (λ (l : Log). FitsLog w.group l after) (sym at) fits;
      orderly = record {
        numbered = subst (λ (l : Log). AreNumbered true (message_of (log w) id).to l lines) (sym (taken_log (log w) id lines taken)) unput.1;
        delivers = λ n e was. subst (Contains (log w).flight) (same_deliver n lines e) in_flight;
      };
      unput = λ n p past at_n own. none_put (log w).puts (log v).puts (ap (λ (l : Log). l.puts) at) n p past at_n;
      unheard = λ x j r t y honest phase carries now.
          let same : message_of (log w) id ≡ y = ap (message_of (log w)) (same_deliver now.0 lines now.1) ∙ now.3 in
          unheard x j r t honest (subst (Carries w x j t) (sym same) (record { from = carries.from; to = carries.to; own = carries.own; says = carries.says }));
      untexted = λ i honest. refl;
      judge = λ x h. elim (step_cases w s x h) [
        | inl before ↦ inl before
        | inr this ↦ inr (inr (subst OtherStep this (record {
          event = λ r k e. absurd cc;
          blames = λ y reason told. not_both true refl (plain (outcomes.Blame y reason) told).blames;
        })))
      ];
    })

  -- ---- a corrupt member

  corrupt_hears_not : is_marked old.group m.to ≡ true → (x j : ServerId) (r : Round) (t : Statement) → IsHonestServer w.group j → Carries w x j t (message_of (log w) id) → ⊥
  corrupt_hears_not marked x j r t honest carries =
      let to : m.to ≡ members.Server j = sym receiver ∙ carries.to in
      let same = tied.group.corrupt (members.Server j) honest.server in
      not_both (is_marked old.group (members.Server j)) (subst (λ (z : Member). is_marked old.group z ≡ true) to marked) (same ∙ honest.honest)

  taken_plain : IsPlain outcomes.Taken
  taken_plain = record { quiet = refl; unput = refl; taken = refl; blames = refl }

  heard_keeps : (a b : PartsView) (p : ℕ) (t : Bool) → IsHeardIf t p a b → SameMembers old a → SameMembers old b
  heard_keeps a b p true same was = subst (SameMembers old) (sym same) was
  heard_keeps a b p false first was =
      subst (SameMembers old) (sym first) (record { roster = was.roster; opens = was.opens; group = was.group; clients = was.clients; servers = was.servers; left = was.left })

  gone : FitsLog w.group (with_delivered (log w) id) (without_message old id)
  gone = delivered_fits w.group (log w) old id tied.fits

  -- what the message carries is heard where it reaches a server
  heard_gone : (j : ServerId) (heard : PartsView) → m.to ≡ members.Server j → IsHeard m.payload (without_message old id) heard
      → FitsLog w.group (with_delivered (log w) id) heard
  heard_gone j heard to h =
      heard_fits w.group (with_delivered (log w) id) (without_message old id) heard m.payload payload.0 (message_of (log w) id) j gone payload.1
      (one_at old.payloads.items m.payload payload.0 payload.1)
      (Contains-append_right (log w).delivered (message_of (log w) id ∷ []) (message_of (log w) id) (here (message_of (log w) id) []))
      (receiver ∙ to) payload.2 h

  taken_by : (to : Member) → m.to ≡ to → is_marked old.group m.to ≡ true → (held : PartsView) → IsTaken m.payload to (without_message old id) held
      → IsTied (next_run w (delivering id (outcomes.Taken ∷ [])) w.plains w.sums) held
  taken_by (members.Client i) is marked held h =
      subst (IsTied (next_run w (delivering id (outcomes.Taken ∷ [])) w.plains w.sums)) (sym h)
      (taken_is_tied (outcomes.Taken ∷ []) (one_plain outcomes.Taken taken_plain) (without_message old id) (without_keeps_members old id) gone (corrupt_hears_not marked))
  taken_by (members.Server j) is marked held h =
      taken_is_tied (outcomes.Taken ∷ []) (one_plain outcomes.Taken taken_plain) held
      (heard_keeps (without_message old id) held m.payload (has old.delivered m.payload) h (without_keeps_members old id))
      (heard_gone j held is h) (corrupt_hears_not marked)

  pub taken_by_corrupt : is_marked old.group m.to ≡ true → (taken new : PartsView) (lines : List Outcome) → IsTaken m.payload m.to (without_message old id) taken
      → Tells outcomes.Taken taken new lines → IsTied (next_run w (delivering id lines) w.plains w.sums) new
  taken_by_corrupt marked taken new lines h tells =
      subst (λ (os : List Outcome). IsTied (next_run w (delivering id os) w.plains w.sums) new) (sym tells.1)
      (subst (IsTied (next_run w (delivering id (outcomes.Taken ∷ [])) w.plains w.sums)) (sym tells.0) (taken_by m.to refl marked taken h))

  -- ---- what doesn't open

  unopened_plain : (word : UnopenedWord) → IsPlain (outcomes.Unopened word)
  unopened_plain word = record { quiet = refl; unput = refl; taken = refl; blames = refl }

  content_unopened : (content : Content) (word : UnopenedWord) → unopened_word_of content ≡ Some word → (bytes : List ℕ) → IsContent w.group.roster bytes content
      → (x : ServerId) (t : Statement) → Says w.group.roster bytes (Server x) t → ⊥
  content_unopened (contents.Opened o) word e bytes h x t says = absurd cc
  content_unopened contents.Form word e bytes h x t says = unopened_says w.group.roster bytes (Server x) t faults.Form (λ n. absurd cc) h says
  content_unopened contents.Stranger word e bytes h x t says = unopened_says w.group.roster bytes (Server x) t faults.Stranger (λ n. absurd cc) h says
  content_unopened contents.Signature word e bytes h x t says = unopened_says w.group.roster bytes (Server x) t faults.Signature (λ n. absurd cc) h says

  pub unopened_is_tied : (word : UnopenedWord) → unopened_at old m.payload ≡ Some word → (new : PartsView) (lines : List Outcome)
      → Tells (outcomes.Unopened word) (without_message old id) new lines → IsTied (next_run w (delivering id lines) w.plains w.sums) new
  unopened_is_tied word is new lines h =
      let x = payload in
      let content : content_of old.payloads m.payload ≡ Some x.0.content = ap (option_map (λ (y : PayloadView). y.content)) x.1 in
      let word_is : unopened_word_of x.0.content ≡ Some word = ap (option_and_then unopened_word_of) (sym content) ∙ is in
      let inside = one_at old.payloads.items m.payload x.0 x.1 in
      subst (λ (os : List Outcome). IsTied (next_run w (delivering id os) w.plains w.sums) new) (sym h.1)
      (subst (IsTied (next_run w (delivering id (outcomes.Unopened word ∷ [])) w.plains w.sums)) (sym h.0)
      (taken_is_tied (outcomes.Unopened word ∷ []) (one_plain (outcomes.Unopened word) (unopened_plain word)) (without_message old id) (without_keeps_members old id) gone
      (λ y j r t honest carries.
      content_unopened x.0.content word word_is (message_of (log w) id).bytes
      (subst (λ (b : List ℕ). IsContent w.group.roster b x.0.content) x.2 (tied.fits.payloads.content x.0 inside)) y t carries.says)))

-- ---- no message in flight has the number

pub nothing_arrives : (w : RunView) (old new : PartsView) (id : ℕ) (lines : List Outcome) → IsTied w old
    → Tells (outcomes.Ignored ignored.None) old new lines → IsTied (next_run w (delivering id lines) w.plains w.sums) new
nothing_arrives w old new id lines tied h =
    subst (λ (os : List Outcome). IsTied (next_run w (delivering id os) w.plains w.sums) new) (sym h.1) (subst (IsTied (next_run w (delivering id (outcomes.Ignored ignored.None ∷ [])) w.plains w.sums)) (sym h.0) (rested w old old (delivering id (outcomes.Ignored ignored.None ∷ [])) tied (record {
      quiet = λ o told. ap is_quiet (sym (only (outcomes.Ignored ignored.None) o told));
      members = same_members old;
      fits = subst (λ (l : Log). FitsLog w.group l old) (sym at) tied.fits;
      orderly = record { numbered = unput.1; delivers = λ n e taken. absurd cc };
      unput = λ n p past at_n own. none_put (log w).puts (log (next_run w (delivering id (outcomes.Ignored ignored.None ∷ [])) w.plains w.sums)).puts (ap (λ (l : Log). l.puts) at) n p past at_n;
      unheard = λ x j r t y honest phase carries now. not_both true refl now.2;
      untexted = λ i honest. refl;
      judge = λ x there. elim (step_cases w (delivering id (outcomes.Ignored ignored.None ∷ [])) x there) [
        | inl before ↦ inl before
        | inr this ↦ inr (inr (subst OtherStep this (record {
          event = λ r k e. absurd cc;
          blames = λ y reason told. not_both false (ap is_blame (only (outcomes.Ignored ignored.None) (outcomes.Blame y reason) told)) refl;
        })))
      ];
    }))) where
      unput : (with_outcomes true (message_of (log w) id).to (log w) (outcomes.Ignored ignored.None ∷ []) ≡ log w)
          × AreNumbered true (message_of (log w) id).to (log w) (outcomes.Ignored ignored.None ∷ [])
      unput = unput_lines true (message_of (log w) id).to (log w) (outcomes.Ignored ignored.None ∷ []) (λ o told. ap is_of_put (sym (only (outcomes.Ignored ignored.None) o told)))

      at : log (next_run w (delivering id (outcomes.Ignored ignored.None ∷ [])) w.plains w.sums) ≡ log w
      at = log_next w (delivering id (outcomes.Ignored ignored.None ∷ [])) w.plains w.sums ∙ unput.0
