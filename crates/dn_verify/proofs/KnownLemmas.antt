-- What is known, a line further.
use Rattle.std.proofs.Common.{◌≡◌, ◌≤◌, ◌+◌, ◌-◌, ℕ, zero, suc, Bool, true, false, cond, List, [], ◌∷◌, ◌++◌, Some, None, sym, ap, subst, ◌∙◌, refl, arith}
use Rattle.std.specs.Prelude.{Option, Result, Ok, Err, OnOk, IfOk, IfNone, All, drop, length, nat_lt, slice_get, if◌then◌else◌}
use Rattle.std.proofs.lemmas.List.{append-nil}
use Rattle.dn_wire.specs.declared.ids.Member.{Member}
use Rattle.dn_wire.specs.declared.ids.Round.{Round}
use Rattle.dn_wire.specs.declared.ids.ServerId.{ServerId}
use Rattle.dn_record_types.specs.declared.body.Body.{Body}
use Rattle.dn_seal.specs.Said.{SaidView}
use Rattle.dn_wire.specs.declared.ids.ClientId.{ClientId}
use Rattle.dn_report.specs.declared.line.EventLine.{EventLine}
use Rattle.dn_report.specs.declared.line.EventLine.TheVariants as events
use Rattle.dn_report.specs.declared.line.ReportLine.{ReportLine}
use Rattle.dn_report.specs.declared.line.ReportLine.TheVariants as lines
use Rattle.dn_report.specs.declared.outcome.Outcome.{Outcome}
use Rattle.dn_report.specs.declared.outcome.Outcome.TheVariants as outcomes
use Rattle.dn_verify.specs.declared.fold.Fold.{Fold}
use Rattle.dn_verify.specs.declared.mail.Flying.{Flying}
use Rattle.dn_verify.specs.Course.{CourseView, after}
use Rattle.dn_verify.specs.Kept.{has_mark, known_of}
use Rattle.dn_verify.specs.Known.{Known, Adds, Follows, IsGiven, OpensDelivery, TellsBody, arriving, certificate_in, delivered_to, heard_of, no_known, with_reached, without_first}
use Rattle.dn_verify.specs.declared.content.Content.{Content}
use Rattle.dn_verify.specs.Judged.{IsMark, IsPlainEvent, IsPlainOutcome}
use Rattle.dn_verify.specs.Payloads.{Report, carried_at, heard_delivered}
use Rattle.dn_verify.specs.Rules.{puts_next}
use Rattle.dn_verify.specs.Steps.{IsPassed, Passes, PassesTo, behind_at, course_before, course_behind, line_at}
use Rattle.dn_verify.specs.Telling.{TellsRound}

-- the payload that was found is the one that was asked for
chosen : (b : Bool) (n p : ℕ) → Some p ≡ (if b then Some n else None) → p ≡ n
chosen true n p e = cc
chosen false n p e = absurd cc

pub payload_is : (n posted p : ℕ) → Some p ≡ (if nat_lt n posted then Some n else None) → p ≡ n
payload_is n posted p e = chosen (nat_lt n posted) n p e

module _ (report : Report) (c : CourseView) (f g : Known) (behind : List ReportLine) (opened : List Outcome) (due : g.due ≡ f.due ++ opened) where
  -- a certificate is told of that is put next
  pub adds_certified : (server : ServerId) (r : Round) (b : Body) → certificate_in report r (puts_next c server behind) ≡ Some b → Follows f.chain b g.chain
      → TellsRound g.chain f.told b g.told opened → g.reached ≡ f.reached → g.heard ≡ f.heard → Adds report c f (lines.Outcome (outcomes.Certified server r)) behind g
  adds_certified server r b is follows tells reached heard = record {
    chain = subst (λ (o : Option Body). IsGiven f.chain o g.chain) (sym is) follows;
    reached = reached;
    heard = heard ∙ sym (append-nil f.heard);
    opened = opened;
    opens = subst (λ (o : Option Body). TellsBody g.chain f.told o g.told opened) (sym is) tells;
    due = due;
  }

  -- a certificate is told of that was delivered
  pub adds_held : (m : Member) (r : Round) (b : Body) → certificate_in report r (delivered_to c.scene m) ≡ Some b → g.chain ≡ f.chain
      → TellsRound g.chain f.told b g.told opened → g.reached ≡ f.reached → g.heard ≡ f.heard → Adds report c f (lines.Outcome (outcomes.Held m r)) behind g
  adds_held m r b is chain tells reached heard = record {
    chain = chain;
    reached = reached;
    heard = heard ∙ sym (append-nil f.heard);
    opened = opened;
    opens = subst (λ (o : Option Body). TellsBody g.chain f.told o g.told opened) (sym is) tells;
    due = due;
  }

  -- a message arrives
  pub adds_delivery : (id : ℕ) (m : Option Flying) → c.flight id ≡ m → g.chain ≡ f.chain → g.told ≡ f.told
      → g.reached ≡ with_reached (arriving m behind) f.reached → g.heard ≡ f.heard ++ heard_of report f.reached (arriving m behind)
      → OpensDelivery report m opened → Adds report c f (lines.Event (events.Deliver id)) behind g
  adds_delivery id m is chain told reached heard opens = record {
    chain = chain;
    reached = reached ∙ ap (λ (o : Option Flying). with_reached (arriving o behind) f.reached) (sym is);
    heard = heard ∙ ap (λ (o : Option Flying). f.heard ++ heard_of report f.reached (arriving o behind)) (sym is);
    opened = opened;
    opens = (told, subst (λ (o : Option Flying). OpensDelivery report o opened) (sym is) opens);
    due = due;
  }

pub on_done : {E : Type 0} (P : Type 0) (r : Result (Unit {0}) E) → P → OnOk r P
on_done P (Ok x) p = p
on_done P (Err e) p = tt

pub on_weaker : {E : Type 0} (P Q : Type 0) (r : Result (Unit {0}) E) → (P → Q) → OnOk r P → OnOk r Q
on_weaker P Q (Ok x) f p = f p
on_weaker P Q (Err e) f p = tt

none_if : (P : Type 0) (o : Option ℕ) → P → IfNone o P
none_if P None p = p
none_if P (Some x) p = tt

pub ok_none : {E : Type 0} (P : Type 0) (r : Result (Option ℕ) E) → P → IfOk r (λ rule. IfNone rule P)
ok_none P (Ok rule) p = none_if P rule p
ok_none P (Err e) p = tt

pub ok_weaker : {E : Type 0} (P : Type 0) (r : Result (Option ℕ) E) → OnOk r P → IfOk r (λ rule. IfNone rule P)
ok_weaker P (Ok rule) p = none_if P rule p
ok_weaker P (Err e) p = tt

-- what holds of each holds of the one at a place
pub holds_at : (P : Content → Type 0) (xs : List Content) (k : ℕ) (x : Content) → All P xs → Some x ≡ slice_get xs k → P x
holds_at P [] k x all e = absurd cc
holds_at P (y ∷ ys) zero x all e =
    let same : x ≡ y = cc in
    subst P (sym same) (all 0 y (omega arith))
holds_at P (y ∷ ys) (suc k) x all e = holds_at P ys k x (λ j d few. all (suc j) d (omega (arith, few))) e

pub heard_none : (report : Report) (reached : ℕ → Bool) (p : ℕ) → reached p ≡ true → heard_of report reached (Some p) ≡ []
heard_none report reached p e = ap (λ (b : Bool). cond b [] (heard_delivered (carried_at report p))) e

pub heard_new : (report : Report) (reached : ℕ → Bool) (p : ℕ) → reached p ≡ false → heard_of report reached (Some p) ≡ heard_delivered (carried_at report p)
heard_new report reached p e = ap (λ (b : Bool). cond b [] (heard_delivered (carried_at report p))) e

module _ (report : Report) (c : CourseView) (f : Known) (behind : List ReportLine) where
  -- an event by which nothing is added
  pub adds_event : (e : EventLine) → IsPlainEvent e → Adds report c f (lines.Event e) behind f
  adds_event (events.Say client text) plain = record { chain = refl; reached = refl; heard = sym (append-nil f.heard); opened = []; opens = (refl, refl); due = sym (append-nil f.due) }
  adds_event (events.Open server r) plain = record { chain = refl; reached = refl; heard = sym (append-nil f.heard); opened = []; opens = (refl, refl); due = sym (append-nil f.due) }
  adds_event (events.Submit client server r) plain = record { chain = refl; reached = refl; heard = sym (append-nil f.heard); opened = []; opens = (refl, refl); due = sym (append-nil f.due) }
  adds_event events.Tick plain = record { chain = refl; reached = refl; heard = sym (append-nil f.heard); opened = []; opens = (refl, refl); due = sym (append-nil f.due) }
  adds_event (events.Close server) plain = record { chain = refl; reached = refl; heard = sym (append-nil f.heard); opened = []; opens = (refl, refl); due = sym (append-nil f.due) }
  adds_event (events.Abandon server) plain = record { chain = refl; reached = refl; heard = sym (append-nil f.heard); opened = []; opens = (refl, refl); due = sym (append-nil f.due) }
  adds_event (events.Accuse client r k) plain = record { chain = refl; reached = refl; heard = sym (append-nil f.heard); opened = []; opens = (refl, refl); due = sym (append-nil f.due) }
  adds_event _ plain = absurd plain

  pub adds_lose : (id : ℕ) → Adds report c f (lines.Event (events.Lose id)) behind f
  adds_lose id = record { chain = refl; reached = refl; heard = sym (append-nil f.heard); opened = []; opens = (refl, refl); due = sym (append-nil f.due) }

  pub adds_leave : (i : ClientId) → Adds report c f (lines.Event (events.Leave i)) behind f
  adds_leave i = record { chain = refl; reached = refl; heard = sym (append-nil f.heard); opened = []; opens = (refl, refl); due = sym (append-nil f.due) }

  pub adds_inject : (from to : Member) (payload : ℕ) → Adds report c f (lines.Event (events.Inject from to payload)) behind f
  adds_inject from to payload = record { chain = refl; reached = refl; heard = sym (append-nil f.heard); opened = []; opens = (refl, refl); due = sym (append-nil f.due) }

  -- an outcome by which nothing is added
  pub adds_outcome : (o : Outcome) → IsPlainOutcome o → Adds report c f (lines.Outcome o) behind f
  adds_outcome (outcomes.Post payload by bytes) plain = absurd plain
  adds_outcome (outcomes.Sent id payload to) plain = absurd plain
  adds_outcome (outcomes.Full payload to) plain = absurd plain
  adds_outcome (outcomes.Certified server r) plain = absurd plain
  adds_outcome (outcomes.Held m r) plain = absurd plain
  adds_outcome _ plain = record { chain = refl; reached = refl; heard = sym (append-nil f.heard); opened = []; opens = (refl, refl); due = sym (append-nil f.due) }

  pub adds_mark : (l : ReportLine) → IsMark l → Adds report c f l behind f
  adds_mark (lines.Event e) mark = absurd mark
  adds_mark (lines.Outcome o) mark = absurd mark
  adds_mark _ mark = record { chain = refl; reached = refl; heard = sym (append-nil f.heard); opened = []; opens = (refl, refl); due = sym (append-nil f.due) }

-- the line that was due is due no more
pub popped : (fold next : Fold) (heard : List SaidView) → next ≡ record fold { due = next.due } → next.due.items ≡ drop 1 fold.due.items
    → known_of next heard ≡ without_first (known_of fold heard)
popped fold next heard rest due =
    λ i. record {
      chain = (rest i).chain;
      reached = has_mark (rest i).reached;
      heard = heard;
      told = has_mark (rest i).told;
      due = due i;
    }

module _ (ls : List ReportLine) (first k : ℕ) (above : first ≤ k) where
  one_more : k + 1 - first ≡ suc (k - first)
  one_more = omega arith

  here : first + (k - first) ≡ k
  here = omega arith

  -- one line more keeps the rules
  pub passes_more : (report : Report) (f g : Known) → Passes report ls first k f
      → IsPassed report (course_before ls first k) f (line_at ls k) (behind_at ls k) g → Passes report ls first (k + 1) g
  unfolding PassesTo
  passes_more report f g passes passed =
      subst (λ (n : ℕ). PassesTo report ls first n g) (sym one_more)
      (f, passes, subst (λ (q : ℕ). IsPassed report (course_behind ls first (k - first)) f (line_at ls q) (behind_at ls q) g) (sym here) passed)

-- before the first line
pub passes_none : (report : Report) (ls : List ReportLine) (first : ℕ) (g : Known) → g ≡ no_known (length report.roster.clients) → Passes report ls first first g
unfolding PassesTo
passes_none report ls first g is =
    let none : first - first ≡ 0 = omega arith in
    subst (λ (n : ℕ). PassesTo report ls first n g) (sym none) is
