-- Certificates that are put or delivered.
use Rattle.std.proofs.Common.{◌≡◌, ℕ, List, Bool, Some, None, sym, ap, subst, ◌∙◌}
use Rattle.std.specs.Prelude.{◌↔◌, Option, MatchOption, IsTrue, slice_get}
use Rattle.dn_wire.specs.declared.ids.ClientId.{ClientId}
use Rattle.dn_wire.specs.declared.ids.Member.{Member}
use Rattle.dn_wire.specs.declared.ids.Member.TheVariants.{Client, Server}
use Rattle.dn_wire.specs.declared.ids.Round.{Round}
use Rattle.dn_wire.specs.declared.ids.ServerId.{ServerId}
use Rattle.dn_report.specs.declared.line.ReportLine.{ReportLine}
use Rattle.dn_record_types.specs.declared.statement.Statement.TheVariants as kinds
use Rattle.dn_record_types.specs.declared.statement.WordTold.{WordTold}
use Rattle.dn_cert.specs.declared.opened.Opened.TheVariants.{Submission, Plain, Certificate, Challenge}
use Rattle.dn_verify.specs.declared.content.Content.{Content}
use Rattle.dn_verify.specs.declared.content.Content.TheVariants.{Open, Closed}
use Rattle.dn_verify.specs.declared.told.ToldKey.{ToldKey}
use Rattle.dn_verify.specs.declared.scene.Scene.{Scene}
use Rattle.dn_verify.specs.declared.scene.Scene.TheVariants.{Delivery}
use Rattle.dn_verify.specs.Course.{CourseView}
use Rattle.dn_verify.specs.Judged.{ContentSays}
use Rattle.dn_verify.specs.Payloads.{Report, AreContents, IsCertificateFor, IsReceiptOf, IsSubmissionOf}
use Rattle.dn_verify.specs.Rules.{HasReceipt, IsCertified, IsHeldRightly, puts_next, sends_next}
use Rattle.dn_verify.proofs.ContentLemmas.{carried_if_says, certificate_respects, receipt_respects, says_if_carried, submission_respects}

some_number : (x y : ℕ) → Some x ≡ Some y → x ≡ y
some_number x y e = cc

none_is_not : (x : ℕ) (o : Option ℕ) → o ≡ None → o ≡ Some x → ⊥
none_is_not x o e f = cc

module _ (report : Report) (contents : List Content) (are : AreContents report contents) (c : CourseView) (r : Round) where
  -- what a payload says that is put next
  pub certified_by : {X : Type 0} (server : ServerId) (behind : List ReportLine) (payload : ℕ) (o : Option X) → puts_next c server behind ≡ Some payload
      → MatchOption o (ContentSays (IsCertificateFor r) (slice_get contents payload) → ⊥) (λ _. ContentSays (IsCertificateFor r) (slice_get contents payload))
      → MatchOption o (IsCertified report c server r behind → ⊥) (λ _. IsCertified report c server r behind)
  certified_by server behind payload None put says = λ h.
      let same = some_number h.payload payload (sym h.put ∙ put) in
      says (subst (λ (k : ℕ). ContentSays (IsCertificateFor r) (slice_get contents k)) same
      (says_if_carried report contents h.payload (IsCertificateFor r) (certificate_respects r) are h.certificate))
  certified_by server behind payload (Some x) put says =
      record { payload = payload; put = put; certificate = carried_if_says report contents payload (IsCertificateFor r) are says }

  pub not_certified : (server : ServerId) (behind : List ReportLine) → puts_next c server behind ≡ None → IsCertified report c server r behind → ⊥
  not_certified server behind none h = none_is_not h.payload (puts_next c server behind) none h.put

  -- what a payload says that was delivered
  pub held_by : {X : Type 0} (m : Member) (payload : ℕ) (o : Option X) → c.scene ≡ Delivery m payload
      → MatchOption o (ContentSays (IsCertificateFor r) (slice_get contents payload) → ⊥) (λ _. ContentSays (IsCertificateFor r) (slice_get contents payload))
      → MatchOption o (IsHeldRightly report c m r → ⊥) (λ _. IsHeldRightly report c m r)
  held_by m payload None at says = λ h.
      let e : Delivery m h.payload ≡ Delivery m payload = sym h.delivered ∙ at in
      let same : h.payload ≡ payload = cc in
      says (subst (λ (k : ℕ). ContentSays (IsCertificateFor r) (slice_get contents k)) same
      (says_if_carried report contents h.payload (IsCertificateFor r) (certificate_respects r) are h.certificate))
  held_by m payload (Some x) at says =
      record { payload = payload; delivered = at; certificate = carried_if_says report contents payload (IsCertificateFor r) are says }

-- ---- receipts

-- a submission has one digest
one_digest : (client : ClientId) (r : Round) (d e : List ℕ) (o : Option Content) → ContentSays (IsSubmissionOf client r d) o → ContentSays (IsSubmissionOf client r e) o → d ≡ e
one_digest client r d e None h k = absurd h
one_digest client r d e (Some (Closed word)) h k = absurd h
one_digest client r d e (Some (Open (Submission cipher said))) h k =
    let same : kinds.Submission r h.0 client d ≡ kinds.Submission r k.0 client e = sym h.1 ∙ k.1 in
    cc
one_digest client r d e (Some (Open (Plain said))) h k = absurd h
one_digest client r d e (Some (Open (Certificate x))) h k = absurd h
one_digest client r d e (Some (Open (Challenge x))) h k = absurd h

some_pair : (x y : ℕ × Member) → Some x ≡ Some y → x ≡ y
some_pair x y e = cc

no_pair : (x : ℕ × Member) (o : Option (ℕ × Member)) → o ≡ None → o ≡ Some x → ⊥
no_pair x o e f = cc

module _ (report : Report) (contents : List Content) (are : AreContents report contents) (c : CourseView) (key : ToldKey) (word : WordTold) (behind : List ReportLine) where
  submitted_at : (h : HasReceipt report c key word behind) (to : Member) (payload : ℕ) → c.scene ≡ Delivery to payload
      → ContentSays (IsSubmissionOf key.client key.r h.digest) (slice_get contents payload)
  submitted_at h to payload at =
      let e : Delivery (Server key.server) h.submission ≡ Delivery to payload = sym h.delivered ∙ at in
      let same : h.submission ≡ payload = cc in
      subst (λ (k : ℕ). ContentSays (IsSubmissionOf key.client key.r h.digest) (slice_get contents k)) same
      (says_if_carried report contents h.submission (IsSubmissionOf key.client key.r h.digest) (submission_respects key.client key.r h.digest) are h.submitted)

  -- the payload that was delivered is no submission of the client
  pub none_submitted : (to : Member) (payload : ℕ) → c.scene ≡ Delivery to payload
      → ((digest : List ℕ) → ContentSays (IsSubmissionOf key.client key.r digest) (slice_get contents payload) → ⊥) → HasReceipt report c key word behind → ⊥
  none_submitted to payload at none h = none h.digest (submitted_at h to payload at)

  -- nothing is sent
  pub none_sent : sends_next c behind ≡ None → HasReceipt report c key word behind → ⊥
  none_sent none h = no_pair (h.receipt, Client key.client) (sends_next c behind) none h.sent

  -- something is sent to another
  pub another_receiver : (receipt : ℕ) (receiver : Member) → sends_next c behind ≡ Some (receipt, receiver) → (receiver ≡ Client key.client → ⊥)
      → HasReceipt report c key word behind → ⊥
  another_receiver receipt receiver sent other h =
      other (ap (λ (p : ℕ × Member). p.1) (some_pair (receipt, receiver) (h.receipt, Client key.client) (sym sent ∙ h.sent)))

  -- what is sent is the receipt, or isn't
  pub receipt_sent : (payload : ℕ) (digest : List ℕ) (receipt : ℕ) (b : Bool) → c.scene ≡ Delivery (Server key.server) payload
      → ContentSays (IsSubmissionOf key.client key.r digest) (slice_get contents payload) → sends_next c behind ≡ Some (receipt, Client key.client)
      → (IsTrue b ↔ ContentSays (IsReceiptOf key.server key.client key.r digest word) (slice_get contents receipt)) → IsTrue b ↔ HasReceipt report c key word behind
  receipt_sent payload digest receipt b at submitted sent says = (
    λ yes. record {
      submission = payload;
      delivered = at;
      digest = digest;
      submitted = carried_if_says report contents payload (IsSubmissionOf key.client key.r digest) are submitted;
      receipt = receipt;
      sent = sent;
      says = carried_if_says report contents receipt (IsReceiptOf key.server key.client key.r digest word) are (says.0 yes);
    },
    λ h.
        let one : h.digest ≡ digest =
        one_digest key.client key.r h.digest digest (slice_get contents payload) (submitted_at h (Server key.server) payload at) submitted in
        let same : h.receipt ≡ receipt =
        ap (λ (p : ℕ × Member). p.0) (some_pair (h.receipt, Client key.client) (receipt, Client key.client) (sym h.sent ∙ sent)) in
        let told : ContentSays (IsReceiptOf key.server key.client key.r h.digest word) (slice_get contents h.receipt) =
        says_if_carried report contents h.receipt (IsReceiptOf key.server key.client key.r h.digest word)
        (receipt_respects key.server key.client key.r h.digest word) are h.says in
        says.1
        (subst (λ (d : List ℕ). ContentSays (IsReceiptOf key.server key.client key.r d word) (slice_get contents receipt)) one
        (subst (λ (k : ℕ). ContentSays (IsReceiptOf key.server key.client key.r h.digest word) (slice_get contents k)) same told)),
  )
