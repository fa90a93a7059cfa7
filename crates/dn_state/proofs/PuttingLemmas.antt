-- What is put, step by step.
use Rattle.std.proofs.Common.{◌≡◌, ℕ, Bool, true, false, List, [], ◌∷◌, ◌++◌, Some, None, refl, sym, ap, ◌∙◌, subst, arith}
use Rattle.std.specs.Prelude.{slice_get, All, Result, Ok, Err, OnOk, OnErr, if◌then◌else◌}
use Rattle.std.proofs.lemmas.List.Elements.{All-push, All-append}
use Rattle.dn_wire.specs.declared.ids.Member.{Member}
use Rattle.dn_wire.specs.declared.ids.Round.{Round}
use Rattle.dn_wire.specs.declared.ids.SlotId.{SlotId}
use Rattle.dn_wire.specs.declared.ids.SignerId.{SignerId}
use Rattle.dn_wire.specs.declared.ids.SignerId.TheVariants as signers
use Rattle.dn_record_types.specs.declared.statement.Statement.{Statement}
use Rattle.dn_record_types.specs.declared.statement.Statement.TheVariants as kinds
use Rattle.dn_roster.specs.Roster.{RosterView}
use Rattle.dn_seal.specs.Said.{SaidView, IsUnder}
use Rattle.dn_cert.specs.declared.opened.Opened.TheVariants as opened
use Rattle.dn_flight.specs.Flight.{FlightView}
use Rattle.dn_client.proofs.Lists.{slice_get-push}
use Rattle.dn_payloads.specs.declared.content.Content.{Content}
use Rattle.dn_payloads.specs.declared.content.Content.TheVariants as contents
use Rattle.dn_payloads.specs.declared.payloads.Numbered.{Numbered}
use Rattle.dn_payloads.specs.Payloads.{PayloadView, PayloadsView, IsContent, IsFound, IsNumbered, IsNumberedBy}
use Rattle.dn_audit.specs.Auditor.{AuditorView, AddsStrings}
use Rattle.dn_report.specs.declared.outcome.Outcome.{Outcome}
use Rattle.dn_state.specs.Putting.{Sends, SendsEach, Puts, KeepsMembers, FollowsIn, NotesOwn, LooksIfNew, accused_by, accused_with, by_server, front_of, post_lines, server_said}
use Rattle.dn_state.specs.declared.putting.Sender.{Sender}
use Rattle.dn_state.specs.Parts.{PartsView}
use Rattle.dn_state.proofs.Sounds.{front_under}
use Rattle.dn_state.specs.Putting.SendsEach.{to_none, to_next}

-- nothing is shown
pub adds_none : (a : AuditorView) → AddsStrings a a (λ x. x)
adds_none a = record { signed = refl; are_theirs = refl; tells = λ x tells. tells }

-- a statement that is no accusation
pub accuses_not : (s : Statement) (accused : List (ℕ × ℕ)) → ((r : Round) (slot : SlotId) (k : ℕ) → s ≡ kinds.Accusation r slot k → ⊥) → accused_by s accused ≡ accused
accuses_not (kinds.Submission r prev i d) accused not = refl
accuses_not (kinds.Receipt r i d t) accused not = refl
accuses_not (kinds.Inventory v) accused not = refl
accuses_not (kinds.Commit r d) accused not = refl
accuses_not (kinds.Reveal r s) accused not = refl
accuses_not (kinds.Sign b) accused not = refl
accuses_not (kinds.PadBits r k bits) accused not = refl
accuses_not (kinds.Shown r s shown) accused not = refl
accuses_not (kinds.Accusation r slot k) accused not = absurd (not r slot k refl)
accuses_not (kinds.Rebuttal r k j seed e) accused not = refl
accuses_not (kinds.Concede r k) accused not = refl

-- one receiver
sends_one : (from : Member) (payload : ℕ) (to : Member) (old new : FlightView) (line : Outcome) → Sends from payload to old new line
    → SendsEach from payload (to ∷ []) old new (line ∷ [])
sends_one from payload to old new line sends = to_next new line [] sends (to_none refl refl) refl

-- one receiver more
pub sends_more : (from : Member) (payload : ℕ) (tos : List Member) (to : Member) (old between new : FlightView) (lines : List Outcome) (line : Outcome)
    → SendsEach from payload tos old between lines → Sends from payload to between new line → SendsEach from payload (tos ++ to ∷ []) old new (lines ++ line ∷ [])
sends_more from payload [] to old between new lines line (to_none same none) sends =
    subst (λ f. SendsEach from payload (to ∷ []) f new (lines ++ line ∷ [])) same
    (subst (λ xs. SendsEach from payload (to ∷ []) between new (xs ++ line ∷ [])) (sym none) (sends_one from payload to between new line sends))
sends_more from payload (first ∷ others) to old between new lines line (to_next next its rest one each is) sends =
    to_next next its (rest ++ line ∷ []) one (sends_more from payload others to next between new rest line each sends) (ap (λ xs. xs ++ line ∷ []) is)

-- The payload of a number: it has the bytes, and is the one that is found there.
pub record IsPayloadAt (v : PayloadsView) (number : ℕ) (bytes : List ℕ) (content : Content) : Type 0 where
  pub payload : PayloadView
  pub there : slice_get v.items number ≡ Some payload
  pub spelled : payload.bytes ≡ bytes
  pub opens : payload.content ≡ content
  pub is : IsContent v.roster bytes content

module _ (old new : PayloadsView) (bytes : List ℕ) (content : Content) where
  at_number : (number : ℕ) (x y : PayloadView) → slice_get new.items number ≡ Some x → x.bytes ≡ bytes → slice_get new.items number ≡ Some y → y.content ≡ content
      → IsContent new.roster y.bytes y.content → IsPayloadAt new number bytes content
  at_number number x y at spelled found opens is =
      let one : Some y ≡ Some x = sym found ∙ at in
      let same : y ≡ x = cc in
      let spelled_too : y.bytes ≡ bytes = ap (λ p. p.bytes) same ∙ spelled in
      record {
        payload = y;
        there = found;
        spelled = spelled_too;
        opens = opens;
        is = subst (λ b. IsContent new.roster b content) spelled_too (subst (IsContent new.roster y.bytes) opens is);
      }

  payload_by : (number : ℕ) (is_new : Bool) → IsNumberedBy old bytes new number is_new → IsFound new number (λ x. x.content ≡ content) → IsPayloadAt new number bytes content
  payload_by number false (same, x, at, spelled) (y, found, opens, is) =
      at_number number x y (ap (λ v. slice_get v.items number) same ∙ at) spelled found opens is
  payload_by number true (fresh, last, x, spelled, opening, grown) (y, found, opens, is) =
      at_number number x y (ap (λ v. slice_get v.items number) grown ∙ ap (slice_get (old.items ++ x ∷ [])) last ∙ slice_get-push old.items x) spelled found opens is

  pub payload_at : (n : Numbered) → IsNumbered old bytes new n → IsFound new n.number (λ x. x.content ≡ content) → IsPayloadAt new n.number bytes content
  payload_at n numbered found = payload_by n.number n.is_new numbered found

  -- there is one
  missing_by : (number : ℕ) (is_new : Bool) → IsNumberedBy old bytes new number is_new → slice_get new.items number ≡ None → ⊥
  missing_by number false (same, x, at, spelled) none = let one : None ≡ Some x = sym none ∙ ap (λ v. slice_get v.items number) same ∙ at in cc
  missing_by number true (fresh, last, x, spelled, opening, grown) none =
      let one : None ≡ Some x = sym none ∙ ap (λ v. slice_get v.items number) grown ∙ ap (slice_get (old.items ++ x ∷ [])) last ∙ slice_get-push old.items x in cc

  pub not_missing : (n : Numbered) → IsNumbered old bytes new n → slice_get new.items n.number ≡ None → ⊥
  not_missing n numbered none = missing_by n.number n.is_new numbered none

-- ---- what is heard

-- what a server says in a payload was said in the group
pub said_under : (roster : RosterView) (bytes : List ℕ) (content : Content) → IsContent roster bytes content → All (IsUnder roster) (server_said content)
said_under roster bytes (contents.Opened (opened.Submission cipher said)) is = λ k d within. absurd (omega (arith, within))
said_under roster bytes (contents.Opened (opened.Plain said)) is = by said.signer
  where
    by : (who : SignerId) → All (IsUnder roster) (by_server who said)
    by (signers.Client i) = λ k d within. absurd (omega (arith, within))
    by (signers.Server j) =
        All-push (IsUnder roster) [] said (λ k d within. absurd (omega (arith, within))) (front_under roster bytes (contents.Opened (opened.Plain said)) said is refl)
    by (signers.Slot s) = λ k d within. absurd (omega (arith, within))
said_under roster bytes (contents.Opened (opened.Certificate c)) is = λ k d within. absurd (omega (arith, within))
said_under roster bytes (contents.Opened (opened.Challenge c)) is = λ k d within. absurd (omega (arith, within))
said_under roster bytes contents.Form is = λ k d within. absurd (omega (arith, within))
said_under roster bytes contents.Stranger is = λ k d within. absurd (omega (arith, within))
said_under roster bytes contents.Signature is = λ k d within. absurd (omega (arith, within))

pub heard_under : (P : SaidView → Type 0) (is_new : Bool) (old more : List SaidView) → All P old → All P more → All P (if is_new then old ++ more else old)
heard_under P true old more before after = All-append P old more before after
heard_under P false old more before after = before

-- a list that is one on success and else another
pub by_result : {T E : Type 0} (result : Result T E) (P : List SaidView → Type 0) (new ok err : List SaidView) → OnOk result (new ≡ ok) → OnErr result (new ≡ err) → P ok → P err → P new
by_result (Ok x) P new ok err is_ok is_err on_ok on_err = subst P (sym is_ok) on_ok
by_result (Err e) P new ok err is_ok is_err on_ok on_err = subst P (sym is_err) on_err

-- ---- all of it

pub puts_all : (old new : PartsView) (sender : Sender) (to : List Member) (bytes : List ℕ) (n : Numbered) (content : Content) (roster : RosterView) (between : AuditorView)
    (sent : List Outcome) → IsNumbered old.payloads bytes new.payloads n → IsFound new.payloads n.number (λ x. x.content ≡ content) → roster ≡ old.payloads.roster
    → NotesOwn roster sender.is_own (front_of content) old.auditor between → LooksIfNew roster old.group n.is_new bytes content between new.auditor
    → FollowsIn old.chain content new.chain → new.accused ≡ accused_with content old.accused → SendsEach sender.member n.number to old.flight new.flight sent
    → new.heard ≡ (if n.is_new then old.heard ++ server_said content else old.heard) → KeepsMembers old new
    → Puts old sender to bytes new (post_lines n sender.member bytes ++ sent)
puts_all old new sender to bytes n content roster between sent numbered found rosters own looks follows accused sends heard members =
    let at = payload_at old.payloads new.payloads bytes content n numbered found in
    let is = sym at.opens in
    record {
      number = n;
      numbered = numbered;
      payload = at.payload;
      there = at.there;
      spelled = at.spelled;
      sent = sent;
      sends = sends;
      told = refl;
      follows = subst (λ x. FollowsIn old.chain x new.chain) is follows;
      heard = subst (λ x. new.heard ≡ (if n.is_new then old.heard ++ server_said x else old.heard)) is heard;
      accused = subst (λ x. new.accused ≡ accused_with x old.accused) is accused;
      audits = record {
        between = between;
        own = subst (λ r. NotesOwn r sender.is_own (front_of at.payload.content) old.auditor between) rosters
            (subst (λ x. NotesOwn roster sender.is_own (front_of x) old.auditor between) is own);
        first = subst (λ r. LooksIfNew r old.group n.is_new bytes at.payload.content between new.auditor) rosters
            (subst (λ x. LooksIfNew roster old.group n.is_new bytes x between new.auditor) is looks);
      };
      members = members;
    }
