-- The lines that tell of a put, and what it leaves.
use Rattle.std.proofs.Common.{◌≡◌, ℕ, List, [], ◌∷◌, length, sym, ap, subst, ◌∙◌, inl, inr, true, false, Bool, cond}
use Rattle.std.specs.Prelude.{Contains}
use Rattle.std.proofs.lemmas.List.Elements.{Contains-append_cases}
use Rattle.dn_wire.specs.declared.ids.Member.{Member}
use Rattle.dn_cert.proofs.Orders.{nothing, first_or_later}
use Rattle.dn_report.specs.declared.outcome.Outcome.{Outcome}
use Rattle.dn_report.specs.declared.outcome.Outcome.TheVariants as outcomes
use Rattle.dn_payloads.specs.Payloads.{PayloadsView, IsNumberedBy}
use Rattle.dn_flight.specs.Flight.{FlightView}
use Rattle.dn_state.specs.declared.putting.Sender.{Sender}
use Rattle.dn_state.specs.Parts.{PartsView}
use Rattle.dn_state.specs.Putting.{Puts, Sends, SendsEach, post_lines}
use Rattle.dn_state.specs.Putting.Sends.{sent, full}
use Rattle.dn_state.specs.Putting.SendsEach.{to_none, to_next}
use Rattle.dn_steps.proofs.Places.{only}
use Rattle.dn_steps.proofs.Runs.{is_of_put}
use Rattle.dn_steps.proofs.Resting.{SameMembers}

line_of_message : (by to : Member) (payload : ℕ) (old new : FlightView) (line : Outcome) → Sends by payload to old new line → is_of_put line ≡ true
line_of_message by to payload old new line (sent room msgs next is) = ap is_of_put is
line_of_message by to payload old new line (full no_room same is) = ap is_of_put is

lines_of_messages : (by : Member) (payload : ℕ) (to : List Member) (old new : FlightView) (lines : List Outcome) → SendsEach by payload to old new lines
    → (o : Outcome) → Contains lines o → is_of_put o ≡ true
lines_of_messages by payload to old new lines (to_none same is) o h = absurd (nothing o (subst (λ (os : List Outcome). Contains os o) is h))
lines_of_messages by payload to old new lines (to_next {to = t} {others = ts} between line rest first more is) o h =
    elim (first_or_later line rest o (subst (λ (os : List Outcome). Contains os o) is h)) [
      | inl e ↦ ap is_of_put (sym e) ∙ line_of_message by t payload old between line first
      | inr behind ↦ lines_of_messages by payload ts between new rest more o behind
    ]

-- each of them tells of bytes or of a message
pub puts_lines : (old new : PartsView) (sender : Sender) (to : List Member) (bytes : List ℕ) (lines : List Outcome) → Puts old sender to bytes new lines
    → (o : Outcome) → Contains lines o → is_of_put o ≡ true
puts_lines old new sender to bytes lines h o there =
    elim (Contains-append_cases (post_lines h.number sender.member bytes) h.sent o (subst (λ (os : List Outcome). Contains os o) h.told there)) [
      | inl first ↦ of_post h.number.is_new first
      | inr rest ↦ lines_of_messages sender.member h.number.number to old.flight new.flight h.sent h.sends o rest
    ]
  where
    of_post : (t : Bool) → Contains (cond t (outcomes.Post h.number.number sender.member bytes ∷ []) []) o → is_of_put o ≡ true
    of_post true c = ap is_of_put (sym (only (outcomes.Post h.number.number sender.member bytes) o c))
    of_post false c = absurd (nothing o c)

roster_by : (old new : PayloadsView) (bytes : List ℕ) (number : ℕ) (t : Bool) → IsNumberedBy old bytes new number t → new.roster ≡ old.roster
roster_by old new bytes number false h = ap (λ (v : PayloadsView). v.roster) h.0
roster_by old new bytes number true h = ap (λ (v : PayloadsView). v.roster) h.5

pub puts_keep_members : (old new : PartsView) (sender : Sender) (to : List Member) (bytes : List ℕ) (lines : List Outcome) → Puts old sender to bytes new lines → SameMembers old new
puts_keep_members old new sender to bytes lines h = record {
  roster = h.members.roster;
  opens = roster_by old.payloads new.payloads bytes h.number.number h.number.is_new h.numbered;
  group = h.members.group;
  clients = h.members.clients;
  servers = h.members.servers;
  left = ap (λ (ls : List Bool). length ls) h.members.left;
}
