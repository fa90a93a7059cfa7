-- What is whole stays so where something is put.
use Rattle.std.proofs.Common.{◌≡◌, ℕ, ◌<◌, ◌≤◌, Bool, true, false, List, [], ◌∷◌, ◌++◌, length, sym, ap, subst, ◌∙◌, arith}
use Rattle.std.specs.Prelude.{All}
use Rattle.std.proofs.lemmas.List.{length_push}
use Rattle.std.proofs.lemmas.List.Elements.{All-push}
use Rattle.std.proofs.lemmas.Option.{slice_get_within}
use Rattle.dn_wire.specs.declared.ids.Member.{Member}
use Rattle.dn_flight.specs.Flight.{FlightView}
use Rattle.dn_flight.specs.declared.msg.Msg.{Msg}
use Rattle.dn_payloads.specs.declared.payloads.Numbered.{Numbered}
use Rattle.dn_payloads.specs.Payloads.{PayloadsView, IsNumbered, IsNumberedBy}
use Rattle.dn_report.specs.declared.outcome.Outcome.{Outcome}
use Rattle.dn_state.specs.declared.putting.Sender.{Sender}
use Rattle.dn_state.specs.Parts.{PartsView, IsWhole, HaveClients, HaveServers}
use Rattle.dn_state.specs.Putting.{Sends, SendsEach, Puts}
use Rattle.dn_state.specs.Putting.Sends.{sent, full}
use Rattle.dn_state.specs.Putting.SendsEach.{to_none, to_next}

-- what is sent carries the payload, which is one of the first n
module _ (n payload : ℕ) (from : Member) (within : payload < n) where
  sends_carried : (to : Member) (old new : FlightView) (line : Outcome) → Sends from payload to old new line
      → All (λ (m : Msg). m.payload < n) old.msgs → All (λ (m : Msg). m.payload < n) new.msgs
  sends_carried to old new line (sent room msgs next told) carried =
      subst (All (λ (m : Msg). m.payload < n)) (sym msgs)
      (All-push (λ (m : Msg). m.payload < n) old.msgs (record { id = old.next; from = from; to = to; payload = payload }) carried within)
  sends_carried to old new line (full is same told) carried = subst (λ (f : FlightView). All (λ (m : Msg). m.payload < n) f.msgs) (sym same) carried

  each_carried : (tos : List Member) (old new : FlightView) (lines : List Outcome) → SendsEach from payload tos old new lines
      → All (λ (m : Msg). m.payload < n) old.msgs → All (λ (m : Msg). m.payload < n) new.msgs
  each_carried [] old new lines (to_none same none) carried = subst (λ (f : FlightView). All (λ (m : Msg). m.payload < n) f.msgs) (sym same) carried
  each_carried (to ∷ others) old new lines (to_next between line rest one each is) carried =
      each_carried others between new rest each (sends_carried to old between line one carried)

-- the payloads that there were stay, under the same roster
pub record GrowsPayloads (old new : PayloadsView) : Type 0 where
  pub roster : new.roster ≡ old.roster
  pub more : length old.items ≤ length new.items

numbered_grows_by : (old new : PayloadsView) (bytes : List ℕ) (number : ℕ) (is_new : Bool) → IsNumberedBy old bytes new number is_new → GrowsPayloads old new
numbered_grows_by old new bytes number false (same, x, at, spelled) = record { roster = ap (λ v. v.roster) same; more = omega (arith, ap (λ v. length v.items) same) }
numbered_grows_by old new bytes number true (fresh, last, x, spelled, opening, grown) =
    let long : length new.items ≡ length (old.items ++ x ∷ []) = ap (λ v. length v.items) grown in
    record { roster = ap (λ v. v.roster) grown; more = omega (arith, long, length_push old.items x) }

pub numbered_grows : (old new : PayloadsView) (bytes : List ℕ) (n : Numbered) → IsNumbered old bytes new n → GrowsPayloads old new
numbered_grows old new bytes n numbered = numbered_grows_by old new bytes n.number n.is_new numbered

pub All-carried : (n k : ℕ) (msgs : List Msg) → n ≤ k → All (λ (m : Msg). m.payload < n) msgs → All (λ (m : Msg). m.payload < k) msgs
All-carried n k msgs le carried = λ i d within. omega (arith, carried i d within)

pub puts_whole : (old : PartsView) (sender : Sender) (to : List Member) (bytes : List ℕ) (new : PartsView) (lines : List Outcome)
    → Puts old sender to bytes new lines → IsWhole old → IsWhole new
puts_whole old sender to bytes new lines puts whole =
    let grows = numbered_grows old.payloads new.payloads bytes puts.number puts.numbered in
    let within : puts.number.number < length new.payloads.items = slice_get_within new.payloads.items puts.number.number puts.payload puts.there in
    let m = puts.members in
    record {
      opens = grows.roster ∙ whole.opens ∙ sym m.roster;
      clients_long = ap length m.clients ∙ whole.clients_long ∙ ap (λ r. length r.clients) (sym m.roster);
      servers_long = ap length m.servers ∙ whole.servers_long ∙ ap (λ r. length r.servers) (sym m.roster);
      left_long = ap length m.left ∙ whole.left_long ∙ ap (λ r. length r.clients) (sym m.roster);
      clients = subst (λ g. HaveClients g new.clients) (sym m.group) (subst (HaveClients old.group) (sym m.clients) whole.clients);
      servers = subst (λ g. HaveServers g new.servers) (sym m.group) (subst (HaveServers old.group) (sym m.servers) whole.servers);
      carried =
          each_carried (length new.payloads.items) puts.number.number sender.member within to old.flight new.flight puts.sent puts.sends
          (All-carried (length old.payloads.items) (length new.payloads.items) old.flight.msgs grows.more whole.carried);
    }
