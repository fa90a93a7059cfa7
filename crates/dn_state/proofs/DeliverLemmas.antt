-- What comes of messages, from what is done step by step.
use Rattle.std.proofs.Common.{◌≡◌, ◌≢◌, ℕ, true, List, [], Option, Some, None, refl, ap, subst, ◌∙◌, arith}
use Rattle.std.specs.Prelude.{All, MatchOption, slice_get, slice_set}
use Rattle.std.proofs.lemmas.List.Elements.{All-push}
use Rattle.dn_wire.specs.declared.ids.ClientId.{ClientId}
use Rattle.dn_wire.specs.declared.ids.ServerId.{ServerId}
use Rattle.dn_wire.specs.declared.ids.SignerId.{SignerId}
use Rattle.dn_wire.specs.declared.ids.SignerId.TheVariants as signers
use Rattle.dn_wire.specs.declared.ids.Round.{Round}
use Rattle.dn_roster.specs.Roster.{RosterView}
use Rattle.dn_seal.specs.Said.{SaidView, IsUnder}
use Rattle.dn_cert.specs.declared.opened.Opened.{Opened}
use Rattle.dn_cert.specs.declared.opened.Opened.TheVariants as opened
use Rattle.dn_client.specs.Client.{ClientView}
use Rattle.dn_server.specs.declared.answer.Answer.{Answer}
use Rattle.dn_server.specs.Server.{ServerView}
use Rattle.dn_payloads.specs.declared.content.Content.{Content}
use Rattle.dn_payloads.specs.declared.content.Content.TheVariants as contents
use Rattle.dn_payloads.specs.Payloads.{IsContent}
use Rattle.dn_flight.specs.declared.msg.Msg.{Msg}
use Rattle.dn_report.specs.declared.outcome.Outcome.{Outcome}
use Rattle.dn_state.specs.declared.delivering.Reached.{Reached}
use Rattle.dn_state.specs.Parts.{PartsView}
use Rattle.dn_state.specs.Members.{server_at, Turns}
use Rattle.dn_state.specs.Delivering.{by_client, client_said, opened_at, body_in, IsRuled, IsReached, Replies, ReachesServer, ReachesClient, ComesOfReply, ComesOfReached}
use Rattle.dn_state.specs.Delivering.ReachesServer.{reaches as reaches_core}
use Rattle.dn_state.specs.Delivering.ReachesClient.{reaches as reaches_client}
use Rattle.dn_state.proofs.Sounds.{front_under}
use Rattle.dn_state.proofs.CallLemmas.{of_clients}

-- what a client or a slot said in front of a payload was said in the group
said_under : (roster : RosterView) (who : SignerId) (said : SaidView) → IsUnder roster said → All (IsUnder roster) (by_client who said)
said_under roster (signers.Client i) said under = All-push (IsUnder roster) [] said (λ k d within. absurd (omega (arith, within))) under
said_under roster (signers.Server j) said under = λ k d within. absurd (omega (arith, within))
said_under roster (signers.Slot k) said under = All-push (IsUnder roster) [] said (λ k d within. absurd (omega (arith, within))) under

pub client_under : (roster : RosterView) (bytes : List ℕ) (content : Content) → IsContent roster bytes content → All (IsUnder roster) (client_said content)
client_under roster bytes (contents.Opened (opened.Submission cipher said)) is =
    said_under roster said.signer said (front_under roster bytes (contents.Opened (opened.Submission cipher said)) said is refl)
client_under roster bytes (contents.Opened (opened.Plain said)) is =
    said_under roster said.signer said (front_under roster bytes (contents.Opened (opened.Plain said)) said is refl)
client_under roster bytes (contents.Opened (opened.Certificate c)) is = λ k d within. absurd (omega (arith, within))
client_under roster bytes (contents.Opened (opened.Challenge c)) is = λ k d within. absurd (omega (arith, within))
client_under roster bytes contents.Form is = λ k d within. absurd (omega (arith, within))
client_under roster bytes contents.Stranger is = λ k d within. absurd (omega (arith, within))
client_under roster bytes contents.Signature is = λ k d within. absurd (omega (arith, within))

-- a core that answers keeps its seat
pub ruled_seat : (x : Opened) (before after : ServerView) → IsRuled x before after → after.seat ≡ before.seat
ruled_seat (opened.Submission cipher said) before after is = is.seat
ruled_seat (opened.Plain said) before after is = is.seat
ruled_seat (opened.Certificate c) before after is = is.seat
ruled_seat (opened.Challenge c) before after is = ap (λ v. v.seat) is

-- a message reaches a server whose core replies
pub reaches_reply : (m : Msg) (j : ServerId) (old replied new : PartsView) (lines : List Outcome) (x : Opened) (before : ServerView) (answer : Answer) (last : Round)
    → opened_at old m.payload ≡ Some x → server_at old j ≡ Some before → Replies j x before answer last old replied
    → ComesOfReply m j last answer (body_in (opened_at replied m.payload)) replied new lines → ReachesServer m j old new lines
reaches_reply m j old replied new lines x before answer last carries there replies comes =
    let same : opened_at replied m.payload ≡ Some x = ap (λ v. opened_at v m.payload) replies.kept ∙ carries in
    reaches_core x before carries there (record {
      answer = answer;
      last = last;
      replied = replied;
      replies = replies;
      comes = subst (λ o. ComesOfReply m j last answer (body_in o) replied new lines) same comes;
    })

-- a message reaches a client whose core is reached
pub reaches_by : (i : ClientId) (p : ℕ) (old new : PartsView) (clients : List (Option ClientView)) (lines : List Outcome) (x : Opened) (reached : Reached)
    → slice_get old.left i.0 ≢ Some true → opened_at old p ≡ Some x → Turns old.clients clients i.0 (λ before after. IsReached i x before reached after)
    → ComesOfReached i (body_in (opened_at old p)) reached (of_clients old clients) new lines → ReachesClient i p old new lines
reaches_by i p old new clients lines x reached stays carries turns comes =
    reaches_client x turns.before stays carries turns.there (record {
      reached = reached;
      after = turns.after;
      is = turns.called;
      comes =
          subst (λ o. ComesOfReached i (body_in o) reached (of_clients old (slice_set old.clients i.0 (Some turns.after))) new lines) carries
          (subst (λ cs. ComesOfReached i (body_in (opened_at old p)) reached (of_clients old cs) new lines) turns.kept comes);
    })

-- what holds of what there is
pub some_of : {A : Type 0} (found : Option A) (x : A) (N : Type 0) (S : A → Type 0) → found ≡ Some x → MatchOption found N S → S x
some_of None x N S is holds = let none : ⊥ = cc in absurd none
some_of (Some y) x N S is holds = let same : y ≡ x = cc in subst S same holds

-- what holds where there is nothing
pub none_of : {A : Type 0} (found : Option A) (N : Type 0) (S : A → Type 0) → found ≡ None → MatchOption found N S → N
none_of None N S is holds = holds
none_of (Some x) N S is holds = let some : ⊥ = cc in absurd some
