-- What an honest client's plain texts are made of: by the client rule, from the texts that it was given.
use Rattle.std.specs.Prelude.{◌≡◌, ℕ, ◌==◌, ◌<◌, ◌≤◌, ◌++◌, List, [], ◌∷◌, length, take, drop, Contains, slice_get, Some, if◌then◌else◌}
use Rattle.dn_wire.specs.declared.ids.ClientId.{ClientId}
use Rattle.dn_wire.specs.declared.ids.SlotId.{SlotId}
use Rattle.dn_hash.specs.Digests.{mask_seed_of}
use Rattle.dn_record_types.specs.declared.body.Body.{Body}
use Rattle.dn_client.specs.Plain.{plain_text}
use Rattle.dn_report.specs.declared.event.Event.{Event}
use Rattle.dn_report.specs.declared.event.Event.TheVariants as events
use Rattle.dn_headline.specs.Group.{IsHonestClient}
use Rattle.dn_headline.specs.Log.{Step}
use Rattle.dn_headline.specs.Run.{RunView, PlainMade}
use Rattle.dn_headline.specs.Certified.{IsLayoutOf}

-- the text that an event gives to a client
abbrev pub text_in : ClientId → Event → List (List ℕ)
text_in i (events.Say client text) = if client.0 == i.0 then text ∷ [] else []
text_in i _ = []

-- the texts that a client was given, in order
abbrev pub texts_in : ClientId → List Step → List (List ℕ)
texts_in i [] = []
texts_in i (s ∷ ss) = text_in i s.event ++ texts_in i ss

abbrev pub texts_of : RunView → ClientId → List (List ℕ)
texts_of w i = texts_in i w.history

-- The plain text is what the client rule makes on the layout after the round's prev, along certified bodies, in the client's slot and with its
-- mask secret, of texts that it was given: those that were given by then but for the first ones, with which it was done.
pub record IsByRule (w : RunView) (m : PlainMade) : Type 0 where
  pub below : m.prev.0 < m.r.0
  pub layout : List ℕ
  pub after : IsLayoutOf w m.prev.0 layout
  pub slot : SlotId
  pub owns : slice_get w.group.owners slot.0 ≡ Some m.client
  pub mask : List ℕ
  pub secret : slice_get w.group.masks m.client.0 ≡ Some mask
  pub given : ℕ
  pub within : given ≤ length (texts_of w m.client)
  pub done_with : ℕ
  pub plain : m.plain ≡ plain_text layout slot.0 (drop done_with (take given (texts_of w m.client))) (mask_seed_of mask m.r.0)

-- the plain text is one that the client made for the body's round and prev, by the client rule
pub record IsMadeFor (w : RunView) (b : Body) (i : ClientId) (m : PlainMade) : Type 0 where
  pub of_run : Contains w.plains m
  pub client : m.client ≡ i
  pub round : m.r ≡ b.r
  pub prev : m.prev ≡ b.prev
  pub by_rule : IsByRule w m

-- an honest client makes its plain texts by the rule, and one for a round
pub record PlainsKeepRules (w : RunView) : Type 0 where
  pub by_rule : (m : PlainMade) → Contains w.plains m → IsHonestClient w.group m.client → IsByRule w m
  pub one_each : (m o : PlainMade) → Contains w.plains m → Contains w.plains o → IsHonestClient w.group m.client → m.client ≡ o.client → m.r ≡ o.r → m ≡ o
