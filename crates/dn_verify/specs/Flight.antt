-- Messages in flight, by their numbers.
use Rattle.std.specs.Prelude.{ℕ, ◌==◌, Bool, false, nat_lt, Option, Some, None, unwrap_or, if◌then◌else◌}
use Rattle.std.specs.Ordering.{nat_cmp}
use Rattle.std.specs.BTreeMap.{BTreeMap, get}
use Rattle.dn_wire.specs.declared.ids.ClientId.{ClientId}
use Rattle.dn_wire.specs.declared.ids.Member.{Member}
use Rattle.dn_wire.specs.declared.ids.Member.TheVariants.{Client, Server}
use Rattle.dn_verify.specs.declared.mail.Flying.{Flying}
use Rattle.dn_verify.specs.declared.mail.Mail.{Mail}

-- which message with a number is in flight
abbrev pub Flight : Type 0
Flight = ℕ → Option Flying

abbrev pub no_flight : Flight
no_flight id = None

-- the flight with one message more
abbrev pub with_message : Flight → ℕ → Flying → Flight
with_message flight id message q = if q == id then Some message else flight q

-- the flight without the message that has this number
abbrev pub without_message : Flight → ℕ → Flight
without_message flight id q = if q == id then None else flight q

-- this client sent it
abbrev pub is_from : ClientId → Option Member → Bool
is_from i None = false
is_from i (Some (Client a)) = a.0 == i.0
is_from i (Some (Server b)) = false

-- a message, where another than this client sent it
abbrev pub of_others : ClientId → Option Flying → Option Flying
of_others i None = None
of_others i (Some f) = if is_from i f.from then None else Some f

-- the flight without the messages of a client
abbrev pub without_client : Flight → ClientId → Flight
without_client flight i q = of_others i (flight q)

-- ---- how the flight is kept: all messages by their numbers, and for each client that left the number that was next then

-- the message was sent before its sender left
abbrev pub is_dropped : BTreeMap ℕ ℕ → ℕ → Option Member → Bool
is_dropped left id None = false
is_dropped left id (Some (Client a)) = nat_lt id (unwrap_or (get nat_cmp left a.0) 0)
is_dropped left id (Some (Server b)) = false

abbrev pub undropped : BTreeMap ℕ ℕ → ℕ → Option Flying → Option Flying
undropped left id None = None
undropped left id (Some f) = if is_dropped left id f.from then None else Some f

abbrev pub flight_of : Mail → Flight
flight_of mail id = undropped mail.left id (get nat_cmp mail.sent id)
