-- The cores of a world's members: an honest one has its core, and nobody else has one.
use Rattle.std.proofs.Common.{◌≡◌, ◌≢◌, ℕ, ◌<◌, List, length, get_or, refl, sym, ap, subst, ◌∙◌, arith, inl, inr}
use Rattle.std.specs.Prelude.{Option, Some, None, slice_get, slice_set, IsSome}
use Rattle.std.specs.Option.{unwrap_or}
use Rattle.std.proofs.lemmas.Bool.{cases_lt}
use Rattle.std.proofs.lemmas.Option.{slice_get_within, slice_get-get_or, slice_get_past, get_or_from_slice_get}
use Rattle.std.proofs.lemmas.List.{length-set, get_or-set_same, get_or-set_other}
use Rattle.dn_wire.specs.declared.ids.ClientId.{ClientId}
use Rattle.dn_wire.specs.declared.ids.ServerId.{ServerId}
use Rattle.dn_wire.specs.declared.ids.Member.TheVariants as members
use Rattle.dn_roster.specs.Roster.{RosterView}
use Rattle.dn_client.specs.Client.{ClientView}
use Rattle.dn_server.specs.Server.{ServerView}
use Rattle.dn_state.specs.Parts.{PartsView}
use Rattle.dn_state.specs.Members.{core_in, core_at, client_at, server_at}
use Rattle.dn_headline.specs.Group.{IsHonestServer, IsHonestClient, clients_of, servers_of}
use Rattle.dn_headline.specs.Run.{RunView}
use Rattle.dn_steps.specs.Cores.{server_of, client_of, no_server, no_client}
use Rattle.dn_steps.specs.Tied.{IsTied}

-- ---- lists of cores

core_there : {A : Type 0} (o : Option (Option A)) (c : A) → core_in o ≡ Some c → o ≡ Some (Some c)
core_there (Some core) c e = ap Some e
core_there None c e = absurd cc

pub core_set_same : {A : Type 0} (cores : List (Option A)) (i : ℕ) (d : A) → i < length cores → core_at (slice_set cores i (Some d)) i ≡ Some d
core_set_same {A} cores i d within =
    let none : Option A = None in
    let long = length-set cores i (Some d) in
    ap core_in (slice_get-get_or (slice_set cores i (Some d)) i none (omega (arith, long, within)) ∙ ap Some (get_or-set_same cores i (Some d) none within))

pub core_set_other : {A : Type 0} (cores : List (Option A)) (i k : ℕ) (d : A) → k ≢ i → core_at (slice_set cores i (Some d)) k ≡ core_at cores k
core_set_other {A} cores i k d other =
    let none : Option A = None in
    let long = length-set cores i (Some d) in
    elim (cases_lt k (length cores)) [
      | inl within ↦ ap core_in (
          slice_get-get_or (slice_set cores i (Some d)) k none (omega (arith, long, within)) ∙ ap Some (get_or-set_other cores i k (Some d) none other)
          ∙ sym (slice_get-get_or cores k none within)
          )
      | inr past ↦ ap core_in (slice_get_past (slice_set cores i (Some d)) k (omega (arith, long, past)) ∙ sym (slice_get_past cores k past))
    ]

-- what stands in such a list, at the place and elsewhere
pub set_is : {A : Type 0} (cores : List (Option A)) (i k : ℕ) (d : A) (core : Option A) → i < length cores → k ≡ i → slice_get (slice_set cores i (Some d)) k ≡ Some core
    → core ≡ Some d
set_is {A} cores i k d core within same at =
    let none : Option A = None in
    sym (get_or_from_slice_get (slice_set cores i (Some d)) k core none at) ∙ ap (λ (n : ℕ). get_or (slice_set cores i (Some d)) n none) same
    ∙ get_or-set_same cores i (Some d) none within

pub set_other : {A : Type 0} (cores : List (Option A)) (i k : ℕ) (d : A) (core : Option A) → k ≢ i → slice_get (slice_set cores i (Some d)) k ≡ Some core
    → slice_get cores k ≡ Some core
set_other {A} cores i k d core other at =
    let none : Option A = None in
    let long = length-set cores i (Some d) in
    let inside = slice_get_within (slice_set cores i (Some d)) k core at in
    slice_get-get_or cores k none (omega (arith, long, inside))
    ∙ ap Some (sym (get_or-set_other cores i k (Some d) none other) ∙ get_or_from_slice_get (slice_set cores i (Some d)) k core none at)

-- ---- who has a core is honest

module _ (w : RunView) (parts : PartsView) (tied : IsTied w parts) where
  pub client_is_honest : (i : ClientId) (c : ClientView) → client_at parts i ≡ Some c → IsHonestClient w.group i
  client_is_honest i c e =
      let at = core_there (slice_get parts.clients i.0) c e in
      let within : i.0 < clients_of w.group =
      subst (λ (z : RosterView). i.0 < length z.clients) tied.group.roster
      (subst (λ (n : ℕ). i.0 < n) tied.whole.clients_long (slice_get_within parts.clients i.0 (Some c) at)) in
      record { client = within; honest = sym (tied.group.corrupt (members.Client i) within) ∙ (tied.whole.clients i.0 (Some c) at).0 refl }

  pub server_is_honest : (j : ServerId) (c : ServerView) → server_at parts j ≡ Some c → IsHonestServer w.group j
  server_is_honest j c e =
      let at = core_there (slice_get parts.servers j.0) c e in
      let within : j.0 < servers_of w.group =
      subst (λ (z : RosterView). j.0 < length z.servers) tied.group.roster
      (subst (λ (n : ℕ). j.0 < n) tied.whole.servers_long (slice_get_within parts.servers j.0 (Some c) at)) in
      record { server = within; honest = sym (tied.group.corrupt (members.Server j) within) ∙ (tied.whole.servers j.0 (Some c) at).0 refl }

  -- an honest member has a core
  pub honest_client_has : (i : ClientId) → IsHonestClient w.group i → client_at parts i ≡ Some (client_of parts i)
  honest_client_has i h =
      let none : Option ClientView = None in
      let within : i.0 < length parts.clients = subst (λ (n : ℕ). i.0 < n) (sym tied.whole.clients_long) (subst (λ (z : RosterView). i.0 < length z.clients) (sym tied.group.roster) h.client) in
      let at = slice_get-get_or parts.clients i.0 none within in
      let some = (tied.whole.clients i.0 (get_or parts.clients i.0 none) at).1 (tied.group.corrupt (members.Client i) h.client ∙ h.honest) in
      has (get_or parts.clients i.0 none) (client_at parts i) some (ap core_in at)
    where
      has : (o there : Option ClientView) → IsSome o → there ≡ o → there ≡ Some (unwrap_or there no_client)
      has (Some c) (Some d) some e = refl
      has (Some c) None some e = absurd cc
      has None there some e = absurd cc

  pub honest_server_has : (j : ServerId) → IsHonestServer w.group j → server_at parts j ≡ Some (server_of parts j)
  honest_server_has j h =
      let none : Option ServerView = None in
      let within : j.0 < length parts.servers = subst (λ (n : ℕ). j.0 < n) (sym tied.whole.servers_long) (subst (λ (z : RosterView). j.0 < length z.servers) (sym tied.group.roster) h.server) in
      let at = slice_get-get_or parts.servers j.0 none within in
      let some = (tied.whole.servers j.0 (get_or parts.servers j.0 none) at).1 (tied.group.corrupt (members.Server j) h.server ∙ h.honest) in
      has (get_or parts.servers j.0 none) (server_at parts j) some (ap core_in at)
    where
      has : (o there : Option ServerView) → IsSome o → there ≡ o → there ≡ Some (unwrap_or there (no_server parts))
      has (Some c) (Some d) some e = refl
      has (Some c) None some e = absurd cc
      has None there some e = absurd cc

pub client_core_is : (parts : PartsView) (i : ClientId) (c : ClientView) → client_at parts i ≡ Some c → client_of parts i ≡ c
client_core_is parts i c e = ap (λ (o : Option ClientView). unwrap_or o no_client) e

pub server_core_is : (parts : PartsView) (j : ServerId) (c : ServerView) → server_at parts j ≡ Some c → server_of parts j ≡ c
server_core_is parts j c e = ap (λ (o : Option ServerView). unwrap_or o (no_server parts)) e

-- the place of a core that is there
pub client_within : (parts : PartsView) (i : ClientId) (c : ClientView) → client_at parts i ≡ Some c → i.0 < length parts.clients
client_within parts i c e = slice_get_within parts.clients i.0 (Some c) (core_there (slice_get parts.clients i.0) c e)

pub client_there : (parts : PartsView) (i : ClientId) (c : ClientView) → client_at parts i ≡ Some c → slice_get parts.clients i.0 ≡ Some (Some c)
client_there parts i c e = core_there (slice_get parts.clients i.0) c e

pub server_within : (parts : PartsView) (j : ServerId) (c : ServerView) → server_at parts j ≡ Some c → j.0 < length parts.servers
server_within parts j c e = slice_get_within parts.servers j.0 (Some c) (core_there (slice_get parts.servers j.0) c e)

pub server_there : (parts : PartsView) (j : ServerId) (c : ServerView) → server_at parts j ≡ Some c → slice_get parts.servers j.0 ≡ Some (Some c)
server_there parts j c e = core_there (slice_get parts.servers j.0) c e
