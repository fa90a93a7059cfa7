-- A group: its roster, the seeds that were dealt, who owns which slot, and who is corrupt.
use Rattle.std.specs.Prelude.{◌≡◌, ℕ, ◌+◌, ◌*◌, ◌<◌, ◌==◌, Bool, false, List, [], length, map, slice_get, slice_index_or, Some}
use Rattle.std.specs.List.{list_any}
use Rattle.dn_wire.specs.declared.ids.ClientId.{ClientId}
use Rattle.dn_wire.specs.declared.ids.ServerId.{ServerId}
use Rattle.dn_wire.specs.declared.ids.Member.{Member}
use Rattle.dn_wire.specs.declared.ids.Member.TheVariants as members
use Rattle.dn_wire.specs.declared.ids.SignerId.{SignerId}
use Rattle.dn_wire.specs.declared.ids.SignerId.TheVariants.{Client, Server, Slot}
use Rattle.dn_bits.specs.Bits.{sum_bits, below}
use Rattle.dn_pads.specs.Pads.{pad_of}
use Rattle.dn_roster.specs.Roster.{RosterView}

-- the seeds stand client by client, and within it server by server; the owner of slot s stands at place s, and the mask secret of client i at
-- place i
pub record GroupView : Type 0 where
  pub roster : RosterView
  pub seeds : List (List ℕ)
  pub owners : List ClientId
  pub masks : List (List ℕ)
  pub corrupt : List Member

abbrev pub clients_of : GroupView → ℕ
clients_of g = length g.roster.clients

abbrev pub servers_of : GroupView → ℕ
servers_of g = length g.roster.servers

-- the seed that client i and server j share
abbrev pub seed_of : GroupView → ℕ → ℕ → List ℕ
seed_of g i j = slice_index_or g.seeds (i * servers_of g + j) []

-- the pads of client i in round r, one for each server, added up
abbrev pub pads_of_client : GroupView → ℕ → ℕ → ℕ → List Bool
pads_of_client g i r n = sum_bits n (map (λ j. pad_of (seed_of g i j) r n) (below (servers_of g)))

abbrev pub is_member : Member → Member → Bool
is_member (members.Client i) (members.Client k) = i.0 == k.0
is_member (members.Client i) (members.Server k) = false
is_member (members.Server j) (members.Client k) = false
is_member (members.Server j) (members.Server k) = j.0 == k.0

abbrev pub is_corrupt : GroupView → Member → Bool
is_corrupt g m = list_any (is_member m) g.corrupt

abbrev pub IsServer : GroupView → ServerId → Type 0
IsServer g j = j.0 < servers_of g

-- an honest server of the group
pub record IsHonestServer (g : GroupView) (j : ServerId) : Type 0 where
  pub server : IsServer g j
  pub honest : is_corrupt g (members.Server j) ≡ false

-- an honest client of the group
pub record IsHonestClient (g : GroupView) (i : ClientId) : Type 0 where
  pub client : i.0 < clients_of g
  pub honest : is_corrupt g (members.Client i) ≡ false

-- whose key it is, and that this member is honest: a slot's key is its owner's
abbrev pub IsKeyOf : GroupView → SignerId → Member → Type 0
IsKeyOf g (Client i) m = members.Client i ≡ m
IsKeyOf g (Server j) m = members.Server j ≡ m
IsKeyOf g (Slot s) m = (i : ClientId) × (slice_get g.owners s.0 ≡ Some i) × (members.Client i ≡ m)

abbrev pub IsHonestKey : GroupView → SignerId → Type 0
IsHonestKey g who = (m : Member) × IsKeyOf g who m × (is_corrupt g m ≡ false)
