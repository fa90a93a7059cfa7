-- Who owns which slot of a group, and which of its members are corrupt.
use Rattle.std.specs.Prelude.{◌≡◌, ℕ, ◌<◌, ◌==◌, Bool, false, List, length, Option, Some, slice_get, slice_index_or}
use Rattle.std.specs.List.{list_any}
use Rattle.std.specs.Option.{option_map}
use Rattle.dn_wire.specs.declared.ids.ClientId.{ClientId}
use Rattle.dn_wire.specs.declared.ids.ServerId.{ServerId}
use Rattle.dn_wire.specs.declared.ids.Member.{Member}
use Rattle.dn_wire.specs.declared.ids.Member.TheVariants as members
use Rattle.dn_wire.specs.declared.ids.SignerId.{SignerId}
use Rattle.dn_wire.specs.declared.ids.SignerId.TheVariants.{Client, Server, Slot}

-- the owner of each slot, and of each client and of each server whether it is corrupt
pub record GroupView : Type 0 where
  pub owners : List ClientId
  pub clients : List Bool
  pub servers : List Bool

-- whether a member is corrupt; who isn't in the group isn't
abbrev pub is_corrupt : GroupView → Member → Bool
is_corrupt g (members.Client i) = slice_index_or g.clients i.0 false
is_corrupt g (members.Server j) = slice_index_or g.servers j.0 false

-- whose key it is: a slot's key is its owner's
abbrev pub member_of : GroupView → SignerId → Option Member
member_of g (Client i) = Some (members.Client i)
member_of g (Server j) = Some (members.Server j)
member_of g (Slot s) = option_map members.Client (slice_get g.owners s.0)

-- the key is that of a member that isn't corrupt
pub record IsHonestKey (g : GroupView) (who : SignerId) : Type 0 where
  pub member : Member
  pub owns : member_of g who ≡ Some member
  pub honest : is_corrupt g member ≡ false

-- a server of the group that isn't corrupt
pub record IsHonestServer (g : GroupView) (j : ServerId) : Type 0 where
  pub within : j.0 < length g.servers
  pub honest : is_corrupt g (members.Server j) ≡ false

-- the two are one member
abbrev pub is_member : Member → Member → Bool
is_member (members.Client i) (members.Client k) = i.0 == k.0
is_member (members.Client i) (members.Server k) = false
is_member (members.Server j) (members.Client k) = false
is_member (members.Server j) (members.Server k) = j.0 == k.0

abbrev pub is_listed : List Member → Member → Bool
is_listed corrupt member = list_any (is_member member) corrupt

-- the group of so many clients and servers, whose slots these clients own: of its members those are corrupt that are listed
pub record IsGroupOf (owners : List ClientId) (clients servers : ℕ) (corrupt : List Member) (g : GroupView) : Type 0 where
  pub owned : g.owners ≡ owners
  pub clients_long : length g.clients ≡ clients
  pub servers_long : length g.servers ≡ servers
  pub of_clients : (i : ClientId) → i.0 < clients → is_corrupt g (members.Client i) ≡ is_listed corrupt (members.Client i)
  pub of_servers : (j : ServerId) → j.0 < servers → is_corrupt g (members.Server j) ≡ is_listed corrupt (members.Server j)
