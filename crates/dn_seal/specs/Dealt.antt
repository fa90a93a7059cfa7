-- What a group's dealer deals.
use Rattle.std.specs.Prelude.{◌≡◌, ◌<◌, ℕ, List, map}
use Rattle.std.specs.List.{flat_map, range_with_len}
use Rattle.dn_wire.specs.Signer.{number_of}
use Rattle.dn_wire.specs.declared.ids.ClientId.{ClientId}
use Rattle.dn_wire.specs.declared.ids.SignerId.{SignerId}
use Rattle.dn_wire.specs.declared.ids.SignerId.TheVariants.{Client, Server, Slot}
use Rattle.dn_hash.specs.Digests.{seed_commitment_of}
use Rattle.dn_lms.specs.Key.{Key}
use Rattle.dn_lms.specs.Signature.{public_key}
use Rattle.dn_roster.specs.declared.group.GroupSpec.{GroupSpec}
use Rattle.dn_roster.specs.Group.{IsWithinLimits}
use Rattle.dn_roster.specs.Dealing.{pair_seed_of, key_id_of, key_seed_of, mask_secret_of}
use Rattle.dn_roster.specs.Owners.{IsOwners}
use Rattle.dn_roster.specs.Roster.{RosterView}
use Rattle.dn_seal.specs.declared.dealt.Kind.{Kind}
use Rattle.dn_seal.specs.declared.dealt.Kind.TheVariants as kinds

-- how many signers of the same kind a group has
abbrev pub signers_like : GroupSpec → SignerId → ℕ
signers_like group (Client i) = group.clients
signers_like group (Server j) = group.servers
signers_like group (Slot s) = group.clients

-- a signer of the group
abbrev pub IsMember : GroupSpec → SignerId → Type 0
IsMember group who = number_of who < signers_like group who

-- the LMS typecode of a signer's key
abbrev pub lms_of : GroupSpec → SignerId → ℕ
lms_of group (Client i) = group.client_lms
lms_of group (Server j) = group.server_lms
lms_of group (Slot s) = group.client_lms

-- the key that is dealt to a signer
abbrev pub key_dealt_to : GroupSpec → SignerId → Key
key_dealt_to group who = record { lms = lms_of group who; ots = group.ots; id = key_id_of group.seed who; seed = key_seed_of group.seed who }

abbrev pub client : ℕ → SignerId
client i = Client record { 0 = i }

abbrev pub server : ℕ → SignerId
server j = Server record { 0 = j }

abbrev pub slot : ℕ → SignerId
slot s = Slot record { 0 = s }

-- the signer of a kind and number
abbrev pub nth_signer : Kind → ℕ → SignerId
nth_signer kinds.Client i = client i
nth_signer kinds.Server j = server j
nth_signer kinds.Slot s = slot s

-- the keys of the first n signers of a kind
abbrev pub keys_dealt_to : GroupSpec → (ℕ → SignerId) → ℕ → List Key
keys_dealt_to group signer n = map (λ i. key_dealt_to group (signer i)) (range_with_len 0 n)

-- what f gives of each client and server, client by client and within it server by server
abbrev pub each_pair : (ℕ → ℕ → List ℕ) → ℕ → ℕ → List (List ℕ)
each_pair f clients servers = flat_map (λ i. map (f i) (range_with_len 0 servers)) (range_with_len 0 clients)

abbrev pub seed_dealt_to : GroupSpec → ℕ → ℕ → List ℕ
seed_dealt_to group i j = pair_seed_of group.seed group.servers i j

abbrev pub commitment_dealt_to : GroupSpec → ℕ → ℕ → List ℕ
commitment_dealt_to group i j = seed_commitment_of i j (seed_dealt_to group i j)

-- the roster of the keys and seeds that are dealt
abbrev pub dealt_roster : GroupSpec → RosterView
dealt_roster group = record {
  version = group.version;
  ots = group.ots;
  client_lms = group.client_lms;
  server_lms = group.server_lms;
  clients = map public_key (keys_dealt_to group client group.clients);
  servers = map public_key (keys_dealt_to group server group.servers);
  slots = map public_key (keys_dealt_to group slot group.clients);
  seals = each_pair (commitment_dealt_to group) group.clients group.servers;
}

-- each of these is what is dealt in this group
pub record IsDealt (group : GroupSpec) (roster : RosterView) (owners : List ClientId) (client_keys server_keys slot_keys : List Key) (seeds masks : List (List ℕ)) : Type 0 where
  pub limits : IsWithinLimits group
  pub has_roster : roster ≡ dealt_roster group
  pub has_owners : IsOwners group owners
  pub has_client_keys : client_keys ≡ keys_dealt_to group client group.clients
  pub has_server_keys : server_keys ≡ keys_dealt_to group server group.servers
  pub has_slot_keys : slot_keys ≡ keys_dealt_to group slot group.clients
  pub has_seeds : seeds ≡ each_pair (seed_dealt_to group) group.clients group.servers
  pub has_masks : masks ≡ map (mask_secret_of group.seed) (range_with_len 0 group.clients)
