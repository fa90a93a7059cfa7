-- A group that was dealt is one of runs.
use Rattle.std.proofs.Common.{◌≡◌, ℕ, zero, suc, ◌+◌, ◌*◌, ◌<◌, ◌≤◌, List, [], ◌∷◌, ◌++◌, map, length, refl, sym, ap, subst, ◌∙◌, arith, length-append}
use Rattle.std.specs.List.{flat_map, range_with_len}
use Rattle.std.specs.Int.{w32, to_le_bytes}
use Rattle.std.proofs.lemmas.List.FromFn.{length-map-range_with_len}
use Rattle.rand_chacha.specs.ChaCha.{word_at, key_of}
use Rattle.dn_wire.specs.declared.ids.ClientId.{ClientId}
use Rattle.dn_wire.specs.declared.ids.Member.{Member}
use Rattle.dn_lms.specs.Key.{Key, IsKey}
use Rattle.dn_roster.specs.declared.group.GroupSpec.{GroupSpec}
use Rattle.dn_roster.specs.Group.{IsWithinLimits}
use Rattle.dn_roster.specs.Dealing.{dealt, key_id_of, key_seed_of}
use Rattle.dn_roster.specs.Roster.{RosterView, IsRoster}
use Rattle.dn_seal.specs.Dealt.{IsDealt, key_dealt_to, dealt_roster, client, server, slot, each_pair, commitment_dealt_to}
use Rattle.dn_seal.proofs.ListLemmas.{length-public_keys}
use Rattle.dn_steps.specs.Dealt.{IsDealtGroup}

-- words of four bytes each
length-words : (f : ℕ → ℕ) (a n : ℕ) → length (flat_map (λ t. to_le_bytes w32 (f t)) (range_with_len a n)) ≡ 4 * n
length-words f a zero = refl
length-words f a (suc n) =
    let more = length-words f (a + 1) n in
    length-append (to_le_bytes w32 (f a)) (flat_map (λ t. to_le_bytes w32 (f t)) (range_with_len (a + 1) n)) ∙ omega (arith, more)

length-dealt : (seed : List ℕ) (stream place words : ℕ) → length (dealt seed stream place words) ≡ 4 * words
unfolding dealt
length-dealt seed stream place words = length-words (λ t. word_at 10 (key_of seed) stream (place + t)) 0 words

-- the key that is dealt to a server
pub server_key_is : (group : GroupSpec) → IsWithinLimits group → (j : ℕ) → IsKey (key_dealt_to group (server j))
server_key_is group limits j = record {
  lms_known = limits.server_lms;
  ots_known = limits.ots;
  id_long = length-dealt group.seed 3 (16 * j) 4;
  seed_long = length-dealt group.seed 3 (16 * j + 4) 8;
}

length-rows : (f : ℕ → ℕ → List ℕ) (a n m : ℕ) → length (flat_map (λ i. map (f i) (range_with_len 0 m)) (range_with_len a n)) ≡ n * m
length-rows f a zero m = omega arith
length-rows f a (suc n) m =
    length-append (map (f a) (range_with_len 0 m)) (flat_map (λ i. map (f i) (range_with_len 0 m)) (range_with_len (a + 1) n))
    ∙ ap (λ k. k + length (flat_map (λ i. map (f i) (range_with_len 0 m)) (range_with_len (a + 1) n))) (length-map-range_with_len (f a) 0 m)
    ∙ ap (λ k. m + k) (length-rows f (a + 1) n m) ∙ omega arith

-- the roster of what is dealt
pub dealt_roster_is : (group : GroupSpec) → IsWithinLimits group → IsRoster (dealt_roster group)
dealt_roster_is group limits =
    let cs = length-public_keys group client group.clients (dealt_roster group).clients refl in
    let ss = length-public_keys group server group.servers (dealt_roster group).servers refl in
    let ls = length-public_keys group slot group.clients (dealt_roster group).slots refl in
    record {
      version = limits.version;
      ots = limits.ots;
      client_lms = limits.client_lms;
      server_lms = limits.server_lms;
      clients = subst (λ n. (1 ≤ n) × (n ≤ 512)) (sym cs) limits.clients;
      servers = subst (λ n. (1 ≤ n) × (n ≤ 16)) (sym ss) limits.servers;
      slots = ls ∙ sym cs;
      seals = length-rows (commitment_dealt_to group) 0 group.clients group.servers ∙ (λ t. sym cs t * sym ss t);
    }

-- the group of all that was dealt, with these corrupt members
pub dealt_group : (group : GroupSpec) (roster : RosterView) (owners : List ClientId) (client_keys server_keys slot_keys : List Key) (seeds masks : List (List ℕ))
    (corrupt : List Member) → IsDealt group roster owners client_keys server_keys slot_keys seeds masks
    → IsDealtGroup group owners corrupt (record { roster = roster; seeds = seeds; owners = owners; masks = masks; corrupt = corrupt })
dealt_group group roster owners client_keys server_keys slot_keys seeds masks corrupt d = record {
  roster = d.has_roster;
  is_roster = subst IsRoster (sym d.has_roster) (dealt_roster_is group d.limits);
  keys = λ j within. server_key_is group d.limits j;
  seeds = d.has_seeds;
  owned = refl;
  in_order = d.has_owners;
  masks = d.has_masks;
  marked = refl;
}
