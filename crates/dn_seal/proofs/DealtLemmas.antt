-- What a dealt group has for each member and each pair.
use Rattle.std.proofs.Common.{zero, suc, ◌≡◌, ℕ, ◌+◌, ◌*◌, ◌<◌, ◌≤◌, List, ◌++◌, Some, None, map, length, get_or, ap, ◌∙◌, arith}
use Rattle.std.specs.Prelude.{slice_get}
use Rattle.std.specs.List.{flat_map, range_with_len}
use Rattle.std.specs.Option.{option_map}
use Rattle.std.proofs.Math.Nat.{suc-mul}
use Rattle.std.proofs.lemmas.List.{get_or_append_left, get_or-append-add}
use Rattle.std.proofs.lemmas.List.FromFn.{length-map-range_with_len, get_or-map-range_with_len}
use Rattle.std.proofs.lemmas.Nat.{row_fits}
use Rattle.std.proofs.lemmas.Option.{slice_get-map, slice_get-get_or, slice_get_past}
use Rattle.dn_wire.specs.declared.ids.SignerId.{SignerId}
use Rattle.dn_wire.specs.declared.ids.SignerId.TheVariants.{Client, Server, Slot}
use Rattle.dn_hash.specs.Digests.{seed_commitment_of}
use Rattle.dn_lms.specs.Signature.{public_key}
use Rattle.dn_roster.specs.declared.group.GroupSpec.{GroupSpec}
use Rattle.dn_wire.specs.Signer.{number_of}
use Rattle.dn_roster.specs.Roster.{RosterView, key_of, commitment_of}
use Rattle.dn_seal.specs.Dealt.{IsMember, signers_like, client, server, slot, key_dealt_to, keys_dealt_to, each_pair, seed_dealt_to, commitment_dealt_to, dealt_roster}
use Rattle.dn_seal.proofs.ListLemmas.{length-each_pair, length-public_keys}

pub slice_get-first : {A : Type 0} (f : ℕ → A) (n i : ℕ) → i < n → slice_get (map f (range_with_len 0 n)) i ≡ Some (f i)
slice_get-first f n i within =
    slice_get-get_or (map f (range_with_len 0 n)) i (f i) (omega (arith, within, length-map-range_with_len f 0 n))
    ∙ ap Some (get_or-map-range_with_len f 0 n i i (f i) within (omega arith))

public_key_at : (group : GroupSpec) (signer : ℕ → SignerId) (n i : ℕ) → i < n → slice_get (map public_key (keys_dealt_to group signer n)) i ≡ Some (public_key (key_dealt_to group (signer i)))
public_key_at group signer n i within =
    slice_get-map public_key (keys_dealt_to group signer n) i
    ∙ ap (option_map public_key) (slice_get-first (λ k. key_dealt_to group (signer k)) n i within)

no_key_at : (group : GroupSpec) (signer : ℕ → SignerId) (n i : ℕ) → n ≤ i → slice_get (map public_key (keys_dealt_to group signer n)) i ≡ None
no_key_at group signer n i past =
    slice_get_past (map public_key (keys_dealt_to group signer n)) i (omega (arith, past, length-public_keys group signer n (map public_key (keys_dealt_to group signer n)) (λ _. map public_key (keys_dealt_to group signer n))))

-- the roster has the public key of each member's key
pub key_of-member : (group : GroupSpec) (roster : RosterView) → roster ≡ dealt_roster group → (who : SignerId) → IsMember group who → key_of roster who ≡ Some (public_key (key_dealt_to group who))
key_of-member group roster is (Client i) within = ap (λ r. key_of r (Client i)) is ∙ public_key_at group client group.clients i.0 within
key_of-member group roster is (Server j) within = ap (λ r. key_of r (Server j)) is ∙ public_key_at group server group.servers j.0 within
key_of-member group roster is (Slot s) within = ap (λ r. key_of r (Slot s)) is ∙ public_key_at group slot group.clients s.0 within

-- and no other keys
pub key_of-stranger : (group : GroupSpec) (roster : RosterView) → roster ≡ dealt_roster group → (who : SignerId) → signers_like group who ≤ number_of who → key_of roster who ≡ None
key_of-stranger group roster is (Client i) past = ap (λ r. key_of r (Client i)) is ∙ no_key_at group client group.clients i.0 past
key_of-stranger group roster is (Server j) past = ap (λ r. key_of r (Server j)) is ∙ no_key_at group server group.servers j.0 past
key_of-stranger group roster is (Slot s) past = ap (λ r. key_of r (Slot s)) is ∙ no_key_at group slot group.clients s.0 past

-- what f gives of a pair stands at the pair's place
pub slice_get-each_pair : (f : ℕ → ℕ → List ℕ) (clients servers i j : ℕ) → i < clients → j < servers → slice_get (each_pair f clients servers) (i * servers + j) ≡ Some (f i j)
slice_get-each_pair f clients servers i j low high =
    slice_get-get_or (each_pair f clients servers) (i * servers + j) (f i j) (omega (arith, length-each_pair f clients servers, row_fits i servers clients servers low (omega arith)))
    ∙ ap Some (at 0 clients i low ∙ ap (λ m. f m j) first)
  where
    first : 0 + i ≡ i
    first = omega arith

    at : (a n k : ℕ) → k < n → get_or (flat_map (λ m. map (f m) (range_with_len 0 servers)) (range_with_len a n)) (k * servers + j) (f i j) ≡ f (a + k) j
    at a zero k within = absurd (omega arith)
    at a (suc n) zero within =
        let rest = flat_map (λ m. map (f m) (range_with_len 0 servers)) (range_with_len (a + 1) n) in
        let place : zero * servers + j ≡ j = omega arith in
        let same : a ≡ a + zero = omega arith in
        ap (λ m. get_or (map (f a) (range_with_len 0 servers) ++ rest) m (f i j)) place
        ∙ get_or_append_left (map (f a) (range_with_len 0 servers)) rest (f i j) j (omega (arith, high, length-map-range_with_len (f a) 0 servers))
        ∙ get_or-map-range_with_len (f a) 0 servers j j (f i j) high (omega arith)
        ∙ ap (λ m. f m j) same
    at a (suc n) (suc k) within =
        let rest = flat_map (λ m. map (f m) (range_with_len 0 servers)) (range_with_len (a + 1) n) in
        let place : suc k * servers + j ≡ length (map (f a) (range_with_len 0 servers)) + (k * servers + j) = omega (arith, length-map-range_with_len (f a) 0 servers, suc-mul k servers) in
        let same : a + 1 + k ≡ a + suc k = omega arith in
        ap (λ m. get_or (map (f a) (range_with_len 0 servers) ++ rest) m (f i j)) place
        ∙ get_or-append-add (map (f a) (range_with_len 0 servers)) rest (k * servers + j) (f i j)
        ∙ at (a + 1) n k (omega arith)
        ∙ ap (λ m. f m j) same

-- the roster has the commitment to each pair's seed
pub commitment_of-pair : (group : GroupSpec) (roster : RosterView) → roster ≡ dealt_roster group → (i j : ℕ) → i < group.clients → j < group.servers
    → commitment_of roster i j ≡ Some (seed_commitment_of i j (seed_dealt_to group i j))
commitment_of-pair group roster is i j low high =
    ap (λ r. commitment_of r i j) is
    ∙ ap (λ n. slice_get (each_pair (commitment_dealt_to group) group.clients group.servers) (i * n + j)) (length-public_keys group server group.servers (map public_key (keys_dealt_to group server group.servers)) (λ _. map public_key (keys_dealt_to group server group.servers)))
    ∙ slice_get-each_pair (commitment_dealt_to group) group.clients group.servers i j low high
