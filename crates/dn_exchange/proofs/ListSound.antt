-- A server that lists at the closing of its window stays sound.
use Rattle.std.proofs.Common.{◌≡◌, ℕ, zero, suc, ◌+◌, ◌<◌, ◌≤◌, ◌^◌, List, [], ◌∷◌, length, map, Some, None, refl, sym, ap, subst, ◌∙◌, arith}
use Rattle.std.specs.Prelude.{Option, All, Contains, slice_get}
use Rattle.std.specs.List.{filter_map, cons_option, range_with_len}
use Rattle.dn_cert.proofs.Orders.{All-from_contains}
use Rattle.dn_bits.specs.Bits.{below}
use Rattle.dn_hash.specs.Digests.{cipher_digest_of}
use Rattle.dn_hash.proofs.DigestLemmas.{length-sha256}
use Rattle.dn_wire.specs.declared.ids.ClientId.{ClientId}
use Rattle.dn_lms.proofs.SizeLemmas.{verified_short}
use Rattle.dn_record_types.specs.declared.inventory.Entry.{Entry}
use Rattle.dn_record_types.specs.declared.inventory.Inventory.{Inventory}
use Rattle.dn_record_types.specs.declared.statement.Statement.TheVariants as kinds
use Rattle.dn_record_types.specs.Lists.{AscendFrom, FitsRow}
use Rattle.dn_record_types.specs.Records.{entry}
use Rattle.dn_seal.specs.Dealt.{server}
use Rattle.dn_seal.specs.Signer.{CanSign}
use Rattle.dn_seal.proofs.SizeLemmas.{can_sign}
use Rattle.dn_cert.specs.Signed.{EntryVerifies}
use Rattle.dn_server.specs.declared.claims.Claim.{Claim}
use Rattle.dn_server.specs.Server.{ServerView}
use Rattle.dn_exchange.specs.Closing.{entry_at, entries_of, inventory_of}
use Rattle.dn_exchange.specs.Invariant.{IsSound}
use Rattle.dn_exchange.proofs.ReadyLemmas.{in_filter_map, entry_found, by_recursion}

-- a client's digest has 32 bytes
cipher_digest_long : (r i : ℕ) (c : List ℕ) → length (cipher_digest_of r i c) ≡ 32
unfolding cipher_digest_of
cipher_digest_long r i c = length-sha256 _

-- entries by clients that ascend
module _ (claims : List (Option Claim)) where
  client_of : (i : ℕ) (e : Entry) → entry_at claims i ≡ Some e → e.client.0 ≡ i
  client_of i e is = let found = entry_found i (slice_get claims i) e is in ap (λ (x : Entry). x.client.0) found.3

  few : (a n : ℕ) → length (filter_map (entry_at claims) (range_with_len a n)) ≤ n
  few a zero = omega arith
  few a (suc n) = by (entry_at claims a) (few (a + 1) n)
    where
      by : (o : Option Entry) → length (filter_map (entry_at claims) (range_with_len (a + 1) n)) ≤ n
          → length (cons_option o (filter_map (entry_at claims) (range_with_len (a + 1) n))) ≤ suc n
      by None h = omega (arith, h)
      by (Some e) h = omega (arith, h)

  lower : (low floor : ℕ) (ids : List ClientId) → low ≤ floor → AscendFrom floor ids → AscendFrom low ids
  lower low floor [] le h = tt
  lower low floor (i ∷ ids) le h = (omega (arith, le, h.0), h.1)

  ascends : (a n : ℕ) → AscendFrom a (map (λ (e : Entry). e.client) (filter_map (entry_at claims) (range_with_len a n)))
  ascends a zero = tt
  ascends a (suc n) = by (entry_at claims a) refl (ascends (a + 1) n)
    where
      by : (o : Option Entry) → entry_at claims a ≡ o → AscendFrom (a + 1) (map (λ (e : Entry). e.client) (filter_map (entry_at claims) (range_with_len (a + 1) n)))
          → AscendFrom a (map (λ (e : Entry). e.client) (cons_option o (filter_map (entry_at claims) (range_with_len (a + 1) n))))
      by None e h = lower a (a + 1) (map (λ (x : Entry). x.client) (filter_map (entry_at claims) (range_with_len (a + 1) n))) (omega arith) h
      by (Some x) e h =
          let at = client_of a x e in
          (omega (arith, at), subst (λ k. AscendFrom (k + 1) (map (λ (y : Entry). y.client) (filter_map (entry_at claims) (range_with_len (a + 1) n)))) (sym at) h)

-- the inventory of a sound server
module _ (v : ServerView) (sound : IsSound v) where
  own : Inventory
  own = inventory_of v.run

  -- an entry is that of a claim
  pub from_claim : (e : Entry) → Contains (entries_of v.run.claims) e → EntryVerifies v.seat.roster v.run.r v.run.prev e × FitsRow entry e × (length e.signature ≤ 9004)
  from_claim e there =
      let from = in_filter_map (entry_at v.run.claims) (below (length v.run.claims)) e there in
      let found = entry_found from.0 (slice_get v.run.claims from.0) e from.2 in
      let is = sound.are_claims from.0 found.0 found.1 in
      let clients = sound.seated.roster.clients in
      let short = verified_short is.verifies.0 _ found.0.signature is.verifies.2 in
      let low : from.0 < 2 ^ 32 = omega (arith, is.within, clients.1) in
      let long : length found.0.digest ≡ 32 = ap length is.digest ∙ cipher_digest_long v.run.r.0 from.0 _ in
      subst (λ (x : Entry). EntryVerifies v.seat.roster v.run.r v.run.prev x × FitsRow entry x × (length x.signature ≤ 9004)) (sym found.3)
      (is.verifies, (low, (long, omega (arith, short))), short)

  pub inventory_verifies : All (EntryVerifies v.seat.roster v.run.r v.run.prev) (entries_of v.run.claims)
  inventory_verifies = All-from_contains (EntryVerifies v.seat.roster v.run.r v.run.prev) (entries_of v.run.claims) (λ e there. (from_claim e there).0)

  pub inventory_fits : v.run.r.0 < 2 ^ 64 → v.run.prev.0 < 2 ^ 64 → CanSign (server v.seat.number) (kinds.Inventory (inventory_of v.run))
  inventory_fits r prev =
      let rows = All-from_contains (FitsRow entry) (entries_of v.run.claims) (λ e there. (from_claim e there).1) in
      let signatures = All-from_contains (λ (e : Entry). length e.signature ≤ 9004) (entries_of v.run.claims) (λ e there. (from_claim e there).2) in
      let clients = sound.seated.roster.clients in
      let count = few v.run.claims 0 (length v.run.claims) in
      let servers = sound.seated.roster.servers in
      can_sign (server v.seat.number) (kinds.Inventory (inventory_of v.run)) (omega (arith, sound.seated.number, servers.1))
      (r, (prev, ((omega (arith, count, sound.claims, clients.1), ascends v.run.claims 0 (length v.run.claims), by_recursion (FitsRow entry) (entries_of v.run.claims) rows))))
      signatures
