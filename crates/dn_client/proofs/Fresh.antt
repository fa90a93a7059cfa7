-- A client that has done nothing yet.
use Rattle.std.proofs.Common.{◌≡◌, ◌<◌, ◌≤◌, ℕ, List, length, get_or, Some, sym, ap, ◌∙◌, refl, false, [], arith}
use Rattle.std.specs.Prelude.{slice_get, slice_index_or, map}
use Rattle.std.specs.List.{range_with_len}
use Rattle.std.proofs.lemmas.Option.{get_or_from_slice_get}
use Rattle.std.proofs.lemmas.List.FromFn.{get_or-map-range_with_len}
use Rattle.dn_hash.specs.Digests.{seed_commitment_of}
use Rattle.dn_roster.specs.declared.group.GroupSpec.{GroupSpec}
use Rattle.dn_roster.specs.Roster.{RosterView, commitment_of}
use Rattle.dn_seal.specs.Dealt.{dealt_roster, server, seed_dealt_to}
use Rattle.dn_seal.proofs.ListLemmas.{length-public_keys}
use Rattle.dn_lms.specs.Key.{IsKey}
use Rattle.dn_cert.specs.Chain.{ChainView, IsChain}
use Rattle.dn_client.specs.Client.{ClientView, Identity, IsClient}

abbrev pub fresh_view : Identity → ChainView → ClientView
fresh_view who chain = record {
  who = who;
  chain = chain;
  queue = [];
  head = 0;
  made = [];
  accused = [];
  answered = [];
  signed = [];
  signed_as_slot = [];
  left = false;
  bent = false;
  spent = false;
}

pub fresh_client : (who : Identity) (chain : ChainView) → IsChain chain → who.slot.0 < chain.slots → IsKey who.key → IsKey who.slot_key
    → (1 ≤ length who.seeds) × (length who.seeds ≤ 16) → IsClient (fresh_view who chain)
fresh_client who chain is slot key slot_key seeds = record {
  chain = is;
  slot = slot;
  keys = (key, slot_key);
  seeds = seeds;
  texts = λ k d within. absurd (omega arith);
  head = omega arith;
  ascends = λ k within. absurd (omega arith);
  made = λ k d within. absurd (omega arith);
  accused = λ k d within. absurd (omega arith);
  leaves = (omega arith, omega arith);
  honest = λ b. record { kinds = λ k d within. absurd (omega arith); submissions = refl; rebuttals = tt; accusations = refl };
}

-- two lists that are the same have one element at a place
pub one_at : {A : Type 0} (xs ys : List A) (i : ℕ) (x y : A) → xs ≡ ys → x ≡ get_or xs i x → slice_get ys i ≡ Some y → x ≡ y
one_at xs ys i x y same first second = first ∙ ap (λ l. get_or l i x) same ∙ get_or_from_slice_get ys i y x second

-- a dealt roster has a key for each server
pub servers_of : (group : GroupSpec) (roster : RosterView) → roster ≡ dealt_roster group → length roster.servers ≡ group.servers
servers_of group roster is = length-public_keys group server group.servers roster.servers (ap (λ r. r.servers) is)

-- a commitment to a dealt seed is one to the client's
pub opens_of : (group : GroupSpec) (roster : RosterView) (i j : ℕ) (seeds : List (List ℕ)) → j < group.servers → seeds ≡ map (seed_dealt_to group i) (range_with_len 0 group.servers)
    → commitment_of roster i j ≡ Some (seed_commitment_of i j (seed_dealt_to group i j)) → commitment_of roster i j ≡ Some (seed_commitment_of i j (slice_index_or seeds j []))
opens_of group roster i j seeds few is committed =
    committed ∙ ap (λ s. Some (seed_commitment_of i j s)) (sym (ap (λ l. slice_index_or l j []) is ∙ get_or-map-range_with_len (seed_dealt_to group i) 0 group.servers j j [] few (omega arith)))
