-- What an honest member has signed, and what is known of it where the audit is clean.
use Rattle.std.specs.Prelude.{◌≡◌, ◌≢◌, ◌<◌, ℕ, Bool, List, [], map, length, slice_get, slice_index_or, Some, All, Contains}
use Rattle.dn_wire.specs.declared.ids.ClientId.{ClientId}
use Rattle.dn_wire.specs.declared.ids.Round.{Round}
use Rattle.dn_wire.specs.declared.ids.ServerId.{ServerId}
use Rattle.dn_wire.specs.declared.ids.SignerId.TheVariants.{Server}
use Rattle.dn_bits.specs.Bits.{bytes_of, sum_bits, xor_bits}
use Rattle.dn_hash.specs.Digests.{seed_commitment_of, server_digest_of}
use Rattle.dn_pads.specs.Pads.{keystream_bit, pad_of}
use Rattle.dn_record_types.specs.Place.{Place, place_of}
use Rattle.dn_record_types.specs.declared.inventory.Inventory as inventory
use Rattle.dn_record_types.specs.declared.shown.ShownCipher.{ShownCipher}
use Rattle.dn_record_types.specs.declared.statement.Statement.{Statement}
use Rattle.dn_record_types.specs.declared.statement.Statement.TheVariants as kinds
use Rattle.dn_layout.specs.Layout.{bits_of}
use Rattle.dn_roster.specs.Roster.{commitment_of}
use Rattle.dn_seal.specs.Dealt.{client, server}
use Rattle.dn_seal.specs.Said.{Unseals}
use Rattle.dn_cert.specs.Evidence.{shown_bit}
use Rattle.dn_cert.specs.Signed.{EntryVerifies}
use Rattle.dn_trace.specs.Trial.{Trial, Heard, round_of, servers_of}
use Rattle.dn_trace.specs.Reasons.{IsRight, IsListed, Shows}

-- the server signed at most one statement for a place
abbrev pub OnePerPlace : List Statement → Type 0
OnePerPlace signed = (one other : Statement) (place : Place) → Contains signed one → Contains signed other
    → place_of one ≡ Some place → place_of other ≡ Some place → one ≡ other

-- the seeds that a server shares with the clients, or a client with the servers, by number
abbrev pub Seeds : Type 0
Seeds = ℕ → List ℕ

-- What server j made its ciphertext from: the ciphertexts of its clients, and its pads for all that the body lists.
pub record IsMadeFrom (trial : Trial) (seeds : Seeds) (s : List Bool) (held : List ShownCipher) : Type 0 where
  pub sum : s ≡ xor_bits
      (sum_bits (bits_of trial.layout) (map (λ l. pad_of (seeds l.client.0) (round_of trial).0 (bits_of trial.layout)) trial.body.listed))
      (sum_bits (bits_of trial.layout) (map (λ c. c.cipher) held))

-- What an honest server signed, where it signed the body.
pub record IsHonestServer (trial : Trial) (j : ℕ) (seeds : Seeds) (signed : List Statement) : Type 0 where
  -- what is heard of it, it signed
  pub heard : (s : Statement) → Heard trial (server j) s → Contains signed s
  pub one_per_place : OnePerPlace signed
  -- it signs inventories whose entries verify, and reveals what it committed to
  pub inventories : (held : inventory.Inventory) → Contains signed (kinds.Inventory held) → All (EntryVerifies trial.roster held.r held.prev) held.entries
  pub commits : (s : List Bool) → Contains signed (kinds.Reveal (round_of trial) s)
      → Contains signed (kinds.Commit (round_of trial) (server_digest_of (round_of trial).0 j (bytes_of s)))
  -- its ciphertext of the round, which is what it shows
  pub s : List Bool
  pub held : List ShownCipher
  pub made : IsMadeFrom trial seeds s held
  pub right : IsRight trial j s held
  pub shows : (shown_s : List Bool) (shown : List ShownCipher) → Contains signed (kinds.Shown (round_of trial) shown_s shown) → (shown_s ≡ s) × (shown ≡ held)
  -- it signs the bits of its pads
  pub within : trial.k < bits_of trial.layout
  pub pads : (pad : List Bool) → Contains signed (kinds.PadBits (round_of trial) trial.k pad)
      → All (λ l. shown_bit pad l.client ≡ keystream_bit (seeds l.client.0) (round_of trial).0 trial.k) trial.body.listed

-- The roster commits to the seeds of server j and the clients that the body lists, and no other seed that a rebuttal of the server gives
-- opens one.
pub record AreServersSeeds (trial : Trial) (j : ℕ) (seeds : Seeds) : Type 0 where
  pub committed : (i : ℕ) → IsListed trial i → commitment_of trial.roster i j ≡ Some (seed_commitment_of i j (seeds i))
  pub no_other : (i k : ℕ) (r : Round) (x : ServerId) (seed envelope : List ℕ) → x.0 ≡ j → Heard trial (client i) (kinds.Rebuttal r k x seed envelope)
      → seed_commitment_of i j seed ≡ seed_commitment_of i j (seeds i) → seed ≡ seeds i

-- The ciphertexts that the servers revealed: the output is their sum, each has the body's digest, and no other that is shown has that digest.
pub record AreRevealed (trial : Trial) (revealed : List (List Bool)) : Type 0 where
  pub each : length revealed ≡ servers_of trial
  pub sum : trial.body.out ≡ sum_bits (bits_of trial.layout) revealed
  pub long : All (λ s. length s ≡ bits_of trial.layout) revealed
  pub digests : (j : ℕ) → j < servers_of trial
      → slice_get trial.body.digests j ≡ Some (server_digest_of (round_of trial).0 j (bytes_of (slice_index_or revealed j [])))
  pub no_other : (j : ℕ) (s : List Bool) (shown : List ShownCipher) → Shows trial j s shown
      → server_digest_of (round_of trial).0 j (bytes_of s) ≡ server_digest_of (round_of trial).0 j (bytes_of (slice_index_or revealed j []))
      → bytes_of s ≡ bytes_of (slice_index_or revealed j [])

-- a rebuttal names this server with this seed, and carries its pad bits, whose bit for the client is false
pub record IsTrueRebuttal (trial : Trial) (i : ℕ) (seeds : Seeds) (r : Round) (k : ℕ) (x : ServerId) (seed envelope : List ℕ) : Type 0 where
  pub known : x.0 < servers_of trial
  pub own : seed ≡ seeds x.0
  pub bits : List Bool
  pub unseals : Unseals trial.roster envelope (Server x) (kinds.PadBits r k bits)
  pub false_bit : keystream_bit seed r.0 k ≢ shown_bit bits record { 0 = i }

-- What an honest client signed: one submission a round, rebuttals of false bits alone, and no concession.
pub record IsHonestClient (trial : Trial) (i : ℕ) (seeds : Seeds) (signed : List Statement) : Type 0 where
  -- what is heard of it, it signed
  pub heard : (s : Statement) → Heard trial (client i) s → Contains signed s
  pub committed : (j : ℕ) → j < servers_of trial → commitment_of trial.roster i j ≡ Some (seed_commitment_of i j (seeds j))
  pub submissions : (r prev other_prev : Round) (named other_named : ClientId) (digest other_digest : List ℕ)
      → Contains signed (kinds.Submission r prev named digest) → Contains signed (kinds.Submission r other_prev other_named other_digest)
      → kinds.Submission r prev named digest ≡ kinds.Submission r other_prev other_named other_digest
  pub rebuttals : (r : Round) (k : ℕ) (x : ServerId) (seed envelope : List ℕ) → Contains signed (kinds.Rebuttal r k x seed envelope)
      → IsTrueRebuttal trial i seeds r k x seed envelope
  pub concedes : (r : Round) (k : ℕ) → ¬ Contains signed (kinds.Concede r k)

-- Server j keeps its discipline: it signed honestly, the roster commits to its seeds, and its servers revealed what the body tells.
pub record KeepsServersDiscipline (trial : Trial) (j : ℕ) : Type 0 where
  pub seeds : Seeds
  pub signed : List Statement
  pub revealed : List (List Bool)
  pub honest : IsHonestServer trial j seeds signed
  pub committed : AreServersSeeds trial j seeds
  pub outcome : AreRevealed trial revealed

-- client i keeps its discipline
pub record KeepsClientsDiscipline (trial : Trial) (i : ℕ) : Type 0 where
  pub seeds : Seeds
  pub signed : List Statement
  pub honest : IsHonestClient trial i seeds signed
