-- The faults of servers, which are seen in what is heard. Each is a reason to blame the server.
use Rattle.std.specs.Prelude.{◌≡◌, ◌≢◌, ◌<◌, ◌==◌, ◌&&◌, ℕ, Bool, false, List, [], map, length, find, slice_get, slice_index_or, Some, All, Contains}
use Rattle.dn_wire.specs.declared.ids.Round.{Round}
use Rattle.dn_wire.specs.declared.ids.SignerId.{SignerId}
use Rattle.dn_wire.specs.declared.ids.SignerId.TheVariants as signers
use Rattle.dn_bits.specs.Bits.{xor, bit, bytes_of, sum_bits}
use Rattle.dn_hash.specs.Digests.{cipher_digest_of, server_digest_of}
use Rattle.dn_record_types.specs.Place.{Place, receipt_of, inventory_of, commit_of, reveal_of, sign_of, pad_bits_of, shown_of, place_of}
use Rattle.dn_record_types.specs.declared.body.Listed.{Listed}
use Rattle.dn_record_types.specs.declared.inventory.Entry.{Entry}
use Rattle.dn_record_types.specs.declared.inventory.Inventory as inventory
use Rattle.dn_record_types.specs.declared.shown.ShownCipher.{ShownCipher}
use Rattle.dn_record_types.specs.declared.statement.Statement.{Statement}
use Rattle.dn_record_types.specs.declared.statement.Statement.TheVariants as kinds
use Rattle.dn_layout.specs.Layout.{bits_of}
use Rattle.dn_seal.specs.Dealt.{client, server}
use Rattle.dn_seal.specs.Said.{SaidView}
use Rattle.dn_cert.specs.Evidence.{shown_bit, IsGood}
use Rattle.dn_cert.specs.Signed.{EntryVerifies}
use Rattle.dn_cert.specs.Trim.{given_to}
use Rattle.dn_bits.specs.XorAll.{xor_all}
use Rattle.dn_trace.specs.Trial.{Trial, Heard, round_of, servers_of}

-- the place is one of the judged round, and of pad bits, of the judged place too
abbrev pub IsJudged : Trial → Place → Type 0
IsJudged trial (receipt_of r i) = r ≡ round_of trial
IsJudged trial (inventory_of r) = r ≡ round_of trial
IsJudged trial (commit_of r) = r ≡ round_of trial
IsJudged trial (reveal_of r) = r ≡ round_of trial
IsJudged trial (sign_of r) = r ≡ round_of trial
IsJudged trial (pad_bits_of r k) = (r ≡ round_of trial) × (k ≡ trial.k)
IsJudged trial (shown_of r) = r ≡ round_of trial

-- server j made this statement, for this place
abbrev pub Makes : Trial → ℕ → Place → Statement → Type 0
Makes trial j place s = Heard trial (server j) s × (place_of s ≡ Some place)

-- two different statements for one place
pub record IsTwice (trial : Trial) (j : ℕ) : Type 0 where
  pub place : Place
  pub judged : IsJudged trial place
  pub one : Statement
  pub makes_one : Makes trial j place one
  pub other : Statement
  pub makes_other : Makes trial j place other
  pub differ : one ≢ other

-- an inventory of the round with an entry that doesn't verify
pub record HasFalseEntry (trial : Trial) (j : ℕ) : Type 0 where
  pub held : inventory.Inventory
  pub round : held.r ≡ round_of trial
  pub heard : Heard trial (server j) (kinds.Inventory held)
  pub entry : Entry
  pub among : Contains held.entries entry
  pub unsigned : ¬ EntryVerifies trial.roster held.r held.prev entry

-- a ciphertext revealed that hasn't the digest told before
pub record HasFalseCommit (trial : Trial) (j : ℕ) : Type 0 where
  pub s : List Bool
  pub revealed : Heard trial (server j) (kinds.Reveal (round_of trial) s)
  pub digest : List ℕ
  pub told : Heard trial (server j) (kinds.Commit (round_of trial) digest)
  pub differ : server_digest_of (round_of trial).0 j (bytes_of s) ≢ digest

-- the server shows this ciphertext of its own, and these of clients
abbrev pub Shows : Trial → ℕ → List Bool → List ShownCipher → Type 0
Shows trial j s shown = Heard trial (server j) (kinds.Shown (round_of trial) s shown)

-- the row that a body has for a ciphertext, where it gives the client to server j
abbrev pub row_of : Round → ℕ → ShownCipher → Listed
row_of r j c = record { client = c.client; server = record { 0 = j }; digest = cipher_digest_of r.0 c.client.0 (bytes_of c.cipher) }

-- What server j shows is right: its own ciphertext has the body's digest and the round's length; and the clients are exactly those that the
-- body gives to it, with ciphertexts of the digests that the body lists and of the round's length.
pub record IsRight (trial : Trial) (j : ℕ) (s : List Bool) (shown : List ShownCipher) : Type 0 where
  pub long : length s ≡ bits_of trial.layout
  pub digest : slice_get trial.body.digests j ≡ Some (server_digest_of (round_of trial).0 j (bytes_of s))
  pub listed : map (row_of (round_of trial) j) shown ≡ given_to trial.body.listed j
  pub ciphers : All (λ c. length c.cipher ≡ bits_of trial.layout) shown

pub record ShowsWrong (trial : Trial) (j : ℕ) : Type 0 where
  pub s : List Bool
  pub shown : List ShownCipher
  pub shows : Shows trial j s shown
  pub wrong : ¬ IsRight trial j s shown

-- the pad bits that the server signed for the judged place
abbrev pub Signed : Trial → ℕ → List Bool → Type 0
Signed trial j pad = Heard trial (server j) (kinds.PadBits (round_of trial) trial.k pad)

-- what these pad bits, over all that the body lists, and these ciphertexts add up to at the judged place
abbrev pub summed : Trial → List Bool → List ShownCipher → Bool
summed trial pad shown =
    xor (xor_all (map (λ l. shown_bit pad l.client) trial.body.listed)) (xor_all (map (λ c. bit c.cipher trial.k) shown))

-- what the server shows is right, and its ciphertext isn't the sum of its pads and the clients' ciphertexts
pub record HasFalseSum (trial : Trial) (j : ℕ) : Type 0 where
  pub right : ¬ ShowsWrong trial j
  pub s : List Bool
  pub shown : List ShownCipher
  pub shows : Shows trial j s shown
  pub pad : List Bool
  pub signed : Signed trial j pad
  pub differ : bit s trial.k ≢ summed trial pad shown

-- the body lists the client
abbrev pub IsListed : Trial → ℕ → Type 0
IsListed trial i = (l : Listed) × Contains trial.body.listed l × (l.client.0 ≡ i)

-- a rebuttal that counts: for the judged round and place, of a client that the body lists
pub record Rebuts (trial : Trial) (i : ℕ) (s : Statement) (j : ℕ) : Type 0 where
  pub listed : IsListed trial i
  pub seed : List ℕ
  pub envelope : List ℕ
  pub is : s ≡ kinds.Rebuttal (round_of trial) trial.k record { 0 = j } seed envelope
  pub heard : Heard trial (client i) s

-- a good rebuttal names the server
pub record IsRebutted (trial : Trial) (j : ℕ) : Type 0 where
  pub i : ℕ
  pub s : Statement
  pub rebuts : Rebuts trial i s j
  pub good : IsGood trial.roster record { 0 = i } s

abbrev pub is_server : ℕ → SignerId → Bool
is_server j (signers.Client i) = false
is_server j (signers.Server x) = x.0 == j
is_server j (signers.Slot s) = false

abbrev pub is_shown : Round → Statement → Bool
is_shown r (kinds.Submission round prev i d) = false
is_shown r (kinds.Receipt round i d t) = false
is_shown r (kinds.Inventory v) = false
is_shown r (kinds.Commit round d) = false
is_shown r (kinds.Reveal round s) = false
is_shown r (kinds.Sign b) = false
is_shown r (kinds.PadBits round k bs) = false
is_shown r (kinds.Shown round s xs) = round.0 == r.0
is_shown r (kinds.Accusation round s k) = false
is_shown r (kinds.Rebuttal round k x seed e) = false
is_shown r (kinds.Concede round k) = false

-- the ciphertext that server j shows first
pub record IsFirstShown (trial : Trial) (j : ℕ) (s : List Bool) : Type 0 where
  pub said : SaidView
  pub first : find (λ x. is_server j x.signer && is_shown (round_of trial) x.statement) trial.given ≡ Some said
  pub shown : List ShownCipher
  pub is : said.statement ≡ kinds.Shown (round_of trial) s shown

-- Every server shows a ciphertext, none shows wrong, and the output isn't their sum.
pub record HasFalseOutput (trial : Trial) : Type 0 where
  pub shown : List (List Bool)
  pub each : length shown ≡ servers_of trial
  pub first : (j : ℕ) → j < servers_of trial → IsFirstShown trial j (slice_index_or shown j [])
  pub right : (j : ℕ) → j < servers_of trial → ¬ ShowsWrong trial j
  pub differ : trial.body.out ≢ sum_bits (bits_of trial.layout) shown
