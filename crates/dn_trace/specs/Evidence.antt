-- What `judge` finds in what was said, before it judges.
use Rattle.std.specs.Prelude.{◌≡◌, ◌<◌, ◌≤◌, ◌↔◌, ◌==◌, ◌&&◌, ◌+◌, ℕ, Bool, false, List, [], length, slice_index_or, map, Option, Some, None, All, IsTrue, if◌then◌else◌}
use Rattle.dn_wire.specs.declared.ids.Round.{Round}
use Rattle.dn_wire.specs.declared.ids.ServerId.{ServerId}
use Rattle.dn_wire.specs.declared.ids.SignerId.{SignerId}
use Rattle.dn_record_types.specs.declared.shown.ShownCipher.{ShownCipher}
use Rattle.dn_record_types.specs.declared.statement.Statement.{Statement}
use Rattle.dn_record_types.specs.declared.statement.Statement.TheVariants as kinds
use Rattle.dn_seal.specs.Dealt.{server}
use Rattle.dn_seal.specs.Said.{SaidView, Unseals}
use Rattle.dn_trace.specs.Trial.{Trial, Says, IsCarried, round_of}
use Rattle.dn_layout.specs.Layout.{bits_of}
use Rattle.dn_cert.specs.Trim.{given_to}
use Rattle.dn_trace.specs.Reasons.{is_server, row_of, IsRight, IsFirstShown, Shows, ShowsWrong, Signed}
use Rattle.dn_bits.specs.Bits.{sum_bits}
use Rattle.dn_trace.specs.declared.fault.Fault.{Fault}
use Rattle.dn_trace.specs.Verdict.{ServerHas, reason}

-- of each number below n, the flag tells whether P holds
pub record Tells (flags : List Bool) (n : ℕ) (P : ℕ → Type 0) : Type 0 where
  pub size : length flags ≡ n
  pub each : (i : ℕ) → i < n → IsTrue (slice_index_or flags i false) ↔ P i

-- the pad bits of the judged round and place in rebuttals that are given
pub record AreCarried (trial : Trial) (carried : List SaidView) : Type 0 where
  pub each : All (λ x. IsCarried trial x.signer x.statement) carried
  pub whole : (who : SignerId) (pad : List Bool) → IsCarried trial who (kinds.PadBits (round_of trial) trial.k pad)
      → Says carried who (kinds.PadBits (round_of trial) trial.k pad)

-- a number for each judged place: a receipt's by its client
abbrev pub place_number : Round → ℕ → Statement → Option ℕ
place_number r k (kinds.Submission round prev i d) = None
place_number r k (kinds.Receipt round i d t) = if round.0 == r.0 then Some (6 + i.0) else None
place_number r k (kinds.Inventory v) = if v.r.0 == r.0 then Some 0 else None
place_number r k (kinds.Commit round d) = if round.0 == r.0 then Some 1 else None
place_number r k (kinds.Reveal round s) = if round.0 == r.0 then Some 2 else None
place_number r k (kinds.Sign b) = if b.r.0 == r.0 then Some 3 else None
place_number r k (kinds.PadBits round at bits) = if (round.0 == r.0) && (at == k) then Some 4 else None
place_number r k (kinds.Shown round s shown) = if round.0 == r.0 then Some 5 else None
place_number r k (kinds.Accusation round s at) = None
place_number r k (kinds.Rebuttal round at j seed e) = None
place_number r k (kinds.Concede round at) = None

-- the pad bits of the judged round and place that a statement carries, which is a rebuttal
pub record IsPadIn (trial : Trial) (s : Statement) (who : SignerId) (inner : Statement) : Type 0 where
  pub r : Round
  pub k : ℕ
  pub server : ServerId
  pub seed : List ℕ
  pub envelope : List ℕ
  pub rebuttal : s ≡ kinds.Rebuttal r k server seed envelope
  pub pad : List Bool
  pub is : inner ≡ kinds.PadBits (round_of trial) trial.k pad
  pub unseals : Unseals trial.roster envelope who inner

abbrev pub HasPadIn : Trial → Statement → Option SaidView → Type 0
HasPadIn trial s opened = (who : SignerId) (pad : List Bool) → IsPadIn trial s who (kinds.PadBits (round_of trial) trial.k pad)
    → (said : SaidView) × (opened ≡ Some said) × (said.signer ≡ who) × (said.statement ≡ kinds.PadBits (round_of trial) trial.k pad)

-- the number of the judged place for which server j said this
abbrev pub number_by : ℕ → Round → ℕ → SaidView → Option ℕ
number_by j r k x = if is_server j x.signer then place_number r k x.statement else None

-- server j showed wrong in this
pub record SaysWrong (trial : Trial) (j : ℕ) (x : SaidView) : Type 0 where
  pub by : x.signer ≡ server j
  pub s : List Bool
  pub shown : List ShownCipher
  pub is : x.statement ≡ kinds.Shown (round_of trial) s shown
  pub wrong : ¬ IsRight trial j s shown

-- the clients shown are those that the body gives to server j, with ciphertexts as it lists them
pub record AreListed (trial : Trial) (j : ℕ) (shown : List ShownCipher) : Type 0 where
  pub listed : map (row_of (round_of trial) j) shown ≡ given_to trial.body.listed j
  pub ciphers : All (λ c. length c.cipher ≡ bits_of trial.layout) shown

-- what server j opened: the first ciphertext that it shows, and pad bits
pub record IsOpening (trial : Trial) (j : ℕ) (s : List Bool) (shown : List ShownCipher) (pad : List Bool) : Type 0 where
  pub first : IsFirstShown trial j s
  pub shows : Shows trial j s shown
  pub signed : Signed trial j pad

-- the least of the reasons 1 to 5 for which a server is at fault, where there is one
abbrev pub HasOwn : Trial → ℕ → Option Fault → Type 0
HasOwn trial j None = (fault : Fault) → reason fault ≤ 5 → ¬ ServerHas trial j fault
HasOwn trial j (Some fault) = (reason fault ≤ 5) × ServerHas trial j fault × ((other : Fault) → ServerHas trial j other → reason fault ≤ reason other)

-- the sum of what the first servers show first, of which none shows wrong
pub record IsSumBelow (trial : Trial) (j : ℕ) (sum : List Bool) : Type 0 where
  pub shown : List (List Bool)
  pub each : length shown ≡ j
  pub first : (x : ℕ) → x < j → IsFirstShown trial x (slice_index_or shown x [])
  pub right : (x : ℕ) → x < j → ¬ ShowsWrong trial x
  pub long : All (λ s. length s ≡ bits_of trial.layout) shown
  pub is : sum ≡ sum_bits (bits_of trial.layout) shown
