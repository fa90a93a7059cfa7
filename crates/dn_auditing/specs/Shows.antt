-- The strings that payloads show, with their digests, and those of a run.
use Rattle.std.specs.Prelude.{◌≡◌, ◌↔◌, ◌⊎◌, ◌<◌, ℕ, Bool, List, Contains}
use Rattle.dn_wire.specs.declared.ids.ClientId.{ClientId}
use Rattle.dn_wire.specs.declared.ids.ServerId.{ServerId}
use Rattle.dn_wire.specs.declared.ids.Round.{Round}
use Rattle.dn_wire.specs.declared.ids.SignerId.{SignerId}
use Rattle.dn_wire.specs.declared.ids.SignerId.TheVariants.{Client, Server}
use Rattle.dn_record_types.specs.declared.shown.ShownCipher.{ShownCipher}
use Rattle.dn_record_types.specs.declared.statement.Statement.TheVariants as kinds
use Rattle.dn_roster.specs.Roster.{RosterView}
use Rattle.dn_audit.specs.Strings.{Hashed}
use Rattle.dn_audit.specs.Auditor.{RunStrings, hashed_seed, hashed_cipher, hashed_sum}
use Rattle.dn_headline.specs.Group.{GroupView, clients_of, servers_of, seed_of}
use Rattle.dn_headline.specs.Log.{Put}
use Rattle.dn_headline.specs.Run.{SumMade}
use Rattle.dn_headline.specs.Spoken.{Says, Submits}

-- ---- what the bytes of a payload show

-- a seed, in a client's rebuttal
pub record ShowsSeed (roster : RosterView) (bytes : List ℕ) (x : Hashed) : Type 0 where
  pub client : ClientId
  pub server : ServerId
  pub r : Round
  pub k : ℕ
  pub seed : List ℕ
  pub envelope : List ℕ
  pub says : Says roster bytes (Client client) (kinds.Rebuttal r k server seed envelope)
  pub is : x ≡ hashed_seed client.0 server.0 seed

-- a ciphertext of a client, which comes with a submission or stands in what a server shows
pub data ShowsCipher (roster : RosterView) (bytes : List ℕ) (x : Hashed) : Type 0 where
  submitted : (who : SignerId) (r prev : Round) (i : ClientId) (digest : List ℕ) (cipher : List Bool)
      → Submits roster bytes who (kinds.Submission r prev i digest) cipher → x ≡ hashed_cipher r.0 i.0 cipher → ShowsCipher roster bytes x
  shown : (j : ServerId) (r : Round) (sum : List Bool) (ciphers : List ShownCipher) (c : ShownCipher)
      → Says roster bytes (Server j) (kinds.Shown r sum ciphers) → Contains ciphers c → x ≡ hashed_cipher r.0 c.client.0 c.cipher → ShowsCipher roster bytes x

-- a server's ciphertext, which it reveals or shows
pub data ShowsSum (roster : RosterView) (bytes : List ℕ) (x : Hashed) : Type 0 where
  revealed : (j : ServerId) (r : Round) (sum : List Bool) → Says roster bytes (Server j) (kinds.Reveal r sum) → x ≡ hashed_sum r.0 j.0 sum → ShowsSum roster bytes x
  shown : (j : ServerId) (r : Round) (sum : List Bool) (ciphers : List ShownCipher) → Says roster bytes (Server j) (kinds.Shown r sum ciphers)
      → x ≡ hashed_sum r.0 j.0 sum → ShowsSum roster bytes x

-- what is added to strings is exactly what these bytes show
pub record AddsShown (roster : RosterView) (bytes : List ℕ) (more : RunStrings → RunStrings) : Type 0 where
  pub seeds : (x : RunStrings) (y : Hashed) → Contains (more x).seeds y ↔ (Contains x.seeds y ⊎ ShowsSeed roster bytes y)
  pub ciphers : (x : RunStrings) (y : Hashed) → Contains (more x).ciphers y ↔ (Contains x.ciphers y ⊎ ShowsCipher roster bytes y)
  pub sums : (x : RunStrings) (y : Hashed) → Contains (more x).sums y ↔ (Contains x.sums y ⊎ ShowsSum roster bytes y)

-- ---- what a run shows

-- a seed that was dealt
abbrev pub IsDealt : GroupView → Hashed → Type 0
IsDealt g y = (i j : ℕ) × (i < clients_of g) × (j < servers_of g) × (y ≡ hashed_seed i j (seed_of g i j))

-- a ciphertext that a server made
abbrev pub IsMade : List SumMade → Hashed → Type 0
IsMade made y = (m : SumMade) × Contains made m × (y ≡ hashed_sum m.r.0 m.server.0 m.sum)

-- one of the puts shows the string
abbrev pub IsShown : (List ℕ → Hashed → Type 0) → List Put → Hashed → Type 0
IsShown shows puts y = (p : Put) × Contains puts p × shows p.bytes y

-- These are the strings of a group that dealt its seeds, of the ciphertexts that its servers made, and of what was put.
pub record AreStringsOf (g : GroupView) (puts : List Put) (made : List SumMade) (x : RunStrings) : Type 0 where
  pub seeds : (y : Hashed) → Contains x.seeds y ↔ (IsDealt g y ⊎ IsShown (ShowsSeed g.roster) puts y)
  pub ciphers : (y : Hashed) → Contains x.ciphers y ↔ IsShown (ShowsCipher g.roster) puts y
  pub sums : (y : Hashed) → Contains x.sums y ↔ (IsMade made y ⊎ IsShown (ShowsSum g.roster) puts y)
