-- What stands in payloads that were put, in their order: signatures, and what honest cores signed.
use Rattle.std.specs.Prelude.{◌≡◌, ℕ, ◌≤◌, true, List, slice_get, Some}
use Rattle.dn_wire.specs.declared.ids.SignerId.{SignerId}
use Rattle.dn_record_types.specs.declared.statement.Statement.{Statement}
use Rattle.dn_headline.specs.Group.{GroupView, IsKeyOf, IsHonestKey}
use Rattle.dn_headline.specs.Log.{Put}
use Rattle.dn_headline.specs.Signatures.{HasSignature}
use Rattle.dn_headline.specs.Spoken.{IsInFront}

-- among the first n + 1 puts is one that the signer's member put by its own core, with this statement in front
pub record HadPut (g : GroupView) (puts : List Put) (n : ℕ) (who : SignerId) (s : Statement) : Type 0 where
  pub at : ℕ
  pub by_then : at ≤ n
  pub put : Put
  pub there : slice_get puts at ≡ Some put
  pub own : put.own ≡ true
  pub key : IsKeyOf g who put.by
  pub front : IsInFront g.roster put.bytes who s

-- the same among all of them
abbrev pub WasPut : GroupView → List Put → SignerId → Statement → Type 0
WasPut g puts who s = (n : ℕ) × HadPut g puts n who s

-- each signature in what was put that verifies under an honest key is on a statement that this key had signed by then
abbrev pub AreTheirs : GroupView → List Put → Type 0
AreTheirs g puts = (n : ℕ) (put : Put) (who : SignerId) (s : Statement) → slice_get puts n ≡ Some put → IsHonestKey g who → HasSignature g.roster put.bytes who s
    → HadPut g puts n who s
