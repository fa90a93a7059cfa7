-- What contracts see of a signing key.
use Rattle.std.specs.Prelude.{ℕ, List, Bool}
use Rattle.dn_wire.specs.declared.ids.SignerId.{SignerId}
use Rattle.dn_record_types.specs.declared.statement.Statement.{Statement}
use Rattle.dn_lms.specs.Key.{Key}

-- the digest of its group, its signer, the key, the statements that it signed, in order, and whether a leaf may be lost
pub record SigningKeyView : Type 0 where
  pub digest : List ℕ
  pub who : SignerId
  pub key : Key
  pub signed : List Statement
  pub lost : Bool
