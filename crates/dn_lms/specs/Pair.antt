-- A key pair's fields, and what contracts see of them.
use Rattle.dn_lms.specs.Key.{Key, IsKey}
use Rattle.dn_lms.specs.Filled.{HasTree}
use Rattle.dn_lms.specs.declared.pair.KeyPair.TheInside.{Inside}

abbrev pub key_of : Inside → Key
key_of k = record { lms = k.lms; ots = k.params.code; id = k.id; seed = k.seed }

pub record Keeps (k : Inside) : Type 0 where
  pub key : IsKey (key_of k)
  pub tree : HasTree (key_of k) k.tree.items
