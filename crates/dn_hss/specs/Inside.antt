-- The fields of a two-level key, and what contracts see of them.
use Rattle.std.specs.Prelude.{◌≡◌, length}
use Rattle.dn_lms_definitions.specs.Key.{leaves_of}
use Rattle.dn_hss.specs.Hss.{TwoLevelKey, IsTwoLevelKey, top_of}
use Rattle.dn_hss.specs.Origin.{key_from}
use Rattle.dn_hss.specs.declared.key.HssKey.TheInside.{Inside}

abbrev pub two_level_key : Inside → TwoLevelKey
two_level_key k = key_from k.origin

pub record Keeps (k : Inside) : Type 0 where
  pub key : IsTwoLevelKey (key_from k.origin)
  pub top : k.top ≡ top_of (key_from k.origin)
  pub places : length k.seconds.items ≡ leaves_of k.origin.lms
