-- The key whose trees are made from an origin.
use Rattle.dn_hss.specs.Hss.{TwoLevelKey}
use Rattle.dn_hss.specs.declared.origin.Origin.{Origin}

abbrev pub key_from : Origin → TwoLevelKey
key_from o = record { lms = o.lms; ots = o.ots; seed = o.seed }
