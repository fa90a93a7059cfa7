-- What is kept of the core of a corrupt client.
use Rattle.std.specs.Prelude.{◌^◌, ◌<◌}
use Rattle.dn_client.specs.Client.{Identity}

-- the numbers of the client and of its slot are such as stand in envelopes
pub record IsNumbered (who : Identity) : Type 0 where
  pub me : who.me.0 < 2 ^ 32
  pub slot : who.slot.0 < 2 ^ 32
