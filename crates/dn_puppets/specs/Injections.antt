-- What puppets put.
use Rattle.std.specs.Prelude.{ℕ, List, map}
use Rattle.dn_wire.specs.declared.ids.Member.{Member}
use Rattle.dn_puppets.specs.declared.injection.Injection.{Injection}

-- a payload is put by a member to each of these members, in this order
abbrev pub put_by : Member → List ℕ → List Member → List Injection
put_by from payload to = map (λ member. record { from = from; to = member; payload = payload }) to
