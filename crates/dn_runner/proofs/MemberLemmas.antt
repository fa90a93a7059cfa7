-- One number more of the members of a group.
use Rattle.std.proofs.Common.{◌≡◌, ℕ, ◌+◌, Bool, List, [], ◌∷◌, ◌++◌, sym, ap, ◌∙◌, add-one, append_assoc}
use Rattle.std.specs.Prelude.{if◌then◌else◌}
use Rattle.std.specs.List.{list_any}
use Rattle.dn_wire.specs.declared.ids.Member.{Member}
use Rattle.dn_wire.specs.declared.ids.Member.TheVariants as members
use Rattle.dn_runner.specs.Play.{is_client, is_server, clients_among, servers_among}

pub servers_more : (named : List Member) (j : ℕ)
    → servers_among named (j + 1) ≡ servers_among named j ++ (if list_any (is_server j) named then members.Server (record { 0 = j }) ∷ [] else [])
servers_more named j = ap (λ n. servers_among named n) (add-one j)

pub clients_more : (named : List Member) (i : ℕ)
    → clients_among named (i + 1) ≡ clients_among named i ++ (if list_any (is_client i) named then members.Client (record { 0 = i }) ∷ [] else [])
clients_more named i = ap (λ n. clients_among named n) (add-one i)

-- a list that had them up to a number, and has one more where it is named
pub servers_step : (named : List Member) (j : ℕ) (start before after : List Member) (b : Bool) → before ≡ start ++ servers_among named j → b ≡ list_any (is_server j) named
    → after ≡ before ++ (if b then members.Server (record { 0 = j }) ∷ [] else []) → after ≡ start ++ servers_among named (j + 1)
servers_step named j start before after b held is made =
    made ∙ ap (λ l. l ++ (if b then members.Server (record { 0 = j }) ∷ [] else [])) held ∙ append_assoc start (servers_among named j) (if b then members.Server (record { 0 = j }) ∷ [] else [])
    ∙ ap (λ l. start ++ l) (ap (λ t. servers_among named j ++ (if t then members.Server (record { 0 = j }) ∷ [] else [])) is ∙ sym (servers_more named j))

-- a list that had them up to a number, and has one more where it is named
pub clients_step : (named : List Member) (i : ℕ) (start before after : List Member) (b : Bool) → before ≡ start ++ clients_among named i → b ≡ list_any (is_client i) named
    → after ≡ before ++ (if b then members.Client (record { 0 = i }) ∷ [] else []) → after ≡ start ++ clients_among named (i + 1)
clients_step named i start before after b held is made =
    made ∙ ap (λ l. l ++ (if b then members.Client (record { 0 = i }) ∷ [] else [])) held ∙ append_assoc start (clients_among named i) (if b then members.Client (record { 0 = i }) ∷ [] else [])
    ∙ ap (λ l. start ++ l) (ap (λ t. clients_among named i ++ (if t then members.Client (record { 0 = i }) ∷ [] else [])) is ∙ sym (clients_more named i))
