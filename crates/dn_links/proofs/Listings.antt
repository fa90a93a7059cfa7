-- Where a core keeps the inventories of all servers, they make a list.
use Rattle.std.proofs.Common.{◌≡◌, ℕ, zero, suc, ◌+◌, List, [], ◌∷◌, ◌++◌, length, refl, ap, subst, ◌∙◌, arith, inl, inr}
use Rattle.std.specs.Prelude.{Contains, Option, Some, None, IsSome, ◌⊎◌, option_map}
use Rattle.std.proofs.lemmas.Bool.{cases_Bool}
use Rattle.dn_record_types.specs.declared.body.Listed.{Listed}
use Rattle.dn_record_types.specs.declared.inventory.Inventory.{Inventory}
use Rattle.dn_record_types.specs.declared.statement.Statement.{Statement}
use Rattle.dn_record_types.specs.declared.statement.Statement.TheVariants as kinds
use Rattle.dn_records.specs.Records.{kind_byte}
use Rattle.dn_seal.specs.Said.{SaidView}
use Rattle.dn_cert.specs.Chain.{count_at}
use Rattle.dn_cert.specs.Floor.{is_due_thin}
use Rattle.dn_cert.specs.Trim.{IsInventory, IsTrim}
use Rattle.dn_cert.proofs.Merging.{merged}
use Rattle.dn_cert.proofs.TrimLemmas.{with_inventory_trims, no_inventory_trims}
use Rattle.dn_server.specs.Keeping.{HasAll}
use Rattle.dn_server.specs.Server.{ServerView, AreKept, servers_in, is_of, kept_of, statement_of}
use Rattle.dn_server.proofs.KeptLemmas.{kept_kind, kept_more, kept_none}
use Rattle.dn_trace.proofs.HeardLemmas.{found}
use Rattle.dn_headline.specs.Run.{RunView}
use Rattle.dn_headline.specs.Spoken.{WasSaid}
use Rattle.dn_headline.proofs.Agreement.{said_inventory_is}
use Rattle.dn_exchange.specs.Settled.{KeepsAll, IsWithData, IsWithoutData}

some_of : {A : Type 0} (o : Option A) → IsSome o → (x : A) × (o ≡ Some x)
some_of None h = absurd cc
some_of (Some x) h = (x, refl)

an_inventory : (s : Statement) → kind_byte s ≡ 3 → (v : Inventory) × (s ≡ kinds.Inventory v)
an_inventory (kinds.Inventory v) k = (v, refl)
an_inventory _ k = absurd (omega (arith, k))

module _ (w : RunView) (kept : List SaidView) (was_said : (said : SaidView) → Contains kept said → WasSaid w said.signer said.statement) where
  inventory_there : (j : ℕ) → IsSome (kept_of kept 3 j) → (v : Inventory) × (statement_of kept 3 j ≡ Some (kinds.Inventory v)) × IsInventory v
  inventory_there j some =
      let said = some_of (kept_of kept 3 j) some in
      let there = (found (is_of 3 j) kept said.0 said.1).0 in
      let v = an_inventory said.0.statement (kept_kind kept 3 j said.0 said.1) in
      let was : WasSaid w said.0.signer (kinds.Inventory v.0) = subst (WasSaid w said.0.signer) v.1 (was_said said.0 there) in
      (v.0, ap (option_map (λ (x : SaidView). x.statement)) said.1 ∙ ap Some v.1, said_inventory_is w said.0.signer v.0 was)

  -- the inventories of the first n servers, and their trim
  trimmed : (n : ℕ) → HasAll 3 kept n → (vs : List Inventory) × AreKept kinds.Inventory 3 kept n vs × ((listed : List Listed) × IsTrim vs listed)
  trimmed zero all = ([], kept_none kinds.Inventory 3 kept, ([], no_inventory_trims))
  trimmed (suc n) all =
      let rest = trimmed n (λ j lt. all j (omega arith)) in
      let one = inventory_there n (all n (omega arith)) in
      let up : n + 1 ≡ suc n = omega arith in (
        rest.0 ++ one.0 ∷ [],
        subst (λ (m : ℕ). AreKept kinds.Inventory 3 kept m (rest.0 ++ one.0 ∷ [])) up (kept_more kinds.Inventory 3 kept n rest.0 one.0 rest.1 one.1),
        (merged (length rest.0) rest.2.0 one.0.entries, with_inventory_trims rest.0 one.0 rest.2.0 rest.2.1 one.2),
      )

-- the round has data, or none
pub is_listed : (w : RunView) (c : ServerView) → ((said : SaidView) → Contains c.run.kept said → WasSaid w said.signer said.statement) → KeepsAll c 3
    → IsWithData c ⊎ IsWithoutData c
is_listed w c was_said all =
    let of = trimmed w c.run.kept was_said (servers_in c) all in
    elim (cases_Bool (is_due_thin c.seat.roster.version (length of.2.0) (count_at c.chain c.run.prev.0))) [
      | inr full ↦ inl (of.2.0, record { inventories = of.0; kept = of.1; trim = of.2.1; floor = full })
      | inl thin ↦ inr (of.2.0, record { inventories = of.0; kept = of.1; trim = of.2.1; floor = thin })
    ]
