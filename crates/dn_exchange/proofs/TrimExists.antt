-- The inventories of all servers make a list.
use Rattle.std.proofs.Common.{◌≡◌, Bool, true, false, List, [], ◌∷◌, ◌++◌, length, refl, sym, subst, inl, inr, append_assoc, append-nil}
use Rattle.std.specs.Prelude.{All, ◌⊎◌}
use Rattle.std.proofs.lemmas.List.Elements.{All-head, All-tail}
use Rattle.dn_record_types.specs.declared.body.Listed.{Listed}
use Rattle.dn_record_types.specs.declared.inventory.Inventory.{Inventory}
use Rattle.dn_record_types.specs.declared.statement.Statement.TheVariants as kinds
use Rattle.dn_seal.specs.Said.{IsSaid}
use Rattle.dn_cert.specs.Chain.{count_at}
use Rattle.dn_cert.specs.Floor.{is_due_thin}
use Rattle.dn_cert.specs.Trim.{IsInventory, IsTrim}
use Rattle.dn_cert.proofs.Merging.{merged}
use Rattle.dn_cert.proofs.TrimLemmas.{with_inventory_trims, no_inventory_trims}
use Rattle.dn_server.specs.Server.{ServerView, servers_in, AreKept}
use Rattle.dn_server.specs.Keeping.{HasAll}
use Rattle.dn_server.proofs.KeptLemmas.{kept_kind}
use Rattle.dn_server.proofs.Shapes.{inventory_shape}
use Rattle.dn_rounds.proofs.CommitLemmas.{inventories_fit}
use Rattle.dn_rounds.proofs.StepLemmas.{all_kept}
use Rattle.dn_exchange.specs.Settled.{IsWithData, IsWithoutData}

-- a list of some inventories goes on to one of all
trim_on : (before rest : List Inventory) (listed : List Listed) → IsTrim before listed → All IsInventory rest → (all : List Listed) × IsTrim (before ++ rest) all
trim_on before [] listed trim fit = (listed, subst (λ l. IsTrim l listed) (sym (append-nil before)) trim)
trim_on before (x ∷ xs) listed trim fit =
    let first = with_inventory_trims before x listed trim (All-head IsInventory x xs fit) in
    let next = trim_on (before ++ x ∷ []) xs (merged (length before) listed x.entries) first (All-tail IsInventory x xs fit) in
    (next.0, subst (λ l. IsTrim l next.0) (append_assoc before (x ∷ []) xs) next.1)

trim_of : (inventories : List Inventory) → All IsInventory inventories → (listed : List Listed) × IsTrim inventories listed
trim_of inventories fit = trim_on [] inventories [] no_inventory_trims fit

-- with data or without, as the floor says
pub all_make_list : (v : ServerView) → All IsSaid v.run.kept → HasAll 3 v.run.kept (servers_in v) → IsWithData v ⊎ IsWithoutData v
all_make_list v said all =
    let kept = all_kept kinds.Inventory 3 v.run.kept (servers_in v) (λ j x e. inventory_shape x.statement (kept_kind v.run.kept 3 j x e)) all in
    let trim = trim_of kept.0 (inventories_fit v said kept.0 kept.1) in
    by kept.0 kept.1 trim.0 trim.1 (is_due_thin v.seat.roster.version (length trim.0) (count_at v.chain v.run.prev.0)) refl
  where
    by : (inventories : List Inventory) → AreKept kinds.Inventory 3 v.run.kept (servers_in v) inventories → (listed : List Listed) → IsTrim inventories listed
        → (thin : Bool) → is_due_thin v.seat.roster.version (length listed) (count_at v.chain v.run.prev.0) ≡ thin → IsWithData v ⊎ IsWithoutData v
    by inventories kept listed trim true floor = inr (listed, record { inventories = inventories; kept = kept; trim = trim; floor = floor })
    by inventories kept listed trim false floor = inl (listed, record { inventories = inventories; kept = kept; trim = trim; floor = floor })
