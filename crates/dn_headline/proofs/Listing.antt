-- Who counts in a certified round.
use Rattle.std.proofs.Common.{◌≡◌, ℕ, ◌<◌, List, [], get_or, refl, sym, ap, subst, ◌∙◌, inr}
use Rattle.std.specs.Prelude.{All, Contains, length, slice_get, Some}
use Rattle.std.proofs.lemmas.Option.{slice_get-get_or, slice_get_within, get_or_from_slice_get}
use Rattle.std.proofs.lemmas.List.Elements.{All-contains}
use Rattle.dn_wire.specs.declared.ids.ServerId.{ServerId}
use Rattle.dn_wire.specs.declared.ids.ClientId.{ClientId}
use Rattle.dn_wire.specs.declared.ids.Round.{Round}
use Rattle.dn_wire.specs.declared.ids.SignerId.TheVariants.{Server}
use Rattle.dn_told.specs.declared.told.WindowTold.TheVariants as tolds
use Rattle.dn_record_types.specs.declared.body.Body.{Body}
use Rattle.dn_record_types.specs.declared.inventory.Inventory.{Inventory}
use Rattle.dn_record_types.specs.declared.statement.Statement.TheVariants as kinds
use Rattle.dn_cert.specs.Trim.{IsOfLeast}
use Rattle.dn_cert.specs.Signed.{EntryVerifies}
use Rattle.dn_cert.proofs.Orders.{same_client}
use Rattle.dn_headline.specs.Group.{IsServer, IsHonestServer}
use Rattle.dn_headline.specs.Run.{RunView}
use Rattle.dn_headline.specs.Spoken.{WasSaid}
use Rattle.dn_headline.specs.Certified.{IsCertified}
use Rattle.dn_headline.specs.Clean.{Clean}
use Rattle.dn_headline.specs.Submissions.{WasTold, IsInInventory}
use Rattle.dn_headline.specs.Headline.{IncludedCountOnce, LateNeverCount}
use Rattle.dn_headline.specs.Invariant.{Facts, Invariant, IsJustified, FitsInventory}
use Rattle.dn_headline.proofs.Signing.{signs_said, signs_certified}
use Rattle.dn_headline.proofs.Counting.{no_row, one_row}

pub contains_place : {A : Type 0} (xs : List A) (i : ℕ) (x : A) → slice_get xs i ≡ Some x → Contains xs x
contains_place xs i x h = (i, slice_get_within xs i x h, get_or_from_slice_get xs i x x h)

-- an inventory of server x behind a body
pub record InventoryOf (w : RunView) (inventories : List Inventory) (b : Body) (x : ServerId) : Type 0 where
  pub inventory : Inventory
  pub there : slice_get inventories x.0 ≡ Some inventory
  pub said : WasSaid w (Server x) (kinds.Inventory inventory)
  pub round : inventory.r ≡ b.r
  pub prev : inventory.prev ≡ b.prev
  pub verify : All (EntryVerifies w.group.roster inventory.r inventory.prev) inventory.entries

module _ (w : RunView) (f : Facts) (b : Body) (j : ServerId) (just : IsJustified w f j b) where
  -- the inventory at a server's place is its own
  unfoldable pub inventory_from : (x : ServerId) (v : Inventory) → slice_get just.inventories x.0 ≡ Some v → InventoryOf w just.inventories b x
  inventory_from x v at =
      let inside = contains_place just.inventories x.0 v at in
      let here = All-contains (λ (v : Inventory). (v.r ≡ b.r) × (v.prev ≡ b.prev)) just.inventories v just.heard.here inside in
      let verify = All-contains (λ (v : Inventory). All (EntryVerifies w.group.roster b.r b.prev) v.entries) just.inventories v just.heard.verify inside in
      record {
        inventory = v;
        there = at;
        said = just.heard.said_so x.0 v at;
        round = here.0;
        prev = here.1;
        verify = subst (λ (r : Round). All (EntryVerifies w.group.roster r v.prev) v.entries) (sym here.0)
            (subst (λ (p : Round). All (EntryVerifies w.group.roster b.r p) v.entries) (sym here.1) verify);
      }

  -- each server has one
  pub inventory_of : (x : ServerId) → IsServer w.group x → InventoryOf w just.inventories b x
  inventory_of x server =
      let blank : Inventory = record { r = b.r; prev = b.prev; entries = [] } in
      let within : x.0 < length just.inventories = subst (λ (n : ℕ). x.0 < n) (sym just.heard.each) server in
      inventory_from x (get_or just.inventories x.0 blank) (slice_get-get_or just.inventories x.0 blank within)

module _ (w : RunView) (f : Facts) (inv : Invariant w f) (clean : Clean w) where
  -- a certified body is justified at each honest server
  pub certified_is_justified : (b : Body) (j : ServerId) → IsHonestServer w.group j → IsCertified w b → IsJustified w f j b
  certified_is_justified b j honest c = inv.servers.fit j (kinds.Sign b) honest (signs_certified w f inv clean b j honest c)

  -- an inventory that an honest server said is one of its own
  pub said_inventory_fits : (j : ServerId) (v : Inventory) → IsHonestServer w.group j → WasSaid w (Server j) (kinds.Inventory v) → FitsInventory w f j v
  said_inventory_fits j v honest said =
      inv.servers.fit j (kinds.Inventory v) honest (signs_said w f inv clean j (kinds.Inventory v) honest said)

  pub included_count_once_lem : IncludedCountOnce w
  included_count_once_lem i j b honest told c =
      let just = certified_is_justified b j honest c in
      let own = inventory_of w f b j just j honest.server in
      let fits = said_inventory_fits j own.inventory honest own.said in
      let names = (fits.included i).0 (subst (λ r. WasTold w j i r tolds.Included) (sym own.round) told) in
      let row = just.trim.named i (j.0, own.inventory, own.there, names) in
      one_row i 0 b.listed row.0 just.trim.ascends row.1 (ap (λ (k : ClientId). k.0) row.2)

  pub late_never_count_lem : LateNeverCount w
  unfolding inventory_from
  late_never_count_lem i b late c =
      let j = clean.honest.0 in
      let just = certified_is_justified b j clean.honest.1 c in
      no_row i b.listed (λ l there same.
      let least = All-contains (IsOfLeast just.inventories) b.listed l just.trim.least there in
      let x = l.server in
      let of = inventory_from w f b j just x least.inventory least.there in
      let client : least.entry.0.client ≡ i = least.entry.2 ∙ same_client l.client i same in
      let verifies = All-contains (EntryVerifies w.group.roster of.inventory.r of.inventory.prev) of.inventory.entries least.entry.0 of.verify least.entry.1 in
      let received : IsInInventory w x i b.r = record {
        inventory = of.inventory;
        said = of.said;
        round = of.round;
        entry = least.entry.0;
        there = least.entry.1;
        client = client;
        verifies = verifies;
      } in
      let server : IsServer w.group x = subst (λ n. x.0 < n) just.heard.each (slice_get_within just.inventories x.0 least.inventory least.there) in
      let so = late.received x server (inr received) in
      let fits = said_inventory_fits x of.inventory so.0 of.said in
      so.1 (subst (λ r. WasTold w x i r tolds.Included) of.round ((fits.included i).1 (least.entry.0.digest, (least.entry.0, least.entry.1, client, refl)))))
