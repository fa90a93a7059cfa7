-- Where all servers are honest, they justify one body in a round.
use Rattle.std.proofs.Common.{◌≡◌, ℕ, suc, ◌+◌, ◌<◌, List, [], ◌∷◌, map, length, get_or, refl, sym, ap, subst, ◌∙◌, arith, Bool, true, false}
use Rattle.std.specs.Prelude.{All, Option, slice_get, Some}
use Rattle.std.proofs.lemmas.Option.{slice_get-get_or, slice_get_within, same_Some}
use Rattle.std.proofs.lemmas.List.Elements.{All-contains}
use Rattle.dn_wire.specs.declared.ids.ServerId.{ServerId}
use Rattle.dn_wire.specs.declared.ids.Round.{Round}
use Rattle.dn_wire.specs.declared.ids.SignerId.{SignerId}
use Rattle.dn_wire.specs.declared.ids.SignerId.TheVariants.{Server}
use Rattle.dn_bits.specs.Bits.{bytes_of, sum_bits, below}
use Rattle.dn_hash.specs.Digests.{server_digest_of}
use Rattle.dn_record_types.specs.Place.{Place, place_of, inventory_of, reveal_of}
use Rattle.dn_record_types.specs.declared.body.Body.{Body}
use Rattle.dn_record_types.specs.declared.body.Listed.{Listed}
use Rattle.dn_record_types.specs.declared.inventory.Inventory.{Inventory}
use Rattle.dn_record_types.specs.declared.statement.Statement.{Statement}
use Rattle.dn_record_types.specs.declared.statement.Statement.TheVariants as kinds
use Rattle.dn_layout.specs.Layout.{bits_of}
use Rattle.dn_cert.specs.Trim.{IsInventory, IsTrim}
use Rattle.dn_cert.specs.Chain.{bodies, IsLayoutAfter, count_at}
use Rattle.dn_cert.proofs.ChainLemmas.{round_is}
use Rattle.dn_cert.proofs.TrimLemmas.{trims_are_one_lem}
use Rattle.dn_cert.proofs.Orders.{All-from_contains}
use Rattle.dn_cert.specs.Floor.{is_due_thin}
use Rattle.dn_server.specs.Justified.{Course, AreInventories, IsOutput, IsEnding, digest_by}
use Rattle.dn_headline.specs.Group.{IsServer, IsHonestServer, servers_of}
use Rattle.dn_headline.specs.Run.{RunView}
use Rattle.dn_headline.specs.Spoken.{WasSaid}
use Rattle.dn_headline.specs.Certified.{IsCertified, IsLayoutOf}
use Rattle.dn_headline.specs.Clean.{Clean}
use Rattle.dn_headline.specs.Invariant.{Facts, Invariant, IsJustified, WasIncluded, IsFull, seat_of}
use Rattle.dn_headline.proofs.Signing.{signs_said, one_body_lem}
use Rattle.dn_headline.proofs.Counts.{counts_are_one}
use Rattle.dn_headline.proofs.Listing.{contains_place}
use Rattle.dn_headline.proofs.Layouts.{held_single, layouts_are_one, justified_layout}
use Rattle.dn_headline.proofs.Output.{list_from}

pub same_list : {A : Type 0} (xs ys : List A) → length xs ≡ length ys → ((k : ℕ) (x y : A) → slice_get xs k ≡ Some x → slice_get ys k ≡ Some y → x ≡ y) → xs ≡ ys
same_list [] [] long at = refl
same_list [] (y ∷ ys) long at = absurd (omega arith)
same_list (x ∷ xs) [] long at = absurd (omega arith)
same_list (x ∷ xs) (y ∷ ys) long at =
    let first = at 0 x y refl refl in
    let rest = same_list xs ys (omega arith) (λ k a b h g. at (suc k) a b h g) in
    λ i. first i ∷ rest i

-- an inventory that was said keeps the limits of its format
pub said_inventory_is : (w : RunView) (who : SignerId) (v : Inventory) → WasSaid w who (kinds.Inventory v) → IsInventory v
said_inventory_is w who v said = said.says.unseals.fits.1.1

module _ (w : RunView) (f : Facts) (inv : Invariant w f) (clean : Clean w) (all : (x : ServerId) → IsServer w.group x → IsHonestServer w.group x) where
  -- what a server said for one place is one
  pub said_once : (x : ServerId) (place : Place) (s t : Statement) → IsServer w.group x → WasSaid w (Server x) s → WasSaid w (Server x) t
      → place_of s ≡ Some place → place_of t ≡ Some place → s ≡ t
  said_once x place s t server ss st ps pt =
      let honest = all x server in
      inv.servers.one_each x honest place s t
      (signs_said w f inv clean x s honest ss) (signs_said w f inv clean x t honest st) ps pt

  module _ (x y : ServerId) (c d : Course) (same : c.r ≡ d.r) where
    inventories_are_one : (us vs : List Inventory) → AreInventories (WasSaid w) (seat_of w.group x) c us → AreInventories (WasSaid w) (seat_of w.group y) d vs → us ≡ vs
    inventories_are_one us vs hu hv =
        same_list us vs (hu.each ∙ sym hv.each) (λ k u v au av.
        let server : k < servers_of w.group = subst (λ n. k < n) hu.each (slice_get_within us k u au) in
        let here = All-contains (λ (v : Inventory). (v.r ≡ c.r) × (v.prev ≡ c.prev)) us u hu.here (contains_place us k u au) in
        let there = All-contains (λ (v : Inventory). (v.r ≡ d.r) × (v.prev ≡ d.prev)) vs v hv.here (contains_place vs k v av) in
        let one = said_once (record { 0 = k }) (inventory_of c.r) (kinds.Inventory u) (kinds.Inventory v) server (hu.said_so k u au) (hv.said_so k v av)
        (ap (λ r. Some (inventory_of r)) here.0) (ap (λ r. Some (inventory_of r)) (there.0 ∙ sym same)) in
        cc)

    listed_are_one : (us vs : List Inventory) (ls ms : List Listed) → AreInventories (WasSaid w) (seat_of w.group x) c us → AreInventories (WasSaid w) (seat_of w.group y) d vs
        → IsTrim us ls → IsTrim vs ms → ls ≡ ms
    listed_are_one us vs ls ms hu hv t u =
        let keep : All IsInventory us = All-from_contains IsInventory us (λ v h.
        said_inventory_is w (Server record { 0 = h.0 }) v (hu.said_so h.0 v (slice_get-get_or us h.0 v h.1 ∙ ap Some h.2))) in
        trims_are_one_lem us keep ls ms t (subst (λ is. IsTrim is ms) (sym (inventories_are_one us vs hu hv)) u)

    strings_are_one : (b e : Body) (o : IsOutput (WasSaid w) (WasIncluded w x) (seat_of w.group x) c b) (p : IsOutput (WasSaid w) (WasIncluded w y) (seat_of w.group y) d e)
        → o.strings ≡ p.strings
    strings_are_one b e o p =
        same_list o.strings p.strings (o.each ∙ sym p.each) (λ k s t is it.
        let server : k < servers_of w.group = subst (λ n. k < n) o.each (slice_get_within o.strings k s is) in
        let one = said_once (record { 0 = k }) (reveal_of c.r) (kinds.Reveal c.r s) (kinds.Reveal d.r t) server (o.revealed k s is) (p.revealed k t it)
        refl (ap (λ r. Some (reveal_of r)) (sym same)) in
        cc)

    digests_are : (z : ServerId) (k : Course) (b : Body) (o : IsOutput (WasSaid w) (WasIncluded w z) (seat_of w.group z) k b)
        → b.digests ≡ map (λ j. digest_by k j (get_or o.strings j [])) (below (servers_of w.group))
    digests_are z k b o =
        let of : ℕ → List ℕ = λ j. digest_by k j (get_or o.strings j []) in
        list_from of 0 b.digests (λ j x at.
        let within : j < length o.strings = let h = slice_get_within b.digests j x at in omega (arith, h, o.digests, o.each) in
        let due = o.digest j (get_or o.strings j []) (slice_get-get_or o.strings j [] within) in
        let both : ◌≡◌ {A = Option (List ℕ)} (Some (of j)) (Some x) = sym due ∙ at in
        let zero_more : of (0 + j) ≡ of j = ap of (omega arith) in
        zero_more ∙ same_Some (of j) x both)
        ∙ ap (λ (m : ℕ). map of (below m)) o.digests

    endings_are_one : (b e : Body) (t u : Bool) → t ≡ u → c.bits ≡ d.bits
        → IsEnding (WasSaid w) (WasIncluded w x) t (seat_of w.group x) c b → IsEnding (WasSaid w) (WasIncluded w y) u (seat_of w.group y) d e
        → (b.digests ≡ e.digests) × (b.out ≡ e.out)
    endings_are_one b e true true h bits o p = (o.digests ∙ sym p.digests, o.out ∙ sym p.out)
    endings_are_one b e true false h bits o p = absurd cc
    endings_are_one b e false true h bits o p = absurd cc
    endings_are_one b e false false h bits o p =
        let strings = strings_are_one b e o p in (
          digests_are x c b o
              ∙ (λ i. map (λ j. server_digest_of (same i).0 j (bytes_of (get_or (strings i) j []))) (below (servers_of w.group)))
              ∙ sym (digests_are y d e p),
          o.sum ∙ (λ i. sum_bits (bits i) (strings i)) ∙ sym p.sum,
        )

  counts_same : (x y : ServerId) (p : ℕ) (l m : List ℕ) → IsServer w.group x → IsServer w.group y → IsLayoutAfter (f.server x).chain p l → IsLayoutAfter (f.server y).chain p m
      → count_at (f.server x).chain p ≡ count_at (f.server y).chain p
  counts_same x y p l m sx sy here_ there =
      let hx = inv.held_is_put.servers x (all x sx) in
      let hy = inv.held_is_put.servers y (all y sy) in
      counts_are_one (f.server x).chain (f.server y).chain p l m (held_single w (f.server x).chain hx) (held_single w (f.server y).chain hy)
      (λ b c hb hc e. one_body_lem w f inv clean b c (All-contains (IsCertified w) (bodies (f.server x).chain) b hx.certified hb)
      (All-contains (IsCertified w) (bodies (f.server y).chain) c hy.certified hc) (round_is b.r c.r e))
      here_ there

  -- where one server heard of a round with data, the body that another justifies has data
  pub full_for_all : (x y : ServerId) (b : Body) (r : Round) → IsServer w.group x → IsServer w.group y → (just : IsJustified w f x b) → (full : IsFull w f y r)
      → b.r ≡ r → b.prev ≡ full.prev → b.thin ≡ false
  full_for_all x y b r sx sy just full round prev =
      let listed = listed_are_one x y (record { r = b.r; prev = b.prev; bits = bits_of just.layout }) (record { r = r; prev = full.prev; bits = bits_of full.layout }) round
      just.inventories full.inventories b.listed full.listed just.heard full.heard just.trim full.trim in
      let last = ap (λ (p : Round). count_at (f.server x).chain p.0) prev
      ∙ counts_same x y full.prev.0 just.layout full.layout sx sy (subst (λ (p : Round). IsLayoutAfter (f.server x).chain p.0 just.layout) prev just.after) full.after in
      let version = just.version in
      just.floor ∙ (λ i. is_due_thin (version i) (length (listed i)) (last i)) ∙ full.full

  -- bodies that servers justify in one round on one prev are one
  pub bodies_are_one : (x y : ServerId) (b e : Body) → IsServer w.group x → IsServer w.group y → IsJustified w f x b → IsJustified w f y e → b.r ≡ e.r → b.prev ≡ e.prev → b ≡ e
  bodies_are_one x y b e sx sy jb je round prev =
      let c : Course = record { r = b.r; prev = b.prev; bits = bits_of jb.layout } in
      let d : Course = record { r = e.r; prev = e.prev; bits = bits_of je.layout } in
      let version = jb.version ∙ sym je.version in
      let listed = listed_are_one x y c d round jb.inventories je.inventories b.listed e.listed jb.heard je.heard jb.trim je.trim in
      let last = ap (λ (p : Round). count_at (f.server x).chain p.0) prev
      ∙ counts_same x y e.prev.0 jb.layout je.layout sx sy (subst (λ (p : Round). IsLayoutAfter (f.server x).chain p.0 jb.layout) prev jb.after) je.after in
      let layout = layouts_are_one w (one_body_lem w f inv clean) e.prev.0 jb.layout je.layout
      (subst (λ (p : Round). IsLayoutOf w p.0 jb.layout) prev (justified_layout w f inv clean b x (all x sx) jb)) (justified_layout w f inv clean e y (all y sy) je) in
      let thin = jb.floor ∙ (λ i. is_due_thin (version i) (length (listed i)) (last i)) ∙ sym je.floor in
      let rest = endings_are_one x y c d round b e b.thin e.thin thin (ap bits_of layout) jb.ending je.ending in
      let digests = rest.0 in
      let out = rest.1 in
      λ i. record { version = version i; r = round i; prev = prev i; thin = thin i; listed = listed i; digests = digests i; out = out i }
