-- A server that is sound can take the step that is due.
use Rattle.std.proofs.Common.{◌≡◌, ℕ, zero, suc, ◌<◌, ◌≤◌, ◌^◌, Bool, true, false, List, [], ◌∷◌, length, map, get_or, Some, None, refl, sym, ap, subst, ◌∙◌, arith, inl, inr}
use Rattle.std.specs.Prelude.{Option, All, Contains, filter_map, slice_get, is_some, IsTrue, ◌⊎◌, ◌==◌, nat_lt, ◌*◌}
use Rattle.std.specs.List.{AllByRecursion, cons_option}
use Rattle.std.proofs.lemmas.Bool.{false≢true, eqb-true, and_parts}
use Rattle.std.proofs.lemmas.Option.{same_Some, slice_get_within, slice_get-get_or}
use Rattle.std.proofs.lemmas.List.Elements.{All-head, All-tail, All-contains, All-weaker, All-filter, All-contains_itself, filter_passes}
use Rattle.dn_wire.specs.declared.ids.ClientId.{ClientId}
use Rattle.dn_wire.specs.declared.ids.Round.{Round}
use Rattle.dn_bits.specs.Bits.{below, bytes_of, sum_bits}
use Rattle.dn_bits.proofs.BitLemmas.{here, later, IsLong, length-sum_all}
use Rattle.dn_hash.specs.Digests.{cipher_digest_of}
use Rattle.dn_record_types.specs.Lists.{Ascend, FitsRow}
use Rattle.dn_record_types.specs.Records.{listed as listed_row, entry as entry_row, body as body_part, statement_bytes, IsStatement}
use Rattle.dn_record_types.specs.declared.body.Body.{Body}
use Rattle.dn_record_types.specs.declared.body.Listed.{Listed}
use Rattle.dn_record_types.specs.declared.inventory.Entry.{Entry}
use Rattle.dn_record_types.specs.declared.inventory.Inventory.{Inventory}
use Rattle.dn_record_types.specs.declared.statement.Statement.{Statement}
use Rattle.dn_record_types.specs.declared.statement.Statement.TheVariants as kinds
use Rattle.dn_record_types.specs.declared.statement.WordTold.{WordTold}
use Rattle.dn_record_types.specs.declared.statement.WordTold.TheVariants as words
use Rattle.dn_seal.specs.Dealt.{server}
use Rattle.dn_seal.specs.Said.{SaidView, IsSaid}
use Rattle.dn_seal.specs.Signer.{CanSign}
use Rattle.dn_seal.proofs.SizeLemmas.{can_sign}
use Rattle.dn_cert.specs.Certificate.{IsOfRoster}
use Rattle.dn_cert.specs.Chain.{CanFollow, count_at}
use Rattle.dn_cert.specs.Signed.{EntryVerifies}
use Rattle.dn_cert.specs.Trim.{IsInventory, IsOfLeast, given_to}
use Rattle.dn_server.specs.declared.claims.Claim.{Claim}
use Rattle.dn_server.specs.declared.parts.Parts.{Parts}
use Rattle.dn_server.specs.declared.run.Stage.{Stage}
use Rattle.dn_server.specs.declared.run.Stage.TheVariants as stages
use Rattle.dn_server.specs.declared.run.Sum.{Sum}
use Rattle.dn_server.specs.Parts.{live}
use Rattle.dn_server.specs.Server.{ServerView, is_of, statement_of}
use Rattle.dn_server.proofs.KeptLemmas.{statement_said, All-find}
use Rattle.dn_rounds.specs.Going.{IsListing, IsBodyDue, IsThinDue, IsUnopposed}
use Rattle.dn_rounds.specs.Sound.{IsClaimed, AreClaimed}
use Rattle.dn_rounds.specs.Certifying.{CanStep, IsCertifiable}
use Rattle.dn_rounds.proofs.CommitLemmas.{inventories_fit}
use Rattle.dn_rounds.proofs.ThinLemmas.{listed_few}
use Rattle.dn_exchange.specs.Closing.{inventory_of, entry_at, entry_from, entry_for, entries_of}
use Rattle.dn_exchange.specs.Invariant.{IsSound, IsRunning, IsAtStage, IsClaim, HasListed, HasCommitted, HasSigned, claimed_entry, standing_of}

-- ---- lists

pub by_recursion : {X : Type 0} (P : X → Type 0) (xs : List X) → All P xs → AllByRecursion P xs
by_recursion P [] h = tt
by_recursion P (x ∷ xs) h = (All-head P x xs h, by_recursion P xs (All-tail P x xs h))

at_recursion : {X : Type 0} (P : X → Type 0) (xs : List X) (k : ℕ) (d : X) → k < length xs → AllByRecursion P xs → P (get_or xs k d)
at_recursion P [] k d lt h = absurd (omega arith)
at_recursion P (x ∷ xs) zero d lt h = h.0
at_recursion P (x ∷ xs) (suc k) d lt h = at_recursion P xs k d (omega arith) h.1

from_recursion : {X : Type 0} (P : X → Type 0) (xs : List X) (x : X) → AllByRecursion P xs → Contains xs x → P x
from_recursion P xs x h c = subst P c.2 (at_recursion P xs c.0 x c.1 h)

cons_cases : {X : Type 0} (z : X) (l : List X) (y : X) (k : ℕ) → k < length (z ∷ l) → get_or (z ∷ l) k y ≡ y → (z ≡ y) ⊎ Contains l y
cons_cases z l y zero lt e = inl e
cons_cases z l y (suc k) lt e = inr (k, omega arith, e)

-- what a filter that maps gives comes from an element
in_cons : {X Y : Type 0} (h : X → Option Y) (x : X) (xs : List X) (y : Y) → (Contains (filter_map h xs) y → (z : X) × Contains xs z × (h z ≡ Some y))
    → (o : Option Y) → h x ≡ o → Contains (cons_option o (filter_map h xs)) y → (z : X) × Contains (x ∷ xs) z × (h z ≡ Some y)
in_cons h x xs y rest None e c = let r = rest c in (r.0, later x xs r.0 r.1, r.2)
in_cons h x xs y rest (Some z) e c = elim (cons_cases z (filter_map h xs) y c.0 c.1 c.2) [
  | inl same ↦ (x, here x xs, e ∙ ap (λ w. Some w) same)
  | inr there ↦ let r = rest there in (r.0, later x xs r.0 r.1, r.2)
]

pub in_filter_map : {X Y : Type 0} (h : X → Option Y) (xs : List X) (y : Y) → Contains (filter_map h xs) y → (x : X) × Contains xs x × (h x ≡ Some y)
in_filter_map h [] y c = absurd (omega (arith, c.1))
in_filter_map h (x ∷ xs) y c = in_cons h x xs y (in_filter_map h xs y) (h x) refl c

got_contains : {X : Type 0} (xs : List X) (k : ℕ) (x : X) → slice_get xs k ≡ Some x → Contains xs x
got_contains xs k x e =
    let lt = slice_get_within xs k x e in
    (k, lt, same_Some (get_or xs k x) x (sym (slice_get-get_or xs k x lt) ∙ e))

-- ---- statements that are kept

pub statement_fits : (kept : List SaidView) (kind j : ℕ) (s : Statement) → All IsSaid kept → statement_of kept kind j ≡ Some s → IsStatement s
statement_fits kept kind j s all e =
    let found = statement_said kept kind j s e in
    let is = All-find IsSaid (is_of kind j) kept found.0 all found.1 in
    subst IsStatement found.2 is.fits.1.1

pub statement_small : (kept : List SaidView) (kind j : ℕ) (s : Statement) → All IsSaid kept → statement_of kept kind j ≡ Some s → length (statement_bytes s) ≤ 16777216
statement_small kept kind j s all e =
    let found = statement_said kept kind j s e in
    let is = All-find IsSaid (is_of kind j) kept found.0 all found.1 in
    subst (λ x. length (statement_bytes x) ≤ 16777216) found.2 is.fits.1.0

-- ---- claims

by_word : (i : ℕ) (claim : Claim) (w : WordTold) (e : Entry) → claim.told ≡ w → entry_for i w claim ≡ Some e → (claim.told ≡ words.Included) × (e ≡ claimed_entry i claim)
by_word i claim words.Included e told is = (told, sym (same_Some (claimed_entry i claim) e is))
by_word i claim words.Late e told is = cc

pub entry_found : (i : ℕ) (o : Option (Option Claim)) (e : Entry) → entry_from i o ≡ Some e
    → (claim : Claim) × (o ≡ Some (Some claim)) × (claim.told ≡ words.Included) × (e ≡ claimed_entry i claim)
entry_found i None e is = cc
entry_found i (Some None) e is = cc
entry_found i (Some (Some claim)) e is = let parts = by_word i claim claim.told e refl is in (claim, refl, parts.0, parts.1)

module _ (v : ServerView) (sound : IsSound v) (running : IsRunning (standing_of v)) (thin : Bool) (listed : List Listed) (listing : IsListing v thin listed) where
  -- the entry of a row in the inventory of its server
  record Entered (l : Listed) : Type 0 where
    inventory : Inventory
    there : slice_get listing.inventories l.server.0 ≡ Some inventory
    kept : statement_of v.run.kept 3 l.server.0 ≡ Some (kinds.Inventory inventory)
    entry : Entry
    among : Contains inventory.entries entry
    client : entry.client ≡ l.client
    digest : entry.digest ≡ l.digest

  entered : (l : Listed) → Contains listed l → Entered l
  entered l c =
      let least = All-contains (IsOfLeast listing.inventories) listed l listing.trim.least c in
      record {
        inventory = least.inventory;
        there = least.there;
        kept = listing.kept.say l.server.0 least.inventory least.there;
        entry = least.entry.0;
        among = least.entry.1;
        client = least.entry.2;
        digest = least.entry.3;
      }

  pub client_within : (l : Listed) → Contains listed l → l.client.0 < length v.seat.roster.clients
  client_within l c =
      let e = entered l c in
      let all = running.inventories l.server.0 e.inventory e.kept in
      let verifies = All-contains (EntryVerifies v.seat.roster v.run.r v.run.prev) e.inventory.entries e.entry all.1 e.among in
      let within = slice_get_within v.seat.roster.clients e.entry.client.0 verifies.0 verifies.1 in
      subst (λ (i : ClientId). i.0 < length v.seat.roster.clients) e.client within

  pub clients_within : All (λ (l : Listed). l.client.0 < length v.seat.roster.clients) listed
  clients_within =
      All-weaker (Contains listed) (λ (l : Listed). l.client.0 < length v.seat.roster.clients) (λ l c. client_within l c) listed (All-contains_itself listed)

  pub few_listed : length listed ≤ 512
  few_listed =
      let few = listed_few listed (length v.seat.roster.clients) listing.trim.ascends clients_within in
      let clients = sound.seated.roster.clients in
      omega (arith, clients.1)

  row_fits : (l : Listed) → Contains listed l → FitsRow listed_row l
  row_fits l c =
      let e = entered l c in
      let clients = sound.seated.roster.clients in
      let servers = sound.seated.roster.servers in
      let within = client_within l c in
      let by = slice_get_within listing.inventories l.server.0 e.inventory e.there in
      let fits : IsInventory e.inventory =
      All-contains IsInventory listing.inventories e.inventory (inventories_fit v running.kept.said listing.inventories listing.kept)
      (got_contains listing.inventories l.server.0 e.inventory e.there) in
      let row = from_recursion (FitsRow entry_row) e.inventory.entries e.entry fits.1.1.2 e.among in
      let long : length l.digest ≡ 32 = ap length (sym e.digest) ∙ row.1.0 in
      let low : l.client.0 < 2 ^ 32 = omega (arith, clients.1) in
      let low_server : l.server.0 < 2 ^ 32 = omega (arith, servers.1, listing.kept.each) in
      (low, (low_server, long))

  pub rows_fit : AllByRecursion (FitsRow listed_row) listed
  rows_fit = by_recursion (FitsRow listed_row) listed (All-weaker (Contains listed) (FitsRow listed_row) (λ l c. row_fits l c) listed (All-contains_itself listed))

  -- a row that the list gives to the server is a claim that was told Included
  claimed_row : HasListed (standing_of v) → (l : Listed) → Contains listed l → l.server.0 ≡ v.seat.number → IsClaimed v.run l
  claimed_row has l c mine =
      let e = entered l c in
      let own : statement_of v.run.kept 3 l.server.0 ≡ Some (kinds.Inventory (inventory_of v.run)) =
      subst (λ j. statement_of v.run.kept 3 j ≡ Some (kinds.Inventory (inventory_of v.run))) (sym mine) has in
      let both : Some (kinds.Inventory e.inventory) ≡ Some (kinds.Inventory (inventory_of v.run)) = sym e.kept ∙ own in
      let same : e.inventory ≡ inventory_of v.run = cc in
      let among : Contains (entries_of v.run.claims) e.entry = subst (λ (x : Inventory). Contains x.entries e.entry) same e.among in
      let from = in_filter_map (entry_at v.run.claims) (below (length v.run.claims)) e.entry among in
      let i = from.0 in
      let found = entry_found i (slice_get v.run.claims i) e.entry from.2 in
      let claim = found.0 in
      let is : IsClaim v.seat v.run.r v.run.prev v.run.bits i claim = sound.are_claims i claim found.1 in
      let at : i ≡ l.client.0 = sym (ap (λ (x : Entry). x.client.0) found.3) ∙ ap (λ (x : ClientId). x.0) e.client in
      record {
        claim = claim;
        there = subst (λ k. slice_get v.run.claims k ≡ Some (Some claim)) at found.1;
        told = found.2;
        digest = sym (ap (λ (x : Entry). x.digest) found.3) ∙ e.digest;
        long = is.long;
        fits = subst (λ k. claim.digest ≡ cipher_digest_of v.run.r.0 k (bytes_of claim.cipher)) at is.digest;
      }

  pub claimed_rows : HasListed (standing_of v) → AreClaimed v.run (given_to listed v.seat.number)
  claimed_rows has =
      let mine : Listed → Bool = λ l. l.server.0 == v.seat.number in
      let given = given_to listed v.seat.number in
      let inside : All (Contains listed) given = All-filter mine (Contains listed) listed (All-contains_itself listed) in
      let passes : All (λ l. mine l ≡ true) given = filter_passes mine listed in
      All-weaker (Contains given) (IsClaimed v.run)
      (λ l c.
      claimed_row has l (All-contains (Contains listed) given l inside c)
      (eqb-true l.server.0 v.seat.number (All-contains (λ x. mine x ≡ true) given l passes c)))
      given (All-contains_itself given)

-- ---- bodies

-- a body by its parts
body_fits : (version : ℕ) (r prev : Round) (thin : Bool) (listed : List Listed) (digests : List (List ℕ)) (out : List Bool) → (1 ≤ version) × (version ≤ 2)
    → r.0 < 2 ^ 64 → prev.0 < 2 ^ 64 → (IsTrue thin → version ≡ 2) → length listed ≤ 512 → Ascend (map (λ (l : Listed). l.client) listed)
    → AllByRecursion (FitsRow listed_row) listed → length digests ≤ 16 → AllByRecursion (λ (d : List ℕ). length d ≡ 32) digests → length out ≤ 65536
    → IsStatement (kinds.Sign record { version = version; r = r; prev = prev; thin = thin; listed = listed; digests = digests; out = out })
body_fits version r prev thin listed digests out known round before is few up rows few_digests each long =
    (known, (round, (before, (is, ((few, up, rows), ((few_digests, each), long))))))

module _ (v : ServerView) (sound : IsSound v) (running : IsRunning (standing_of v)) where
  pub low_number : v.seat.number < 2 ^ 32
  low_number = let servers = sound.seated.roster.servers in omega (arith, sound.seated.number, servers.1)

  before : v.run.prev.0 < 2 ^ 64
  before = omega (arith, running.course.before, running.course.small)

  pub thin_fits : (b : Body) → IsThinDue v b → CanSign (server v.seat.number) (kinds.Sign b)
  thin_fits b due =
      let parts = and_parts (v.seat.roster.version == 2) (nat_lt (100 * length due.listed) (95 * count_at v.chain v.run.prev.0)) due.listing.floor in
      let two : v.seat.roster.version ≡ 2 = eqb-true v.seat.roster.version 2 parts.0 in
      let fits =
      body_fits v.seat.roster.version v.run.r v.run.prev true due.listed [] [] sound.seated.roster.version running.course.small before (λ is. two)
      (few_listed v sound running true due.listed due.listing) due.listing.trim.ascends (rows_fit v sound running true due.listed due.listing) (omega arith) tt (omega arith) in
      subst (λ (x : Body). CanSign (server v.seat.number) (kinds.Sign x)) (sym due.is)
      (can_sign (server v.seat.number) (kinds.Sign record { version = v.seat.roster.version; r = v.run.r; prev = v.run.prev; thin = true; listed = due.listed; digests = []; out = [] }) low_number fits tt)

  pub full_fits : HasCommitted (standing_of v) → (sum : Sum) (b : Body) → IsBodyDue v sum b → CanSign (server v.seat.number) (kinds.Sign b)
  full_fits has sum b due =
      let servers = sound.seated.roster.servers in
      let same : has.sum ≡ sum = same_Some has.sum sum (sym has.has ∙ due.has) in
      let first : IsListing v false has.sum.listed =
      record { inventories = has.listing.inventories; kept = has.listing.kept; trim = has.listing.trim; floor = has.listing.floor } in
      let listing : IsListing v false sum.listed = subst (λ (x : Sum). IsListing v false x.listed) same first in
      let kept = running.kept.said in
      let each : All (λ (d : List ℕ). length d ≡ 32) due.digests =
      λ k d lt. (statement_fits v.run.kept 4 k (kinds.Commit v.run.r (get_or due.digests k d)) kept
      (due.commits.say k (get_or due.digests k d) (slice_get-get_or due.digests k d lt))).1 in
      let strings : All (IsLong v.run.bits) due.strings =
      λ k d lt. running.strings k (get_or due.strings k d) (due.reveals.say k (get_or due.strings k d) (slice_get-get_or due.strings k d lt)) in
      let long : length (sum_bits v.run.bits due.strings) ≡ v.run.bits = length-sum_all v.run.bits due.strings strings in
      let fits =
      body_fits v.seat.roster.version v.run.r v.run.prev false sum.listed due.digests (sum_bits v.run.bits due.strings) sound.seated.roster.version running.course.small before
      (λ is. absurd (false≢true is)) (few_listed v sound running false sum.listed listing) listing.trim.ascends (rows_fit v sound running false sum.listed listing)
      (omega (arith, due.commits.each, servers.1)) (by_recursion (λ (d : List ℕ). length d ≡ 32) due.digests each) (omega (arith, running.course.few)) in
      subst (λ (x : Body). CanSign (server v.seat.number) (kinds.Sign x)) (sym due.is)
      (can_sign (server v.seat.number)
      (kinds.Sign record { version = v.seat.roster.version; r = v.run.r; prev = v.run.prev; thin = false; listed = sum.listed; digests = due.digests; out = sum_bits v.run.bits due.strings })
      low_number fits tt)

-- ---- certificates

pub small_body : (b : Body) → length (statement_bytes (kinds.Sign b)) ≤ 16777216 → length (body_part.spell b) < 2 ^ 32
unfolding statement_bytes
small_body b few = omega arith

certifiable : (p : Parts) → IsSound (live p) → IsRunning (standing_of (live p)) → HasSigned (standing_of (live p)) → (b : Body) → statement_of p.run.kept 6 p.identity.number ≡ Some (kinds.Sign b) → IsCertifiable p b
certifiable p sound running has b kept =
    let both : Some (kinds.Sign has.body) ≡ Some (kinds.Sign b) = sym has.kept ∙ kept in
    let same : has.body ≡ b = cc in
    let servers = sound.seated.roster.servers in
    let small = small_body b (statement_small p.run.kept 6 p.identity.number (kinds.Sign b) running.kept.said kept) in
    let fits = statement_fits p.run.kept 6 p.identity.number (kinds.Sign b) running.kept.said kept in
    record {
      unopposed = subst (λ x. IsUnopposed (live p) x) same has.unopposed;
      group = subst (λ x. IsOfRoster p.identity.roster x) same has.group;
      follows = subst (λ x. CanFollow p.chain x) same has.follows;
      fits = λ signatures are.
          let short : All (λ (s : List ℕ). length s < 2 ^ 16) signatures =
          λ k d lt. (are.by k (get_or signatures k d) (slice_get-get_or signatures k d lt)).short in
          ((small, fits), (omega (arith, are.each, servers.1), by_recursion (λ (s : List ℕ). length s < 2 ^ 16) signatures short));
    }

-- ---- each stage

at_stage : (p : Parts) → IsSound (live p) → IsRunning (standing_of (live p)) → (stage : Stage) → IsAtStage stage (standing_of (live p)) → CanStep stage p
at_stage p sound running stages.Collecting at = tt
at_stage p sound running stages.Listed at =
    let clients = sound.seated.roster.clients in
    let seeds : length p.seeds.items ≡ length p.identity.roster.clients = sound.seated.seeds in (
      (λ thin listed listing. (
        claimed_rows (live p) sound running thin listed listing at,
        subst (λ n. All (λ (l : Listed). l.client.0 < n) listed) (sym seeds) (clients_within (live p) sound running thin listed listing),
      )),
      (λ b due. thin_fits (live p) sound running b due),
      omega (arith, clients.1),
      sound.workers,
    )
at_stage p sound running stages.Committed at = ((at.1.sum, at.1.has, at.1.long), running.course.few)
at_stage p sound running stages.Revealed at =
    ((at.1.sum, at.1.has, at.1.long), running.strings, at.2, (λ sum b due. full_fits (live p) sound running at.1 sum b due))
at_stage p sound running stages.Signed at =
    let found = statement_said p.run.kept 6 p.identity.number (kinds.Sign at.1.body) at.1.kept in
    (ap is_some found.1, (λ b kept. certifiable p sound running at.1 b kept))

-- a round that runs can take the step that is due
pub ready : (p : Parts) → IsSound (live p) → p.run.is_running ≡ true → CanStep p.run.stage p
ready p sound on = let running = sound.running on in at_stage p sound running p.run.stage running.stage
