-- As a world is made, its auditor knows the run in which nothing has happened.
use Rattle.std.proofs.Common.{◌≡◌, ℕ, zero, suc, ◌+◌, ◌<◌, ◌≤◌, List, [], ◌∷◌, ◌++◌, map, length, refl, sym, ap, subst, ◌∙◌, arith, inl, inr, Bool, true, false, cond, le-ltb}
use Rattle.std.specs.Prelude.{Contains, ◌⊎◌, ◌↔◌, ◌==◌, nat_lt, count_by, slice_get, Option, Some, None}
use Rattle.std.specs.Option.{option_map}
use Rattle.std.specs.List.{flat_map, range_with_len}
use Rattle.std.proofs.lemmas.Bool.{eq-eqb, cases_lt}
use Rattle.std.proofs.lemmas.Option.{same_Some, slice_get_within}
use Rattle.std.proofs.lemmas.List.Sums.{sum_by-cons}
use Rattle.std.proofs.lemmas.List.Elements.{Contains-append_left, Contains-append_right, Contains-append_cases}
use Rattle.dn_wire.specs.declared.ids.ClientId.{ClientId}
use Rattle.dn_wire.specs.declared.ids.SlotId.{SlotId}
use Rattle.dn_wire.specs.declared.ids.Member.{Member}
use Rattle.dn_wire.specs.declared.ids.Member.TheVariants as members
use Rattle.dn_wire.specs.declared.ids.SignerId.{SignerId}
use Rattle.dn_wire.specs.declared.ids.SignerId.TheVariants.{Client, Server, Slot}
use Rattle.dn_bits.specs.Bits.{below}
use Rattle.dn_roster.specs.declared.group.GroupSpec.{GroupSpec}
use Rattle.dn_roster.specs.Owners.{IsOwners}
use Rattle.dn_roster.specs.Roster.{key_of}
use Rattle.dn_seal.specs.Dealt.{seed_dealt_to}
use Rattle.dn_cert.proofs.ListLemmas.{Contains-map, Contains-from_map}
use Rattle.dn_cert.proofs.Orders.{here, later, nothing, first_or_later}
use Rattle.dn_audit.specs.Strings.{Hashed}
use Rattle.dn_audit.specs.Auditor.{hashed_seed}
use Rattle.dn_audit.specs.Group.{GroupView as Marked, is_corrupt as is_marked, IsHonestKey as IsUnmarkedKey}
use Rattle.dn_state.specs.Beginning.{Begins, first_strings, seeds_of, seeds_below, hashed_dealt}
use Rattle.dn_state.specs.Parts.{PartsView}
use Rattle.dn_headline.specs.Group.{GroupView, clients_of, servers_of, seed_of, is_corrupt, IsHonestKey}
use Rattle.dn_headline.specs.Log.{Put, with_steps}
use Rattle.dn_headline.specs.Run.{RunView, SumMade, log}
use Rattle.dn_headline.specs.Step.{first_run}
use Rattle.dn_auditing.specs.Known.{MarksKeys, Knows, IsOwnFront}
use Rattle.dn_auditing.specs.Shows.{AreStringsOf, IsDealt, IsShown, ShowsSeed, ShowsCipher, ShowsSum}
use Rattle.dn_auditing.proofs.Putting.{knows_nothing}
use Rattle.dn_steps.specs.Audited.{IsAudited}
use Rattle.dn_steps.specs.Dealt.{IsDealtGroup}
use Rattle.dn_steps.specs.Fitting.{FitsGroup, IsAmong}
use Rattle.dn_steps.proofs.Places.{one_at}
use Rattle.dn_steps.proofs.Begun.{clients_are, servers_are, seed_is, fits_group}

-- ---- keys

-- a client that owns a slot is counted among the owners
counted : (xs : List ClientId) (i : ClientId) → Contains xs i → 1 ≤ count_by (λ (c : ClientId). c.0 == i.0) xs
counted [] i h = absurd (nothing i h)
counted (x ∷ xs) i h =
    let sum = sum_by-cons (λ (c : ClientId). cond (c.0 == i.0) 1 0) x xs in
    elim (first_or_later x xs i h) [
      | inl same ↦
          let one : ◌≡◌ {A = ℕ} (cond (x.0 == i.0) 1 0) 1 = ap {B = ℕ} (λ b. cond b 1 0) (eq-eqb x.0 i.0 (ap (λ (c : ClientId). c.0) same)) in
          omega (arith, sum, one)
      | inr behind ↦ let more = counted xs i behind in omega (arith, sum, more)
    ]

owner_within : (group : GroupSpec) (owners : List ClientId) → IsOwners group owners → (i : ClientId) → Contains owners i → i.0 < group.clients
owner_within group owners are i h = elim (cases_lt i.0 group.clients) [
  | inl lt ↦ lt
  | inr ge ↦
      let some = counted owners i h in
      let none : count_by (λ (c : ClientId). c.0 == i.0) owners ≡ 0 = are.once i.0 ∙ ap {B = ℕ} (λ b. cond b 1 0) (le-ltb i.0 group.clients ge) in
      absurd (omega (arith, some, none))
]

at_place : {A : Type 0} (xs : List A) (n : ℕ) (x : A) → slice_get xs n ≡ Some x → Contains xs x
at_place xs n x at = one_at xs n x at

module _ (g : GroupView) (parts : PartsView) (fits : FitsGroup g parts) (owners_within : (i : ClientId) → Contains g.owners i → i.0 < clients_of g)
    (slots : length g.roster.slots ≡ clients_of g) where
  -- a member is honest in the one group as in the other
  same_mark : (m : Member) → IsAmong g m → (is_corrupt g m ≡ false) ↔ (is_marked parts.group m ≡ false)
  same_mark m among = (λ h. fits.corrupt m among ∙ h, λ h. sym (fits.corrupt m among) ∙ h)

  by_owner : (s : SlotId) (member : Member) (o : Option ClientId) → slice_get g.owners s.0 ≡ o → option_map members.Client o ≡ Some member → is_marked parts.group member ≡ false
      → IsHonestKey g (Slot s)
  by_owner s member None at is h = absurd (let clash = is in cc)
  by_owner s member (Some i) at is h =
      let same : members.Client i ≡ member = same_Some (members.Client i) member is in
      let within = owners_within i (at_place g.owners s.0 i at) in
      let unmarked : is_marked parts.group (members.Client i) ≡ false = subst (λ (m : Member). is_marked parts.group m ≡ false) (sym same) h in
      (members.Client i, (i, at, refl), (same_mark (members.Client i) within).1 unmarked)

  pub marks_keys : MarksKeys g parts.group
  marks_keys (Client i) key known =
      let within = slice_get_within g.roster.clients i.0 key known in (
        λ h. record {
          member = h.0;
          owns = ap Some h.1;
          honest = subst (λ (m : Member). is_marked parts.group m ≡ false) h.1
              ((same_mark (members.Client i) within).0 (subst (λ (m : Member). is_corrupt g m ≡ false) (sym h.1) h.2));
        },
        λ h. let same = same_Some (members.Client i) h.member h.owns in
            (members.Client i, refl, (same_mark (members.Client i) within).1 (subst (λ (m : Member). is_marked parts.group m ≡ false) (sym same) h.honest)),
      )
  marks_keys (Server j) key known =
      let within = slice_get_within g.roster.servers j.0 key known in (
        λ h. record {
          member = h.0;
          owns = ap Some h.1;
          honest = subst (λ (m : Member). is_marked parts.group m ≡ false) h.1
              ((same_mark (members.Server j) within).0 (subst (λ (m : Member). is_corrupt g m ≡ false) (sym h.1) h.2));
        },
        λ h. let same = same_Some (members.Server j) h.member h.owns in
            (members.Server j, refl, (same_mark (members.Server j) within).1 (subst (λ (m : Member). is_marked parts.group m ≡ false) (sym same) h.honest)),
      )
  marks_keys (Slot s) key known = (
    λ h. let owner = h.1 in
        let within = owners_within owner.0 (at_place g.owners s.0 owner.0 owner.1) in
        record {
          member = h.0;
          owns = ap (λ (os : List ClientId). option_map members.Client (slice_get os s.0)) fits.owners ∙ ap (option_map members.Client) owner.1 ∙ ap Some owner.2;
          honest = subst (λ (m : Member). is_marked parts.group m ≡ false) owner.2
              ((same_mark (members.Client owner.0) within).0 (subst (λ (m : Member). is_corrupt g m ≡ false) (sym owner.2) h.2));
        },
    λ h. by_owner s h.member (slice_get g.owners s.0) refl (ap (λ (os : List ClientId). option_map members.Client (slice_get os s.0)) (sym fits.owners) ∙ h.owns) h.honest,
  )

-- ---- the seeds that were dealt

in_range : (a n i : ℕ) → Contains (range_with_len a n) i → (a ≤ i) × (i < a + n)
in_range a zero i h = absurd (nothing i h)
in_range a (suc n) i h = elim (first_or_later a (range_with_len (a + 1) n) i h) [
  | inl same ↦ (omega (arith, same), omega (arith, same))
  | inr behind ↦ let r = in_range (a + 1) n i behind in (omega (arith, r.0), omega (arith, r.1))
]

of_range : (a n i : ℕ) → a ≤ i → i < a + n → Contains (range_with_len a n) i
of_range a zero i low high = absurd (omega (arith, low, high))
of_range a (suc n) i low high = elim (cases_lt a i) [
  | inl lt ↦ later a (range_with_len (a + 1) n) i (of_range (a + 1) n i (omega (arith, lt)) (omega (arith, high)))
  | inr ge ↦ let same : a ≡ i = omega (arith, low, ge) in subst (Contains (a ∷ range_with_len (a + 1) n)) same (here a (range_with_len (a + 1) n))
]

from_flat : {A B : Type 0} (f : A → List B) (xs : List A) (y : B) → Contains (flat_map f xs) y → (x : A) × Contains xs x × Contains (f x) y
from_flat f [] y h = absurd (nothing y h)
from_flat f (x ∷ xs) y h = elim (Contains-append_cases (f x) (flat_map f xs) y h) [
  | inl first ↦ (x, here x xs, first)
  | inr behind ↦ let r = from_flat f xs y behind in (r.0, later x xs r.0 r.1, r.2)
]

to_flat : {A B : Type 0} (f : A → List B) (xs : List A) (x : A) (y : B) → Contains xs x → Contains (f x) y → Contains (flat_map f xs) y
to_flat f [] x y h c = absurd (nothing x h)
to_flat {A} {B} f (z ∷ xs) x y h c = elim (first_or_later z xs x h) [
  | inl same ↦ Contains-append_left (f z) (flat_map f xs) y (subst (λ (a : A). Contains (f a) y) (sym same) c)
  | inr behind ↦ Contains-append_right (f z) (flat_map f xs) y (to_flat f xs x y behind c)
]

-- ---- the beginning

module _ (group : GroupSpec) (owners : List ClientId) (corrupt : List Member) (workers : ℕ) (g : GroupView) (parts : PartsView) (dealt : IsDealtGroup group owners corrupt g)
    (begins : Begins group g.roster owners corrupt workers parts) (some : 1 ≤ workers) (few : workers ≤ 16) where
  clients_so : clients_of g ≡ group.clients
  clients_so = clients_are group owners corrupt workers g parts dealt begins some few

  servers_so : servers_of g ≡ group.servers
  servers_so = servers_are group owners corrupt workers g parts dealt begins some few

  seed_so : (i j : ℕ) → i < group.clients → j < group.servers → seed_of g i j ≡ seed_dealt_to group i j
  seed_so = seed_is group owners corrupt workers g parts dealt begins some few

  all_within : (i : ClientId) → Contains g.owners i → i.0 < clients_of g
  all_within i h = subst (λ n. i.0 < n) (sym clients_so) (owner_within group owners dealt.in_order i (subst (λ os. Contains os i) dealt.owned h))

  seed_dealt : (y : Hashed) → Contains (seeds_below group group.clients) y → IsDealt g y
  seed_dealt y h =
      let i = from_flat (seeds_of group) (below group.clients) y h in
      let j = Contains-from_map (hashed_dealt group i.0) (below group.servers) y i.2 in
      let low = (in_range 0 group.clients i.0 i.1).1 in
      let low_server = (in_range 0 group.servers j.0 j.1).1 in
      let client : i.0 < group.clients = omega (arith, low) in
      let server : j.0 < group.servers = omega (arith, low_server) in (
        i.0,
        j.0,
        subst (λ n. i.0 < n) (sym clients_so) client,
        subst (λ n. j.0 < n) (sym servers_so) server,
        sym j.2 ∙ ap (hashed_seed i.0 j.0) (sym (seed_so i.0 j.0 client server)),
      )

  dealt_seed : (y : Hashed) → IsDealt g y → Contains (seeds_below group group.clients) y
  dealt_seed y h =
      let client : h.0 < group.clients = subst (λ n. h.0 < n) clients_so h.2 in
      let server : h.1 < group.servers = subst (λ n. h.1 < n) servers_so h.3 in
      let is : hashed_dealt group h.0 h.1 ≡ y = ap (hashed_seed h.0 h.1) (sym (seed_so h.0 h.1 client server)) ∙ sym h.4 in
      to_flat (seeds_of group) (below group.clients) h.0 y (of_range 0 group.clients h.0 (omega arith) (omega (arith, client)))
      (subst (Contains (seeds_of group h.0)) is
      (Contains-map (hashed_dealt group h.0) (below group.servers) h.1 (of_range 0 group.servers h.1 (omega arith) (omega (arith, server)))))

  none_shown : (shows : List ℕ → Hashed → Type 0) (y : Hashed) → IsShown shows [] y → ⊥
  none_shown shows y h = nothing h.0 h.1

  first_are : AreStringsOf g [] [] (first_strings group)
  first_are = record {
    seeds = λ y. (λ h. inl (seed_dealt y h), λ h. elim h [ inl d ↦ dealt_seed y d | inr s ↦ absurd (none_shown (ShowsSeed g.roster) y s) ]);
    ciphers = λ y. (λ h. absurd (nothing y h), λ h. absurd (none_shown (ShowsCipher g.roster) y h));
    sums = λ y. (λ h. absurd (nothing y h), λ h. absurd (elim h [ inl m ↦ nothing m.0 m.1 | inr s ↦ none_shown (ShowsSum g.roster) y s ]));
  }

  pub audit_begins : IsAudited (first_run g) parts
  unfolding with_steps
  audit_begins =
      let fits = fits_group group owners corrupt workers g parts dealt begins some few in
      record {
        marks = marks_keys g parts fits all_within dealt.is_roster.slots;
        servers = begins.members.servers_long ∙ sym servers_so;
        fronts = λ p h. absurd (nothing p h);
        knows = knows_nothing g [] parts.auditor (first_strings group) begins.auditor.signed begins.auditor.are_theirs first_are begins.auditor.tells;
      }
