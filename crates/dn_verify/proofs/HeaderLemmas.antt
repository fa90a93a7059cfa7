-- The places of a header's lines, part by part.
use Rattle.std.proofs.Common.{◌≡◌, ◌≤◌, ◌<◌, ◌+◌, ◌-◌, ◌*◌, ◌/◌, ◌%◌, ℕ, zero, suc, List, [], ◌∷◌, length, Some, None, sym, ap, subst, ◌∙◌, refl, inl, inr, arith}
use Rattle.std.specs.Prelude.{Option, ◌⊎◌, ◌++◌, map, slice_get}
use Rattle.std.proofs.lemmas.List.{map-append}
use Rattle.dn_bits.specs.Bits.{below}
use Rattle.dn_bits.proofs.SumLemmas.{below_more}
use Rattle.std.proofs.lemmas.Bool.{cases_lt}
use Rattle.std.proofs.lemmas.Bool.Decides.{nat_tests}
use Rattle.dn_report.specs.declared.line.ReportLine.{ReportLine}
use Rattle.dn_verify.specs.declared.stop.Stop.{Stop}
use Rattle.dn_verify.specs.declared.stop.Stop.TheVariants.{Broken, NoMemory}
use Rattle.dn_verify.specs.Header.{Place, Tells, IsRightAt, IsFirstWrong, clients_of, servers_of, place_at, seals_at, last_at, bytes_from, bytes_in, version_in, ots_in, client_lms_in, server_lms_in, roster_of}
use Rattle.dn_verify.specs.Header.Place.{version, numbers, key_of_client, key_of_server, key_of_slot, seal_of, corrupt}
use Rattle.dn_verify.specs.HeaderParts.{Fails, Holds, StopsAmong, StopsInHeader}

pub at_version : (n m : ℕ) → place_at n m 0 ≡ version
unfolding place_at
at_version n m = refl

pub at_numbers : (n m : ℕ) → place_at n m 1 ≡ numbers
unfolding place_at
at_numbers n m = refl

pub at_client : (n m j : ℕ) → j < n → place_at n m (2 + j) ≡ key_of_client j
unfolding place_at
at_client n m j below = grind (arith, nat_tests)

pub at_server : (n m j : ℕ) → j < m → place_at n m (2 + n + j) ≡ key_of_server j
unfolding place_at
at_server n m j below = grind (arith, nat_tests)

pub at_slot : (n m j : ℕ) → j < n → place_at n m (2 + n + m + j) ≡ key_of_slot j
unfolding place_at
at_slot n m j below = grind (arith, nat_tests)

pub at_seal : (n m j : ℕ) → j < n * m → place_at n m (seals_at n m + j) ≡ seal_of (j / m) (j % m)
unfolding place_at
at_seal n m j below = grind (arith, nat_tests)

pub at_corrupt : (n m : ℕ) → place_at n m (last_at n m) ≡ corrupt
unfolding place_at
at_corrupt n m = grind (arith, nat_tests)

-- each line below a place is the one of its place
abbrev pub RightBelow : List ReportLine → ℕ → Type 0
RightBelow ls s = (k : ℕ) → k < s → IsRightAt ls k

there : (ls : List ReportLine) (k : ℕ) (place : Place) → Tells place (slice_get ls k) → k < length ls
there [] k place h = absurd h
there (l ∷ ls) zero place h = omega arith
there (l ∷ ls) (suc k) place h = omega (arith, there ls k place h)

pub right_within : (ls : List ReportLine) (s : ℕ) → RightBelow ls s → s ≤ length ls
right_within ls zero right = omega arith
right_within ls (suc k) right = omega (arith, there ls k (place_at (clients_of ls) (servers_of ls) k) (right k (omega arith)))

pub extend : (place : ℕ → Place) (ls : List ReportLine) (s count : ℕ) → RightBelow ls s → Holds place ls s count
    → ((j : ℕ) → j < count → place_at (clients_of ls) (servers_of ls) (s + j) ≡ place j) → RightBelow ls (s + count)
extend place ls s count right holds places k below =
    elim (cases_lt k s) [
      | inl before ↦ right k before
      | inr behind ↦
          let at : s + (k - s) ≡ k = omega arith in
          let few : k - s < count = omega arith in
          subst (λ (q : ℕ). IsRightAt ls q) at
          (subst (λ (p : Place). Tells p (slice_get ls (s + (k - s)))) (sym (places (k - s) few)) (holds (k - s) few))
    ]

-- one line more
pub extend_one : (place : Place) (ls : List ReportLine) (s : ℕ) → RightBelow ls s → Tells place (slice_get ls s) → place_at (clients_of ls) (servers_of ls) s ≡ place
    → RightBelow ls (s + 1)
extend_one place ls s right tells is k below =
    elim (cases_lt k s) [
      | inl before ↦ right k before
      | inr behind ↦
          let at : s ≡ k = omega arith in
          subst (λ (q : ℕ). IsRightAt ls q) at (subst (λ (p : Place). Tells p (slice_get ls s)) (sym is) tells)
    ]

pub wrong_one : (place : Place) (ls : List ReportLine) (s : ℕ) → RightBelow ls s → (Tells place (slice_get ls s) → ⊥) → place_at (clients_of ls) (servers_of ls) s ≡ place
    → s ≤ last_at (clients_of ls) (servers_of ls) → IsFirstWrong ls s
wrong_one place ls s right wrong is within = record {
  right = right;
  wrong = λ h. wrong (subst (λ (p : Place). Tells p (slice_get ls s)) is h);
  there = right_within ls s right;
  within = within;
}

-- the first line of a part that isn't the one of its place
pub wrong_in : (place : ℕ → Place) (ls : List ReportLine) (s count : ℕ) (stop : Stop) → RightBelow ls s → StopsAmong place ls s count stop
    → ((j : ℕ) → j < count → place_at (clients_of ls) (servers_of ls) (s + j) ≡ place j) → s + count ≤ last_at (clients_of ls) (servers_of ls)
    → StopsInHeader ls stop
wrong_in place ls s count NoMemory right stops places within = tt
wrong_in place ls s count (Broken at rule) right stops places within =
    let f = stops.1 in
    let before : RightBelow ls (s + f.k) = extend place ls s f.k right f.before (λ j few. places j (omega (arith, f.below))) in
    (stops.0, subst (IsFirstWrong ls) (sym f.is) (wrong_one (place f.k) ls (s + f.k) before f.wrong (places f.k f.below) (omega (arith, within, f.below))))

-- the bytes of one line more
pub bytes-more : (ls : List ReportLine) (first i : ℕ) (found : List (List ℕ)) (key : List ℕ) → found ≡ bytes_from ls first i → key ≡ bytes_in (slice_get ls (first + i))
    → found ++ key ∷ [] ≡ bytes_from ls first (i + 1)
bytes-more ls first i found key so_far is =
    let f : ℕ → List ℕ = λ k. bytes_in (slice_get ls (first + k)) in
    ap (λ (xs : List (List ℕ)). xs ++ key ∷ []) so_far
    ∙ ap (λ (x : List ℕ). bytes_from ls first i ++ x ∷ []) is
    ∙ sym (map-append f (below i) (i ∷ []))
    ∙ ap (map f) (sym (below_more i))

pub nothing_below : (ls : List ReportLine) → RightBelow ls 0
nothing_below ls k below = absurd (omega arith)

-- the line at a place isn't the one of its place
pub wrong_at : (place : Place) (ls : List ReportLine) (s : ℕ) (stop : Stop) → RightBelow ls s → (stop ≡ Broken s 1) × (Tells place (slice_get ls s) → ⊥)
    → place_at (clients_of ls) (servers_of ls) s ≡ place → s ≤ last_at (clients_of ls) (servers_of ls) → StopsInHeader ls stop
wrong_at place ls s stop right wrong is within =
    let told : StopsInHeader ls (Broken s 1) = (refl, wrong_one place ls s right wrong.1 is within) in
    subst (StopsInHeader ls) (sym wrong.0) told

-- the same, where memory may be wanted too
pub wrong_or : (place : Place) (ls : List ReportLine) (s : ℕ) (stop : Stop) → RightBelow ls s
    → (stop ≡ NoMemory) ⊎ ((stop ≡ Broken s 1) × (Tells place (slice_get ls s) → ⊥)) → place_at (clients_of ls) (servers_of ls) s ≡ place
    → s ≤ last_at (clients_of ls) (servers_of ls) → StopsInHeader ls stop
wrong_or place ls s stop right (inl none) is within = subst (StopsInHeader ls) (sym none) tt
wrong_or place ls s stop right (inr wrong) is within = wrong_at place ls s stop right wrong is within

module _ (ls : List ReportLine) (n m : ℕ) (clients : n ≡ clients_of ls) (servers : m ≡ servers_of ls) where
  -- the places of the parts, where the group has n clients and m servers
  pub places_of_clients : (j : ℕ) → j < n → place_at (clients_of ls) (servers_of ls) (2 + j) ≡ key_of_client j
  places_of_clients j few = at_client (clients_of ls) (servers_of ls) j (omega (arith, few, clients))

  pub places_of_servers : (j : ℕ) → j < m → place_at (clients_of ls) (servers_of ls) (2 + n + j) ≡ key_of_server j
  places_of_servers j few =
      subst (λ (q : ℕ). place_at (clients_of ls) (servers_of ls) (2 + q + j) ≡ key_of_server j) (sym clients)
      (at_server (clients_of ls) (servers_of ls) j (omega (arith, few, servers)))

  pub places_of_slots : (j : ℕ) → j < n → place_at (clients_of ls) (servers_of ls) (2 + n + m + j) ≡ key_of_slot j
  places_of_slots j few =
      subst (λ (q : ℕ). place_at (clients_of ls) (servers_of ls) (2 + q + m + j) ≡ key_of_slot j) (sym clients)
      (subst (λ (r : ℕ). place_at (clients_of ls) (servers_of ls) (2 + clients_of ls + r + j) ≡ key_of_slot j) (sym servers)
      (at_slot (clients_of ls) (servers_of ls) j (omega (arith, few, clients))))

  pub places_of_seals : (j : ℕ) → j < n * m → place_at (clients_of ls) (servers_of ls) (2 + n + m + n + j) ≡ seal_of (j / m) (j % m)
  places_of_seals =
      subst (λ (q : ℕ). (j : ℕ) → j < q * m → place_at (clients_of ls) (servers_of ls) (2 + q + m + q + j) ≡ seal_of (j / m) (j % m)) (sym clients)
      (subst (λ (r : ℕ). (j : ℕ) → j < clients_of ls * r
      → place_at (clients_of ls) (servers_of ls) (2 + clients_of ls + r + clients_of ls + j) ≡ seal_of (j / r) (j % r)) (sym servers)
      (λ j few. at_seal (clients_of ls) (servers_of ls) j few))

  pub place_of_corrupt : place_at (clients_of ls) (servers_of ls) (2 + n + m + n + n * m) ≡ corrupt
  place_of_corrupt =
      subst (λ (q : ℕ). place_at (clients_of ls) (servers_of ls) (2 + q + m + q + q * m) ≡ corrupt) (sym clients)
      (subst (λ (r : ℕ). place_at (clients_of ls) (servers_of ls) (2 + clients_of ls + r + clients_of ls + clients_of ls * r) ≡ corrupt) (sym servers)
      (at_corrupt (clients_of ls) (servers_of ls)))

  -- the last place is that of the line of corrupt members
  pub last_is : 2 + n + m + n + n * m ≡ last_at (clients_of ls) (servers_of ls)
  last_is =
      ap (λ (q : ℕ). 2 + q + m + q + q * m) clients
      ∙ ap (λ (r : ℕ). 2 + clients_of ls + r + clients_of ls + clients_of ls * r) servers

-- the roster of the parts
pub roster_told : (ls : List ReportLine) (version ots client_lms server_lms n m : ℕ) (keys server_keys slots seals : List (List ℕ))
    → version ≡ version_in (slice_get ls 0) → ots ≡ ots_in (slice_get ls 1) → client_lms ≡ client_lms_in (slice_get ls 1)
    → server_lms ≡ server_lms_in (slice_get ls 1) → n ≡ clients_of ls → m ≡ servers_of ls → keys ≡ bytes_from ls 2 n → server_keys ≡ bytes_from ls (2 + n) m
    → slots ≡ bytes_from ls (2 + n + m) n → seals ≡ bytes_from ls (2 + n + m + n) (n * m)
    → record { version = version; ots = ots; client_lms = client_lms; server_lms = server_lms; clients = keys; servers = server_keys; slots = slots; seals = seals }
    ≡ roster_of ls
roster_told ls edition ots client_lms server_lms n m keys server_keys slots seals v o c s clients servers k sk sl se =
    let k' : keys ≡ bytes_from ls 2 (clients_of ls) = k ∙ ap (bytes_from ls 2) clients in
    let sk' : server_keys ≡ bytes_from ls (2 + clients_of ls) (servers_of ls) =
    sk ∙ ap (λ (q : ℕ). bytes_from ls (2 + q) m) clients ∙ ap (bytes_from ls (2 + clients_of ls)) servers in
    let sl' : slots ≡ bytes_from ls (2 + clients_of ls + servers_of ls) (clients_of ls) =
    sl ∙ ap (λ (q : ℕ). bytes_from ls (2 + q + m) q) clients ∙ ap (λ (q : ℕ). bytes_from ls (2 + clients_of ls + q) (clients_of ls)) servers in
    let se' : seals ≡ bytes_from ls (2 + clients_of ls + servers_of ls + clients_of ls) (clients_of ls * servers_of ls) =
    se ∙ ap (λ (q : ℕ). bytes_from ls (2 + q + m + q) (q * m)) clients
    ∙ ap (λ (q : ℕ). bytes_from ls (2 + clients_of ls + q + clients_of ls) (clients_of ls * q)) servers in
    λ i. record {
      version = v i;
      ots = o i;
      client_lms = c i;
      server_lms = s i;
      clients = k' i;
      servers = sk' i;
      slots = sl' i;
      seals = se' i;
    }
