-- The strings of a run are finitely many.
use Rattle.std.proofs.Common.{◌≡◌, ℕ, ◌<◌, List, [], ◌∷◌, ◌++◌, map, refl, sym, ap, subst, ◌∙◌, arith, inl, inr, Bool}
use Rattle.std.specs.Prelude.{Contains, Option, Some, None}
use Rattle.std.proofs.lemmas.List.Elements.{Contains-append_left, Contains-append_right, Contains-append_cases}
use Rattle.std.proofs.lemmas.List.FromFn.{length-range_with_len, get_or-range_with_len}
use Rattle.dn_wire.specs.declared.ids.ClientId.{ClientId}
use Rattle.dn_wire.specs.declared.ids.ServerId.{ServerId}
use Rattle.dn_wire.specs.declared.ids.Round.{Round}
use Rattle.dn_wire.specs.declared.ids.SignerId.{SignerId}
use Rattle.dn_wire.specs.declared.ids.SignerId.TheVariants as signers
use Rattle.dn_bits.specs.Bits.{below}
use Rattle.dn_record_types.specs.declared.shown.ShownCipher.{ShownCipher}
use Rattle.dn_record_types.specs.declared.statement.Statement.{Statement}
use Rattle.dn_record_types.specs.declared.statement.Statement.TheVariants as kinds
use Rattle.dn_record_types.specs.declared.payload.Payload.TheVariants as payloads
use Rattle.dn_record_types.specs.Exact.{IsBytes}
use Rattle.dn_cert.proofs.Orders.{here, nothing, first_or_later}
use Rattle.dn_cert.proofs.ListLemmas.{Contains-map, Contains-from_map}
use Rattle.dn_headline.specs.Group.{clients_of, servers_of, seed_of}
use Rattle.dn_headline.specs.Log.{Put}
use Rattle.dn_headline.specs.Run.{RunView, SumMade, log}
use Rattle.dn_headline.specs.Spoken.{IsPayloadOf, WasSaid, WasSubmitted, IsSubmission}
use Rattle.dn_headline.specs.Strings.{IsSeed, IsCipher, IsSum}
use Rattle.dn_headline.specs.Strings.IsSeed.{dealt, revealed as revealed_seed}
use Rattle.dn_headline.specs.Strings.IsCipher.{submitted, shown as shown_cipher}
use Rattle.dn_headline.specs.Strings.IsSum.{made, revealed, shown}
use Rattle.dn_headline.specs.Audit.{SeedAt, BitsAt, AreStrings}
use Rattle.dn_headline.proofs.Output.{below_within}
use Rattle.dn_headline.proofs.Reading.{Front, ArePutFronts, gather, gathered, gathered_from, fronts_of_puts}

pub below_has : (n i : ℕ) → i < n → Contains (below n) i
below_has n i lt = (i, let long = length-range_with_len 0 n in omega arith, let at = get_or-range_with_len 0 n i i lt in omega (arith, at))

-- ---- what a front gives

abbrev bits_at : ℕ → ℕ → List Bool → BitsAt
bits_at r member bits = record { r = r; member = member; bits = bits }

submitted_in : Round → ClientId → Option (List Bool) → List BitsAt
submitted_in r i (Some c) = bits_at r.0 i.0 c ∷ []
submitted_in r i None = []

shown_in : SignerId → Option (List Bool) → List BitsAt → List BitsAt
shown_in (signers.Server j) None xs = xs
shown_in (signers.Server j) (Some c) xs = []
shown_in (signers.Client i) o xs = []
shown_in (signers.Slot k) o xs = []

ciphers_in : SignerId → Option (List Bool) → Statement → List BitsAt
ciphers_in who o (kinds.Submission r prev i digest) = submitted_in r i o
ciphers_in who o (kinds.Shown r sum xs) = shown_in who o (map (λ (x : ShownCipher). bits_at r.0 x.client.0 x.cipher) xs)
ciphers_in who o _ = []

sum_in : SignerId → Option (List Bool) → Round → List Bool → List BitsAt
sum_in (signers.Server j) None r sum = bits_at r.0 j.0 sum ∷ []
sum_in (signers.Server j) (Some c) r sum = []
sum_in (signers.Client i) o r sum = []
sum_in (signers.Slot k) o r sum = []

sums_in : SignerId → Option (List Bool) → Statement → List BitsAt
sums_in who o (kinds.Reveal r sum) = sum_in who o r sum
sums_in who o (kinds.Shown r sum xs) = sum_in who o r sum
sums_in who o _ = []

seed_in : SignerId → Option (List Bool) → ServerId → List ℕ → List SeedAt
seed_in (signers.Client i) None j seed = record { client = i.0; server = j.0; seed = seed } ∷ []
seed_in (signers.Client i) (Some c) j seed = []
seed_in (signers.Server x) o j seed = []
seed_in (signers.Slot k) o j seed = []

seeds_in : SignerId → Option (List Bool) → Statement → List SeedAt
seeds_in who o (kinds.Rebuttal r k j seed envelope) = seed_in who o j seed
seeds_in who o _ = []

only : {A : Type 0} (x y : A) → Contains (x ∷ []) y → x ≡ y
only x y h = elim (first_or_later x [] y h) [ inl e ↦ e | inr none ↦ absurd (nothing y none) ]

module _ (w : RunView) (are : (p : Put) → Contains (log w).puts p → IsBytes p.bytes) where
  found : (fs : List Front) × ArePutFronts w.group.roster (log w).puts fs
  found = fronts_of_puts w.group.roster (log w).puts are

  abbrev front : SignerId → Statement → Option (List Bool) → Front
  front who s o = record { who = who; statement = s; cipher = o }

  said_front : (who : SignerId) (s : Statement) → WasSaid w who s → Contains found.0 (front who s None)
  said_front who s h =
      found.1.all (front who s None) h.put h.there
      (record { envelope = h.says.envelope; payload = payloads.Plain h.says.envelope; form = inl (refl, refl); is = h.says.is; unseals = h.says.unseals })

  submitted_front : (who : SignerId) (s : Statement) (c : List Bool) → WasSubmitted w who s c → Contains found.0 (front who s (Some c))
  submitted_front who s c h =
      found.1.all (front who s (Some c)) h.put h.there
      (record { envelope = h.submits.envelope; payload = payloads.Submission c h.submits.envelope; form = inr (c, refl, refl); is = h.submits.is; unseals = h.submits.unseals })

  none_is_not : (c : List Bool) → ◌≡◌ {A = Option (List Bool)} None (Some c) → ⊥
  none_is_not c e = absurd cc

  some_is : (c d : List Bool) → ◌≡◌ {A = Option (List Bool)} (Some c) (Some d) → c ≡ d
  some_is c d e = cc

  front_said : (who : SignerId) (s : Statement) → Contains found.0 (front who s None) → WasSaid w who s
  front_said who s h =
      let p = found.1.each (front who s None) h in
      elim p.2.form [
        | inl plain ↦ record {
          put = p.0;
          there = p.1;
          says = record { envelope = p.2.envelope; is = subst (λ z. IsPayloadOf p.0.bytes z) plain.0 p.2.is; unseals = p.2.unseals };
        }
        | inr submits ↦ absurd (none_is_not submits.0 submits.2)
      ]

  front_submitted : (who : SignerId) (s : Statement) (c : List Bool) → IsSubmission s → Contains found.0 (front who s (Some c)) → WasSubmitted w who s c
  front_submitted who s c is h =
      let p = found.1.each (front who s (Some c)) h in
      elim p.2.form [
        | inl plain ↦ absurd (none_is_not c (sym plain.1))
        | inr submits ↦ record {
          put = p.0;
          there = p.1;
          submits = record {
            submission = is;
            envelope = p.2.envelope;
            is = subst (λ z. IsPayloadOf p.0.bytes z) (submits.1 ∙ ap (λ (x : List Bool). payloads.Submission x p.2.envelope) (sym (some_is c submits.0 submits.2))) p.2.is;
            unseals = p.2.unseals;
          };
        }
      ]

  -- ---- ciphertexts

  abbrev ciphers : List BitsAt
  ciphers = gather (λ (f : Front). ciphers_in f.who f.cipher f.statement) found.0

  abbrev IsCipherAt : BitsAt → Type 0
  IsCipherAt x = IsCipher w x.r x.member x.bits

  cipher_there : (r i : ℕ) (c : List Bool) → IsCipher w r i c → Contains ciphers (bits_at r i c)
  unfolding ciphers_in submitted_in shown_in
  cipher_there r i c (submitted who q prev k digest x h) =
      gathered (λ (f : Front). ciphers_in f.who f.cipher f.statement) found.0 (front who (kinds.Submission q prev k digest) (Some x)) (bits_at q.0 k.0 x)
      (submitted_front who (kinds.Submission q prev k digest) x h) (here (bits_at q.0 k.0 x) [])
  cipher_there r i c (shown_cipher j q sum xs x h there) =
      gathered (λ (f : Front). ciphers_in f.who f.cipher f.statement) found.0 (front (signers.Server j) (kinds.Shown q sum xs) None) (bits_at q.0 x.client.0 x.cipher)
      (said_front (signers.Server j) (kinds.Shown q sum xs) h) (Contains-map (λ (x : ShownCipher). bits_at q.0 x.client.0 x.cipher) xs x there)

  submitted_is : (who : SignerId) (r prev : Round) (i : ClientId) (digest : List ℕ) (o : Option (List Bool)) (x : BitsAt)
      → Contains found.0 (front who (kinds.Submission r prev i digest) o) → Contains (submitted_in r i o) x → IsCipherAt x
  unfolding submitted_in
  submitted_is who r prev i digest None x h g = absurd (nothing x g)
  submitted_is who r prev i digest (Some c) x h g =
      subst IsCipherAt (only (bits_at r.0 i.0 c) x g) (submitted who r prev i digest c (front_submitted who (kinds.Submission r prev i digest) c tt h))

  shown_is : (who : SignerId) (r : Round) (sum : List Bool) (xs : List ShownCipher) (o : Option (List Bool)) (x : BitsAt)
      → Contains found.0 (front who (kinds.Shown r sum xs) o) → Contains (shown_in who o (map (λ (x : ShownCipher). bits_at r.0 x.client.0 x.cipher) xs)) x → IsCipherAt x
  unfolding shown_in
  shown_is (signers.Server j) r sum xs None x h g =
      let of = Contains-from_map (λ (x : ShownCipher). bits_at r.0 x.client.0 x.cipher) xs x g in
      subst IsCipherAt of.2 (shown_cipher j r sum xs of.0 (front_said (signers.Server j) (kinds.Shown r sum xs) h) of.1)
  shown_is (signers.Server j) r sum xs (Some c) x h g = absurd (nothing x g)
  shown_is (signers.Client i) r sum xs o x h g = absurd (nothing x g)
  shown_is (signers.Slot k) r sum xs o x h g = absurd (nothing x g)

  cipher_is : (who : SignerId) (o : Option (List Bool)) (s : Statement) (x : BitsAt) → Contains found.0 (front who s o) → Contains (ciphers_in who o s) x → IsCipherAt x
  unfolding ciphers_in
  cipher_is who o (kinds.Submission r prev i digest) x h g = submitted_is who r prev i digest o x h g
  cipher_is who o (kinds.Shown r sum xs) x h g = shown_is who r sum xs o x h g
  cipher_is who o _ x h g = absurd (nothing x g)

  -- ---- server ciphertexts

  abbrev sum_of_made : SumMade → BitsAt
  sum_of_made m = bits_at m.r.0 m.server.0 m.sum

  abbrev sums : List BitsAt
  sums = map sum_of_made w.sums ++ gather (λ (f : Front). sums_in f.who f.cipher f.statement) found.0

  abbrev IsSumAt : BitsAt → Type 0
  IsSumAt x = IsSum w x.r x.member x.bits

  sum_there : (r i : ℕ) (c : List Bool) → IsSum w r i c → Contains sums (bits_at r i c)
  unfolding sums_in sum_in
  sum_there r i c (made m h) =
      Contains-append_left (map sum_of_made w.sums) (gather (λ (f : Front). sums_in f.who f.cipher f.statement) found.0) (sum_of_made m) (Contains-map sum_of_made w.sums m h)
  sum_there r i c (revealed j q sum h) =
      Contains-append_right (map sum_of_made w.sums) (gather (λ (f : Front). sums_in f.who f.cipher f.statement) found.0) (bits_at q.0 j.0 sum)
      (gathered (λ (f : Front). sums_in f.who f.cipher f.statement) found.0 (front (signers.Server j) (kinds.Reveal q sum) None) (bits_at q.0 j.0 sum)
      (said_front (signers.Server j) (kinds.Reveal q sum) h) (here (bits_at q.0 j.0 sum) []))
  sum_there r i c (shown j q sum xs h) =
      Contains-append_right (map sum_of_made w.sums) (gather (λ (f : Front). sums_in f.who f.cipher f.statement) found.0) (bits_at q.0 j.0 sum)
      (gathered (λ (f : Front). sums_in f.who f.cipher f.statement) found.0 (front (signers.Server j) (kinds.Shown q sum xs) None) (bits_at q.0 j.0 sum)
      (said_front (signers.Server j) (kinds.Shown q sum xs) h) (here (bits_at q.0 j.0 sum) []))

  sum_by : (s : Statement) (r : Round) (sum : List Bool) → ((j : ServerId) → Contains found.0 (front (signers.Server j) s None) → IsSumAt (bits_at r.0 j.0 sum))
      → (who : SignerId) (o : Option (List Bool)) (x : BitsAt) → Contains found.0 (front who s o) → Contains (sum_in who o r sum) x → IsSumAt x
  unfolding sum_in
  sum_by s r sum gives (signers.Server j) None x h g = subst IsSumAt (only (bits_at r.0 j.0 sum) x g) (gives j h)
  sum_by s r sum gives (signers.Server j) (Some c) x h g = absurd (nothing x g)
  sum_by s r sum gives (signers.Client i) o x h g = absurd (nothing x g)
  sum_by s r sum gives (signers.Slot k) o x h g = absurd (nothing x g)

  sum_is : (who : SignerId) (o : Option (List Bool)) (s : Statement) (x : BitsAt) → Contains found.0 (front who s o) → Contains (sums_in who o s) x → IsSumAt x
  unfolding sums_in
  sum_is who o (kinds.Reveal r sum) x h g =
      sum_by (kinds.Reveal r sum) r sum (λ j there. revealed j r sum (front_said (signers.Server j) (kinds.Reveal r sum) there)) who o x h g
  sum_is who o (kinds.Shown r sum xs) x h g =
      sum_by (kinds.Shown r sum xs) r sum (λ j there. shown j r sum xs (front_said (signers.Server j) (kinds.Shown r sum xs) there)) who o x h g
  sum_is who o _ x h g = absurd (nothing x g)

  -- ---- seeds

  abbrev seed_at : ℕ → ℕ → List ℕ → SeedAt
  seed_at i j s = record { client = i; server = j; seed = s }

  abbrev dealt_to : ℕ → List SeedAt
  dealt_to i = map (λ (j : ℕ). seed_at i j (seed_of w.group i j)) (below (servers_of w.group))

  abbrev seeds : List SeedAt
  seeds = gather dealt_to (below (clients_of w.group)) ++ gather (λ (f : Front). seeds_in f.who f.cipher f.statement) found.0

  abbrev IsSeedAt : SeedAt → Type 0
  IsSeedAt x = IsSeed w x.client x.server x.seed

  seed_there : (i j : ℕ) (s : List ℕ) → IsSeed w i j s → Contains seeds (seed_at i j s)
  unfolding seeds_in seed_in
  seed_there i j s (dealt a b la lb) =
      Contains-append_left (gather dealt_to (below (clients_of w.group))) (gather (λ (f : Front). seeds_in f.who f.cipher f.statement) found.0) (seed_at a b (seed_of w.group a b))
      (gathered dealt_to (below (clients_of w.group)) a (seed_at a b (seed_of w.group a b)) (below_has (clients_of w.group) a la)
      (Contains-map (λ (j : ℕ). seed_at a j (seed_of w.group a j)) (below (servers_of w.group)) b (below_has (servers_of w.group) b lb)))
  seed_there i j s (revealed_seed a b r k seed envelope h) =
      Contains-append_right (gather dealt_to (below (clients_of w.group))) (gather (λ (f : Front). seeds_in f.who f.cipher f.statement) found.0) (seed_at a.0 b.0 seed)
      (gathered (λ (f : Front). seeds_in f.who f.cipher f.statement) found.0 (front (signers.Client a) (kinds.Rebuttal r k b seed envelope) None) (seed_at a.0 b.0 seed)
      (said_front (signers.Client a) (kinds.Rebuttal r k b seed envelope) h) (here (seed_at a.0 b.0 seed) []))

  seed_by : (r : Round) (k : ℕ) (j : ServerId) (seed envelope : List ℕ) (who : SignerId) (o : Option (List Bool)) (x : SeedAt)
      → Contains found.0 (front who (kinds.Rebuttal r k j seed envelope) o) → Contains (seed_in who o j seed) x → IsSeedAt x
  unfolding seed_in
  seed_by r k j seed envelope (signers.Client i) None x h g =
      subst IsSeedAt (only (seed_at i.0 j.0 seed) x g) (revealed_seed i j r k seed envelope (front_said (signers.Client i) (kinds.Rebuttal r k j seed envelope) h))
  seed_by r k j seed envelope (signers.Client i) (Some c) x h g = absurd (nothing x g)
  seed_by r k j seed envelope (signers.Server y) o x h g = absurd (nothing x g)
  seed_by r k j seed envelope (signers.Slot y) o x h g = absurd (nothing x g)

  seed_is : (who : SignerId) (o : Option (List Bool)) (s : Statement) (x : SeedAt) → Contains found.0 (front who s o) → Contains (seeds_in who o s) x → IsSeedAt x
  unfolding seeds_in
  seed_is who o (kinds.Rebuttal r k j seed envelope) x h g = seed_by r k j seed envelope who o x h g
  seed_is who o _ x h g = absurd (nothing x g)

  pub strings_are : (seeds : List SeedAt) × (ciphers : List BitsAt) × (sums : List BitsAt) × AreStrings w seeds ciphers sums
  strings_are = (
    seeds,
    ciphers,
    sums,
    record {
      all_seeds = λ x. (
        seed_there x.client x.server x.seed,
        λ h. elim (Contains-append_cases (gather dealt_to (below (clients_of w.group))) (gather (λ (f : Front). seeds_in f.who f.cipher f.statement) found.0) x h) [
          | inl a ↦
              let i = gathered_from dealt_to (below (clients_of w.group)) x a in
              let j = Contains-from_map (λ (j : ℕ). seed_at i.0 j (seed_of w.group i.0 j)) (below (servers_of w.group)) x i.2 in
              subst IsSeedAt j.2 (dealt i.0 j.0 (below_within (clients_of w.group) i.0 i.1) (below_within (servers_of w.group) j.0 j.1))
          | inr a ↦
              let f = gathered_from (λ (f : Front). seeds_in f.who f.cipher f.statement) found.0 x a in
              seed_is f.0.who f.0.cipher f.0.statement x f.1 f.2
        ],
      );
      all_ciphers = λ x. (
        cipher_there x.r x.member x.bits,
        λ h. let f = gathered_from (λ (f : Front). ciphers_in f.who f.cipher f.statement) found.0 x h in cipher_is f.0.who f.0.cipher f.0.statement x f.1 f.2,
      );
      all_sums = λ x. (
        sum_there x.r x.member x.bits,
        λ h. elim (Contains-append_cases (map sum_of_made w.sums) (gather (λ (f : Front). sums_in f.who f.cipher f.statement) found.0) x h) [
          | inl a ↦ let m = Contains-from_map sum_of_made w.sums x a in subst IsSumAt m.2 (made m.0 m.1)
          | inr a ↦
              let f = gathered_from (λ (f : Front). sums_in f.who f.cipher f.statement) found.0 x a in
              sum_is f.0.who f.0.cipher f.0.statement x f.1 f.2
        ],
      );
    },
  )
