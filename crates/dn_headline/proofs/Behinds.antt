-- Strings stand behind each certified body; and the audit's digests, and its honest server, are decided.
use Rattle.std.proofs.Common.{◌≡◌, ℕ, zero, suc, ◌+◌, ◌<◌, List, [], ◌∷◌, map, length, refl, sym, ap, subst, ◌∙◌, arith, inl, inr, Bool, false}
use Rattle.std.specs.Prelude.{Contains, ◌⊎◌, ◌↔◌, All, slice_index_or}
use Rattle.std.proofs.lemmas.Bool.{cases_lt}
use Rattle.std.proofs.lemmas.List.Elements.{All-contains}
use Rattle.dn_wire.specs.declared.ids.Member.TheVariants as members
use Rattle.dn_bits.specs.Bits.{bytes_of, zeros}
use Rattle.dn_hash.specs.Digests.{seed_commitment_of, cipher_digest_of, server_digest_of}
use Rattle.dn_hash.specs.Inputs.{seed_input, cipher_input, server_input}
use Rattle.dn_record_types.specs.declared.body.Body.{Body}
use Rattle.dn_record_types.specs.declared.body.Listed.{Listed}
use Rattle.dn_record_types.specs.Exact.{IsBytes}
use Rattle.dn_record_types.specs.Lists.{AscendFrom}
use Rattle.dn_cert.proofs.Orders.{here, later, nothing, first_or_later, above_floor}
use Rattle.dn_headline.specs.Group.{servers_of, is_corrupt}
use Rattle.dn_headline.specs.Log.{Put}
use Rattle.dn_headline.specs.Run.{RunView, log}
use Rattle.dn_headline.specs.Certified.{IsCertified}
use Rattle.dn_headline.specs.Strings.{IsCipher, IsSum, FitsEntry, FitsDigest, OneOf, Behind}
use Rattle.dn_headline.specs.Clean.{Clean, SignaturesAreTheirs, DigestsDiffer, SomeServerIsHonest}
use Rattle.dn_headline.specs.Audit.{SeedAt, BitsAt, AreStrings, SeedsDiffer, BitsDiffer, NoneCollide, SignatureAt, AreSignatures, AreTheirs}
use Rattle.dn_headline.specs.Invariant.{Facts, Invariant}
use Rattle.dn_headline.proofs.Listing.{certified_is_justified}
use Rattle.dn_headline.proofs.Deciding.{Decided, decided_both, decided_as, decide_eq, decide_bool, decide_bytes, every_or_one}
use Rattle.dn_headline.proofs.RunStrings.{strings_are}

-- one of a list has it, or none
pub one_or_none : {A : Type 0} (P : A → Type 0) (xs : List A) → ((x : A) → Decided (P x)) → ((x : A) × Contains xs x × P x) ⊎ ((x : A) → Contains xs x → P x → ⊥)
one_or_none P [] each = inr (λ x h p. nothing x h)
one_or_none P (x ∷ xs) each =
    elim (each x) [
      | inl so ↦ inl (x, here x xs, so)
      | inr not_so ↦ elim (one_or_none P xs each) [
        | inl one ↦ inl (one.0, later x xs one.0 one.1, one.2)
        | inr none ↦ inr (λ y h p. elim (first_or_later x xs y h) [ inl is ↦ not_so (subst P (sym is) p) | inr behind ↦ none y behind p ])
      ]
    ]

-- two rows of one client are one
one_row_each : (floor : ℕ) (ls : List Listed) (l m : Listed) → AscendFrom floor (map (λ (l : Listed). l.client) ls) → Contains ls l → Contains ls m
    → l.client.0 ≡ m.client.0 → l ≡ m
one_row_each floor [] l m up a b e = absurd (nothing l a)
one_row_each floor (x ∷ ls) l m up a b e =
    elim (first_or_later x ls l a) [
      | inl is_l ↦ elim (first_or_later x ls m b) [
        | inl is_m ↦ sym is_l ∙ is_m
        | inr behind ↦
            let past = above_floor (λ (l : Listed). l.client) (x.client.0 + 1) ls m up.1 behind in
            let number = ap (λ (l : Listed). l.client.0) is_l in absurd (omega (arith, past, number, e))
      ]
      | inr behind ↦ elim (first_or_later x ls m b) [
        | inl is_m ↦
            let past = above_floor (λ (l : Listed). l.client) (x.client.0 + 1) ls l up.1 behind in
            let number = ap (λ (l : Listed). l.client.0) is_m in absurd (omega (arith, past, number, e))
        | inr other ↦ one_row_each (x.client.0 + 1) ls l m up.1 behind other e
      ]
    ]

module _ (w : RunView) (are : (p : Put) → Contains (log w).puts p → IsBytes p.bytes) (b : Body) (n floor : ℕ)
    (ascends : AscendFrom floor (map (λ (l : Listed). l.client) b.listed)) where
  abbrev seeds : List SeedAt
  seeds = (strings_are w are).0

  abbrev ciphers : List BitsAt
  ciphers = (strings_are w are).1

  abbrev sums : List BitsAt
  sums = (strings_are w are).2

  all : AreStrings w seeds ciphers sums
  all = (strings_are w are).3

  abbrev IsOf : (ℕ → ℕ → List ℕ → List ℕ) → ℕ → List ℕ → BitsAt → Type 0
  IsOf digest_of i digest x = (x.r ≡ b.r.0) × ((x.member ≡ i) × ((length x.bits ≡ n) × (digest_of b.r.0 i (bytes_of x.bits) ≡ digest)))

  decide_of : (digest_of : ℕ → ℕ → List ℕ → List ℕ) (i : ℕ) (digest : List ℕ) (x : BitsAt) → Decided (IsOf digest_of i digest x)
  decide_of digest_of i digest x =
      decided_both (decide_eq x.r b.r.0) (decided_both (decide_eq x.member i) (decided_both (decide_eq (length x.bits) n) (decide_bytes _ _)))

  abbrev bits_at : ℕ → List Bool → BitsAt
  bits_at i y = record { r = b.r.0; member = i; bits = y }

  -- what stands behind a row
  row_string : (l : Listed) → (x : List Bool) × OneOf (FitsEntry w b.r.0 n l) n x
  row_string l =
      elim (one_or_none (IsOf cipher_digest_of l.client.0 l.digest) ciphers (decide_of cipher_digest_of l.client.0 l.digest)) [
        | inl one ↦
            let is = one.2 in
            let of : IsCipher w one.0.r one.0.member one.0.bits = (all.all_ciphers one.0).1 one.1 in (
              one.0.bits,
              inl (record {
                of_run = subst (λ (q : ℕ). IsCipher w q l.client.0 one.0.bits) is.0 (subst (λ (k : ℕ). IsCipher w one.0.r k one.0.bits) is.1.0 of);
                long = is.1.1.0;
                hashed = is.1.1.1;
              }),
            )
        | inr none ↦ (
          zeros n,
          inr (λ y fits. none (bits_at l.client.0 y) ((all.all_ciphers (bits_at l.client.0 y)).0 fits.of_run) (refl, (refl, (fits.long, fits.hashed))), refl),
        )
      ]

  -- what stands behind a server's digest
  sum_string : (j : ℕ) → (x : List Bool) × OneOf (FitsDigest w b.r.0 n j (slice_index_or b.digests j [])) n x
  sum_string j =
      let digest = slice_index_or b.digests j [] in
      elim (one_or_none (IsOf server_digest_of j digest) sums (decide_of server_digest_of j digest)) [
        | inl one ↦
            let is = one.2 in
            let of : IsSum w one.0.r one.0.member one.0.bits = (all.all_sums one.0).1 one.1 in (
              one.0.bits,
              inl (record {
                of_run = subst (λ (q : ℕ). IsSum w q j one.0.bits) is.0 (subst (λ (k : ℕ). IsSum w one.0.r k one.0.bits) is.1.0 of);
                long = is.1.1.0;
                hashed = is.1.1.1;
              }),
            )
        | inr none ↦ (
          zeros n,
          inr (λ y fits. none (bits_at j y) ((all.all_sums (bits_at j y)).0 fits.of_run) (refl, (refl, (fits.long, fits.hashed))), refl),
        )
      ]

  abbrev RowOf : ℕ → Type 0
  RowOf i = ((l : Listed) × Contains b.listed l × (l.client.0 ≡ i)) ⊎ ((l : Listed) → Contains b.listed l → l.client.0 ≡ i → ⊥)

  row_of : (i : ℕ) → RowOf i
  row_of i = one_or_none (λ (l : Listed). l.client.0 ≡ i) b.listed (λ l. decide_eq l.client.0 i)

  cipher_by : (i : ℕ) → RowOf i → List Bool
  cipher_by i (inl l) = (row_string l.0).0
  cipher_by i (inr none) = []

  cipher_fits : (l : Listed) → Contains b.listed l → (o : RowOf l.client.0) → OneOf (FitsEntry w b.r.0 n l) n (cipher_by l.client.0 o)
  unfolding cipher_by
  cipher_fits l there (inl m) =
      let same = one_row_each floor b.listed m.0 l ascends m.1 there m.2 in
      subst (λ (z : Listed). OneOf (FitsEntry w b.r.0 n z) n (row_string m.0).0) same (row_string m.0).1
  cipher_fits l there (inr none) = absurd (none l there refl)

  pub behind : Behind w b n
  behind = record {
    cipher = λ i. cipher_by i (row_of i);
    sum = λ j. (sum_string j).0;
    ciphers = λ l there. cipher_fits l there (row_of l.client.0);
    sums = λ j lt. (sum_string j).1;
  }

pub strings_stand_behind : (w : RunView) (f : Facts) → Invariant w f → Clean w → All (λ p. IsBytes p.bytes) (log w).puts → (b : Body) (n : ℕ) → IsCertified w b → Behind w b n
strings_stand_behind w f inv clean are b n certified =
    behind w (λ p h. All-contains (λ (q : Put). IsBytes q.bytes) (log w).puts p are h) b n 0
    (certified_is_justified w f inv clean b clean.honest.0 clean.honest.1 certified).trim.ascends

-- ---- the audit's digests

module _ (w : RunView) (seeds : List SeedAt) (ciphers sums : List BitsAt) (are : AreStrings w seeds ciphers sums) where
  pub collide_exactly : NoneCollide seeds ciphers sums ↔ DigestsDiffer w
  collide_exactly = (
    λ none. record {
      seeds = λ i j k l x y a b e.
          none.all_seeds (record { client = i; server = j; seed = x }) (record { client = k; server = l; seed = y })
          ((are.all_seeds (record { client = i; server = j; seed = x })).0 a) ((are.all_seeds (record { client = k; server = l; seed = y })).0 b) e;
      ciphers = λ r i q k x y a b e.
          none.all_ciphers (record { r = r; member = i; bits = x }) (record { r = q; member = k; bits = y })
          ((are.all_ciphers (record { r = r; member = i; bits = x })).0 a) ((are.all_ciphers (record { r = q; member = k; bits = y })).0 b) e;
      sums = λ r i q k x y a b e.
          none.all_sums (record { r = r; member = i; bits = x }) (record { r = q; member = k; bits = y })
          ((are.all_sums (record { r = r; member = i; bits = x })).0 a) ((are.all_sums (record { r = q; member = k; bits = y })).0 b) e;
    },
    λ differ. record {
      all_seeds = λ x y a b e. differ.seeds x.client x.server y.client y.server x.seed y.seed ((are.all_seeds x).1 a) ((are.all_seeds y).1 b) e;
      all_ciphers = λ x y a b e. differ.ciphers x.r x.member y.r y.member x.bits y.bits ((are.all_ciphers x).1 a) ((are.all_ciphers y).1 b) e;
      all_sums = λ x y a b e. differ.sums x.r x.member y.r y.member x.bits y.bits ((are.all_sums x).1 a) ((are.all_sums y).1 b) e;
    },
  )

pub decided_if : {P Q : Type 0} → Decided P → Decided Q → Decided (P → Q)
decided_if p (inl q) = inl (λ h. q)
decided_if (inl p) (inr not_so) = inr (λ h. not_so (h p))
decided_if (inr not_so) (inr q) = inl (λ p. absurd (not_so p))

-- of two lists each pair has it, or one pair hasn't
decide_pairs : {A : Type 0} (P : A → A → Type 0) (xs : List A) → ((x y : A) → Decided (P x y)) → Decided ((x y : A) → Contains xs x → Contains xs y → P x y)
decide_pairs {A} P xs each =
    let row : (x : A) → Decided ((y : A) → Contains xs y → P x y) = λ x. elim (every_or_one (P x) xs (each x)) [
      | inl so ↦ inl so
      | inr one ↦ inr (λ h. one.2 (h one.0 one.1))
    ] in
    elim (every_or_one (λ (x : A). (y : A) → Contains xs y → P x y) xs row) [
      | inl so ↦ inl (λ x y a b. so x a y b)
      | inr one ↦ inr (λ h. one.2 (λ y b. h one.0 y one.1 b))
    ]

decide_seeds : (x y : SeedAt) → Decided (SeedsDiffer x y)
decide_seeds x y =
    decided_if (decide_bytes (seed_commitment_of x.client x.server x.seed) (seed_commitment_of y.client y.server y.seed))
    (decide_bytes (seed_input x.client x.server x.seed) (seed_input y.client y.server y.seed))

decide_strings : (digest input : ℕ → ℕ → List ℕ → List ℕ) (x y : BitsAt) → Decided (BitsDiffer digest input x y)
decide_strings digest input x y =
    decided_if (decide_bytes (digest x.r x.member (bytes_of x.bits)) (digest y.r y.member (bytes_of y.bits)))
    (decide_bytes (input x.r x.member (bytes_of x.bits)) (input y.r y.member (bytes_of y.bits)))

pub decide_collisions : (seeds : List SeedAt) (ciphers sums : List BitsAt) → Decided (NoneCollide seeds ciphers sums)
decide_collisions seeds ciphers sums =
    elim (decide_pairs SeedsDiffer seeds decide_seeds) [
      | inr refutes ↦ inr (λ h. refutes h.all_seeds)
      | inl a ↦ elim (decide_pairs (BitsDiffer cipher_digest_of cipher_input) ciphers (decide_strings cipher_digest_of cipher_input)) [
        | inr refutes ↦ inr (λ h. refutes h.all_ciphers)
        | inl b ↦ elim (decide_pairs (BitsDiffer server_digest_of server_input) sums (decide_strings server_digest_of server_input)) [
          | inr refutes ↦ inr (λ h. refutes h.all_sums)
          | inl c ↦ inl (record { all_seeds = a; all_ciphers = b; all_sums = c })
        ]
      ]
    ]

pub decide_digests : (w : RunView) → All (λ p. IsBytes p.bytes) (log w).puts → Decided (DigestsDiffer w)
decide_digests w are =
    let strings = strings_are w (λ p h. All-contains (λ (q : Put). IsBytes q.bytes) (log w).puts p are h) in
    let exactly = collide_exactly w strings.0 strings.1 strings.2 strings.3 in
    decided_as exactly.0 exactly.1 (decide_collisions strings.0 strings.1 strings.2)

-- ---- the honest server

pub decide_some : (P : ℕ → Type 0) (n : ℕ) → ((j : ℕ) → Decided (P j)) → Decided ((j : ℕ) × (j < n) × P j)
decide_some P zero each = inr (λ h. let lt = h.1 in omega arith)
decide_some P (suc n) each =
    elim (each n) [
      | inl so ↦ inl (n, omega arith, so)
      | inr not_so ↦ elim (decide_some P n each) [
        | inl h ↦ let lt = h.1 in inl (h.0, omega arith, h.2)
        | inr none ↦ inr (λ h. elim (cases_lt h.0 n) [
          | inl lt ↦ none (h.0, lt, h.2)
          | inr ge ↦ let lt = h.1 in let at : h.0 ≡ n = omega arith in not_so (subst P at h.2)
        ])
      ]
    ]

pub decide_honest : (w : RunView) → Decided (SomeServerIsHonest w)
decide_honest w =
    decided_as (λ h. (record { 0 = h.0 }, record { server = h.1; honest = h.2 })) (λ s. (s.0.0, s.1.server, s.1.honest))
    (decide_some (λ (j : ℕ). is_corrupt w.group (members.Server (record { 0 = j })) ≡ false) (servers_of w.group)
    (λ j. decide_bool (is_corrupt w.group (members.Server (record { 0 = j }))) false))

-- ---- signatures

pub theirs_exactly : (w : RunView) (xs : List SignatureAt) → AreSignatures w xs → AreTheirs w xs ↔ SignaturesAreTheirs w
theirs_exactly w xs are = (
  λ theirs. λ n put who s at honest has.
      let x : SignatureAt = record { n = n; who = who; statement = s } in
      theirs x ((are x).0 (record { put = put; there = at; has = has })) honest,
  λ signed. λ x there honest. let is = (are x).1 there in signed x.n is.put x.who x.statement is.there honest is.has,
)
