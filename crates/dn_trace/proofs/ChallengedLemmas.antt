-- Who is challenged, from what all servers opened.
use Rattle.std.proofs.Common.{◌≡◌, ℕ, ◌<◌, Bool, true, false, List, [], ◌∷◌, length, get_or, map, refl, sym, ap, ◌∙◌, subst, arith, inl, inr, Option, Some, None}
use Rattle.std.specs.Prelude.{Contains, slice_get, ◌⊎◌}
use Rattle.std.proofs.lemmas.Bool.{false≢true, cases_eq}
use Rattle.std.proofs.lemmas.List.{length-map, get_or-map, same_lists, get_or_default}
use Rattle.std.proofs.lemmas.List.Elements.{All-contains}
use Rattle.std.proofs.lemmas.Option.{slice_get-get_or, none-some, same_Some}
use Rattle.dn_bits.specs.Bits.{bytes_of}
use Rattle.dn_hash.specs.Digests.{server_digest_of}
use Rattle.dn_record_types.specs.declared.body.Listed.{Listed}
use Rattle.dn_record_types.specs.declared.shown.ShownCipher.{ShownCipher}
use Rattle.dn_layout.specs.Layout.{bits_of}
use Rattle.dn_cert.specs.Evidence.{shown_bit}
use Rattle.dn_cert.specs.Trim.{given_to}
use Rattle.dn_cert.proofs.Parts.{parts_rows}
use Rattle.dn_trace.specs.declared.openings.Opening.{Opening}
use Rattle.dn_bits.specs.XorAll.{xor_all}
use Rattle.dn_trace.specs.Trial.{Trial, CanJudge, servers_of, round_of}
use Rattle.dn_trace.specs.Reasons.{IsRight, Signed, row_of}
use Rattle.dn_trace.specs.Challenged.{NamesNone, IsChallenged}
use Rattle.dn_trace.specs.Evidence.{IsOpening}
use Rattle.dn_trace.specs.Openings.{AreOpenings, Differs}
use Rattle.dn_trace.proofs.OwnLemmas.{one_pad, one_shown}

-- ---- what can be decided

abbrev OneOrOther : {X : Type 0} → X → X → Type 0
OneOrOther x y = (x ≡ y) ⊎ (x ≡ y → ⊥)

head_same : {X : Type 0} (x y : X) (xs ys : List X) → ◌≡◌ {A = List X} (x ∷ xs) (y ∷ ys) → x ≡ y
head_same x y xs ys e = cc

tail_same : {X : Type 0} (x y : X) (xs ys : List X) → ◌≡◌ {A = List X} (x ∷ xs) (y ∷ ys) → xs ≡ ys
tail_same x y xs ys e = cc

decide_list : {X : Type 0} → ((x y : X) → OneOrOther x y) → (xs ys : List X) → OneOrOther xs ys
decide_list decide [] [] = inl refl
decide_list decide [] (y ∷ ys) = inr (λ e. cc)
decide_list decide (x ∷ xs) [] = inr (λ e. cc)
decide_list decide (x ∷ xs) (y ∷ ys) = elim (decide x y) [
  | inl e ↦ elim (decide_list decide xs ys) [
    | inl f ↦ inl (λ i. e i ∷ f i)
    | inr ne ↦ inr (λ f. ne (tail_same x y xs ys f))
  ]
  | inr ne ↦ inr (λ f. ne (head_same x y xs ys f))
]

decide_bit : (x y : Bool) → OneOrOther x y
decide_bit true true = inl refl
decide_bit true false = inr (λ e. false≢true (sym e))
decide_bit false true = inr false≢true
decide_bit false false = inl refl

decide_bytes : (xs ys : List ℕ) → OneOrOther xs ys
decide_bytes xs ys = decide_list cases_eq xs ys

decide_row : (x y : Listed) → OneOrOther x y
decide_row x y = elim (cases_eq x.client.0 y.client.0) [
  | inr ne ↦ inr (λ e. ne (ap (λ z. z.client.0) e))
  | inl a ↦ elim (cases_eq x.server.0 y.server.0) [
    | inr ne ↦ inr (λ e. ne (ap (λ z. z.server.0) e))
    | inl b ↦ elim (decide_bytes x.digest y.digest) [
      | inr ne ↦ inr (λ e. ne (ap (λ z. z.digest) e))
      | inl c ↦ inl (λ i. record { client = record { 0 = a i }; server = record { 0 = b i }; digest = c i })
    ]
  ]
]

decide_shown : (x y : ShownCipher) → OneOrOther x y
decide_shown x y = elim (cases_eq x.client.0 y.client.0) [
  | inr ne ↦ inr (λ e. ne (ap (λ z. z.client.0) e))
  | inl a ↦ elim (decide_list decide_bit x.cipher y.cipher) [
    | inr ne ↦ inr (λ e. ne (ap (λ z. z.cipher) e))
    | inl b ↦ inl (λ i. record { client = record { 0 = a i }; cipher = b i })
  ]
]

surely : {X : Type 0} (x y : X) → OneOrOther x y → ¬ (¬ (x ≡ y)) → x ≡ y
surely x y (inl e) never = e
surely x y (inr ne) never = absurd (never ne)

-- what can't be wrong is right
right_surely : (trial : Trial) (j : ℕ) (s : List Bool) (shown : List ShownCipher) → ¬ (¬ IsRight trial j s shown) → IsRight trial j s shown
right_surely trial j s shown never = record {
  long = surely (length s) (bits_of trial.layout) (cases_eq (length s) (bits_of trial.layout)) (λ ne. never (λ r. ne r.long));
  digest = by (slice_get trial.body.digests j) refl;
  listed = surely (map (row_of (round_of trial) j) shown) (given_to trial.body.listed j) (decide_list decide_row (map (row_of (round_of trial) j) shown) (given_to trial.body.listed j)) (λ ne. never (λ r. ne r.listed));
  ciphers = λ k d lt. surely (length (get_or shown k d).cipher) (bits_of trial.layout) (cases_eq (length (get_or shown k d).cipher) (bits_of trial.layout)) (λ ne. never (λ r. ne (r.ciphers k d lt)));
}
  where
    by : (o : Option (List ℕ)) → slice_get trial.body.digests j ≡ o → slice_get trial.body.digests j ≡ Some (server_digest_of (round_of trial).0 j (bytes_of s))
    by None e = absurd (never (λ r. none-some (server_digest_of (round_of trial).0 j (bytes_of s)) (sym e ∙ r.digest)))
    by (Some x) e = e ∙ ap Some (surely x (server_digest_of (round_of trial).0 j (bytes_of s)) (decide_bytes x (server_digest_of (round_of trial).0 j (bytes_of s)))
        (λ ne. never (λ r. ne (same_Some x (server_digest_of (round_of trial).0 j (bytes_of s)) (sym e ∙ r.digest)))))

map-map : {X Y Z : Type 0} (g : Y → Z) (f : X → Y) (xs : List X) → map g (map f xs) ≡ map (λ x. g (f x)) xs
map-map g f [] = refl
map-map g f (x ∷ xs) = ap (λ l. g (f x) ∷ l) (map-map g f xs)

module _ (trial : Trial) (can : CanJudge trial) (openings : List Opening) (are : AreOpenings trial openings) (named : NamesNone trial) where
  at_place : (j : ℕ) (d : Opening) → j < servers_of trial → IsOpening trial j (get_or openings j d).s.now (get_or openings j d).shown.now (get_or openings j d).pad.now
  at_place j d lt = are.each j (get_or openings j d) (slice_get-get_or openings j d (omega (arith, are.size)))

  pub challenged_from : (i : ℕ) → Differs trial openings i → IsChallenged trial i
  challenged_from i d =
      let j = d.among.0 in
      let o = d.opening in
      let lt : j < servers_of trial = omega (arith, d.among.1, are.size) in
      let opening : IsOpening trial j o.s.now o.shown.now o.pad.now =
      subst (λ (x : Opening). IsOpening trial j x.s.now x.shown.now x.pad.now) d.among.2 (at_place j o lt) in
      let right = right_surely trial j o.s.now o.shown.now (λ wrong. named.shown j record { s = o.s.now; shown = o.shown.now; shows = opening.shows; wrong = wrong }) in
      let row = row_of (round_of trial) j d.cipher in
      let given : Contains (given_to trial.body.listed j) row = subst (λ ls. Contains ls row) right.listed (
        d.shown.0,
        omega (arith, d.shown.1, length-map o.shown.now (row_of (round_of trial) j)),
        get_or-map (row_of (round_of trial) j) o.shown.now d.shown.0 d.cipher row d.shown.1 ∙ ap (row_of (round_of trial) j) d.shown.2,
      ) in
      let listed = All-contains (λ l. Contains trial.body.listed l × (l.server.0 ≡ j)) (given_to trial.body.listed j) row (parts_rows (λ l. l.server.0) trial.body.listed j) given in
      record {
        named = named;
        opened = λ x x_lt. let p = at_place x o x_lt in record {
          s = (get_or openings x o).s.now;
          shown = (get_or openings x o).shown.now;
          shows = p.shows;
          pad = (get_or openings x o).pad.now;
          signed = p.signed;
        };
        row = row;
        listed = listed.0;
        client = d.client;
        s = o.s.now;
        shown = o.shown.now;
        shows = opening.shows;
        cipher = d.cipher;
        among = d.shown;
        of_client = refl;
        pads = map (λ x. x.pad.now) openings;
        signed = record {
          each = length-map openings (λ x. x.pad.now) ∙ are.size;
          signed = λ x x_lt. subst (Signed trial x) (sym (get_or-map (λ (y : Opening). y.pad.now) openings x o [] (omega (arith, are.size)))) (at_place x o x_lt).signed;
        };
        differ = λ e. d.differ (e ∙ ap xor_all (map-map (λ pad. shown_bit pad d.cipher.client) (λ (x : Opening). x.pad.now) openings));
      }

  pub challenged_to : (none : Opening) (i : ℕ) → IsChallenged trial i → Differs trial openings i
  challenged_to none i ch =
      let j = ch.row.server.0 in
      let in_roster = All-contains (λ l. (l.client.0 < length trial.roster.clients) × (l.server.0 < servers_of trial)) trial.body.listed ch.row can.listed ch.listed in
      let lt : j < servers_of trial = in_roster.1 in
      let o = get_or openings j none in
      let opening = at_place j none lt in
      let shown : ch.shown ≡ o.shown.now = surely ch.shown o.shown.now (decide_list decide_shown ch.shown o.shown.now)
      (λ ne. one_shown trial j (named.twice j) ch.s o.s.now ch.shown o.shown.now ch.shows opening.shows (λ both. ne both.1)) in
      let pads_same : ch.pads ≡ map (λ x. x.pad.now) openings = same_lists ch.pads (map (λ x. x.pad.now) openings) (ch.signed.each ∙ sym (length-map openings (λ x. x.pad.now) ∙ are.size))
      (λ x d x_lt.
      let within : x < servers_of trial = omega (arith, ch.signed.each) in
      let inside : x < length openings = omega (arith, are.size) in
      let p = at_place x none within in
      let one : get_or ch.pads x [] ≡ (get_or openings x none).pad.now = surely (get_or ch.pads x []) (get_or openings x none).pad.now (decide_list decide_bit (get_or ch.pads x []) (get_or openings x none).pad.now)
      (λ ne. one_pad trial x (named.twice x) (get_or ch.pads x []) (get_or openings x none).pad.now (ch.signed.signed x within) p.signed ne) in
      get_or_default ch.pads x d [] x_lt ∙ one ∙ sym (get_or-map (λ (y : Opening). y.pad.now) openings x none d inside)) in
      let clients : ch.cipher.client ≡ ch.row.client = ch.of_client in
      record {
        opening = o;
        among = (j, omega (arith, are.size), get_or_default openings j o none (omega (arith, are.size)));
        cipher = ch.cipher;
        shown = subst (λ l. Contains l ch.cipher) shown ch.among;
        client = ap (λ x. x.0) clients ∙ ch.client;
        differ = λ e. ch.differ (e ∙ (λ t. xor_all (map (λ (o' : Opening). shown_bit o'.pad.now (clients t)) openings))
            ∙ sym (ap xor_all (map-map (λ pad. shown_bit pad ch.row.client) (λ (x : Opening). x.pad.now) openings))
            ∙ ap (λ l. xor_all (map (λ pad. shown_bit pad ch.row.client) l)) (sym pads_same));
      }

pub some_opening : (openings : List Opening) → 0 < length openings → Opening
some_opening [] lt = absurd (omega arith)
some_opening (x ∷ xs) lt = x
