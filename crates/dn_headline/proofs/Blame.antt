-- No honest member is blamed, in a run whose audit is clean.
use Rattle.std.proofs.Common.{◌≡◌, ℕ, ◌<◌, List, [], ◌∷◌, map, length, get_or, refl, sym, ap, subst, ◌∙◌, inl, inr, Bool, true}
use Rattle.std.specs.Prelude.{All, Contains, Some, ◌==◌}
use Rattle.std.proofs.lemmas.Bool.{cases_Bool, eqb-true}
use Rattle.std.proofs.lemmas.Option.{slice_get-get_or, slice_get_within}
use Rattle.std.proofs.lemmas.List.Elements.{All-contains, Contains-append_cases, filter_passes}
use Rattle.dn_wire.specs.declared.ids.ServerId.{ServerId}
use Rattle.dn_wire.specs.declared.ids.ClientId.{ClientId}
use Rattle.dn_wire.specs.declared.ids.Round.{Round}
use Rattle.dn_wire.specs.declared.ids.Member.{Member}
use Rattle.dn_wire.specs.declared.ids.Member.TheVariants as members
use Rattle.dn_wire.specs.declared.ids.SignerId.TheVariants.{Client, Server}
use Rattle.dn_bits.specs.Bits.{bytes_of, xor_bits, sum_bits}
use Rattle.dn_hash.specs.Digests.{seed_commitment_of, cipher_digest_of}
use Rattle.dn_pads.specs.Pads.{keystream_bit}
use Rattle.dn_record_types.specs.declared.body.Body.{Body}
use Rattle.dn_record_types.specs.declared.body.Listed.{Listed}
use Rattle.dn_record_types.specs.declared.shown.ShownCipher.{ShownCipher}
use Rattle.dn_record_types.specs.declared.statement.Statement.{Statement}
use Rattle.dn_record_types.specs.declared.statement.Statement.TheVariants as kinds
use Rattle.dn_layout.specs.Layout.{bits_of}
use Rattle.dn_roster.specs.Roster.{RosterView, key_of, commitment_of}
use Rattle.dn_report.specs.declared.outcome.Outcome.{Outcome}
use Rattle.dn_report.specs.declared.outcome.Outcome.TheVariants as outcomes
use Rattle.dn_report.specs.declared.words.BlameWord.{BlameWord}
use Rattle.dn_report.specs.declared.words.IgnoredWord.TheVariants as ignored
use Rattle.dn_seal.specs.Dealt.{client, server}
use Rattle.dn_seal.specs.Said.{Unseals}
use Rattle.dn_cert.specs.Evidence.{shown_bit}
use Rattle.dn_cert.specs.Signed.{EntryVerifies}
use Rattle.dn_cert.specs.Trim.{given_to}
use Rattle.dn_cert.proofs.Orders.{here, later, nothing, first_or_later, All-from_contains}
use Rattle.dn_cert.proofs.ListLemmas.{Contains-from_map}
use Rattle.dn_server.specs.Justified.{IsOutput, AreOfRows, AreIncluded, pad_with, server_string}
use Rattle.dn_trace.specs.declared.fault.Fault.{Fault}
use Rattle.dn_trace.specs.declared.fault.Fault.TheVariants as faults
use Rattle.dn_trace.specs.Trial.{Heard}
use Rattle.dn_trace.specs.Reasons.{row_of, IsRight}
use Rattle.dn_trace.specs.Verdict.{ServerHas, ClientHas, Has, HasLeast}
use Rattle.dn_trace.specs.Honest.{IsMadeFrom, IsHonestServer as IsHonestAtTrial, AreServersSeeds, AreRevealed, IsHonestClient as IsHonestClientAtTrial}
use Rattle.dn_trace.proofs.HeardLemmas.{shown_given, rebuttal_given}
use Rattle.dn_trace.proofs.HonestServer.{blameless as server_blameless}
use Rattle.dn_trace.proofs.HonestClient.{blameless as client_blameless}
use Rattle.dn_headline.specs.Group.{IsHonestServer, IsHonestClient, clients_of, servers_of, seed_of, is_corrupt}
use Rattle.dn_headline.specs.Run.{RunView}
use Rattle.dn_headline.specs.Spoken.{WasSaid}
use Rattle.dn_headline.specs.Certified.{IsLayoutOf, HasLength}
use Rattle.dn_headline.specs.Strings.{IsSeed, IsCipher}
use Rattle.dn_headline.specs.Strings.IsSeed.{dealt, revealed as seed_revealed}
use Rattle.dn_headline.specs.Strings.IsCipher.{submitted, shown as cipher_shown}
use Rattle.dn_headline.specs.Strings.IsSum.{revealed as sum_revealed, shown as sum_shown}
use Rattle.dn_headline.specs.Clean.{Clean}
use Rattle.dn_headline.specs.Headline.{OnlyCorruptAreBlamed}
use Rattle.dn_headline.specs.Verdict.{word_of, lines_of, IsVerdictOf}
use Rattle.dn_headline.specs.Invariant.{Facts, Invariant, Signs, WasIncluded, FitsInventory, FitsReveal, FitsPadBits, FitsShown, FitsRebuttal, seat_of, course_of}
use Rattle.dn_headline.proofs.Inputs.{one_seed, one_cipher, one_sum}
use Rattle.dn_headline.proofs.Signing.{server_key, client_key, signs_certified, signs_one_body, one_body_lem}
use Rattle.dn_headline.proofs.Listing.{certified_is_justified, contains_place}
use Rattle.dn_headline.proofs.Layouts.{layout_in_run, layouts_are_one, has_output}
use Rattle.dn_headline.proofs.Output.{same_string, pads_are, listed_within}
use Rattle.dn_bits.proofs.TotalLemmas.{sum-joined, length-total}
use Rattle.dn_headline.proofs.Delivery.{said_by_server}
use Rattle.dn_headline.proofs.Hearing.{heard_in_front, heard_is_signed, heard_has_key}

-- ---- the ciphertexts of rows

module _ (b : Body) (n : ℕ) where
  rows_long : (rows : List Listed) (own : List ShownCipher) → AreOfRows (course_of b n) rows own → (c : ShownCipher) → Contains own c → length c.cipher ≡ n
  rows_long [] [] a c h = absurd (nothing c h)
  rows_long [] (s ∷ ss) a c h = absurd a
  rows_long (l ∷ ls) [] a c h = absurd a
  rows_long (l ∷ ls) (s ∷ ss) a c h =
      elim (first_or_later s ss c h) [
        | inl e ↦ ap (λ (x : ShownCipher). length x.cipher) (sym e) ∙ a.0.long
        | inr behind ↦ rows_long ls ss a.1 c behind
      ]

  rows_are : (j : ℕ) (rows : List Listed) (own : List ShownCipher) → AreOfRows (course_of b n) rows own → ((l : Listed) → Contains rows l → l.server ≡ record { 0 = j })
      → map (row_of b.r j) own ≡ rows
  rows_are j [] [] a at = refl
  rows_are j [] (s ∷ ss) a at = absurd a
  rows_are j (l ∷ ls) [] a at = absurd a
  rows_are j (l ∷ ls) (s ∷ ss) a at =
      let i = a.0.client in
      let server = at l (here l ls) in
      let digest : cipher_digest_of b.r.0 s.client.0 (bytes_of s.cipher) ≡ l.digest = (λ t. cipher_digest_of b.r.0 (i t).0 (bytes_of s.cipher)) ∙ sym a.0.digest in
      let first : row_of b.r j s ≡ l = λ t. record { client = i t; server = sym server t; digest = digest t } in
      let rest = rows_are j ls ss a.1 (λ m h. at m (later l ls m h)) in
      λ t. first t ∷ rest t

  module _ (w : RunView) (clean : Clean w) where
    -- two lists of ciphertexts of the run that are those of the rows are one
    own_is_one : (rows : List Listed) (own other : List ShownCipher) → AreOfRows (course_of b n) rows own → AreOfRows (course_of b n) rows other
        → ((c : ShownCipher) → Contains own c → IsCipher w b.r.0 c.client.0 c.cipher) → ((c : ShownCipher) → Contains other c → IsCipher w b.r.0 c.client.0 c.cipher)
        → own ≡ other
    own_is_one [] [] [] a o ia io = refl
    own_is_one [] [] (c ∷ cs) a o ia io = absurd o
    own_is_one [] (c ∷ cs) other a o ia io = absurd a
    own_is_one (l ∷ ls) [] other a o ia io = absurd a
    own_is_one (l ∷ ls) (c ∷ cs) [] a o ia io = absurd o
    own_is_one (l ∷ ls) (c ∷ cs) (d ∷ ds) a o ia io =
        let i : c.client ≡ d.client = a.0.client ∙ sym o.0.client in
        let digest_c : cipher_digest_of b.r.0 c.client.0 (bytes_of c.cipher) ≡ l.digest = ap (λ (k : ClientId). cipher_digest_of b.r.0 k.0 (bytes_of c.cipher)) a.0.client ∙ sym a.0.digest in
        let digest_d : cipher_digest_of b.r.0 c.client.0 (bytes_of d.cipher) ≡ l.digest = ap (λ (k : ClientId). cipher_digest_of b.r.0 k.0 (bytes_of d.cipher)) a.0.client ∙ sym o.0.digest in
        let of_client : IsCipher w b.r.0 c.client.0 d.cipher = subst (λ (k : ClientId). IsCipher w b.r.0 k.0 d.cipher) (sym i) (io d (here d ds)) in
        let same = clean.digests.ciphers b.r.0 c.client.0 b.r.0 c.client.0 c.cipher d.cipher (ia c (here c cs)) of_client (digest_c ∙ sym digest_d) in
        let cipher = same_string c.cipher d.cipher n a.0.long o.0.long (one_cipher b.r.0 c.client.0 (bytes_of c.cipher) (bytes_of d.cipher) same) in
        let rest = own_is_one ls cs ds a.1 o.1 (λ m h. ia m (later c cs m h)) (λ m h. io m (later d ds m h)) in
        λ t. record { client = i t; cipher = cipher t } ∷ rest t

    included_are : (j : ServerId) (rows : List Listed) (own : List ShownCipher) → AreOfRows (course_of b n) rows own → AreIncluded (WasIncluded w j) (course_of b n) rows own
        → (c : ShownCipher) → Contains own c → IsCipher w b.r.0 c.client.0 c.cipher
    included_are j [] [] a t c h = absurd (nothing c h)
    included_are j [] (s ∷ ss) a t c h = absurd a
    included_are j (l ∷ ls) [] a t c h = absurd a
    included_are j (l ∷ ls) (s ∷ ss) a t c h =
        elim (first_or_later s ss c h) [
          | inl e ↦
              let made : IsCipher w b.r.0 l.client.0 s.cipher = submitted (Client l.client) b.r b.prev l.client l.digest s.cipher t.0.1 in
              subst (λ (x : ShownCipher). IsCipher w b.r.0 x.client.0 x.cipher) e (subst (λ (k : ClientId). IsCipher w b.r.0 k.0 s.cipher) (sym a.0.client) made)
          | inr behind ↦ included_are j ls ss a.1 t.1 c behind
        ]

-- the rows that a list gives to a server are of this server
given_rows : (listed : List Listed) (j : ℕ) (l : Listed) → Contains (given_to listed j) l → l.server ≡ record { 0 = j }
given_rows listed j l h =
    let passes = All-contains (λ (l : Listed). (l.server.0 == j) ≡ true) (given_to listed j) l (filter_passes (λ (l : Listed). l.server.0 == j) listed) h in
    let same = eqb-true l.server.0 j passes in
    λ t. record { 0 = same t }

module _ (w : RunView) (f : Facts) (inv : Invariant w f) (clean : Clean w) (r : Round) (k : ℕ) (lines : List Outcome) (v : IsVerdictOf w r k lines) where
  long : HasLength w v.trial.body (bits_of v.trial.layout)
  long = record { layout = v.trial.layout; after = v.layout; bits = refl }

  module _ (j : ServerId) (honest : IsHonestServer w.group j) where
    out : IsOutput (WasSaid w) (WasIncluded w j) (seat_of w.group j) (course_of v.trial.body (bits_of v.trial.layout)) v.trial.body
    out = has_output w f inv clean v.trial.body (bits_of v.trial.layout) j v.full long honest (certified_is_justified w f inv clean v.trial.body j honest v.certified)

    body_is : (e : Body) → Signs f j (kinds.Sign e) → e.r ≡ v.trial.body.r → e ≡ v.trial.body
    body_is e s round = signs_one_body w f inv clean j e v.trial.body honest s (signs_certified w f inv clean v.trial.body j honest v.certified) round

    own_string : List Bool
    own_string = server_string (seat_of w.group j) (course_of v.trial.body (bits_of v.trial.layout)) v.trial.body.listed out.own

    made_from : IsMadeFrom v.trial (λ i. seed_of w.group i j.0) own_string out.own
    unfolding own_string
    made_from =
        let n = bits_of v.trial.layout in
        let listed = v.trial.body.listed in
        let given = given_to listed j.0 in
        let pads = pads_are w.group v.trial.body n j listed (listed_within w f inv clean v.trial.body v.certified) in
        let long_own : length (sum_bits n (map (λ (s : ShownCipher). s.cipher) out.own)) ≡ n =
        length-total n (λ (s : ShownCipher). s.cipher) out.own (rows_long v.trial.body n given out.own out.rows) in
        record {
          sum = sum-joined n (map (λ (l : Listed). pad_with (seat_of w.group j) (course_of v.trial.body n) l.client.0) listed) (map (λ (s : ShownCipher). s.cipher) out.own) long_own
              ∙ (λ t. xor_bits (sum_bits n (pads t)) (sum_bits n (map (λ (s : ShownCipher). s.cipher) out.own)));
        }

    right : IsRight v.trial j.0 own_string out.own
    unfolding own_string
    right =
        let n = bits_of v.trial.layout in
        let given = given_to v.trial.body.listed j.0 in
        record {
          long = All-contains (λ (s : List Bool). length s ≡ n) out.strings own_string out.long (contains_place out.strings j.0 own_string out.itself);
          digest = out.digest j.0 own_string out.itself;
          listed = rows_are v.trial.body n j.0 given out.own out.rows (given_rows v.trial.body.listed j.0);
          ciphers = All-from_contains (λ (c : ShownCipher). length c.cipher ≡ n) out.own (rows_long v.trial.body n given out.own out.rows);
        }

    shows_own : (sum : List Bool) (ciphers : List ShownCipher) → Contains (f.server j).signed (kinds.Shown v.trial.body.r sum ciphers) → (sum ≡ own_string) × (ciphers ≡ out.own)
    unfolding own_string
    shows_own sum ciphers h =
        let n = bits_of v.trial.layout in
        let fits : FitsShown w f j v.trial.body.r sum ciphers = inv.servers.fit j (kinds.Shown v.trial.body.r sum ciphers) honest h in
        let same = body_is fits.of.body fits.of.signed fits.of.round in
        let after = layout_in_run w (f.server j).chain fits.of.body.prev.0 fits.layout (inv.held_is_put.servers j honest) fits.after in
        let layout = layouts_are_one w (one_body_lem w f inv clean) v.trial.body.prev.0 fits.layout v.trial.layout
        (subst (λ (z : Body). IsLayoutOf w z.prev.0 fits.layout) same after) v.layout in
        let bits : bits_of fits.layout ≡ n = ap bits_of layout in
        let rows : AreOfRows (course_of v.trial.body n) (given_to v.trial.body.listed j.0) ciphers =
        subst (λ (m : ℕ). AreOfRows (course_of v.trial.body m) (given_to v.trial.body.listed j.0) ciphers) bits
        (subst (λ (z : Body). AreOfRows (course_of z (bits_of fits.layout)) (given_to z.listed j.0) ciphers) same fits.rows) in
        let said = inv.put_is_signed.said j (kinds.Shown v.trial.body.r sum ciphers) honest h in
        let one = own_is_one v.trial.body n w clean (given_to v.trial.body.listed j.0) ciphers out.own rows out.rows
        (λ c has. cipher_shown j v.trial.body.r sum ciphers c said has)
        (included_are v.trial.body n w clean j (given_to v.trial.body.listed j.0) out.own out.rows out.told) in (
          fits.itself ∙ (λ t. server_string (seat_of w.group j) (course_of (same t) (bits t)) (same t).listed (one t)),
          one,
        )

    pads_true : (pad : List Bool) → Contains (f.server j).signed (kinds.PadBits v.trial.body.r v.trial.k pad)
        → All (λ l. shown_bit pad l.client ≡ keystream_bit (seed_of w.group l.client.0 j.0) v.trial.body.r.0 v.trial.k) v.trial.body.listed
    pads_true pad h =
        let fits : FitsPadBits w f j v.trial.body.r v.trial.k pad =
        inv.servers.fit j (kinds.PadBits v.trial.body.r v.trial.k pad) honest h in
        let same = body_is fits.of.body fits.of.signed fits.of.round in
        All-from_contains (λ l. shown_bit pad l.client ≡ keystream_bit (seed_of w.group l.client.0 j.0) v.trial.body.r.0 v.trial.k) v.trial.body.listed
        (λ l has. fits.listed l (subst (λ (z : Body). Contains z.listed l) (sym same) has))

    honest_at_trial : IsHonestAtTrial v.trial j.0 (λ i. seed_of w.group i j.0) (f.server j).signed
    honest_at_trial = record {
      heard = λ s h. inv.put_is_signed.servers j s honest (heard_is_signed w f inv clean r k lines v (Server j) s (server_key w j honest) h);
      one_per_place = λ s t place hs ht ps pt. inv.servers.one_each j honest place s t hs ht ps pt;
      inventories = λ held h.
          let fits : FitsInventory w f j held = inv.servers.fit j (kinds.Inventory held) honest h in
          subst (λ (z : RosterView). All (EntryVerifies z held.r held.prev) held.entries) (sym v.roster) fits.verify;
      commits = λ s h.
          let fits : FitsReveal w f j v.trial.body.r s = inv.servers.fit j (kinds.Reveal v.trial.body.r s) honest h in
          fits.committed;
      s = own_string;
      held = out.own;
      made = made_from;
      right = right;
      shows = shows_own;
      within = v.within;
      pads = pads_true;
    }

    servers_seeds : AreServersSeeds v.trial j.0 (λ i. seed_of w.group i j.0)
    servers_seeds = record {
      committed = λ i listed.
          let within : i < clients_of w.group = subst (λ (m : ℕ). m < clients_of w.group) listed.2 (listed_within w f inv clean v.trial.body v.certified listed.0 listed.1) in
          subst (λ (z : RosterView). commitment_of z i j.0 ≡ Some (seed_commitment_of i j.0 (seed_of w.group i j.0))) (sym v.roster) (inv.seeds i j.0 within honest.server);
      no_other = λ i q round x seed envelope named heard digest.
          let rebuttal = kinds.Rebuttal round q x seed envelope in
          let front = heard_in_front w f inv (client i) rebuttal (v.heard (client i) rebuttal (rebuttal_given v.trial (client i) round q x seed envelope heard)) in
          let key = heard_has_key w f inv clean r k lines v (client i) rebuttal heard in
          let within : i < clients_of w.group = slice_get_within w.group.roster.clients i key.0 key.1 in
          let said : WasSaid w (client i) rebuttal = elim front.front [
            | inl says ↦ record { put = front.put; there = front.there; says = says }
            | inr sub ↦ absurd sub.1.submission
          ] in
          let of : IsSeed w i j.0 seed = subst (λ (m : ℕ). IsSeed w i m seed) named (seed_revealed (record { 0 = i }) x round q seed envelope said) in
          one_seed i j.0 seed (seed_of w.group i j.0)
          (clean.digests.seeds i j.0 i j.0 seed (seed_of w.group i j.0) of (dealt i j.0 within honest.server) digest);
    }

    are_revealed : AreRevealed v.trial out.strings
    are_revealed = record {
      each = out.each ∙ ap (λ (z : RosterView). length z.servers) (sym v.roster);
      sum = out.sum;
      long = out.long;
      digests = λ x lt.
          let within : x < length out.strings = subst (λ (m : ℕ). x < m) (ap (λ (z : RosterView). length z.servers) v.roster ∙ sym out.each) lt in
          out.digest x (get_or out.strings x []) (slice_get-get_or out.strings x [] within);
      no_other = λ x s ciphers shows digest.
          let of_server : ServerId = record { 0 = x } in
          let said : WasSaid w (Server of_server) (kinds.Shown v.trial.body.r s ciphers) =
          v.heard (server x) (kinds.Shown v.trial.body.r s ciphers) (shown_given v.trial x s ciphers shows) in
          let within : x < length out.strings = subst (λ (m : ℕ). x < m) (sym out.each) (said_by_server w of_server (kinds.Shown v.trial.body.r s ciphers) said) in
          let other = get_or out.strings x [] in
          let revealed = out.revealed x other (slice_get-get_or out.strings x [] within) in
          one_sum v.trial.body.r.0 x (bytes_of s) (bytes_of other)
          (clean.digests.sums v.trial.body.r.0 x v.trial.body.r.0 x s other (sum_shown of_server v.trial.body.r s ciphers said) (sum_revealed of_server v.trial.body.r other revealed) digest);
    }

  only_corrupt_server : (j : ServerId) (fault : Fault) → IsHonestServer w.group j → ¬ ServerHas v.trial j.0 fault
  only_corrupt_server j fault honest =
      server_blameless v.trial j.0 (λ i. seed_of w.group i j.0) (f.server j).signed (honest_at_trial j honest) (out j honest).strings fault (servers_seeds j honest) (are_revealed j honest)

  module _ (i : ClientId) (honest : IsHonestClient w.group i) where
    honest_client_at_trial : IsHonestClientAtTrial v.trial i.0 (λ j. seed_of w.group i.0 j) (f.client i).signed
    honest_client_at_trial = record {
      heard = λ s h. inv.put_is_signed.clients i s honest (heard_is_signed w f inv clean r k lines v (Client i) s (client_key w i honest) h);
      committed = λ j lt.
          let within : j < servers_of w.group = subst (λ (m : ℕ). j < m) (ap (λ (z : RosterView). length z.servers) v.roster) lt in
          subst (λ (z : RosterView). commitment_of z i.0 j ≡ Some (seed_commitment_of i.0 j (seed_of w.group i.0 j))) (sym v.roster) (inv.seeds i.0 j honest.client within);
      submissions = λ q p op n on d od hs ho.
          inv.clients.one_each i q p op n on d od honest hs ho;
      rebuttals = λ q l x seed envelope h.
          let fits : FitsRebuttal w i q l x seed envelope = inv.clients.fit i (kinds.Rebuttal q l x seed envelope) honest h in
          record {
            known = subst (λ (m : ℕ). x.0 < m) (ap (λ (z : RosterView). length z.servers) (sym v.roster)) fits.server;
            own = fits.seed_is;
            bits = fits.bits;
            unseals = subst (λ (z : RosterView). Unseals z envelope (Server x) (kinds.PadBits q l fits.bits)) (sym v.roster) fits.unseals;
            false_bit = fits.differs;
          };
      concedes = λ q l h. inv.clients.fit i (kinds.Concede q l) honest h;
    }

  only_corrupt_client : (i : ClientId) (fault : Fault) → IsHonestClient w.group i → ¬ ClientHas v.trial i.0 fault
  only_corrupt_client i fault honest =
      client_blameless v.trial i.0 (λ j. seed_of w.group i.0 j) (f.client i).signed (honest_client_at_trial i honest) fault

  -- ---- who has a fault is a member

  server_heard : (j : ℕ) (s : Statement) → Heard v.trial (server j) s → j < servers_of w.group
  server_heard j s h = let key = heard_has_key w f inv clean r k lines v (server j) s h in slice_get_within w.group.roster.servers j key.0 key.1

  client_heard : (i : ℕ) (s : Statement) → Heard v.trial (client i) s → i < clients_of w.group
  client_heard i s h = let key = heard_has_key w f inv clean r k lines v (client i) s h in slice_get_within w.group.roster.clients i key.0 key.1

  server_known : (j : ℕ) (fault : Fault) → ServerHas v.trial j fault → j < servers_of w.group
  server_known j faults.Twice has = server_heard j has.one has.makes_one.0
  server_known j faults.Entry has = server_heard j (kinds.Inventory has.held) has.heard
  server_known j faults.Commit has = server_heard j (kinds.Reveal v.trial.body.r has.s) has.revealed
  server_known j faults.Shown has = server_heard j (kinds.Shown v.trial.body.r has.s has.shown) has.shows
  server_known j faults.Sum has = server_heard j (kinds.Shown v.trial.body.r has.s has.shown) has.shows
  server_known j faults.Pad has =
      let good = has.good in
      let one : kinds.Rebuttal good.r good.k good.server good.seed good.envelope ≡ kinds.Rebuttal v.trial.body.r v.trial.k (record { 0 = j }) has.rebuts.seed has.rebuts.envelope =
      sym good.is ∙ has.rebuts.is in
      let same : good.server ≡ record { 0 = j } = cc in
      let known = subst (λ (z : RosterView). key_of z (Server good.server) ≡ Some good.unseals.key) v.roster good.unseals.known in
      subst (λ (x : ServerId). x.0 < servers_of w.group) same (slice_get_within w.group.roster.servers good.server.0 good.unseals.key known)
  server_known j faults.Output has = subst (λ (m : ℕ). j < m) (ap (λ (z : RosterView). length z.servers) v.roster) has.0
  server_known j faults.Double has = absurd has
  server_known j faults.Rebuttal has = absurd has
  server_known j faults.Conceded has = absurd has

  client_known : (i : ℕ) (fault : Fault) → ClientHas v.trial i fault → i < clients_of w.group
  client_known i faults.Twice has = absurd has
  client_known i faults.Entry has = absurd has
  client_known i faults.Commit has = absurd has
  client_known i faults.Shown has = absurd has
  client_known i faults.Sum has = absurd has
  client_known i faults.Pad has = absurd has
  client_known i faults.Output has = absurd has
  client_known i faults.Double has = client_heard i has.one has.submits_one.heard
  client_known i faults.Rebuttal has =
      subst (λ (m : ℕ). m < clients_of w.group) has.challenged.client
      (listed_within w f inv clean v.trial.body v.certified has.challenged.row has.challenged.listed)
  client_known i faults.Conceded has = client_heard i (kinds.Concede v.trial.body.r v.trial.k) has.1

  faulty_is_corrupt : (m : Member) (fault : Fault) → Has v.trial m fault → is_corrupt w.group m ≡ true
  faulty_is_corrupt (members.Server j) fault has =
      elim (cases_Bool (is_corrupt w.group (members.Server j))) [
        | inl corrupt ↦ corrupt
        | inr honest ↦ absurd (only_corrupt_server j fault (record { server = server_known j.0 fault has; honest = honest }) has)
      ]
  faulty_is_corrupt (members.Client i) fault has =
      elim (cases_Bool (is_corrupt w.group (members.Client i))) [
        | inl corrupt ↦ corrupt
        | inr honest ↦ absurd (only_corrupt_client i fault (record { client = client_known i.0 fault has; honest = honest }) has)
      ]

-- a line that blames is of one who is blamed
blamed_of : (blamed : List (Member × Fault)) (silent : List Member) (m : Member) (reason : BlameWord) → Contains (lines_of blamed silent) (outcomes.Blame m reason)
    → (fault : Fault) × Contains blamed (m, fault)
blamed_of blamed silent m reason h =
    let line : Member × Fault → Outcome = λ b. outcomes.Blame b.0 (word_of b.1) in
    elim (Contains-append_cases (map line blamed) (map outcomes.Silent silent) (outcomes.Blame m reason) h) [
      | inl of ↦
          let found = Contains-from_map line blamed (outcomes.Blame m reason) of in
          let same : found.0.0 ≡ m = let e : outcomes.Blame found.0.0 (word_of found.0.1) ≡ outcomes.Blame m reason = found.2 in cc in
          (found.0.1, subst (λ (x : Member). Contains blamed (x, found.0.1)) same found.1)
      | inr of ↦
          let found = Contains-from_map outcomes.Silent silent (outcomes.Blame m reason) of in
          let e : outcomes.Silent found.0 ≡ outcomes.Blame m reason = found.2 in
          absurd cc
    ]

pub only_corrupt_are_blamed_lem : (w : RunView) (f : Facts) → Invariant w f → Clean w → OnlyCorruptAreBlamed w
only_corrupt_are_blamed_lem w f inv clean m reason h =
    let s = h.0 in
    let judge = inv.verdicts.alone s m reason h.1 h.2 in
    elim (inv.verdicts.judged s judge.0 judge.1 h.1 judge.2) [
      | inl none ↦
          let line = subst (λ (os : List Outcome). Contains os (outcomes.Blame m reason)) none h.2 in
          absurd (elim (first_or_later (outcomes.Ignored ignored.None) [] (outcomes.Blame m reason) line) [
            | inl e ↦ absurd cc
            | inr behind ↦ nothing (outcomes.Blame m reason) behind
          ])
      | inr v ↦
          let line = subst (λ (os : List Outcome). Contains os (outcomes.Blame m reason)) v.told h.2 in
          let who = blamed_of v.blamed v.silent m reason line in
          let least = All-contains (λ (b : Member × Fault). HasLeast v.trial b.0 b.1) v.blamed (m, who.0) v.verdict.blames who.1 in
          faulty_is_corrupt w f inv clean judge.0 judge.1 s.outcomes v m who.0 least.has
    ]
