-- What a core signed in the round that it opened last fits the run.
use Rattle.std.proofs.Common.{◌≡◌, ◌≢◌, ℕ, ◌<◌, ◌≤◌, List, [], ◌∷◌, length, refl, sym, ap, subst, ◌∙◌, arith, inl, inr, Bool, true, false, cond}
use Rattle.std.specs.Prelude.{All, Contains, slice_index_or, Option, Some, None, slice_get, ◌==◌, option_map}
use Rattle.std.specs.List.{list_any}
use Rattle.std.proofs.lemmas.Bool.{cases_lt, and_parts, or_left, or_right, or_from, eqb-true, eq-eqb, ne_eqb}
use Rattle.std.proofs.lemmas.Option.{same_Some}
use Rattle.std.proofs.lemmas.List.{get_or_past}
use Rattle.std.proofs.lemmas.List.Elements.{All-contains, All-weaker}
use Rattle.std.proofs.lemmas.List.FromFn.{length-map-range_with_len, get_or-map-range_with_len}
use Rattle.dn_wire.specs.declared.ids.ClientId.{ClientId}
use Rattle.dn_wire.specs.declared.ids.ServerId.{ServerId}
use Rattle.dn_wire.specs.declared.ids.Round.{Round}
use Rattle.dn_wire.specs.declared.ids.SignerId.{SignerId}
use Rattle.dn_wire.specs.declared.ids.SignerId.TheVariants as signers
use Rattle.dn_hash.specs.Digests.{server_digest_of}
use Rattle.dn_bits.specs.Bits.{bit, bytes_of}
use Rattle.dn_pads.specs.Pads.{keystream_bit}
use Rattle.dn_record_types.specs.declared.body.Body.{Body}
use Rattle.dn_record_types.specs.declared.body.Listed.{Listed}
use Rattle.dn_record_types.specs.declared.shown.ShownCipher.{ShownCipher}
use Rattle.dn_record_types.specs.declared.inventory.Inventory.{Inventory}
use Rattle.dn_record_types.specs.declared.statement.Statement.{Statement}
use Rattle.dn_record_types.specs.declared.statement.Statement.TheVariants as kinds
use Rattle.dn_record_types.specs.declared.statement.WordTold.{WordTold}
use Rattle.dn_record_types.specs.declared.statement.WordTold.TheVariants as words
use Rattle.dn_records.specs.Records.{kind_byte}
use Rattle.dn_layout.specs.Layout.{bits_of}
use Rattle.dn_seal.specs.Dealt.{server}
use Rattle.dn_seal.specs.Said.{SaidView}
use Rattle.dn_cert.specs.Chain.{ChainView, bodies, IsLayoutAfter, count_at}
use Rattle.dn_cert.proofs.Orders.{here, later, nothing, first_or_later}
use Rattle.dn_server.specs.declared.past.Past.{Past}
use Rattle.dn_server.specs.Justified.{Seat, Justified, AreInventories, AreOfRows, server_string, digest_by}
use Rattle.dn_cert.specs.Trim.{given_to}
use Rattle.dn_server.specs.Server.{ServerView, is_server, is_of, kept_of, statement_of, WasIncluded as WasClaimed}
use Rattle.dn_openings.specs.Accusing.{lists, HasSigned as CoreHasSigned}
use Rattle.dn_exchange.specs.Closing.{inventory_of}
use Rattle.dn_links.proofs.Entries.{entry_in, claim_of}
use Rattle.dn_exchange.specs.Disciplined.{IsSaidBy, AreGood, IsFullPast, IsPastAs, Disciplined}
use Rattle.dn_headline.proofs.Justifying.{justified_grows}
use Rattle.dn_headline.specs.Group.{clients_of, servers_of, seed_of}
use Rattle.dn_headline.specs.Run.{RunView}
use Rattle.dn_headline.specs.Spoken.{WasSaid, WasSubmitted}
use Rattle.dn_headline.specs.Certified.{IsCertified}
use Rattle.dn_headline.specs.Submissions.{WasTold}
use Rattle.dn_headline.specs.Invariant.{Facts, ServerFacts, Signs, WasIncluded, IsJustified, FitsReceipt, FitsInventory, IsFull, FitsReveal, HasSignedBody, FitsPadBits, FitsShown, FitsServer, IsHeldChain, seat_of, course_of, word_of}
use Rattle.dn_links.specs.Link.{facts_of, IsLinked, IsOfRecord}
use Rattle.dn_cert.specs.Signed.{EntryVerifies}
use Rattle.dn_cert.specs.Floor.{is_due_thin}
use Rattle.dn_trace.proofs.HeardLemmas.{found}
use Rattle.dn_headline.proofs.Layouts.{certified_within}

-- ---- what is kept

pub by_server : (j : ℕ) (who : SignerId) → is_server j who ≡ true → who ≡ server j
by_server j (signers.Client i) e = absurd cc
by_server j (signers.Server x) e = let same = eqb-true x.0 j e in λ t. signers.Server (record { 0 = same t })
by_server j (signers.Slot k) e = absurd cc

said_of : (o : Option SaidView) (s : Statement) → option_map (λ (x : SaidView). x.statement) o ≡ Some s → (said : SaidView) × (o ≡ Some said) × (said.statement ≡ s)
said_of None s e = absurd cc
said_of (Some said) s e = (said, refl, same_Some said.statement s e)

pub kept_there : (kept : List SaidView) (kind j : ℕ) (s : Statement) → statement_of kept kind j ≡ Some s
    → (said : SaidView) × Contains kept said × (said.signer ≡ server j) × (said.statement ≡ s)
kept_there kept kind j s e =
    let said = said_of (kept_of kept kind j) s e in
    let there = found (is_of kind j) kept said.0 said.1 in
    let parts = and_parts (is_server j said.0.signer) (kind_byte said.0.statement == kind) there.1 in
    (said.0, there.0, by_server j said.0.signer parts.0, said.2)

-- ---- who is listed

any_listed : (ls : List Listed) (i : ℕ) (l : Listed) → Contains ls l → l.client.0 ≡ i → list_any (λ (l : Listed). l.client.0 == i) ls ≡ true
any_listed [] i l h e = absurd (nothing l h)
any_listed (m ∷ ls) i l h e =
    elim (first_or_later m ls l h) [
      | inl is ↦ or_left (m.client.0 == i) (list_any (λ (l : Listed). l.client.0 == i) ls) (eq-eqb m.client.0 i (ap (λ (x : Listed). x.client.0) is ∙ e))
      | inr behind ↦ or_right (m.client.0 == i) (list_any (λ (l : Listed). l.client.0 == i) ls) (any_listed ls i l behind e)
    ]

none_listed : (ls : List Listed) (i : ℕ) → ((l : Listed) → Contains ls l → l.client.0 ≢ i) → list_any (λ (l : Listed). l.client.0 == i) ls ≡ false
none_listed [] i none = refl
none_listed (m ∷ ls) i none =
    or_from (m.client.0 == i) (list_any (λ (l : Listed). l.client.0 == i) ls) (ne_eqb m.client.0 i (none m (here m ls))) (none_listed ls i (λ l h. none l (later m ls l h)))

-- ---- what is shown

sum_of : Statement → List Bool
sum_of (kinds.Shown r s own) = s
sum_of _ = []

own_of : Statement → List ShownCipher
own_of (kinds.Shown r s own) = own
own_of _ = []

sum_same : (r q : Round) (s t : List Bool) (own other : List ShownCipher) → kinds.Shown r s own ≡ kinds.Shown q t other → s ≡ t
unfolding sum_of
sum_same r q s t own other e = ap sum_of e

own_same : (r q : Round) (s t : List Bool) (own other : List ShownCipher) → kinds.Shown r s own ≡ kinds.Shown q t other → own ≡ other
unfolding own_of
own_same r q s t own other e = ap own_of e

-- ---- what was signed in the record's round

module _ (w : RunView) (f : Facts) (j : ServerId) (c : ServerView) (facts : f.server j ≡ facts_of c) (link : IsLinked w j c) (held : IsHeldChain w c.chain)
    (rules : Disciplined c) where
  signs_it : (s : Statement) → Contains c.signed s → Signs f j s
  signs_it s h = subst (λ (z : ServerFacts). Contains z.signed s) (sym facts) h

  said_in_run : (who : SignerId) (s : Statement) → IsSaidBy c who s → WasSaid w who s
  said_in_run who s h =
      elim h [
        | inl own ↦
            let number : c.seat.number ≡ j.0 = ap (λ (z : Seat). z.number) link.seat in
            subst (λ (z : SignerId). WasSaid w z s) (sym own.0) (subst (λ (n : ℕ). WasSaid w (server n) s) (sym number) (link.signed s own.1))
        | inr other ↦
            let k = other.1 in
            subst (λ (z : SignerId). WasSaid w z s) k.2 (subst (λ (z : Statement). WasSaid w k.0.signer z) k.3 (link.kept k.0 k.1))
      ]

  included_in_run : (s : Statement) (cipher : List Bool) → WasClaimed c.run s cipher → WasIncluded w j s cipher
  included_in_run s cipher h =
      let told = link.claims h.client h.claim h.claimed in
      subst (λ (z : Statement). WasIncluded w j z cipher) (sym h.is) (
        subst (λ (t : WordTold). WasTold w j h.client c.run.r (word_of t)) h.told told.0,
        subst (λ (z : List Bool). WasSubmitted w (signers.Client h.client) (kinds.Submission c.run.r c.run.prev h.client h.claim.digest) z) (sym h.cipher) told.1,
      )

  -- a body of the round
  pub sign_fits : (b : Body) → Contains c.signed (kinds.Sign b) → b.r ≡ c.run.r → IsJustified w f j b
  sign_fits b h round =
      let chain : c.chain ≡ (f.server j).chain = ap (λ (z : ServerFacts). z.chain) (sym facts) in
      subst (λ (z : ChainView). Justified (WasSaid w) (WasIncluded w j) (seat_of w.group j) z b) chain
      (subst (λ (z : Seat). Justified (WasSaid w) (WasIncluded w j) z c.chain b) link.seat
      (justified_grows (IsSaidBy c) (WasSaid w) (WasClaimed c.run) (WasIncluded w j) said_in_run included_in_run c.seat c.chain c.chain b
      (record { layouts = λ r l h. h; counts = λ r l h. refl }) (rules.signs b h round)))

  pub receipt_fits : (i : ClientId) (digest : List ℕ) (word : WordTold) → Contains c.signed (kinds.Receipt c.run.r i digest word) → FitsReceipt w j c.run.r i digest word
  receipt_fits i digest word h =
      let claim = rules.receipts i digest word h in
      let told = link.claims i claim.0 claim.1 in
      record {
        told = subst (λ (t : WordTold). WasTold w j i c.run.r (word_of t)) claim.3 told.0;
        prev = c.run.prev;
        cipher = claim.0.cipher;
        submitted = subst (λ (d : List ℕ). WasSubmitted w (signers.Client i) (kinds.Submission c.run.r c.run.prev i d) claim.0.cipher) claim.2 told.1;
      }

  own_inventory_fits : Contains c.signed (kinds.Inventory (inventory_of c.run)) → FitsInventory w f j (inventory_of c.run)
  own_inventory_fits h =
      let verify = (rules.inventories (inventory_of c.run) h refl).1.verify in
      let above = rules.rounds (kinds.Inventory (inventory_of c.run)) c.run.r h refl in
      record {
        opened = link.opened above.0;
        included = λ i. (
          λ told.
              let claim = link.told i words.Included told in
              let e = entry_in c.run.claims i.0 claim.0 claim.1 claim.2 in
              let client : e.0.client ≡ i = λ t. record { 0 = e.2 t } in
              (e.0.digest, (e.0, e.1, client, refl)),
          λ names.
              let e = names.1 in
              let claim = claim_of c.run.claims e.0 e.1 in
              let number : i.0 ≡ e.0.client.0 = ap (λ (z : ClientId). z.0) (sym e.2) in
              let told = link.claims i claim.0 (ap (slice_get c.run.claims) number ∙ claim.1) in
              subst (λ (t : WordTold). WasTold w j i c.run.r (word_of t)) claim.2 told.0,
        );
        verify = subst (λ (z : Seat). All (EntryVerifies z.roster c.run.r c.run.prev) (inventory_of c.run).entries) link.seat verify;
        receipts = λ e there.
            let claim = claim_of c.run.claims e there in
            let receipt = rules.claims e.client claim.0 claim.1 in
            let digest = claim.3 in
            let told = claim.2 in
            signs_it (kinds.Receipt c.run.r e.client e.digest words.Included)
            (subst (λ (z : Statement). Contains c.signed z) (λ t. kinds.Receipt c.run.r e.client (sym digest t) (told t)) receipt);
      }

  pub inventory_fits : (v : Inventory) → Contains c.signed (kinds.Inventory v) → v.r ≡ c.run.r → FitsInventory w f j v
  inventory_fits v h round =
      let same = (rules.inventories v h round).0 in
      subst (FitsInventory w f j) (sym same) (own_inventory_fits (subst (λ (z : Inventory). Contains c.signed (kinds.Inventory z)) same h))

  pub commit_fits : (digest : List ℕ) → Contains c.signed (kinds.Commit c.run.r digest) → IsFull w f j c.run.r
  commit_fits digest h =
      let above = rules.rounds (kinds.Commit c.run.r digest) c.run.r h refl in
      let by = rules.commits digest h in
      let list = by.listing in
      let course = rules.course above.0 in
      let chain : c.chain ≡ (f.server j).chain = ap (λ (z : ServerFacts). z.chain) (sym facts) in
      let full : is_due_thin w.group.roster.version (length by.listed) (count_at c.chain c.run.prev.0) ≡ false =
      subst (λ (z : Seat). is_due_thin z.roster.version (length by.listed) (count_at c.chain c.run.prev.0) ≡ false) link.seat list.floor in
      record {
        prev = c.run.prev;
        opened = link.opened above.0;
        layout = course.0;
        after = subst (λ (z : ChainView). IsLayoutAfter z c.run.prev.0 course.0) chain course.1;
        inventories = list.inventories;
        listed = by.listed;
        heard = subst (λ (z : Seat). AreInventories (WasSaid w) z (record { r = c.run.r; prev = c.run.prev; bits = bits_of course.0 }) list.inventories) link.seat (record {
          each = list.kept.each;
          said_so = λ x v at.
              let k = kept_there c.run.kept 3 x (kinds.Inventory v) (list.kept.say x v at) in
              subst (λ (z : SignerId). WasSaid w z (kinds.Inventory v)) k.2 (subst (λ (z : Statement). WasSaid w k.0.signer z) k.3 (link.kept k.0 k.1));
          here = All-weaker (AreGood c) (λ (v : Inventory). (v.r ≡ c.run.r) × (v.prev ≡ c.run.prev)) (λ v good. (good.r, good.prev)) list.inventories by.good;
          verify = All-weaker (AreGood c) (λ (v : Inventory). All (EntryVerifies c.seat.roster c.run.r c.run.prev) v.entries) (λ v good. good.verify) list.inventories by.good;
        });
        trim = list.trim;
        full = subst (λ (z : ChainView). is_due_thin w.group.roster.version (length by.listed) (count_at z c.run.prev.0) ≡ false) chain full;
      }

  pub reveal_fits : (s : List Bool) → Contains c.signed (kinds.Reveal c.run.r s) → FitsReveal w f j c.run.r s
  reveal_fits s h =
      let above = rules.rounds (kinds.Reveal c.run.r s) c.run.r h refl in
      let its = rules.reveals_its s h in
      let course = rules.course above.0 in
      let number : c.seat.number ≡ j.0 = ap (λ (z : Seat). z.number) link.seat in
      let chain : c.chain ≡ (f.server j).chain = ap (λ (z : ServerFacts). z.chain) (sym facts) in
      record {
        committed = signs_it (kinds.Commit c.run.r (server_digest_of c.run.r.0 j.0 (bytes_of s)))
            (subst (λ (n : ℕ). Contains c.signed (kinds.Commit c.run.r (server_digest_of c.run.r.0 n (bytes_of s)))) number (rules.reveals c.run.r s h));
        made = subst (λ (z : List Bool). Contains w.sums (record { server = j; r = c.run.r; sum = z })) (sym its.is) (link.made its.sum its.has);
        prev = c.run.prev;
        opened = link.opened above.0;
        layout = course.0;
        after = subst (λ (z : ChainView). IsLayoutAfter z c.run.prev.0 course.0) chain course.1;
        long = its.long ∙ course.2;
      }

  -- the past that a core has of a body is of one that it signed
  past_there : (r : Round) (b : Body) (past : Past) → CoreHasSigned c r b past → Contains c.pasts past
  past_there r b past has = (found (λ (p : Past). p.body.r.0 == r.0) c.pasts past has.kept).0

  signed_body : (r : Round) (b : Body) (past : Past) → CoreHasSigned c r b past → b.thin ≡ false → HasSignedBody w f j r
  signed_body r b past has full = record {
    body = b;
    held = subst (λ (z : ServerFacts). Contains (bodies z.chain) b) (sym facts) has.held;
    round = has.round;
    signed = signs_it (kinds.Sign b)
        (subst (λ (z : Body). Contains c.signed (kinds.Sign z)) has.of_body (rules.past_signed past (past_there r b past has)));
    full = full;
  }

  pub pad_bits_fit : (r : Round) (k : ℕ) (bits : List Bool) → Contains c.signed (kinds.PadBits r k bits) → FitsPadBits w f j r k bits
  unfolding signed_body
  pad_bits_fit r k bits h =
      let opened = rules.pad_bits r k bits h in
      let b = opened.body in
      let round = opened.signed.round in
      let n = length c.seat.roster.clients in
      let at : ℕ → Bool = λ i. cond (lists b i) (keystream_bit (slice_index_or c.seat.seeds i []) b.r.0 k) false in
      let size : n ≡ clients_of w.group = ap (λ (z : Seat). length z.roster.clients) link.seat in
      let long : length bits ≡ n = ap length opened.true_bits ∙ length-map-range_with_len at 0 n in
      let within = certified_within w b (All-contains (IsCertified w) (bodies c.chain) b held.certified opened.signed.held) in
      record {
        of = signed_body r b opened.past opened.signed opened.full;
        within = opened.within;
        each = long ∙ size;
        listed = λ l there.
            let i = l.client.0 in
            let lt : i < clients_of w.group = (All-contains (λ (l : Listed). (l.client.0 < clients_of w.group) × (l.server.0 < servers_of w.group)) b.listed l within.listed there).0 in
            let inside : i < n = omega (arith, lt, size) in
            let seed : slice_index_or c.seat.seeds i [] ≡ seed_of w.group i j.0 =
            ap (λ (z : Seat). slice_index_or z.seeds i []) link.seat
            ∙ get_or-map-range_with_len (λ (x : ℕ). seed_of w.group x j.0) 0 (clients_of w.group) i i [] lt (omega arith) in
            ap (λ (z : List Bool). bit z i) opened.true_bits
            ∙ get_or-map-range_with_len at 0 n i i false inside (omega arith)
            ∙ ap (λ (t : Bool). cond t (keystream_bit (slice_index_or c.seat.seeds i []) b.r.0 k) false) (any_listed b.listed i l there refl)
            ∙ (λ t. keystream_bit (seed t) (round t).0 k);
        others = λ i none.
            let absent : lists b i.0 ≡ false = none_listed b.listed i.0 (λ l there e. none l there (λ t. record { 0 = e t })) in
            elim (cases_lt i.0 n) [
              | inl lt ↦
                  ap (λ (z : List Bool). bit z i.0) opened.true_bits
                  ∙ get_or-map-range_with_len at 0 n i.0 i.0 false lt (omega arith)
                  ∙ ap (λ (t : Bool). cond t (keystream_bit (slice_index_or c.seat.seeds i.0 []) b.r.0 k) false) absent
              | inr past ↦ get_or_past bits i.0 false (omega (arith, long))
            ];
      }

  pub shown_fits : (r : Round) (s : List Bool) (own : List ShownCipher) → Contains c.signed (kinds.Shown r s own) → FitsShown w f j r s own
  unfolding signed_body
  shown_fits r s own h =
      let shown = rules.shown r s own h in
      let b = shown.body in
      let past = shown.past in
      let same = shown.signed.of_body in
      let thin : past.body.thin ≡ false = ap (λ (z : Body). z.thin) same ∙ shown.full in
      let full : IsFullPast c past = subst (λ (t : Bool). IsPastAs t c past) thin (rules.past_are past (past_there r b past shown.signed)) in
      let sum_is : s ≡ past.s = sum_same r past.body.r s past.s own past.own shown.are in
      let own_is : own ≡ past.own = own_same r past.body.r s past.s own past.own shown.are in
      let number : c.seat.number ≡ j.0 = ap (λ (z : Seat). z.number) link.seat in
      let chain : c.chain ≡ (f.server j).chain = ap (λ (z : ServerFacts). z.chain) (sym facts) in
      let rows : AreOfRows (course_of b (bits_of full.layout)) (given_to b.listed j.0) past.own =
      subst (λ (n : ℕ). AreOfRows (course_of b (bits_of full.layout)) (given_to b.listed n) past.own) number
      (subst (λ (z : Body). AreOfRows (course_of z (bits_of full.layout)) (given_to z.listed c.seat.number) past.own) same full.rows) in
      let value : past.s ≡ server_string (seat_of w.group j) (course_of b (bits_of full.layout)) b.listed past.own =
      subst (λ (z : Seat). past.s ≡ server_string z (course_of b (bits_of full.layout)) b.listed past.own) link.seat
      (subst (λ (z : Body). past.s ≡ server_string c.seat (course_of z (bits_of full.layout)) z.listed past.own) same full.value) in
      let digest : slice_get b.digests j.0 ≡ Some (digest_by (course_of b (bits_of full.layout)) j.0 past.s) =
      subst (λ (n : ℕ). slice_get b.digests n ≡ Some (digest_by (course_of b (bits_of full.layout)) n past.s)) number
      (subst (λ (z : Body). slice_get z.digests c.seat.number ≡ Some (digest_by (course_of z (bits_of full.layout)) c.seat.number past.s)) same full.digest) in
      record {
        of = signed_body r b past shown.signed shown.full;
        layout = full.layout;
        after = subst (λ (z : ChainView). IsLayoutAfter z b.prev.0 full.layout) chain (subst (λ (z : Body). IsLayoutAfter c.chain z.prev.0 full.layout) same full.after);
        rows = subst (AreOfRows (course_of b (bits_of full.layout)) (given_to b.listed j.0)) (sym own_is) rows;
        itself = sum_is ∙ value ∙ ap (server_string (seat_of w.group j) (course_of b (bits_of full.layout)) b.listed) (sym own_is);
        digest = digest ∙ ap (λ (z : List Bool). Some (digest_by (course_of b (bits_of full.layout)) j.0 z)) (sym sum_is);
      }

  no_kind : (s : Statement) → Contains c.signed s → (2 ≤ kind_byte s) × (kind_byte s ≤ 8)
  no_kind s h = rules.kinds_of s h

  -- what the core signed in the round that it opened last, and its openings, fit the run
  pub record_fits : (s : Statement) → Contains c.signed s → IsOfRecord c s → FitsServer w f j s
  record_fits (kinds.Submission r prev i digest) h of = let k = no_kind (kinds.Submission r prev i digest) h in absurd (omega (arith, k.0))
  record_fits (kinds.Receipt r i digest word) h of =
      subst (λ (q : Round). FitsReceipt w j q i digest word) (sym of) (receipt_fits i digest word (subst (λ (q : Round). Contains c.signed (kinds.Receipt q i digest word)) of h))
  record_fits (kinds.Inventory v) h of = inventory_fits v h of
  record_fits (kinds.Commit r digest) h of =
      subst (λ (q : Round). IsFull w f j q) (sym of) (commit_fits digest (subst (λ (q : Round). Contains c.signed (kinds.Commit q digest)) of h))
  record_fits (kinds.Reveal r sum) h of =
      subst (λ (q : Round). FitsReveal w f j q sum) (sym of) (reveal_fits sum (subst (λ (q : Round). Contains c.signed (kinds.Reveal q sum)) of h))
  record_fits (kinds.Sign b) h of = sign_fits b h of
  record_fits (kinds.PadBits r k bits) h of = pad_bits_fit r k bits h
  record_fits (kinds.Shown r sum own) h of = shown_fits r sum own h
  record_fits (kinds.Accusation r s k) h of = let n = no_kind (kinds.Accusation r s k) h in absurd (omega (arith, n.1))
  record_fits (kinds.Rebuttal r k x seed envelope) h of = let n = no_kind (kinds.Rebuttal r k x seed envelope) h in absurd (omega (arith, n.1))
  record_fits (kinds.Concede r k) h of = let n = no_kind (kinds.Concede r k) h in absurd (omega (arith, n.1))
