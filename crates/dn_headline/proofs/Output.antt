-- What a certified output is made of.
use Rattle.std.proofs.Common.{◌≡◌, ℕ, zero, suc, ◌+◌, ◌<◌, List, [], ◌∷◌, map, length, get_or, refl, sym, ap, subst, ◌∙◌, arith, inl, inr, Bool}
use Rattle.std.specs.Prelude.{Contains, ◌==◌, slice_get, slice_index_or, Some}
use Rattle.std.specs.List.{range_with_len}
use Rattle.std.proofs.lemmas.Option.{slice_get_within, get_or_from_slice_get}
use Rattle.std.proofs.lemmas.List.Elements.{All-contains}
use Rattle.std.proofs.lemmas.List.FromFn.{length-map-range_with_len, get_or-map-range_with_len}
use Rattle.dn_wire.specs.declared.ids.ServerId.{ServerId}
use Rattle.dn_wire.specs.declared.ids.ClientId.{ClientId}
use Rattle.dn_wire.specs.declared.ids.Member.TheVariants as members
use Rattle.dn_wire.specs.declared.ids.SignerId.TheVariants.{Client, Server}
use Rattle.dn_bits.specs.Bits.{bytes_of, first_bits, xor_bits, sum_bits, zeros, below}
use Rattle.dn_bits.proofs.ByteLemmas.{bits_again}
use Rattle.dn_bits.proofs.WordLemmas.{length-zeros}
use Rattle.dn_bits.proofs.SumLemmas.{xor_assoc, xor_zeros, xor_self, length-xor, twice}
use Rattle.dn_pads.specs.Pads.{pad_of, keystream_bit}
use Rattle.dn_record_types.specs.declared.body.Body.{Body}
use Rattle.dn_record_types.specs.declared.body.Listed.{Listed}
use Rattle.dn_record_types.specs.declared.inventory.Entry.{Entry}
use Rattle.dn_record_types.specs.declared.inventory.Inventory.{Inventory}
use Rattle.dn_record_types.specs.declared.shown.ShownCipher.{ShownCipher}
use Rattle.dn_record_types.specs.declared.statement.Statement.{Statement}
use Rattle.dn_record_types.specs.declared.statement.Statement.TheVariants as kinds
use Rattle.dn_record_types.specs.declared.payload.Payload.TheVariants as payloads
use Rattle.dn_layout.specs.Layout.{bits_of}
use Rattle.dn_seal.specs.Signer.{envelope}
use Rattle.dn_cert.specs.Signed.{EntryVerifies}
use Rattle.dn_cert.specs.Trim.{given_to, IsOfLeast}
use Rattle.dn_cert.proofs.Orders.{here, later}
use Rattle.dn_server.specs.Justified.{IsOutput, AreOfRows, AreIncluded, pad_with, server_string, digest_by}
use Rattle.dn_headline.specs.Group.{GroupView, IsHonestClient, clients_of, servers_of, seed_of, pads_of_client, is_corrupt}
use Rattle.dn_headline.specs.Run.{RunView}
use Rattle.dn_headline.specs.Spoken.{WasSaid, Signed}
use Rattle.dn_headline.specs.Signatures.{SealedIn}
use Rattle.dn_headline.specs.Signatures.SealedIn.{entry}
use Rattle.dn_headline.specs.Signatures.SignedIn.{plain}
use Rattle.dn_headline.specs.Certified.{IsCertified, HasOutput}
use Rattle.dn_headline.specs.Strings.{FitsEntry, FitsDigest, Behind, contribution, contributions, pads_of_server, ciphers_given, deviation}
use Rattle.dn_headline.specs.Strings.IsCipher.{submitted}
use Rattle.dn_headline.specs.Strings.IsSum.{revealed}
use Rattle.dn_headline.specs.Clean.{Clean}
use Rattle.dn_headline.specs.Headline.{OutputIsTheirs, HonestServersAddNothing, HonestClientsAddTheirText}
use Rattle.dn_headline.specs.Invariant.{Facts, Invariant, WasIncluded, FitsSubmission, seat_of, course_of}
use Rattle.dn_headline.proofs.Inputs.{one_cipher, one_sum}
use Rattle.dn_headline.proofs.Signing.{client_key, one_body_lem, carried_is_signed}
use Rattle.dn_headline.proofs.Listing.{certified_is_justified, inventory_from}
use Rattle.dn_headline.proofs.Layouts.{certified_within, layout_in_run, layouts_are_one, has_output}
use Rattle.dn_bits.proofs.TotalLemmas.{total, length-total, total_of_xor, total_swap, sum-joined, kept, total_parts, total_filter}
use Rattle.dn_headline.proofs.Sums.{cancelled}

-- ---- strings

-- two strings of one length with the same bytes are one
pub same_string : (x y : List Bool) (n : ℕ) → length x ≡ n → length y ≡ n → bytes_of x ≡ bytes_of y → x ≡ y
same_string x y n lx ly same = sym (bits_again x n lx) ∙ ap (λ (bytes : List ℕ). first_bits bytes n) same ∙ bits_again y n ly

pub length-pad : (seed : List ℕ) (r n : ℕ) → length (pad_of seed r n) ≡ n
length-pad seed r n = length-map-range_with_len (keystream_bit seed r) 0 n

-- a list is what a function gives of its places
pub list_from : {A : Type 0} (g : ℕ → A) (a : ℕ) (xs : List A) → ((k : ℕ) (x : A) → slice_get xs k ≡ Some x → g (a + k) ≡ x) → xs ≡ map g (range_with_len a (length xs))
list_from g a [] at = refl
list_from {A} g a (x ∷ xs) at =
    let first : g a ≡ x = ap g (omega arith) ∙ at 0 x refl in
    let rest = list_from g (a + 1) xs (λ k y h. ap g (omega arith) ∙ at (suc k) y h) in
    ap (λ (y : A). y ∷ xs) (sym first) ∙ ap (λ (ys : List A). g a ∷ ys) rest

within_from : (a m k x : ℕ) → k < length (range_with_len a m) → get_or (range_with_len a m) k x ≡ x → x < a + m
within_from a zero k x lt is = absurd (omega arith)
within_from a (suc m) zero x lt is = omega (arith, is)
within_from a (suc m) (suc k) x lt is = let rest = within_from (a + 1) m k x (omega arith) is in omega arith

-- the numbers below m are below m
pub below_within : (m x : ℕ) → Contains (below m) x → x < m
below_within m x h = let lt = within_from 0 m h.0 x h.1 h.2 in omega arith

-- what is added to a sum of two and again is gone
undone : (n : ℕ) (p g : List Bool) → length p ≡ n → length g ≡ n → xor_bits (xor_bits (xor_bits p g) p) g ≡ zeros n
undone n p g lp lg = ap (λ (z : List Bool). xor_bits z g) (xor_assoc p g p ∙ twice n p g lp lg) ∙ xor_self g n lg

twice_behind : (n : ℕ) (p q : List Bool) → length p ≡ n → length q ≡ n → xor_bits (xor_bits p q) q ≡ p
twice_behind n p q lp lq = xor_assoc p q q ∙ ap (xor_bits p) (xor_self q n lq) ∙ xor_zeros p n lp

-- ---- the strings behind a body

-- the pads of a server's seat are those of the seeds that it shares
pub pads_are : (g : GroupView) (b : Body) (n : ℕ) (j : ServerId) (rows : List Listed) → ((l : Listed) → Contains rows l → l.client.0 < clients_of g)
    → map (λ l. pad_with (seat_of g j) (course_of b n) l.client.0) rows ≡ map (λ l. pad_of (seed_of g l.client.0 j.0) b.r.0 n) rows
pads_are g b n j [] within = refl
pads_are g b n j (l ∷ ls) within =
    let seed = get_or-map-range_with_len (λ (i : ℕ). seed_of g i j.0) 0 (clients_of g) l.client.0 l.client.0 [] (within l (here l ls)) (omega arith) in
    let rest = pads_are g b n j ls (λ m h. within m (later l ls m h)) in
    λ i. pad_of (seed i) b.r.0 n ∷ rest i

module _ (w : RunView) (clean : Clean w) (b : Body) (n : ℕ) (x : Behind w b n) where
  -- the ciphertext behind an entry is any that fits it
  cipher_is : (l : Listed) (c : List Bool) → Contains b.listed l → FitsEntry w b.r.0 n l c → x.cipher l.client.0 ≡ c
  cipher_is l c there fits =
      elim (x.ciphers l there) [
        | inl has ↦
            same_string (x.cipher l.client.0) c n has.long fits.long
            (one_cipher b.r.0 l.client.0 (bytes_of (x.cipher l.client.0)) (bytes_of c)
            (clean.digests.ciphers b.r.0 l.client.0 b.r.0 l.client.0 (x.cipher l.client.0) c has.of_run fits.of_run (has.hashed ∙ sym fits.hashed)))
        | inr none ↦ absurd (none.0 c fits)
      ]

  length-cipher : (l : Listed) → Contains b.listed l → length (x.cipher l.client.0) ≡ n
  length-cipher l there = elim (x.ciphers l there) [ inl has ↦ has.long | inr none ↦ ap length none.1 ∙ length-zeros n ]

  length-sum : (j : ℕ) → j < servers_of w.group → length (x.sum j) ≡ n
  length-sum j lt = elim (x.sums j lt) [ inl has ↦ has.long | inr none ↦ ap length none.1 ∙ length-zeros n ]

  module _ (j : ServerId) (out : IsOutput (WasSaid w) (WasIncluded w j) (seat_of w.group j) (course_of b n) b) where
    -- the server ciphertext behind a digest is the one that the server revealed
    sum_is : (k : ℕ) (s : List Bool) → slice_get out.strings k ≡ Some s → x.sum k ≡ s
    sum_is k s at =
        let inside : Contains out.strings s = (k, slice_get_within out.strings k s at, get_or_from_slice_get out.strings k s s at) in
        let within : k < servers_of w.group = subst (λ (m : ℕ). k < m) out.each inside.1 in
        let fits : FitsDigest w b.r.0 n k (slice_index_or b.digests k []) s = record {
          of_run = revealed (record { 0 = k }) b.r s (out.revealed k s at);
          long = All-contains (λ (s : List Bool). length s ≡ n) out.strings s out.long inside;
          hashed = sym (get_or_from_slice_get b.digests k (digest_by (course_of b n) k s) [] (out.digest k s at));
        } in
        elim (x.sums k within) [
          | inl has ↦
              same_string (x.sum k) s n has.long fits.long
              (one_sum b.r.0 k (bytes_of (x.sum k)) (bytes_of s)
              (clean.digests.sums b.r.0 k b.r.0 k (x.sum k) s has.of_run fits.of_run (has.hashed ∙ sym fits.hashed)))
          | inr none ↦ absurd (none.0 s fits)
        ]

    out_is : b.out ≡ total n x.sum (below (servers_of w.group))
    out_is =
        out.sum ∙ ap (sum_bits n) (list_from x.sum 0 out.strings (λ k s at. ap x.sum (omega arith) ∙ sum_is k s at)
        ∙ ap (λ (m : ℕ). map x.sum (below m)) out.each)

    -- the ciphertexts that the server holds are those behind the entries
    own_are : (rows : List Listed) (own : List ShownCipher) → AreOfRows (course_of b n) rows own → AreIncluded (WasIncluded w j) (course_of b n) rows own
        → ((l : Listed) → Contains rows l → Contains b.listed l) → map (λ s. s.cipher) own ≡ map (λ l. x.cipher l.client.0) rows
    own_are [] [] rows told inside = refl
    own_are [] (s ∷ ss) rows told inside = absurd rows
    own_are (l ∷ ls) [] rows told inside = absurd rows
    own_are (l ∷ ls) (s ∷ ss) rows told inside =
        let there = inside l (here l ls) in
        let first = cipher_is l s.cipher there
        (record { of_run = submitted (Client l.client) b.r b.prev l.client l.digest s.cipher told.0.1; long = rows.0.long; hashed = sym rows.0.digest }) in
        let rest = own_are ls ss rows.1 told.1 (λ m h. inside m (later l ls m h)) in
        λ i. sym first i ∷ rest i

    -- an honest server's deviation
    deviation_is : ((l : Listed) → Contains b.listed l → l.client.0 < clients_of w.group) → j.0 < servers_of w.group
        → deviation w.group b n x.cipher x.sum j.0 ≡ zeros n
    deviation_is within server =
        let given = given_to b.listed j.0 in
        let inside : (l : Listed) → Contains given l → Contains b.listed l = λ l h. kept (λ l. l.server.0 == j.0) b.listed l h in
        let pads = pads_of_server w.group b n j.0 in
        let held = ciphers_given b n x.cipher j.0 in
        let long_pads : length pads ≡ n = length-total n (λ (l : Listed). pad_of (seed_of w.group l.client.0 j.0) b.r.0 n) b.listed (λ l h. length-pad (seed_of w.group l.client.0 j.0) b.r.0 n) in
        let long_held : length held ≡ n = length-total n (λ (l : Listed). x.cipher l.client.0) given (λ l h. length-cipher l (inside l h)) in
        let own = own_are given out.own out.rows out.told inside in
        let long_own : length (sum_bits n (map (λ (s : ShownCipher). s.cipher) out.own)) ≡ n = ap (λ (z : List (List Bool)). length (sum_bits n z)) own ∙ long_held in
        let whole : x.sum j.0 ≡ xor_bits pads held =
        sum_is j.0 (server_string (seat_of w.group j) (course_of b n) b.listed out.own) out.itself
        ∙ sum-joined n (map (λ (l : Listed). pad_with (seat_of w.group j) (course_of b n) l.client.0) b.listed) (map (λ (s : ShownCipher). s.cipher) out.own) long_own
        ∙ (λ i. xor_bits (sum_bits n (pads_are w.group b n j b.listed within i)) (sum_bits n (own i))) in
        ap (λ (z : List Bool). xor_bits (xor_bits z pads) held) whole ∙ undone n pads held long_pads long_held

module _ (w : RunView) (f : Facts) (inv : Invariant w f) (clean : Clean w) where
  pub listed_within : (b : Body) → IsCertified w b → (l : Listed) → Contains b.listed l → l.client.0 < clients_of w.group
  listed_within b c l there =
      (All-contains (λ (l : Listed). (l.client.0 < clients_of w.group) × (l.server.0 < servers_of w.group)) b.listed l (certified_within w b c).listed there).0

  pub honest_servers_add_nothing_lem : HonestServersAddNothing w
  honest_servers_add_nothing_lem b n x j has honest =
      let just = certified_is_justified w f inv clean b j honest has.certified in
      deviation_is w clean b n x j (has_output w f inv clean b n j has.full has.long honest just) (listed_within b has.certified) honest.server

  served : (b : Body) → IsCertified w b → (l : Listed) → Contains b.listed l → l.server.0 < servers_of w.group
  served b c l there =
      (All-contains (λ (l : Listed). (l.client.0 < clients_of w.group) × (l.server.0 < servers_of w.group)) b.listed l (certified_within w b c).listed there).1

  pub length-deviation : (b : Body) (n : ℕ) (x : Behind w b n) → IsCertified w b → (k : ℕ) → k < servers_of w.group → length (deviation w.group b n x.cipher x.sum k) ≡ n
  length-deviation b n x c k lt =
      let pads = pads_of_server w.group b n k in
      let held = ciphers_given b n x.cipher k in
      let long_pads : length pads ≡ n = length-total n (λ (l : Listed). pad_of (seed_of w.group l.client.0 k) b.r.0 n) b.listed (λ l h. length-pad (seed_of w.group l.client.0 k) b.r.0 n) in
      let long_held : length held ≡ n = length-total n (λ (l : Listed). x.cipher l.client.0) (given_to b.listed k)
      (λ l h. length-cipher w clean b n x l (kept (λ l. l.server.0 == k) b.listed l h)) in
      length-xor (xor_bits (x.sum k) pads) held n (length-xor (x.sum k) pads n (length-sum w clean b n x k lt) long_pads) long_held

  -- each entry of an inventory that was said and verifies for an honest client is a submission that this client signed
  pub entry_is_signed : (x : ServerId) (v : Inventory) (e : Entry) → WasSaid w (Server x) (kinds.Inventory v) → Contains v.entries e
      → EntryVerifies w.group.roster v.r v.prev e → IsHonestClient w.group e.client → Signed w (Client e.client) (kinds.Submission v.r v.prev e.client e.digest)
  entry_is_signed x v e said there verifies honest =
      let opened = said.says.unseals in
      let sealed : SealedIn w.group.roster said.says.envelope (Client e.client) (kinds.Submission v.r v.prev e.client e.digest) =
      entry (envelope (Server x) (kinds.Inventory v) opened.signature) v e (record { fits = opened.fits; spelled = opened.spelled }) refl there verifies in
      carried_is_signed w clean said.put (Client e.client) (kinds.Submission v.r v.prev e.client e.digest) said.there (client_key w e.client honest)
      (record { payload = payloads.Plain said.says.envelope; is = said.says.is; signed = plain said.says.envelope sealed })

  -- an honest client signed the submission of its row
  pub row_is_signed : (b : Body) (l : Listed) → IsCertified w b → Contains b.listed l → IsHonestClient w.group l.client
      → Signed w (Client l.client) (kinds.Submission b.r b.prev l.client l.digest)
  unfolding inventory_from
  row_is_signed b l c there honest =
      let just = certified_is_justified w f inv clean b clean.honest.0 clean.honest.1 c in
      let least = All-contains (IsOfLeast just.inventories) b.listed l just.trim.least there in
      let of = inventory_from w f b clean.honest.0 just l.server least.inventory least.there in
      let e = least.entry.0 in
      let client : e.client ≡ l.client = least.entry.2 in
      let digest : e.digest ≡ l.digest = least.entry.3 in
      let verifies = All-contains (EntryVerifies w.group.roster of.inventory.r of.inventory.prev) of.inventory.entries e of.verify least.entry.1 in
      let signed = entry_is_signed l.server of.inventory e of.said least.entry.1 verifies (subst (IsHonestClient w.group) (sym client) honest) in
      let round = of.round in
      let prev = of.prev in
      let same : kinds.Submission of.inventory.r of.inventory.prev e.client e.digest ≡ kinds.Submission b.r b.prev l.client l.digest =
      λ i. kinds.Submission (round i) (prev i) (client i) (digest i) in
      subst (λ (s : Statement). Signed w (Client l.client) s) same
      (subst (λ (k : ClientId). Signed w (Client k) (kinds.Submission of.inventory.r of.inventory.prev e.client e.digest)) client signed)

  length-pads : (i r n : ℕ) → length (pads_of_client w.group i r n) ≡ n
  length-pads i r n = length-total n (λ j. pad_of (seed_of w.group i j) r n) (below (servers_of w.group)) (λ j h. length-pad (seed_of w.group i j) r n)

  pub length-contribution : (b : Body) (n : ℕ) (x : Behind w b n) (l : Listed) → Contains b.listed l → length (contribution w.group b n x.cipher l.client.0) ≡ n
  length-contribution b n x l there =
      length-xor (x.cipher l.client.0) (pads_of_client w.group l.client.0 b.r.0 n) n (length-cipher w clean b n x l there) (length-pads l.client.0 b.r.0 n)

  pub honest_clients_add_their_text_lem : HonestClientsAddTheirText w
  honest_clients_add_their_text_lem b n x l has there honest =
      let i = l.client in
      let long = has.long in
      let fits : FitsSubmission w f i b.r b.prev i l.digest = inv.clients.fit i (kinds.Submission b.r b.prev i l.digest) honest
      (inv.put_is_signed.clients i (kinds.Submission b.r b.prev i l.digest) honest (row_is_signed b l has.certified there honest)) in
      let same : bits_of fits.layout ≡ n =
      ap bits_of (layouts_are_one w (one_body_lem w f inv clean) b.prev.0 fits.layout long.layout
      (layout_in_run w (f.client i).chain b.prev.0 fits.layout (inv.held_is_put.clients i honest) fits.after) long.after) ∙ sym long.bits in
      let text = fits.made.plain in
      let length-text : length text ≡ n = fits.long ∙ same in
      let pads = pads_of_client w.group i.0 b.r.0 n in
      let made : List Bool = xor_bits text (pads_of_client w.group i.0 b.r.0 (bits_of fits.layout)) in
      let made_is : made ≡ xor_bits text pads = ap (λ (m : ℕ). xor_bits text (pads_of_client w.group i.0 b.r.0 m)) same in
      let length-made : length made ≡ n = ap length made_is ∙ length-xor text pads n length-text (length-pads i.0 b.r.0 n) in
      let cipher = cipher_is w clean b n x l made there
      (record { of_run = submitted (Client i) b.r b.prev i l.digest made fits.submitted; long = length-made; hashed = sym fits.hashed }) in (
        fits.made,
        record {
          of_run = fits.of_run;
          client = fits.is.0;
          round = fits.is.1;
          prev = fits.is.2;
          by_rule = inv.plains.by_rule fits.made fits.of_run (subst (IsHonestClient w.group) (sym fits.is.0) honest);
        },
        ap (λ (z : List Bool). xor_bits z pads) (cipher ∙ made_is) ∙ twice_behind n text pads length-text (length-pads i.0 b.r.0 n),
      )

  -- the contributions and all deviations make the output
  pub output_is_whole : (b : Body) (n : ℕ) (x : Behind w b n) → HasOutput w b n
      → b.out ≡ xor_bits (contributions w.group b n x.cipher) (total n (deviation w.group b n x.cipher x.sum) (below (servers_of w.group)))
  output_is_whole b n x has =
      let c = has.certified in
      let g = w.group in
      let j = clean.honest.0 in
      let just = certified_is_justified w f inv clean b j clean.honest.1 c in
      let out = has_output w f inv clean b n j has.full has.long clean.honest.1 just in
      let servers = below (servers_of g) in
      let cipher_of : Listed → List Bool = λ l. x.cipher l.client.0 in
      let pad_with : Listed → ℕ → List Bool = λ l k. pad_of (seed_of g l.client.0 k) b.r.0 n in
      let ciphers = total n cipher_of b.listed in
      let sums = total n x.sum servers in
      let pads = total n (λ (l : Listed). total n (pad_with l) servers) b.listed in
      let long_ciphers : length ciphers ≡ n = length-total n cipher_of b.listed (λ l h. length-cipher w clean b n x l h) in
      let long_pads : length pads ≡ n = length-total n (λ (l : Listed). total n (pad_with l) servers) b.listed (λ l h. length-pads l.client.0 b.r.0 n) in
      let long_sums : length sums ≡ n = length-total n x.sum servers (λ k h. length-sum w clean b n x k (below_within (servers_of g) k h)) in
      let theirs : contributions g b n x.cipher ≡ xor_bits ciphers pads = total_of_xor n cipher_of (λ (l : Listed). total n (pad_with l) servers) b.listed in
      let parts : total n (ciphers_given b n x.cipher) servers ≡ ciphers =
      total_parts n cipher_of (λ (l : Listed). l.server.0) (servers_of g) b.listed (λ l h. length-cipher w clean b n x l h) (λ l h. served b c l h) in
      let servers_pads : total n (pads_of_server g b n) servers ≡ pads = total_swap n pad_with b.listed servers in
      let deviations : total n (deviation g b n x.cipher x.sum) servers ≡ xor_bits (xor_bits sums pads) ciphers =
      total_of_xor n (λ (k : ℕ). xor_bits (x.sum k) (pads_of_server g b n k)) (ciphers_given b n x.cipher) servers
      ∙ (λ i. xor_bits ((total_of_xor n x.sum (pads_of_server g b n) servers ∙ ap (xor_bits sums) servers_pads) i) (parts i)) in
      out_is w clean b n x j out
      ∙ sym (cancelled n ciphers pads sums long_ciphers long_pads long_sums)
      ∙ sym (λ i. xor_bits (theirs i) (deviations i))

  pub output_is_theirs_lem : OutputIsTheirs w
  output_is_theirs_lem b n x has =
      let g = w.group in
      let of : ℕ → List Bool = deviation g b n x.cipher x.sum in
      let of_server : (k : ℕ) → ServerId = λ k. record { 0 = k } in
      output_is_whole b n x has
      ∙ ap (xor_bits (contributions g b n x.cipher))
      (total_filter n of (λ (k : ℕ). is_corrupt g (members.Server (of_server k))) (below (servers_of g))
      (λ k h. length-deviation b n x has.certified k (below_within (servers_of g) k h))
      (λ k h honest. honest_servers_add_nothing_lem b n x (of_server k) has (record { server = below_within (servers_of g) k h; honest = honest })))
