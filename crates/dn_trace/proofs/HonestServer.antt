-- An honest server has no fault.
use Rattle.std.proofs.Common.{◌≡◌, ℕ, ◌<◌, Bool, false, List, [], ◌∷◌, map, length, get_or, refl, sym, ap, ◌∙◌, subst, arith, inl, inr}
use Rattle.std.specs.Prelude.{All, Some}
use Rattle.std.proofs.lemmas.List.{same_lists, get_or_default}
use Rattle.std.proofs.lemmas.List.Elements.{All-contains, All-map, All-head, All-tail, All-get_or}
use Rattle.std.proofs.lemmas.List.FromFn.{length-map-range_with_len, get_or-map-range_with_len}
use Rattle.std.proofs.lemmas.Option.{same_Some}
use Rattle.dn_wire.specs.declared.ids.SignerId.TheVariants.{Server}
use Rattle.dn_bits.specs.Bits.{xor, bit, bytes_of, first_bits, sum_bits}
use Rattle.dn_bits.proofs.ByteLemmas.{bits_again}
use Rattle.dn_hash.specs.Digests.{seed_commitment_of, server_digest_of}
use Rattle.dn_pads.specs.Pads.{keystream_bit, pad_of}
use Rattle.dn_record_types.specs.Place.{commit_of}
use Rattle.dn_record_types.specs.declared.statement.Statement.{Statement}
use Rattle.dn_record_types.specs.declared.statement.Statement.TheVariants as kinds
use Rattle.dn_layout.specs.Layout.{bits_of}
use Rattle.dn_roster.specs.Roster.{commitment_of}
use Rattle.dn_seal.specs.Dealt.{client, server}
use Rattle.dn_cert.specs.Evidence.{shown_bit}
use Rattle.dn_cert.specs.Signed.{EntryVerifies}
use Rattle.dn_trace.specs.declared.fault.Fault.{Fault}
use Rattle.dn_trace.specs.declared.fault.Fault.TheVariants as faults
use Rattle.dn_bits.specs.XorAll.{xor_all}
use Rattle.dn_trace.specs.Trial.{Trial, Heard, round_of, servers_of}
use Rattle.dn_trace.specs.Reasons.{IsTwice, HasFalseEntry, HasFalseCommit, ShowsWrong, HasFalseSum, IsRebutted, HasFalseOutput, IsRight}
use Rattle.dn_trace.specs.Verdict.{ServerHas}
use Rattle.dn_trace.specs.Honest.{Seeds, IsHonestServer, AreServersSeeds, AreRevealed}
use Rattle.dn_bits.proofs.BitLemmas.{bit-xor, bit-sum, length-sum_all}
use Rattle.dn_trace.proofs.Doubt.{of_all_below}
use Rattle.dn_trace.proofs.HeardLemmas.{first_shows, rebuttal_given}

map-map : {X Y Z : Type 0} (g : Y → Z) (f : X → Y) (xs : List X) → map g (map f xs) ≡ map (λ x. g (f x)) xs
map-map g f [] = refl
map-map g f (x ∷ xs) = ap (λ l. g (f x) ∷ l) (map-map g f xs)

map-same : {X Y : Type 0} (f g : X → Y) (xs : List X) → All (λ x. f x ≡ g x) xs → map f xs ≡ map g xs
map-same f g [] all = refl
map-same f g (x ∷ xs) all =
    let here : f x ≡ g x = All-head (λ y. f y ≡ g y) x xs all in
    let rest = map-same f g xs (All-tail (λ y. f y ≡ g y) x xs all) in
    λ i. here i ∷ rest i

bit-pad_of : (seed : List ℕ) (r n k : ℕ) → k < n → bit (pad_of seed r n) k ≡ keystream_bit seed r k
bit-pad_of seed r n k lt = get_or-map-range_with_len (keystream_bit seed r) 0 n k k false lt (omega arith)

module _ (trial : Trial) (j : ℕ) (seeds : Seeds) (signed : List Statement) (honest : IsHonestServer trial j seeds signed) where
  not_twice : ¬ IsTwice trial j
  not_twice t = t.differ (honest.one_per_place t.one t.other t.place (honest.heard t.one t.makes_one.0) (honest.heard t.other t.makes_other.0) t.makes_one.1 t.makes_other.1)

  no_false_entry : ¬ HasFalseEntry trial j
  no_false_entry f =
      f.unsigned (All-contains (EntryVerifies trial.roster f.held.r f.held.prev) f.held.entries f.entry
      (honest.inventories f.held (honest.heard (kinds.Inventory f.held) f.heard)) f.among)

  no_false_commit : ¬ HasFalseCommit trial j
  no_false_commit f =
      let r = round_of trial in
      let due = server_digest_of r.0 j (bytes_of f.s) in
      let same : kinds.Commit r due ≡ kinds.Commit r f.digest = honest.one_per_place (kinds.Commit r due) (kinds.Commit r f.digest) (commit_of r)
      (honest.commits f.s (honest.heard (kinds.Reveal r f.s) f.revealed)) (honest.heard (kinds.Commit r f.digest) f.told) refl refl in
      f.differ cc

  shows_right : ¬ ShowsWrong trial j
  shows_right w =
      let same = honest.shows w.s w.shown (honest.heard (kinds.Shown (round_of trial) w.s w.shown) w.shows) in
      w.wrong (subst (λ x. IsRight trial j x w.shown) (sym same.0) (subst (IsRight trial j honest.s) (sym same.1) honest.right))

  -- bit k of what the server made is the sum of its pads' bits and its clients' ciphertexts' bits
  made_bit : bit honest.s trial.k
      ≡ xor (xor_all (map (λ l. keystream_bit (seeds l.client.0) (round_of trial).0 trial.k) trial.body.listed)) (xor_all (map (λ c. bit c.cipher trial.k) honest.held))
  made_bit =
      let n = bits_of trial.layout in
      let pads : List (List Bool) = map (λ l. pad_of (seeds l.client.0) (round_of trial).0 n) trial.body.listed in
      let ciphers : List (List Bool) = map (λ c. c.cipher) honest.held in
      let pads_long : All (λ x. length x ≡ n) pads =
      All-map (λ (x : List Bool). length x ≡ n) (λ l. pad_of (seeds l.client.0) (round_of trial).0 n) trial.body.listed
      (λ k d lt. length-map-range_with_len (keystream_bit (seeds (get_or trial.body.listed k d).client.0) (round_of trial).0) 0 n) in
      let ciphers_long : All (λ x. length x ≡ n) ciphers = All-map (λ (x : List Bool). length x ≡ n) (λ c. c.cipher) honest.held honest.right.ciphers in
      let pad_bits : xor_all (map (λ x. bit x trial.k) pads) ≡ xor_all (map (λ l. keystream_bit (seeds l.client.0) (round_of trial).0 trial.k) trial.body.listed) =
      ap xor_all (map-map (λ x. bit x trial.k) (λ l. pad_of (seeds l.client.0) (round_of trial).0 n) trial.body.listed
      ∙ map-same (λ l. bit (pad_of (seeds l.client.0) (round_of trial).0 n) trial.k) (λ l. keystream_bit (seeds l.client.0) (round_of trial).0 trial.k) trial.body.listed
      (λ k d lt. bit-pad_of (seeds (get_or trial.body.listed k d).client.0) (round_of trial).0 n trial.k honest.within)) in
      ap (λ x. bit x trial.k) honest.made.sum
      ∙ bit-xor (sum_bits n pads) (sum_bits n ciphers) trial.k (length-sum_all n pads pads_long ∙ sym (length-sum_all n ciphers ciphers_long))
      ∙ (λ i. xor ((bit-sum n pads trial.k pads_long ∙ pad_bits) i)
      ((bit-sum n ciphers trial.k ciphers_long ∙ ap xor_all (map-map (λ x. bit x trial.k) (λ c. c.cipher) honest.held)) i))

  no_false_sum : ¬ HasFalseSum trial j
  no_false_sum f =
      let same = honest.shows f.s f.shown (honest.heard (kinds.Shown (round_of trial) f.s f.shown) f.shows) in
      let pads = honest.pads f.pad (honest.heard (kinds.PadBits (round_of trial) trial.k f.pad) f.signed) in
      let listed : xor_all (map (λ l. shown_bit f.pad l.client) trial.body.listed) ≡ xor_all (map (λ l. keystream_bit (seeds l.client.0) (round_of trial).0 trial.k) trial.body.listed) =
      ap xor_all (map-same (λ l. shown_bit f.pad l.client) (λ l. keystream_bit (seeds l.client.0) (round_of trial).0 trial.k) trial.body.listed pads) in
      f.differ (ap (λ x. bit x trial.k) same.0 ∙ made_bit ∙ (λ i. xor (sym listed i) (xor_all (map (λ c. bit c.cipher trial.k) (sym same.1 i)))))

  not_rebutted : AreServersSeeds trial j seeds → ¬ IsRebutted trial j
  not_rebutted server_seeds f =
      let good = f.good in
      let rebuts = f.rebuts in
      let i = f.i in
      let one : kinds.Rebuttal good.r good.k good.server good.seed good.envelope ≡ kinds.Rebuttal (round_of trial) trial.k record { 0 = j } rebuts.seed rebuts.envelope = sym good.is ∙ rebuts.is in
      let r_is : good.r ≡ round_of trial = cc in
      let k_is : good.k ≡ trial.k = cc in
      let server_is : good.server ≡ record { 0 = j } = cc in
      let heard : Heard trial (client i) (kinds.Rebuttal good.r good.k good.server good.seed good.envelope) = subst (Heard trial (client i)) good.is rebuts.heard in
      let carried : Heard trial (Server good.server) (kinds.PadBits good.r good.k good.bits) = inr (inl record {
        by = client i;
        r = good.r;
        k = good.k;
        server = good.server;
        seed = good.seed;
        envelope = good.envelope;
        rebuttal = rebuttal_given trial (client i) good.r good.k good.server good.seed good.envelope heard;
        signed_r = good.r;
        signed_k = good.k;
        bits = good.bits;
        is = refl;
        unseals = good.unseals;
      }) in
      let by_server : Heard trial (server j) (kinds.PadBits (round_of trial) trial.k good.bits) =
      subst (λ x. Heard trial (Server x) (kinds.PadBits (round_of trial) trial.k good.bits)) server_is
      (subst (λ r. Heard trial (Server good.server) (kinds.PadBits r trial.k good.bits)) r_is
      (subst (λ k. Heard trial (Server good.server) (kinds.PadBits good.r k good.bits)) k_is carried)) in
      let bits = honest.pads good.bits (honest.heard (kinds.PadBits (round_of trial) trial.k good.bits) by_server) in
      let l = rebuts.listed in
      let bit_is : shown_bit good.bits l.0.client ≡ keystream_bit (seeds l.0.client.0) (round_of trial).0 trial.k =
      All-contains (λ x. shown_bit good.bits x.client ≡ keystream_bit (seeds x.client.0) (round_of trial).0 trial.k) trial.body.listed l.0 bits l.1 in
      let bit_here : bit good.bits i ≡ keystream_bit (seeds i) (round_of trial).0 trial.k =
      subst (λ x. bit good.bits x ≡ keystream_bit (seeds x) (round_of trial).0 trial.k) l.2 bit_is in
      let opens : commitment_of trial.roster i j ≡ Some (seed_commitment_of i j good.seed) =
      subst (λ x. commitment_of trial.roster i x ≡ Some (seed_commitment_of i x good.seed)) (ap (λ x. x.0) server_is) good.opens in
      let one_digest : seed_commitment_of i j good.seed ≡ seed_commitment_of i j (seeds i) =
      same_Some (seed_commitment_of i j good.seed) (seed_commitment_of i j (seeds i)) (sym opens ∙ server_seeds.committed i rebuts.listed) in
      let own_seed : good.seed ≡ seeds i = server_seeds.no_other i good.k good.r good.server good.seed good.envelope (ap (λ x. x.0) server_is) heard one_digest in
      good.differs ((λ t. keystream_bit (own_seed t) (r_is t).0 (k_is t)) ∙ sym bit_here)

  no_false_output : (revealed : List (List Bool)) → AreRevealed trial revealed → ¬ HasFalseOutput trial
  no_false_output revealed of f =
      let same_at : (x : ℕ) → x < servers_of trial → ¬ (¬ (get_or f.shown x [] ≡ get_or revealed x [])) = λ x lt never.
      let s = get_or f.shown x [] in
      let r = get_or revealed x [] in
      let first = f.first x lt in
      f.right x lt record {
        s = s;
        shown = first.shown;
        shows = first_shows trial x s first;
        wrong = λ right. never (
            let long : length s ≡ length r = right.long ∙ sym (All-get_or (λ y. length y ≡ bits_of trial.layout) revealed x [] (omega (arith, of.each)) of.long) in
            let one_digest = same_Some (server_digest_of (round_of trial).0 x (bytes_of s)) (server_digest_of (round_of trial).0 x (bytes_of r)) (sym right.digest ∙ of.digests x lt) in
            let bytes = of.no_other x s first.shown (first_shows trial x s first) one_digest in
            sym (bits_again s (length s) refl) ∙ (λ t. first_bits (bytes t) (long t)) ∙ bits_again r (length r) refl);
      } in
      of_all_below (λ x. get_or f.shown x [] ≡ get_or revealed x []) (servers_of trial) same_at (λ all.
      let same : f.shown ≡ revealed = same_lists f.shown revealed (f.each ∙ sym of.each) (λ x d lt.
      let within : x < servers_of trial = omega (arith, f.each) in
      get_or_default f.shown x d [] lt ∙ all x within ∙ sym (get_or_default revealed x d [] (omega (arith, of.each)))) in
      f.differ (of.sum ∙ ap (sum_bits (bits_of trial.layout)) (sym same)))

  pub blameless : (revealed : List (List Bool)) (fault : Fault) → AreServersSeeds trial j seeds → AreRevealed trial revealed → ¬ ServerHas trial j fault
  blameless revealed faults.Twice server_seeds of has = not_twice has
  blameless revealed faults.Entry server_seeds of has = no_false_entry has
  blameless revealed faults.Commit server_seeds of has = no_false_commit has
  blameless revealed faults.Shown server_seeds of has = shows_right has
  blameless revealed faults.Sum server_seeds of has = no_false_sum has
  blameless revealed faults.Pad server_seeds of has = not_rebutted server_seeds has
  blameless revealed faults.Output server_seeds of has = no_false_output revealed of has.1
  blameless revealed faults.Double server_seeds of has = has
  blameless revealed faults.Rebuttal server_seeds of has = has
  blameless revealed faults.Conceded server_seeds of has = has
