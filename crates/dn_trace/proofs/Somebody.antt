-- A verdict that leaves nobody silent blames somebody.
use Rattle.std.proofs.Common.{◌≡◌, ℕ, ◌<◌, Bool, true, List, [], ◌∷◌, map, length, refl, sym, ap, ◌∙◌, subst, arith, inl, inr}
use Rattle.std.specs.Prelude.{All, Contains}
use Rattle.std.proofs.lemmas.List.{get_or-map, length-map}
use Rattle.std.proofs.lemmas.List.Elements.{All-contains}
use Rattle.std.proofs.lemmas.List.FromFn.{length-map-range_with_len, get_or-map-range_with_len, length-range_with_len, get_or-range_with_len}
use Rattle.dn_wire.specs.declared.ids.Member.{Member}
use Rattle.dn_wire.specs.declared.ids.Member.TheVariants as members
use Rattle.dn_bits.specs.Bits.{xor, bit, sum_bits, below}
use Rattle.dn_record_types.specs.declared.shown.ShownCipher.{ShownCipher}
use Rattle.dn_layout.specs.Layout.{bits_of}
use Rattle.dn_cert.specs.Evidence.{shown_bit}
use Rattle.dn_cert.specs.Trim.{given_to}
use Rattle.dn_cert.proofs.Parts.{parts_rows}
use Rattle.dn_trace.specs.declared.fault.Fault.{Fault}
use Rattle.dn_trace.specs.declared.fault.Fault.TheVariants as faults
use Rattle.dn_bits.specs.XorAll.{xor_all}
use Rattle.dn_trace.specs.Trial.{Trial, servers_of, round_of}
use Rattle.dn_trace.specs.Reasons.{IsRight, Shows, Signed, IsFirstShown, row_of, summed}
use Rattle.dn_trace.specs.Challenged.{NamesNone, IsOpened, IsChallenged}
use Rattle.dn_trace.specs.Verdict.{Has, ServerHas, ClientHas, Answers, IsVerdict, IsHeld}
use Rattle.dn_bits.proofs.BitLemmas.{bit-sum}
use Rattle.dn_trace.proofs.XorLemmas.{xor_all-of_xor, xor_all-swap, xor_all-parts, xor_all-same_below, some_true, differ_from_xor}
use Rattle.dn_trace.proofs.Doubt.{of_all_below, chosen, chosen_is}
use Rattle.dn_trace.proofs.HeardLemmas.{first_shown}

map-map : {X Y Z : Type 0} (g : Y → Z) (f : X → Y) (xs : List X) → map g (map f xs) ≡ map (λ x. g (f x)) xs
map-map g f [] = refl
map-map g f (x ∷ xs) = ap (λ l. g (f x) ∷ l) (map-map g f xs)

below_within : (m j : ℕ) → Contains (below m) j → j < m
below_within m j at =
    let k_lt : at.0 < m = omega (arith, at.1, length-range_with_len 0 m) in
    omega (arith, k_lt, at.2, get_or-range_with_len 0 m at.0 j k_lt)

-- what a server opened: its own ciphertext, its clients', and its pad bits
pub record Opening : Type 0 where
  pub s : List Bool
  pub shown : List ShownCipher
  pub pad : List Bool

-- a server's opening in which there is no fault
pub record IsClean (trial : Trial) (j : ℕ) (o : Opening) : Type 0 where
  pub shows : Shows trial j o.s o.shown
  pub first : IsFirstShown trial j o.s
  pub signed : Signed trial j o.pad
  pub right : IsRight trial j o.s o.shown
  pub sum : bit o.s trial.k ≡ summed trial o.pad o.shown

-- a server that opened, and has no fault, has a clean opening
clean : (trial : Trial) (j : ℕ) → ((fault : Fault) → ¬ ServerHas trial j fault) → IsOpened trial j → ¬ (¬ ((o : Opening) × IsClean trial j o))
clean trial j none opened never =
    let first = first_shown trial j opened.s opened.shown opened.shows in
    none faults.Shown record {
      s = first.0;
      shown = first.1;
      shows = first.2;
      wrong = λ right. none faults.Sum record {
        right = none faults.Shown;
        s = first.0;
        shown = first.1;
        shows = first.2;
        pad = opened.pad;
        signed = opened.signed;
        differ = λ sum. never (
          record { s = first.0; shown = first.1; pad = opened.pad },
          record { shows = first.2; first = first.3; signed = opened.signed; right = right; sum = sum },
        );
      };
    }

module _ (trial : Trial) (held : IsHeld trial) (o : ℕ → Opening) (is_clean : (j : ℕ) → j < servers_of trial → IsClean trial j (o j)) where
  abbrev servers : List ℕ
  servers = below (servers_of trial)

  abbrev strings : List (List Bool)
  strings = map (λ j. (o j).s) servers

  -- what the servers' pad bits for a client add up to
  abbrev pads : ℕ → Bool
  pads i = xor_all (map (λ j. bit (o j).pad i) servers)

  -- the pad bits that a server signed, over all that are listed
  abbrev listed_pads : ℕ → Bool
  listed_pads j = xor_all (map (λ l. shown_bit (o j).pad l.client) trial.body.listed)

  abbrev shown_bits : ℕ → Bool
  shown_bits j = xor_all (map (λ c. bit c.cipher trial.k) (o j).shown)

  -- by how much the ciphertexts that a server shows are not what all pads add up to
  abbrev excess : ℕ → Bool
  excess j = xor_all (map (λ c. xor (pads c.client.0) (bit c.cipher trial.k)) (o j).shown)

  longs : All (λ s. length s ≡ bits_of trial.layout) strings
  longs k d lt =
      let within : k < servers_of trial = omega (arith, lt, length-map-range_with_len (λ j. (o j).s) 0 (servers_of trial)) in
      ap length (get_or-map-range_with_len (λ j. (o j).s) 0 (servers_of trial) k k d within (omega arith)) ∙ (is_clean k within).right.long

  -- the listed pads of all servers are the pads of the clients that each server shows
  given_pads : (j : ℕ) → j < servers_of trial → xor_all (map (λ l. pads l.client.0) (given_to trial.body.listed j)) ≡ xor_all (map (λ c. pads c.client.0) (o j).shown)
  given_pads j lt =
      ap (λ ls. xor_all (map (λ l. pads l.client.0) ls)) (sym (is_clean j lt).right.listed)
      ∙ ap xor_all (map-map (λ l. pads l.client.0) (row_of (round_of trial) j) (o j).shown)

  all_listed_pads : xor_all (map listed_pads servers) ≡ xor_all (map (λ j. xor_all (map (λ c. pads c.client.0) (o j).shown)) servers)
  all_listed_pads =
      xor_all-swap (λ j l. shown_bit (o j).pad l.client) servers trial.body.listed
      ∙ xor_all-parts (λ l. pads l.client.0) trial.body.listed (servers_of trial) held.listed
      ∙ xor_all-same_below (λ j. xor_all (map (λ l. pads l.client.0) (given_to trial.body.listed j))) (λ j. xor_all (map (λ c. pads c.client.0) (o j).shown)) (servers_of trial) given_pads

  -- where the output is the sum of what is shown, the excesses add up to 1
  excesses : trial.body.out ≡ sum_bits (bits_of trial.layout) strings → xor_all (map excess servers) ≡ true
  excesses out =
      xor_all-same_below excess (λ j. xor (xor_all (map (λ c. pads c.client.0) (o j).shown)) (shown_bits j)) (servers_of trial)
      (λ j lt. xor_all-of_xor (λ c. pads c.client.0) (λ c. bit c.cipher trial.k) (o j).shown)
      ∙ xor_all-of_xor (λ j. xor_all (map (λ c. pads c.client.0) (o j).shown)) shown_bits servers
      ∙ ap (λ b. xor b (xor_all (map shown_bits servers))) (sym all_listed_pads)
      ∙ sym (xor_all-of_xor listed_pads shown_bits servers)
      ∙ sym (xor_all-same_below (λ j. bit (o j).s trial.k) (λ j. xor (listed_pads j) (shown_bits j)) (servers_of trial) (λ j lt. (is_clean j lt).sum))
      ∙ sym (ap xor_all (map-map (λ s. bit s trial.k) (λ j. (o j).s) servers))
      ∙ sym (bit-sum (bits_of trial.layout) strings trial.k longs)
      ∙ sym (ap (λ b. bit b trial.k) out)
      ∙ held.one

  -- so some client is challenged
  some_challenged : NamesNone trial → ((j : ℕ) → j < servers_of trial → IsOpened trial j)
      → trial.body.out ≡ sum_bits (bits_of trial.layout) strings → (i : ℕ) × IsChallenged trial i
  some_challenged named opened out =
      let server = some_true excess servers (excesses out) in
      let j = server.0 in
      let within = below_within (servers_of trial) j server.1 in
      let cipher = some_true (λ c. xor (pads c.client.0) (bit c.cipher trial.k)) (o j).shown server.2 in
      let c = cipher.0 in
      let row = row_of (round_of trial) j c in
      let given : Contains (given_to trial.body.listed j) row =
      subst (λ ls. Contains ls row) (is_clean j within).right.listed (
        cipher.1.0,
        omega (arith, cipher.1.1, length-map (o j).shown (row_of (round_of trial) j)),
        get_or-map (row_of (round_of trial) j) (o j).shown cipher.1.0 c row cipher.1.1 ∙ ap (row_of (round_of trial) j) cipher.1.2,
      ) in
      let listed = All-contains (λ l. Contains trial.body.listed l × (l.server.0 ≡ j)) (given_to trial.body.listed j) row (parts_rows (λ l. l.server.0) trial.body.listed j) given in (
        c.client.0,
        record {
          named = named;
          opened = opened;
          row = row;
          listed = listed.0;
          client = refl;
          s = (o j).s;
          shown = (o j).shown;
          shows = (is_clean j within).shows;
          cipher = c;
          among = cipher.1;
          of_client = refl;
          pads = map (λ x. (o x).pad) servers;
          signed = record {
            each = length-map-range_with_len (λ x. (o x).pad) 0 (servers_of trial);
            signed = λ x lt. subst (λ p. Signed trial x p) (sym (get_or-map-range_with_len (λ y. (o y).pad) 0 (servers_of trial) x x [] lt (omega arith))) (is_clean x lt).signed;
          };
          differ = λ e. differ_from_xor (pads c.client.0) (bit c.cipher trial.k) cipher.2 (e ∙ ap xor_all (map-map (λ pad. shown_bit pad c.client) (λ x. (o x).pad) servers));
        },
      )

module _ (trial : Trial) (held : IsHeld trial)
    (server_none : (j : ℕ) (fault : Fault) → ¬ ServerHas trial j fault) (client_none : (i : ℕ) (fault : Fault) → ¬ ClientHas trial i fault)
    (server_speaks : (j : ℕ) → j < servers_of trial → ¬ (¬ IsOpened trial j))
    (client_speaks : (i : ℕ) → IsChallenged trial i → ¬ (¬ Answers trial i)) where
  names_none : NamesNone trial
  names_none = record {
    twice = λ j. server_none j faults.Twice;
    entry = λ j. server_none j faults.Entry;
    commit = λ j. server_none j faults.Commit;
    shown = λ j. server_none j faults.Shown;
    sum = λ j. server_none j faults.Sum;
    output = λ false_output. server_none 0 faults.Output (held.servers, false_output);
  }

  -- a client that is challenged and answers has a fault, or a server has
  answered : (i : ℕ) → IsChallenged trial i → ¬ Answers trial i
  answered i challenged (inl rebuttal) =
      client_none i faults.Rebuttal record {
        challenged = challenged;
        s = rebuttal.0;
        j = rebuttal.1;
        rebuts = rebuttal.2;
        bad = λ good. server_none rebuttal.1 faults.Pad record { i = i; s = rebuttal.0; rebuts = rebuttal.2; good = good };
      }
  answered i challenged (inr concedes) = client_none i faults.Conceded (challenged, concedes)

  abbrev Cleans : ℕ → Type 0
  Cleans j = (o : Opening) × IsClean trial j o

  nobody : ((j : ℕ) → j < servers_of trial → Cleans j) → ((j : ℕ) → j < servers_of trial → IsOpened trial j) → ⊥
  nobody cleans opened =
      let none : Opening = record { s = []; shown = []; pad = [] } in
      let o = chosen (λ j a. IsClean trial j a) (servers_of trial) none cleans in
      let is_clean = chosen_is (λ j a. IsClean trial j a) (servers_of trial) none cleans in
      names_none.output record {
        shown = strings trial held o is_clean;
        each = length-map-range_with_len (λ j. (o j).s) 0 (servers_of trial);
        first = λ j lt. subst (λ s. IsFirstShown trial j s) (sym (get_or-map-range_with_len (λ x. (o x).s) 0 (servers_of trial) j j [] lt (omega arith))) (is_clean j lt).first;
        right = λ j lt. server_none j faults.Shown;
        differ = λ out.
            let some = some_challenged trial held o is_clean names_none opened out in
            client_speaks some.0 some.1 (answered some.0 some.1);
      }

  pub impossible : ⊥
  impossible =
      of_all_below (IsOpened trial) (servers_of trial) server_speaks
      (λ opened. of_all_below Cleans (servers_of trial) (λ j lt. clean trial j (server_none j) (opened j lt))
      (λ cleans. nobody cleans opened))

empty : {X : Type 0} (x : X) → Contains [] x → ⊥
empty x has = omega (arith, has.1)

pub somebody : (trial : Trial) (blamed : List (Member × Fault)) → IsHeld trial → IsVerdict trial blamed [] → blamed ≡ [] → ⊥
somebody trial blamed held verdict none =
    let no_fault : (member : Member) (fault : Fault) → ¬ Has trial member fault = λ member fault has.
    let b = verdict.all_blamed member fault has in empty (member, b.0) (subst (λ l. Contains l (member, b.0)) none b.1) in
    impossible trial held
    (λ j fault. no_fault (members.Server record { 0 = j }) fault)
    (λ i fault. no_fault (members.Client record { 0 = i }) fault)
    (λ j lt never. empty (members.Server record { 0 = j }) (verdict.all_silent (members.Server record { 0 = j }) (lt, never)))
    (λ i challenged never. empty (members.Client record { 0 = i }) (verdict.all_silent (members.Client record { 0 = i })
    ((λ j fault. no_fault (members.Server record { 0 = j }) fault), challenged, never)))
