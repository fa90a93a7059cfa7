use Rattle.std.proofs.Common.{◌≡◌, ◌∙◌, ◌%◌, ℕ, List, ap, sym, map, length, take, get_or, refl, eqb, Bool, true, false}
use Rattle.std.specs.Prelude.{filter}
use Rattle.std.proofs.lemmas.Bool.{eq-eqb, ne_eqb}
use Rattle.dn_bits.specs.Bits.{xor_bits, sum_bits}
use Rattle.dn_cmd.specs.Round.{cipher}
use Rattle.dn_cmd.proofs.RoundLemmas.{add_none, add_push, length-so_far, length-cipher, filter_yes, filter_no, at_place}
use Rattle.dn_cmd.proofs.round.add_held.Goals as goal
use Rattle.dn_cmd.proofs.round.add_held.Goals.{then-client-servers, else-client-servers}

pub loop-place-init : goal.loop-place-init
loop-place-init c = add_none c.args.script.now.bits (cipher c.args.script.now) (length-cipher c.args.script.now c.requires.legal) c.args.bits.now c.requires.long

pub xor_into-requires : goal.xor_into-requires
xor_into-requires c =
    let p = c.args.script.now in
    let is = c.args.counted.now in
    let k = c.loop-place.place in
    let long = length-so_far p.bits (cipher p) (length-cipher p c.requires.legal) c.args.bits.now c.loop-place.bits
    (filter (λ i. eqb (i % p.servers) c.args.server) (take k is)) c.requires.long c.loop-place.invariant in
    let same = at_place (cipher p) is c.args.ciphers.now k (get_or is k 0) c.index-ciphers-place.result
    (c.requires.ciphers ∙ ap (map (cipher p)) (sym c.requires.counted)) c.index-ciphers-place.is refl c.loop-place-test.true in
    long ∙ sym (length-cipher p c.requires.legal (get_or is k 0)) ∙ ap length (sym same)

pub loop-place-preserved : goal.loop-place-preserved
loop-place-preserved c =
    let p = c.args.script.now in
    let is = c.args.counted.now in
    let k = c.loop-place.place in
    let test : ℕ → Bool = λ i. eqb (i % p.servers) c.args.server in
    let sum_up = λ (js : List ℕ). xor_bits c.args.bits.now (sum_bits p.bits (map (cipher p) js)) in
    elim c.if-client-servers.branch [
      | then-client-servers w ↦
          let same = at_place (cipher p) is c.args.ciphers.now k (get_or is k 0) w.index-ciphers-place.result
          (c.requires.ciphers ∙ ap (map (cipher p)) (sym c.requires.counted)) w.index-ciphers-place.is refl c.loop-place-test.true in
          let yes : test (get_or is k 0) ≡ true = eq-eqb _ _ (ap (λ m. get_or is k 0 % m) (sym c.servers-servers.ensures) ∙ w.if-client-servers.true) in
          add_push p.bits (cipher p) (length-cipher p c.requires.legal) c.args.bits.now c.loop-place.bits c.if-client-servers.bits
          (filter test (take k is)) (get_or is k 0)
          c.loop-place.invariant (w.bits-is ∙ w.xor_into.ensures ∙ ap (xor_bits c.loop-place.bits) same)
          ∙ ap sum_up (sym (filter_yes is k (get_or is k 0) c.loop-place-test.true refl test yes))
      | else-client-servers w ↦
          let other : test (get_or is k 0) ≡ false =
          ne_eqb _ _ (λ e. w.if-client-servers.false (ap (λ m. get_or is k 0 % m) c.servers-servers.ensures ∙ e)) in
          w.bits-is ∙ c.loop-place.invariant
          ∙ ap sum_up (sym (filter_no is k (get_or is k 0) c.loop-place-test.true refl test other))
    ]
