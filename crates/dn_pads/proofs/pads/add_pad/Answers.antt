use Rattle.std.proofs.Common.{List, ◌≡◌, ◌*◌, ◌+◌, ◌%◌, ◌^◌, ◌<◌, ◌≤◌, ℕ, ◌∙◌, ap, length, arith, ⊎_elim}
use Rattle.std.proofs.lemmas.Bool.{cases_lt, lt-ltb, le-ltb}
use Rattle.rand_chacha.specs.ChaCha.{ChaCha, key_of, word_at, next_word}
use Rattle.dn_bits.specs.Bits.{add_word_at}
use Rattle.dn_pads.specs.Pads.{bit_of_word, keystream_bit}
use Rattle.dn_pads.proofs.PadLemmas.{added_none, added_more, added_all, keystream_is, length-added}
use Rattle.dn_pads.proofs.pads.add_pad.Goals as goal

-- the keystream behind a word
stepped : (key : List ℕ) (stream pos : ℕ) (g : ChaCha) → g ≡ record { key = key; stream = stream; word_pos = pos } → pos + 1 < 2 ^ 68
    → (next_word 10 g).1 ≡ record { key = key; stream = stream; word_pos = pos + 1 }
stepped key stream pos g e small =
    let wraps : (pos + 1) % 2 ^ 68 ≡ pos + 1 = omega arith in
    ap (λ (h : ChaCha). (next_word 10 h).1) e
    ∙ ap (λ n. let h : ChaCha = record { key = key; stream = stream; word_pos = n } in h) wraps

-- the word there
told : (key : List ℕ) (stream pos : ℕ) (g : ChaCha) → g ≡ record { key = key; stream = stream; word_pos = pos } → (next_word 10 g).0 ≡ word_at 10 key stream pos
told key stream pos g e = ap (λ (h : ChaCha). (next_word 10 h).0) e

pub loop-place-init : goal.loop-place-init
loop-place-init c = (c.keystream-rng.ensures, added_none (keystream_bit c.args.seed.now c.args.r.0) c.args.bits.now)

pub add_word-requires : goal.add_word-requires
add_word-requires c =
    omega (
      arith,
      ap length c.loop-place.invariant.1,
      c.div_ceil-place-end.ensures,
      length-added (keystream_bit c.args.seed.now c.args.r.0) (64 * c.loop-place.place) c.args.bits.now,
    )

pub loop-place-preserved : goal.loop-place-preserved
loop-place-preserved c =
    let key = key_of c.args.seed.now in
    let place = c.loop-place.place in
    let bits = keystream_bit c.args.seed.now c.args.r.0 in
    let one = c.next_word-first.result in
    let two = c.next_word-second.result in
    let start = c.loop-place.invariant.0 in
    let between = ap (λ (p : ℕ × ChaCha). p.1) c.next_word-first.ensures ∙ stepped key c.args.r.0 (2 * place) c.loop-place.rng start (omega arith) in
    let front : one ≡ word_at 10 key c.args.r.0 (2 * place) =
    ap (λ (p : ℕ × ChaCha). p.0) c.next_word-first.ensures ∙ told key c.args.r.0 (2 * place) c.loop-place.rng start in
    let back : two ≡ word_at 10 key c.args.r.0 (2 * place + 1) =
    ap (λ (p : ℕ × ChaCha). p.0) c.next_word-second.ensures ∙ told key c.args.r.0 (2 * place + 1) c.next_word-first.new.self between in (
      ap (λ (p : ℕ × ChaCha). p.1) c.next_word-second.ensures
          ∙ stepped key c.args.r.0 (2 * place + 1) c.next_word-first.new.self between (omega arith)
          ∙ ap (λ n. let g : ChaCha = record { key = key; stream = c.args.r.0; word_pos = n } in g) (let e : 2 * place + 1 + 1 ≡ 2 * (place + 1) = omega arith in e),
      c.add_word.ensures ∙ ap (λ b. add_word_at b place c.joined.result) c.loop-place.invariant.1
          ∙ added_more bits place c.joined.result c.args.bits.now
          (λ k here. c.joined.ensures k ∙ ⊎_elim
          (λ (low : k % 64 < 32).
          rw (lt-ltb (k % 64) 32 low)
          (ap (λ w. bit_of_word w k) front ∙ keystream_is c.args.seed.now c.args.r.0 k (2 * place) (omega arith)))
          (λ (high : 32 ≤ k % 64).
          rw (le-ltb (k % 64) 32 high)
          (ap (λ w. bit_of_word w k) back ∙ keystream_is c.args.seed.now c.args.r.0 k (2 * place + 1) (omega arith)))
          (cases_lt (k % 64) 32)),
    )

pub returns : goal.returns
returns c =
    c.loop-place.invariant.1
    ∙ added_all (keystream_bit c.args.seed.now c.args.r.0) (64 * c.loop-place.place) c.args.bits.now (omega (arith, c.div_ceil-place-end.ensures))
