use Rattle.std.proofs.Common.{◌≡◌, ◌*◌, ◌+◌, ◌%◌, ◌^◌, ◌++◌, ℕ, ◌∙◌, ap, sym, length, arith, List}
use Rattle.std.specs.Int.{w32, to_le_bytes}
use Rattle.std.specs.List.{flat_map, range_with_len}
use Rattle.std.proofs.lemmas.Slice.{take-put_mid}
use Rattle.rand_chacha.specs.ChaCha.{ChaCha, key_of, word_at, next_word}
use Rattle.dn_roster.proofs.DealingLemmas.{flat_map-more, length-put_mid}
use Rattle.dn_roster.proofs.dealing.deal_into.Goals as goal

pub loop-t-preserved : goal.loop-t-preserved
loop-t-preserved c =
    let i = c.loop-t.invariant in
    let key = key_of c.args.seed.now in
    let place = c.args.place + c.loop-t.t in
    let rng : ChaCha = record { key = key; stream = c.args.stream; word_pos = place } in
    let same : c.loop-t.rng ≡ rng = i.rng in
    let wraps : (place + 1) % 2 ^ 68 ≡ c.args.place + (c.loop-t.t + 1) = omega arith in
    let word : c.next_word.result ≡ word_at 10 key c.args.stream place =
    ap (λ (p : ℕ × ChaCha). p.0) c.next_word.ensures ∙ ap (λ (g : ChaCha). (next_word 10 g).0) same in
    let bytes : c.copy_from_slice.new.self ≡ to_le_bytes w32 (word_at 10 key c.args.stream place) =
    c.copy_from_slice.ensures.after ∙ c.to_le_bytes-word.ensures ∙ ap (to_le_bytes w32) word in
    let four : length c.copy_from_slice.new.self ≡ 4 = ap length bytes in
    let f : ℕ → List ℕ = λ t. to_le_bytes w32 (word_at 10 key c.args.stream (c.args.place + t)) in
    record {
      rng = ap (λ (p : ℕ × ChaCha). p.1) c.next_word.ensures ∙ ap (λ (g : ChaCha). (next_word 10 g).1) same
          ∙ ap (λ n. let g : ChaCha = record { key = key; stream = c.args.stream; word_pos = n } in g) wraps;
      long = length-put_mid (4 * c.loop-t.t) _ c.loop-t.bytes c.copy_from_slice.new.self (omega arith) (omega (arith, four)) ∙ i.long;
      dealt = take-put_mid (4 * c.loop-t.t) _ c.loop-t.bytes c.copy_from_slice.new.self (4 * (c.loop-t.t + 1)) (omega (arith, four)) (omega (arith, i.long))
          ∙ ap (λ l. l ++ c.copy_from_slice.new.self) i.dealt
          ∙ ap (λ l. flat_map f (range_with_len 0 c.loop-t.t) ++ l) bytes
          ∙ sym (flat_map-more f c.loop-t.t);
    }
