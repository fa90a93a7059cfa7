use Rattle.std.proofs.Common.{◌≡◌, ◌*◌, ◌+◌, take, length}
use Rattle.std.specs.List.{flat_map, range_with_len}
use Rattle.std.specs.Int.{w32, to_le_bytes}
use Rattle.rand_chacha.specs.ChaCha.{ChaCha, key_of, word_at}
use Rattle.dn_roster.proofs.dealing.deal_into.Given as goal

abbrev pub invariant-loop-t : goal.invariant-loop-t
invariant-loop-t l =
    let rng : ChaCha = record { key = key_of l.fn.seed; stream = l.fn.stream; word_pos = l.fn.place + l.t } in
    record {
      rng : l.rng ≡ rng;
      long : length l.bytes ≡ length l.fn.bytes;
      dealt : take (4 * l.t) l.bytes ≡ flat_map (λ t. to_le_bytes w32 (word_at 10 (key_of l.fn.seed) l.fn.stream (l.fn.place + t))) (range_with_len 0 l.t);
    }
