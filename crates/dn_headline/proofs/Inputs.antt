-- What is hashed behind the same numbers is one where the inputs are.
use Rattle.std.proofs.Common.{◌≡◌, ℕ, List, ◌++◌}
use Rattle.std.specs.Prelude.{codes}
use Rattle.std.specs.Int.{w32, w64, to_be_bytes}
use Rattle.std.proofs.lemmas.List.{append_cancel_left}
use Rattle.dn_hash.specs.Inputs.{seed_input, cipher_input, server_input}

pub one_seed : (i j : ℕ) (x y : List ℕ) → seed_input i j x ≡ seed_input i j y → x ≡ y
one_seed i j x y e = append_cancel_left (codes "dnseed" ++ to_be_bytes w32 i ++ to_be_bytes w32 j) x y e

pub one_cipher : (r i : ℕ) (x y : List ℕ) → cipher_input r i x ≡ cipher_input r i y → x ≡ y
one_cipher r i x y e = append_cancel_left (codes "dnsub" ++ to_be_bytes w64 r ++ to_be_bytes w32 i) x y e

pub one_sum : (r j : ℕ) (x y : List ℕ) → server_input r j x ≡ server_input r j y → x ≡ y
one_sum r j x y e = append_cancel_left (codes "dnsrv" ++ to_be_bytes w64 r ++ to_be_bytes w32 j) x y e
