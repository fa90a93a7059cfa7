-- What a client's ciphertext is made of.
use Rattle.std.proofs.Common.{◌≡◌, ℕ, List, map, length, ap, ◌∙◌, Bool}
use Rattle.dn_bits.specs.Bits.{below, xor_bits, sum_bits}
use Rattle.dn_pads.specs.Pads.{pad_of}
use Rattle.dn_client.specs.Plain.{cipher_of}
use Rattle.dn_headline.specs.Group.{GroupView, servers_of, seed_of, pads_of_client}
use Rattle.dn_headline.proofs.Blocks.{map-map}

pub cipher_is : (g : GroupView) (i r n : ℕ) (seeds : List (List ℕ)) (plain : List Bool) → seeds ≡ map (λ j. seed_of g i j) (below (servers_of g)) → length plain ≡ n
    → cipher_of seeds r plain ≡ xor_bits plain (pads_of_client g i r n)
unfolding cipher_of
cipher_is g i r n seeds plain are long =
    (λ t. xor_bits plain (sum_bits (long t) (map (λ (seed : List ℕ). pad_of seed r (long t)) (are t))))
    ∙ ap (λ (pads : List (List Bool)). xor_bits plain (sum_bits n pads)) (map-map (λ (seed : List ℕ). pad_of seed r n) (λ (j : ℕ). seed_of g i j) (below (servers_of g)))
