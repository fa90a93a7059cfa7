-- One plain round: the pads of each pair, the ciphertexts of clients and servers, and the text that tells them.
use Rattle.std.specs.Prelude.{ℕ, ◌%◌, ◌==◌, Bool, List, ◌++◌, map, filter, codes}
use Rattle.std.specs.List.{flat_map}
use Rattle.std.specs.Fmt.{decimal}
use Rattle.dn_bits.specs.Bits.{below, xor_bits, sum_bits}
use Rattle.dn_pads.specs.Pads.{pad_of}
use Rattle.dn_roster.specs.Dealing.{pair_seed_of}
use Rattle.dn_script.specs.Plain.{Plain, message, hex_of}
pub use Rattle.dn_cmd.specs.Window.{counted}
use Rattle.dn_cmd.specs.Window.{window_text}

-- the pad of client i and server j in round 1
abbrev pub pair_pad : Plain → ℕ → ℕ → List Bool
pair_pad p i j = pad_of (pair_seed_of p.seed p.servers i j) 1 p.bits

-- client i's message and its pads
abbrev pub cipher : Plain → ℕ → List Bool
cipher p i = xor_bits (message p i) (sum_bits p.bits (map (pair_pad p i) (below p.servers)))

-- the counted clients whose upstream server is j
abbrev pub held : Plain → ℕ → List ℕ
held p j = filter (λ i. i % p.servers == j) (counted p)

-- server j's pads over the counted clients, and the ciphertexts that it holds
abbrev pub server : Plain → ℕ → List Bool
server p j =
    xor_bits (sum_bits p.bits (map (λ i. pair_pad p i j) (counted p)))
    (sum_bits p.bits (map (cipher p) (held p j)))

-- the sum of the counted messages
abbrev pub output : Plain → List Bool
output p = sum_bits p.bits (map (message p) (counted p))

-- a line of a word, a member's number and bits
abbrev pub bits_line : List ℕ → ℕ → List Bool → List ℕ
bits_line word i bits = word ++ codes " " ++ decimal i ++ codes " " ++ hex_of bits ++ codes "\n"

-- the lines of these clients
abbrev pub client_lines : Plain → List ℕ → List ℕ
client_lines p is = flat_map (λ i. bits_line (codes "c") i (cipher p i)) is

-- the lines of these servers
abbrev pub server_lines : Plain → List ℕ → List ℕ
server_lines p js = flat_map (λ j. bits_line (codes "s") j (server p j)) js

-- the text of a plain script
unfoldable pub plain_text : Plain → List ℕ
plain_text p =
    codes "dissent-plain 1\n" ++ window_text p ++ client_lines p (counted p) ++ server_lines p (below p.servers)
    ++ codes "out " ++ hex_of (output p) ++ codes "\n"
