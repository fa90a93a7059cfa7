-- The large script that is a function of a number: 48 clients and 3 servers, who talk for three rounds.
use Rattle.std.specs.Prelude.{ℕ, ◌+◌, ◌*◌, ◌%◌, ◌==◌, ◌&&◌, List, [], ◌∷◌, ◌++◌, codes, take, replicate, if◌then◌else◌}
use Rattle.std.specs.Fmt.{decimal}
use Rattle.std.specs.Int.{w32, w64, to_be_bytes, from_le_bytes}
use Rattle.std.specs.List.{flat_map, range_with_len}
use Rattle.dn_lines.specs.Fields.{hex_text, client, server}
use Rattle.dn_lines.specs.Form.{spaced}
use Rattle.dn_roster.specs.Dealing.{dealt}

-- a line of these fields
abbrev pub line : List (List ℕ) → List ℕ
line fields = spaced fields ++ codes "\n"

abbrev pub client_text : ℕ → List ℕ
client_text i = client.spell (record { 0 = i })

abbrev pub server_text : ℕ → List ℕ
server_text j = server.spell (record { 0 = j })

-- a text for each number below n, one behind the other
unfoldable pub for_each : ℕ → (ℕ → List ℕ) → List ℕ
for_each n text = flat_map text (range_with_len 0 n)

-- the group's seed: the number in its last eight bytes, the high byte first
abbrev pub seed_of : ℕ → List ℕ
seed_of num = replicate 24 0 ++ to_be_bytes w64 num

-- the client who leaves in round 2
abbrev pub leaver : ℕ → ℕ
leaver num = num % 48

-- what client i says: so many bytes of stream 9 of the seed's keystream as the word at its place tells, from the next place on
abbrev pub saying_length : List ℕ → ℕ → ℕ
saying_length seed i = 1 + from_le_bytes w32 (dealt seed 9 (64 * i) 1) % 200

abbrev pub saying : List ℕ → ℕ → List ℕ
saying seed i = take (saying_length seed i) (dealt seed 9 (64 * i + 1) 50)

abbrev pub say_line : List ℕ → ℕ → List ℕ
say_line seed i = line (codes "say" ∷ client_text i ∷ hex_text (saying seed i) ∷ [])

abbrev pub open_line : ℕ → ℕ → List ℕ
open_line r j = line (codes "open" ∷ server_text j ∷ decimal r ∷ [])

-- client i submits to its upstream server; who has left in round 2 submits nothing in round 3
abbrev pub submit_line : ℕ → ℕ → ℕ → List ℕ
submit_line num r i =
    if r == 3 && i == leaver num then []
    else line (codes "submit" ∷ client_text i ∷ server_text (i % 3) ∷ decimal r ∷ [])

abbrev pub leave_line : ℕ → ℕ → List ℕ
leave_line num r = if r == 2 then line (codes "leave" ∷ client_text (leaver num) ∷ []) else []

-- the lines of round r
unfoldable pub round_lines : ℕ → ℕ → List ℕ
round_lines num r =
    for_each 3 (open_line r) ++ for_each 48 (submit_line num r) ++ leave_line num r
    ++ codes "flow 1\nclose s0\nclose s1\nclose s2\nflow 6\n"

-- the whole script
unfoldable pub generated : ℕ → List ℕ
generated num =
    line (codes "group 48 3 3 5 6" ∷ hex_text (seed_of num) ∷ []) ++ for_each 48 (say_line (seed_of num))
    ++ round_lines num 1 ++ round_lines num 2 ++ round_lines num 3 ++ codes "end\n"
