-- A plain script, as a round takes it: what its first line says, and the lines behind it.
use Rattle.std.specs.Prelude.{◌≡◌, ℕ, ◌*◌, ◌<◌, ◌≤◌, ◌==◌, Bool, List, [], ◌∷◌, ◌++◌, length, Option, Some, None, unwrap_or, if◌then◌else◌}
use Rattle.std.specs.List.{All}
use Rattle.hex.specs.Hex.{encode_lower, IsBytes}
use Rattle.dn_wire.specs.declared.limits.TheConstants.{MAX_BITS, MAX_CLIENTS, MAX_SERVERS, MAX_TICKS}
use Rattle.dn_bits.specs.Bits.{zeros, first_bits, bytes_of}
use Rattle.dn_script.specs.declared.plain_line.PlainLine.{PlainLine}
use Rattle.dn_script.specs.declared.plain_line.PlainLine.TheVariants.{Say, Submit, Tick, Close}
use Rattle.dn_script.specs.declared.script_line.ScriptLine.{ScriptLine}
use Rattle.dn_script.specs.declared.script_line.ScriptLine.TheVariants as lines
use Rattle.dn_script.specs.Script.{Lines}
use Rattle.dn_script.specs.Spelled.{Spells}

-- the numbers of clients, servers and bits, the seed of the dealer, and the lines between the first and the last, in
-- order
pub record Plain : Type 0 where
  pub clients : ℕ
  pub servers : ℕ
  pub bits : ℕ
  pub seed : List ℕ
  pub lines : List PlainLine

-- what a line says for a client, if it says anything for it
abbrev pub said_in : PlainLine → ℕ → Option (List Bool)
said_in (Say client message) i = if client.0 == i then Some message else None
said_in (Submit client) i = None
said_in (Tick count) i = None
said_in Close i = None

-- the first of two, where there is one, else the second
abbrev pub or_else : {A : Type 0} → Option A → Option A → Option A
or_else (Some x) y = Some x
or_else None y = y

-- what the first line that says anything for a client says for it
abbrev pub said_by : List PlainLine → ℕ → Option (List Bool)
said_by [] i = None
said_by (line ∷ lines) i = or_else (said_in line i) (said_by lines i)

-- the message of a client: zeros where no line says anything for it
abbrev pub message : Plain → ℕ → List Bool
message p i = unwrap_or (said_by p.lines i) (zeros p.bits)

-- bits in lower-case hex
abbrev pub hex_of : List Bool → List ℕ
hex_of bits = encode_lower (bytes_of bits)

-- ---- the plain script of some lines

-- what a line behind the first says, in a script of n bits
abbrev pub plain_line : ℕ → ScriptLine → List PlainLine
plain_line n (lines.PlainSay client message) = Say client (first_bits message n) ∷ []
plain_line n (lines.PlainSubmit client) = Submit client ∷ []
plain_line n (lines.Tick count) = Tick count ∷ []
plain_line n lines.PlainClose = Close ∷ []
plain_line n line = []

abbrev pub plain_lines : ℕ → Lines → List PlainLine
plain_lines n [] = []
plain_lines n (line ∷ rest) = plain_line n line.1 ++ plain_lines n rest

abbrev pub plain_begun : ScriptLine → Lines → Option Plain
plain_begun (lines.Plain n m b s) rest = Some (record { clients = n; servers = m; bits = b; seed = s; lines = plain_lines b rest })
plain_begun line rest = None

-- the plain script that some lines are, if the first of them is that of one
abbrev pub plain_of : Lines → Option Plain
plain_of [] = None
plain_of (line ∷ rest) = plain_begun line.1 rest

-- a message has n bits at least
abbrev pub CanSay : ℕ → ScriptLine → Type 0
CanSay n (lines.PlainSay client message) = n ≤ 8 * length message
CanSay n line = Unit {0}

-- a text spells a plain script
pub record SpellsPlain (text : List ℕ) (p : Plain) : Type 0 where
  pub script : Lines
  pub spells : Spells text script
  pub plain : plain_of script ≡ Some p

-- ---- its limits

-- a line keeps the limits of a round of so many clients and bits
abbrev pub Fits : ℕ → ℕ → PlainLine → Type 0
Fits clients bits (Say client message) = (client.0 < clients) × (length message ≡ bits)
Fits clients bits (Submit client) = client.0 < clients
Fits clients bits (Tick count) = (1 ≤ count) × (count ≤ MAX_TICKS)
Fits clients bits Close = Unit {0}

-- a script that keeps its limits
pub record IsScript (p : Plain) : Type 0 where
  pub some_clients : 1 ≤ p.clients
  pub clients : p.clients ≤ MAX_CLIENTS
  pub some_servers : 1 ≤ p.servers
  pub servers : p.servers ≤ MAX_SERVERS
  pub some_bits : 1 ≤ p.bits
  pub bits : p.bits ≤ MAX_BITS
  pub seed : length p.seed ≡ 32
  pub seed_bytes : IsBytes p.seed
  pub fits : All (Fits p.clients p.bits) p.lines
