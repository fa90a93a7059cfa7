-- The spelling of a script's lines, the lines that may stand where they stand, and the texts that spell a script. The law over the
-- reading of Script is: `script_of text ≡ Ok script` exactly where `Spells text script`.
use Rattle.std.specs.Prelude.{◌≡◌, ℕ, ◌+◌, ◌<◌, ◌≤◌, ◌/◌, ◌==◌, if◌then◌else◌, true, false, List, [], ◌∷◌, ◌++◌, length, map, codes, Option, Some, None, ◌⊎◌}
use Rattle.std.specs.Fmt.{decimal}
use Rattle.std.specs.List.{slice_split, list_all, AllByRecursion}
use Rattle.hex.specs.Hex.{IsBytes}
use Rattle.dn_lines.specs.Fields.{hex_text}
use Rattle.dn_wire.specs.declared.limits.TheConstants.{MAX_BITS, MAX_CLIENTS, MAX_FLOW, MAX_LIVE_TURNS, MAX_RACE_LIST, MAX_RACE_WORKERS, MAX_ROUND, MAX_SERVERS, MAX_TEXT, MAX_TICKS}
use Rattle.dn_wire.specs.declared.ids.Member.{Member}
use Rattle.dn_wire.specs.declared.ids.Member.TheVariants.{Client, Server}
use Rattle.dn_script.specs.Context.{Context, nothing_yet, group_in}
use Rattle.dn_script.specs.declared.context.Form.TheVariants as forms
use Rattle.dn_script.specs.declared.script_line.ScriptLine.{ScriptLine}
use Rattle.dn_script.specs.declared.script_line.ScriptLine.TheVariants as lines
use Rattle.dn_script.specs.declared.script_line.Twist.{Twist}
use Rattle.dn_script.specs.declared.script_line.Twist.TheVariants as twists
use Rattle.dn_script.specs.Words.{words_in}
use Rattle.dn_script.specs.Judged.{Group, is_among, client_text, server_text, member_text}
use Rattle.dn_script.specs.Script.{Lines, with_line, is_client, is_idle, is_plain_byte, line_limit, without_return, place_text, has_bits_behind}

-- ---- the words of a line

abbrev pub twist_words : Twist → List (List ℕ)
twist_words (twists.Flip k) = codes "flip" ∷ decimal k ∷ []
twist_words (twists.Jam i) = codes "jam" ∷ client_text i ∷ []
twist_words (twists.Reveal k) = codes "reveal" ∷ decimal k ∷ []
twist_words (twists.Frame i) = codes "frame" ∷ client_text i ∷ []
twist_words twists.Mute = codes "mute" ∷ []

-- a place, where it is told
abbrev pub told_place : Option ℕ → List (List ℕ)
told_place None = []
told_place (Some k) = decimal k ∷ []

abbrev pub group_word : ℕ → List ℕ
group_word version = if version == 1 then codes "group1" else codes "group"

abbrev pub line_words : ScriptLine → List (List ℕ)
line_words (lines.Plain n m b s) = codes "plain" ∷ decimal n ∷ decimal m ∷ decimal b ∷ hex_text s ∷ []
line_words (lines.PlainSay i message) = codes "say" ∷ decimal i.0 ∷ hex_text message ∷ []
line_words (lines.PlainSubmit i) = codes "submit" ∷ decimal i.0 ∷ []
line_words lines.PlainClose = codes "close" ∷ []
line_words (lines.Group v n m ots clms slms s) =
    group_word v ∷ decimal n ∷ decimal m ∷ decimal ots ∷ decimal clms ∷ decimal slms ∷ hex_text s ∷ []
line_words (lines.Corrupt members) = codes "corrupt" ∷ map member_text members
line_words (lines.Say i text) = codes "say" ∷ client_text i ∷ hex_text text ∷ []
line_words (lines.Open j r) = codes "open" ∷ server_text j ∷ decimal r.0 ∷ []
line_words (lines.Close j) = codes "close" ∷ server_text j ∷ []
line_words (lines.Abandon j) = codes "abandon" ∷ server_text j ∷ []
line_words (lines.Submit i j r) = codes "submit" ∷ client_text i ∷ server_text j ∷ decimal r.0 ∷ []
line_words (lines.Deliver id) = codes "deliver" ∷ decimal id ∷ []
line_words (lines.Lose id) = codes "lose" ∷ decimal id ∷ []
line_words (lines.Cut m n) = codes "cut" ∷ member_text m ∷ member_text n ∷ []
line_words (lines.Flow k) = codes "flow" ∷ decimal k ∷ []
line_words (lines.Tick k) = codes "tick" ∷ decimal k ∷ []
line_words (lines.Leave i) = codes "leave" ∷ client_text i ∷ []
line_words (lines.Accuse i r k) = codes "accuse" ∷ client_text i ∷ decimal r.0 ∷ place_text k ∷ []
line_words (lines.Judge r k) = codes "judge" ∷ decimal r.0 ∷ told_place k
line_words (lines.Race j w clients) = codes "race" ∷ server_text j ∷ decimal w ∷ map member_text clients
line_words (lines.Live t) = codes "live" ∷ decimal t ∷ []
line_words (lines.Twist m t) = codes "twist" ∷ member_text m ∷ twist_words t
line_words (lines.Inject m to bytes) = codes "inject" ∷ member_text m ∷ member_text to ∷ hex_text bytes ∷ []
line_words (lines.Speak m to bytes) = codes "speak" ∷ member_text m ∷ member_text to ∷ hex_text bytes ∷ []
line_words (lines.Replay p to) = codes "replay" ∷ decimal p ∷ member_text to ∷ []
line_words (lines.Lure j i r) = codes "lure" ∷ server_text j ∷ client_text i ∷ decimal r.0 ∷ []
line_words (lines.Complete j r) = codes "complete" ∷ server_text j ∷ decimal r.0 ∷ []
line_words lines.End = codes "end" ∷ []

-- ---- the limits of a line

abbrev pub IsIn : ℕ → ℕ → ℕ → Type 0
IsIn low high n = (low ≤ n) × (n ≤ high)

abbrev pub IsMemberOf : Group → Member → Type 0
IsMemberOf g (Client i) = i.0 < g.clients
IsMemberOf g (Server j) = j.0 < g.servers

abbrev pub IsCorruptIn : Group → Member → Type 0
IsCorruptIn g m = IsMemberOf g m × (is_among m g.corrupt ≡ true)

abbrev pub IsHonestIn : Group → Member → Type 0
IsHonestIn g m = IsMemberOf g m × (is_among m g.corrupt ≡ false)

abbrev pub IsHonestClientIn : Group → Member → Type 0
IsHonestClientIn g (Client i) = IsHonestIn g (Client i)
IsHonestClientIn g (Server j) = ⊥

abbrev pub IsBytesOf : ℕ → ℕ → List ℕ → Type 0
IsBytesOf low high bytes = IsIn low high (length bytes) × IsBytes bytes

abbrev pub IsPlace : Option ℕ → Type 0
IsPlace None = Unit {0}
IsPlace (Some k) = k < MAX_BITS

-- no member stands twice, and none stands among those before
abbrev pub IsOnce : List Member → List Member → Type 0
IsOnce before [] = Unit {0}
IsOnce before (m ∷ members) = (is_among m before ≡ false) × IsOnce (before ++ m ∷ []) members

-- two of the twists are those of servers alone
abbrev pub FitsTwist : Context → Member → Twist → Type 0
FitsTwist c m (twists.Flip k) = k < MAX_BITS
FitsTwist c m (twists.Jam i) = i.0 < c.clients
FitsTwist c m (twists.Reveal k) = (is_client m ≡ false) × (k < MAX_BITS)
FitsTwist c m (twists.Frame i) = (is_client m ≡ false) × (i.0 < c.clients)
FitsTwist c m twists.Mute = Unit {0}

-- a line that may stand behind what has been read, and keeps its limits
abbrev pub Stands : Context → ScriptLine → Type 0
Stands c (lines.Plain n m b s) = (c.form ≡ forms.Nothing) × IsIn 1 MAX_CLIENTS n × IsIn 1 MAX_SERVERS m × IsIn 1 MAX_BITS b × IsBytesOf 32 32 s
Stands c (lines.PlainSay i message) =
    (c.form ≡ forms.Plain) × (i.0 < c.clients) × (is_among (Client i) c.said ≡ false)
    × IsBytesOf ((c.bits + 7) / 8) ((c.bits + 7) / 8) message × (has_bits_behind c.bits message ≡ false)
Stands c (lines.PlainSubmit i) = (c.form ≡ forms.Plain) × (i.0 < c.clients)
Stands c lines.PlainClose = c.form ≡ forms.Plain
Stands c (lines.Group v n m ots clms slms s) =
    (c.form ≡ forms.Nothing) × IsIn 1 2 v × IsIn 1 MAX_CLIENTS n × IsIn 1 MAX_SERVERS m × IsIn 1 4 ots × IsIn 5 6 clms × IsIn 5 7 slms × IsBytesOf 32 32 s
Stands c (lines.Corrupt members) =
    (c.form ≡ forms.Group) × (c.after_group ≡ true) × (1 ≤ length members) × AllByRecursion (IsMemberOf (group_in c)) members × IsOnce [] members
Stands c (lines.Say i text) = (c.form ≡ forms.Group) × (i.0 < c.clients) × IsBytesOf 0 MAX_TEXT text
Stands c (lines.Open j r) = (c.form ≡ forms.Group) × (j.0 < c.servers) × IsIn 1 MAX_ROUND r.0
Stands c (lines.Close j) = (c.form ≡ forms.Group) × (j.0 < c.servers)
Stands c (lines.Abandon j) = (c.form ≡ forms.Group) × (j.0 < c.servers)
Stands c (lines.Submit i j r) = (c.form ≡ forms.Group) × (i.0 < c.clients) × (j.0 < c.servers) × IsIn 1 MAX_ROUND r.0
Stands c (lines.Deliver id) = (c.form ≡ forms.Group) × IsIn 0 18446744073709551615 id
Stands c (lines.Lose id) = (c.form ≡ forms.Group) × IsIn 0 18446744073709551615 id
Stands c (lines.Cut m n) = (c.form ≡ forms.Group) × IsMemberOf (group_in c) m × IsMemberOf (group_in c) n
Stands c (lines.Flow k) = (c.form ≡ forms.Group) × IsIn 1 MAX_FLOW k
Stands c (lines.Tick k) = ((c.form ≡ forms.Plain) ⊎ (c.form ≡ forms.Group)) × IsIn 1 MAX_TICKS k
Stands c (lines.Leave i) = (c.form ≡ forms.Group) × (i.0 < c.clients)
Stands c (lines.Accuse i r k) = (c.form ≡ forms.Group) × (i.0 < c.clients) × IsIn 1 MAX_ROUND r.0 × IsPlace k
Stands c (lines.Judge r k) = (c.form ≡ forms.Group) × IsIn 1 MAX_ROUND r.0 × IsPlace k
Stands c (lines.Race j w clients) =
    (c.form ≡ forms.Group) × IsHonestIn (group_in c) (Server j) × IsIn 1 MAX_RACE_WORKERS w × IsIn 1 MAX_RACE_LIST (length clients) × AllByRecursion (IsHonestClientIn (group_in c)) clients
Stands c (lines.Live t) = (c.form ≡ forms.Group) × IsIn 1 MAX_LIVE_TURNS t
Stands c (lines.Twist m t) = (c.form ≡ forms.Group) × IsCorruptIn (group_in c) m × FitsTwist c m t
Stands c (lines.Inject m to bytes) = (c.form ≡ forms.Group) × IsCorruptIn (group_in c) m × IsMemberOf (group_in c) to × IsBytes bytes
Stands c (lines.Speak m to bytes) = (c.form ≡ forms.Group) × IsCorruptIn (group_in c) m × IsMemberOf (group_in c) to × IsBytes bytes
Stands c (lines.Replay p to) = (c.form ≡ forms.Group) × IsIn 0 18446744073709551615 p × IsMemberOf (group_in c) to
Stands c (lines.Lure j i r) = (c.form ≡ forms.Group) × IsCorruptIn (group_in c) (Server j) × (i.0 < c.clients) × IsIn 1 MAX_ROUND r.0
Stands c (lines.Complete j r) = (c.form ≡ forms.Group) × IsCorruptIn (group_in c) (Server j) × IsIn 1 MAX_ROUND r.0
Stands c lines.End = (c.form ≡ forms.Plain) ⊎ (c.form ≡ forms.Group)

-- ---- a script

-- the lines of a script stand where they stand, none behind the end, and the last is the end
abbrev pub IsLegal : Context → Lines → Type 0
IsLegal c [] = c.ended ≡ true
IsLegal c (line ∷ script) = (c.ended ≡ false) × Stands c line.1 × IsLegal (with_line c line.1) script

-- a line's text spells it
abbrev pub SpellsLine : List ℕ → ScriptLine → Type 0
SpellsLine text line = (list_all is_plain_byte text ≡ true) × (words_in text ≡ line_words line)

-- the parts of a text, the first of them line n, spell the lines of a script; the last part is what stands behind the last line feed
pub data SpellsParts : List (List ℕ) → ℕ → Lines → Type 0 where
  no_more : (n : ℕ) → SpellsParts ([] ∷ []) n []
  last_idle : (part : List ℕ) (n : ℕ) → is_idle (words_in part) ≡ true → SpellsParts (part ∷ []) n []
  last_line : (part : List ℕ) (n : ℕ) (line : ScriptLine) → SpellsLine part line → SpellsParts (part ∷ []) n ((n, line) ∷ [])
  next_idle : (part next : List ℕ) (parts : List (List ℕ)) (n : ℕ) (script : Lines) → is_idle (words_in (without_return part)) ≡ true
      → SpellsParts (next ∷ parts) (n + 1) script → SpellsParts (part ∷ next ∷ parts) n script
  next_line : (part next : List ℕ) (parts : List (List ℕ)) (n : ℕ) (line : ScriptLine) (script : Lines) → SpellsLine (without_return part) line
      → SpellsParts (next ∷ parts) (n + 1) script → SpellsParts (part ∷ next ∷ parts) n ((n, line) ∷ script)

-- the text is a spelling of a script that keeps its limits and has at most as many lines as a script may have
pub record Spells (text : List ℕ) (script : Lines) : Type 0 where
  pub legal : IsLegal nothing_yet script
  pub few : length script ≤ line_limit
  pub spelled : SpellsParts (slice_split (λ b. b == 10) text) 1 script
