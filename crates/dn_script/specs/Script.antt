-- Scripts of both forms: where a line may stand, what it says, and the first line with which something is wrong.
use Rattle.std.specs.Prelude.{◌≡◌, ℕ, ◌+◌, ◌-◌, ◌*◌, ◌/◌, ◌%◌, ◌^◌, nat_lt, nat_le, ◌==◌, ◌&&◌, ◌||◌, not, Bool, true, false, List, [], ◌∷◌, ◌++◌, length, slice_index, take, codes, Option, Some, None, Result, Ok, Err, if◌then◌else◌}
use Rattle.std.specs.Fmt.{decimal}
use Rattle.std.specs.List.{slice_split, list_all}
use Rattle.std.specs.Str.{bytes_eq}
use Rattle.dn_io.specs.declared.cause.Cause.{Cause}
use Rattle.dn_io.specs.declared.cause.Cause.TheVariants as causes
use Rattle.dn_wire.specs.declared.limits.TheConstants.{MAX_BITS, MAX_CLIENTS, MAX_FLOW, MAX_LIVE_TURNS, MAX_RACE_LIST, MAX_RACE_WORKERS, MAX_ROUND, MAX_SCRIPT_LINES, MAX_SERVERS, MAX_TEXT, MAX_TICKS}
use Rattle.dn_wire.specs.declared.ids.ClientId.{ClientId}
use Rattle.dn_wire.specs.declared.ids.Round.{Round}
use Rattle.dn_wire.specs.declared.ids.Member.{Member}
use Rattle.dn_wire.specs.declared.ids.Member.TheVariants.{Client, Server}
use Rattle.dn_lines.specs.Fields.{hex_text}
use Rattle.dn_script.specs.declared.flaw.Flaw.TheVariants as flaws
use Rattle.dn_script.specs.Context.{Context, nothing_yet, group_in}
use Rattle.dn_script.specs.declared.context.Form.{Form}
use Rattle.dn_script.specs.declared.context.Form.TheVariants as forms
use Rattle.dn_script.specs.declared.script_line.ScriptLine.{ScriptLine}
use Rattle.dn_script.specs.declared.script_line.ScriptLine.TheVariants as lines
use Rattle.dn_script.specs.declared.script_line.Twist.TheVariants as twists
use Rattle.dn_script.specs.Words.{words_in, has}
use Rattle.dn_script.specs.Judged.{Judged, Group, judge, within, bytes_within, any_bytes, bytes_or_none, is_numeral, client_in, server_in, member_in, corrupt_member, corrupt_server, honest_server, honest_client, is_among}
use Rattle.dn_script.specs.Row.{Row, ◌>>=◌, one, ◌▹◌, every, made, counted, in_field}

-- ---- fields

abbrev pub seen : {A B : Type 0} → (A → B) → (B → A) → Judged A → Judged B
seen to back f = record { spell = λ b. f.spell (back b); tests = f.tests; value = λ text. to (f.value text) }

-- a client's number without its letter
abbrev pub client_number : ℕ → Judged ClientId
client_number clients = seen (λ n. record { 0 = n }) (λ i. i.0) (within 0 (clients - 1))

abbrev pub round : Judged Round
round = seen (λ n. record { 0 = n }) (λ r. r.0) (within 1 MAX_ROUND)

abbrev pub place : Judged ℕ
place = within 0 (MAX_BITS - 1)

abbrev pub any_number : Judged ℕ
any_number = within 0 18446744073709551615

abbrev pub seed : Judged (List ℕ)
seed = bytes_within 32 32

-- a bit of the bytes behind the first n is set
abbrev pub has_bits_behind : ℕ → List ℕ → Bool
has_bits_behind n bytes = not (slice_index bytes (length bytes - 1) % 2 ^ (8 * length bytes - n) == 0)

-- n bits as bytes, with zeros behind the last
abbrev pub bits : ℕ → Judged (List ℕ)
bits n = record {
  spell = hex_text;
  tests = λ text. (bytes_within ((n + 7) / 8) ((n + 7) / 8)).tests text ++ (has_bits_behind n (bytes_or_none text), flaws.Range) ∷ [];
  value = bytes_or_none;
}

abbrev pub place_text : Option ℕ → List ℕ
place_text None = codes "first"
place_text (Some k) = decimal k

-- a place, or `first` for none
abbrev pub place_or_first : Judged (Option ℕ)
place_or_first = record {
  spell = place_text;
  tests = λ text. if bytes_eq text (codes "first") then [] else place.tests text;
  value = λ text. if bytes_eq text (codes "first") then None else Some (place.value text);
}

-- ---- lines

-- A kind of line: its word, and what the fields behind it say.
pub record Kind : Type 0 where
  pub word : List ℕ
  pub read : List (List ℕ) → Result ScriptLine Cause

abbrev pub fixed : {A : Type 0} → ℕ → (A → ScriptLine) → Row A → List (List ℕ) → Result ScriptLine Cause
fixed n to row fields = made to (counted (has n n fields) row fields)

-- a line without fields
abbrev pub bare : ScriptLine → List (List ℕ) → Result ScriptLine Cause
bare line fields = if has 0 0 fields then Ok line else Err causes.Fields

unfoldable pub read_plain : List (List ℕ) → Result ScriptLine Cause
read_plain fields = fixed 4 (λ x. lines.Plain x.0 x.1.0 x.1.1.0 x.1.1.1) (within 1 MAX_CLIENTS ▹ within 1 MAX_SERVERS ▹ within 1 MAX_BITS ▹ one seed) fields

unfoldable pub read_plain_say : ℕ → ℕ → List (List ℕ) → Result ScriptLine Cause
read_plain_say clients n fields = fixed 2 (λ x. lines.PlainSay x.0 x.1) (client_number clients ▹ one (bits n)) fields

unfoldable pub read_plain_submit : ℕ → List (List ℕ) → Result ScriptLine Cause
read_plain_submit clients fields = fixed 1 (λ x. lines.PlainSubmit x) (one (client_number clients)) fields

unfoldable pub read_tick : List (List ℕ) → Result ScriptLine Cause
read_tick fields = fixed 1 (λ x. lines.Tick x) (one (within 1 MAX_TICKS)) fields

unfoldable pub read_group : ℕ → List (List ℕ) → Result ScriptLine Cause
read_group version fields =
    fixed 6 (λ x. lines.Group version x.0 x.1.0 x.1.1.0 x.1.1.1.0 x.1.1.1.1.0 x.1.1.1.1.1)
    (within 1 MAX_CLIENTS ▹ within 1 MAX_SERVERS ▹ within 1 4 ▹ within 5 6 ▹ within 5 7 ▹ one seed) fields

-- the first of some members that stands among those before it, counted on from n
unfoldable pub first_again : ℕ → List Member → List Member → Option ℕ
first_again n before [] = None
first_again n before (m ∷ members) = if is_among m before then Some n else first_again (n + 1) (before ++ m ∷ []) members

-- members, each once: each is tested before the one behind it
unfoldable pub read_once : Group → ℕ → List Member → List (List ℕ) → Result (List Member) Cause
read_once g n before [] = Ok before
read_once g n before (text ∷ fields) =
    in_field n (judge (member_in g) text)
    >>= λ m. if is_among m before then Err (causes.Range n) else read_once g (n + 1) (before ++ m ∷ []) fields

unfoldable pub read_corrupt : Group → List (List ℕ) → Result ScriptLine Cause
read_corrupt g fields = if has 0 0 fields then Err causes.Fields else made (λ x. lines.Corrupt x) (read_once g 1 [] fields)

unfoldable pub read_say : Group → List (List ℕ) → Result ScriptLine Cause
read_say g fields = fixed 2 (λ x. lines.Say x.0 x.1) (client_in g ▹ one (bytes_within 0 MAX_TEXT)) fields

unfoldable pub read_open : Group → List (List ℕ) → Result ScriptLine Cause
read_open g fields = fixed 2 (λ x. lines.Open x.0 x.1) (server_in g ▹ one round) fields

unfoldable pub read_close : Group → List (List ℕ) → Result ScriptLine Cause
read_close g fields = fixed 1 (λ x. lines.Close x) (one (server_in g)) fields

unfoldable pub read_abandon : Group → List (List ℕ) → Result ScriptLine Cause
read_abandon g fields = fixed 1 (λ x. lines.Abandon x) (one (server_in g)) fields

unfoldable pub read_submit : Group → List (List ℕ) → Result ScriptLine Cause
read_submit g fields = fixed 3 (λ x. lines.Submit x.0 x.1.0 x.1.1) (client_in g ▹ server_in g ▹ one round) fields

unfoldable pub read_deliver : List (List ℕ) → Result ScriptLine Cause
read_deliver fields = fixed 1 (λ x. lines.Deliver x) (one any_number) fields

unfoldable pub read_lose : List (List ℕ) → Result ScriptLine Cause
read_lose fields = fixed 1 (λ x. lines.Lose x) (one any_number) fields

unfoldable pub read_cut : Group → List (List ℕ) → Result ScriptLine Cause
read_cut g fields = fixed 2 (λ x. lines.Cut x.0 x.1) (member_in g ▹ one (member_in g)) fields

unfoldable pub read_flow : List (List ℕ) → Result ScriptLine Cause
read_flow fields = fixed 1 (λ x. lines.Flow x) (one (within 1 MAX_FLOW)) fields

unfoldable pub read_leave : Group → List (List ℕ) → Result ScriptLine Cause
read_leave g fields = fixed 1 (λ x. lines.Leave x) (one (client_in g)) fields

unfoldable pub read_accuse : Group → List (List ℕ) → Result ScriptLine Cause
read_accuse g fields = fixed 3 (λ x. lines.Accuse x.0 x.1.0 x.1.1) (client_in g ▹ round ▹ one place_or_first) fields

unfoldable pub read_judge : List (List ℕ) → Result ScriptLine Cause
read_judge fields =
    if has 1 1 fields then made (λ r. lines.Judge r None) ((one round).read 1 fields)
    else fixed 2 (λ x. lines.Judge x.0 (Some x.1)) (round ▹ one place) fields

-- one client at least, and at most so many as a race may have
unfoldable pub read_race : Group → List (List ℕ) → Result ScriptLine Cause
read_race g fields =
    made (λ x. lines.Race x.0 x.1.0 x.1.1)
    (counted (has 3 (MAX_RACE_LIST + 2) fields) (honest_server g ▹ within 1 MAX_RACE_WORKERS ▹ every (honest_client g)) fields)

unfoldable pub read_live : List (List ℕ) → Result ScriptLine Cause
read_live fields = fixed 1 (λ x. lines.Live x) (one (within 1 MAX_LIVE_TURNS)) fields

unfoldable pub read_inject : Group → List (List ℕ) → Result ScriptLine Cause
read_inject g fields = fixed 3 (λ x. lines.Inject x.0 x.1.0 x.1.1) (corrupt_member g ▹ member_in g ▹ one any_bytes) fields

unfoldable pub read_speak : Group → List (List ℕ) → Result ScriptLine Cause
read_speak g fields = fixed 3 (λ x. lines.Speak x.0 x.1.0 x.1.1) (corrupt_member g ▹ member_in g ▹ one any_bytes) fields

unfoldable pub read_replay : Group → List (List ℕ) → Result ScriptLine Cause
read_replay g fields = fixed 2 (λ x. lines.Replay x.0 x.1) (any_number ▹ one (member_in g)) fields

unfoldable pub read_lure : Group → List (List ℕ) → Result ScriptLine Cause
read_lure g fields = fixed 3 (λ x. lines.Lure x.0 x.1.0 x.1.1) (corrupt_server g ▹ client_in g ▹ one round) fields

unfoldable pub read_complete : Group → List (List ℕ) → Result ScriptLine Cause
read_complete g fields = fixed 2 (λ x. lines.Complete x.0 x.1) (corrupt_server g ▹ one round) fields

-- ---- twists

abbrev pub is_client : Member → Bool
is_client (Client i) = true
is_client (Server j) = false

-- field 2 is a word of the other kind of member
abbrev pub server_alone : Member → Result (Unit {0}) Cause
server_alone m = if is_client m then Err (causes.Range 2) else Ok tt

-- a twist of this word: of whom, and what else
unfoldable pub read_twist_of : Group → List ℕ → List ℕ → List (List ℕ) → Result ScriptLine Cause
read_twist_of g who word rest =
    if bytes_eq word (codes "mute") then
    (if has 0 0 rest then (in_field 1 (judge (corrupt_member g) who) >>= λ m. Ok (lines.Twist m twists.Mute)) else Err causes.Fields)
    else (if not (has 1 1 rest) then Err causes.Fields
    else (if bytes_eq word (codes "flip") then
    (in_field 1 (judge (corrupt_member g) who) >>= λ m. (one place).read 3 rest >>= λ k. Ok (lines.Twist m (twists.Flip k)))
    else (if bytes_eq word (codes "jam") then
    (in_field 1 (judge (corrupt_member g) who) >>= λ m. (one (client_in g)).read 3 rest >>= λ i. Ok (lines.Twist m (twists.Jam i)))
    else (if bytes_eq word (codes "reveal") then
    (in_field 1 (judge (corrupt_member g) who) >>= λ m. server_alone m >>= λ y. (one place).read 3 rest >>= λ k. Ok (lines.Twist m (twists.Reveal k)))
    else (if bytes_eq word (codes "frame") then
    (in_field 1 (judge (corrupt_member g) who) >>= λ m. server_alone m >>= λ y. (one (client_in g)).read 3 rest >>= λ i. Ok (lines.Twist m (twists.Frame i)))
    else Err causes.Fields)))))

abbrev pub read_twist : Group → List (List ℕ) → Result ScriptLine Cause
read_twist g [] = Err causes.Fields
read_twist g (who ∷ []) = Err causes.Fields
read_twist g (who ∷ word ∷ rest) = read_twist_of g who word rest

-- ---- words, and where they may stand

-- the lines that may be first
abbrev pub opening_kinds : List Kind
opening_kinds =
    record { word = codes "plain"; read = read_plain } ∷ record { word = codes "group"; read = read_group 2 }
    ∷ record { word = codes "group1"; read = read_group 1 } ∷ []

-- behind the first line of a plain script of so many clients and bits
abbrev pub plain_kinds : ℕ → ℕ → List Kind
plain_kinds clients n =
    record { word = codes "say"; read = read_plain_say clients n } ∷ record { word = codes "submit"; read = read_plain_submit clients }
    ∷ record { word = codes "tick"; read = read_tick } ∷ record { word = codes "close"; read = bare lines.PlainClose }
    ∷ record { word = codes "end"; read = bare lines.End } ∷ []

-- behind the first line of a group script
abbrev pub group_kinds : Group → List Kind
group_kinds g =
    record { word = codes "corrupt"; read = read_corrupt g } ∷ record { word = codes "say"; read = read_say g }
    ∷ record { word = codes "open"; read = read_open g } ∷ record { word = codes "close"; read = read_close g }
    ∷ record { word = codes "abandon"; read = read_abandon g } ∷ record { word = codes "submit"; read = read_submit g }
    ∷ record { word = codes "deliver"; read = read_deliver } ∷ record { word = codes "lose"; read = read_lose }
    ∷ record { word = codes "cut"; read = read_cut g } ∷ record { word = codes "flow"; read = read_flow }
    ∷ record { word = codes "tick"; read = read_tick } ∷ record { word = codes "leave"; read = read_leave g }
    ∷ record { word = codes "accuse"; read = read_accuse g } ∷ record { word = codes "judge"; read = read_judge }
    ∷ record { word = codes "race"; read = read_race g } ∷ record { word = codes "live"; read = read_live }
    ∷ record { word = codes "twist"; read = read_twist g } ∷ record { word = codes "inject"; read = read_inject g }
    ∷ record { word = codes "speak"; read = read_speak g } ∷ record { word = codes "replay"; read = read_replay g }
    ∷ record { word = codes "lure"; read = read_lure g } ∷ record { word = codes "complete"; read = read_complete g }
    ∷ record { word = codes "end"; read = bare lines.End } ∷ []

-- the kinds of lines that may stand behind what has been read, but for their order
abbrev pub kinds_of : Form → Context → List Kind
kinds_of forms.Nothing c = opening_kinds
kinds_of forms.Plain c = plain_kinds c.clients c.bits
kinds_of forms.Group c = group_kinds (group_in c)

-- the words of the lines that may be first, and of those behind them in each form
abbrev pub opening_words : List (List ℕ)
opening_words = codes "plain" ∷ codes "group" ∷ codes "group1" ∷ []

abbrev pub plain_words : List (List ℕ)
plain_words = codes "say" ∷ codes "submit" ∷ codes "tick" ∷ codes "close" ∷ codes "end" ∷ []

abbrev pub group_words : List (List ℕ)
group_words = codes "corrupt" ∷ codes "say" ∷ codes "open" ∷ codes "close" ∷ codes "abandon" ∷ codes "submit" ∷ codes "deliver" ∷ codes "lose" ∷ codes "cut" ∷ codes "flow" ∷ codes "tick" ∷ codes "leave" ∷ codes "accuse" ∷ codes "judge" ∷ codes "race" ∷ codes "live" ∷ codes "twist" ∷ codes "inject" ∷ codes "speak" ∷ codes "replay" ∷ codes "lure" ∷ codes "complete" ∷ codes "end" ∷ []

abbrev pub is_listed : List (List ℕ) → List ℕ → Bool
is_listed [] word = false
is_listed (w ∷ words) word = bytes_eq word w || is_listed words word

-- the words that may stand behind what has been read, but for their order
abbrev pub words_of : Form → List (List ℕ)
words_of forms.Nothing = opening_words
words_of forms.Plain = plain_words
words_of forms.Group = group_words

-- whether it is a word of either form of script
abbrev pub is_word : List ℕ → Bool
is_word word = is_listed opening_words word || (is_listed plain_words word || is_listed group_words word)

-- the line of the kind whose word it is
abbrev pub read_kind : List Kind → List ℕ → List (List ℕ) → Result ScriptLine Cause
read_kind [] word fields = Err causes.Order
read_kind (k ∷ kinds) word fields = if bytes_eq word k.word then k.read fields else read_kind kinds word fields

-- the first field spells a client for which something was said
abbrev pub says_again : List Member → List (List ℕ) → Bool
says_again said [] = false
says_again said (text ∷ fields) = is_numeral text && is_among (Client ((client_number 0).value text)) said

-- the lines of a plain script that speak for a client again
abbrev pub speaks_again : Form → Context → List ℕ → List (List ℕ) → Bool
speaks_again forms.Plain c word fields = bytes_eq word (codes "say") && says_again c.said fields
speaks_again form c word fields = false

-- whether a line of a word of some form may not stand behind what has been read
abbrev pub is_misplaced : Context → List ℕ → List (List ℕ) → Bool
is_misplaced c word fields =
    not (is_listed (words_of c.form) word)
    || (c.ended
    || ((bytes_eq word (codes "corrupt") && not c.after_group)
    || speaks_again c.form c word fields))

-- ---- a line

-- a tab, or a character from the blank to the tilde
abbrev pub is_plain_byte : ℕ → Bool
is_plain_byte b = b == 9 || (nat_le 32 b && nat_le b 126)

-- a blank line, or one whose first word begins with `#`
abbrev pub is_idle : List (List ℕ) → Bool
is_idle [] = true
is_idle (word ∷ words) = slice_index word 0 == 35

abbrev pub line_limit : ℕ
line_limit = MAX_SCRIPT_LINES

-- The causes of a line in their order, each with its test; behind them come those of its fields.
abbrev pub line_tests : Context → ℕ → List ℕ → List ℕ → List (List ℕ) → List (Bool × Cause)
line_tests c count line word fields =
    (not (list_all is_plain_byte line), causes.Bytes)
    ∷ (nat_lt line_limit count, causes.Many)
    ∷ (not (is_word word), causes.Word)
    ∷ (is_misplaced c word fields, causes.Order)
    ∷ []

abbrev pub unless : {A : Type 0} → List (Bool × Cause) → Result A Cause → Result A Cause
unless [] read = read
unless (test ∷ tests) read = if test.0 then Err test.1 else unless tests read

-- what the line says that is the count-th of those that count
unfoldable pub read_counted : Context → ℕ → List ℕ → List (List ℕ) → Result ScriptLine Cause
read_counted c count line [] = Err causes.Word
read_counted c count line (word ∷ fields) = unless (line_tests c count line word fields) (read_kind (kinds_of c.form c) word fields)

-- ---- what has been read, with a line more

unfoldable pub with_line : Context → ScriptLine → Context
with_line c (lines.Plain n m b s) = record c { form = forms.Plain; clients = n; servers = m; bits = b; after_group = false }
with_line c (lines.Group v n m ots clms slms s) = record c { form = forms.Group; clients = n; servers = m; after_group = true }
with_line c (lines.PlainSay i message) = record c { said = c.said ++ Client i ∷ []; after_group = false }
with_line c (lines.Corrupt members) = record c { corrupt = members; after_group = false }
with_line c lines.End = record c { ended = true; after_group = false }
with_line c line = record c { after_group = false }

-- ---- a script

-- a line's text without the carriage return before its end
abbrev pub without_return : List ℕ → List ℕ
without_return line =
    if nat_lt 0 (length line) && (slice_index line (length line - 1) == 13) then take (length line - 1) line else line

-- lines with their numbers
abbrev pub Lines : Type 0
Lines = List (ℕ × ScriptLine)

-- the first bad line and the cause, where there is one
abbrev pub Parsed : Type 0
Parsed = Result Lines (ℕ × Cause)

-- what a text says where it counts, behind so many that count; None where it doesn't
abbrev pub line_in : Context → ℕ → List ℕ → Result (Option ScriptLine) Cause
line_in c count line =
    if is_idle (words_in line) then Ok None else made (λ x. Some x) (read_counted c (count + 1) line (words_in line))

-- some lines, and those that are read behind them
abbrev pub behind : Lines → Parsed → Parsed
behind front (Ok rest) = Ok (front ++ rest)
behind front (Err fault) = Err fault

-- where the text ends before line n
abbrev pub at_end : Context → ℕ → Parsed
at_end c n = if c.ended then Ok [] else Err (n, causes.Missing)

-- line n says this, and behind it the rest is read
abbrev pub then_rest : Context → ℕ → ℕ → Result (Option ScriptLine) Cause → (Context → ℕ → Parsed) → Parsed
then_rest c n count (Ok None) rest = rest c count
then_rest c n count (Ok (Some line)) rest = behind ((n, line) ∷ []) (rest (with_line c line) (count + 1))
then_rest c n count (Err cause) rest = Err (n, cause)

abbrev pub read_next : Context → ℕ → ℕ → List ℕ → (Context → ℕ → Parsed) → Parsed
read_next c n count line rest = then_rest c n count (line_in c count line) rest

-- what stands behind the last line feed, as line n
abbrev pub read_last : Context → ℕ → ℕ → List ℕ → Parsed
read_last c n count line = if length line == 0 then at_end c n else read_next c n count line (λ d k. at_end d (n + 1))

-- the lines of the parts of a text between line feeds, the first of them line n
unfoldable pub read_parts : List (List ℕ) → Context → ℕ → ℕ → Parsed
read_parts [] c n count = at_end c n
read_parts (line ∷ []) c n count = read_last c n count line
read_parts (line ∷ next ∷ parts) c n count =
    read_next c n count (without_return line) (λ d k. read_parts (next ∷ parts) d (n + 1) k)

abbrev pub parts_of : List ℕ → List (List ℕ)
parts_of text = slice_split (λ b. b == 10) text

-- the script that a text is, or its first bad line and the cause
unfoldable pub script_of : List ℕ → Parsed
script_of text = read_parts (parts_of text) nothing_yet 1 0

-- line n is the first bad one of the text, for this cause
abbrev pub IsFirstBad : List ℕ → ℕ → Cause → Type 0
IsFirstBad text n cause = script_of text ≡ Err (n, cause)
