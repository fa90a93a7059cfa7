-- A list of entries as a text: `entry HEX` for each and `end` last, with the spacing, the comments and the line ends of scripts. What it
-- says, or the first line with which something is wrong, and the first of the causes that hold there.
use Rattle.std.specs.Prelude.{ℕ, ◌+◌, nat_le, ◌==◌, ◌&&◌, ◌||◌, not, Bool, true, false, List, [], ◌∷◌, ◌++◌, length, codes, Option, Some, None, Result, Ok, Err, if◌then◌else◌}
use Rattle.std.specs.List.{list_all}
use Rattle.std.specs.Str.{bytes_eq}
use Rattle.dn_io.specs.declared.cause.Cause.{Cause}
use Rattle.dn_io.specs.declared.cause.Cause.TheVariants as causes
use Rattle.dn_script.specs.Words.{words_in, has}
use Rattle.dn_script.specs.Judged.{bytes_within}
use Rattle.dn_script.specs.Row.{one, made, counted}
use Rattle.dn_script.specs.Script.{is_plain_byte, is_idle, unless, without_return, parts_of}
use Rattle.dn_notary.specs.declared.limits.TheConstants.{MAX_ENTRIES, MAX_ENTRY}
use Rattle.dn_notary.specs.declared.list_line.ListLine.{ListLine}
use Rattle.dn_notary.specs.declared.list_line.ListLine.TheVariants as lines

-- what has been read: the entries in order, and whether the last line was
pub record Listed : Type 0 where
  pub entries : List (List ℕ)
  pub ended : Bool

abbrev pub nothing_yet : Listed
nothing_yet = record { entries = []; ended = false }

-- ---- a line

abbrev pub is_entry_word : List ℕ → Bool
is_entry_word word = bytes_eq word (codes "entry")

abbrev pub is_word : List ℕ → Bool
is_word word = is_entry_word word || bytes_eq word (codes "end")

-- a line of this word is one entry more than a list may have
abbrev pub is_too_many : Listed → List ℕ → Bool
is_too_many listed word = is_entry_word word && nat_le MAX_ENTRIES (length listed.entries)

-- The causes of a line in their order, each with its test; behind them come those of its fields.
abbrev pub line_tests : Listed → List ℕ → List ℕ → List (Bool × Cause)
line_tests listed line word =
    (not (list_all is_plain_byte line), causes.Bytes)
    ∷ (is_too_many listed word, causes.Many)
    ∷ (not (is_word word), causes.Word)
    ∷ (listed.ended, causes.Order)
    ∷ []

unfoldable pub read_entry : List (List ℕ) → Result ListLine Cause
read_entry fields = made (λ x. lines.Entry x) (counted (has 1 1 fields) (one (bytes_within 0 MAX_ENTRY)) fields)

unfoldable pub read_end : List (List ℕ) → Result ListLine Cause
read_end fields = if has 0 0 fields then Ok lines.End else Err causes.Fields

-- what a line that counts says
unfoldable pub read_counted : Listed → List ℕ → List (List ℕ) → Result ListLine Cause
read_counted listed line [] = Err causes.Word
read_counted listed line (word ∷ fields) =
    unless (line_tests listed line word) (if is_entry_word word then read_entry fields else read_end fields)

-- what a line says where it counts; None where it doesn't
abbrev pub line_in : Listed → List ℕ → Result (Option ListLine) Cause
line_in listed line =
    if is_idle (words_in line) then Ok None else made (λ x. Some x) (read_counted listed line (words_in line))

-- ---- a text

-- what has been read, with a line more
abbrev pub with_line : Listed → Option ListLine → Listed
with_line listed None = listed
with_line listed (Some (lines.Entry entry)) = record listed { entries = listed.entries ++ entry ∷ [] }
with_line listed (Some lines.End) = record listed { ended = true }

-- the entries, or the first bad line and the cause
abbrev pub Read : Type 0
Read = Result (List (List ℕ)) (ℕ × Cause)

-- where the text ends before line n
abbrev pub at_end : Listed → ℕ → Read
at_end listed n = if listed.ended then Ok listed.entries else Err (n, causes.Missing)

-- line n says this, and behind it the rest is read
abbrev pub then_rest : Listed → ℕ → Result (Option ListLine) Cause → (Listed → Read) → Read
then_rest listed n (Ok line) rest = rest (with_line listed line)
then_rest listed n (Err cause) rest = Err (n, cause)

abbrev pub read_next : Listed → ℕ → List ℕ → (Listed → Read) → Read
read_next listed n line rest = then_rest listed n (line_in listed line) rest

-- what stands behind the last line feed, as line n
abbrev pub read_last : Listed → ℕ → List ℕ → Read
read_last listed n line = if length line == 0 then at_end listed n else read_next listed n line (λ l. at_end l (n + 1))

-- the lines of the parts of a text between line feeds, the first of them line n
unfoldable pub read_parts : List (List ℕ) → Listed → ℕ → Read
read_parts [] listed n = at_end listed n
read_parts (line ∷ []) listed n = read_last listed n line
read_parts (line ∷ next ∷ parts) listed n = read_next listed n (without_return line) (λ l. read_parts (next ∷ parts) l (n + 1))

-- the entries that a text lists, or its first bad line and the cause
unfoldable pub entries_of : List ℕ → Read
entries_of text = read_parts (parts_of text) nothing_yet 1
