-- A signed list of entries as a text, in which each line has one spelling.
use Rattle.std.specs.Prelude.{◌≡◌, ℕ, ◌≤◌, nat_le, List, [], ◌∷◌, ◌++◌, length, replicate, codes, slice_index_or, Option, None, if◌then◌else◌}
use Rattle.std.specs.Fmt.{decimal}
use Rattle.std.specs.Int.{w64, to_be_bytes}
use Rattle.std.specs.List.{All, flat_map, range_with_len}
use Rattle.std.specs.Str.{bytes_eq}
use Rattle.hex.specs.Hex.{IsBytes}
use Rattle.dn_lines.specs.Field.{made}
use Rattle.dn_lines.specs.Form.{Form, last, ◌▸◌, only, spaced}
use Rattle.dn_lines.specs.Fields.{hex_text, long_number, bytes}
use Rattle.dn_hss.specs.Hss.{TwoLevelKey, hss_public_key, hss_signature}
use Rattle.dn_notary.specs.declared.limits.TheConstants.{MAX_ENTRIES, MAX_ENTRY}
use Rattle.dn_notary.specs.declared.sign_line.SignLine.{SignLine}

-- ---- lines, without their line feeds

abbrev pub head_text : List ℕ
head_text = codes "dissent-notary 1"

abbrev pub end_text : List ℕ
end_text = codes "end"

-- the line of a public key, and of a signed entry
abbrev pub key_text : List ℕ → List ℕ
key_text key = spaced (codes "key" ∷ hex_text key ∷ [])

abbrev pub sign_text : SignLine → List ℕ
sign_text s = spaced (codes "sign" ∷ decimal s.q ∷ hex_text s.entry ∷ hex_text s.signature ∷ [])

-- a public key of two levels has so many bytes
abbrev pub IsKeyBytes : List ℕ → Type 0
IsKeyBytes key = IsBytes key × (length key ≡ 60)

-- an entry within its limits, and a list of such, with at most as many as a list may have
abbrev pub FitsEntry : List ℕ → Type 0
FitsEntry entry = IsBytes entry × (length entry ≤ MAX_ENTRY)

pub record IsList (entries : List (List ℕ)) : Type 0 where
  pub few : length entries ≤ MAX_ENTRIES
  pub fit : All FitsEntry entries

-- a signed entry whose parts are within their limits
pub record FitsSign (s : SignLine) : Type 0 where
  pub number : s.q ≤ 18446744073709551615
  pub entry_bytes : IsBytes s.entry
  pub short : length s.entry ≤ MAX_ENTRY
  pub signature_bytes : IsBytes s.signature

-- ---- how a line is read

-- behind this word
abbrev pub behind_word : {A : Type 0} → List ℕ → (List (List ℕ) → Option A) → List (List ℕ) → Option A
behind_word word read [] = None
behind_word word read (first ∷ fields) = if bytes_eq first word then read fields else None

-- the fields of a signed entry behind its word
abbrev pub sign_form : Form (ℕ × (List ℕ × List ℕ))
sign_form = only (λ x. nat_le (length x.1.0) MAX_ENTRY) (long_number ▸ bytes ▸ last bytes)

abbrev pub sign_line : ℕ × (List ℕ × List ℕ) → SignLine
sign_line x = record { q = x.0; entry = x.1.0; signature = x.1.1 }

unfoldable pub read_sign : List (List ℕ) → Option SignLine
read_sign fields = made sign_line (sign_form.read fields)

unfoldable pub read_key : List (List ℕ) → Option (List ℕ)
read_key fields = (last bytes).read fields

-- ---- what the notary of a number writes

-- the notary's key: its seed is 24 zeros and the number in eight bytes, the high one first
abbrev pub seed_of : ℕ → List ℕ
seed_of num = replicate 24 0 ++ to_be_bytes w64 num

abbrev pub notary_key : ℕ → TwoLevelKey
notary_key num = record { lms = 5; ots = 3; seed = seed_of num }

-- a line, with its line feed
abbrev pub line : List ℕ → List ℕ
line text = text ++ codes "\n"

-- the line of entry q
abbrev pub signed : TwoLevelKey → ℕ → List ℕ → SignLine
signed key q entry = record { q = q; entry = entry; signature = hss_signature key q entry }

abbrev pub signed_line : TwoLevelKey → List (List ℕ) → ℕ → List ℕ
signed_line key entries q = line (sign_text (signed key q (slice_index_or entries q [])))

-- the lines of the first entries
unfoldable pub signed_lines : TwoLevelKey → List (List ℕ) → ℕ → List ℕ
signed_lines key entries count = flat_map (signed_line key entries) (range_with_len 0 count)

unfoldable pub notary_text : ℕ → List (List ℕ) → List ℕ
notary_text num entries =
    line head_text ++ line (key_text (hss_public_key (notary_key num))) ++ signed_lines (notary_key num) entries (length entries) ++ line end_text
