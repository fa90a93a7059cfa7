-- The rules of a signed list of entries, and how a text is judged: accepted exactly where no line breaks a rule, or else by the first
-- line that breaks one, with the least rule that it breaks.
--
-- N1: the lines are those of a signed list in their order and their one spelling, each with its line feed, and the public key has 60
-- bytes. N2: each number is that of the signed entries above it, and the leaf numbers in its signature are the quotient and the rest of
-- it by 32. N3: each signature verifies for its entry under the public key.
use Rattle.std.specs.Prelude.{◌≡◌, ℕ, ◌+◌, ◌/◌, ◌%◌, ◌<◌, List, [], ◌∷◌, length}
use Rattle.dn_io.specs.declared.rule.Rule.TheVariants.{N}
use Rattle.dn_hss.specs.Hss.{HssVerifies}
use Rattle.dn_hss.specs.Leaves.{HasLeaves, leaves_in}
use Rattle.dn_notary.specs.Signed.{head_text, end_text, key_text, sign_text, IsKeyBytes, FitsSign}
use Rattle.dn_notary.specs.declared.sign_line.SignLine.{SignLine}
use Rattle.dn_notary.specs.declared.verdict.Verdict.{Verdict}
use Rattle.dn_notary.specs.declared.verdict.Verdict.TheVariants.{Accepted, Broken}

-- A text is seen as its parts between line feeds. The first of these is this line, with its line feed, and behind it stand the rest.
pub record HasLine (line : List ℕ) (parts rest : List (List ℕ)) : Type 0 where
  pub first : parts ≡ line ∷ rest
  pub ended : 0 < length rest

-- nothing stands behind the last line feed
abbrev pub none_left : List (List ℕ)
none_left = [] ∷ []

-- N2 of a signed entry, behind so many others
pub record HasItsLeaves (key : List ℕ) (count : ℕ) (s : SignLine) : Type 0 where
  pub number : s.q ≡ count
  pub carried : HasLeaves key s.signature
  pub leaves : leaves_in key s.signature ≡ (s.q / 32, s.q % 32)

-- N3 of a signed entry
abbrev pub IsVerified : List ℕ → SignLine → Type 0
IsVerified key s = HssVerifies key s.entry s.signature

-- the lines behind the public key, from line n on and behind so many signed entries, are judged so
pub data Judges (key : List ℕ) : List (List ℕ) → ℕ → ℕ → Verdict → Type 0 where
  no_line : (parts : List (List ℕ)) (n count : ℕ)
      → ((s : SignLine) (rest : List (List ℕ)) → FitsSign s → HasLine (sign_text s) parts rest → ⊥)
      → ((rest : List (List ℕ)) → HasLine end_text parts rest → ⊥)
      → Judges key parts n count (Broken n (N 1))
  last_line : (parts : List (List ℕ)) (n count : ℕ) → HasLine end_text parts none_left → Judges key parts n count (Accepted count)
  behind_last : (parts rest : List (List ℕ)) (n count : ℕ) → HasLine end_text parts rest → (rest ≡ none_left → ⊥)
      → Judges key parts n count (Broken (n + 1) (N 1))
  other_leaves : (parts rest : List (List ℕ)) (n count : ℕ) (s : SignLine) → HasLine (sign_text s) parts rest → FitsSign s
      → (HasItsLeaves key count s → ⊥) → Judges key parts n count (Broken n (N 2))
  unverified : (parts rest : List (List ℕ)) (n count : ℕ) (s : SignLine) → HasLine (sign_text s) parts rest → FitsSign s
      → HasItsLeaves key count s → (IsVerified key s → ⊥) → Judges key parts n count (Broken n (N 3))
  signed : (parts rest : List (List ℕ)) (n count : ℕ) (s : SignLine) (v : Verdict) → HasLine (sign_text s) parts rest → FitsSign s
      → HasItsLeaves key count s → IsVerified key s → Judges key rest (n + 1) (count + 1) v → Judges key parts n count v

-- a text of these parts is judged so
pub data JudgesText (parts : List (List ℕ)) : Verdict → Type 0 where
  no_head : ((rest : List (List ℕ)) → HasLine head_text parts rest → ⊥) → JudgesText parts (Broken 1 (N 1))
  no_key : (rest : List (List ℕ)) → HasLine head_text parts rest
      → ((key : List ℕ) (more : List (List ℕ)) → IsKeyBytes key → HasLine (key_text key) rest more → ⊥)
      → JudgesText parts (Broken 2 (N 1))
  signed_list : (rest more : List (List ℕ)) (key : List ℕ) (v : Verdict) → HasLine head_text parts rest → IsKeyBytes key
      → HasLine (key_text key) rest more → Judges key more 3 0 v → JudgesText parts v
