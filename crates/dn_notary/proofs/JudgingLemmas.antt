-- How the lines of a signed list are judged, step by step.
use Rattle.std.proofs.Common.{◌≡◌, ℕ, ◌+◌, List, Option, Some, None, Result, Ok, Err, IfOk, inl, inr, refl, sym, subst}
use Rattle.dn_memory.specs.declared.NoMemory.{NoMemory}
use Rattle.dn_io.specs.declared.rule.Rule.{Rule}
use Rattle.dn_io.specs.declared.rule.Rule.TheVariants.{N}
use Rattle.dn_lines.specs.Exact.{IsFree}
use Rattle.dn_script.specs.Script.{parts_of}
use Rattle.dn_notary.specs.Signed.{head_text, end_text, key_text, sign_text, IsKeyBytes, FitsSign}
use Rattle.dn_notary.specs.declared.sign_line.SignLine.{SignLine}
use Rattle.dn_notary.specs.declared.verdict.Verdict.{Verdict}
use Rattle.dn_notary.specs.declared.verdict.Verdict.TheVariants.{Accepted, Broken}
use Rattle.dn_notary.specs.Notarized.{HasLine, none_left, HasItsLeaves, IsVerified, Judges, JudgesText}
use Rattle.dn_notary.specs.Notarized.Judges.{no_line, last_line, behind_last, other_leaves, unverified, signed}
use Rattle.dn_notary.specs.Notarized.JudgesText.{no_head, no_key, signed_list}
use Rattle.dn_notary.specs.Judging.{BreaksAt, Steps}
use Rattle.dn_notary.proofs.PartLemmas.{no_feed, same_line}

-- the line that begins the parts is another text
pub other_line : (text line : List ℕ) (parts rest : List (List ℕ)) → HasLine text parts rest → (text ≡ line → ⊥) → (more : List (List ℕ)) → HasLine line parts more → ⊥
other_line text line parts rest has other more h = other (same_line text line parts rest more has h)

-- the line begins the parts, as another text that it is
pub as_text : (text line : List ℕ) (parts rest : List (List ℕ)) → text ≡ line → HasLine text parts rest → HasLine line parts rest
as_text text line parts rest e has = subst (λ (t : List ℕ). HasLine t parts rest) e has

pub breaks : (key text : List ℕ) (parts rest : List (List ℕ)) (n count : ℕ) (s : SignLine) (rule : Rule) → HasLine text parts rest → text ≡ sign_text s → FitsSign s
    → BreaksAt key count s rule → Judges key parts n count (Broken n rule)
breaks key text parts rest n count s rule has e fits (inl b) =
    subst (λ r. Judges key parts n count (Broken n r)) (sym b.0) (other_leaves parts rest n count s (as_text text (sign_text s) parts rest e has) fits b.1)
breaks key text parts rest n count s rule has e fits (inr b) =
    subst (λ r. Judges key parts n count (Broken n r)) (sym b.0) (unverified parts rest n count s (as_text text (sign_text s) parts rest e has) fits b.1 b.2)

pub goes : (key text : List ℕ) (parts rest : List (List ℕ)) (n count : ℕ) (s : SignLine) → HasLine text parts rest → text ≡ sign_text s → FitsSign s
    → HasItsLeaves key count s × IsVerified key s → (v : Verdict) → Judges key rest (n + 1) (count + 1) v → Judges key parts n count v
goes key text parts rest n count s has e fits good v j = signed parts rest n count s v (as_text text (sign_text s) parts rest e has) fits good.0 good.1 j

-- a line that is neither a signed entry nor the last
pub neither : (key text : List ℕ) (parts rest : List (List ℕ)) (n count : ℕ) → HasLine text parts rest → (text ≡ end_text → ⊥)
    → ((s : SignLine) → FitsSign s → text ≡ sign_text s → ⊥) → Judges key parts n count (Broken n (N 1))
neither key text parts rest n count has other none =
    no_line parts n count (λ s more fits h. none s fits (same_line text (sign_text s) parts rest more has h)) (λ more h. other (same_line text end_text parts rest more has h))

-- no line is left
pub no_more : (key rest : List ℕ) (n count : ℕ) → IsFree 10 rest → Judges key (parts_of rest) n count (Broken n (N 1))
no_more key rest n count free =
    no_line (parts_of rest) n count (λ s more fits h. no_feed rest (sign_text s) more free h) (λ more h. no_feed rest end_text more free h)

pub ends : (key : List ℕ) (parts rest : List (List ℕ)) (n count : ℕ) → HasLine end_text parts rest → rest ≡ none_left → Judges key parts n count (Accepted count)
ends key parts rest n count has e = last_line parts n count (subst (HasLine end_text parts) e has)

pub goes_behind : (key : List ℕ) (parts rest : List (List ℕ)) (n count : ℕ) → HasLine end_text parts rest → (rest ≡ none_left → ⊥) → Judges key parts n count (Broken (n + 1) (N 1))
goes_behind key parts rest n count has some = behind_last parts rest n count has some

-- ---- the text

pub without_head : (parts : List (List ℕ)) → ((rest : List (List ℕ)) → HasLine head_text parts rest → ⊥) → JudgesText parts (Broken 1 (N 1))
without_head parts none = no_head none

pub without_key : (parts rest : List (List ℕ)) → HasLine head_text parts rest → ((key : List ℕ) (more : List (List ℕ)) → IsKeyBytes key → HasLine (key_text key) rest more → ⊥)
    → JudgesText parts (Broken 2 (N 1))
without_key parts rest has none = no_key rest has none

pub with_key : (parts rest more : List (List ℕ)) (line key : List ℕ) (v : Verdict) → HasLine head_text parts rest → IsKeyBytes key → HasLine line rest more → line ≡ key_text key
    → Judges key more 3 0 v → JudgesText parts v
with_key parts rest more line key v has fits next e j = signed_list rest more key v has fits (as_text line (key_text key) rest more e next) j

-- a line that breaks no rule
pub steps_on : (key : List ℕ) (parts rest : List (List ℕ)) (n count : ℕ) (o : Option Verdict) → ((x : Verdict) → o ≡ Some x → ⊥) → Steps key parts rest n count o
    → (v : Verdict) → Judges key rest (n + 1) (count + 1) v → Judges key parts n count v
steps_on key parts rest n count (Some x) none steps v j = absurd (none x refl)
steps_on key parts rest n count None none steps v j = steps v j

-- what stands behind the key is judged, under the key as bytes
pub judged_with_key : (r : Result Verdict NoMemory) (parts rest more : List (List ℕ)) (line key bytes : List ℕ) → HasLine head_text parts rest → IsKeyBytes key
    → HasLine line rest more → line ≡ key_text key → bytes ≡ key → IfOk r (Judges bytes more 3 0) → IfOk r (JudgesText parts)
judged_with_key (Ok v) parts rest more line key bytes has fits next e same j =
    with_key parts rest more line key v has fits next e (subst (λ (k : List ℕ). Judges k more 3 0 v) same j)
judged_with_key (Err fault) parts rest more line key bytes has fits next e same j = tt
