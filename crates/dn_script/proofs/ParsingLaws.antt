-- Reading a text line by line.
use Rattle.std.proofs.Common.{◌≡◌, ℕ, ◌+◌, ◌<◌, ◌≤◌, true, false, List, [], ◌∷◌, ◌++◌, length, Result, Ok, Err, refl, sym, ap, subst, ◌∙◌, arith, append-nil, length-append}
use Rattle.std.specs.Prelude.{◌==◌}
use Rattle.std.proofs.lemmas.List.Splits.{slice_split_at, slice_split_none, length-slice_split}
use Rattle.dn_lines.specs.Exact.{IsFree}
use Rattle.dn_script.specs.declared.script.ScriptFault.{ScriptFault}
use Rattle.dn_script.specs.declared.script.ScriptFault.TheVariants.{BadLine, NoMemory}
use Rattle.dn_script.specs.Context.{Context}
use Rattle.dn_script.specs.Parsed.{GivesScript, GoesOn}
use Rattle.dn_script.specs.Script.{Lines, Parsed, at_end, behind, read_next, read_parts, parts_of, without_return}

pub length_after : (rest line after : List ℕ) → rest ≡ line ++ 10 ∷ after → length after + 1 ≤ length rest
length_after rest line after e = omega (arith, ap length e, length-append line (10 ∷ after))

read_more : (line : List ℕ) (parts : List (List ℕ)) (c : Context) (n count : ℕ) → 0 < length parts
    → read_parts (line ∷ parts) c n count ≡ read_next c n count (without_return line) (λ d k. read_parts parts d (n + 1) k)
unfolding read_parts
read_more line [] c n count some = absurd (omega arith)
read_more line (next ∷ parts) c n count some = refl

-- a text with a line feed, behind some lines
pub read_step : (front : Lines) (rest line after : List ℕ) (c : Context) (n count : ℕ) → (rest ≡ line ++ 10 ∷ after) × IsFree 10 line
    → behind front (read_parts (parts_of rest) c n count) ≡ behind front (read_next c n count (without_return line) (λ d k. read_parts (parts_of after) d (n + 1) k))
read_step front rest line after c n count h =
    let parts : parts_of rest ≡ line ∷ parts_of after = ap parts_of h.0 ∙ slice_split_at (λ b. b == 10) line 10 after h.1 refl in
    ap (λ (ps : List (List ℕ)). behind front (read_parts ps c n count)) parts
    ∙ ap (behind front) (read_more line (parts_of after) c n count (omega (arith, length-slice_split (λ b. b == 10) after)))

-- a text with none
pub read_rest : (rest : List ℕ) → IsFree 10 rest → parts_of rest ≡ rest ∷ []
read_rest rest free = slice_split_none (λ b. b == 10) rest free

pub nothing_left : (front : Lines) (rest : List ℕ) (c : Context) (n count : ℕ) → (length rest == 0) ≡ true → behind front (read_parts (rest ∷ []) c n count) ≡ behind front (at_end c n)
unfolding read_parts
nothing_left front rest c n count none = rw none refl

pub something_left : (front : Lines) (rest : List ℕ) (c : Context) (n count : ℕ) → (length rest == 0) ≡ false
    → behind front (read_parts (rest ∷ []) c n count) ≡ behind front (read_next c n count rest (λ d k. at_end d (n + 1)))
unfolding read_parts
something_left front rest c n count some = rw some refl

-- a fault of a line is that of the script
pub ends_here : (fault : ScriptFault) (read left total : Parsed) → total ≡ read → GoesOn (Err fault) read left → GivesScript (Err fault) total
ends_here (BadLine n cause) read left total e goes = e ∙ goes
ends_here NoMemory read left total e goes = tt

pub gives_same : (result : Result Lines ScriptFault) (a b : Parsed) → b ≡ a → GivesScript result a → GivesScript result b
gives_same result a b e gives = subst (GivesScript result) (sym e) gives

pub no_more : (front : Lines) → behind front (Ok []) ≡ Ok front
no_more front = ap Ok (append-nil front)
