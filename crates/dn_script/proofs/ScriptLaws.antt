-- A text that is read as a script spells it, and one that spells a script is read as it.
use Rattle.std.proofs.Common.{◌≡◌, ℕ, ◌+◌, ◌<◌, ◌≤◌, Bool, true, false, cond, List, [], ◌∷◌, ◌++◌, length, Option, Some, None, Result, Ok, Err, refl, sym, ap, subst, ◌∙◌, inl, inr, arith}
use Rattle.std.specs.Prelude.{nat_lt, ◌==◌, not, ◌⊎◌}
use Rattle.std.specs.List.{list_all}
use Rattle.std.specs.Fmt.{decimal}
use Rattle.dn_lines.specs.Fields.{hex_text}
use Rattle.std.proofs.lemmas.Bool.{ltb-false, le-ltb, eqb-true, cases_Bool, cond-true, cond-false, false≢true}
use Rattle.std.proofs.lemmas.List.Splits.{length-slice_split}
use Rattle.dn_io.specs.declared.cause.Cause.{Cause}
use Rattle.dn_io.specs.declared.cause.Cause.TheVariants as causes
use Rattle.dn_script.specs.declared.context.Form.{Form}
use Rattle.dn_script.specs.declared.context.Form.TheVariants as forms
use Rattle.dn_script.specs.declared.script_line.ScriptLine.{ScriptLine}
use Rattle.dn_script.specs.declared.script_line.ScriptLine.TheVariants as lines
use Rattle.dn_script.specs.Words.{words_in}
use Rattle.dn_script.specs.Row.{made}
use Rattle.dn_script.specs.Context.{Context, nothing_yet, group_in}
use Rattle.dn_script.specs.Script.{Lines, Parsed, unless, is_plain_byte, is_idle, is_word, is_misplaced, kinds_of, read_kind, opening_kinds, plain_kinds, group_kinds, line_limit, read_counted, with_line, without_return, line_in, behind, at_end, then_rest, read_next, read_last, read_parts, parts_of, script_of}
use Rattle.dn_script.specs.Spelled.{line_words, Stands, IsLegal, SpellsLine, SpellsParts, Spells}
use Rattle.dn_script.specs.Spelled.SpellsParts.{no_more, last_idle, last_line, next_idle, next_line}
use Rattle.dn_script.proofs.LineLaws.{Good, IsSound, is_calm, kinds_find, openings_found, plain_kinds_found, group_kinds_found}
use Rattle.dn_script.proofs.KnownLaws.{line_known}

-- ---- what has been read stays within the limits of a group

pub nothing_is_sound : IsSound nothing_yet
nothing_is_sound = record { clients = omega arith; servers = omega arith; some = λ e. cc e }

pub sound_after : (c : Context) → IsSound c → (line : ScriptLine) → Stands c line → IsSound (with_line c line)
unfolding with_line
sound_after c sound (lines.Plain n m b s) stands = record { clients = stands.1.1; servers = stands.2.1; some = λ e. stands.1.0 }
sound_after c sound (lines.Group v n m ots clms slms s) stands = record { clients = stands.2.1; servers = stands.3.1; some = λ e. cc e }
sound_after c sound line stands = record { clients = sound.clients; servers = sound.servers; some = sound.some }

-- ---- a line

passed : (b : Bool) (cause : Cause) (tests : List (Bool × Cause)) (read : Result ScriptLine Cause) (line : ScriptLine) → unless ((b, cause) ∷ tests) read ≡ Ok line
    → (b ≡ false) × (unless tests read ≡ Ok line)
passed true cause tests read line h = cc h
passed false cause tests read line h = (refl, h)

not_false : (b : Bool) → not b ≡ false → b ≡ true
not_false true h = refl
not_false false h = cc h

kind_found : (c : Context) → IsSound c → (form : Form) → c.form ≡ form → (word : List ℕ) (fields : List (List ℕ)) (line : ScriptLine)
    → read_kind (kinds_of form c) word fields ≡ Ok line → is_misplaced c word fields ≡ false → Good c line (word ∷ fields)
kind_found c sound forms.Nothing e word fields line h calm = kinds_find c opening_kinds (openings_found c e) word fields line h calm
kind_found c sound forms.Plain e word fields line h calm =
    kinds_find c (plain_kinds c.clients c.bits) (plain_kinds_found c e (sound.some e) (omega (arith, sound.clients))) word fields line h calm
kind_found c sound forms.Group e word fields line h calm =
    kinds_find c (group_kinds (group_in c)) (group_kinds_found c e (omega (arith, sound.clients)) (omega (arith, sound.servers))) word fields line h calm

-- a line that counts says this
pub record Says (c : Context) (count : ℕ) (text : List ℕ) (line : ScriptLine) : Type 0 where
  pub spells : SpellsLine text line
  pub few : count ≤ line_limit
  pub unended : c.ended ≡ false
  pub stands : Stands c line

counted_finds : (c : Context) → IsSound c → (count : ℕ) (text : List ℕ) (words : List (List ℕ)) (line : ScriptLine) → words_in text ≡ words
    → read_counted c count text words ≡ Ok line → Says c count text line
unfolding read_counted
counted_finds c sound count text [] line e h = cc h
counted_finds c sound count text (word ∷ fields) line e h =
    let read = read_kind (kinds_of c.form c) word fields in
    let misplaced = (is_misplaced c word fields, causes.Order) ∷ [] in
    let known = (not (is_word word), causes.Word) ∷ misplaced in
    let a = passed (not (list_all is_plain_byte text)) causes.Bytes ((nat_lt line_limit count, causes.Many) ∷ known) read line h in
    let b = passed (nat_lt line_limit count) causes.Many known read line a.1 in
    let d = passed (not (is_word word)) causes.Word misplaced read line b.1 in
    let f = passed (is_misplaced c word fields) causes.Order [] read line d.1 in
    let good = kind_found c sound c.form refl word fields line f.1 f.0 in
    record {
      spells = (not_false (list_all is_plain_byte text) a.0, e ∙ good.0);
      few = ltb-false line_limit count b.0;
      unended = (is_calm c word fields f.0).unended;
      stands = good.1;
    }

counted_knows : (c : Context) → IsSound c → (count : ℕ) (text : List ℕ) (line : ScriptLine) → Says c count text line → read_counted c count text (words_in text) ≡ Ok line
unfolding read_counted
counted_knows c sound count text line says =
    let known = line_known c sound says.unended line says.stands in
    let words : words_in text ≡ known.word ∷ known.fields = says.spells.1 ∙ known.spelled in
    rw (words, says.spells.0, le-ltb line_limit count says.few, known.known, known.calm) known.read

group_not_idle : (b : Bool) (fields : List (List ℕ)) → is_idle (cond b (103 ∷ 114 ∷ 111 ∷ 117 ∷ 112 ∷ 49 ∷ []) (103 ∷ 114 ∷ 111 ∷ 117 ∷ 112 ∷ []) ∷ fields) ≡ false
group_not_idle true fields = refl
group_not_idle false fields = refl

-- a line that says something counts
not_idle : (line : ScriptLine) → is_idle (line_words line) ≡ false
not_idle (lines.Group v n m ots clms slms s) = group_not_idle (v == 1) (decimal n ∷ decimal m ∷ decimal ots ∷ decimal clms ∷ decimal slms ∷ hex_text s ∷ [])
not_idle line = refl

-- ---- the next line

-- a line doesn't count and the rest is the script, or it is the first of the script
abbrev Goes : Context → ℕ → ℕ → List ℕ → (Context → ℕ → Parsed) → Lines → Type 0
Goes c n count text rest script =
    ((is_idle (words_in text) ≡ true) × (rest c count ≡ Ok script))
    ⊎ ((line : ScriptLine) × (more : Lines) × (script ≡ (n, line) ∷ more) × Says c (count + 1) text line × (rest (with_line c line) (count + 1) ≡ Ok more))

abbrev parsed : Lines → Parsed
parsed script = Ok script

same_script : (a b : Lines) → parsed a ≡ parsed b → a ≡ b
same_script a b h = cc h

behind_ok : (front : Lines) (r : Parsed) (script : Lines) → behind front r ≡ Ok script → (more : Lines) × (r ≡ Ok more) × (front ++ more ≡ script)
behind_ok front (Ok rest) script h = (rest, refl, same_script (front ++ rest) script h)
behind_ok front (Err fault) script h = cc h

abbrev found : Option ScriptLine → Result (Option ScriptLine) Cause
found o = Ok o

made_none : (r : Result ScriptLine Cause) → made (λ x. Some x) r ≡ found None → ⊥
made_none (Ok x) h = cc h
made_none (Err cause) h = cc h

made_some : (r : Result ScriptLine Cause) (line : ScriptLine) → made (λ x. Some x) r ≡ found (Some line) → r ≡ Ok line
made_some (Ok x) line h = cc h
made_some (Err cause) line h = cc h

goes : (c : Context) → IsSound c → (n count : ℕ) (text : List ℕ) (rest : Context → ℕ → Parsed) (script : Lines) (r : Result (Option ScriptLine) Cause) → line_in c count text ≡ r
    → then_rest c n count r rest ≡ Ok script → Goes c n count text rest script
goes c sound n count text rest script (Ok None) e h =
    elim (cases_Bool (is_idle (words_in text))) [
      | inl idle ↦ inl (idle, h)
      | inr counts ↦
          absurd (made_none (read_counted c (count + 1) text (words_in text)) (sym (cond-false (is_idle (words_in text)) (found None) (made (λ x. Some x) (read_counted c (count + 1) text (words_in text))) counts) ∙ e))
    ]
goes c sound n count text rest script (Ok (Some line)) e h =
    let b = behind_ok ((n, line) ∷ []) (rest (with_line c line) (count + 1)) script h in
    elim (cases_Bool (is_idle (words_in text))) [
      | inl idle ↦ cc (sym (cond-true (is_idle (words_in text)) (found None) (made (λ x. Some x) (read_counted c (count + 1) text (words_in text))) idle) ∙ e)
      | inr counts ↦
          let read = made_some (read_counted c (count + 1) text (words_in text)) line (sym (cond-false (is_idle (words_in text)) (found None) (made (λ x. Some x) (read_counted c (count + 1) text (words_in text))) counts) ∙ e) in
          inr (line, b.0, sym b.2, counted_finds c sound (count + 1) text (words_in text) line refl read, b.1)
    ]
goes c sound n count text rest script (Err cause) e h = cc h

next_knows : (c : Context) → IsSound c → (n count : ℕ) (text : List ℕ) (line : ScriptLine) (rest : Context → ℕ → Parsed) (more : Lines) → Says c (count + 1) text line
    → rest (with_line c line) (count + 1) ≡ Ok more → read_next c n count text rest ≡ Ok ((n, line) ∷ more)
next_knows c sound n count text line rest more says h =
    let counts : is_idle (words_in text) ≡ false = ap is_idle says.spells.1 ∙ not_idle line in
    let read = counted_knows c sound (count + 1) text line says in
    rw (counts, read, h) refl

-- ---- the parts of a text

ends : (c : Context) (n : ℕ) (script : Lines) → at_end c n ≡ Ok script → (script ≡ []) × (c.ended ≡ true)
ends c n script h =
    elim (cases_Bool c.ended) [
      | inl ended ↦ (sym (same_script [] script (sym (cond-true c.ended (parsed []) (Err (n, causes.Missing)) ended) ∙ h)), ended)
      | inr other ↦ cc (sym (cond-false c.ended (parsed []) (Err (n, causes.Missing)) other) ∙ h)
    ]

empty_text : (text : List ℕ) → (length text == 0) ≡ true → text ≡ []
empty_text [] h = refl
empty_text (b ∷ text) h = absurd (omega (arith, eqb-true (length (b ∷ text)) 0 h))

-- the parts spell the script, which keeps its limits behind what has been read
record Spelling (parts : List (List ℕ)) (c : Context) (n count : ℕ) (script : Lines) : Type 0 where
  legal : IsLegal c script
  few : count + length script ≤ line_limit
  spelled : SpellsParts parts n script

abbrev WithEnd : List ℕ → Context → ℕ → ℕ → Lines → Type 0
WithEnd text c n count script = Spelling (text ∷ []) c n count script

idle_last : (text : List ℕ) (c : Context) (n count : ℕ) (script : Lines) → count ≤ line_limit → is_idle (words_in text) ≡ true → at_end c (n + 1) ≡ Ok script → WithEnd text c n count script
idle_last text c n count script few idle h =
    let e = ends c (n + 1) script h in
    subst (WithEnd text c n count) (sym e.0) (record { legal = e.1; few = omega (arith, few); spelled = last_idle text n idle })

line_last : (text : List ℕ) (c : Context) (n count : ℕ) (script more : Lines) (line : ScriptLine) → script ≡ (n, line) ∷ more → Says c (count + 1) text line
    → at_end (with_line c line) (n + 1) ≡ Ok more → WithEnd text c n count script
line_last text c n count script more line e says h =
    let d = ends (with_line c line) (n + 1) more h in
    subst (WithEnd text c n count) (ap (λ (l : Lines). (n, line) ∷ l) (sym d.0) ∙ sym e)
    (record { legal = (says.unended, says.stands, d.1); few = omega (arith, says.few); spelled = last_line text n line says.spells })

last_finds : (text : List ℕ) (c : Context) → IsSound c → (n count : ℕ) (script : Lines) → count ≤ line_limit → read_last c n count text ≡ Ok script → WithEnd text c n count script
last_finds text c sound n count script few h =
    elim (cases_Bool (length text == 0)) [
      | inl none ↦
          let e = ends c n script (rw none at h) in
          subst (WithEnd text c n count) (sym e.0)
          (subst (λ (t : List ℕ). WithEnd t c n count []) (sym (empty_text text none)) (record { legal = e.1; few = omega (arith, few); spelled = no_more n }))
      | inr some ↦
          let g = goes c sound n count text (λ d k. at_end d (n + 1)) script (line_in c count text) refl (rw some at h) in
          elim g [
            | inl idle ↦ idle_last text c n count script few idle.0 idle.1
            | inr line ↦ line_last text c n count script line.1 line.0 line.2 line.3 line.4
          ]
    ]

parts_find : (parts : List (List ℕ)) (text : List ℕ) (c : Context) → IsSound c → (n count : ℕ) (script : Lines) → count ≤ line_limit
    → read_parts (text ∷ parts) c n count ≡ Ok script → Spelling (text ∷ parts) c n count script
unfolding read_parts
parts_find [] text c sound n count script few h = last_finds text c sound n count script few h
parts_find (next ∷ parts) text c sound n count script few h =
    elim (goes c sound n count (without_return text) (λ d k. read_parts (next ∷ parts) d (n + 1) k) script (line_in c count (without_return text)) refl h) [
      | inl idle ↦
          let rest = parts_find parts next c sound (n + 1) count script few idle.1 in
          record { legal = rest.legal; few = rest.few; spelled = next_idle text next parts n script idle.0 rest.spelled }
      | inr line ↦
          let says = line.3 in
          let rest = parts_find parts next (with_line c line.0) (sound_after c sound line.0 says.stands) (n + 1) (count + 1) line.1 says.few line.4 in
          subst (Spelling (text ∷ next ∷ parts) c n count) (sym line.2)
          (record {
            legal = (says.unended, says.stands, rest.legal);
            few = omega (arith, rest.few);
            spelled = next_line text next parts n line.0 line.1 says.spells rest.spelled;
          })
    ]

whole_finds : (parts : List (List ℕ)) (script : Lines) → 0 < length parts → read_parts parts nothing_yet 1 0 ≡ Ok script → Spelling parts nothing_yet 1 0 script
whole_finds [] script some h = absurd (omega arith)
whole_finds (text ∷ parts) script some h = parts_find parts text nothing_yet nothing_is_sound 1 0 script (omega arith) h

pub script_spelled : (text : List ℕ) (script : Lines) → script_of text ≡ Ok script → Spells text script
unfolding script_of
script_spelled text script h =
    let whole = whole_finds (parts_of text) script (omega (arith, length-slice_split (λ b. b == 10) text)) h in
    record { legal = whole.legal; few = omega (arith, whole.few); spelled = whole.spelled }

idle_knows : (c : Context) (n count : ℕ) (text : List ℕ) (rest : Context → ℕ → Parsed) → is_idle (words_in text) ≡ true → read_next c n count text rest ≡ rest c count
idle_knows c n count text rest idle = rw idle refl

parts_know : {parts : List (List ℕ)} {n : ℕ} {script : Lines} → SpellsParts parts n script → (c : Context) → IsSound c → (count : ℕ) → IsLegal c script
    → count + length script ≤ line_limit → read_parts parts c n count ≡ Ok script
unfolding read_parts
parts_know (no_more n) c sound count legal few = rw legal refl
parts_know (last_idle text n idle) c sound count legal few =
    elim (cases_Bool (length text == 0)) [
      | inl none ↦ rw (none, legal) refl
      | inr some ↦ rw some (idle_knows c n count text (λ d k. at_end d (n + 1)) idle ∙ rw legal refl)
    ]
parts_know (last_line text n line spells) c sound count legal few =
    elim (cases_Bool (length text == 0)) [
      | inl none ↦
          absurd (false≢true (sym (ap is_idle spells.1 ∙ not_idle line) ∙ ap (λ (t : List ℕ). is_idle (words_in t)) (empty_text text none)))
      | inr some ↦
          rw some (next_knows c sound n count text line (λ d k. at_end d (n + 1)) [] (record { spells = spells; few = omega (arith, few); unended = legal.0; stands = legal.1 }) (rw legal.2 refl))
    ]
parts_know (next_idle text next parts n script idle spelled) c sound count legal few =
    idle_knows c n count (without_return text) (λ d k. read_parts (next ∷ parts) d (n + 1) k) idle ∙ parts_know spelled c sound count legal few
parts_know (next_line text next parts n line script spells spelled) c sound count legal few =
    next_knows c sound n count (without_return text) line (λ d k. read_parts (next ∷ parts) d (n + 1) k) script
    (record { spells = spells; few = omega (arith, few); unended = legal.0; stands = legal.1 })
    (parts_know spelled (with_line c line) (sound_after c sound line legal.1) (count + 1) legal.2 (omega (arith, few)))

pub script_known : (text : List ℕ) (script : Lines) → Spells text script → script_of text ≡ Ok script
unfolding script_of
script_known text script spells = parts_know spells.spelled nothing_yet nothing_is_sound 0 spells.legal (omega (arith, spells.few))
