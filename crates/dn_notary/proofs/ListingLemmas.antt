-- Reading a list of entries line by line.
use Rattle.std.proofs.Common.{◌≡◌, ℕ, ◌+◌, ◌<◌, Bool, true, false, List, [], ◌∷◌, ◌++◌, length, Option, Some, None, Result, Ok, Err, inl, inr, refl, sym, ap, subst, ◌∙◌, arith, length-append}
use Rattle.std.specs.Prelude.{◌==◌, ◌&&◌, nat_le, not, if◌then◌else◌}
use Rattle.std.specs.List.{list_all}
use Rattle.std.proofs.lemmas.Bool.{cases_Bool, cond-true, cond-false, leb-false}
use Rattle.std.proofs.lemmas.List.Elements.{All-append, All-cons, All-nil}
use Rattle.std.proofs.lemmas.List.Splits.{slice_split_at, slice_split_none, length-slice_split}
use Rattle.dn_lines.specs.Exact.{IsFree}
use Rattle.dn_io.specs.declared.cause.Cause.{Cause}
use Rattle.dn_io.specs.declared.cause.Cause.TheVariants as causes
use Rattle.dn_script.specs.Words.{words_in, has}
use Rattle.dn_script.specs.Judged.{bytes_within}
use Rattle.dn_script.specs.Row.{one, made, counted}
use Rattle.dn_script.specs.Script.{parts_of, without_return, is_plain_byte, is_idle, unless}
use Rattle.dn_notary.specs.declared.limits.TheConstants.{MAX_ENTRIES, MAX_ENTRY}
use Rattle.dn_notary.specs.declared.entries.ListFault.{ListFault}
use Rattle.dn_notary.specs.declared.list_line.ListLine.{ListLine}
use Rattle.dn_notary.specs.declared.list_line.ListLine.TheVariants as lines
use Rattle.dn_notary.specs.Entries.{Listed, Read, nothing_yet, is_entry_word, is_word, is_too_many, read_entry, read_end, read_counted, line_in, with_line, at_end, then_rest, read_next, read_last, read_parts, entries_of}
use Rattle.dn_script.proofs.FieldLaws.{bytes_within_exact}
use Rattle.dn_script.proofs.LineLaws.{one_exact}
use Rattle.dn_notary.specs.Signed.{FitsEntry, IsList}
use Rattle.dn_notary.specs.Listing.{IsRefused, GivesEntries}

read_more : (line : List ℕ) (parts : List (List ℕ)) (l : Listed) (n : ℕ) → 0 < length parts
    → read_parts (line ∷ parts) l n ≡ read_next l n (without_return line) (λ k. read_parts parts k (n + 1))
unfolding read_parts
read_more line [] l n some = absurd (omega arith)
read_more line (next ∷ parts) l n some = refl

-- a text with a line feed
pub read_step : (rest line after : List ℕ) (l : Listed) (n : ℕ) → (rest ≡ line ++ 10 ∷ after) × IsFree 10 line
    → read_parts (parts_of rest) l n ≡ read_next l n (without_return line) (λ k. read_parts (parts_of after) k (n + 1))
read_step rest line after l n h =
    let parts : parts_of rest ≡ line ∷ parts_of after = ap parts_of h.0 ∙ slice_split_at (λ b. b == 10) line 10 after h.1 refl in
    ap (λ (ps : List (List ℕ)). read_parts ps l n) parts
    ∙ read_more line (parts_of after) l n (omega (arith, length-slice_split (λ b. b == 10) after))

-- a text with none
pub read_rest : (rest : List ℕ) → IsFree 10 rest → parts_of rest ≡ rest ∷ []
read_rest rest free = slice_split_none (λ b. b == 10) rest free

pub nothing_left : (rest : List ℕ) (l : Listed) (n : ℕ) → (length rest == 0) ≡ true → read_parts (rest ∷ []) l n ≡ at_end l n
unfolding read_parts
nothing_left rest l n none = rw none refl

pub something_left : (rest : List ℕ) (l : Listed) (n : ℕ) → (length rest == 0) ≡ false
    → read_parts (rest ∷ []) l n ≡ read_next l n rest (λ k. at_end k (n + 1))
unfolding read_parts
something_left rest l n some = rw some refl

-- a fault of a line is that of the list
pub ends_here : (fault : ListFault) (read total : Read) → total ≡ read → IsRefused fault read → IsRefused fault total
ends_here fault read total e refused = subst (IsRefused fault) (sym e) refused

pub gives_same : {T : Type 0} (items : T → List (List ℕ)) (result : Result T ListFault) (a b : Read) → b ≡ a → GivesEntries items result a → GivesEntries items result b
gives_same items result a b e gives = subst (GivesEntries items result) (sym e) gives

-- ---- what is read is a list within its limits

passed : (b : Bool) (cause : Cause) (tests : List (Bool × Cause)) (read : Result ListLine Cause) (line : ListLine) → unless ((b, cause) ∷ tests) read ≡ Ok line
    → (b ≡ false) × (unless tests read ≡ Ok line)
passed true cause tests read line h = cc h
passed false cause tests read line h = (refl, h)

-- a last line is no entry
no_entry : (right : Bool) (entry : List ℕ) → (if right then Ok lines.End else Err causes.Fields) ≡ Ok (lines.Entry entry) → ⊥
no_entry true entry h = cc h
no_entry false entry h = cc h

end_is_no_entry : (fields : List (List ℕ)) (entry : List ℕ) → read_end fields ≡ Ok (lines.Entry entry) → ⊥
unfolding read_end
end_is_no_entry fields entry h = no_entry (has 0 0 fields) entry h

room : (b : Bool) (n : ℕ) → b ≡ true → (b && nat_le MAX_ENTRIES n) ≡ false → n < MAX_ENTRIES
room true n is h = leb-false MAX_ENTRIES n h
room false n is h = cc is

-- the entry that a line's fields spell
same_entry : (r : Result (List ℕ) Cause) (entry : List ℕ) → made (λ x. lines.Entry x) r ≡ Ok (lines.Entry entry) → r ≡ Ok entry
same_entry (Ok x) entry h = cc h
same_entry (Err cause) entry h = cc h

where_counted : (right : Bool) (r : Result (List ℕ) Cause) (entry : List ℕ) → (if right then r else Err causes.Fields) ≡ Ok entry → r ≡ Ok entry
where_counted true r entry h = h
where_counted false r entry h = cc h

entry_fits : (fields : List (List ℕ)) (entry : List ℕ) → read_entry fields ≡ Ok (lines.Entry entry) → FitsEntry entry
unfolding read_entry
entry_fits fields entry h =
    let row = one (bytes_within 0 MAX_ENTRY) in
    let read = where_counted (has 1 1 fields) (row.read 1 fields) entry (same_entry (counted (has 1 1 fields) row fields) entry h) in
    let found = (one_exact (bytes_within 0 MAX_ENTRY) (bytes_within_exact 0 MAX_ENTRY)).finds 1 fields entry read in
    (found.1.1, found.1.0.1)

-- what an entry's line leaves room for
abbrev Joins : Listed → List ℕ → Type 0
Joins l entry = (length l.entries < MAX_ENTRIES) × FitsEntry entry

counted_joins : (l : Listed) (line : List ℕ) (words : List (List ℕ)) (entry : List ℕ) → read_counted l line words ≡ Ok (lines.Entry entry) → Joins l entry
unfolding read_counted
counted_joins l line [] entry h = cc h
counted_joins l line (word ∷ fields) entry h =
    let read : Result ListLine Cause = if is_entry_word word then read_entry fields else read_end fields in
    let placed = (l.ended, causes.Order) ∷ [] in
    let known = (not (is_word word), causes.Word) ∷ placed in
    let a = passed (not (list_all is_plain_byte line)) causes.Bytes ((is_too_many l word, causes.Many) ∷ known) read (lines.Entry entry) h in
    let b = passed (is_too_many l word) causes.Many known read (lines.Entry entry) a.1 in
    let d = passed (not (is_word word)) causes.Word placed read (lines.Entry entry) b.1 in
    let f = passed l.ended causes.Order [] read (lines.Entry entry) d.1 in
    elim (cases_Bool (is_entry_word word)) [
      | inl is ↦ (
        room (is_entry_word word) (length l.entries) is b.0,
        entry_fits fields entry (sym (cond-true (is_entry_word word) (read_entry fields) (read_end fields) is) ∙ f.1),
      )
      | inr other ↦ absurd (end_is_no_entry fields entry (sym (cond-false (is_entry_word word) (read_entry fields) (read_end fields) other) ∙ f.1))
    ]

made_some : (r : Result ListLine Cause) (line : ListLine) → made (λ x. Some x) r ≡ Ok (Some line) → r ≡ Ok line
made_some (Ok x) line h = cc h
made_some (Err cause) line h = cc h

abbrev found : Option ListLine → Result (Option ListLine) Cause
found o = Ok o

line_joins : (l : Listed) (line entry : List ℕ) → line_in l line ≡ Ok (Some (lines.Entry entry)) → Joins l entry
line_joins l line entry h =
    elim (cases_Bool (is_idle (words_in line))) [
      | inl idle ↦ cc (sym (cond-true (is_idle (words_in line)) (found None) (made (λ x. Some x) (read_counted l line (words_in line))) idle) ∙ h)
      | inr counts ↦
          counted_joins l line (words_in line) entry
          (made_some (read_counted l line (words_in line)) (lines.Entry entry)
          (sym (cond-false (is_idle (words_in line)) (found None) (made (λ x. Some x) (read_counted l line (words_in line))) counts) ∙ h))
    ]

list_with : (l : Listed) (line : List ℕ) (said : Option ListLine) → line_in l line ≡ Ok said → IsList l.entries → IsList (with_line l said).entries
list_with l line None h is = is
list_with l line (Some (lines.Entry entry)) h is =
    let joins = line_joins l line entry h in
    record {
      few = omega (arith, joins.0, length-append l.entries (entry ∷ []));
      fit = All-append FitsEntry l.entries (entry ∷ []) is.fit (All-cons FitsEntry entry [] joins.1 (All-nil FitsEntry));
    }
list_with l line (Some lines.End) h is = is

abbrev read_ok : List (List ℕ) → Read
read_ok entries = Ok entries

same_entries : (a b : List (List ℕ)) → read_ok a ≡ Ok b → a ≡ b
same_entries a b h = cc h

list_at_end : (l : Listed) (n : ℕ) (entries : List (List ℕ)) → IsList l.entries → at_end l n ≡ Ok entries → IsList entries
list_at_end l n entries is h =
    elim (cases_Bool l.ended) [
      | inl ended ↦ subst IsList (same_entries l.entries entries (sym (cond-true l.ended (read_ok l.entries) (Err (n, causes.Missing)) ended) ∙ h)) is
      | inr other ↦ cc (sym (cond-false l.ended (read_ok l.entries) (Err (n, causes.Missing)) other) ∙ h)
    ]

list_next : (l : Listed) (n : ℕ) (line : List ℕ) (rest : Listed → Read) (entries : List (List ℕ)) (r : Result (Option ListLine) Cause) → line_in l line ≡ r
    → IsList l.entries → ((k : Listed) → IsList k.entries → rest k ≡ Ok entries → IsList entries) → then_rest l n r rest ≡ Ok entries → IsList entries
list_next l n line rest entries (Ok said) e is go h = go (with_line l said) (list_with l line said e is) h
list_next l n line rest entries (Err cause) e is go h = cc h

list_last : (line : List ℕ) (l : Listed) (n : ℕ) (entries : List (List ℕ)) → IsList l.entries → read_last l n line ≡ Ok entries → IsList entries
list_last line l n entries is h =
    elim (cases_Bool (length line == 0)) [
      | inl none ↦ list_at_end l n entries is (rw none at h)
      | inr some ↦ list_next l n line (λ k. at_end k (n + 1)) entries (line_in l line) refl is (λ k. list_at_end k (n + 1) entries) (rw some at h)
    ]

list_parts : (parts : List (List ℕ)) (line : List ℕ) (l : Listed) (n : ℕ) (entries : List (List ℕ)) → IsList l.entries → read_parts (line ∷ parts) l n ≡ Ok entries → IsList entries
unfolding read_parts
list_parts [] line l n entries is h = list_last line l n entries is h
list_parts (next ∷ parts) line l n entries is h =
    list_next l n (without_return line) (λ k. read_parts (next ∷ parts) k (n + 1)) entries (line_in l (without_return line)) refl is
    (λ k small. list_parts parts next k (n + 1) entries small) h

list_whole : (parts : List (List ℕ)) (entries : List (List ℕ)) → 0 < length parts → read_parts parts nothing_yet 1 ≡ Ok entries → IsList entries
list_whole [] entries some h = absurd (omega arith)
list_whole (line ∷ parts) entries some h = list_parts parts line nothing_yet 1 entries (record { few = omega arith; fit = All-nil FitsEntry }) h

pub entries_are_list : (text : List ℕ) (entries : List (List ℕ)) → entries_of text ≡ Ok entries → IsList entries
unfolding entries_of
entries_are_list text entries h = list_whole (parts_of text) entries (omega (arith, length-slice_split (λ b. b == 10) text)) h
