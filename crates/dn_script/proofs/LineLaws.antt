-- What a line says is spelled so and may stand where it stands, and each line that may stand there is read from its spelling.
use Rattle.std.proofs.Common.{◌≡◌, ℕ, ◌+◌, ◌^◌, ◌<◌, ◌≤◌, Bool, true, false, cond, List, [], ◌∷◌, ◌++◌, map, length, Some, None, Result, Ok, Err, refl, sym, ap, subst, ◌∙◌, inl, inr, arith, append-nil, append_assoc}
use Rattle.std.specs.Prelude.{nat_le, ◌&&◌, ◌||◌, not, codes}
use Rattle.std.specs.List.{AllByRecursion}
use Rattle.std.specs.Fmt.{decimal}
use Rattle.std.specs.Str.{bytes_eq}
use Rattle.std.proofs.lemmas.Bool.{and_parts, or_parts, or_from, not_from_true, leb-true, le-leb, lt-leb, cases_Bool, cond-true, cond-false, false≢true}
use Rattle.std.proofs.lemmas.Slice.Eq.{bytes_eq-Decides}
use Rattle.std.proofs.lemmas.List.{length-map}
use Rattle.dn_io.specs.declared.cause.Cause.{Cause}
use Rattle.dn_io.specs.declared.cause.Cause.TheVariants as causes
use Rattle.dn_wire.specs.declared.limits.TheConstants.{MAX_BITS, MAX_CLIENTS, MAX_FLOW, MAX_LIVE_TURNS, MAX_RACE_LIST, MAX_RACE_WORKERS, MAX_SERVERS, MAX_TEXT, MAX_TICKS}
use Rattle.dn_wire.specs.declared.ids.ClientId.{ClientId}
use Rattle.dn_wire.specs.declared.ids.Member.{Member}
use Rattle.dn_wire.specs.declared.ids.Member.TheVariants.{Client, Server}
use Rattle.dn_script.specs.declared.flaw.Flaw.{Flaw}
use Rattle.dn_script.specs.declared.context.Form.TheVariants as forms
use Rattle.dn_script.specs.declared.script_line.ScriptLine.{ScriptLine}
use Rattle.dn_script.specs.declared.script_line.ScriptLine.TheVariants as lines
use Rattle.dn_script.specs.declared.script_line.Twist.{Twist}
use Rattle.dn_script.specs.declared.script_line.Twist.TheVariants as twists
use Rattle.dn_script.specs.Words.{has}
use Rattle.dn_script.specs.Judged.{Judged, Group, judge, within, any_bytes, bytes_within, client_in, server_in, member_in, corrupt_member, corrupt_server, honest_server, honest_client, is_among, member_text, client_text, server_text}
use Rattle.dn_script.specs.Row.{Row, ◌>>=◌, in_field, take_judged, no_more, one, ◌▹◌, read_every, every, made, counted}
use Rattle.dn_script.specs.Context.{Context, group_in}
use Rattle.dn_script.specs.Script.{Kind, fixed, bare, is_client, is_misplaced, is_listed, words_of, speaks_again, says_again, read_plain, read_plain_say, read_plain_submit, read_tick, read_group, read_once, read_corrupt, read_say, read_open, read_close, read_abandon, read_submit, read_deliver, read_lose, read_cut, read_flow, read_leave, read_accuse, read_judge, read_race, read_live, read_inject, read_speak, read_replay, read_lure, read_complete, read_twist, read_twist_of, server_alone, opening_kinds, plain_kinds, group_kinds, read_kind, client_number, round, place, any_number, seed, bits, place_or_first}
use Rattle.dn_script.specs.Spelled.{line_words, twist_words, group_word, Stands, FitsTwist, IsIn, IsOnce, IsMemberOf}
use Rattle.std.proofs.lemmas.Fmt.{digits_value-decimal}
use Rattle.dn_lines.specs.Fields.{hex_text}
use Rattle.dn_script.proofs.JudgeLaws.{told}
use Rattle.dn_script.proofs.FieldLaws.{IsExactly, decimal_numeral, within_exact, place_exact, any_number_exact, round_exact, client_number_exact, any_bytes_exact, bytes_within_exact, seed_exact, bits_exact, client_exact, server_exact, member_exact, corrupt_member_exact, corrupt_server_exact, honest_server_exact, honest_client_exact, place_or_first_exact}

-- ---- steps of reading

abbrev read : {A : Type 0} → A → Result A Cause
read x = Ok x

same_read : {A : Type 0} (x y : A) → read x ≡ read y → x ≡ y
same_read x y h = cc

bind_ok : {A B : Type 0} (r : Result A Cause) (f : A → Result B Cause) (y : B) → r >>= f ≡ Ok y → (x : A) × (r ≡ Ok x) × (f x ≡ Ok y)
bind_ok (Ok x) f y h = (x, refl, h)
bind_ok (Err cause) f y h = cc h

pub made_ok : {A B : Type 0} (to : A → B) (r : Result A Cause) (y : B) → made to r ≡ Ok y → (x : A) × (r ≡ Ok x) × (to x ≡ y)
made_ok to (Ok x) y h = (x, refl, same_read (to x) y h)
made_ok to (Err cause) y h = cc h

field_ok : {A : Type 0} (n : ℕ) (r : Result A Flaw) (x : A) → in_field n r ≡ Ok x → r ≡ Ok x
field_ok n (Ok y) x h = ap Ok (same_read y x h)
field_ok n (Err flaw) x h = cc h

if_ok : {A : Type 0} (b : Bool) (r : Result A Cause) (cause : Cause) (x : A) → cond b r (Err cause) ≡ Ok x → (b ≡ true) × (r ≡ Ok x)
if_ok true r cause x h = (refl, h)
if_ok false r cause x h = cc h

unless_ok : {A : Type 0} (b : Bool) (r : Result A Cause) (cause : Cause) (x : A) → cond b (Err cause) r ≡ Ok x → (b ≡ false) × (r ≡ Ok x)
unless_ok true r cause x h = cc h
unless_ok false r cause x h = (refl, h)

-- ---- rows

pub record IsExactRow {A : Type 0} (p : Row A) (Fits : A → Type 0) : Type 0 where
  pub finds : (n : ℕ) (fields : List (List ℕ)) (x : A) → p.read n fields ≡ Ok x → (fields ≡ p.spell x) × Fits x
  pub knows : (n : ℕ) (x : A) → Fits x → p.read n (p.spell x) ≡ Ok x

record Took {A : Type 0} (f : Judged A) (Fits : A → Type 0) (fields : List (List ℕ)) (x : A) (rest : List (List ℕ)) : Type 0 where
  spelled : fields ≡ f.spell x ∷ rest
  fits : Fits x

took : {A : Type 0} (f : Judged A) (Fits : A → Type 0) → IsExactly f Fits → (n : ℕ) (fields : List (List ℕ)) (x : A) (rest : List (List ℕ))
    → take_judged f n fields ≡ Ok (x, rest) → Took f Fits fields x rest
took f Fits ef n [] x rest h = cc h
took {A} f Fits ef n (text ∷ fields) x rest h =
    let a = bind_ok (in_field n (judge f text)) (λ y. Ok (y, fields)) (x, rest) h in
    let found = ef.finds text a.0 (field_ok n (judge f text) a.0 a.1) in
    let it : A × List (List ℕ) = (a.0, fields) in
    subst (λ (y : A × List (List ℕ)). Took f Fits (text ∷ fields) y.0 y.1) (same_read it (x, rest) a.2)
    (record { spelled = ap (λ (t : List ℕ). t ∷ fields) found.0; fits = found.1 })

ended : (fields : List (List ℕ)) (x : Unit {0}) → no_more fields ≡ Ok x → fields ≡ []
ended [] x h = refl
ended (text ∷ fields) x h = cc h

pub one_exact : {A : Type 0} (f : Judged A) {Fits : A → Type 0} → IsExactly f Fits → IsExactRow (one f) Fits
one_exact {A} f {Fits} ef = record {
  finds = λ n fields x h.
      let a = bind_ok (take_judged f n fields) (λ y. no_more y.1 >>= λ z. Ok y.0) x h in
      let d = bind_ok (no_more a.0.1) (λ z. Ok a.0.0) x a.2 in
      let t = took f Fits ef n fields a.0.0 a.0.1 a.1 in
      subst (λ (y : A). (fields ≡ f.spell y ∷ []) × Fits y) (same_read a.0.0 x d.2)
      (t.spelled ∙ ap (λ (r : List (List ℕ)). f.spell a.0.0 ∷ r) (ended a.0.1 d.0 d.1), t.fits);
  knows = λ n x fits. rw (ef.knows x fits) refl;
}

pub then_exact : {A B : Type 0} (f : Judged A) (p : Row B) {P : A → Type 0} {Q : B → Type 0} → IsExactly f P → IsExactRow p Q → IsExactRow (f ▹ p) (λ x. P x.0 × Q x.1)
then_exact {A} {B} f p {P} {Q} ef ep = record {
  finds = λ n fields x h.
      let a = bind_ok (take_judged f n fields) (λ y. p.read (n + 1) y.1 >>= λ z. Ok (y.0, z)) x h in
      let b = bind_ok (p.read (n + 1) a.0.1) (λ z. Ok (a.0.0, z)) x a.2 in
      let t = took f P ef n fields a.0.0 a.0.1 a.1 in
      let r = ep.finds (n + 1) a.0.1 b.0 b.1 in
      let it : A × B = (a.0.0, b.0) in
      subst (λ (y : A × B). (fields ≡ f.spell y.0 ∷ p.spell y.1) × (P y.0 × Q y.1)) (same_read it x b.2)
      (t.spelled ∙ ap (λ (l : List (List ℕ)). f.spell a.0.0 ∷ l) r.0, (t.fits, r.1));
  knows = λ n x fits. rw (ef.knows x.0 fits.0, ep.knows (n + 1) x.1 fits.1) refl;
}

every_finds : {A : Type 0} (f : Judged A) (Fits : A → Type 0) → IsExactly f Fits → (n : ℕ) (fields : List (List ℕ)) (xs : List A)
    → read_every f n fields ≡ Ok xs → (fields ≡ map f.spell xs) × AllByRecursion Fits xs
unfolding read_every
every_finds f Fits ef n [] xs h = subst (λ ys. ([] ≡ map f.spell ys) × AllByRecursion Fits ys) (same_read [] xs h) (refl, tt)
every_finds f Fits ef n (text ∷ fields) xs h =
    let a = bind_ok (in_field n (judge f text)) (λ x. read_every f (n + 1) fields >>= λ ys. Ok (x ∷ ys)) xs h in
    let b = bind_ok (read_every f (n + 1) fields) (λ ys. Ok (a.0 ∷ ys)) xs a.2 in
    let one = ef.finds text a.0 (field_ok n (judge f text) a.0 a.1) in
    let rest = every_finds f Fits ef (n + 1) fields b.0 b.1 in
    subst (λ ys. (text ∷ fields ≡ map f.spell ys) × AllByRecursion Fits ys) (same_read (a.0 ∷ b.0) xs b.2)
    (ap (λ (t : List ℕ). t ∷ fields) one.0 ∙ ap (λ (r : List (List ℕ)). f.spell a.0 ∷ r) rest.0, (one.1, rest.1))

every_knows : {A : Type 0} (f : Judged A) (Fits : A → Type 0) → IsExactly f Fits → (n : ℕ) (xs : List A) → AllByRecursion Fits xs → read_every f n (map f.spell xs) ≡ Ok xs
unfolding read_every
every_knows f Fits ef n [] fits = refl
every_knows f Fits ef n (x ∷ xs) fits = rw (ef.knows x fits.0, every_knows f Fits ef (n + 1) xs fits.1) refl

pub every_exact : {A : Type 0} (f : Judged A) {Fits : A → Type 0} → IsExactly f Fits → IsExactRow (every f) (AllByRecursion Fits)
every_exact f {Fits} ef = record { finds = every_finds f Fits ef; knows = every_knows f Fits ef }

-- ---- kinds of lines

-- the words spell the line, which may stand behind what has been read
abbrev pub Good : Context → ScriptLine → List (List ℕ) → Type 0
Good c line words = (words ≡ line_words line) × Stands c line

kind_finds : {A : Type 0} (p : Row A) {Fits : A → Type 0} (to : A → ScriptLine) (right : List (List ℕ) → Bool) (word : List ℕ) (c : Context) → IsExactRow p Fits
    → ((a : A) → Fits a → right (p.spell a) ≡ true → is_misplaced c word (p.spell a) ≡ false → Good c (to a) (word ∷ p.spell a))
    → (fields : List (List ℕ)) (line : ScriptLine) → made to (counted (right fields) p fields) ≡ Ok line → is_misplaced c word fields ≡ false → Good c line (word ∷ fields)
kind_finds {A} p {Fits} to right word c ep good fields line h calm =
    let m = made_ok to (counted (right fields) p fields) line h in
    let i = if_ok (right fields) (p.read 1 fields) causes.Fields m.0 m.1 in
    let r = ep.finds 1 fields m.0 i.1 in
    subst (λ (l : ScriptLine). Good c l (word ∷ fields)) m.2
    (subst (λ (l : List (List ℕ)). Good c (to m.0) (word ∷ l)) (sym r.0) (good m.0 r.1 (ap right (sym r.0) ∙ i.0) (ap (is_misplaced c word) (sym r.0) ∙ calm)))

pub kind_knows : {A : Type 0} (p : Row A) {Fits : A → Type 0} (to : A → ScriptLine) (right : Bool) → IsExactRow p Fits → (a : A) → Fits a → right ≡ true
    → made to (counted right p (p.spell a)) ≡ Ok (to a)
kind_knows p to right ep a fits e = rw (e, ep.knows 1 a fits) refl

abbrev pub IsKind : Context → Kind → Type 0
IsKind c k = (fields : List (List ℕ)) (line : ScriptLine) → k.read fields ≡ Ok line → is_misplaced c k.word fields ≡ false → Good c line (k.word ∷ fields)

-- a field is left
pub has_some : (text : List ℕ) (fields : List (List ℕ)) → has 0 0 (text ∷ fields) ≡ false
has_some text fields = rw (le-leb 0 (length (text ∷ fields)) (omega arith), lt-leb (length (text ∷ fields)) 0 (omega arith)) refl

bare_finds : (line : ScriptLine) (word : List ℕ) (c : Context) → Good c line (word ∷ []) → IsKind c (record { word = word; read = bare line })
bare_finds line word c good [] x h calm = subst (λ (l : ScriptLine). Good c l (word ∷ [])) (same_read line x h) good
bare_finds line word c good (text ∷ fields) x h calm = cc (rw (has_some text fields) at h)

pub kinds_find : (c : Context) (kinds : List Kind) → AllByRecursion (IsKind c) kinds → (word : List ℕ) (fields : List (List ℕ)) (line : ScriptLine)
    → read_kind kinds word fields ≡ Ok line → is_misplaced c word fields ≡ false → Good c line (word ∷ fields)
kinds_find c [] all word fields line h calm = cc h
kinds_find c (k ∷ kinds) all word fields line h calm =
    elim (cases_Bool (bytes_eq word k.word)) [
      | inl same ↦
          let e = (bytes_eq-Decides word k.word).0 same in
          subst (λ (w : List ℕ). Good c line (w ∷ fields)) (sym e)
          (all.0 fields line (sym (cond-true (bytes_eq word k.word) (k.read fields) (read_kind kinds word fields) same) ∙ h) (ap (λ (w : List ℕ). is_misplaced c w fields) (sym e) ∙ calm))
      | inr differs ↦ kinds_find c kinds all.1 word fields line (sym (cond-false (bytes_eq word k.word) (k.read fields) (read_kind kinds word fields) differs) ∙ h) calm
    ]

-- why a line isn't misplaced
pub record IsCalm (c : Context) (word : List ℕ) (fields : List (List ℕ)) : Type 0 where
  pub listed : is_listed (words_of c.form) word ≡ true
  pub unended : c.ended ≡ false
  pub corrupt : (bytes_eq word (codes "corrupt") && not c.after_group) ≡ false
  pub new : speaks_again c.form c word fields ≡ false

not_false : (b : Bool) → not b ≡ false → b ≡ true
not_false true h = refl
not_false false h = cc h

pub is_calm : (c : Context) (word : List ℕ) (fields : List (List ℕ)) → is_misplaced c word fields ≡ false → IsCalm c word fields
is_calm c word fields h =
    let corrupt = bytes_eq word (codes "corrupt") && not c.after_group in
    let again = speaks_again c.form c word fields in
    let a = or_parts (not (is_listed (words_of c.form) word)) (c.ended || (corrupt || again)) h in
    let b = or_parts c.ended (corrupt || again) a.1 in
    let d = or_parts corrupt again b.1 in
    record { listed = not_false (is_listed (words_of c.form) word) a.0; unended = b.0; corrupt = d.0; new = d.1 }

pub calm_from : (c : Context) (word : List ℕ) (fields : List (List ℕ)) → IsCalm c word fields → is_misplaced c word fields ≡ false
calm_from c word fields calm =
    or_from _ _ (not_from_true (is_listed (words_of c.form) word) calm.listed) (or_from _ _ calm.unended (or_from _ _ calm.corrupt calm.new))

-- the numbers of clients and servers are those of a group, and in a plain script there is a client
pub record IsSound (c : Context) : Type 0 where
  pub clients : c.clients ≤ MAX_CLIENTS
  pub servers : c.servers ≤ MAX_SERVERS
  pub some : c.form ≡ forms.Plain → 1 ≤ c.clients

-- ---- first lines

module _ (c : Context) (none : c.form ≡ forms.Nothing) where
  plain_found : IsKind c (record { word = codes "plain"; read = read_plain })
  unfolding read_plain
  plain_found =
      kind_finds (within 1 MAX_CLIENTS ▹ within 1 MAX_SERVERS ▹ within 1 MAX_BITS ▹ one seed) (λ x. lines.Plain x.0 x.1.0 x.1.1.0 x.1.1.1) (has 4 4) (codes "plain") c (then_exact (within 1 MAX_CLIENTS) (within 1 MAX_SERVERS ▹ within 1 MAX_BITS ▹ one seed) (within_exact 1 MAX_CLIENTS (omega arith)) (then_exact (within 1 MAX_SERVERS) (within 1 MAX_BITS ▹ one seed) (within_exact 1 MAX_SERVERS (omega arith)) (then_exact (within 1 MAX_BITS) (one seed) (within_exact 1 MAX_BITS (omega arith)) (one_exact seed seed_exact))))
      (λ a fits right calm. (refl, (none, fits.0, fits.1.0, fits.1.1.0, fits.1.1.1)))

  group_found : (version : ℕ) (word : List ℕ) → IsIn 1 2 version → word ≡ group_word version → IsKind c (record { word = word; read = read_group version })
  unfolding read_group
  group_found version word known e =
      kind_finds (within 1 MAX_CLIENTS ▹ within 1 MAX_SERVERS ▹ within 1 4 ▹ within 5 6 ▹ within 5 7 ▹ one seed) (λ x. lines.Group version x.0 x.1.0 x.1.1.0 x.1.1.1.0 x.1.1.1.1.0 x.1.1.1.1.1) (has 6 6) word c (then_exact (within 1 MAX_CLIENTS) (within 1 MAX_SERVERS ▹ within 1 4 ▹ within 5 6 ▹ within 5 7 ▹ one seed) (within_exact 1 MAX_CLIENTS (omega arith)) (then_exact (within 1 MAX_SERVERS) (within 1 4 ▹ within 5 6 ▹ within 5 7 ▹ one seed) (within_exact 1 MAX_SERVERS (omega arith)) (then_exact (within 1 4) (within 5 6 ▹ within 5 7 ▹ one seed) (within_exact 1 4 (omega arith)) (then_exact (within 5 6) (within 5 7 ▹ one seed) (within_exact 5 6 (omega arith)) (then_exact (within 5 7) (one seed) (within_exact 5 7 (omega arith)) (one_exact seed seed_exact))))))
      (λ a fits right calm. (ap (λ (w : List ℕ). w ∷ (within 1 MAX_CLIENTS ▹ within 1 MAX_SERVERS ▹ within 1 4 ▹ within 5 6 ▹ within 5 7 ▹ one seed).spell a) e, (none, known, fits.0, fits.1.0, fits.1.1.0, fits.1.1.1.0, fits.1.1.1.1.0, fits.1.1.1.1.1)))

  pub openings_found : AllByRecursion (IsKind c) opening_kinds
  openings_found = (plain_found, (group_found 2 (codes "group") (omega arith, omega arith) refl, (group_found 1 (codes "group1") (omega arith, omega arith) refl, tt)))

-- ---- lines of plain scripts

pub not_again : (said : List Member) (i : ClientId) (rest : List (List ℕ)) → i.0 < 2 ^ 64 → says_again said (decimal i.0 ∷ rest) ≡ is_among (Client i) said
not_again said i rest small = rw (decimal_numeral i.0 small, digits_value-decimal told i.0 small) refl

module _ (c : Context) (begun : c.form ≡ forms.Plain) (one_client : 1 ≤ c.clients) (few : c.clients < 2 ^ 64) where
  plain_say_found : IsKind c (record { word = codes "say"; read = read_plain_say c.clients c.bits })
  unfolding read_plain_say
  plain_say_found =
      kind_finds (client_number c.clients ▹ one (bits c.bits)) (λ x. lines.PlainSay x.0 x.1) (has 2 2) (codes "say") c (then_exact (client_number c.clients) (one (bits c.bits)) (client_number_exact c.clients few) (one_exact (bits c.bits) (bits_exact c.bits)))
      (λ a fits right calm.
      let new = (is_calm c (codes "say") (decimal a.0.0 ∷ hex_text a.1 ∷ []) calm).new in
      let again : says_again c.said (decimal a.0.0 ∷ hex_text a.1 ∷ []) ≡ false = rw begun at new in
      (refl, (begun, omega (arith, fits.0.1), sym (not_again c.said a.0 (hex_text a.1 ∷ []) (omega (arith, fits.0.1))) ∙ again, fits.1.0, fits.1.1)))

  plain_submit_found : IsKind c (record { word = codes "submit"; read = read_plain_submit c.clients })
  unfolding read_plain_submit
  plain_submit_found =
      kind_finds (one (client_number c.clients)) (λ x. lines.PlainSubmit x) (has 1 1) (codes "submit") c (one_exact (client_number c.clients) (client_number_exact c.clients few))
      (λ a fits right calm. (refl, (begun, omega (arith, fits.1))))

  plain_tick_found : IsKind c (record { word = codes "tick"; read = read_tick })
  unfolding read_tick
  plain_tick_found = kind_finds (one (within 1 MAX_TICKS)) (λ x. lines.Tick x) (has 1 1) (codes "tick") c (one_exact (within 1 MAX_TICKS) (within_exact 1 MAX_TICKS (omega arith))) (λ a fits right calm. (refl, (inl begun, fits)))

  pub plain_kinds_found : AllByRecursion (IsKind c) (plain_kinds c.clients c.bits)
  plain_kinds_found = (
    plain_say_found,
    (
      plain_submit_found,
      (
        plain_tick_found,
        (
          bare_finds lines.PlainClose (codes "close") c (refl, begun),
          (bare_finds lines.End (codes "end") c (refl, inl begun), tt),
        ),
      ),
    ),
  )

-- ---- members, each once

once_finds : (g : Group) → IsExactly (member_in g) (IsMemberOf g) → (fields : List (List ℕ)) (n : ℕ) (before all : List Member) → read_once g n before fields ≡ Ok all
    → (members : List Member) × (all ≡ before ++ members) × (fields ≡ map member_text members) × AllByRecursion (IsMemberOf g) members × IsOnce before members
unfolding read_once
once_finds g em [] n before all h = ([], sym (same_read before all h) ∙ sym (append-nil before), refl, tt, tt)
once_finds g em (text ∷ fields) n before all h =
    let a = bind_ok (in_field n (judge (member_in g) text)) (λ m. cond (is_among m before) (Err (causes.Range n)) (read_once g (n + 1) (before ++ m ∷ []) fields)) all h in
    let b = unless_ok (is_among a.0 before) (read_once g (n + 1) (before ++ a.0 ∷ []) fields) (causes.Range n) all a.2 in
    let first = em.finds text a.0 (field_ok n (judge (member_in g) text) a.0 a.1) in
    let rest = once_finds g em fields (n + 1) (before ++ a.0 ∷ []) all b.1 in (
      a.0 ∷ rest.0,
      rest.1 ∙ append_assoc before (a.0 ∷ []) rest.0,
      ap (λ (t : List ℕ). t ∷ fields) first.0 ∙ ap (λ (l : List (List ℕ)). member_text a.0 ∷ l) rest.2,
      (first.1, rest.3),
      (b.0, rest.4),
    )

pub once_knows : (g : Group) → IsExactly (member_in g) (IsMemberOf g) → (members : List Member) (n : ℕ) (before : List Member) → AllByRecursion (IsMemberOf g) members → IsOnce before members
    → read_once g n before (map member_text members) ≡ Ok (before ++ members)
unfolding read_once
once_knows g em [] n before all once = ap Ok (sym (append-nil before))
once_knows g em (m ∷ members) n before all once =
    rw (em.knows m all.0, once.0) (once_knows g em members (n + 1) (before ++ m ∷ []) all.1 once.1 ∙ ap Ok (append_assoc before (m ∷ []) members))

-- ---- lines of group scripts

some_left : (fields : List (List ℕ)) (r : Result ScriptLine Cause) (line : ScriptLine) → cond (has 0 0 fields) (Err causes.Fields) r ≡ Ok line → (1 ≤ length fields) × (r ≡ Ok line)
some_left [] r line h = cc h
some_left (text ∷ fields) r line h = (omega arith, rw (has_some text fields) at h)

module _ (c : Context) (begun : c.form ≡ forms.Group) (few : c.clients < 2 ^ 64) (some : c.servers < 2 ^ 64) where
  corrupt_found : IsKind c (record { word = codes "corrupt"; read = read_corrupt (group_in c) })
  unfolding read_corrupt
  corrupt_found fields line h calm =
      let left = some_left fields (made (λ x. lines.Corrupt x) (read_once (group_in c) 1 [] fields)) line h in
      let m = made_ok (λ x. lines.Corrupt x) (read_once (group_in c) 1 [] fields) line left.1 in
      let once = once_finds (group_in c) (member_exact (group_in c) few some) fields 1 [] m.0 m.1 in
      let after : c.after_group ≡ true = not_false c.after_group (is_calm c (codes "corrupt") fields calm).corrupt in
      let long : 1 ≤ length once.0 = omega (arith, left.0, ap length once.2, length-map once.0 member_text) in
      subst (λ (l : ScriptLine). Good c l (codes "corrupt" ∷ fields)) (ap (λ (x : List Member). lines.Corrupt x) (sym once.1) ∙ m.2)
      (ap (λ (l : List (List ℕ)). codes "corrupt" ∷ l) once.2, (begun, after, long, once.3, once.4))

  say_found : IsKind c (record { word = codes "say"; read = read_say (group_in c) })
  unfolding read_say
  say_found = kind_finds (client_in (group_in c) ▹ one (bytes_within 0 MAX_TEXT)) (λ x. lines.Say x.0 x.1) (has 2 2) (codes "say") c (then_exact (client_in (group_in c)) (one (bytes_within 0 MAX_TEXT)) (client_exact (group_in c) few) (one_exact (bytes_within 0 MAX_TEXT) (bytes_within_exact 0 MAX_TEXT))) (λ a fits right calm. (refl, (begun, fits.0, fits.1)))

  open_found : IsKind c (record { word = codes "open"; read = read_open (group_in c) })
  unfolding read_open
  open_found = kind_finds (server_in (group_in c) ▹ one round) (λ x. lines.Open x.0 x.1) (has 2 2) (codes "open") c (then_exact (server_in (group_in c)) (one round) (server_exact (group_in c) some) (one_exact round round_exact)) (λ a fits right calm. (refl, (begun, fits.0, fits.1)))

  close_found : IsKind c (record { word = codes "close"; read = read_close (group_in c) })
  unfolding read_close
  close_found = kind_finds (one (server_in (group_in c))) (λ x. lines.Close x) (has 1 1) (codes "close") c (one_exact (server_in (group_in c)) (server_exact (group_in c) some)) (λ a fits right calm. (refl, (begun, fits)))

  abandon_found : IsKind c (record { word = codes "abandon"; read = read_abandon (group_in c) })
  unfolding read_abandon
  abandon_found = kind_finds (one (server_in (group_in c))) (λ x. lines.Abandon x) (has 1 1) (codes "abandon") c (one_exact (server_in (group_in c)) (server_exact (group_in c) some)) (λ a fits right calm. (refl, (begun, fits)))

  submit_found : IsKind c (record { word = codes "submit"; read = read_submit (group_in c) })
  unfolding read_submit
  submit_found = kind_finds (client_in (group_in c) ▹ server_in (group_in c) ▹ one round) (λ x. lines.Submit x.0 x.1.0 x.1.1) (has 3 3) (codes "submit") c (then_exact (client_in (group_in c)) (server_in (group_in c) ▹ one round) (client_exact (group_in c) few) (then_exact (server_in (group_in c)) (one round) (server_exact (group_in c) some) (one_exact round round_exact))) (λ a fits right calm. (refl, (begun, fits.0, fits.1.0, fits.1.1)))

  deliver_found : IsKind c (record { word = codes "deliver"; read = read_deliver })
  unfolding read_deliver
  deliver_found = kind_finds (one any_number) (λ x. lines.Deliver x) (has 1 1) (codes "deliver") c (one_exact any_number any_number_exact) (λ a fits right calm. (refl, (begun, fits)))

  lose_found : IsKind c (record { word = codes "lose"; read = read_lose })
  unfolding read_lose
  lose_found = kind_finds (one any_number) (λ x. lines.Lose x) (has 1 1) (codes "lose") c (one_exact any_number any_number_exact) (λ a fits right calm. (refl, (begun, fits)))

  cut_found : IsKind c (record { word = codes "cut"; read = read_cut (group_in c) })
  unfolding read_cut
  cut_found = kind_finds (member_in (group_in c) ▹ one (member_in (group_in c))) (λ x. lines.Cut x.0 x.1) (has 2 2) (codes "cut") c (then_exact (member_in (group_in c)) (one (member_in (group_in c))) (member_exact (group_in c) few some) (one_exact (member_in (group_in c)) (member_exact (group_in c) few some))) (λ a fits right calm. (refl, (begun, fits.0, fits.1)))

  flow_found : IsKind c (record { word = codes "flow"; read = read_flow })
  unfolding read_flow
  flow_found = kind_finds (one (within 1 MAX_FLOW)) (λ x. lines.Flow x) (has 1 1) (codes "flow") c (one_exact (within 1 MAX_FLOW) (within_exact 1 MAX_FLOW (omega arith))) (λ a fits right calm. (refl, (begun, fits)))

  tick_found : IsKind c (record { word = codes "tick"; read = read_tick })
  unfolding read_tick
  tick_found = kind_finds (one (within 1 MAX_TICKS)) (λ x. lines.Tick x) (has 1 1) (codes "tick") c (one_exact (within 1 MAX_TICKS) (within_exact 1 MAX_TICKS (omega arith))) (λ a fits right calm. (refl, (inr begun, fits)))

  leave_found : IsKind c (record { word = codes "leave"; read = read_leave (group_in c) })
  unfolding read_leave
  leave_found = kind_finds (one (client_in (group_in c))) (λ x. lines.Leave x) (has 1 1) (codes "leave") c (one_exact (client_in (group_in c)) (client_exact (group_in c) few)) (λ a fits right calm. (refl, (begun, fits)))

  accuse_found : IsKind c (record { word = codes "accuse"; read = read_accuse (group_in c) })
  unfolding read_accuse
  accuse_found = kind_finds (client_in (group_in c) ▹ round ▹ one place_or_first) (λ x. lines.Accuse x.0 x.1.0 x.1.1) (has 3 3) (codes "accuse") c (then_exact (client_in (group_in c)) (round ▹ one place_or_first) (client_exact (group_in c) few) (then_exact round (one place_or_first) round_exact (one_exact place_or_first place_or_first_exact))) (λ a fits right calm. (refl, (begun, fits.0, fits.1.0, fits.1.1)))

  live_found : IsKind c (record { word = codes "live"; read = read_live })
  unfolding read_live
  live_found = kind_finds (one (within 1 MAX_LIVE_TURNS)) (λ x. lines.Live x) (has 1 1) (codes "live") c (one_exact (within 1 MAX_LIVE_TURNS) (within_exact 1 MAX_LIVE_TURNS (omega arith))) (λ a fits right calm. (refl, (begun, fits)))

  inject_found : IsKind c (record { word = codes "inject"; read = read_inject (group_in c) })
  unfolding read_inject
  inject_found = kind_finds (corrupt_member (group_in c) ▹ member_in (group_in c) ▹ one any_bytes) (λ x. lines.Inject x.0 x.1.0 x.1.1) (has 3 3) (codes "inject") c (then_exact (corrupt_member (group_in c)) (member_in (group_in c) ▹ one any_bytes) (corrupt_member_exact (group_in c) few some) (then_exact (member_in (group_in c)) (one any_bytes) (member_exact (group_in c) few some) (one_exact any_bytes any_bytes_exact))) (λ a fits right calm. (refl, (begun, fits.0, fits.1.0, fits.1.1)))

  speak_found : IsKind c (record { word = codes "speak"; read = read_speak (group_in c) })
  unfolding read_speak
  speak_found = kind_finds (corrupt_member (group_in c) ▹ member_in (group_in c) ▹ one any_bytes) (λ x. lines.Speak x.0 x.1.0 x.1.1) (has 3 3) (codes "speak") c (then_exact (corrupt_member (group_in c)) (member_in (group_in c) ▹ one any_bytes) (corrupt_member_exact (group_in c) few some) (then_exact (member_in (group_in c)) (one any_bytes) (member_exact (group_in c) few some) (one_exact any_bytes any_bytes_exact))) (λ a fits right calm. (refl, (begun, fits.0, fits.1.0, fits.1.1)))

  replay_found : IsKind c (record { word = codes "replay"; read = read_replay (group_in c) })
  unfolding read_replay
  replay_found = kind_finds (any_number ▹ one (member_in (group_in c))) (λ x. lines.Replay x.0 x.1) (has 2 2) (codes "replay") c (then_exact any_number (one (member_in (group_in c))) any_number_exact (one_exact (member_in (group_in c)) (member_exact (group_in c) few some))) (λ a fits right calm. (refl, (begun, fits.0, fits.1)))

  lure_found : IsKind c (record { word = codes "lure"; read = read_lure (group_in c) })
  unfolding read_lure
  lure_found = kind_finds (corrupt_server (group_in c) ▹ client_in (group_in c) ▹ one round) (λ x. lines.Lure x.0 x.1.0 x.1.1) (has 3 3) (codes "lure") c (then_exact (corrupt_server (group_in c)) (client_in (group_in c) ▹ one round) (corrupt_server_exact (group_in c) some) (then_exact (client_in (group_in c)) (one round) (client_exact (group_in c) few) (one_exact round round_exact))) (λ a fits right calm. (refl, (begun, fits.0, fits.1.0, fits.1.1)))

  complete_found : IsKind c (record { word = codes "complete"; read = read_complete (group_in c) })
  unfolding read_complete
  complete_found = kind_finds (corrupt_server (group_in c) ▹ one round) (λ x. lines.Complete x.0 x.1) (has 2 2) (codes "complete") c (then_exact (corrupt_server (group_in c)) (one round) (corrupt_server_exact (group_in c) some) (one_exact round round_exact)) (λ a fits right calm. (refl, (begun, fits.0, fits.1)))

  twist_made : (who word : List ℕ) (rest : List (List ℕ)) (t : Twist) (m : Member) → judge (corrupt_member (group_in c)) who ≡ Ok m
      → word ∷ rest ≡ twist_words t → FitsTwist c m t → Good c (lines.Twist m t) (codes "twist" ∷ who ∷ word ∷ rest)
  twist_made who word rest t m read spelled fits =
      let found = (corrupt_member_exact (group_in c) few some).finds who m read in
      (ap (λ (w : List ℕ). codes "twist" ∷ w ∷ word ∷ rest) found.0 ∙ ap (λ (l : List (List ℕ)). codes "twist" ∷ member_text m ∷ l) spelled, (begun, found.1, fits))

  nothing_left : (rest : List (List ℕ)) → has 0 0 rest ≡ true → rest ≡ []
  nothing_left [] h = refl
  nothing_left (text ∷ rest) h = absurd (false≢true (sym (has_some text rest) ∙ h))

  server_of : (m : Member) (y : Unit {0}) → server_alone m ≡ Ok y → is_client m ≡ false
  server_of (Client i) y h = cc h
  server_of (Server j) y h = refl

  -- the twist of a word with one field behind it
  with_field : {A : Type 0} (f : Judged A) (Fits : A → Type 0) → IsExactly f Fits → (who word : List ℕ) (rest : List (List ℕ)) (to : A → Twist) (line : ScriptLine)
      → ((a : A) → word ∷ f.spell a ∷ [] ≡ twist_words (to a)) → ((m : Member) (a : A) → Fits a → FitsTwist c m (to a))
      → (in_field 1 (judge (corrupt_member (group_in c)) who) >>= λ m. (one f).read 3 rest >>= λ a. Ok (lines.Twist m (to a))) ≡ Ok line
      → Good c line (codes "twist" ∷ who ∷ word ∷ rest)
  with_field f Fits ef who word rest to line spelled fits h =
      let a = bind_ok (in_field 1 (judge (corrupt_member (group_in c)) who)) (λ m. (one f).read 3 rest >>= λ x. Ok (lines.Twist m (to x))) line h in
      let b = bind_ok ((one f).read 3 rest) (λ x. Ok (lines.Twist a.0 (to x))) line a.2 in
      let r = (one_exact f ef).finds 3 rest b.0 b.1 in
      subst (λ (l : ScriptLine). Good c l (codes "twist" ∷ who ∷ word ∷ rest)) (same_read (lines.Twist a.0 (to b.0)) line b.2)
      (twist_made who word rest (to b.0) a.0 (field_ok 1 (judge (corrupt_member (group_in c)) who) a.0 a.1) (ap (λ (l : List (List ℕ)). word ∷ l) r.0 ∙ spelled b.0) (fits a.0 b.0 r.1))

  -- the same of a twist of servers alone
  with_server : {A : Type 0} (f : Judged A) (Fits : A → Type 0) → IsExactly f Fits → (who word : List ℕ) (rest : List (List ℕ)) (to : A → Twist) (line : ScriptLine)
      → ((a : A) → word ∷ f.spell a ∷ [] ≡ twist_words (to a)) → ((m : Member) (a : A) → is_client m ≡ false → Fits a → FitsTwist c m (to a))
      → (in_field 1 (judge (corrupt_member (group_in c)) who) >>= λ m. server_alone m >>= λ y. (one f).read 3 rest >>= λ a. Ok (lines.Twist m (to a))) ≡ Ok line
      → Good c line (codes "twist" ∷ who ∷ word ∷ rest)
  with_server f Fits ef who word rest to line spelled fits h =
      let a = bind_ok (in_field 1 (judge (corrupt_member (group_in c)) who)) (λ m. server_alone m >>= λ y. (one f).read 3 rest >>= λ x. Ok (lines.Twist m (to x))) line h in
      let s = bind_ok (server_alone a.0) (λ y. (one f).read 3 rest >>= λ x. Ok (lines.Twist a.0 (to x))) line a.2 in
      let b = bind_ok ((one f).read 3 rest) (λ x. Ok (lines.Twist a.0 (to x))) line s.2 in
      let r = (one_exact f ef).finds 3 rest b.0 b.1 in
      subst (λ (l : ScriptLine). Good c l (codes "twist" ∷ who ∷ word ∷ rest)) (same_read (lines.Twist a.0 (to b.0)) line b.2)
      (twist_made who word rest (to b.0) a.0 (field_ok 1 (judge (corrupt_member (group_in c)) who) a.0 a.1) (ap (λ (l : List (List ℕ)). word ∷ l) r.0 ∙ spelled b.0) (fits a.0 b.0 (server_of a.0 s.0 s.1) r.1))

  mute_found : (who word : List ℕ) (rest : List (List ℕ)) (line : ScriptLine) → word ≡ codes "mute"
      → cond (has 0 0 rest) (in_field 1 (judge (corrupt_member (group_in c)) who) >>= λ m. Ok (lines.Twist m twists.Mute)) (Err causes.Fields) ≡ Ok line
      → Good c line (codes "twist" ∷ who ∷ word ∷ rest)
  mute_found who word rest line e h =
      let i = if_ok (has 0 0 rest) (in_field 1 (judge (corrupt_member (group_in c)) who) >>= λ m. Ok (lines.Twist m twists.Mute)) causes.Fields line h in
      let a = bind_ok (in_field 1 (judge (corrupt_member (group_in c)) who)) (λ m. Ok (lines.Twist m twists.Mute)) line i.1 in
      subst (λ (l : ScriptLine). Good c l (codes "twist" ∷ who ∷ word ∷ rest)) (same_read (lines.Twist a.0 twists.Mute) line a.2)
      (twist_made who word rest twists.Mute a.0 (field_ok 1 (judge (corrupt_member (group_in c)) who) a.0 a.1)
      (ap (λ (l : List (List ℕ)). word ∷ l) (nothing_left rest i.0) ∙ ap (λ (w : List ℕ). w ∷ []) e) tt)

  twist_of_found : (who word : List ℕ) (rest : List (List ℕ)) (line : ScriptLine) → read_twist_of (group_in c) who word rest ≡ Ok line → Good c line (codes "twist" ∷ who ∷ word ∷ rest)
  unfolding read_twist_of
  twist_of_found who word rest line h =
      elim (cases_Bool (bytes_eq word (codes "mute"))) [
        | inl mute ↦ mute_found who word rest line ((bytes_eq-Decides word (codes "mute")).0 mute) (rw mute at h)
        | inr n0 ↦
            elim (cases_Bool (has 1 1 rest)) [
              | inr few_left ↦ cc (rw (n0, few_left) at h)
              | inl alone ↦
                  elim (cases_Bool (bytes_eq word (codes "flip"))) [
                    | inl flip ↦
                        let e = (bytes_eq-Decides word (codes "flip")).0 flip in
                        with_field place _ place_exact who word rest (λ k. twists.Flip k) line (λ a. ap (λ (w : List ℕ). w ∷ decimal a ∷ []) e) (λ m a fits. omega (arith, fits.1))
                        (rw (n0, alone, flip) at h)
                    | inr n1 ↦
                        elim (cases_Bool (bytes_eq word (codes "jam"))) [
                          | inl jam ↦
                              let e = (bytes_eq-Decides word (codes "jam")).0 jam in
                              with_field (client_in (group_in c)) _ (client_exact (group_in c) few) who word rest (λ i. twists.Jam i) line (λ a. ap (λ (w : List ℕ). w ∷ client_text a ∷ []) e) (λ m a fits. fits)
                              (rw (n0, alone, n1, jam) at h)
                          | inr n2 ↦
                              elim (cases_Bool (bytes_eq word (codes "reveal"))) [
                                | inl reveal ↦
                                    let e = (bytes_eq-Decides word (codes "reveal")).0 reveal in
                                    with_server place _ place_exact who word rest (λ k. twists.Reveal k) line (λ a. ap (λ (w : List ℕ). w ∷ decimal a ∷ []) e) (λ m a s fits. (s, omega (arith, fits.1)))
                                    (rw (n0, alone, n1, n2, reveal) at h)
                                | inr n3 ↦
                                    elim (cases_Bool (bytes_eq word (codes "frame"))) [
                                      | inl frame ↦
                                          let e = (bytes_eq-Decides word (codes "frame")).0 frame in
                                          with_server (client_in (group_in c)) _ (client_exact (group_in c) few) who word rest (λ i. twists.Frame i) line (λ a. ap (λ (w : List ℕ). w ∷ client_text a ∷ []) e) (λ m a s fits. (s, fits))
                                          (rw (n0, alone, n1, n2, n3, frame) at h)
                                      | inr n4 ↦ cc (rw (n0, alone, n1, n2, n3, n4) at h)
                                    ]
                              ]
                        ]
                  ]
            ]
      ]

  race_found : IsKind c (record { word = codes "race"; read = read_race (group_in c) })
  unfolding read_race
  race_found =
      kind_finds (honest_server (group_in c) ▹ within 1 MAX_RACE_WORKERS ▹ every (honest_client (group_in c))) (λ x. lines.Race x.0 x.1.0 x.1.1) (has 3 (MAX_RACE_LIST + 2)) (codes "race") c
      (then_exact (honest_server (group_in c)) (within 1 MAX_RACE_WORKERS ▹ every (honest_client (group_in c))) (honest_server_exact (group_in c) some) (then_exact (within 1 MAX_RACE_WORKERS) (every (honest_client (group_in c))) (within_exact 1 MAX_RACE_WORKERS (omega arith)) (every_exact (honest_client (group_in c)) (honest_client_exact (group_in c) few))))
      (λ a fits right calm.
      let count = length (server_text a.0 ∷ decimal a.1.0 ∷ map member_text a.1.1) in
      let bounds = and_parts (nat_le 3 count) (nat_le count (MAX_RACE_LIST + 2)) right in
      let low = leb-true 3 count bounds.0 in
      let high = leb-true count (MAX_RACE_LIST + 2) bounds.1 in
      (refl, (begun, fits.0, fits.1.0, (omega (arith, low, length-map a.1.1 member_text), omega (arith, high, length-map a.1.1 member_text)), fits.1.1)))

  judge_found : IsKind c (record { word = codes "judge"; read = read_judge })
  unfolding read_judge
  judge_found fields line h calm =
      elim (cases_Bool (has 1 1 fields)) [
        | inl alone ↦
            let e : made (λ r. lines.Judge r None) ((one round).read 1 fields) ≡ Ok line = rw alone at h in
            let m = made_ok (λ r. lines.Judge r None) ((one round).read 1 fields) line e in
            let r = (one_exact round round_exact).finds 1 fields m.0 m.1 in
            subst (λ (l : ScriptLine). Good c l (codes "judge" ∷ fields)) m.2
            (subst (λ (l : List (List ℕ)). Good c (lines.Judge m.0 None) (codes "judge" ∷ l)) (sym r.0) (refl, (begun, r.1, tt)))
        | inr other ↦
            let e : fixed 2 (λ x. lines.Judge x.0 (Some x.1)) (round ▹ one place) fields ≡ Ok line = rw other at h in
            kind_finds (round ▹ one place) (λ x. lines.Judge x.0 (Some x.1)) (has 2 2) (codes "judge") c (then_exact round (one place) round_exact (one_exact place place_exact))
            (λ a fits right calm. (refl, (begun, fits.0, omega (arith, fits.1.1)))) fields line e calm
      ]

  twist_found : IsKind c (record { word = codes "twist"; read = read_twist (group_in c) })
  twist_found [] line h calm = cc h
  twist_found (who ∷ []) line h calm = cc h
  twist_found (who ∷ word ∷ rest) line h calm = twist_of_found who word rest line h

  pub group_kinds_found : AllByRecursion (IsKind c) (group_kinds (group_in c))
  group_kinds_found =
      (corrupt_found, (say_found, (open_found, (close_found, (abandon_found, (submit_found, (deliver_found, (lose_found, (cut_found, (flow_found, (tick_found, (leave_found, (accuse_found, (judge_found, (race_found, (live_found, (twist_found, (inject_found, (speak_found, (replay_found, (lure_found, (complete_found, (bare_finds lines.End (codes "end") c (refl, inr begun), tt)))))))))))))))))))))))
