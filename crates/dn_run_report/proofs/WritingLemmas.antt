-- Rows of lines that are written piece by piece: how far they are, and where they stop.
use Rattle.std.proofs.Common.{◌≡◌, ◌<◌, ◌≤◌, ℕ, ◌+◌, List, [], ◌∷◌, ◌++◌, length, take, drop, get_or, sym, ap, subst, ◌∙◌, append_assoc, append-nil, take-append-drop, Result, Ok, Err, OnOk, OnErr}
use Rattle.std.specs.declared.option.Option.{Option}
use Rattle.std.specs.List.{flat_map}
use Rattle.std.specs.Io.KnownBytes.{Appends}
use Rattle.std.proofs.KnownBytes.{Appends-nil}
use Rattle.std.proofs.lemmas.List.{take_more, take_all}
use Rattle.std.proofs.lemmas.Grind.{flat_map-append}
use Rattle.dn_io.specs.Sink.{AppendsFront}
use Rattle.dn_io.specs.Writing.{AppendsAllBut}
use Rattle.dn_io.proofs.PieceLemmas.{collected_goes_on, collected_stops, collected_finishes, whole_is_front, front_of_more, piece_stops}
use Rattle.dn_report.specs.declared.line.ReportLine.{ReportLine}
use Rattle.dn_report.specs.Lines.{line_text}
use Rattle.dn_run_report.specs.Report.{lines_text}

-- what holds anyway holds where it failed
pub on_err : {A E : Type 0} (r : Result A E) (P : Type 0) → P → OnErr r P
on_err (Ok a) P holds = tt
on_err (Err e) P holds = holds

-- what follows of what holds where it went well, or failed
pub ok_follows : {A E : Type 0} (r : Result A E) (P Q : Type 0) → OnOk r P → (P → Q) → OnOk r Q
ok_follows (Ok a) P Q holds follows = follows holds
ok_follows (Err e) P Q holds follows = tt

pub err_follows : {A E : Type 0} (r : Result A E) (P Q : Type 0) → OnErr r P → (P → Q) → OnErr r Q
err_follows (Ok a) P Q holds follows = tt
err_follows (Err e) P Q holds follows = follows holds

-- nothing is written yet
pub begun : (start : Option (List ℕ)) (waiting : List ℕ) → AppendsAllBut start start (waiting ++ []) waiting
begun start waiting = ([], Appends-nil start, append-nil waiting)

-- what was written is a front of the text and more
pub stopped_before : (start now : Option (List ℕ)) (text waited rest : List ℕ) → AppendsAllBut start now text waited → AppendsFront start now (text ++ rest)
stopped_before start now text waited rest so_far =
    front_of_more start now text rest
    (subst (AppendsFront start now) (sym so_far.2) (front_of_more start now so_far.0 waited (whole_is_front start now so_far.0 so_far.1)))

module _ {X : Type 0} (f : X → List ReportLine) (xs : List X) where
  -- the text of the rows of the first n things
  abbrev rows : ℕ → List ℕ
  rows n = lines_text (flat_map f (take n xs))

  rows_more : (i : ℕ) (d : X) → i < length xs → rows (i + 1) ≡ rows i ++ lines_text (f (get_or xs i d))
  rows_more i d within =
      ap (λ l. lines_text (flat_map f l)) (take_more xs i d within)
      ∙ ap lines_text (flat_map-append f (take i xs) (get_or xs i d ∷ []) ∙ ap (λ l. flat_map f (take i xs) ++ l) (append-nil (f (get_or xs i d))))
      ∙ flat_map-append line_text (flat_map f (take i xs)) (f (get_or xs i d))

  rows_split : (i : ℕ) → lines_text (flat_map f xs) ≡ rows i ++ lines_text (flat_map f (drop i xs))
  rows_split i =
      ap (λ l. lines_text (flat_map f l)) (sym (take-append-drop i xs)) ∙ ap lines_text (flat_map-append f (take i xs) (drop i xs))
      ∙ flat_map-append line_text (flat_map f (take i xs)) (flat_map f (drop i xs))

  -- one row more is written, or waits
  pub one_more : (start before after : Option (List ℕ)) (waiting waited waits piece : List ℕ) (i : ℕ) (d : X)
      → AppendsAllBut start before (waiting ++ rows i) waited → AppendsAllBut before after (waited ++ piece) waits
      → piece ≡ lines_text (f (get_or xs i d)) → i < length xs → AppendsAllBut start after (waiting ++ rows (i + 1)) waits
  one_more start before after waiting waited waits piece i d first second is within =
      subst (λ t. AppendsAllBut start after t waits)
      (append_assoc waiting (rows i) piece ∙ ap (λ l. waiting ++ l) (ap (λ l. rows i ++ l) is ∙ sym (rows_more i d within)))
      (collected_goes_on start before after (waiting ++ rows i) piece waited waits first second)

  -- all rows are written, or wait
  pub all_rows : (start now : Option (List ℕ)) (waiting waits : List ℕ) (n : ℕ) → AppendsAllBut start now (waiting ++ rows n) waits → length xs ≤ n
      → AppendsAllBut start now (waiting ++ lines_text (flat_map f xs)) waits
  all_rows start now waiting waits n so_far all =
      subst (λ l. AppendsAllBut start now (waiting ++ lines_text (flat_map f l)) waits) (take_all n xs all) so_far

  -- it stops before a row
  pub stopped : (start now : Option (List ℕ)) (waiting waited : List ℕ) (i : ℕ) → AppendsAllBut start now (waiting ++ rows i) waited
      → AppendsFront start now (waiting ++ lines_text (flat_map f xs))
  stopped start now waiting waited i so_far =
      subst (AppendsFront start now) (append_assoc waiting (rows i) (lines_text (flat_map f (drop i xs))) ∙ ap (λ l. waiting ++ l) (sym (rows_split i)))
      (stopped_before start now (waiting ++ rows i) waited (lines_text (flat_map f (drop i xs))) so_far)

  -- it stops in a row
  pub failed : (start before after : Option (List ℕ)) (waiting waited piece : List ℕ) (i : ℕ) (d : X) → AppendsAllBut start before (waiting ++ rows i) waited
      → AppendsFront before after (waited ++ piece) → piece ≡ lines_text (f (get_or xs i d)) → i < length xs
      → AppendsFront start after (waiting ++ lines_text (flat_map f xs))
  failed start before after waiting waited piece i d first more is within =
      let rest = lines_text (flat_map f (drop (i + 1) xs)) in
      subst (AppendsFront start after)
      (
      ap (λ l. l ++ rest) (append_assoc waiting (rows i) piece ∙ ap (λ l. waiting ++ l) (ap (λ l. rows i ++ l) is ∙ sym (rows_more i d within)))
      ∙ append_assoc waiting (rows (i + 1)) rest ∙ ap (λ l. waiting ++ l) (sym (rows_split (i + 1)))
      )
      (front_of_more start after ((waiting ++ rows i) ++ piece) rest (collected_stops start before after (waiting ++ rows i) piece waited first more))

-- A text of three pieces, the second of which is many: where it stands, and where it stops.
module _ (start : Option (List ℕ)) (head rows last text : List ℕ) (is : text ≡ (head ++ rows) ++ last) where
  pub head_failed : (after : Option (List ℕ)) (piece : List ℕ) → AppendsFront start after piece → piece ≡ head → AppendsFront start after text
  head_failed after piece front same =
      subst (AppendsFront start after) (sym is)
      (front_of_more start after (head ++ rows) last (front_of_more start after head rows (subst (AppendsFront start after) same front)))

  pub rows_failed : (first after : Option (List ℕ)) (piece waited : List ℕ) → AppendsAllBut start first piece waited → piece ≡ head
      → AppendsFront first after (waited ++ rows) → AppendsFront start after text
  rows_failed first after piece waited put same front =
      subst (AppendsFront start after) (sym is)
      (front_of_more start after (head ++ rows) last
      (collected_stops start first after head rows waited (subst (λ t. AppendsAllBut start first t waited) same put) front))

  -- the head and the rows are written, or wait
  both : (first second : Option (List ℕ)) (piece waited waits : List ℕ) → AppendsAllBut start first piece waited → piece ≡ head
      → AppendsAllBut first second (waited ++ rows) waits → AppendsAllBut start second (head ++ rows) waits
  both first second piece waited waits put same more =
      collected_goes_on start first second head rows waited waits (subst (λ t. AppendsAllBut start first t waited) same put) more

  pub last_refused : (first second : Option (List ℕ)) (piece waited waits : List ℕ) → AppendsAllBut start first piece waited → piece ≡ head
      → AppendsAllBut first second (waited ++ rows) waits → AppendsFront start second text
  last_refused first second piece waited waits put same more =
      subst (AppendsFront start second) (sym is)
      (stopped_before start second (head ++ rows) waits last (both first second piece waited waits put same more))

  pub last_failed : (first second after : Option (List ℕ)) (piece waited waits end : List ℕ) → AppendsAllBut start first piece waited → piece ≡ head
      → AppendsAllBut first second (waited ++ rows) waits → end ≡ last → AppendsFront second after (waits ++ end) → AppendsFront start after text
  last_failed first second after piece waited waits end put same more ends front =
      subst (AppendsFront start after) (sym is)
      (collected_stops start second after (head ++ rows) last waits (both first second piece waited waits put same more)
      (subst (λ t. AppendsFront second after (waits ++ t)) ends front))

  -- all of it is written, or waits
  all_put : (first second third : Option (List ℕ)) (piece waited waits end left : List ℕ) → AppendsAllBut start first piece waited → piece ≡ head
      → AppendsAllBut first second (waited ++ rows) waits → end ≡ last → AppendsAllBut second third (waits ++ end) left → AppendsAllBut start third text left
  all_put first second third piece waited waits end left put same more ends rest =
      subst (λ t. AppendsAllBut start third t left) (sym is)
      (collected_goes_on start second third (head ++ rows) last waits left (both first second piece waited waits put same more)
      (subst (λ t. AppendsAllBut second third (waits ++ t) left) ends rest))

  pub finished : (first second third after : Option (List ℕ)) (piece waited waits end left : List ℕ) → AppendsAllBut start first piece waited → piece ≡ head
      → AppendsAllBut first second (waited ++ rows) waits → end ≡ last → AppendsAllBut second third (waits ++ end) left → Appends third after left
      → Appends start after text
  finished first second third after piece waited waits end left put same more ends rest done =
      collected_finishes start third after text left (all_put first second third piece waited waits end left put same more ends rest) done

  pub unfinished : (first second third after : Option (List ℕ)) (piece waited waits end left : List ℕ) → AppendsAllBut start first piece waited → piece ≡ head
      → AppendsAllBut first second (waited ++ rows) waits → end ≡ last → AppendsAllBut second third (waits ++ end) left → AppendsFront third after left
      → AppendsFront start after text
  unfinished first second third after piece waited waits end left put same more ends rest some =
      let all = all_put first second third piece waited waits end left put same more ends rest in
      subst (AppendsFront start after) (sym all.2) (piece_stops start third after all.0 left all.1 some)

pub parts : (head rows last : List ReportLine) → lines_text ((head ++ rows) ++ last) ≡ (lines_text head ++ lines_text rows) ++ lines_text last
parts head rows last = flat_map-append line_text (head ++ rows) last ∙ ap (λ l. l ++ lines_text last) (flat_map-append line_text head rows)
