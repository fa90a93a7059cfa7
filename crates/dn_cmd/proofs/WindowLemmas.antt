-- The window of a script, event by event.
use Rattle.std.proofs.Common.{zero, suc, ◌≡◌, ℕ, ◌+◌, ◌<◌, Bool, true, false, eqb, List, [], ◌∷◌, ◌++◌, map, length, get_or, set, drop, replicate, refl, sym, ap, ◌∙◌, ⊎_elim, arith, add-one, drop-cons, append_assoc, append-nil, length-set, subst}
use Rattle.std.specs.Prelude.{◌||◌, filter}
use Rattle.std.specs.List.{filter_map}
use Rattle.std.proofs.lemmas.Bool.{cond_both, cond-true, cases_eq, eq-eqb, ne_eqb}
use Rattle.std.proofs.lemmas.List.{get_or-set_same, get_or-set_other, length-replicate, get_or-replicate}
use Rattle.std.proofs.lemmas.List.Folds.{list_any-append}
use Rattle.std.proofs.lemmas.List.FromFn.{fill_by_all, length-map-range_with_len, get_or-map-range_with_len}
use Rattle.std.proofs.lemmas.List.Elements.{filter-append}
use Rattle.dn_bits.specs.Bits.{below}
use Rattle.dn_bits.proofs.SumLemmas.{below_more}
use Rattle.dn_told.specs.declared.told.WindowTold.{WindowTold}
use Rattle.dn_told.specs.declared.told.WindowTold.TheVariants.{Included, Late, Repeat}
use Rattle.dn_told.specs.Window.{WindowEvent, Submit, Tick, Close, told_after, is_among, is_closed, included, included_client, answers_after}
use Rattle.dn_told.proofs.WindowLemmas.{included-append}
use Rattle.dn_window.specs.Closing.{with_tick, with_close, tick_closes}
use Rattle.dn_window.specs.Window.{WindowState, IsAfter, clients_of, opened}
use Rattle.dn_script.specs.declared.plain_line.PlainLine.{PlainLine}
use Rattle.dn_cmd.specs.Window.{with_ticks, with_line, with_lines, answer_to, lines_text, is_included, IsAt, marked_by}

-- ---- ticks

with_ticks_suc : (e k : ℕ) (past : List WindowEvent) → with_ticks e (suc k) past ≡ with_tick e (with_ticks e k past)
with_ticks_suc e zero past = refl
with_ticks_suc e (suc k) past = with_ticks_suc e k (with_tick e past)

pub with_ticks_more : (e k : ℕ) (past : List WindowEvent) → with_ticks e (k + 1) past ≡ with_tick e (with_ticks e k past)
with_ticks_more e k past = rw add-one (with_ticks_suc e k past)

-- a closed window counts none
pub with_ticks_closed : (e k : ℕ) (past : List WindowEvent) → is_closed past ≡ true → with_ticks e k past ≡ past
with_ticks_closed e zero past h = refl
with_ticks_closed e (suc k) past h =
    ap (with_ticks e k) (cond-true (is_closed past) past _ h) ∙ with_ticks_closed e k past h

-- ---- who was told Included

more_included : (past more : List WindowEvent) → filter_map included_client (answers_after [] past more) ≡ []
    → included [] (past ++ more) ≡ included [] past
more_included past more h =
    included-append [] past more ∙ ap (λ l. included [] past ++ l) h ∙ append-nil (included [] past)

included-with_tick : (e : ℕ) (past : List WindowEvent) → included [] (with_tick e past) ≡ included [] past
included-with_tick e past =
    cond_both (is_closed past) past _ (λ events. included [] events ≡ included [] past) (λ h. refl)
    (λ h. cond_both (tick_closes e past) _ _ (λ events. included [] events ≡ included [] past)
    (λ g. more_included past (Tick ∷ Close ∷ []) refl) (λ g. more_included past (Tick ∷ []) refl))

included-with_ticks : (e k : ℕ) (past : List WindowEvent) → included [] (with_ticks e k past) ≡ included [] past
included-with_ticks e zero past = refl
included-with_ticks e (suc k) past = included-with_ticks e k (with_tick e past) ∙ included-with_tick e past

included-with_close : (past : List WindowEvent) → included [] (with_close past) ≡ included [] past
included-with_close past =
    cond_both (is_closed past) past _ (λ events. included [] events ≡ included [] past) (λ h. refl)
    (λ h. more_included past (Close ∷ []) refl)

marks_same : (n : ℕ) (past events : List WindowEvent) → included [] events ≡ included [] past
    → map (is_included past) (below n) ≡ map (is_included events) (below n)
marks_same n past events h = ap (λ (l : List ℕ). map (λ i. is_among l i) (below n)) (sym h)

included-submit : (past : List WindowEvent) (i : ℕ) (told : WindowTold) → told_after [] past i ≡ told
    → included [] (past ++ Submit i ∷ []) ≡ included [] past ++ filter_map included_client ((i, told) ∷ [])
included-submit past i told h =
    included-append [] past (Submit i ∷ [])
    ∙ ap (λ (t : WindowTold). included [] past ++ filter_map included_client ((i, t) ∷ [])) h

or_true : (b c : Bool) → c ≡ true → (b || c) ≡ true
or_true true c h = refl
or_true false c h = h

or_false : (b c : Bool) → c ≡ false → (b || c) ≡ b
or_false true c h = refl
or_false false c h = h

-- whether j is told Included, where i is told so next
is_included_next : (past : List WindowEvent) (i j : ℕ) → told_after [] past i ≡ Included
    → is_included (past ++ Submit i ∷ []) j ≡ (is_included past j || (eqb i j || false))
is_included_next past i j h =
    ap (λ (l : List ℕ). is_among l j) (included-submit past i Included h)
    ∙ list_any-append (λ k. eqb k j) (included [] past) (i ∷ [])

marks_set : (n i : ℕ) (past : List WindowEvent) → i < n → told_after [] past i ≡ Included
    → set (map (is_included past) (below n)) i true ≡ map (is_included (past ++ Submit i ∷ [])) (below n)
marks_set n i past lt h =
    let marks = map (is_included past) (below n) in
    let long : length marks ≡ n = length-map-range_with_len (is_included past) 0 n in
    fill_by_all (is_included (past ++ Submit i ∷ [])) (set marks i true) n false (length-set marks i true ∙ long) (λ k within.
    ⊎_elim
    (λ (e : k ≡ i).
    ap (λ m. get_or (set marks i true) m false) e ∙ get_or-set_same marks i true false (omega arith)
    ∙ sym (is_included_next past i k h ∙ or_true (is_included past k) (eqb i k || false) (ap (λ b. b || false) (eq-eqb i k (sym e)))))
    (λ (ne : k ≡ i → ⊥).
    get_or-set_other marks i k true false ne ∙ get_or-map-range_with_len (is_included past) 0 n k k false within (omega arith)
    ∙ sym (is_included_next past i k h ∙ or_false (is_included past k) (eqb i k || false) (ap (λ b. b || false) (ne_eqb i k (λ e. ne (sym e))))))
    (cases_eq k i))

marks_told : (n i : ℕ) (past : List WindowEvent) (told : WindowTold) → i < n → told_after [] past i ≡ told
    → marked_by told i (map (is_included past) (below n)) ≡ map (is_included (past ++ Submit i ∷ [])) (below n)
marks_told n i past Included lt h = marks_set n i past lt h
marks_told n i past Late lt h =
    marks_same n past (past ++ Submit i ∷ []) (included-submit past i Late h ∙ append-nil (included [] past))
marks_told n i past Repeat lt h =
    marks_same n past (past ++ Submit i ∷ []) (included-submit past i Repeat h ∙ append-nil (included [] past))

-- ---- the window and its marks

module _ (n : ℕ) (w next : WindowState) (marks : List Bool) (past : List WindowEvent) (at : IsAt n w marks past)
    (size : clients_of next ≡ clients_of w) (expects : next.expected ≡ w.expected) where
  pub at_submit : (i : ℕ) (told : WindowTold) (marks' : List Bool) → i < clients_of w → told_after [] past i ≡ told
      → marks' ≡ marked_by told i marks → IsAfter next (past ++ Submit i ∷ []) → IsAt n next marks' (past ++ Submit i ∷ [])
  at_submit i told marks' within answer marked after = record {
    after = after;
    size = size ∙ at.size;
    expects = expects ∙ at.expects;
    marked = marked ∙ ap (marked_by told i) at.marked ∙ marks_told n i past told (omega (arith, at.size)) answer;
  }

  pub at_same : (events : List WindowEvent) → included [] events ≡ included [] past → IsAfter next events → IsAt n next marks events
  at_same events same after = record {
    after = after;
    size = size ∙ at.size;
    expects = expects ∙ at.expects;
    marked = at.marked ∙ marks_same n past events same;
  }

  pub at_ticks : (k : ℕ) → IsAfter next (with_ticks w.expected k past) → IsAt n next marks (with_ticks n k past)
  at_ticks k after =
      at_same (with_ticks n k past) (included-with_ticks n k past) (subst (λ e. IsAfter next (with_ticks e k past)) at.expects after)

  pub at_close : IsAfter next (with_close past) → IsAt n next marks (with_close past)
  at_close after = at_same (with_close past) (included-with_close past) after

pub at_start : (n : ℕ) (w : WindowState) (marks : List Bool) → w ≡ opened n n → IsAfter w [] → marks ≡ replicate n false → IsAt n w marks []
at_start n w marks same after marked = record {
  after = after;
  size = ap clients_of same ∙ length-replicate n false;
  expects = ap (λ (v : WindowState). v.expected) same;
  marked = fill_by_all (is_included []) marks n false (ap length marked ∙ length-replicate n false)
      (λ k within. ap (λ l. get_or l k false) marked ∙ get_or-replicate n k false false within);
}

-- ---- all lines

-- what is written so far and what the lines from here on write are what all lines write
pub record HasMet (n : ℕ) (all left : List PlainLine) (w : WindowState) (marks : List Bool) (start text : List ℕ) : Type 0 where
  pub past : List WindowEvent
  pub at : IsAt n w marks past
  pub written : text ++ lines_text n left past ≡ start ++ lines_text n all []
  pub events : with_lines n left past ≡ with_lines n all []

pub met_none : (n : ℕ) (all : List PlainLine) (w : WindowState) (marks : List Bool) (start : List ℕ) → IsAt n w marks []
    → HasMet n all all w marks start start
met_none n all w marks start at = record { past = []; at = at; written = refl; events = refl }

pub met_more : (n : ℕ) (all : List PlainLine) (k : ℕ) (line : PlainLine) (w next : WindowState) (marks marks' : List Bool) (start text text' : List ℕ)
    → k < length all → line ≡ get_or all k line → (met : HasMet n all (drop k all) w marks start text)
    → IsAt n next marks' (with_line n line met.past) → text' ≡ text ++ answer_to n line met.past
    → HasMet n all (drop (k + 1) all) next marks' start text'
met_more n all k line w next marks marks' start text text' within is met at wrote =
    let left : drop k all ≡ line ∷ drop (k + 1) all =
    drop-cons all k line within ∙ ap (λ l. l ∷ drop (suc k) all) (sym is) ∙ (let e : suc k ≡ k + 1 = omega arith in ap (λ (m : ℕ). line ∷ drop m all) e) in
    record {
      past = with_line n line met.past;
      at = at;
      written = ap (λ t. t ++ lines_text n (drop (k + 1) all) (with_line n line met.past)) wrote
          ∙ append_assoc text (answer_to n line met.past) (lines_text n (drop (k + 1) all) (with_line n line met.past))
          ∙ ap (λ l. text ++ lines_text n l met.past) (sym left)
          ∙ met.written;
      events = ap (λ l. with_lines n l met.past) (sym left) ∙ met.events;
    }

-- ---- the marks that are set

pub filter_next_yes : (f : ℕ → Bool) (i : ℕ) → f i ≡ true → filter f (below (i + 1)) ≡ filter f (below i) ++ i ∷ []
filter_next_yes f i holds =
    ap (filter f) (below_more i) ∙ filter-append f (below i) (i ∷ []) ∙ ap (λ l. filter f (below i) ++ l) (rw holds refl)

pub filter_next_no : (f : ℕ → Bool) (i : ℕ) → f i ≡ false → filter f (below (i + 1)) ≡ filter f (below i)
filter_next_no f i other =
    ap (filter f) (below_more i) ∙ filter-append f (below i) (i ∷ []) ∙ ap (λ l. filter f (below i) ++ l) (rw other refl)
    ∙ append-nil (filter f (below i))

pub mark_at : (f : ℕ → Bool) (n i : ℕ) (marks : List Bool) → marks ≡ map f (below n) → i < n → get_or marks i false ≡ f i
mark_at f n i marks e within = ap (λ l. get_or l i false) e ∙ get_or-map-range_with_len f 0 n i i false within (omega arith)
