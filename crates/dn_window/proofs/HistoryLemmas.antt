-- What each call does to the events that led to a window.
use Rattle.std.proofs.Common.{◌≡◌, ◌≢◌, ℕ, ◌+◌, ◌<◌, Bool, true, false, List, [], ◌∷◌, ◌++◌, length, get_or, set, replicate, refl, ap, sym, ◌∙◌, append_assoc, arith, zero-add, nat_le, subst, get_or-set_other, get_or-set_same}
use Rattle.std.specs.Prelude.{◌==◌, if◌then◌else◌, count_by, ◌||◌, cond}
use Rattle.std.specs.List.{filter_map}
use Rattle.std.proofs.lemmas.List.{length-set}
use Rattle.std.proofs.lemmas.List.Sums.{sum_by-set, count_by-le-length, sum_by-append}
use Rattle.std.proofs.lemmas.Bool.Decides.{nat_tests}
use Rattle.std.proofs.lemmas.Grind.{common_steps}
use Rattle.dn_told.specs.Window.{WindowEvent, Submit, Tick, Close, is_submit_of, is_close, is_closed, has_submitted, told_after, included_client}
use Rattle.dn_told.specs.declared.told.WindowTold.{WindowTold}
use Rattle.dn_told.specs.declared.told.WindowTold.TheVariants.{Included, Late, Repeat}
use Rattle.dn_told.proofs.WindowLemmas.{has_submitted-append, is_closed-append}
use Rattle.dn_window.specs.Closing.{is_tick, ticks_of, count_of, enough, closing_after, closing_tick_of, with_tick, with_close}
use Rattle.dn_window.specs.Window.{WindowState, IsAfter, clients_of, has_of, opened, told_by, with_included, with_submission, ticked}
use Rattle.dn_window.proofs.ClosingLemmas.{count_of-append, count_of-tick, count_of-close, closing_tick_of-same, closing_tick_of-included}

-- a client that didn't submit leaves a place in the list
pub count_by-below : (xs : List Bool) (i : ℕ) → i < length xs → get_or xs i false ≡ false → count_by (λ b. b) xs < length xs
count_by-below xs i lt h =
    let none : ◌≡◌ {A = ℕ} (cond (get_or xs i false) 1 0) 0 = rw h refl in
    omega (arith, sum_by-set (λ b. cond b 1 0) xs i true false lt, count_by-le-length (λ b. b) (set xs i true), length-set xs i true)

or-false : (b : Bool) → (b || false) ≡ b
or-false b = elim b as (λ v. (v || false) ≡ v) [ true ↦ refl | false ↦ refl ]

or-true : (b : Bool) → (b || true) ≡ true
or-true b = elim b as (λ v. (v || true) ≡ true) [ true ↦ refl | false ↦ refl ]

-- one event more
has_submitted-one : (events : List WindowEvent) (y : WindowEvent) (i : ℕ) → has_submitted (events ++ y ∷ []) i ≡ (has_submitted events i || is_submit_of i y)
has_submitted-one events y i = has_submitted-append events (y ∷ []) i ∙ ap (λ b. has_submitted events i || b) (or-false (is_submit_of i y))

is_closed-one : (events : List WindowEvent) (y : WindowEvent) → is_closed (events ++ y ∷ []) ≡ (is_closed events || is_close y)
is_closed-one events y = is_closed-append events (y ∷ []) ∙ ap (λ b. is_closed events || b) (or-false (is_close y))

ticks_of-one : (events : List WindowEvent) (y : WindowEvent) → ticks_of (events ++ y ∷ []) ≡ ticks_of events + cond (is_tick y) 1 0
ticks_of-one events y =
    sum_by-append (λ e. cond (is_tick e) 1 0) events (y ∷ []) ∙ ap (λ k. ticks_of events + k) (zero-add (cond (is_tick y) 1 0))

pub opened-IsAfter : (n expected : ℕ) → IsAfter (opened n expected) []
unfolding closing_tick_of
opened-IsAfter n expected = record {
  submitted = λ i h. grind (arith, common_steps);
  count = refl;
  ticks = refl;
  closing_tick = grind (arith, nat_tests);
  closed = refl;
}

-- the fields of a window before any event
pub started-IsAfter : (n expected : ℕ) (marks : List Bool) (closing : ℕ) → marks ≡ replicate n false
    → closing ≡ (if enough expected == 0 then closing_after 0 else 100)
    → IsAfter (record { expected = expected; submitted = marks; count = 0; ticks = 0; closing_tick = closing; closed = false }) []
started-IsAfter n expected marks closing all closes = rw (all, closes) (opened-IsAfter n expected)

pub told-IsAfter : (w : WindowState) (events : List WindowEvent) (i : ℕ) → i < clients_of w → IsAfter w events
    → told_by w i ≡ told_after [] events i
unfolding told_after
told-IsAfter w events i lt h = rw (h.submitted i lt, h.closed) refl

-- a Close more
add_close : (w : WindowState) (events : List WindowEvent) → IsAfter w events → IsAfter (record w { closed = true }) (events ++ Close ∷ [])
add_close w events h = record {
  submitted = λ i lt. h.submitted i lt ∙ sym (has_submitted-one events Close i ∙ or-false (has_submitted events i));
  count = h.count ∙ sym (count_of-close events);
  ticks = omega (arith, h.ticks, ticks_of-one events Close);
  closing_tick = h.closing_tick ∙ sym (closing_tick_of-same w.expected events Close (count_of-close events));
  closed = sym (is_closed-one events Close ∙ or-true (is_closed events));
}

-- a Tick more
add_tick : (w : WindowState) (events : List WindowEvent) → IsAfter w events → IsAfter (record w { ticks = w.ticks + 1 }) (events ++ Tick ∷ [])
add_tick w events h = record {
  submitted = λ i lt. h.submitted i lt ∙ sym (has_submitted-one events Tick i ∙ or-false (has_submitted events i));
  count = h.count ∙ sym (count_of-tick events);
  ticks = omega (arith, h.ticks, ticks_of-one events Tick);
  closing_tick = h.closing_tick ∙ sym (closing_tick_of-same w.expected events Tick (count_of-tick events));
  closed = h.closed ∙ sym (is_closed-one events Tick ∙ or-false (is_closed events));
}

-- a close
pub closed-IsAfter : (w : WindowState) (events : List WindowEvent) → IsAfter w events → IsAfter (record w { closed = true }) (with_close events)
closed-IsAfter w events h =
    elim (is_closed events) as (λ v. is_closed events ≡ v → IsAfter (record w { closed = true }) (if v then events else events ++ Close ∷ [])) [
      | true ↦ λ t. record { submitted = h.submitted; count = h.count; ticks = h.ticks; closing_tick = h.closing_tick; closed = sym t }
      | false ↦ λ f. add_close w events h
    ] refl

-- a tick
pub ticked-IsAfter : (w : WindowState) (events : List WindowEvent) → IsAfter w events → IsAfter (ticked w) (with_tick w.expected events)
ticked-IsAfter w events h = by_closed w.closed refl (sym h.closed)
  where
    due : w.closed ≡ false → (b : Bool) → IsAfter (record w { ticks = w.ticks + 1; closed = b }) (if b then events ++ Tick ∷ Close ∷ [] else events ++ Tick ∷ [])
    due p true = subst (λ e. IsAfter (record w { ticks = w.ticks + 1; closed = true }) e) (append_assoc events (Tick ∷ []) (Close ∷ []))
        (add_close (record w { ticks = w.ticks + 1 }) (events ++ Tick ∷ []) (add_tick w events h))
    due p false = subst (λ b. IsAfter (record w { ticks = w.ticks + 1; closed = b }) (events ++ Tick ∷ [])) p (add_tick w events h)

    by_closed : (b : Bool) → w.closed ≡ b → is_closed events ≡ b → IsAfter (ticked w) (with_tick w.expected events)
    by_closed true p q = rw (p, q) (subst (λ b. IsAfter (record w { closed = b }) events) p h)
    by_closed false p q = rw (p, q, ← h.closing_tick, ← h.ticks) (due p (nat_le w.closing_tick (w.ticks + 1)))

-- a tick that an open window counts
pub counted-IsAfter : (w : WindowState) (events : List WindowEvent) → w.closed ≡ false → IsAfter w events
    → IsAfter (record w { ticks = w.ticks + 1; closed = nat_le w.closing_tick (w.ticks + 1) }) (with_tick w.expected events)
counted-IsAfter w events f h = subst (λ v. IsAfter v (with_tick w.expected events)) (rw f refl) (ticked-IsAfter w events h)

-- a Submit more, where the marks, the count and the closing tick are as they should be
add_submit : (w : WindowState) (events : List WindowEvent) (i : ℕ) (marks : List Bool) (count closing : ℕ) → IsAfter w events
    → length marks ≡ clients_of w → ((j : ℕ) → j < clients_of w → get_or marks j false ≡ (has_submitted events j || i == j))
    → count_of (events ++ Submit i ∷ []) ≡ count → closing_tick_of w.expected (events ++ Submit i ∷ []) ≡ closing
    → IsAfter (record w { submitted = marks; count = count; closing_tick = closing }) (events ++ Submit i ∷ [])
add_submit w events i marks count closing h same marked counted closes = record {
  submitted = λ j lt. marked j (omega (arith, lt, same)) ∙ sym (has_submitted-one events (Submit i) j);
  count = sym counted;
  ticks = omega (arith, h.ticks, ticks_of-one events (Submit i));
  closing_tick = sym closes;
  closed = h.closed ∙ sym (is_closed-one events (Submit i) ∙ or-false (is_closed events));
}

-- what a Submit adds to the count
one_if_included : WindowTold → ℕ
one_if_included Included = 1
one_if_included Late = 0
one_if_included Repeat = 0

count_of-submit : (events : List WindowEvent) (i : ℕ) (t : WindowTold) → told_after [] events i ≡ t
    → count_of (events ++ Submit i ∷ []) ≡ count_of events + length (filter_map included_client ((i, t) ∷ []))
count_of-submit events i t h = rw (← h) (count_of-append events (Submit i ∷ []))

eq_same : (i j : ℕ) → (i == j) ≡ true → i ≡ j
eq_same i j h = grind (arith, nat_tests)

eq_other : (i j : ℕ) → (i == j) ≡ false → j ≢ i
eq_other i j h = grind (arith, nat_tests)

-- the marks with one set
marked_one : (marks : List Bool) (events : List WindowEvent) (i : ℕ) → i < length marks
    → ((j : ℕ) → j < length marks → get_or marks j false ≡ has_submitted events j)
    → (j : ℕ) → j < length marks → get_or (set marks i true) j false ≡ (has_submitted events j || i == j)
marked_one marks events i lt h j low =
    elim (i == j) as (λ v. (i == j) ≡ v → get_or (set marks i true) j false ≡ (has_submitted events j || v)) [
      | true ↦ λ t. subst (λ k. get_or (set marks i true) k false ≡ true) (eq_same i j t) (get_or-set_same marks i true false lt) ∙ sym (or-true (has_submitted events j))
      | false ↦ λ f. get_or-set_other marks i j true false (eq_other i j f) ∙ h j low ∙ sym (or-false (has_submitted events j))
    ] refl

-- the marks as they were, where the client's is set
marked_again : (marks : List Bool) (events : List WindowEvent) (i : ℕ) → i < length marks → get_or marks i false ≡ true
    → ((j : ℕ) → j < length marks → get_or marks j false ≡ has_submitted events j)
    → (j : ℕ) → j < length marks → get_or marks j false ≡ (has_submitted events j || i == j)
marked_again marks events i lt is h j low =
    elim (i == j) as (λ v. (i == j) ≡ v → get_or marks j false ≡ (has_submitted events j || v)) [
      | true ↦ λ t. subst (λ k. get_or marks k false ≡ true) (eq_same i j t) is ∙ sym (or-true (has_submitted events j))
      | false ↦ λ f. h j low ∙ sym (or-false (has_submitted events j))
    ] refl

pub submission-IsAfter : (w : WindowState) (events : List WindowEvent) (i : ℕ) → i < clients_of w → IsAfter w events
    → IsAfter (with_submission w i) (events ++ Submit i ∷ [])
submission-IsAfter w events i lt h = by_mark (has_of w i) refl w.closed refl
  where
    told : (t : WindowTold) → told_by w i ≡ t → told_after [] events i ≡ t
    told t is = sym (told-IsAfter w events i lt h) ∙ is

    not_counted : (t : WindowTold) → told_after [] events i ≡ t → length (filter_map included_client ((i, t) ∷ [])) ≡ 0 → count_of (events ++ Submit i ∷ []) ≡ count_of events
    not_counted t is none = omega (arith, count_of-submit events i t is, none)

    by_mark : (b : Bool) → has_of w i ≡ b → (c : Bool) → w.closed ≡ c → IsAfter (with_submission w i) (events ++ Submit i ∷ [])
    by_mark true p c q =
        let same : count_of (events ++ Submit i ∷ []) ≡ count_of events = not_counted Repeat (told Repeat (rw p refl)) refl in
        rw p (add_submit w events i w.submitted w.count w.closing_tick h refl (marked_again w.submitted events i lt p h.submitted)
        (same ∙ sym h.count) (closing_tick_of-same w.expected events (Submit i) same ∙ sym h.closing_tick))
    by_mark false p true q =
        let same : count_of (events ++ Submit i ∷ []) ≡ count_of events = not_counted Late (told Late (rw (p, q) refl)) refl in
        rw (p, q) (subst (λ b. IsAfter (record w { submitted = set w.submitted i true; closed = b }) (events ++ Submit i ∷ [])) q
        (add_submit w events i (set w.submitted i true) w.count w.closing_tick h (length-set w.submitted i true) (marked_one w.submitted events i lt h.submitted)
        (same ∙ sym h.count) (closing_tick_of-same w.expected events (Submit i) same ∙ sym h.closing_tick)))
    by_mark false p false q =
        let more : count_of (events ++ Submit i ∷ []) ≡ count_of events + 1 = count_of-submit events i Included (told Included (rw (p, q) refl)) in
        let ticks : ticks_of (events ++ Submit i ∷ []) ≡ w.ticks = omega (arith, h.ticks, ticks_of-one events (Submit i)) in
        rw (p, q) (subst (λ b. IsAfter (record (with_included w i) { closed = b }) (events ++ Submit i ∷ [])) q
        (add_submit w events i (set w.submitted i true) (w.count + 1)
        (if w.count + 1 == enough w.expected then closing_after w.ticks else w.closing_tick) h (length-set w.submitted i true) (marked_one w.submitted events i lt h.submitted)
        (more ∙ ap (λ n. n + 1) (sym h.count))
        (closing_tick_of-included w.expected events (Submit i) more ∙ rw (ticks, ← h.count, ← h.closing_tick) refl)))
