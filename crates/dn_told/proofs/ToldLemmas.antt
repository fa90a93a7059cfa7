-- Who is told what, and how often.
use Rattle.std.proofs.Common.{zero, suc, ◌≡◌, ℕ, ◌<◌, ◌⊎◌, inl, inr, Bool, true, false, List, [], ◌∷◌, ◌++◌, length, get_or, refl, sym, ap, ◌∙◌, arith, append_assoc}
use Rattle.std.specs.Prelude.{◌||◌, ◌==◌, Contains}
use Rattle.std.specs.List.{IsDistinct, AllByRecursion, filter_map}
use Rattle.std.proofs.lemmas.Bool.{eq-eqb, ne_eqb}
use Rattle.dn_told.specs.Window.{WindowEvent, Submit, Tick, Close, is_among, has_submitted, is_closed, told_after, answers_after, included_client}
use Rattle.dn_told.specs.declared.told.WindowTold.{WindowTold}
use Rattle.dn_told.specs.declared.told.WindowTold.TheVariants.{Included, Late, Repeat}
use Rattle.dn_told.proofs.WindowLemmas.{has_submitted-append, is_closed-append}

-- the client submitted, or counts as there before
abbrev is_there : List ℕ → List WindowEvent → ℕ → Bool
is_there before past i = is_among before i || has_submitted past i

repeat_there : (before : List ℕ) (past : List WindowEvent) (i : ℕ) → is_there before past i ≡ true → told_after before past i ≡ Repeat
unfolding told_after
repeat_there before past i h = rw h refl

or_more : (a b c : Bool) → (a || b) ≡ true → (a || (b || c)) ≡ true
or_more true b c h = refl
or_more false true c h = refl
or_more false false c h = absurd cc

or_last : (a b : Bool) → (a || (b || true)) ≡ true
or_last true b = refl
or_last false true = refl
or_last false false = refl

-- who is there stays there
stays : (before : List ℕ) (past more : List WindowEvent) (i : ℕ) → is_there before past i ≡ true → is_there before (past ++ more) i ≡ true
stays before past more i h =
    rw (has_submitted-append past more i) (or_more (is_among before i) (has_submitted past i) (has_submitted more i) h)

-- who submits is there from then on
comes : (before : List ℕ) (past : List WindowEvent) (i : ℕ) → is_there before (past ++ Submit i ∷ []) i ≡ true
comes before past i =
    rw (has_submitted-append past (Submit i ∷ []) i, eq-eqb i i refl) (or_last (is_among before i) (has_submitted past i))

at_place : {A : Type 0} (y : A) (xs : List A) (x : A) (k : ℕ) → k < length (y ∷ xs) → get_or (y ∷ xs) k x ≡ x → (y ≡ x) ⊎ Contains xs x
at_place y xs x zero lt h = inl h
at_place y xs x (suc k) lt h = inr (k, omega arith, h)

first_or_later : {A : Type 0} (y : A) (xs : List A) (x : A) → Contains (y ∷ xs) x → (y ≡ x) ⊎ Contains xs x
first_or_later y xs x h = at_place y xs x h.0 h.1 h.2

-- who is there is told Repeat from then on
pub later_repeat : (before : List ℕ) (past events : List WindowEvent) (i : ℕ) (told : WindowTold) → is_there before past i ≡ true
    → Contains (answers_after before past events) (i, told) → told ≡ Repeat
later_repeat before past [] i told there h = absurd (omega (arith, h.1))
later_repeat before past (Submit j ∷ events) i told there h =
    elim (first_or_later (j, told_after before past j) (answers_after before (past ++ Submit j ∷ []) events) (i, told) h) [
      | inl e ↦ sym (ap (λ (x : ℕ × WindowTold). x.1) e) ∙ ap (told_after before past) (ap (λ (x : ℕ × WindowTold). x.0) e) ∙ repeat_there before past i there
      | inr k ↦ later_repeat before (past ++ Submit j ∷ []) events i told (stays before past (Submit j ∷ []) i there) k
    ]
later_repeat before past (Tick ∷ events) i told there h = later_repeat before (past ++ Tick ∷ []) events i told (stays before past (Tick ∷ []) i there) h
later_repeat before past (Close ∷ events) i told there h = later_repeat before (past ++ Close ∷ []) events i told (stays before past (Close ∷ []) i there) h

module _ (i : ℕ) (first next : WindowTold) where
  behind_front : (before : List ℕ) (past events : List WindowEvent) (j : ℕ) (xs ys : List (ℕ × WindowTold))
      → ((zs : List (ℕ × WindowTold)) → answers_after before (past ++ Submit j ∷ []) events ≡ zs ++ (i, first) ∷ ys → next ≡ Repeat)
      → (j, told_after before past j) ∷ answers_after before (past ++ Submit j ∷ []) events ≡ xs ++ (i, first) ∷ ys → Contains ys (i, next) → next ≡ Repeat
  behind_front before past events j [] ys more e h =
      let pair : (j, told_after before past j) ≡ (i, first) = cc in
      let same : j ≡ i = ap (λ (x : ℕ × WindowTold). x.0) pair in
      let others : answers_after before (past ++ Submit j ∷ []) events ≡ ys = cc in
      later_repeat before (past ++ Submit j ∷ []) events i next (ap (is_there before (past ++ Submit j ∷ [])) (sym same) ∙ comes before past j) (rw others h)
  behind_front before past events j (x ∷ xs) ys more e h =
      let others : answers_after before (past ++ Submit j ∷ []) events ≡ xs ++ (i, first) ∷ ys = cc in
      more xs others

  -- behind its first answer a client is told Repeat
  pub repeat_behind : (before : List ℕ) (past events : List WindowEvent) (xs ys : List (ℕ × WindowTold))
      → answers_after before past events ≡ xs ++ (i, first) ∷ ys → Contains ys (i, next) → next ≡ Repeat
  repeat_behind before past [] [] ys e h = absurd cc
  repeat_behind before past [] (x ∷ xs) ys e h = absurd cc
  repeat_behind before past (Submit j ∷ events) xs ys e h =
      behind_front before past events j xs ys (λ zs k. repeat_behind before (past ++ Submit j ∷ []) events zs ys k h) e h
  repeat_behind before past (Tick ∷ events) xs ys e h = repeat_behind before (past ++ Tick ∷ []) events xs ys e h
  repeat_behind before past (Close ∷ events) xs ys e h = repeat_behind before (past ++ Close ∷ []) events xs ys e h

-- ---- the clients told Included

abbrev included_in : List (ℕ × WindowTold) → List ℕ
included_in told = filter_map included_client told

abbrev Others : ℕ → List ℕ → Type 0
Others i is = AllByRecursion (λ j. (i == j) ≡ false) is

others_front : (told : WindowTold) (i j : ℕ) (rest : List (ℕ × WindowTold)) → (i ≡ j → told ≡ Repeat) → Others i (included_in rest)
    → Others i (included_in ((j, told) ∷ rest))
others_front Included i j rest h all = (ne_eqb i j (λ e. let k : Included ≡ Repeat = h e in absurd cc), all)
others_front Late i j rest h all = all
others_front Repeat i j rest h all = all

-- who is there isn't among those told Included from then on
others_later : (before : List ℕ) (past events : List WindowEvent) (i : ℕ) → is_there before past i ≡ true → Others i (included_in (answers_after before past events))
others_later before past [] i there = tt
others_later before past (Submit j ∷ events) i there =
    others_front (told_after before past j) i j (answers_after before (past ++ Submit j ∷ []) events)
    (λ e. ap (told_after before past) (sym e) ∙ repeat_there before past i there)
    (others_later before (past ++ Submit j ∷ []) events i (stays before past (Submit j ∷ []) i there))
others_later before past (Tick ∷ events) i there = others_later before (past ++ Tick ∷ []) events i (stays before past (Tick ∷ []) i there)
others_later before past (Close ∷ events) i there = others_later before (past ++ Close ∷ []) events i (stays before past (Close ∷ []) i there)

distinct_front : (told : WindowTold) (j : ℕ) (rest : List (ℕ × WindowTold)) → Others j (included_in rest) → IsDistinct ◌==◌ (included_in rest)
    → IsDistinct ◌==◌ (included_in ((j, told) ∷ rest))
unfolding IsDistinct
distinct_front Included j rest others all = (others, all)
distinct_front Late j rest others all = all
distinct_front Repeat j rest others all = all

pub distinct_after : (before : List ℕ) (past events : List WindowEvent) → IsDistinct ◌==◌ (included_in (answers_after before past events))
unfolding IsDistinct
distinct_after before past [] = tt
distinct_after before past (Submit j ∷ events) =
    distinct_front (told_after before past j) j (answers_after before (past ++ Submit j ∷ []) events)
    (others_later before (past ++ Submit j ∷ []) events j (comes before past j)) (distinct_after before (past ++ Submit j ∷ []) events)
distinct_after before past (Tick ∷ events) = distinct_after before (past ++ Tick ∷ []) events
distinct_after before past (Close ∷ events) = distinct_after before (past ++ Close ∷ []) events

-- ---- clients that count as there before, and events that were before

module _ (before : List ℕ) (past : List WindowEvent) (there : (i : ℕ) → has_submitted past i ≡ is_among before i) (none : is_closed past ≡ false) where
  told_same : (more : List WindowEvent) (i : ℕ) → told_after before more i ≡ told_after [] (past ++ more) i
  unfolding told_after
  told_same more i = rw (has_submitted-append past more i, is_closed-append past more, there i, none) refl

  one_more : (more events : List WindowEvent) (e : WindowEvent)
      → answers_after before (more ++ e ∷ []) events ≡ answers_after [] (past ++ (more ++ e ∷ [])) events
      → answers_after before (more ++ e ∷ []) events ≡ answers_after [] ((past ++ more) ++ e ∷ []) events
  one_more more events e h = h ∙ ap (λ p. answers_after [] p events) (sym (append_assoc past more (e ∷ [])))

  pub answers_same : (more events : List WindowEvent) → answers_after before more events ≡ answers_after [] (past ++ more) events
  answers_same more [] = refl
  answers_same more (Submit i ∷ events) =
      λ k. (i, told_same more i k) ∷ one_more more events (Submit i) (answers_same (more ++ Submit i ∷ []) events) k
  answers_same more (Tick ∷ events) = one_more more events Tick (answers_same (more ++ Tick ∷ []) events)
  answers_same more (Close ∷ events) = one_more more events Close (answers_same (more ++ Close ∷ []) events)
