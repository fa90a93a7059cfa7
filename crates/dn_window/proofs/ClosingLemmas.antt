-- The closing tick over a list of events to which one is added.
use Rattle.std.proofs.Common.{◌≡◌, ℕ, ◌+◌, ◌≤◌, Bool, true, false, List, [], ◌∷◌, ◌++◌, length, refl, ap, sym, ◌∙◌, append_assoc, arith, length-append, nat_le}
use Rattle.std.specs.Prelude.{◌==◌, if◌then◌else◌}
use Rattle.std.specs.List.{filter_map}
use Rattle.std.proofs.lemmas.List.{append-nil}
use Rattle.std.proofs.lemmas.Bool.Decides.{nat_tests}
use Rattle.dn_told.specs.Window.{WindowEvent, Tick, Close, included_client, answers_after, included}
use Rattle.dn_told.proofs.WindowLemmas.{included-append}
use Rattle.dn_window.specs.Closing.{ticks_of, count_of, enough, closing_after, closing_from, closing_tick_of}

pub count_of-append : (xs ys : List WindowEvent) → count_of (xs ++ ys) ≡ count_of xs + length (filter_map included_client (answers_after [] xs ys))
count_of-append xs ys = ap length (included-append [] xs ys) ∙ length-append (included [] xs) (filter_map included_client (answers_after [] xs ys))

count_of-grows : (xs ys : List WindowEvent) → count_of xs ≤ count_of (xs ++ ys)
count_of-grows xs ys = let e = count_of-append xs ys in omega arith

pub count_of-tick : (events : List WindowEvent) → count_of (events ++ Tick ∷ []) ≡ count_of events
count_of-tick events = let e : count_of (events ++ Tick ∷ []) ≡ count_of events + 0 = count_of-append events (Tick ∷ []) in omega arith

pub count_of-close : (events : List WindowEvent) → count_of (events ++ Close ∷ []) ≡ count_of events
count_of-close events = let e : count_of (events ++ Close ∷ []) ≡ count_of events + 0 = count_of-append events (Close ∷ []) in omega arith

-- whether enough submissions are in
is_enough : ℕ → List WindowEvent → Bool
is_enough e events = nat_le (enough e) (count_of events)

-- a moment at which enough submissions are in decides for ever
settled : (e : ℕ) (past xs ys : List WindowEvent) → nat_le (enough e) (count_of (past ++ xs)) ≡ true
    → closing_from e past (xs ++ ys) ≡ closing_from e past xs
settled e past [] [] h = refl
settled e past [] (y ∷ ys) h = let now = rw append-nil at h in rw now refl
settled e past (x ∷ xs) ys h =
    ap (λ r. if nat_le (enough e) (count_of past) then closing_after (ticks_of past) else r)
    (settled e (past ++ x ∷ []) xs ys (rw append_assoc h))

not_before : (m a b : ℕ) → a ≤ b → nat_le m b ≡ false → nat_le m a ≡ false
not_before m a b le h = grind (arith, nat_tests)

-- until enough are in it is 100
unsettled : (e : ℕ) (past xs : List WindowEvent) → nat_le (enough e) (count_of (past ++ xs)) ≡ false → closing_from e past xs ≡ 100
unsettled e past [] h = let now = rw append-nil at h in rw now refl
unsettled e past (x ∷ xs) h =
    let now = not_before (enough e) (count_of past) (count_of (past ++ (x ∷ xs))) (count_of-grows past (x ∷ xs)) h in
    rw now (unsettled e (past ++ x ∷ []) xs (rw append_assoc h))

-- and the event after which enough are in sets it
settles : (e : ℕ) (past xs : List WindowEvent) (y : WindowEvent) → nat_le (enough e) (count_of (past ++ xs)) ≡ false
    → closing_from e past (xs ++ y ∷ []) ≡ closing_from e (past ++ (xs ++ y ∷ [])) []
settles e past [] y h = let now = rw append-nil at h in rw now refl
settles e past (x ∷ xs) y h =
    let now = not_before (enough e) (count_of past) (count_of (past ++ (x ∷ xs))) (count_of-grows past (x ∷ xs)) h in
    rw now (settles e (past ++ x ∷ []) xs y (rw append_assoc h) ∙ ap (λ p. closing_from e p []) (append_assoc past (x ∷ []) (xs ++ y ∷ [])))

-- an event that isn't told Included leaves the closing tick
pub closing_tick_of-same : (e : ℕ) (events : List WindowEvent) (y : WindowEvent) → count_of (events ++ y ∷ []) ≡ count_of events
    → closing_tick_of e (events ++ y ∷ []) ≡ closing_tick_of e events
unfolding closing_tick_of
closing_tick_of-same e events y h =
    elim (nat_le (enough e) (count_of events)) as (λ v. nat_le (enough e) (count_of events) ≡ v → closing_from e [] (events ++ y ∷ []) ≡ closing_from e [] events) [
      | true ↦ λ t. settled e [] events (y ∷ []) t
      | false ↦ λ f. settles e [] events y f ∙ (rw (h, f) (sym (unsettled e [] events f)))
    ] refl

-- the submission after which enough are in sets it, and each other leaves it
pub closing_tick_of-included : (e : ℕ) (events : List WindowEvent) (y : WindowEvent) → count_of (events ++ y ∷ []) ≡ count_of events + 1
    → closing_tick_of e (events ++ y ∷ [])
    ≡ (if count_of events + 1 == enough e then closing_after (ticks_of (events ++ y ∷ [])) else closing_tick_of e events)
unfolding closing_tick_of
closing_tick_of-included e events y h =
    elim (nat_le (enough e) (count_of events)) as (λ v. nat_le (enough e) (count_of events) ≡ v → closing_from e [] (events ++ y ∷ []) ≡ (if count_of events + 1 == enough e then closing_after (ticks_of (events ++ y ∷ [])) else closing_from e [] events)) [
      | true ↦ λ t. let other : (count_of events + 1 == enough e) ≡ false = grind (arith, nat_tests) in rw other (settled e [] events (y ∷ []) t)
      | false ↦ λ f. settles e [] events y f
          ∙ (rw h (choose (enough e) (count_of events) (closing_after (ticks_of (events ++ y ∷ []))) (closing_from e [] events) f (unsettled e [] events f)))
    ] refl
  where
    choose : (m n a b : ℕ) → nat_le m n ≡ false → b ≡ 100 → (if nat_le m (n + 1) then a else 100) ≡ (if n + 1 == m then a else b)
    choose m n a b f is = grind (arith, nat_tests)
