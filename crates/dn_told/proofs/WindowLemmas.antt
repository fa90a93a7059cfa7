-- The answers over a list of events that is joined of two.
use Rattle.std.proofs.Common.{◌≡◌, ℕ, List, [], ◌∷◌, ◌++◌, ap, sym, ◌∙◌, append_assoc}
use Rattle.std.specs.Prelude.{◌||◌}
use Rattle.std.specs.List.{filter_map}
use Rattle.std.proofs.lemmas.List.{append-nil}
use Rattle.std.proofs.lemmas.List.Folds.{list_any-append}
use Rattle.std.proofs.lemmas.List.Elements.{filter_map-append}
use Rattle.dn_told.specs.Window.{WindowEvent, Submit, Tick, Close, is_submit_of, is_close, has_submitted, is_closed, told_after, answers_after, answers, included_client, included}

pub has_submitted-append : (xs ys : List WindowEvent) (i : ℕ) → has_submitted (xs ++ ys) i ≡ (has_submitted xs i || has_submitted ys i)
has_submitted-append xs ys i = list_any-append (is_submit_of i) xs ys

pub is_closed-append : (xs ys : List WindowEvent) → is_closed (xs ++ ys) ≡ (is_closed xs || is_closed ys)
is_closed-append xs ys = list_any-append is_close xs ys

-- what came before, with one event more, and then the others
answers_past : (before : List ℕ) (past : List WindowEvent) (e : WindowEvent) (xs ys : List WindowEvent)
    → answers_after before (past ++ e ∷ [] ++ xs) ys ≡ answers_after before (past ++ (e ∷ xs)) ys
answers_past before past e xs ys = ap (λ p. answers_after before p ys) (append_assoc past (e ∷ []) xs)

-- the answers to the events of the first list, and then to those of the second
pub answers_after-append : (before : List ℕ) (past xs ys : List WindowEvent)
    → answers_after before past (xs ++ ys) ≡ answers_after before past xs ++ answers_after before (past ++ xs) ys
answers_after-append before past [] ys = ap (λ p. answers_after before p ys) (sym (append-nil past))
answers_after-append before past (Submit i ∷ xs) ys =
    ap (λ r. (i, told_after before past i) ∷ r)
    (answers_after-append before (past ++ Submit i ∷ []) xs ys
    ∙ ap (λ r. answers_after before (past ++ Submit i ∷ []) xs ++ r) (answers_past before past (Submit i) xs ys))
answers_after-append before past (Tick ∷ xs) ys =
    answers_after-append before (past ++ Tick ∷ []) xs ys
    ∙ ap (λ r. answers_after before (past ++ Tick ∷ []) xs ++ r) (answers_past before past Tick xs ys)
answers_after-append before past (Close ∷ xs) ys =
    answers_after-append before (past ++ Close ∷ []) xs ys
    ∙ ap (λ r. answers_after before (past ++ Close ∷ []) xs ++ r) (answers_past before past Close xs ys)

-- one Submit more has one answer more
pub answers-submit : (before : List ℕ) (events : List WindowEvent) (i : ℕ)
    → answers before (events ++ Submit i ∷ []) ≡ answers before events ++ (i, told_after before events i) ∷ []
answers-submit before events i = answers_after-append before [] events (Submit i ∷ [])

-- the clients told Included at the first events, and then at the others
pub included-append : (before : List ℕ) (xs ys : List WindowEvent)
    → included before (xs ++ ys) ≡ included before xs ++ filter_map included_client (answers_after before xs ys)
included-append before xs ys =
    ap (filter_map included_client) (answers_after-append before [] xs ys)
    ∙ filter_map-append included_client (answers before xs) (answers_after before xs ys)
