-- What a server's core answers that keeps to the rules.
use Rattle.std.proofs.Common.{◌≡◌, Bool, true, false, List, [], ◌∷◌, ◌++◌, Option, Some, None, subst}
use Rattle.std.specs.Prelude.{Result, Ok, Err, IfOk, OnOk, option_map}
use Rattle.dn_wire.specs.declared.ids.ServerId.{ServerId}
use Rattle.dn_wire.specs.declared.ids.Round.{Round}
use Rattle.dn_server.specs.declared.run.Sum.{Sum}
use Rattle.dn_audit.specs.Auditor.{AuditorView, AddsStrings, hashed_sum}
use Rattle.dn_server.specs.declared.answer.Answer.{Answer}
use Rattle.dn_server.specs.Server.{ServerView}
use Rattle.dn_exchange.specs.Disciplined.{Disciplined}
use Rattle.dn_exchange.specs.Settled.{Settled}
use Rattle.dn_state.specs.Calling.{KeepsRules, AreDue, NotesSum}

-- the rules are kept, by what a call promises of them
pub rules_of : {E : Type 0} (r : Result Answer E) (before after : ServerView)
    → OnOk r (after.seat ≡ before.seat) → OnOk r (after.bent ≡ before.bent) → OnOk r (after.bent ≡ false → Disciplined after)
    → OnOk r (after.bent ≡ false → after.run.is_running ≡ true → Settled after) → OnOk r (KeepsRules before after)
rules_of (Ok a) before after seat bent disciplined settled = record { seat = seat; bent = bent; disciplined = disciplined; settled = settled }
rules_of (Err e) before after seat bent disciplined settled = tt

-- an answer, whose bodies are due
pub due_of : {E : Type 0} (r : Result Answer E) (answers : Answer → Type 0) (after : ServerView)
    → IfOk r answers → IfOk r (AreDue after) → IfOk r (λ a. answers a × AreDue after a)
due_of (Ok a) answers after is due = (is, due)
due_of (Err e) answers after is due = tt

-- the auditor is told the ciphertext of a record that has one
pub notes_some : (j : ServerId) (r q : Round) (sum : Option Sum) (s : List Bool) (old new : AuditorView) → q ≡ r → option_map (λ x. x.s) sum ≡ Some s
    → AddsStrings old new (λ x. record x { sums = x.sums ++ hashed_sum q.0 j.0 s ∷ [] }) → NotesSum j r sum old new
notes_some j r q None s old new at is adds = let none : ⊥ = cc in absurd none
notes_some j r q (Some sum) s old new at is adds =
    let same : s ≡ sum.s = cc in
    subst (λ (n : Round). AddsStrings old new (λ x. record x { sums = x.sums ++ hashed_sum n.0 j.0 sum.s ∷ [] })) at
    (subst (λ t. AddsStrings old new (λ x. record x { sums = x.sums ++ hashed_sum q.0 j.0 t ∷ [] })) same adds)
