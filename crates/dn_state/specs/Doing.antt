-- How a world goes on: what its parts become, and the lines that are told of it.
use Rattle.std.specs.Prelude.{◌≡◌, true, false, List, [], ◌∷◌, ◌++◌}
use Rattle.dn_wire.specs.declared.ids.Member.{Member}
use Rattle.dn_report.specs.declared.outcome.Outcome.{Outcome}
use Rattle.dn_state.specs.declared.putting.Sender.{Sender}
use Rattle.dn_state.specs.Parts.{PartsView}

-- the parts become these, and nothing is told
abbrev pub Becomes : PartsView → PartsView → List Outcome → Type 0
Becomes now new lines = (new ≡ now) × (lines ≡ [])

-- nothing changes, and nothing is told
abbrev pub Rests : PartsView → PartsView → List Outcome → Type 0
Rests old new lines = Becomes old new lines

-- the parts become these, and this line is told
abbrev pub Tells : Outcome → PartsView → PartsView → List Outcome → Type 0
Tells line now new lines = (new ≡ now) × (lines ≡ line ∷ [])

-- one thing and then another is done, with the lines of the one before those of the other
pub record Then (first rest : PartsView → PartsView → List Outcome → Type 0) (old new : PartsView) (lines : List Outcome) : Type 0 where
  pub between : PartsView
  pub lines_first : List Outcome
  pub lines_rest : List Outcome
  pub begins : first old between lines_first
  pub goes_on : rest between new lines_rest
  pub told : lines ≡ lines_first ++ lines_rest

-- something is done with each of a list, in its order
abbrev pub InTurn : {A : Type 0} → (A → PartsView → PartsView → List Outcome → Type 0) → List A → PartsView → PartsView → List Outcome → Type 0
InTurn does [] = Rests
InTurn does (x ∷ xs) = Then (does x) (InTurn does xs)

-- a member who puts what its own core gives
abbrev pub own : Member → Sender
own member = record { member = member; is_own = true }

-- a member who puts what is injected
abbrev pub injecting : Member → Sender
injecting member = record { member = member; is_own = false }
