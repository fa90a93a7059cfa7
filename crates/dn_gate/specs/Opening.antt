-- The view of the gate's first pass.
use Rattle.std.specs.Prelude.{ℕ, zero, suc, ◌+◌, List, [], ◌∷◌, None}
use Rattle.dn_counts.specs.Numbers.{range}
use Rattle.dn_gate.specs.Rule.{view}
use Rattle.dn_gate.specs.declared.view.View.{View}

abbrev pub opens : {T : Type 0} → ℕ → ℕ → List ℕ → View T
opens clients passes before = view passes clients before (range 0 passes) None None [] [] [] None [] [] 0 [] 0
