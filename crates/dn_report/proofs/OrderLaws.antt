-- The order of corrupt members, as a loop tests it.
use Rattle.std.proofs.Common.{◌≡◌, ℕ, ◌+◌, ◌<◌, ◌≤◌, Bool, true, false, List, [], length, get_or, drop, refl, sym, ◌∙◌, add-one, drop-cons}
use Rattle.std.specs.Prelude.{◌&&◌}
use Rattle.std.proofs.Math.ListN.{drop_of_length-le}
use Rattle.dn_wire.specs.declared.ids.Member.{Member}
use Rattle.dn_report.specs.Forms.{comes_before, follows}

step : (m d : Member) (rest : List Member) (i : ℕ) → i < length rest → follows m (drop i rest) ≡ (comes_before m (get_or rest i d) && follows (get_or rest i d) (drop (i + 1) rest))
unfolding follows
step m d rest i lt = rw (drop-cons rest i d lt, add-one) refl

pub passed : (m d : Member) (rest : List Member) (i : ℕ) (whole : Bool) → i < length rest → comes_before m (get_or rest i d) ≡ true → follows m (drop i rest) ≡ whole → follows (get_or rest i d) (drop (i + 1) rest) ≡ whole
passed m d rest i whole lt before so_far = sym (step m d rest i lt ∙ rw before refl) ∙ so_far

pub failed : (m d : Member) (rest : List Member) (i : ℕ) (whole : Bool) → i < length rest → comes_before m (get_or rest i d) ≡ false → follows m (drop i rest) ≡ whole → false ≡ whole
failed m d rest i whole lt before so_far = sym (step m d rest i lt ∙ rw before refl) ∙ so_far

pub ended : (m : Member) (rest : List Member) (i : ℕ) (whole : Bool) → length rest ≤ i → follows m (drop i rest) ≡ whole → true ≡ whole
unfolding follows
ended m rest i whole le so_far = let done : drop i rest ≡ [] = drop_of_length-le rest le in rw done at so_far
