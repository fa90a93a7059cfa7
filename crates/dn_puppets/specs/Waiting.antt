-- The twists that wait, in order.
use Rattle.std.specs.Prelude.{◌≡◌, ℕ, ◌<◌, Bool, true, false, List, length, remove, Option, Some, None, slice_get}
use Rattle.dn_script.specs.declared.script_line.Twist.{Twist}
use Rattle.dn_script.specs.declared.script_line.Twist.TheVariants as twists
use Rattle.dn_puppets.specs.declared.waiting.TwistKind.{TwistKind}
use Rattle.dn_puppets.specs.declared.waiting.TwistKind.TheVariants as kinds

-- whether a twist changes posts of this kind
abbrev pub is_of : TwistKind → Twist → Bool
is_of kinds.Cipher (twists.Flip k) = true
is_of kinds.Cipher (twists.Jam client) = true
is_of kinds.Reveal (twists.Reveal k) = true
is_of kinds.PadBits (twists.Frame client) = true
is_of kinds.Mute twists.Mute = true
is_of _ _ = false

-- the twist at a place is of the kind
abbrev pub IsAt : TwistKind → List Twist → ℕ → Twist → Type 0
IsAt kind waiting i twist = (slice_get waiting i ≡ Some twist) × (is_of kind twist ≡ true)

-- none before a place is
abbrev pub NoneBefore : TwistKind → List Twist → ℕ → Type 0
NoneBefore kind waiting i = (k : ℕ) (twist : Twist) → k < i → slice_get waiting k ≡ Some twist → is_of kind twist ≡ false

-- the first of a kind, where there is one
abbrev pub IsFirst : TwistKind → List Twist → Option Twist → Type 0
IsFirst kind waiting (Some twist) = (i : ℕ) × IsAt kind waiting i twist × NoneBefore kind waiting i
IsFirst kind waiting None = NoneBefore kind waiting (length waiting)

-- the first of a kind is taken out, where there is one
abbrev pub Spends : TwistKind → List Twist → Option Twist → List Twist → Type 0
Spends kind old (Some twist) new = (i : ℕ) × IsAt kind old i twist × NoneBefore kind old i × (new ≡ remove old i)
Spends kind old None new = NoneBefore kind old (length old) × (new ≡ old)
