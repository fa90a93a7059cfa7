-- What the twist of a ciphertext aims at.
use Rattle.std.specs.Prelude.{◌≡◌, ◌<◌, ◌≤◌, ℕ, Bool, true, false, List, Option, Some, None}
use Rattle.dn_bits.specs.Bits.{bit}
use Rattle.dn_script.specs.declared.script_line.Twist.{Twist}
use Rattle.dn_script.specs.declared.script_line.Twist.TheVariants as twists
use Rattle.dn_puppets.specs.declared.waiting.Aim.{Aim}
use Rattle.dn_puppets.specs.declared.waiting.Aim.TheVariants as aims
use Rattle.dn_puppets.specs.declared.waiting.TwistKind.TheVariants as kinds
use Rattle.dn_puppets.specs.Waiting.{IsFirst}

abbrev pub aim_in : Option Twist → Option Aim
aim_in (Some (twists.Flip k)) = Some (aims.Bit k)
aim_in (Some (twists.Jam client)) = Some (aims.SlotOf client)
aim_in _ = None

-- the aim is that of the first twist of a ciphertext that waits
abbrev pub IsAim : List Twist → Option Aim → Type 0
IsAim waiting aim = (first : Option Twist) × IsFirst kinds.Cipher waiting first × (aim ≡ aim_in first)

-- the first place from one to below another at which a string has 0
abbrev pub IsFirstZero : List Bool → ℕ → ℕ → Option ℕ → Type 0
IsFirstZero bits first past (Some k) = (first ≤ k) × (k < past) × (bit bits k ≡ false) × ((q : ℕ) → first ≤ q → q < k → bit bits q ≡ true)
IsFirstZero bits first past None = (q : ℕ) → first ≤ q → q < past → bit bits q ≡ true
