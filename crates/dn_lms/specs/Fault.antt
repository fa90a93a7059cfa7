-- When no key is made.
use Rattle.std.specs.Prelude.{◌≡◌, ℕ}
use Rattle.dn_ots.specs.Parameters.{IsCode}
use Rattle.dn_lms.specs.Key.{IsLms}
use Rattle.dn_lms.specs.declared.pair.KeyFault.{KeyFault}
use Rattle.dn_lms.specs.declared.pair.KeyFault.TheVariants.{UnknownLms, UnknownOts, NoMemory}

-- the fault of these type codes: the first that is unknown, and want of memory where both are known
abbrev pub IsFault : ℕ → ℕ → KeyFault → Type 0
IsFault lms ots (UnknownLms code) = (code ≡ lms) × ¬ IsLms lms
IsFault lms ots (UnknownOts code) = (code ≡ ots) × IsLms lms × ¬ IsCode ots
IsFault lms ots NoMemory = IsLms lms × IsCode ots
