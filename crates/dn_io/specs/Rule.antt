-- The names of a report's rules.
use Rattle.std.specs.Prelude.{ℕ, List, ◌++◌, codes}
use Rattle.std.specs.Fmt.{decimal}
use Rattle.dn_io.specs.declared.rule.Rule.{Rule}
use Rattle.dn_io.specs.declared.rule.Rule.TheVariants.{V, E, N}

-- the rule as it is written: its letter and its number
unfoldable pub rule_text : Rule → List ℕ
rule_text (V number) = codes "V" ++ decimal number
rule_text (E number) = codes "E" ++ decimal number
rule_text (N number) = codes "N" ++ decimal number
