-- The kinds of lines of group scripts, in two parts: each is read by a function of its own.
use Rattle.std.specs.Prelude.{List, drop}
use Rattle.dn_script.specs.Judged.{Group}
use Rattle.dn_script.specs.Script.{Kind, group_kinds}

-- those from `accuse` on, which stand behind twelve others
abbrev pub late_kinds : Group → List Kind
late_kinds g = drop 12 (group_kinds g)
