use Rattle.std.proofs.Common.{◌≡◌, [], length}
use Rattle.dn_script.specs.Judged.{seen_as}
use Rattle.dn_script.specs.Script.{read_once}
use Rattle.dn_script.proofs.lists.once.Given as goal

abbrev pub invariant-loop-text : goal.invariant-loop-text
invariant-loop-text l = read_once (seen_as l.group) l.n l.members.items l.words ≡ read_once (seen_as l.group) 1 [] l.initial.words

abbrev pub decreases-loop-text : goal.decreases-loop-text
decreases-loop-text l = length l.words
