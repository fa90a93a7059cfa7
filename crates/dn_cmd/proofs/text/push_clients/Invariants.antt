use Rattle.std.proofs.Common.{◌≡◌, ◌++◌, take}
use Rattle.dn_cmd.specs.Round.{client_lines}
use Rattle.dn_cmd.proofs.text.push_clients.Given as goal

abbrev pub invariant-loop-place : goal.invariant-loop-place
invariant-loop-place l = l.text.items ≡ l.initial.text.items ++ client_lines l.script (take l.place l.counted)
