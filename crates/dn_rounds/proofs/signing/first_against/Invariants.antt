use Rattle.std.proofs.Common.{◌≡◌, ℕ, ◌<◌}
use Rattle.std.specs.Prelude.{Some}
use Rattle.dn_record_types.specs.declared.body.Body.{Body}
use Rattle.dn_record_types.specs.declared.statement.Statement.TheVariants as kinds
use Rattle.dn_server.specs.Server.{statement_of}
use Rattle.dn_rounds.proofs.signing.first_against.Given as goal

abbrev pub invariant-loop-j : goal.invariant-loop-j
invariant-loop-j l = (x : ℕ) (c : Body) → x < l.j → statement_of l.parts.run.kept 6 x ≡ Some (kinds.Sign c) → c ≡ l.body
