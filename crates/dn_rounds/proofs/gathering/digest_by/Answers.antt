use Rattle.std.proofs.Common.{◌∙◌, ap, sym}
use Rattle.std.specs.Prelude.{option_map, Some}
use Rattle.dn_record_types.specs.declared.statement.Statement.TheVariants as kinds
use Rattle.dn_server.specs.Keeping.{round_of}
use Rattle.dn_server.proofs.KeptLemmas.{kept_kind, kept_round}
use Rattle.dn_server.proofs.Shapes.{round_is, commit_shape}
use Rattle.dn_rounds.proofs.gathering.digest_by.Goals as goal

pub unreachable-requires-in_default-statement : goal.unreachable-requires-in_default-statement
unreachable-requires-in_default-statement c =
    let said = c.in-Some.said.now in
    let is = commit_shape said.statement c.args._r (kept_kind c.args.kept.now 4 c.args.j.0 said c.in-Some.ensures)
    (kept_round c.args._r c.args.kept.now 4 c.args.j.0 said c.requires.round c.in-Some.ensures) in
    c.in_default-statement.not-Commit _ _ (c.statement.ensures.value ∙ is.1)

pub returns : goal.returns
returns c =
    let said = c.in-Some.said.now in
    let is = c.in-Commit.is in
    let round = kept_round c.args._r c.args.kept.now 4 c.args.j.0 said c.requires.round c.in-Some.ensures in
    ap (option_map (λ s. s.statement)) c.in-Some.ensures ∙ ap Some (sym c.statement.ensures.value ∙ is
    ∙ ap (λ r. kinds.Commit r c.in-Commit.digest) (round_is c.in-Commit.r c.args._r (sym (ap round_of (sym c.statement.ensures.value ∙ is)) ∙ round)))
