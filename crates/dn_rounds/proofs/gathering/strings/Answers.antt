use Rattle.std.proofs.Common.{◌∙◌, ◌+◌, ap, sym, subst}
use Rattle.std.specs.Prelude.{Some}
use Rattle.dn_record_types.specs.declared.statement.Statement.TheVariants as kinds
use Rattle.dn_server.specs.Server.{AreKept}
use Rattle.dn_server.proofs.KeptLemmas.{kept_more}
use Rattle.dn_rounds.proofs.gathering.strings.Goals as goal

pub loop-j-preserved : goal.loop-j-preserved
loop-j-preserved c =
    let s = c.in_ok-s.s in
    subst (λ l. AreKept (kinds.Reveal c.args.r) 5 c.args.kept.now (c.loop-j.j + 1) l) (sym c.in_ok-push.ensures.items)
    (kept_more (kinds.Reveal c.args.r) 5 c.args.kept.now c.loop-j.j c.loop-j.all.items s c.loop-j.invariant
    (c.string_by.ensures ∙ ap (λ x. Some (kinds.Reveal c.args.r x)) (sym c.in_ok-s.ensures)))
