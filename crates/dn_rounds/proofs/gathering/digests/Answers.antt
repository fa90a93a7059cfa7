use Rattle.std.proofs.Common.{◌+◌, sym, subst}
use Rattle.dn_record_types.specs.declared.statement.Statement.TheVariants as kinds
use Rattle.dn_server.specs.Server.{AreKept}
use Rattle.dn_server.proofs.KeptLemmas.{kept_more}
use Rattle.dn_rounds.proofs.gathering.digests.Goals as goal

pub loop-j-preserved : goal.loop-j-preserved
loop-j-preserved c =
    subst (λ l. AreKept (kinds.Commit c.args.r) 4 c.args.kept.now (c.loop-j.j + 1) l) (sym c.in_ok-push.ensures.items)
    (kept_more (kinds.Commit c.args.r) 4 c.args.kept.now c.loop-j.j c.loop-j.all.items c.digest_by.result c.loop-j.invariant c.digest_by.ensures)
