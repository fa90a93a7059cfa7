use Rattle.std.proofs.Common.{sym, refl, subst}
use Rattle.std.proofs.lemmas.List.{append-nil}
use Rattle.dn_roster.specs.Roster.{RosterView}
use Rattle.dn_verify.specs.Verdicts.{IsJudgedSo}
use Rattle.dn_verify.proofs.events.judge.Goals as goal

pub returns : goal.returns
returns c = λ report course behind roster.
    let e = c.in_ok-found.ensures in
    record {
      chain = refl;
      reached = refl;
      heard = sym (append-nil c.args.heard.now);
      opened = e.0;
      opens = (refl, subst (λ (x : RosterView). IsJudgedSo x c.args.fold.now.chain c.args.heard.now c.args.r c.args.k e.0) (sym roster) e.1);
      due = e.2;
    }
