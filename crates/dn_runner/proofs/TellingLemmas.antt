-- What is told is a run of the world.
use Rattle.std.proofs.Common.{◌≡◌, map, sym, subst}
use Rattle.dn_script.specs.Script.{Lines}
use Rattle.dn_steps.specs.Dealt.{IsDealtGroup}
use Rattle.dn_world.specs.Run.{WorldView}
use Rattle.dn_world.specs.Kept.{Vouches, step_of}
use Rattle.dn_run_report.specs.Report.{PlayedView}
use Rattle.dn_runner.specs.Play.{TellsRun, corrupt_of}

pub tells_run : (script : Lines) (p : PlayedView) (v : WorldView) → Vouches v p.audit → v.spec ≡ p.group → v.corrupt ≡ corrupt_of script → p.history ≡ v.history
    → TellsRun script p
tells_run script p v vouched spec named history =
    let of = vouched.of in
    record {
      run = vouched.run;
      owners = of.owners;
      dealt =
          subst (λ g. IsDealtGroup g of.owners (corrupt_of script) vouched.run.group) spec
          (subst (λ ms. IsDealtGroup v.spec of.owners ms vouched.run.group) named of.dealt);
      history = subst (λ h. vouched.run.history ≡ map step_of h) (sym history) of.history;
      promises = vouched.promises;
      clean = vouched.clean;
    }
