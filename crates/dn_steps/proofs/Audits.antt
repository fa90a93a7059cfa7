-- The audit of a world that knows its run says whether the run is clean.
use Rattle.std.proofs.Common.{◌<◌, sym, subst, ◌∙◌, Bool}
use Rattle.std.specs.Prelude.{◌↔◌, IsTrue, length}
use Rattle.dn_wire.specs.declared.ids.Member.TheVariants as members
use Rattle.dn_state.specs.declared.reading.Audit.{Audit}
use Rattle.dn_state.specs.Auditing.{IsAudit}
use Rattle.dn_state.specs.Parts.{PartsView}
use Rattle.dn_headline.specs.Group.{servers_of}
use Rattle.dn_headline.specs.Run.{RunView}
use Rattle.dn_headline.specs.Clean.{SomeServerIsHonest}
use Rattle.dn_auditing.proofs.Words.{tells_right}
use Rattle.dn_steps.specs.Audited.{IsAudited, SaysRight}
use Rattle.dn_steps.specs.Tied.{IsTied}

-- ---- what the words say

module _ (w : RunView) (parts : PartsView) (tied : IsTied w parts) (audited : IsAudited w parts) (audit : Audit) (is : IsAudit parts audit) where
  some_honest : IsTrue audit.honest ↔ SomeServerIsHonest w
  some_honest = (
    λ h. let some = is.honest.0 h in
        let within : some.0.0 < servers_of w.group = subst (λ n. some.0.0 < n) audited.servers some.1.within in
        (some.0, record { server = within; honest = sym (tied.group.corrupt (members.Server some.0) within) ∙ some.1.honest }),
    λ h. is.honest.1 (
      h.0,
      record {
        within = subst (λ n. h.0.0 < n) (sym audited.servers) h.1.server;
        honest = tied.group.corrupt (members.Server h.0) h.1.server ∙ h.1.honest;
      },
    ),
  )

  pub says_right : SaysRight w audit
  says_right =
      let right = tells_right w parts.auditor audited.knows in
      record {
        signed = (λ h. right.signed.0 (subst IsTrue is.signed h), λ h. subst IsTrue (sym is.signed) (right.signed.1 h));
        digests = right.digests audit.digests is.digests;
        honest = some_honest;
      }
