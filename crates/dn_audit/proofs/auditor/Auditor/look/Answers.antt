use Rattle.std.proofs.Common.{refl, subst}
use Rattle.dn_audit.specs.Auditor.{AuditorView, Looks}
use Rattle.dn_audit.proofs.auditor.Auditor.look.Goals as goal

pub returns : goal.returns
returns c =
    let old : AuditorView = record { signed = c.self.inside.signings; are_theirs = c.self.inside.are_theirs; seeds = c.self.inside.seeds; ciphers = c.self.inside.ciphers; sums = c.self.inside.sums } in
    let both = c.are_both-self-inside.ensures in
    subst (λ (v : AuditorView). Looks c.args.roster.now c.args.group.now v (record old { are_theirs = c.are_both-self-inside.result }) c.args.bytes.now) c.self.view_is
    (record {
      signed = refl;
      are_theirs = (λ h. let two = both.0 h in (two.0, c.in_ok-may.ensures.0 two.1), λ h. both.1 (h.0, c.in_ok-may.ensures.1 h.1));
      tells = λ x tells. record { seeds = tells.seeds; ciphers = tells.ciphers; sums = tells.sums };
    })
