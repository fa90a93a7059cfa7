use Rattle.std.proofs.Common.{sym, ap, subst, ◌∙◌}
use Rattle.std.specs.Prelude.{Contains}
use Rattle.dn_client.specs.Client.{ClientView}
use Rattle.dn_client.specs.Accusing.{HasAccused}
use Rattle.dn_client.proofs.Jams.{not_made_now}
use Rattle.dn_client.proofs.client.Client.accuse.Goals as goal

pub accuse_now-requires-clause-first : goal.accuse_now-requires-clause-first
accuse_now-requires-clause-first c h =
    c.in-None.ensures.missing h.0 (subst (λ l. Contains l h.0) (sym (ap (λ (v : ClientView). v.accused) c.self.view_is) ∙ sym c.deref.ensures.value) h.1) h.2.0 h.2.1

pub returns-in-None-clause-refused : goal.returns-in-None-clause-refused
returns-in-None-clause-refused c =
    let fresh : HasAccused c.args.self.now c.args.r c.args.k → ⊥ = λ h.
    c.in-None.ensures.missing h.0 (subst (λ l. Contains l h.0) (sym (ap (λ (v : ClientView). v.accused) c.self.view_is) ∙ sym c.deref.ensures.value) h.1) h.2.0 h.2.1 in
    not_made_now c.args.self.now c.accuse_now.new.self c.args.r c.args.k c.accuse_now.result c.in_default.ensures.0 c.in_default.ensures.1 fresh c.accuse_now.ensures.refused
