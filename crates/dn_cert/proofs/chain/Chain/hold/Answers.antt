use Rattle.std.proofs.Common.{◌≡◌, List, length, refl, sym, ap, ◌∙◌, subst}
use Rattle.std.specs.Prelude.{All, replicate, insert}
use Rattle.dn_record_types.specs.declared.body.Body.{Body}
use Rattle.dn_cert.specs.declared.held.Held.{Held}
use Rattle.dn_cert.specs.Chain.{IsChain, IsLayoutAfter, CanFollow, IsHoldRefused, with_held}
use Rattle.dn_cert.proofs.ChainLemmas.{follows_so}
use Rattle.dn_cert.proofs.HeldLemmas.{chain_of, Keeps, held_ascend, held_more}
use Rattle.dn_cert.proofs.chain.Chain.hold.Goals as goal

pub returns-in-Err-clause-follows : goal.returns-in-Err-clause-follows
returns-in-Err-clause-follows c = λ can.
    follows_so c.args.self.now c.args.c.body c.in-Err.fault (subst IsChain c.self.view_is c.self.invariant.0) can
    (subst (λ b. IsHoldRefused c.args.self.now b c.in-Err.fault) c.body.ensures.value c.in-Err.ensures.refused)

pub count_below-at-requires : goal.count_below-at-requires
count_below-at-requires c = held_ascend (length c.self.inside.first) c.deref.result.now c.self.inside.held.items c.deref.ensures.value c.self.invariant.0

pub invariant_of-self : goal.invariant_of-self
invariant_of-self c =
    let n = length c.self.inside.first in
    let P : List Held → Type 0 = λ l. IsChain (chain_of n l) × (c.self.inside.first ≡ replicate n 0) × All (λ (h : Held). IsLayoutAfter (chain_of n l) h.body.r.0 h.layout) l in
    subst P (sym c.in_err-insert.ensures.items) c.self.invariant

-- what is held once the certificate is in its place
one_more : (c : goal.In_ok-insert) → Keeps (length c.self.inside.first) c.insert.new.self.items × CanFollow c.args.self.now c.args.c.body
    × (chain_of (length c.self.inside.first) c.insert.new.self.items ≡ record c.args.self.now { held = with_held c.args.c.body c.args.self.now.held })
one_more c =
    let held_of : Body → Held = λ b. record { body = b; layout = c.in_ok-layout.layout } in
    held_more (length c.self.inside.first) c.self.inside.held.items c.insert.new.self.items c.deref.result.now c.args.self.now c.args.c.body c.body.result.now c.body-2.result.now c.body-3.result.now c.in-Ok.before.now c.in_ok-layout.layout c.count_below-at.result
    c.self.view_is (c.self.invariant.0, c.self.invariant.2) (c.args.c, c.body.ensures.certificate, refl)
    c.body.ensures.value c.in-Ok.ensures.follows.0 c.in-Ok.ensures.follows.1
    c.body-2.ensures.value c.in_ok-layout.ensures
    c.deref.ensures.value c.body-3.ensures.value c.count_below-at.ensures.bound c.count_below-at.ensures.below c.count_below-at.ensures.above
    (c.in_ok-insert.ensures.items ∙ ap (λ (b : Body). insert c.self.inside.held.items c.count_below-at.result (held_of b)) c.into_body.ensures.value)

pub invariant_of-self-2 : goal.invariant_of-self-2
invariant_of-self-2 c =
    let more = one_more c in (more.0.0, c.self.invariant.1, more.0.1)

pub returns-clause-held : goal.returns-clause-held
returns-clause-held c =
    let more = one_more c in (more.1, more.2)

pub returns-clause-chain : goal.returns-clause-chain
returns-clause-chain c =
    (one_more c).0.0
