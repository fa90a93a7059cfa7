use Rattle.std.proofs.Common.{◌≤◌, sym, subst, length}
use Rattle.dn_record_types.specs.declared.body.Body.{Body}
use Rattle.dn_cert.specs.Chain.{IsChain, with_held}
use Rattle.dn_client.specs.Client.{ClientView}
use Rattle.dn_client.specs.Holding.{Ascends, IsNextHead, IsHeld, IsNotHeld}
use Rattle.dn_client.specs.Inside.{view_of}
use Rattle.dn_client.proofs.Clients.{keeps_of, holds}
use Rattle.dn_client.proofs.Refusals.{not_held}
use Rattle.dn_client.proofs.Listing.{ascends_in}
use Rattle.dn_client.proofs.client.Client.hold.Goals as goal

pub next_head-head-requires : goal.next_head-head-requires
next_head-head-requires c = subst (λ (b : Body). Ascends b.listed) (sym c.body.ensures.value) (ascends_in c.args.c.now c.body.ensures.certificate)

pub invariant_of-self : goal.invariant_of-self
invariant_of-self c =
    let v = view_of c.self.inside in
    let head = c.next_head-head.result in
    let keeps = c.self.invariant in
    let chain_is = c.in-Ok.ensures.held.1 in
    let within = subst (λ (w : ClientView). head ≤ length w.queue) (sym c.self.view_is) c.next_head-head.ensures.within in
    keeps_of (record v { chain = record v.chain { held = with_held c.args.c.now.body v.chain.held }; head = head }) (λ i. record v { chain = chain_is i; head = head })
    (holds v c.args.c.now.body head (subst IsChain chain_is c.take.ensures.chain) within keeps.client)
    keeps.signer keeps.slot_signer keeps.one_group keeps.whole

pub returns-in-Ok-clause-held : goal.returns-in-Ok-clause-held
returns-in-Ok-clause-held c =
    let v = view_of c.self.inside in
    let head = c.next_head-head.result in
    let chain_is = c.in-Ok.ensures.held.1 in
    let moved = subst (λ b. IsNextHead c.args.self.now b head) c.body.ensures.value c.next_head-head.ensures.next in
    subst (λ w. IsHeld w c.args.c.now (record v { chain = c.take.new.chain; head = head })) c.self.view_is
    record {
      left = c.if-self-2.false;
      follows = c.in-Ok.ensures.held.0;
      head = head;
      moved = subst (λ (w : ClientView). IsNextHead w c.args.c.now.body head) (sym c.self.view_is) moved;
      kept = λ i. record v { chain = chain_is i; head = head };
    }

pub returns-in-Ok-clause-client : goal.returns-in-Ok-clause-client
unfolding invariant_of-self
returns-in-Ok-clause-client c = (invariant_of-self c).client

pub returns-in-Err-clause-refused : goal.returns-in-Err-clause-refused
returns-in-Err-clause-refused c =
    subst (λ v. IsNotHeld v c.args.c.now.body c.in-Err.fault) c.self.view_is
    (not_held (view_of c.self.inside) c.args.c.now.body c.in-Err.fault c.if-self-2.false c.in-Err.ensures.refused)
