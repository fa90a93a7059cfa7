use Rattle.std.proofs.Common.{◌≡◌, ℕ, List, ◌∙◌, ap, sym, subst, Some}
use Rattle.std.proofs.lemmas.Result.{IfOk-weaker}
use Rattle.dn_lms.specs.Key.{IsKey}
use Rattle.dn_lms.specs.Signature.{public_key}
use Rattle.dn_roster.specs.Roster.{RosterView, key_of}
use Rattle.dn_seal.specs.Dealt.{server}
use Rattle.dn_seal.specs.Said.{IsUnder, Unseals}
use Rattle.dn_server.specs.Identity.{IdentityView}
use Rattle.dn_server.proofs.SaidLemmas.{said_is, said_by-unseals}
use Rattle.dn_server.proofs.identity.Identity.say.Goals as goal

abbrev IsWhole : IdentityView → Type 0
IsWhole d = IsKey d.key × (key_of d.roster (server d.number) ≡ Some (public_key d.key))

pub unseal_known-requires : goal.unseal_known-requires
unseal_known-requires c =
    let old : IdentityView = c.args.self.now in
    let same = c.self.view_is ∙ c.in_ok-bytes.ensures.after in
    let whole : IsWhole old = subst IsWhole same (c.self.invariant.is_key, c.self.invariant.member) in
    let u = said_by-unseals old.roster old.number old.key _ c.args.s whole.0 c.requires.leaf c.requires.fits whole.1 in
    let here = subst (λ (b : List ℕ). Unseals old.roster b (server old.number) c.args.s) (sym (c.deref.ensures.value ∙ c.in_ok-bytes.ensures.sealed)) u in
    (server old.number, c.args.s, subst (λ (r : RosterView). Unseals r c.deref.result.now (server old.number) c.args.s) (sym (ap (λ (d : IdentityView). d.roster) same)) here)

pub returns-clause-said : goal.returns-clause-said
returns-clause-said c =
    let old : IdentityView = c.args.self.now in
    let same = c.self.view_is ∙ c.in_ok-bytes.ensures.after in
    let whole : IsWhole old = subst IsWhole same (c.self.invariant.is_key, c.self.invariant.member) in
    IfOk-weaker c.unseal_known.result _ _
    (λ said is.
    said_is old.roster old.number old.key _ c.args.s whole.0 c.requires.leaf c.requires.fits whole.1 said is.0
    (subst (λ (r : RosterView). IsUnder r said) (ap (λ (d : IdentityView). d.roster) same) is.1)
    (is.2 ∙ c.deref.ensures.value ∙ c.in_ok-bytes.ensures.sealed))
    c.unseal_known.ensures
