use Rattle.std.proofs.Common.{rules, ◌≡◌, ◌∙◌, [], Some, ap, sym}
use Rattle.std.proofs.lemmas.Option.{slice_get_within, get_or_from_slice_get}
use Rattle.dn_lms.specs.Key.{Key}
use Rattle.dn_lms.specs.Signature.{public_key}
use Rattle.dn_roster.specs.Roster.{RosterView, key_of}
use Rattle.dn_seal.specs.Dealt.{server, key_dealt_to}
use Rattle.dn_exchange.proofs.making.identity_of.Goals as goal
use Rattle.dn_exchange.proofs.making.identity_of.Goals.{In_ok-key}

key_is : (c : In_ok-key) → c.in_ok-key.key ≡ key_dealt_to c.args.dealt.now.spec (server c.args.j.0)
key_is c =
    let d = c.args.dealt.now in
    c.in_ok-key.ensures ∙ c.index.ensures
    ∙ get_or_from_slice_get d.server_keys.items c.args.j.0 _ c.index.result.now (c.members_have_their_keys.ensures.servers c.args.j.0 c.requires)

pub index-requires : goal.index-requires
index-requires c =
    let d = c.args.dealt.now in
    let within = slice_get_within d.server_keys.items c.args.j.0 _ (c.members_have_their_keys.ensures.servers c.args.j.0 c.requires) in
    search rules

pub make-requires : goal.make-requires
make-requires c =
    let d = c.args.dealt.now in
    let key = key_is (goal.at.make-requires c).In_ok-key in
    ap (λ (r : RosterView). key_of r (server c.args.j.0)) c.in_ok-roster.ensures
    ∙ c.members_have_their_keys.ensures.member (server c.args.j.0) c.requires
    ∙ ap (λ (k : Key). Some (public_key k)) (sym key)

pub returns-clause-value : goal.returns-clause-value
returns-clause-value c =
    let key = key_is (goal.at.returns-clause-value c).In_ok-key in
    c.in_ok-identity.ensures ∙ (λ i. record { roster = c.in_ok-roster.ensures i; number = c.args.j.0; key = key i; signed = [] })
