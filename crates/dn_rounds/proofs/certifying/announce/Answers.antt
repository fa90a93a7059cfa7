use Rattle.std.proofs.Common.{◌≡◌, ◌∙◌, ◌∷◌, [], ◌++◌, ℕ, List, map, length, ap, append_assoc}
use Rattle.std.specs.Prelude.{filter, not, ◌==◌}
use Rattle.dn_bits.specs.Bits.{below}
use Rattle.dn_wire.specs.declared.ids.Member.{Member}
use Rattle.dn_roster.specs.Roster.{RosterView}
use Rattle.dn_cert.specs.Certificate.{CertificateView}
use Rattle.dn_server.specs.declared.act.Act.{Act}
use Rattle.dn_server.specs.declared.act.Act.TheVariants as acts
use Rattle.dn_server.specs.Server.{client_member, server_member}
use Rattle.dn_rounds.proofs.certifying.announce.Goals as goal

all_of : ℕ → ℕ → ℕ → List Member
all_of clients servers own = map client_member (below clients) ++ map server_member (filter (λ j. not (j == own)) (below servers))

two : (before middle after : List Act) (x a : CertificateView) (to to' : List Member) (bytes bytes' : List ℕ) → middle ≡ before ++ acts.Certified x ∷ []
    → after ≡ middle ++ acts.Post to bytes ∷ [] → x ≡ a → to ≡ to' → bytes ≡ bytes' → after ≡ before ++ acts.Certified a ∷ acts.Post to' bytes' ∷ []
two before middle after x a to to' bytes bytes' first second same members payload =
    second ∙ ap (λ l. l ++ acts.Post to bytes ∷ []) first ∙ append_assoc before (acts.Certified x ∷ []) (acts.Post to bytes ∷ [])
    ∙ (λ i. before ++ acts.Certified (same i) ∷ acts.Post (members i) (payload i) ∷ [])

pub returns-clause-told : goal.returns-clause-told
unfolding all_of
returns-clause-told c =
    let roster = c.roster-roster.ensures.value in
    let clients = c.clients.ensures.value ∙ ap (λ (r : RosterView). length r.clients) roster in
    let servers = c.servers.ensures.value ∙ ap (λ (r : RosterView). length r.servers) roster in
    let own = c.number.ensures in
    let members = c.in_ok-to.ensures ∙ (λ i. all_of (clients i) (servers i) (own i)) in
    two c.args.acts.now.items c.push.new.self.items c.push-2.new.self.items c.in_ok-copy.field-0 c.args.c c.in_ok-to.to _ c.of-payload.result c.args.c.bytes
    c.in_ok-push.ensures.items c.in_ok-push-2.ensures.items c.in_ok-copy.ensures.same members
    (c.of-payload.ensures ∙ c.in_ok-from_slice.ensures.items ∙ c.bytes.ensures.value)
