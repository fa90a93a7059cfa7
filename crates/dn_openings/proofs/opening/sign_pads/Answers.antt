use Rattle.std.proofs.Common.{Bool, ◌≡◌, ◌<◌, ◌++◌, ◌∷◌, ℕ, List, [], false, cond, map, length, sym, ap, ◌∙◌, subst, arith}
use Rattle.std.specs.Prelude.{All, Contains, slice_index_or}
use Rattle.std.proofs.lemmas.Result.{IfOk-weaker}
use Rattle.std.proofs.lemmas.List.Elements.{All-weaker}
use Rattle.std.proofs.lemmas.List.FromFn.{length-map-range_with_len}
use Rattle.dn_bits.specs.Bits.{below}
use Rattle.dn_pads.specs.Pads.{keystream_bit}
use Rattle.dn_record_types.specs.declared.body.Body.{Body}
use Rattle.dn_record_types.specs.declared.statement.Statement.TheVariants as kinds
use Rattle.dn_record_types.specs.declared.body.Listed.{Listed}
use Rattle.dn_roster.specs.Roster.{RosterView}
use Rattle.dn_cert.specs.Certificate.{IsOfRoster}
use Rattle.dn_seal.specs.Dealt.{server}
use Rattle.dn_seal.specs.Signer.{CanSign}
use Rattle.dn_cert.proofs.ChainLemmas.{one_body}
use Rattle.dn_server.specs.Parts.{live}
use Rattle.dn_server.specs.Server.{ServerView, post_next, others_of}
use Rattle.dn_openings.specs.Accusing.{SignsAndKeeps, pads_at, opened_bits, lists}
use Rattle.dn_openings.proofs.opening.sign_pads.Goals as goal

pub opened_bits-requires-clause-listed : goal.opened_bits-requires-clause-listed
opened_bits-requires-clause-listed c =
    let v : ServerView = live c.args.parts.now in
    let b : Body = c.in-Some.body.now in
    let clients : c.clients-clients.result ≡ length v.seat.roster.clients =
    c.clients-clients.ensures.value ∙ ap (λ (r : RosterView). length r.clients) c.roster.ensures.value in
    let can = c.requires.can in
    let same : can.body ≡ b =
    one_body v.chain c.in-Some.ensures.chain can.body b can.held c.in-Some.ensures.body.0 (ap (λ r. r.0) (can.round ∙ sym c.in-Some.ensures.body.1)) in
    let in_group : IsOfRoster v.seat.roster b = subst (IsOfRoster v.seat.roster) same can.in_group in
    let few : All (λ (l : Listed). l.client.0 < length v.seat.roster.clients) b.listed =
    All-weaker (λ (l : Listed). (l.client.0 < length v.seat.roster.clients) × (l.server.0 < length v.seat.roster.servers))
    (λ (l : Listed). l.client.0 < length v.seat.roster.clients) (λ l p. p.0) b.listed in_group.listed in
    subst (λ n. All (λ (l : Listed). l.client.0 < n) b.listed) (sym clients) few

pub sign-requires-clause-fits : goal.sign-requires-clause-fits
sign-requires-clause-fits c = subst (λ n. CanSign (server n) c.pads_of.result) c.number-own.ensures c.pads_of.ensures.fits

pub returns-clause-signed : goal.returns-clause-signed
returns-clause-signed c =
    let v : ServerView = live c.args.parts.now in
    let b : Body = c.in-Some.body.now in
    let clients : c.clients-clients.result ≡ length v.seat.roster.clients =
    c.clients-clients.ensures.value ∙ ap (λ (r : RosterView). length r.clients) c.roster.ensures.value in
    let f : List (List ℕ) → ℕ → Bool = λ seeds i. cond (lists b i) (keystream_bit (slice_index_or seeds i []) b.r.0 c.args.k) false in
    let bits : c.in_ok-bits.bits ≡ opened_bits v.seat b c.args.k =
    c.in_ok-bits.ensures ∙ ap (λ s. map (f s) (below c.clients-clients.result)) c.deref.ensures.value ∙ ap (λ n. map (f v.seat.seeds) (below n)) clients in
    let pads : c.pads_of.result ≡ pads_at v.seat b c.args.k =
    c.pads_of.ensures.is ∙ ap (λ r. kinds.PadBits r c.args.k c.in_ok-bits.bits) (sym c.in-Some.ensures.body.1) ∙ ap (kinds.PadBits b.r c.args.k) bits in
    let after : ServerView = live c.sign.new.parts in
    IfOk-weaker c.sign.result (λ u. SignsAndKeeps v c.pads_of.result after)
    (λ u. (x : Body) → Contains v.chain.held x → x.r ≡ c.args.r → SignsAndKeeps v (pads_at v.seat x c.args.k) after)
    (λ u signed x held round.
    let same : b ≡ x = one_body v.chain c.in-Some.ensures.chain b x c.in-Some.ensures.body.0 held (ap (λ r. r.0) (c.in-Some.ensures.body.1 ∙ sym round)) in
    subst (λ y. SignsAndKeeps v (pads_at v.seat y c.args.k) after) same (subst (λ s. SignsAndKeeps v s after) pads signed))
    c.sign.ensures.signed

pub returns-clause-posted : goal.returns-clause-posted
returns-clause-posted c =
    let v : ServerView = live c.args.parts.now in
    let b : Body = c.in-Some.body.now in
    let clients : c.clients-clients.result ≡ length v.seat.roster.clients =
    c.clients-clients.ensures.value ∙ ap (λ (r : RosterView). length r.clients) c.roster.ensures.value in
    let f : List (List ℕ) → ℕ → Bool = λ seeds i. cond (lists b i) (keystream_bit (slice_index_or seeds i []) b.r.0 c.args.k) false in
    let bits : c.in_ok-bits.bits ≡ opened_bits v.seat b c.args.k =
    c.in_ok-bits.ensures ∙ ap (λ s. map (f s) (below c.clients-clients.result)) c.deref.ensures.value ∙ ap (λ n. map (f v.seat.seeds) (below n)) clients in
    let pads : c.pads_of.result ≡ pads_at v.seat b c.args.k =
    c.pads_of.ensures.is ∙ ap (λ r. kinds.PadBits r c.args.k c.in_ok-bits.bits) (sym c.in-Some.ensures.body.1) ∙ ap (kinds.PadBits b.r c.args.k) bits in
    let to = others_of v.seat in
    IfOk-weaker c.sign.result (λ u. c.sign.new.acts.items ≡ c.args.acts.now.items ++ post_next v to c.pads_of.result ∷ [])
    (λ u. (x : Body) → Contains v.chain.held x → x.r ≡ c.args.r → c.sign.new.acts.items ≡ c.args.acts.now.items ++ post_next v to (pads_at v.seat x c.args.k) ∷ [])
    (λ u posted x held round.
    let same : b ≡ x = one_body v.chain c.in-Some.ensures.chain b x c.in-Some.ensures.body.0 held (ap (λ r. r.0) (c.in-Some.ensures.body.1 ∙ sym round)) in
    posted ∙ ap (λ s. c.args.acts.now.items ++ post_next v to s ∷ []) (pads ∙ ap (λ y. pads_at v.seat y c.args.k) same))
    c.sign.ensures.posted

pub pads_of-requires : goal.pads_of-requires
pads_of-requires c =
    let b : Body = c.in-Some.body.now in
    let g : ℕ → Bool = λ i. cond (lists b i) (keystream_bit (slice_index_or c.deref.result.now i []) b.r.0 c.args.k) false in
    let long : length c.in_ok-bits.bits ≡ c.clients-clients.result = ap length c.in_ok-bits.ensures ∙ length-map-range_with_len g 0 c.clients-clients.result in
    let limits = c.clients-clients.ensures.limits.clients in
    omega (arith, limits.1, c.clients-clients.ensures.value)
