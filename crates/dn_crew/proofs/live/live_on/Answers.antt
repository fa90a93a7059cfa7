use Rattle.std.proofs.Common.{◌≡◌, ◌∙◌, ap, sym, subst, map, length, vec_len, Some, IfSome, arith}
use Rattle.dn_crew.specs.Live.{server_of, posts_under, Gives}
use Rattle.dn_crew.specs.Workers.{AllBy}
use Rattle.dn_crew.proofs.MeetLemmas.{lived, others}
use Rattle.dn_crew.proofs.live.live_on.Goals as goal

pub read_log-requires-clause-lock : goal.read_log-requires-clause-lock
read_log-requires-clause-lock g c = let m = c.in_ok-pass.ensures c.requires.fresh.0 c.requires.fresh.1 in (m.lock_is, m.idle)

pub read_log-requires-clause-all : goal.read_log-requires-clause-all
read_log-requires-clause-all g c = let m = c.in_ok-pass.ensures c.requires.fresh.0 c.requires.fresh.1 in omega (arith, m.count, c.requires.passes, c.requires.cores)

pub read_log-requires-clause-few : goal.read_log-requires-clause-few
read_log-requires-clause-few g c =
    let m = c.in_ok-pass.ensures c.requires.fresh.0 c.requires.fresh.1 in
    (m.full (omega (arith, m.count, c.requires.passes, c.requires.cores)), omega (arith, m.few, c.requires.cores))

pub returns-clause-pass : goal.returns-clause-pass
returns-clause-pass g c =
    let m = c.in_ok-pass.ensures c.requires.fresh.0 c.requires.fresh.1 in
    let l = c.in_ok-lived.ensures.pass in
    (l.0 ∙ m.lock_is, ap length l.1 ∙ omega (arith, m.count, c.requires.passes, c.requires.cores), l.3)

pub returns-clause-first : goal.returns-clause-first
returns-clause-first g c = λ first fresh.
    let m = c.in_ok-pass.ensures first fresh in
    let base : c.in_ok-lived.lived.pass.base ≡ Some first = c.in_ok-lived.ensures.pass.2 ∙ m.base_is in
    (base, subst (λ o. IfSome o (λ l. c.in_ok-lived.lived.first ≡ length l)) base c.in_ok-lived.ensures.first)

pub returns-clause-turns : goal.returns-clause-turns
returns-clause-turns g c = λ i.
    let q = c.requires in
    lived c.args.lock.now c.args.roster.now (map server_of c.args.cores.items) q.fresh.0 c.args.cores.items c.args.t (vec_len c.args.cores) c.in_ok-pass.pass c.in_ok-lived.lived.posts (λ v. length (posts_under i c.in_ok-lived.lived.posts) ≡ c.args.t) i
    (c.in_ok-pass.ensures q.fresh.0 q.fresh.1) (sym c.args.cores.ok.0) q.cores.0 q.passes.0 c.in_ok-lived.ensures.follows.0 (λ v h. h.turns_are)

pub returns-clause-author : goal.returns-clause-author
returns-clause-author g c = λ i.
    let q = c.requires in
    lived c.args.lock.now c.args.roster.now (map server_of c.args.cores.items) q.fresh.0 c.args.cores.items c.args.t (vec_len c.args.cores) c.in_ok-pass.pass c.in_ok-lived.lived.posts (λ v. AllBy (server_of v) (posts_under i c.in_ok-lived.lived.posts)) i
    (c.in_ok-pass.ensures q.fresh.0 q.fresh.1) (sym c.args.cores.ok.0) q.cores.0 q.passes.0 c.in_ok-lived.ensures.follows.0 (λ v h. h.author)

pub returns-clause-others : goal.returns-clause-others
returns-clause-others g c =
    let q = c.requires in
    let m = c.in_ok-pass.ensures q.fresh.0 q.fresh.1 in
    let f = c.in_ok-lived.ensures.follows in
    others c.args.lock.now.passes c.in_ok-pass.pass.seen c.in_ok-lived.lived.posts c.in_ok-pass.pass.numbers f.0 (m.below (m.full (omega (arith, m.count, q.passes, q.cores)))) f.1

pub returns-clause-letters : goal.returns-clause-letters
returns-clause-letters g c = λ first fresh i.
    let q = c.requires in
    lived c.args.lock.now c.args.roster.now (map server_of c.args.cores.items) first c.args.cores.items c.args.t (vec_len c.args.cores) c.in_ok-pass.pass c.in_ok-lived.lived.posts
    (λ v. Gives c.args.roster.now (map server_of c.args.cores.items) first c.in_ok-lived.lived.posts v (posts_under i c.in_ok-lived.lived.posts)) i
    (c.in_ok-pass.ensures first fresh) (sym c.args.cores.ok.0) q.cores.0 q.passes.0 c.in_ok-lived.ensures.follows.0 (λ v h. h.gives)
