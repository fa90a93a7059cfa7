use Rattle.std.proofs.Common.{◌≡◌, ◌+◌, ◌-◌, ◌<◌, ◌∙◌, ◌++◌, ◌∷◌, [], ap, sym, refl, subst, length, length-append, vec_len, arith}
use Rattle.std.proofs.lemmas.Iterator.Adapters.{YieldsList-from_vec}
use Rattle.std.proofs.lemmas.Iterator.Consumers.{YieldsList-turn, YieldsList-end}
use Rattle.std.proofs.lemmas.Option.{slice_get_read}
use Rattle.dn_crew.specs.Workers.{IsMet}
use Rattle.dn_crew.proofs.MeetLemmas.{met_first, met_more, worker_at, worker_last}
use Rattle.dn_crew.proofs.meeting.meet_all.Goals as goal

pub loop-worker-init : goal.loop-worker-init
loop-worker-init c =
    let lock = c.args.lock.now in
    let roster = c.args._roster.now in
    let servers = c.args._servers.now in
    let q = c.requires in
    let done = worker_last lock roster servers q.0 q.1 c.args._t c.args.done.items c.pop.new.self.items c.in-Some.last c.in_ok-met.field-0 q.2 c.in-Some.ensures.items c.in_ok-met.was in (
      tt,
      tt,
      done.2.lock_is,
      done.2.idle,
      λ first cores a.
          let w = worker_last lock roster servers first cores c.args._t c.args.done.items c.pop.new.self.items c.in-Some.last c.in_ok-met.field-0 a c.in-Some.ensures.items c.in_ok-met.was in
          met_first lock roster servers first cores c.args._t (length cores) c.in_ok-met.field-0 a.turns_few refl (omega arith) w a.some,
    )

pub join-requires-clause-lock : goal.join-requires-clause-lock
join-requires-clause-lock c =
    let q = c.requires in
    let xs = c.pop.new.self.items in
    let e = c.into_iter-worker-iterator.ensures.into_iter_gives in
    let t = YieldsList-turn (YieldsList-from_vec xs e.0 (e.1 ∙ c.pop.new.self.ok.0)) c.loop-worker.yielded c.loop-worker.worker-iterator c.loop-worker.yielded_by c.next.result c.next.new.self c.in-Some-worker.worker c.in-Some-worker.is c.next.ensures.steps in
    let w = worker_at c.args.lock.now c.args._roster.now c.args._servers.now q.0 q.1 c.args._t (length c.loop-worker.yielded) c.args.done.items xs c.in-Some.last c.in-Some-worker.worker c.in_ok-pass.field-0 q.2 c.in-Some.ensures.items
    (slice_get_read xs (length xs) (length c.loop-worker.yielded) c.in-Some-worker.worker refl t.0 t.1) t.0 c.in_ok-pass.was in
    (c.loop-worker.invariant.2, w.2.lock_is)

pub join-requires-clause-idle : goal.join-requires-clause-idle
join-requires-clause-idle c =
    let q = c.requires in
    let xs = c.pop.new.self.items in
    let e = c.into_iter-worker-iterator.ensures.into_iter_gives in
    let t = YieldsList-turn (YieldsList-from_vec xs e.0 (e.1 ∙ c.pop.new.self.ok.0)) c.loop-worker.yielded c.loop-worker.worker-iterator c.loop-worker.yielded_by c.next.result c.next.new.self c.in-Some-worker.worker c.in-Some-worker.is c.next.ensures.steps in
    let w = worker_at c.args.lock.now c.args._roster.now c.args._servers.now q.0 q.1 c.args._t (length c.loop-worker.yielded) c.args.done.items xs c.in-Some.last c.in-Some-worker.worker c.in_ok-pass.field-0 q.2 c.in-Some.ensures.items
    (slice_get_read xs (length xs) (length c.loop-worker.yielded) c.in-Some-worker.worker refl t.0 t.1) t.0 c.in_ok-pass.was in
    (c.loop-worker.invariant.3, w.2.idle)

pub loop-worker-preserved : goal.loop-worker-preserved
loop-worker-preserved c =
    let lock = c.args.lock.now in
    let roster = c.args._roster.now in
    let servers = c.args._servers.now in
    let k = length c.loop-worker.yielded in
    let xs = c.pop.new.self.items in
    let e = c.into_iter-worker-iterator.ensures.into_iter_gives in
    let t = YieldsList-turn (YieldsList-from_vec xs e.0 (e.1 ∙ c.pop.new.self.ok.0)) c.loop-worker.yielded c.loop-worker.worker-iterator c.loop-worker.yielded_by c.next.result c.next.new.self c.in-Some-worker.worker c.in-Some-worker.is c.next.ensures.steps in
    let j = c.join.ensures in
    let long : k + 1 ≡ length (c.loop-worker.yielded ++ c.in-Some-worker.worker ∷ []) = sym (length-append c.loop-worker.yielded (c.in-Some-worker.worker ∷ [])) in (
      tt,
      tt,
      j.pass.0 ∙ c.loop-worker.invariant.2,
      j.pass.3,
      λ first cores a.
          let w = worker_at lock roster servers first cores c.args._t k c.args.done.items xs c.in-Some.last c.in-Some-worker.worker c.in_ok-pass.field-0 a c.in-Some.ensures.items
          (slice_get_read xs (length xs) k c.in-Some-worker.worker refl t.0 t.1) t.0 c.in_ok-pass.was in
          let inside : k + 1 < length cores = omega (arith, t.0, ap length c.in-Some.ensures.items, length-append xs (c.in-Some.last ∷ []), a.long) in
          subst (λ n. IsMet lock roster servers first cores c.args._t n c.join.new.pass) long
          (met_more lock roster servers first cores c.args._t k c.loop-worker.met c.join.new.pass c.in_ok-pass.field-0 a.turns_few a.few inside (c.loop-worker.invariant.4 first cores a) w
          j.pass.0 j.pass.2 j.pass.3 j.numbers j.both.0 j.both.1 j.grows.0 j.drawn.0 j.drawn.1 j.all),
    )

pub returns : goal.returns
returns c = λ first cores a.
    let xs = c.pop.new.self.items in
    let e = c.into_iter-worker-iterator.ensures.into_iter_gives in
    let t = YieldsList-end (YieldsList-from_vec xs e.0 (e.1 ∙ c.pop.new.self.ok.0)) c.loop-worker.yielded c.loop-worker.worker-iterator c.loop-worker.yielded_by c.next.result c.next.new.self c.in-None.is c.next.ensures.steps in
    let long : length c.loop-worker.yielded ≡ vec_len c.args.done - 1 = omega (arith, t.1, ap length c.in-Some.ensures.items, length-append xs (c.in-Some.last ∷ []), c.args.done.ok.0) in
    subst (λ n. IsMet c.args.lock.now c.args._roster.now c.args._servers.now first cores c.args._t n c.loop-worker.met) long (c.loop-worker.invariant.4 first cores a)
