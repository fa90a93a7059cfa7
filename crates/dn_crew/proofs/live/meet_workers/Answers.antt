use Rattle.std.proofs.Common.{◌≡◌, ◌-◌, ◌∙◌, ap, sym, subst, map, vec_len, ℕ, arith}
use Rattle.dn_crew.specs.Live.{server_of}
use Rattle.dn_crew.specs.Workers.{IsMet}
use Rattle.dn_crew.proofs.MeetLemmas.{can_begin, paired_all, are_done}
use Rattle.dn_crew.proofs.live.meet_workers.Goals as goal

pub work_all-requires-clause-begin : goal.work_all-requires-clause-begin
work_all-requires-clause-begin g c κs within =
    let q = c.requires in
    let p = c.in_ok-workers.ensures in
    let cores = c.args.cores.items in (
      q.fresh.0,
      cores,
      can_begin c.args.lock.now c.args.roster.now c.as_slice-servers.result.now q.fresh.0 cores c.args.passes.items c.in_ok-workers.workers.items
          (q.passes.0 ∙ c.args.cores.ok.0) (sym c.args.passes.ok.0 ∙ q.passes.1 ∙ c.args.cores.ok.0) (sym c.in_ok-workers.workers.ok.0 ∙ p.each ∙ c.args.cores.ok.0)
          (subst (λ n. Rattle.dn_crew.specs.Workers.ArePaired c.args.passes.items cores n c.in_ok-workers.workers.items) c.args.cores.ok.0 p.paired) q.fresh.1,
    )

pub work_all-requires-clause-group : goal.work_all-requires-clause-group
work_all-requires-clause-group g c κs within =
    let p = c.in_ok-workers.ensures in
    paired_all (λ v. v.seat.roster ≡ c.args.roster.now) c.args.passes.items c.args.cores.items c.in_ok-workers.workers.items c.requires.group
    (sym c.in_ok-workers.workers.ok.0 ∙ p.each ∙ c.args.cores.ok.0) (subst (λ n. Rattle.dn_crew.specs.Workers.ArePaired c.args.passes.items c.args.cores.items n c.in_ok-workers.workers.items) c.args.cores.ok.0 p.paired)

pub meet_all-requires : goal.meet_all-requires
meet_all-requires g c =
    let q = c.requires in
    let p = c.in_ok-workers.ensures in
    let d = c.in_ok-done.ensures in
    let cores = c.args.cores.items in
    let begin = can_begin c.args.lock.now c.args.roster.now c.as_slice-servers.result.now q.fresh.0 cores c.args.passes.items c.in_ok-workers.workers.items
    (q.passes.0 ∙ c.args.cores.ok.0) (sym c.args.passes.ok.0 ∙ q.passes.1 ∙ c.args.cores.ok.0) (sym c.in_ok-workers.workers.ok.0 ∙ p.each ∙ c.args.cores.ok.0)
    (subst (λ n. Rattle.dn_crew.specs.Workers.ArePaired c.args.passes.items cores n c.in_ok-workers.workers.items) c.args.cores.ok.0 p.paired) q.fresh.1 in (
      q.fresh.0,
      cores,
      are_done c.args.lock.now c.args.roster.now c.as_slice-servers.result.now q.fresh.0 cores c.args.t c.in_ok-done.done.items
          (sym c.in_ok-done.done.ok.0 ∙ d.each ∙ p.each ∙ c.args.cores.ok.0) (omega (arith, q.cores, c.args.cores.ok.0)) (omega (arith, q.cores, c.args.cores.ok.0)) q.turns (q.passes.0 ∙ c.args.cores.ok.0) (d.done q.fresh.0 cores begin),
    )

pub returns : goal.returns
returns g c = λ first fresh.
    let q = c.requires in
    let p = c.in_ok-workers.ensures in
    let d = c.in_ok-done.ensures in
    let cores = c.args.cores.items in
    let servers = c.as_slice-servers.result.now in
    let begin = can_begin c.args.lock.now c.args.roster.now servers first cores c.args.passes.items c.in_ok-workers.workers.items
    (q.passes.0 ∙ c.args.cores.ok.0) (sym c.args.passes.ok.0 ∙ q.passes.1 ∙ c.args.cores.ok.0) (sym c.in_ok-workers.workers.ok.0 ∙ p.each ∙ c.args.cores.ok.0)
    (subst (λ n. Rattle.dn_crew.specs.Workers.ArePaired c.args.passes.items cores n c.in_ok-workers.workers.items) c.args.cores.ok.0 p.paired) fresh in
    let done = are_done c.args.lock.now c.args.roster.now servers first cores c.args.t c.in_ok-done.done.items
    (sym c.in_ok-done.done.ok.0 ∙ d.each ∙ p.each ∙ c.args.cores.ok.0) (omega (arith, q.cores, c.args.cores.ok.0)) (omega (arith, q.cores, c.args.cores.ok.0)) q.turns (q.passes.0 ∙ c.args.cores.ok.0) (d.done first cores begin) in
    let same : servers ≡ map server_of cores = c.as_slice-servers.ensures.value ∙ c.in_ok-each.ensures ∙ ap (map server_of) c.deref.ensures.value in
    let long : vec_len c.in_ok-done.done - 1 ≡ vec_len c.args.cores - 1 = ap (λ (n : ℕ). n - 1) (d.each ∙ p.each) in
    subst (λ l. IsMet c.args.lock.now c.args.roster.now l first cores c.args.t (vec_len c.args.cores - 1) c.in_ok-pass.pass) same
    (subst (λ n. IsMet c.args.lock.now c.args.roster.now servers first cores c.args.t n c.in_ok-pass.pass) long (c.in_ok-pass.ensures first cores done))
