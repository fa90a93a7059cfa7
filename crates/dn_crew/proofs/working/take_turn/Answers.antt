use Rattle.std.proofs.Common.{◌≡◌, ◌+◌, ℕ, List, Option, ap, sym, ◌∙◌, refl, subst, None, Some, Result, Ok, Err, IfSome, IfNone, length}
use Rattle.dn_turns.specs.declared.turns.TakeFault.TheVariants as TakeFault
use Rattle.dn_board.specs.declared.letters.Letter.{Letter}
use Rattle.dn_board.specs.Reads.{last_place}
use Rattle.dn_counts.specs.Numbers.{least}
use Rattle.dn_crew.specs.Live.{Makes, letters_between, payloads_of}
use Rattle.dn_crew.specs.Workers.{IsAt}
use Rattle.dn_crew.proofs.WorkerLemmas.{at_posted, at_full}
use Rattle.dn_crew.proofs.working.take_turn.Goals as goal

same_first : {a b : List Letter} → Some a ≡ Some b → a ≡ b
same_first e = cc

not_err : {A E : Type 0} (a : A) (e : E) → (let r : Result A E = Ok a in r ≡ Err e) → ⊥
not_err a e h = cc

no_more : {A E : Type 0} (R : ℕ → Type 0) (a : A) (f : ℕ → E) (o : Option ℕ) → IfSome o (λ n. (let r : Result A E = Ok a in r ≡ Err (f n)) × R n) → o ≡ None
no_more R a f None h = refl
no_more R a f (Some n) h = absurd (not_err a (f n) h.0)

pub returns-in-Ok : goal.returns-in-Ok
returns-in-Ok g c = λ first w v turns few h.
    let p = c.args.worker.now.pass in
    let t = c.in-Ok.ensures in
    let e = c.in_ok-post-in-Ok.ensures in
    let makes = subst (λ l. Makes c.args.roster.now c.args.servers.now c.args.worker.now.core l c.in_ok-made.made.items c.work.new.core) c.deref.ensures.value c.in_ok-made.ensures.made in
    let pf = no_more _ c.in-Ok.turn TakeFault.Full p.full t.again in
    let qd = subst (λ o. IfNone o (c.take.new.pass.drawn ≡ p.drawn + 1)) pf t.drawn in
    let base : c.in-Ok.turn.log.first ≡ first = same_first (sym t.taken.0.3 ∙ t.pass.2 ∙ h.base_is) in
    let log = c.in-Ok.turn.log.posts in
    let number = least c.take.new.pass.numbers in
    let inbox = e.inbox ∙ ap (λ f. payloads_of (letters_between f log c.work.new.core.seat.number (last_place number log) (length log + 1))) base in
    let at = at_posted c.args.lock.now c.args.roster.now c.args.servers.now first w v turns p c.take.new.pass c.post.new.worker.pass c.args.worker.now.core c.work.new.core c.args.worker.now.inbox.items c.post.new.worker.inbox.items c.in_ok-made.made.items log
    h makes c.in_ok-made.ensures.seat t.pass pf t.taken.2 qd t.follows t.grows t.own e.pass.0 e.pass.1 e.pass.2 e.pass.3 e.seen inbox in
    subst (λ x. IsAt c.args.lock.now c.args.roster.now c.args.servers.now first w v (turns + 1) c.post.new.worker.pass x c.post.new.worker.inbox.items) (sym e.core) at

pub returns-in-Err-Full : goal.returns-in-Err-Full
returns-in-Err-Full g c = λ first w v turns few h.
    let t = c.in-Err-Full.ensures in
    let n = c.in-Err-Full.field-0-0 in
    let full = t.full n (ap Err c.in-Err-Full.field-0-is) in
    at_full c.args.lock.now c.args.roster.now c.args.servers.now first w v _ turns n c.args.worker.now.pass c.take.new.pass c.args.worker.now.core c.work.new.core c.args.worker.now.inbox.items
    few h c.in_ok-made.ensures.seat t.pass t.refused.0 full.0 full.1 t.drawn t.again t.all
