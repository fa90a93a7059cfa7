-- A server stays honest where it goes on, closes its window, or its run ends.
use Rattle.std.proofs.Common.{◌≡◌, true, false, List, [], ◌∷◌, ◌++◌, Some, refl, sym, subst}
use Rattle.dn_record_types.specs.declared.statement.Statement.{Statement}
use Rattle.dn_record_types.specs.declared.statement.Statement.TheVariants as kinds
use Rattle.dn_cert.specs.Chain.{ChainView}
use Rattle.dn_window.specs.Window.{WindowState}
use Rattle.dn_server.specs.declared.act.Act.{Act}
use Rattle.dn_server.specs.declared.run.Stage.TheVariants as stages
use Rattle.dn_server.specs.Server.{ServerView, ended}
use Rattle.dn_rounds.specs.Going.{Step, Steps, IsFree, past_with, thin_past}
use Rattle.dn_rounds.specs.Going.Step.{commits, reveals, signs, signs_thin, certifies, commit_conflicts, reveal_conflicts, body_opposed, thin_opposed}
use Rattle.dn_rounds.specs.Going.Steps.{no_step, one_more}
use Rattle.dn_exchange.specs.Closing.{inventory_of, with_window}
use Rattle.dn_exchange.specs.Honest.{IsHonest}
use Rattle.dn_exchange.specs.Invariant.{IsSound}
use Rattle.dn_exchange.proofs.Grows.{HoldsMore, same_chain}
use Rattle.dn_exchange.proofs.HonestMoves.{keeps_same, honest_on}
use Rattle.dn_exchange.proofs.HonestSays.{spoke}
use Rattle.dn_exchange.proofs.HonestSteps.{next, lists_honest, commits_honest, reveals_honest, signs_honest, signs_thin_honest}
use Rattle.dn_exchange.proofs.HoldSound.{longer}
use Rattle.dn_exchange.proofs.LongerChain.{holds_more}
use Rattle.dn_exchange.proofs.StepSound.{step_sound}

never : false ≡ true → ⊥
never e = cc

-- a run that has ended, also on a chain that holds more
pub ended_on : (v : ServerView) → IsHonest v → (chain : ChainView) → HoldsMore v.chain chain → IsHonest (record (ended v) { chain = chain })
ended_on v h chain more =
    honest_on v chain v.run.kept (record v.run.window { closed = true }) false 0 more (keeps_same v.run.kept) h h.one_kept (λ on. absurd (never on)) (λ on at. absurd (never on)) (λ on. absurd (never on))

pub ended_honest : (v : ServerView) → IsHonest v → IsHonest (ended v)
ended_honest v h = ended_on v h v.chain (same_chain v.chain h.chain)

module _ (v : ServerView) (h : IsHonest v) (sound : IsSound v) (runs : v.run.is_running ≡ true) where
  pub step_honest : (did : List Act) (w : ServerView) → Step v did w → IsHonest w
  step_honest did w (commits sum due free leaf e f) = subst IsHonest (sym f) (commits_honest v h sound runs sum due free)
  step_honest did w (reveals sum due free leaf e f) =
      subst IsHonest (sym f)
      (subst (λ o. IsHonest (spoke v h (kinds.Reveal v.run.r sum.s) stages.Revealed (Some sum) (next v h sound runs (kinds.Reveal v.run.r sum.s)) v.pasts o)) (sym h.straight) (reveals_honest v h sound runs sum due free))
  step_honest did w (signs sum b due un leaf e f) =
      subst IsHonest (sym f)
      (subst (λ o. IsHonest (spoke v h (kinds.Sign b) stages.Signed (Some sum) (next v h sound runs (kinds.Sign b)) (v.pasts ++ past_with sum b ∷ []) o)) (sym h.straight) (signs_honest v h sound runs sum b due un))
  step_honest did w (signs_thin b due un leaf e f) =
      subst IsHonest (sym f)
      (subst (λ o. IsHonest (spoke v h (kinds.Sign b) stages.Signed v.run.sum (next v h sound runs (kinds.Sign b)) (v.pasts ++ thin_past b ∷ []) o)) (sym h.straight) (signs_thin_honest v h sound runs b due un))
  step_honest did w (certifies b c agreed of can e f) =
      subst IsHonest (sym f) (ended_on v h (longer v.chain c.body) (holds_more v.chain c.body h.chain (c, of.certificate, refl) can))
  step_honest did w (commit_conflicts sum other due c e f) = subst IsHonest (sym f) (subst (λ o. IsHonest (record (ended v) { bend = o })) h.straight (ended_honest v h))
  step_honest did w (reveal_conflicts sum other due c e f) = subst IsHonest (sym f) (ended_honest v h)
  step_honest did w (body_opposed sum b j other due o e f) = subst IsHonest (sym f) (ended_honest v h)
  step_honest did w (thin_opposed b j other due o e f) = subst IsHonest (sym f) (ended_honest v h)

-- any number of steps
pub steps_honest : (v : ServerView) (did : List Act) (w : ServerView) → IsHonest v → IsSound v → Steps v did w → IsHonest w
steps_honest v did w h s (no_step e f) = subst IsHonest (sym f) h
steps_honest v did w h s (one_more first rest between runs step others e) =
    steps_honest between rest w (step_honest v h s runs first between step) (step_sound v s runs first between step) others

-- another window, where it doesn't hang on it
pub window_honest : (v : ServerView) (w : WindowState) → IsHonest v → (v.run.is_running ≡ true → v.run.stage ≡ stages.Collecting → w.closed ≡ false) → IsHonest (with_window v w)
window_honest v w h opens =
    honest_on v v.chain v.run.kept w v.run.is_running v.aside (same_chain v.chain h.chain) (keeps_same v.run.kept) h h.one_kept h.fitting opens h.set_aside

-- the inventory is said as the window closes
pub listed_honest : (v : ServerView) (w : WindowState) (h : IsHonest v) (sound : IsSound v) (runs : v.run.is_running ≡ true) → v.run.stage ≡ stages.Collecting
    → IsFree v (kinds.Inventory (inventory_of v.run))
    → IsHonest (with_window (spoke v h (kinds.Inventory (inventory_of v.run)) stages.Listed v.run.sum (next v h sound runs (kinds.Inventory (inventory_of v.run))) v.pasts v.bend) w)
listed_honest v w h sound runs stage free =
    let s : Statement = kinds.Inventory (inventory_of v.run) in
    let said = subst (λ o. IsHonest (spoke v h s stages.Listed v.run.sum (next v h sound runs s) v.pasts o)) (sym h.straight) (lists_honest v h sound runs stage free) in
    window_honest (spoke v h s stages.Listed v.run.sum (next v h sound runs s) v.pasts v.bend) w said (λ on at. absurd (let clash = at in cc))
