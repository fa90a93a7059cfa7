-- What follows on the closing of a window.
use Rattle.std.proofs.Common.{◌≡◌, ◌+◌, cond, Bool, true, false, List, [], ◌∷◌, ◌++◌, refl, ap, subst, ◌∙◌}
use Rattle.std.specs.Prelude.{not, ◌&&◌, nat_le}
use Rattle.dn_record_types.specs.declared.statement.Statement.{Statement}
use Rattle.dn_record_types.specs.declared.statement.Statement.TheVariants as kinds
use Rattle.dn_server.specs.declared.act.Act.{Act}
use Rattle.dn_server.specs.declared.act.Act.TheVariants as acts
use Rattle.dn_server.specs.declared.parts.Parts.{Parts}
use Rattle.dn_server.specs.declared.run.Stage.TheVariants as stages
use Rattle.dn_server.specs.Server.{ServerView}
use Rattle.dn_server.specs.Parts.{live}
use Rattle.dn_rounds.specs.Going.{GoesOn, HasLeaf}
use Rattle.dn_rounds.specs.Sound.{Became}
use Rattle.dn_rounds.specs.declared.going.Due.TheVariants as dues
use Rattle.dn_window.specs.Window.{WindowState, is_due, ticked}
use Rattle.dn_server.specs.declared.answer.Answer.{Answer}
use Rattle.dn_server.specs.declared.answer.Answer.TheVariants as answers
use Rattle.dn_exchange.specs.Ready.{in_window}
use Rattle.dn_exchange.specs.Closing.Ticks.{closes_at}
use Rattle.dn_exchange.specs.Closing.Shuts.{closes_now}
use Rattle.dn_exchange.specs.Closing.{inventory_of, Closes, Ticks, Shuts}
use Rattle.dn_exchange.specs.Closing.Closes.{lists, meets_other, finds_no_leaf}

module _ (p : Parts) where
  -- the statement that is due
  abbrev pub listing_of : Statement
  listing_of = kinds.Inventory (inventory_of p.run)

  -- what is told of the closing
  abbrev pub closing_told : Act
  closing_told = acts.Closed p.run.r p.run.window.count

  pub closes_opposed : (mid : Parts) (did : List Act) → Became listing_of stages.Listed p mid (closing_told ∷ []) did dues.Opposed → Closes (live p) did (live mid)
  closes_opposed mid did b = meets_other b.0 b.1 b.3 (ap live b.2)

  pub closes_said : (mid new : Parts) (said did more : List Act) → Became listing_of stages.Listed p mid (closing_told ∷ []) said dues.Said → did ≡ said ++ more
      → GoesOn (live mid) more (live new) → Closes (live p) did (live new)
  closes_said mid new said did more b e goes =
      let at = subst (λ (x : ServerView). GoesOn x more (live new)) (ap live b.2) goes in
      lists more b.0 b.1 at (e ∙ ap (λ l. l ++ more) b.3)

  pub closes_stuck : (mid : Parts) (did : List Act) → (p.bent ≡ false → HasLeaf (live p)) → Became listing_of stages.Listed p mid (closing_told ∷ []) did dues.Stuck → Closes (live p) did (live mid)
  closes_stuck mid did leaf b = by p.bent refl
    where
      by : (x : Bool) → p.bent ≡ x → Closes (live p) did (live mid)
      by true e = finds_no_leaf b.0 b.1 e b.3 (ap live b.2)
      by false e = absurd (b.1 (leaf e))

open_so : (closed later : Bool) → (not closed && later) ≡ true → (closed ≡ false) × (later ≡ true)
open_so true later e = cc
open_so false later e = (refl, e)

-- a window that a tick closes was open, and is closed then
pub due_open : (w : WindowState) → is_due w ≡ true → w.closed ≡ false
due_open w e = (open_so w.closed (nat_le w.closing_tick (w.ticks + 1)) e).0

pub ticked_closed : (w : WindowState) → is_due w ≡ true → (ticked w).closed ≡ true
ticked_closed w e = ap (λ (b : Bool). (cond b w (record w { ticks = w.ticks + 1; closed = is_due w })).closed) (due_open w e) ∙ e

pub ticked_submitted : (w : WindowState) → (ticked w).submitted ≡ w.submitted
ticked_submitted w = by w.closed
  where
    by : (b : Bool) → (cond b w (record w { ticks = w.ticks + 1; closed = is_due w })).submitted ≡ w.submitted
    by true = refl
    by false = refl

-- what a tick and a call do, where the window closes
pub ticks_out : (p : Parts) (w : WindowState) (answer : Answer) (after : ServerView) (did : List Act) → is_due p.run.window ≡ true → w ≡ ticked p.run.window
    → Closes (live (in_window p w)) did after → answer ≡ answers.Acts did → Ticks (live p) answer after
ticks_out p w answer after did due same at e = closes_at did due (subst (λ (x : WindowState). Closes (live (in_window p x)) did after) same at) e

pub shuts_out : (p : Parts) (w : WindowState) (answer : Answer) (after : ServerView) (did : List Act) → p.run.window.closed ≡ false → w ≡ record p.run.window { closed = true }
    → Closes (live (in_window p w)) did after → answer ≡ answers.Acts did → Shuts (live p) answer after
shuts_out p w answer after did isnt same at e = closes_now did isnt (subst (λ (x : WindowState). Closes (live (in_window p x)) did after) same at) e

pub isnt_so : (b : Bool) → not b ≡ true → b ≡ false
isnt_so true e = cc
isnt_so false e = refl
