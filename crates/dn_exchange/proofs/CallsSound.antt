-- Closing a window and hearing of a round keep a server sound.
use Rattle.std.proofs.Common.{◌≡◌, ℕ, ◌+◌, ◌∷◌, [], Bool, true, false, List, length, Some, cond, refl, sym, ap, subst, ◌∙◌, arith}
use Rattle.std.specs.Prelude.{slice_index_or}
use Rattle.std.proofs.lemmas.List.Elements.{All-append, All-cons, All-nil}
use Rattle.dn_wire.specs.declared.ids.Round.{Round}
use Rattle.dn_seal.specs.Said.{SaidView, IsSaid, IsUnder}
use Rattle.dn_window.specs.Window.{WindowState, ticked, is_due}
use Rattle.dn_server.specs.declared.act.Act.{Act}
use Rattle.dn_server.specs.declared.answer.Answer.{Answer}
use Rattle.dn_server.specs.declared.run.Stage.TheVariants as stages
use Rattle.dn_server.specs.Keeping.{round_of}
use Rattle.dn_server.specs.Server.{ServerView, ended}
use Rattle.dn_exchange.specs.Closing.{Closes, Ticks, Shuts, with_window}
use Rattle.dn_exchange.specs.Closing.Closes.{lists, meets_other, finds_no_leaf}
use Rattle.dn_exchange.specs.Closing.Ticks.{counts, closes_at}
use Rattle.dn_exchange.specs.Closing.Shuts.{is_shut, closes_now}
use Rattle.dn_exchange.specs.Hearing.{HearsRound, with_kept}
use Rattle.dn_exchange.specs.Hearing.HearsRound.{is_early, is_past, is_idle, repeats, is_second, is_faulty, goes_on}
use Rattle.dn_exchange.specs.Invariant.{IsSound}
use Rattle.dn_exchange.proofs.CloseLemmas.{due_open, ticked_closed, ticked_submitted}
use Rattle.dn_exchange.proofs.CloseSound.{shut_sound, listed_sound}
use Rattle.dn_exchange.proofs.EndSound.{ended_sound}
use Rattle.dn_exchange.proofs.HearSound.{kept_sound}
use Rattle.dn_exchange.proofs.StepSound.{steps_sound}

-- ---- closing

pub closes_sound : (v : ServerView) (did : List Act) (w : ServerView) → IsSound v → v.run.is_running ≡ true → v.run.stage ≡ stages.Collecting → v.run.window.closed ≡ true
    → Closes v did w → IsSound w
closes_sound v did w s runs at shut (lists rest free leaf goes e) = steps_sound _ rest w (listed_sound v s runs at shut free leaf) goes.steps
closes_sound v did w s runs at shut (meets_other other c e f) = subst IsSound (sym f) (ended_sound v s)
closes_sound v did w s runs at shut (finds_no_leaf free leaf bent e f) = subst IsSound (sym f) s

still_open : (w : WindowState) → is_due w ≡ false → (ticked w).closed ≡ false → w.closed ≡ false
still_open w due e = by w.closed refl e
  where
    by : (b : Bool) → w.closed ≡ b → (cond b w (record w { ticks = w.ticks + 1; closed = is_due w })).closed ≡ false → w.closed ≡ false
    by true is h = h
    by false is h = is

-- a tick is counted
counted_sound : (v : ServerView) → IsSound v → is_due v.run.window ≡ false → IsSound (with_window v (ticked v.run.window))
counted_sound v s due = record {
  seated = record { roster = s.seated.roster; number = s.seated.number; seeds = s.seated.seeds };
  member = s.member;
  is_key = s.is_key;
  workers = s.workers;
  slots = s.slots;
  in_group = s.in_group;
  window = ap length (ticked_submitted v.run.window) ∙ s.window;
  claims = s.claims;
  are_claims = s.are_claims;
  claimed = λ i c e. ap (λ (l : List Bool). slice_index_or l i false) (ticked_submitted v.run.window) ∙ s.claimed i c e;
  is_open = λ e. s.is_open (still_open v.run.window due e);
  round = s.round;
  aside = s.aside;
  some_aside = λ b e. s.some_aside b (still_open v.run.window due e);
  running = s.running;
}

pub ticks_sound : (v : ServerView) (a : Answer) (w : ServerView) → IsSound v → Ticks v a w → IsSound w
ticks_sound v a w s (counts due e f) = subst IsSound (sym f) (counted_sound v s due)
ticks_sound v a w s (closes_at did due closes e) =
    let is = s.is_open (due_open v.run.window due) in
    let shut = ticked_closed v.run.window due in
    closes_sound (with_window v (ticked v.run.window)) did w (shut_sound v (ticked v.run.window) s shut (ticked_submitted v.run.window)) is.0 is.1 shut closes

pub shuts_sound : (v : ServerView) (a : Answer) (w : ServerView) → IsSound v → Shuts v a w → IsSound w
shuts_sound v a w s (is_shut h e f) = subst IsSound (sym f) s
shuts_sound v a w s (closes_now did isnt closes e) =
    let is = s.is_open isnt in
    let window : WindowState = record v.run.window { closed = true } in
    closes_sound (with_window v window) did w (shut_sound v window s refl refl) is.0 is.1 refl closes

-- ---- hearing

apart : true ≡ false → ⊥
apart e = cc

-- a statement with a fault is kept, and the run has ended
faulty_sound : (v : ServerView) (y : SaidView) → IsSound v → round_of y.statement ≡ Some v.run.r → IsSound (ended (with_kept v y))
faulty_sound v y s round = record {
  seated = record { roster = s.seated.roster; number = s.seated.number; seeds = s.seated.seeds };
  member = s.member;
  is_key = s.is_key;
  workers = s.workers;
  slots = s.slots;
  in_group = s.in_group;
  window = s.window;
  claims = s.claims;
  are_claims = s.are_claims;
  claimed = s.claimed;
  is_open = λ e. absurd (apart e);
  round = All-append (λ (x : SaidView). round_of x.statement ≡ Some v.run.r) v.run.kept (y ∷ []) s.round
      (All-cons (λ (x : SaidView). round_of x.statement ≡ Some v.run.r) y [] round (All-nil (λ (x : SaidView). round_of x.statement ≡ Some v.run.r)));
  aside = λ b. let few = s.aside b in omega arith;
  some_aside = λ b e. absurd (apart e);
  running = λ e. absurd (apart (sym e));
}

pub hears_sound : (v : ServerView) (j : ℕ) (r : Round) (y : SaidView) (a : Answer) (w : ServerView) → IsSound v → IsSaid y → IsUnder v.seat.roster y → round_of y.statement ≡ Some r
    → HearsRound v j r y a w → IsSound w
hears_sound v j r y a w s said under of (is_early l e f) = subst IsSound (sym f) s
hears_sound v j r y a w s said under of (is_past l e f) = subst IsSound (sym f) s
hears_sound v j r y a w s said under of (is_idle q i e f) = subst IsSound (sym f) s
hears_sound v j r y a w s said under of (repeats q i k e f) = subst IsSound (sym f) s
hears_sound v j r y a w s said under of (is_second other q i k d e f) = subst IsSound (sym f) (ended_sound v s)
hears_sound v j r y a w s said under of (is_faulty fault q i k h e f) = subst IsSound (sym f) (faulty_sound v y s (of ∙ ap Some q))
hears_sound v j r y a w s said under of (goes_on did q i k fine goes e) = steps_sound _ did w (kept_sound v s j y (of ∙ ap Some q) said under fine) goes.steps
