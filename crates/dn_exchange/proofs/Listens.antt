-- A server that hears a statement, or closes its window, keeps true of its openings what it must.
use Rattle.std.proofs.Common.{◌≡◌, true, false, Some, List, refl, sym, ap, subst, ◌∙◌}
use Rattle.dn_seal.specs.Said.{SaidView, IsSaid, IsUnder}
use Rattle.dn_seal.specs.Dealt.{server}
use Rattle.dn_seal.specs.Signer.{CanSign}
use Rattle.dn_record_types.specs.declared.statement.Statement.TheVariants as kinds
use Rattle.dn_server.specs.declared.act.Act.{Act}
use Rattle.dn_server.specs.declared.answer.Answer.{Answer}
use Rattle.dn_server.specs.declared.run.Run.{Run}
use Rattle.dn_server.specs.declared.run.Sum.{Sum}
use Rattle.dn_server.specs.Justified.{Seat}
use Rattle.dn_server.specs.Server.{ServerView, itself}
use Rattle.dn_rounds.specs.Going.{Step}
use Rattle.dn_openings.proofs.StayLemmas.{can_hear}
use Rattle.dn_exchange.specs.Invariant.{IsSound}
use Rattle.dn_exchange.specs.Openings.{IsOpen}
use Rattle.dn_exchange.specs.Listening.{Hears, not_by_server, of_round, of_evidence}
use Rattle.dn_exchange.proofs.EvidenceSound.{hears_grown, evidence_sound}
use Rattle.dn_exchange.proofs.HearSound.{kept_sound}
use Rattle.dn_exchange.proofs.StepSound.{step_sound}
use Rattle.dn_exchange.proofs.CallsSound.{hears_sound}
use Rattle.dn_window.specs.Window.{WindowState, ticked}
use Rattle.dn_exchange.specs.Closing.{Closes, Ticks, Shuts, with_window}
use Rattle.dn_exchange.specs.Closing.Ticks.{counts, closes_at}
use Rattle.dn_exchange.specs.Closing.Shuts.{is_shut, closes_now}
use Rattle.dn_exchange.proofs.CloseLemmas.{due_open, ticked_closed, ticked_submitted}
use Rattle.dn_exchange.proofs.CloseSound.{shut_sound, listed_sound}
use Rattle.dn_exchange.proofs.CallsOpen.{closes_open, hears_open, in_run}

pub one_step : (v : ServerView) (did : List Act) (w : ServerView) → IsSound v → v.run.is_running ≡ true → Step v did w → IsSound w
one_step v did w sound runs step = step_sound v sound runs did w step

pub listens_sound : (v : ServerView) (y : SaidView) (a : Answer) (w : ServerView) → IsSound v → IsSaid y → IsUnder v.seat.roster y → Hears v y a w → IsSound w
listens_sound v y a w s said under (not_by_server r round other e same) = subst IsSound (sym same) s
listens_sound v y a w s said under (of_round j r by round h) = hears_sound v j r y a w s said under round h
listens_sound v y a w s said under (of_evidence round h) = evidence_sound v y a w h s

pub listens_open : (v : ServerView) (y : SaidView) (a : Answer) (w : ServerView) → IsSound v → IsSaid y → IsUnder v.seat.roster y → IsOpen v → Hears v y a w → IsOpen w
listens_open v y a w s said under is (not_by_server r round other e same) = subst IsOpen (sym same) is
listens_open v y a w s said under is (of_round j r by round h) =
    hears_open one_step v j r y a w h (λ fine at. kept_sound v s j y (round ∙ ap Some at) said under fine) is
listens_open v y a w s said under is (of_evidence round h) =
    let grown = (hears_grown v y a w h).1 in
    let seat : w.seat ≡ v.seat = ap (λ (x : ServerView). x.seat) grown.is in
    let run : w.run ≡ v.run = ap (λ (x : ServerView). x.run) grown.is in
    record {
      can = can_hear v y a w h under is.can;
      sum = subst (λ (z : Seat). (sum : Sum) → w.run.sum ≡ Some sum → CanSign (server z.number) (kinds.Shown w.run.r sum.s sum.own)) (sym seat)
          (subst (λ (run : Run). (sum : Sum) → run.sum ≡ Some sum → CanSign (itself v) (kinds.Shown run.r sum.s sum.own)) (sym run) is.sum);
    }

window_open : (v : ServerView) (w : WindowState) → IsOpen v → IsOpen (with_window v w)
window_open v w is = in_run v (with_window v w).run v.signed v.aside refl refl is

shut_open : (v : ServerView) (w : WindowState) (did : List Act) (after : ServerView) → IsSound v → v.run.window.closed ≡ false → w.closed ≡ true → w.submitted ≡ v.run.window.submitted
    → Closes (with_window v w) did after → IsOpen v → IsOpen after
shut_open v w did after s isnt shut same closes is =
    let on = s.is_open isnt in
    closes_open one_step (with_window v w) did after closes (listed_sound (with_window v w) (shut_sound v w s shut same) on.0 on.1 shut) (window_open v w is)

pub ticks_open : (v : ServerView) (a : Answer) (w : ServerView) → IsSound v → IsOpen v → Ticks v a w → IsOpen w
ticks_open v a w s is (counts due e same) = subst IsOpen (sym same) (window_open v (ticked v.run.window) is)
ticks_open v a w s is (closes_at did due closes e) =
    shut_open v (ticked v.run.window) did w s (due_open v.run.window due) (ticked_closed v.run.window due) (ticked_submitted v.run.window) closes is

pub shuts_open : (v : ServerView) (a : Answer) (w : ServerView) → IsSound v → IsOpen v → Shuts v a w → IsOpen w
shuts_open v a w s is (is_shut h e same) = subst IsOpen (sym same) is
shuts_open v a w s is (closes_now did isnt closes e) =
    let window : WindowState = record v.run.window { closed = true } in
    shut_open v window did w s isnt refl refl closes is
