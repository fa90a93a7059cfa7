-- What a server signs fits into an envelope, and it has committed itself to its sum: both stay in its calls.
use Rattle.std.proofs.Common.{◌≡◌, ℕ, ◌^◌, ◌<◌, Bool, true, false, List, Some, refl, sym, ap, subst, ◌∙◌, arith}
use Rattle.dn_wire.specs.declared.ids.Round.{Round}
use Rattle.dn_record_types.specs.declared.statement.Statement.{Statement}
use Rattle.dn_record_types.specs.declared.statement.Statement.TheVariants as kinds
use Rattle.dn_record_types.specs.Records.{IsStatement}
use Rattle.dn_roster.specs.declared.group.GroupSpec.{GroupSpec}
use Rattle.dn_roster.specs.Roster.{RosterView}
use Rattle.dn_seal.specs.Said.{SaidView, IsSaid, IsUnder}
use Rattle.dn_seal.specs.Signer.{CanSign}
use Rattle.dn_cert.specs.Certificate.{CertificateView}
use Rattle.dn_window.specs.Window.{WindowState, ticked}
use Rattle.dn_server.specs.declared.act.Act.{Act}
use Rattle.dn_server.specs.declared.answer.Answer.{Answer}
use Rattle.dn_server.specs.declared.run.Stage.TheVariants as stages
use Rattle.dn_server.specs.Keeping.{round_of}
use Rattle.dn_server.specs.Server.{ServerView, itself, ended, with_signed}
use Rattle.dn_rounds.specs.Going.{says}
use Rattle.dn_exchange.specs.Closing.{Closes, Ticks, Shuts, inventory_of, with_window}
use Rattle.dn_exchange.specs.Closing.Closes.{lists, meets_other, finds_no_leaf}
use Rattle.dn_exchange.specs.Closing.Ticks.{counts, closes_at}
use Rattle.dn_exchange.specs.Closing.Shuts.{is_shut, closes_now}
use Rattle.dn_exchange.specs.Ending.{Abandons, HoldsOn, with_certificate}
use Rattle.dn_exchange.specs.Ending.Abandons.{is_idle, abandons}
use Rattle.dn_exchange.specs.Ending.HoldsOn.{is_known, has_no_prev, is_off_floor, is_of_other_length, is_held, ends_run}
use Rattle.dn_exchange.specs.Fitting.{SignsWhatFits}
use Rattle.dn_exchange.specs.Hearing.{HearsRound, with_kept}
use Rattle.dn_exchange.specs.Hearing.HearsRound.{is_early, is_past, is_idle as idle_round, repeats as repeats_round, is_second, is_faulty, goes_on}
use Rattle.dn_exchange.specs.Honest.{IsHonest}
use Rattle.dn_exchange.specs.Invariant.{IsSound}
use Rattle.dn_exchange.specs.Listening.{Hears, not_by_server, of_round, of_evidence}
use Rattle.dn_exchange.specs.Making.{first_server}
use Rattle.dn_exchange.specs.Opening.{Opens}
use Rattle.dn_exchange.specs.Opening.Opens.{is_old, is_running, is_spent, opens}
use Rattle.dn_exchange.specs.Openings.{IsOpen}
use Rattle.dn_exchange.specs.Submitting.{Submitted, IsSubmitted, Submits, TakesSubmission, receipt_of, with_claim}
use Rattle.dn_exchange.specs.Submitting.Submits.{is_refused, repeats as repeats_claim, finds_no_leaf as no_leaf, is_claimed}
use Rattle.dn_exchange.proofs.CloseLemmas.{due_open, ticked_closed, ticked_submitted}
use Rattle.dn_exchange.proofs.CloseSound.{shut_sound, listed_sound}
use Rattle.dn_exchange.proofs.EvidenceSound.{hears_grown}
use Rattle.dn_exchange.proofs.FitStays.{none_more, one_signed, ended_fits, steps_fits, receipt_fits, grown_fits}
use Rattle.dn_exchange.proofs.HearSound.{kept_sound}
use Rattle.dn_exchange.proofs.ListSound.{inventory_fits}

-- a server that has done nothing
pub first_fits : (group : GroupSpec) (roster : RosterView) (j workers : ℕ) → SignsWhatFits (first_server group roster j workers)
first_fits group roster j workers = record { fits = λ s c. absurd (omega (arith, c.1)); committed = λ x e. cc }

pub opens_fits : (v : ServerView) (r : Round) (a : Answer) (w : ServerView) → Opens v r a w → SignsWhatFits v → SignsWhatFits w
opens_fits v r a w (is_old o e same) h = subst SignsWhatFits (sym same) h
opens_fits v r a w (is_running n o e same) h = subst SignsWhatFits (sym same) h
opens_fits v r a w (is_spent n o l e same) h = subst SignsWhatFits (sym same) h
opens_fits v r a w (opens prev layout n o l latest after e same) h = subst SignsWhatFits (sym same) (record { fits = h.fits; committed = λ x never. cc })

pub takes_fits : (v : ServerView) (said : SaidView) (cipher : List Bool) (a : Answer) (w : ServerView) → IsSound v → IsSaid said → TakesSubmission v said cipher a w → SignsWhatFits v
    → SignsWhatFits w
takes_fits v said cipher a w sound is took h = by took.0 took.1 took.2
  where
    by : (s : Submitted) → IsSubmitted said cipher s → Submits v s a w → SignsWhatFits w
    by s so (is_refused refused same) = subst SignsWhatFits (sym same) h
    by s so (repeats_claim fits has e same) = subst SignsWhatFits (sym same) h
    by s so (no_leaf fits has few e same) = subst SignsWhatFits (sym same) h
    by s so (is_claimed fits has few e same) =
        let servers = sound.seated.roster.servers in
        let low : v.seat.number < 2 ^ 32 = omega (arith, sound.seated.number, servers.1) in
        let statement : IsStatement (kinds.Submission s.r s.prev s.client s.digest) = subst IsStatement so.statement is.fits.1.1 in
        let then : ServerView = record (with_signed v (receipt_of v s)) { run = with_claim v.run s } in
        subst SignsWhatFits (sym same) (one_signed v then refl refl (receipt_of v s) refl refl (receipt_fits v s low statement) h)

pub abandons_fits : (v : ServerView) (a : Answer) (w : ServerView) → Abandons v a w → SignsWhatFits v → SignsWhatFits w
abandons_fits v a w (is_idle i e same) h = subst SignsWhatFits (sym same) h
abandons_fits v a w (abandons i e same) h = subst SignsWhatFits (sym same) (ended_fits v h)

with_fits : (v : ServerView) (c : CertificateView) → SignsWhatFits v → SignsWhatFits (with_certificate v c)
with_fits v c h = none_more v (with_certificate v c) refl refl refl refl h

pub holds_fits : (v : ServerView) (c : CertificateView) (a : Answer) (w : ServerView) → HoldsOn v c a w → SignsWhatFits v → SignsWhatFits w
holds_fits v c a w (is_known r why e same) h = subst SignsWhatFits (sym same) h
holds_fits v c a w (has_no_prev prev why e same) h = subst SignsWhatFits (sym same) h
holds_fits v c a w (is_off_floor count last why e same) h = subst SignsWhatFits (sym same) h
holds_fits v c a w (is_of_other_length have need why e same) h = subst SignsWhatFits (sym same) h
holds_fits v c a w (is_held follows other e same) h = subst SignsWhatFits (sym same) (with_fits v c h)
holds_fits v c a w (ends_run follows other e same) h = subst SignsWhatFits (sym same) (ended_fits (with_certificate v c) (with_fits v c h))

-- ---- closing

in_window : (v : ServerView) (w : WindowState) → SignsWhatFits v → SignsWhatFits (with_window v w)
in_window v w h = none_more v (with_window v w) refl refl refl refl h

shut_fits : (v : ServerView) (w : WindowState) (did : List Act) (after : ServerView) → IsSound v → v.run.window.closed ≡ false → w.closed ≡ true → w.submitted ≡ v.run.window.submitted
    → Closes (with_window v w) did after → SignsWhatFits v → SignsWhatFits after
shut_fits v w did after s isnt shut same (lists rest free leaf goes e) h =
    let on = s.is_open isnt in
    let here = shut_sound v w s shut same in
    let course = (s.running on.0).course in
    let due : Statement = kinds.Inventory (inventory_of v.run) in
    let can : CanSign (itself v) due = inventory_fits (with_window v w) here course.small (omega (arith, course.before, course.small)) in
    let mid : ServerView = says (with_window v w) due stages.Listed v.run.sum in
    steps_fits mid rest after goes.steps (listed_sound (with_window v w) here on.0 on.1 shut free leaf)
    (one_signed (with_window v w) mid refl refl due refl refl can (in_window v w h))
shut_fits v w did after s isnt shut same (meets_other other c e f) h = subst SignsWhatFits (sym f) (ended_fits (with_window v w) (in_window v w h))
shut_fits v w did after s isnt shut same (finds_no_leaf free leaf bent e f) h = subst SignsWhatFits (sym f) (in_window v w h)

pub ticks_fits : (v : ServerView) (a : Answer) (w : ServerView) → IsSound v → Ticks v a w → SignsWhatFits v → SignsWhatFits w
ticks_fits v a w s (counts due e same) h = subst SignsWhatFits (sym same) (in_window v (ticked v.run.window) h)
ticks_fits v a w s (closes_at did due closes e) h =
    shut_fits v (ticked v.run.window) did w s (due_open v.run.window due) (ticked_closed v.run.window due) (ticked_submitted v.run.window) closes h

pub shuts_fits : (v : ServerView) (a : Answer) (w : ServerView) → IsSound v → Shuts v a w → SignsWhatFits v → SignsWhatFits w
shuts_fits v a w s (is_shut shut e same) h = subst SignsWhatFits (sym same) h
shuts_fits v a w s (closes_now did isnt closes e) h =
    let window : WindowState = record v.run.window { closed = true } in
    shut_fits v window did w s isnt refl refl closes h

-- ---- hearing

kept_fits : (v : ServerView) (y : SaidView) → SignsWhatFits v → SignsWhatFits (with_kept v y)
kept_fits v y h = none_more v (with_kept v y) refl refl refl refl h

hears_round_fits : (v : ServerView) (j : ℕ) (r : Round) (y : SaidView) (a : Answer) (w : ServerView) → IsSound v → IsSaid y → IsUnder v.seat.roster y
    → round_of y.statement ≡ Some r → HearsRound v j r y a w → SignsWhatFits v → SignsWhatFits w
hears_round_fits v j r y a w s said under of (is_early o e same) h = subst SignsWhatFits (sym same) h
hears_round_fits v j r y a w s said under of (is_past o e same) h = subst SignsWhatFits (sym same) h
hears_round_fits v j r y a w s said under of (idle_round o i e same) h = subst SignsWhatFits (sym same) h
hears_round_fits v j r y a w s said under of (repeats_round o i k e same) h = subst SignsWhatFits (sym same) h
hears_round_fits v j r y a w s said under of (is_second other o i k n e same) h = subst SignsWhatFits (sym same) (ended_fits v h)
hears_round_fits v j r y a w s said under of (is_faulty fault o i k has e same) h = subst SignsWhatFits (sym same) (ended_fits (with_kept v y) (kept_fits v y h))
hears_round_fits v j r y a w s said under of (goes_on did o i k fine goes e) h =
    steps_fits (with_kept v y) did w goes.steps (kept_sound v s j y (of ∙ ap Some o) said under fine) (kept_fits v y h)

pub hears_fits : (v : ServerView) (y : SaidView) (a : Answer) (w : ServerView) → IsSound v → IsSaid y → IsUnder v.seat.roster y → Hears v y a w → IsSound w → IsOpen w → IsHonest w
    → SignsWhatFits v → SignsWhatFits w
hears_fits v y a w s said under (not_by_server r round other e same) sound open_so honest h = subst SignsWhatFits (sym same) h
hears_fits v y a w s said under (of_round j r by round hears) sound open_so honest h = hears_round_fits v j r y a w s said under round hears h
hears_fits v y a w s said under (of_evidence round hears) sound open_so honest h =
    let grown = hears_grown v y a w hears in grown_fits v w grown.0 grown.1 sound open_so honest h
