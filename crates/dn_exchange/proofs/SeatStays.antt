-- A server keeps its place in the group and its key, and isn't bent by the rules, whatever it is asked.
use Rattle.std.proofs.Common.{◌≡◌, ℕ, Bool, List, ap, ◌∙◌}
use Rattle.dn_wire.specs.declared.ids.Round.{Round}
use Rattle.dn_lms.specs.Key.{Key}
use Rattle.dn_seal.specs.Said.{SaidView}
use Rattle.dn_cert.specs.Certificate.{CertificateView}
use Rattle.dn_server.specs.declared.act.Act.{Act}
use Rattle.dn_server.specs.declared.answer.Answer.{Answer}
use Rattle.dn_server.specs.Justified.{Seat}
use Rattle.dn_server.specs.Server.{ServerView}
use Rattle.dn_rounds.specs.Going.{Step, Steps}
use Rattle.dn_rounds.specs.Going.Step.{commits, reveals, signs, signs_thin, certifies, commit_conflicts, reveal_conflicts, body_opposed, thin_opposed}
use Rattle.dn_rounds.specs.Going.Steps.{no_step, one_more}
use Rattle.dn_exchange.specs.Opening.{Opens}
use Rattle.dn_exchange.specs.Opening.Opens.{is_old, is_running, is_spent, opens}
use Rattle.dn_exchange.specs.Submitting.{Submitted, Submits, TakesSubmission}
use Rattle.dn_exchange.specs.Submitting.Submits.{is_refused, repeats as repeats_claim, finds_no_leaf as no_leaf, is_claimed}
use Rattle.dn_exchange.specs.Closing.{Closes, Ticks, Shuts}
use Rattle.dn_exchange.specs.Closing.Closes.{lists, meets_other, finds_no_leaf}
use Rattle.dn_exchange.specs.Closing.Ticks.{counts, closes_at}
use Rattle.dn_exchange.specs.Closing.Shuts.{is_shut, closes_now}
use Rattle.dn_exchange.specs.Ending.{Abandons, HoldsOn}
use Rattle.dn_exchange.specs.Ending.Abandons.{is_idle, abandons}
use Rattle.dn_exchange.specs.Ending.HoldsOn.{is_known, has_no_prev, is_off_floor, is_of_other_length, is_held, ends_run}
use Rattle.dn_exchange.specs.Hearing.{HearsRound}
use Rattle.dn_exchange.specs.Hearing.HearsRound.{is_early, is_past, is_idle as idle_round, repeats as repeats_round, is_second, is_faulty, goes_on}
use Rattle.dn_exchange.specs.Listening.{Hears, not_by_server, of_round, of_evidence}
use Rattle.dn_exchange.proofs.EvidenceSound.{hears_grown}

-- what of a server its calls by the rules leave as it is: its place in the group, its key, how many workers its sums have, and whether it is bent
pub record Fixed : Type 0 where
  pub seat : Seat
  pub key : Key
  pub workers : ℕ
  pub bent : Bool

abbrev pub fixed_of : ServerView → Fixed
fixed_of v = record { seat = v.seat; key = v.key; workers = v.workers; bent = v.bent }

step_fixed : (v : ServerView) (did : List Act) (w : ServerView) → Step v did w → fixed_of w ≡ fixed_of v
step_fixed v did w (commits sum due free leaf d e) = ap fixed_of e
step_fixed v did w (reveals sum due free leaf d e) = ap fixed_of e
step_fixed v did w (signs sum b due free leaf d e) = ap fixed_of e
step_fixed v did w (signs_thin b due free leaf d e) = ap fixed_of e
step_fixed v did w (certifies b c agreed is follows d e) = ap fixed_of e
step_fixed v did w (commit_conflicts sum other due free d e) = ap fixed_of e
step_fixed v did w (reveal_conflicts sum other due free d e) = ap fixed_of e
step_fixed v did w (body_opposed sum b j other due free d e) = ap fixed_of e
step_fixed v did w (thin_opposed b j other due free d e) = ap fixed_of e

steps_fixed : (v : ServerView) (did : List Act) (w : ServerView) → Steps v did w → fixed_of w ≡ fixed_of v
steps_fixed v did w (no_step d e) = ap fixed_of e
steps_fixed v did w (one_more first rest between on step steps d) = steps_fixed between rest w steps ∙ step_fixed v first between step

closes_fixed : (v : ServerView) (did : List Act) (w : ServerView) → Closes v did w → fixed_of w ≡ fixed_of v
closes_fixed v did w (lists rest free leaf goes d) = steps_fixed _ rest w goes.steps
closes_fixed v did w (meets_other other conflicts d e) = ap fixed_of e
closes_fixed v did w (finds_no_leaf free leaf bent d e) = ap fixed_of e

pub opens_fixed : (v : ServerView) (r : Round) (a : Answer) (w : ServerView) → Opens v r a w → fixed_of w ≡ fixed_of v
opens_fixed v r a w (is_old o e same) = ap fixed_of same
opens_fixed v r a w (is_running n o e same) = ap fixed_of same
opens_fixed v r a w (is_spent n o l e same) = ap fixed_of same
opens_fixed v r a w (opens prev layout n o l latest after e same) = ap fixed_of same

pub submits_fixed : (v : ServerView) (said : SaidView) (cipher : List Bool) (a : Answer) (w : ServerView) → TakesSubmission v said cipher a w → fixed_of w ≡ fixed_of v
submits_fixed v said cipher a w took = by took.0 took.2
  where
    by : (s : Submitted) → Submits v s a w → fixed_of w ≡ fixed_of v
    by s (is_refused refused same) = ap fixed_of same
    by s (repeats_claim fits has e same) = ap fixed_of same
    by s (no_leaf fits has few e same) = ap fixed_of same
    by s (is_claimed fits has few e same) = ap fixed_of same

pub ticks_fixed : (v : ServerView) (a : Answer) (w : ServerView) → Ticks v a w → fixed_of w ≡ fixed_of v
ticks_fixed v a w (counts due e same) = ap fixed_of same
ticks_fixed v a w (closes_at did due closes e) = closes_fixed _ did w closes

pub shuts_fixed : (v : ServerView) (a : Answer) (w : ServerView) → Shuts v a w → fixed_of w ≡ fixed_of v
shuts_fixed v a w (is_shut shut e same) = ap fixed_of same
shuts_fixed v a w (closes_now did shut closes e) = closes_fixed _ did w closes

pub abandons_fixed : (v : ServerView) (a : Answer) (w : ServerView) → Abandons v a w → fixed_of w ≡ fixed_of v
abandons_fixed v a w (is_idle idle e same) = ap fixed_of same
abandons_fixed v a w (abandons on e same) = ap fixed_of same

pub holds_fixed : (v : ServerView) (c : CertificateView) (a : Answer) (w : ServerView) → HoldsOn v c a w → fixed_of w ≡ fixed_of v
holds_fixed v c a w (is_known r refused e same) = ap fixed_of same
holds_fixed v c a w (has_no_prev prev refused e same) = ap fixed_of same
holds_fixed v c a w (is_off_floor count last refused e same) = ap fixed_of same
holds_fixed v c a w (is_of_other_length have need refused e same) = ap fixed_of same
holds_fixed v c a w (is_held follows other e same) = ap fixed_of same
holds_fixed v c a w (ends_run follows runs e same) = ap fixed_of same

hears_round_fixed : (v : ServerView) (j : ℕ) (r : Round) (said : SaidView) (a : Answer) (w : ServerView) → HearsRound v j r said a w → fixed_of w ≡ fixed_of v
hears_round_fixed v j r said a w (is_early low e same) = ap fixed_of same
hears_round_fixed v j r said a w (is_past low e same) = ap fixed_of same
hears_round_fixed v j r said a w (idle_round same_round idle e same) = ap fixed_of same
hears_round_fixed v j r said a w (repeats_round same_round on kept e same) = ap fixed_of same
hears_round_fixed v j r said a w (is_second other same_round on kept differs e same) = ap fixed_of same
hears_round_fixed v j r said a w (is_faulty fault same_round on kept has e same) = ap fixed_of same
hears_round_fixed v j r said a w (goes_on did same_round on kept fine goes e) = steps_fixed _ did w goes.steps

pub hears_fixed : (v : ServerView) (said : SaidView) (a : Answer) (w : ServerView) → Hears v said a w → fixed_of w ≡ fixed_of v
hears_fixed v said a w (not_by_server r round other e same) = ap fixed_of same
hears_fixed v said a w (of_round j r by round hears) = hears_round_fixed v j r said a w hears
hears_fixed v said a w (of_evidence round hears) = ap fixed_of (hears_grown v said a w hears).1.is

-- ---- the place in the group, and whether it is bent

pub opens_seat : (v : ServerView) (r : Round) (a : Answer) (w : ServerView) → Opens v r a w → w.seat ≡ v.seat
opens_seat v r a w did = ap (λ (x : Fixed). x.seat) (opens_fixed v r a w did)

pub opens_bent : (v : ServerView) (r : Round) (a : Answer) (w : ServerView) → Opens v r a w → w.bent ≡ v.bent
opens_bent v r a w did = ap (λ (x : Fixed). x.bent) (opens_fixed v r a w did)

pub submits_seat : (v : ServerView) (said : SaidView) (cipher : List Bool) (a : Answer) (w : ServerView) → TakesSubmission v said cipher a w → w.seat ≡ v.seat
submits_seat v said cipher a w did = ap (λ (x : Fixed). x.seat) (submits_fixed v said cipher a w did)

pub submits_bent : (v : ServerView) (said : SaidView) (cipher : List Bool) (a : Answer) (w : ServerView) → TakesSubmission v said cipher a w → w.bent ≡ v.bent
submits_bent v said cipher a w did = ap (λ (x : Fixed). x.bent) (submits_fixed v said cipher a w did)

pub ticks_seat : (v : ServerView) (a : Answer) (w : ServerView) → Ticks v a w → w.seat ≡ v.seat
ticks_seat v a w did = ap (λ (x : Fixed). x.seat) (ticks_fixed v a w did)

pub ticks_bent : (v : ServerView) (a : Answer) (w : ServerView) → Ticks v a w → w.bent ≡ v.bent
ticks_bent v a w did = ap (λ (x : Fixed). x.bent) (ticks_fixed v a w did)

pub shuts_seat : (v : ServerView) (a : Answer) (w : ServerView) → Shuts v a w → w.seat ≡ v.seat
shuts_seat v a w did = ap (λ (x : Fixed). x.seat) (shuts_fixed v a w did)

pub shuts_bent : (v : ServerView) (a : Answer) (w : ServerView) → Shuts v a w → w.bent ≡ v.bent
shuts_bent v a w did = ap (λ (x : Fixed). x.bent) (shuts_fixed v a w did)

pub hears_seat : (v : ServerView) (said : SaidView) (a : Answer) (w : ServerView) → Hears v said a w → w.seat ≡ v.seat
hears_seat v said a w did = ap (λ (x : Fixed). x.seat) (hears_fixed v said a w did)

pub hears_bent : (v : ServerView) (said : SaidView) (a : Answer) (w : ServerView) → Hears v said a w → w.bent ≡ v.bent
hears_bent v said a w did = ap (λ (x : Fixed). x.bent) (hears_fixed v said a w did)

pub holds_seat : (v : ServerView) (c : CertificateView) (a : Answer) (w : ServerView) → HoldsOn v c a w → w.seat ≡ v.seat
holds_seat v c a w did = ap (λ (x : Fixed). x.seat) (holds_fixed v c a w did)

pub holds_bent : (v : ServerView) (c : CertificateView) (a : Answer) (w : ServerView) → HoldsOn v c a w → w.bent ≡ v.bent
holds_bent v c a w did = ap (λ (x : Fixed). x.bent) (holds_fixed v c a w did)

pub abandons_seat : (v : ServerView) (a : Answer) (w : ServerView) → Abandons v a w → w.seat ≡ v.seat
abandons_seat v a w did = ap (λ (x : Fixed). x.seat) (abandons_fixed v a w did)

pub abandons_bent : (v : ServerView) (a : Answer) (w : ServerView) → Abandons v a w → w.bent ≡ v.bent
abandons_bent v a w did = ap (λ (x : Fixed). x.bent) (abandons_fixed v a w did)

pub steps_bent : (v : ServerView) (did : List Act) (w : ServerView) → Steps v did w → w.bent ≡ v.bent
steps_bent v did w steps = ap (λ (x : Fixed). x.bent) (steps_fixed v did w steps)
