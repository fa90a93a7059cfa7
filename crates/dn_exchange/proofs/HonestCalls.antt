-- A server that isn't bent stays honest in its calls, and goes on as far as it can.
use Rattle.std.proofs.Common.{◌≡◌, ℕ, ◌+◌, ◌≤◌, Bool, true, false, List, [], ◌∷◌, ◌++◌, length, Some, None, cond, refl, sym, ap, subst, ◌∙◌, inl, inr}
use Rattle.dn_wire.specs.declared.ids.Round.{Round}
use Rattle.dn_wire.specs.declared.ids.SignerId.{SignerId}
use Rattle.dn_wire.specs.declared.ids.SignerId.TheVariants as signers
use Rattle.dn_record_types.specs.declared.body.Listed.{Listed}
use Rattle.dn_record_types.specs.declared.statement.Statement.TheVariants as kinds
use Rattle.dn_records.specs.Records.{kind_byte}
use Rattle.dn_seal.specs.Dealt.{server}
use Rattle.dn_seal.specs.Said.{SaidView, IsSaid, IsUnder}
use Rattle.dn_cert.specs.Certificate.{CertificateView, IsCertificate}
use Rattle.dn_cert.specs.Chain.{CanFollow}
use Rattle.dn_cert.specs.Floor.{is_due_thin}
use Rattle.dn_window.specs.Window.{WindowState, ticked, is_due}
use Rattle.dn_server.specs.declared.act.Act.{Act}
use Rattle.dn_server.specs.declared.answer.Answer.{Answer}
use Rattle.dn_server.specs.declared.run.Stage.{Stage}
use Rattle.dn_server.specs.declared.run.Stage.TheVariants as stages
use Rattle.dn_server.specs.Justified.{digest_by}
use Rattle.dn_server.specs.Keeping.{round_of}
use Rattle.dn_server.specs.Server.{ServerView, ended, statement_of, kept_of, course_of}
use Rattle.dn_rounds.specs.Going.{IsListing, GoesOn}
use Rattle.dn_exchange.specs.Closing.{Closes, Ticks, Shuts, with_window}
use Rattle.dn_exchange.specs.Closing.Closes.{lists, meets_other, finds_no_leaf}
use Rattle.dn_exchange.specs.Closing.Ticks.{counts, closes_at}
use Rattle.dn_exchange.specs.Closing.Shuts.{is_shut, closes_now}
use Rattle.dn_exchange.specs.Ending.{Abandons, HoldsOn, with_certificate}
use Rattle.dn_exchange.specs.Ending.Abandons.{is_idle, abandons}
use Rattle.dn_exchange.specs.Ending.HoldsOn.{is_known, has_no_prev, is_off_floor, is_of_other_length, is_held, ends_run}
use Rattle.dn_exchange.specs.Hearing.{HearsRound, IsFaultless, with_kept}
use Rattle.dn_exchange.specs.Hearing.HearsRound.{is_early, is_past, is_idle as idle_round, repeats as repeats_round, is_second, is_faulty, goes_on}
use Rattle.dn_exchange.specs.Honest.{IsHonest, IsSaidAt, AreFitting, Wants, HasGoneOn, IsTrue}
use Rattle.dn_exchange.specs.Invariant.{IsSound}
use Rattle.dn_exchange.proofs.CloseLemmas.{due_open, ticked_closed, ticked_submitted}
use Rattle.dn_exchange.proofs.CloseSound.{shut_sound, listed_sound}
use Rattle.dn_exchange.proofs.Grows.{same_chain}
use Rattle.dn_exchange.proofs.HearSound.{kept_sound}
use Rattle.dn_exchange.proofs.HoldSound.{longer}
use Rattle.dn_exchange.proofs.HonestGoing.{ended_on, ended_honest, steps_honest, window_honest, listed_honest}
use Rattle.dn_exchange.proofs.HonestMoves.{honest_on, keeps_same, keeps_push, round_above}
use Rattle.dn_exchange.proofs.HonestWaits.{gone_on}
use Rattle.dn_exchange.proofs.KeptSound.{statement_comes}
use Rattle.dn_exchange.proofs.LongerChain.{holds_more}
use Rattle.dn_exchange.proofs.OwnKept.{OneKept, one_push}
use Rattle.dn_exchange.proofs.SeatStays.{steps_bent}
use Rattle.dn_exchange.proofs.StepSound.{steps_sound}

never : false ≡ true → ⊥
never e = cc

ended_true : (v : ServerView) → IsHonest v → IsTrue (ended v)
ended_true v h = record { honest = ended_honest v h; gone = λ runs. absurd (never runs) }

-- ---- going on

went_true : (v : ServerView) (did : List Act) (w : ServerView) → IsHonest v → IsSound v → v.bent ≡ false → GoesOn v did w → IsTrue w
went_true v did w h s straight goes =
    let honest = steps_honest v did w h s goes.steps in
    record { honest = honest; gone = gone_on w honest (steps_sound v did w s goes.steps) (steps_bent v did w goes.steps ∙ straight) goes.stands }

-- ---- closing

closes_true : (v : ServerView) (w : WindowState) (did : List Act) (after : ServerView) → IsHonest v → IsSound v → v.bent ≡ false → v.run.window.closed ≡ false → w.closed ≡ true
    → w.submitted ≡ v.run.window.submitted → Closes (with_window v w) did after → IsTrue after
closes_true v w did after h s straight isnt shut same (lists rest free leaf goes e) =
    let on = s.is_open isnt in
    went_true _ rest after (listed_honest v w h s on.0 on.1 free) (listed_sound (with_window v w) (shut_sound v w s shut same) on.0 on.1 shut free leaf) straight goes
closes_true v w did after h s straight isnt shut same (meets_other other c e f) =
    subst IsTrue (sym f)
    (record { honest = window_honest (ended v) (record w { closed = true }) (ended_honest v h) (λ runs. absurd (never runs)); gone = λ runs. absurd (never runs) })
closes_true v w did after h s straight isnt shut same (finds_no_leaf free leaf bent e f) = absurd (let clash = sym bent ∙ straight in cc)

still_open : (w : WindowState) → is_due w ≡ false → w.closed ≡ false → (ticked w).closed ≡ false
still_open w due e = by w.closed e
  where
    by : (b : Bool) → b ≡ false → (cond b w (record w { ticks = w.ticks + 1; closed = is_due w })).closed ≡ false
    by true h = absurd (let clash = h in cc)
    by false h = due

window_gone : (v : ServerView) (w : WindowState) → HasGoneOn v → HasGoneOn (with_window v w)
window_gone v w gone = λ runs. by v.run.stage (gone runs)
  where
    by : (stage : Stage) → Wants stage v → Wants stage (with_window v w)
    by stages.Collecting x = tt
    by stages.Listed x = λ thin listed l. x thin listed (record { inventories = l.inventories; kept = l.kept; trim = l.trim; floor = l.floor })
    by stages.Committed x = x
    by stages.Revealed x = x
    by stages.Signed x = x

pub ticks_true : (v : ServerView) (a : Answer) (w : ServerView) → IsSound v → v.bent ≡ false → IsTrue v → Ticks v a w → IsTrue w
ticks_true v a w s straight h (counts due e f) =
    subst IsTrue (sym f)
    (record {
      honest = window_honest v (ticked v.run.window) h.honest (λ runs at. still_open v.run.window due (h.honest.listed runs at));
      gone = window_gone v (ticked v.run.window) h.gone;
    })
ticks_true v a w s straight h (closes_at did due closes e) =
    closes_true v (ticked v.run.window) did w h.honest s straight (due_open v.run.window due) (ticked_closed v.run.window due) (ticked_submitted v.run.window) closes

pub shuts_true : (v : ServerView) (a : Answer) (w : ServerView) → IsSound v → v.bent ≡ false → IsTrue v → Shuts v a w → IsTrue w
shuts_true v a w s straight h (is_shut shut e f) = subst IsTrue (sym f) h
shuts_true v a w s straight h (closes_now did isnt closes e) = closes_true v (record v.run.window { closed = true }) did w h.honest s straight isnt refl refl closes

-- ---- ending

pub abandons_true : (v : ServerView) (a : Answer) (w : ServerView) → IsTrue v → Abandons v a w → IsTrue w
abandons_true v a w h (is_idle i e f) = subst IsTrue (sym f) h
abandons_true v a w h (abandons on e f) = subst IsTrue (sym f) (ended_true v h.honest)

module _ (v : ServerView) (c : CertificateView) (h : IsTrue v) (is : IsCertificate c) (can : CanFollow v.chain c.body) where
  held_gone : HasGoneOn (with_certificate v c)
  held_gone = λ runs. by v.run.stage refl (h.gone runs)
    where
      on : (thin : Bool) (listed : List Listed) → 1 ≤ v.run.r.0 → IsListing (with_certificate v c) thin listed → IsListing v thin listed
      on thin listed above l =
          let course = h.honest.course above in
          record {
            inventories = l.inventories;
            kept = l.kept;
            trim = l.trim;
            floor = ap (is_due_thin v.seat.roster.version (length listed)) (sym ((holds_more v.chain c.body h.honest.chain (c, is, refl) can).counts v.run.prev.0 course.0 course.1)) ∙ l.floor;
          }

      by : (stage : Stage) → v.run.stage ≡ stage → Wants stage v → Wants stage (with_certificate v c)
      by stages.Collecting e x = tt
      by stages.Listed e x = λ thin listed l. x thin listed (on thin listed (round_above v h.honest (subst (λ (q : Stage). IsSaidAt q v) e h.honest.said).0) l)
      by stages.Committed e x = x
      by stages.Revealed e x = x
      by stages.Signed e x = x

  held_true : IsTrue (with_certificate v c)
  held_true = record {
    honest =
        honest_on v (longer v.chain c.body) v.run.kept v.run.window v.run.is_running v.aside (holds_more v.chain c.body h.honest.chain (c, is, refl) can) (keeps_same v.run.kept)
        h.honest h.honest.one_kept h.honest.fitting h.honest.listed h.honest.set_aside;
    gone = held_gone;
  }

pub holds_true : (v : ServerView) (c : CertificateView) (a : Answer) (w : ServerView) → IsTrue v → IsCertificate c → HoldsOn v c a w → IsTrue w
holds_true v c a w h is (is_known r u e f) = subst IsTrue (sym f) h
holds_true v c a w h is (has_no_prev p u e f) = subst IsTrue (sym f) h
holds_true v c a w h is (is_off_floor n m u e f) = subst IsTrue (sym f) h
holds_true v c a w h is (is_of_other_length n m u e f) = subst IsTrue (sym f) h
holds_true v c a w h is (is_held can isnt e f) = subst IsTrue (sym f) (held_true v c h is can)
holds_true v c a w h is (ends_run can so e f) =
    subst IsTrue (sym f)
    (record { honest = ended_on v h.honest (longer v.chain c.body) (holds_more v.chain c.body h.honest.chain (c, is, refl) can); gone = λ runs. absurd (never runs) })

-- ---- hearing of a round

server_is : (i j : ℕ) → server i ≡ server j → i ≡ j
server_is i j e = ap number e
  where
    number : SignerId → ℕ
    number (signers.Client k) = 0
    number (signers.Server x) = x.0
    number (signers.Slot k) = 0

module _ (v : ServerView) (h : IsHonest v) (j : ℕ) (y : SaidView) (by : y.signer ≡ server j) (none : kept_of v.run.kept (kind_byte y.statement) j ≡ None) where
  one_more : OneKept (v.run.kept ++ y ∷ [])
  one_more = one_push v.run.kept y j by none h.one_kept

  fits_still : v.run.is_running ≡ true → IsFaultless v j y.statement → AreFitting v (v.run.kept ++ y ∷ [])
  fits_still runs fine i d s other commit reveal =
      elim (statement_comes v.run.kept y 4 i (kinds.Commit v.run.r d) commit) [
        | inl old_commit ↦ elim (statement_comes v.run.kept y 5 i (kinds.Reveal v.run.r s) reveal) [
          | inl old_reveal ↦ h.fitting runs i d s other old_commit old_reveal
          | inr new ↦
              let same : i ≡ j = server_is i j (sym new.3 ∙ by) in
              let is = subst (IsFaultless v j) new.0 fine in
              let digest = is.1 d (λ own. other (same ∙ own.0)) (subst (λ n. statement_of v.run.kept 4 n ≡ Some (kinds.Commit v.run.r d)) same old_commit) in
              digest ∙ ap (λ n. digest_by (course_of v.run) n s) (sym same)
        ]
        | inr new ↦ elim (statement_comes v.run.kept y 5 i (kinds.Reveal v.run.r s) reveal) [
          | inl old_reveal ↦
              let same : i ≡ j = server_is i j (sym new.3 ∙ by) in
              let is = subst (IsFaultless v j) new.0 fine in
              let digest = is s (subst (λ n. statement_of v.run.kept 5 n ≡ Some (kinds.Reveal v.run.r s)) same old_reveal) in
              digest ∙ ap (λ n. digest_by (course_of v.run) n s) (sym same)
          | inr also ↦ absurd (let clash : kinds.Commit v.run.r d ≡ kinds.Reveal v.run.r s = sym new.0 ∙ also.0 in cc)
        ]
      ]

  pub kept_honest : v.run.is_running ≡ true → IsFaultless v j y.statement → IsHonest (with_kept v y)
  kept_honest runs fine =
      honest_on v v.chain (v.run.kept ++ y ∷ []) v.run.window v.run.is_running v.aside (same_chain v.chain h.chain) (keeps_push v.run.kept y) h one_more (λ on. fits_still runs fine) h.listed h.set_aside

  faulty_true : IsTrue (ended (with_kept v y))
  faulty_true = record {
    honest =
        honest_on v v.chain (v.run.kept ++ y ∷ []) (record v.run.window { closed = true }) false 0 (same_chain v.chain h.chain) (keeps_push v.run.kept y) h one_more
        (λ on. absurd (never on)) (λ on at. absurd (never on)) (λ on. absurd (never on));
    gone = λ runs. absurd (never runs);
  }

pub hears_round_true : (v : ServerView) (j : ℕ) (r : Round) (y : SaidView) (a : Answer) (w : ServerView) → IsSound v → v.bent ≡ false → IsTrue v → IsSaid y → IsUnder v.seat.roster y
    → round_of y.statement ≡ Some r → y.signer ≡ server j → HearsRound v j r y a w → IsTrue w
hears_round_true v j r y a w s straight h said under of by (is_early l e f) = subst IsTrue (sym f) h
hears_round_true v j r y a w s straight h said under of by (is_past l e f) = subst IsTrue (sym f) h
hears_round_true v j r y a w s straight h said under of by (idle_round q i e f) = subst IsTrue (sym f) h
hears_round_true v j r y a w s straight h said under of by (repeats_round q i k e f) = subst IsTrue (sym f) h
hears_round_true v j r y a w s straight h said under of by (is_second other q i k d e f) = subst IsTrue (sym f) (ended_true v h.honest)
hears_round_true v j r y a w s straight h said under of by (is_faulty fault q i k has e f) = subst IsTrue (sym f) (faulty_true v h.honest j y by k)
hears_round_true v j r y a w s straight h said under of by (goes_on did q i k fine goes e) =
    went_true (with_kept v y) did w (kept_honest v h.honest j y by k i fine) (kept_sound v s j y (of ∙ ap Some q) said under fine) straight goes
