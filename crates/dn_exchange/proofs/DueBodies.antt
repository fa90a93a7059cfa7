-- The body that a server tells as its own, where another one spoils its round, is justified.
use Rattle.std.proofs.Common.{◌≡◌, ◌≢◌, ℕ, true, false, List, [], ◌∷◌, ◌++◌, Some, zero, suc, refl, sym, ap, subst, ◌∙◌, arith, inl, inr}
use Rattle.std.specs.Prelude.{◌⊎◌, Contains}
use Rattle.std.proofs.lemmas.List.Elements.{Contains-append_cases, Contains-push}
use Rattle.std.proofs.lemmas.Option.{same_Some}
use Rattle.dn_wire.specs.declared.ids.Round.{Round}
use Rattle.dn_wire.specs.declared.ids.ServerId.{ServerId}
use Rattle.dn_record_types.specs.declared.body.Body.{Body}
use Rattle.dn_record_types.specs.declared.statement.Statement.{Statement}
use Rattle.dn_record_types.specs.declared.statement.Statement.TheVariants as kinds
use Rattle.dn_records.specs.Records.{body_bytes}
use Rattle.dn_seal.specs.Said.{SaidView, IsSaid, IsUnder}
use Rattle.dn_server.specs.declared.act.Act.{Act}
use Rattle.dn_server.specs.declared.act.Act.TheVariants as acts
use Rattle.dn_server.specs.declared.act.SpoilReason.{SpoilReason}
use Rattle.dn_server.specs.declared.act.SpoilReason.TheVariants as spoils
use Rattle.dn_server.specs.declared.answer.Answer.{Answer}
use Rattle.dn_server.specs.declared.run.Stage.{Stage}
use Rattle.dn_server.specs.declared.run.Stage.TheVariants as stages
use Rattle.dn_server.specs.Answers.{ignored, does}
use Rattle.dn_server.specs.Justified.{Justified}
use Rattle.dn_server.specs.Keeping.{round_of}
use Rattle.dn_server.specs.Server.{ServerView, WasIncluded, ended, is_of, statement_of}
use Rattle.dn_server.proofs.KeptLemmas.{kept_by, statement_said}
use Rattle.dn_rounds.specs.Going.{IsFirstAgainst, Step, Steps, spoiled_twice, spoiled_body}
use Rattle.dn_rounds.specs.Going.Step.{commits, reveals, signs, signs_thin, certifies, commit_conflicts, reveal_conflicts, body_opposed, thin_opposed}
use Rattle.dn_rounds.specs.Going.Steps.{no_step, one_more}
use Rattle.dn_openings.specs.Hearing.{HearsEvidence}
use Rattle.dn_exchange.specs.Closing.{Closes, Ticks, Shuts, with_window}
use Rattle.dn_exchange.specs.Closing.Closes.{lists, meets_other, finds_no_leaf}
use Rattle.dn_exchange.specs.Closing.Ticks.{counts, closes_at}
use Rattle.dn_exchange.specs.Closing.Shuts.{is_shut, closes_now}
use Rattle.dn_exchange.specs.Disciplined.{IsSaidBy}
use Rattle.dn_exchange.specs.Hearing.{HearsRound, HasFault, Differing, with_kept}
use Rattle.dn_exchange.specs.Hearing.HearsRound.{is_early, is_past, is_idle as idle_round, repeats as repeats_round, is_second, is_faulty, goes_on}
use Rattle.dn_exchange.specs.Honest.{IsHonest, IsSaidAt}
use Rattle.dn_exchange.specs.Invariant.{IsSound}
use Rattle.dn_exchange.specs.Spoiling.{IsDueBody, OwnBodiesAreDue, TellsDueBodies}
use Rattle.dn_exchange.proofs.ChainStays.{none_after}
use Rattle.dn_exchange.proofs.Grows.{justified_grows, same_chain}
use Rattle.dn_exchange.proofs.HonestGoing.{step_honest}
use Rattle.dn_exchange.proofs.HonestMoves.{KeepsMore, keeps_same, keeps_push, moved, says_on, included_on}
use Rattle.dn_exchange.proofs.JustifiedLemmas.{found_there}
use Rattle.dn_exchange.proofs.HonestSteps.{body_justified, thin_body_justified}
use Rattle.dn_exchange.proofs.Promises.{own_body, kept_of_round}
use Rattle.dn_exchange.proofs.StepSound.{step_sound}
use Rattle.dn_wire.specs.declared.ids.Member.{Member}
use Rattle.dn_seal.specs.Dealt.{server}
use Rattle.dn_window.specs.Window.{WindowState, ticked}
use Rattle.dn_server.specs.declared.answer.Reason.{Reason}
use Rattle.dn_server.specs.declared.past.Past.{Past}
use Rattle.dn_server.specs.declared.places.Place.{Place}
use Rattle.dn_openings.specs.Accusing.{Shows}
use Rattle.dn_openings.specs.Accusing.Shows.{first_of_round, again}
use Rattle.dn_openings.specs.Accusing.Accuses.{not_signed, not_valid, is_opened, is_spent as accuse_spent, opens as opens_it}
use Rattle.dn_openings.specs.Accusing.{Opens as OpensPlace}
use Rattle.dn_openings.specs.Challenging.{LooksAt, LooksAtAll}
use Rattle.dn_openings.specs.Challenging.LooksAt.{has_looked, waits, finds_fault, finds_nobody, challenges}
use Rattle.dn_openings.specs.Challenging.LooksAtAll.{none, more}
use Rattle.dn_openings.specs.Hearing.HearsEvidence.{of_no_use, opening, accusation, answers as answers_it}
use Rattle.dn_openings.specs.Hearing.HearsOpening.{not_held, repeats, keeps}
use Rattle.dn_openings.specs.Hearing.HearsAnswer.{repeats_it, keeps_it}
use Rattle.dn_server.specs.Server.{others_of, everyone_of, post_next}
use Rattle.dn_exchange.specs.Closing.{inventory_of}
use Rattle.dn_exchange.specs.Listening.{Hears, not_by_server, of_round, of_evidence}
use Rattle.dn_exchange.proofs.CloseLemmas.{due_open, ticked_closed, ticked_submitted}
use Rattle.dn_exchange.proofs.CloseSound.{shut_sound, listed_sound}
use Rattle.dn_exchange.proofs.HearSound.{kept_sound}
use Rattle.dn_exchange.proofs.HonestCalls.{kept_honest}
use Rattle.dn_exchange.proofs.HonestGoing.{listed_honest}

-- an act that is one of these
one_act : (x y : Act) → Contains (x ∷ []) y → x ≡ y
one_act x y (zero, lt, e) = e
one_act x y (suc k, lt, e) = absurd (omega (arith, lt))

nothing : {x : Act} → Contains [] x → ⊥
nothing c = omega (arith, c.1)

head_act : (x : Act) (xs : List Act) (y : Act) → Contains (x ∷ xs) y → (x ≡ y) ⊎ Contains xs y
head_act x xs y (zero, lt, e) = inl e
head_act x xs y (suc k, lt, e) = inr (k, omega (arith, lt), e)

-- server j signed another body than this in the server's round, and it is among what is kept
record IsAgainst (v : ServerView) (kept : List SaidView) (j : ServerId) (b : Body) : Type 0 where
  other : Body
  said : SaidView
  among : Contains kept said
  by : said.signer ≡ server j.0
  is : said.statement ≡ kinds.Sign other
  round : other.r ≡ v.run.r
  differs : other ≢ b

-- the first server that signed another body did
first_against : (v : ServerView) → IsHonest v → IsSound v → (b other : Body) (k : ℕ) (j : ServerId) → IsFirstAgainst v b k other → k ≡ j.0 → IsAgainst v v.run.kept j b
first_against v h s b other k j first same =
    let found = statement_said v.run.kept 6 k (kinds.Sign other) first.signed in
    record {
      other = other;
      said = found.0;
      among = found_there (is_of 6 k) v.run.kept found.0 found.1;
      by = kept_by v.run.kept 6 k found.0 found.1 ∙ ap server same;
      is = found.2;
      round = same_Some other.r v.run.r (kept_of_round v h s 6 k (kinds.Sign other) first.signed);
      differs = first.differs;
    }

-- a body of the run that ended
module _ (v : ServerView) (h : IsHonest v) (kept : List SaidView) (grown : KeepsMore v.run.kept kept) where
  abbrev over : ServerView
  over = moved v v.chain kept (record v.run.window { closed = true }) false 0

  ended_due : (b : Body) (own : List ℕ) (j : ServerId) → own ≡ body_bytes b → b.r ≡ v.run.r → Justified (IsSaidBy v) (WasIncluded v.run) v.seat v.chain b → IsAgainst v kept j b
      → IsDueBody over j own
  ended_due b own x spelled round j against = record {
    body = b;
    spelled = spelled;
    round = round;
    other = against.other;
    kept = against.said;
    among = against.among;
    by = against.by;
    said = against.is;
    other_round = against.round;
    differs = against.differs;
    justified =
        justified_grows (IsSaidBy v) (IsSaidBy over) (WasIncluded v.run) (WasIncluded over.run)
        (says_on v v.chain kept (record v.run.window { closed = true }) false 0 (same_chain v.chain h.chain) grown)
        (included_on v v.chain kept (record v.run.window { closed = true }) false 0 (same_chain v.chain h.chain) grown) v.seat v.chain v.chain b (same_chain v.chain h.chain) j;
  }

spoiled_own : (i j : ServerId) (r q : SpoilReason) (own other came given : List ℕ) → acts.Spoiled i r own came ≡ acts.Spoiled j q other given → (r ≡ q) × (own ≡ other)
spoiled_own i j r q own other came given e = ((cc), (cc))

spoiled_by : (i j : ServerId) (r q : SpoilReason) (own other came given : List ℕ) → acts.Spoiled i r own came ≡ acts.Spoiled j q other given → i ≡ j
spoiled_by i j r q own other came given e = cc

not_twice : (k : ℕ) (x y : Statement) (j : ServerId) (own came : List ℕ) → spoiled_twice k x y ≡ acts.Spoiled j spoils.Body own came → ⊥
not_twice k x y j own came e = let reason = (spoiled_own _ j spoils.Twice spoils.Body _ own _ came e).0 in cc

-- ---- going on

-- one step tells no body, or one that is due, and then the run has ended
module _ (v : ServerView) (h : IsHonest v) (sound : IsSound v) (runs : v.run.is_running ≡ true) where
  told : (w : ServerView) (b other : Body) (k : ℕ) (j : ServerId) (own came : List ℕ) → w ≡ ended v → b.r ≡ v.run.r → Justified (IsSaidBy v) (WasIncluded v.run) v.seat v.chain b
      → IsFirstAgainst v b k other → spoiled_body k b other ≡ acts.Spoiled j spoils.Body own came → IsDueBody w j own × (w.run.is_running ≡ false)
  told w b other k j own came same round justified first e =
      let spelled = (spoiled_own _ j spoils.Body spoils.Body (body_bytes b) own _ came e).1 in
      let at = spoiled_by (record { 0 = k }) j spoils.Body spoils.Body (body_bytes b) own _ came e in
      let against = first_against v h sound b other k j first (ap (λ (x : ServerId). x.0) at) in (
        subst (λ (x : ServerView). IsDueBody x j own) (sym same) (ended_due v h v.run.kept (keeps_same v.run.kept) b own j (sym spelled) round justified against),
        ap (λ (x : ServerView). x.run.is_running) same,
      )

  step_tells : (did : List Act) (w : ServerView) → Step v did w → (j : ServerId) (own came : List ℕ) → Contains did (acts.Spoiled j spoils.Body own came)
      → IsDueBody w j own × (w.run.is_running ≡ false)
  step_tells did w (commits sum due free leaf d e) j own came c = absurd (let clash = one_act _ _ (subst (λ l. Contains l (acts.Spoiled j spoils.Body own came)) d c) in cc)
  step_tells did w (reveals sum due free leaf d e) j own came c = absurd (let clash = one_act _ _ (subst (λ l. Contains l (acts.Spoiled j spoils.Body own came)) d c) in cc)
  step_tells did w (signs sum b due free leaf d e) j own came c = absurd (let clash = one_act _ _ (subst (λ l. Contains l (acts.Spoiled j spoils.Body own came)) d c) in cc)
  step_tells did w (signs_thin b due free leaf d e) j own came c = absurd (let clash = one_act _ _ (subst (λ l. Contains l (acts.Spoiled j spoils.Body own came)) d c) in cc)
  step_tells did w (certifies b x agreed is follows d e) j own came c =
      elim (head_act (acts.Certified x) (acts.Post (everyone_of v.seat) x.bytes ∷ []) (acts.Spoiled j spoils.Body own came) (subst (λ l. Contains l (acts.Spoiled j spoils.Body own came)) d c)) [
        | inl first ↦ absurd (let clash : acts.Certified x ≡ acts.Spoiled j spoils.Body own came = first in cc)
        | inr later ↦ absurd (let clash : acts.Post (everyone_of v.seat) x.bytes ≡ acts.Spoiled j spoils.Body own came = one_act _ _ later in cc)
      ]
  step_tells did w (commit_conflicts sum other due free d e) j own came c = absurd (not_twice _ _ _ j own came (one_act _ _ (subst (λ l. Contains l (acts.Spoiled j spoils.Body own came)) d c)))
  step_tells did w (reveal_conflicts sum other due free d e) j own came c = absurd (not_twice _ _ _ j own came (one_act _ _ (subst (λ l. Contains l (acts.Spoiled j spoils.Body own came)) d c)))
  step_tells did w (body_opposed sum b k other due free d e) j own came c =
      told w b other k j own came e (ap (λ (x : Body). x.r) due.is) (body_justified v h sound runs sum b due) free (one_act _ _ (subst (λ l. Contains l (acts.Spoiled j spoils.Body own came)) d c))
  step_tells did w (thin_opposed b k other due free d e) j own came c =
      told w b other k j own came e (ap (λ (x : Body). x.r) due.is) (thin_body_justified v h sound runs b due) free (one_act _ _ (subst (λ l. Contains l (acts.Spoiled j spoils.Body own came)) d c))

steps_tell : (v : ServerView) (did : List Act) (w : ServerView) → IsHonest v → IsSound v → Steps v did w → OwnBodiesAreDue w did
steps_tell v did w h s (no_step d e) = λ j own came c. absurd (nothing (subst (λ l. Contains l (acts.Spoiled j spoils.Body own came)) d c))
steps_tell v did w h s (one_more first rest between runs step others d) =
    let later : OwnBodiesAreDue w rest = steps_tell between rest w (step_honest v h s runs first between step) (step_sound v s runs first between step) others in
    λ j own came c.
    elim (Contains-append_cases first rest (acts.Spoiled j spoils.Body own came) (subst (λ l. Contains l (acts.Spoiled j spoils.Body own came)) d c)) [
      | inl now ↦
          let here = step_tells v h s runs first between step j own came now in
          subst (λ (x : ServerView). IsDueBody x j own) (sym (none_after between rest w here.1 others)) here.0
      | inr then ↦ later j own came then
    ]

-- an answer that is these acts
by_acts : (w : ServerView) (did : List Act) (a : Answer) → a ≡ does did → OwnBodiesAreDue w did → TellsDueBodies w a
by_acts w did a e h = subst (TellsDueBodies w) (sym e) h

by_reason : (w : ServerView) (reason : Reason) (a : Answer) → a ≡ ignored reason → TellsDueBodies w a
by_reason w reason a e = subst (TellsDueBodies w) (sym e) tt

-- ---- closing

closes_tell : (v : ServerView) (w : WindowState) (did : List Act) (after : ServerView) → IsHonest v → IsSound v → v.bent ≡ false → v.run.window.closed ≡ false → w.closed ≡ true
    → w.submitted ≡ v.run.window.submitted → Closes (with_window v w) did after → OwnBodiesAreDue after did
closes_tell v w did after h s straight isnt shut same (lists rest free leaf goes e) = λ j own came c.
    let on = s.is_open isnt in
    elim (head_act (acts.Closed v.run.r w.count) (post_next (with_window v w) (others_of v.seat) (kinds.Inventory (inventory_of v.run)) ∷ rest) (acts.Spoiled j spoils.Body own came) (subst (λ l. Contains l (acts.Spoiled j spoils.Body own came)) e c)) [
      | inl first ↦ absurd (let clash : acts.Closed v.run.r w.count ≡ acts.Spoiled j spoils.Body own came = first in cc)
      | inr then ↦ elim (head_act (post_next (with_window v w) (others_of v.seat) (kinds.Inventory (inventory_of v.run))) rest (acts.Spoiled j spoils.Body own came) then) [
        | inl second ↦ absurd (let clash : post_next (with_window v w) (others_of v.seat) (kinds.Inventory (inventory_of v.run)) ≡ acts.Spoiled j spoils.Body own came = second in cc)
        | inr later ↦
            steps_tell _ rest after (listed_honest v w h s on.0 on.1 free) (listed_sound (with_window v w) (shut_sound v w s shut same) on.0 on.1 shut free leaf) goes.steps j own came later
      ]
    ]
closes_tell v w did after h s straight isnt shut same (meets_other other c e f) = λ j own came x.
    elim (head_act (acts.Closed v.run.r w.count) (spoiled_twice v.seat.number other (kinds.Inventory (inventory_of v.run)) ∷ []) (acts.Spoiled j spoils.Body own came) (subst (λ l. Contains l (acts.Spoiled j spoils.Body own came)) e x)) [
      | inl first ↦ absurd (let clash : acts.Closed v.run.r w.count ≡ acts.Spoiled j spoils.Body own came = first in cc)
      | inr later ↦ absurd (not_twice v.seat.number other (kinds.Inventory (inventory_of v.run)) j own came (one_act _ _ later))
    ]
closes_tell v w did after h s straight isnt shut same (finds_no_leaf free leaf bent e f) = absurd (let clash = sym bent ∙ straight in cc)

pub ticks_tell : (v : ServerView) (a : Answer) (w : ServerView) → IsSound v → v.bent ≡ false → IsHonest v → Ticks v a w → TellsDueBodies w a
ticks_tell v a w s straight h (counts due e f) = by_acts w [] a e (λ j own came c. absurd (nothing c))
ticks_tell v a w s straight h (closes_at did due closes e) =
    by_acts w did a e (closes_tell v (ticked v.run.window) did w h s straight (due_open v.run.window due) (ticked_closed v.run.window due) (ticked_submitted v.run.window) closes)

pub shuts_tell : (v : ServerView) (a : Answer) (w : ServerView) → IsSound v → v.bent ≡ false → IsHonest v → Shuts v a w → TellsDueBodies w a
shuts_tell v a w s straight h (is_shut shut e f) = by_reason w _ a e
shuts_tell v a w s straight h (closes_now did isnt closes e) =
    by_acts w did a e (closes_tell v (record v.run.window { closed = true }) did w h s straight isnt refl refl closes)

-- ---- hearing of a round

-- A body that is told against another one, which is what was heard, is the one that the server signed.
record IsToldBody (v : ServerView) (s : Statement) (fault : Differing) : Type 0 where
  own : Body
  stage : v.run.stage ≡ stages.Signed
  kept : statement_of v.run.kept 6 v.seat.number ≡ Some (kinds.Sign own)
  spelled : fault.kept ≡ body_bytes own
  other : Body
  heard : s ≡ kinds.Sign other
  differs : other ≢ own

reason_of : Differing → SpoilReason
reason_of d = d.reason

kept_told : Differing → List ℕ
kept_told d = d.kept

told_body : (v : ServerView) (j : ℕ) (s : Statement) (fault : Differing) → HasFault v j s fault → fault.reason ≡ spoils.Body → IsToldBody v s fault
unfolding reason_of kept_told
told_body v j (kinds.Submission r prev i d) fault has is = absurd has
told_body v j (kinds.Receipt r i d t) fault has is = absurd has
told_body v j (kinds.Inventory inventory) fault (inl has) is = absurd (let clash : spoils.Prev ≡ spoils.Body = sym (ap reason_of has.1) ∙ is in cc)
told_body v j (kinds.Inventory inventory) fault (inr has) is = absurd (let clash : spoils.Entry ≡ spoils.Body = sym (ap reason_of has.3) ∙ is in cc)
told_body v j (kinds.Commit r d) fault has is = absurd (let clash : spoils.Commit ≡ spoils.Body = sym (ap reason_of has.3) ∙ is in cc)
told_body v j (kinds.Reveal r s) fault (inl has) is = absurd (let clash : spoils.Length ≡ spoils.Body = sym (ap reason_of has.1) ∙ is in cc)
told_body v j (kinds.Reveal r s) fault (inr has) is = absurd (let clash : spoils.Commit ≡ spoils.Body = sym (ap reason_of has.5) ∙ is in cc)
told_body v j (kinds.Sign b) fault has is = record { own = has.0; stage = has.1; kept = has.2; spelled = ap kept_told has.4; other = b; heard = refl; differs = has.3 }
told_body v j (kinds.PadBits r k bs) fault has is = absurd has
told_body v j (kinds.Shown r s xs) fault has is = absurd has
told_body v j (kinds.Accusation r s k) fault has is = absurd has
told_body v j (kinds.Rebuttal r k x seed e) fault has is = absurd has
told_body v j (kinds.Concede r k) fault has is = absurd has

-- the body that the server signed in the round that it opened last, and keeps
module _ (v : ServerView) (h : IsHonest v) (s : IsSound v) where
  signed_kept : (b : Body) → v.run.stage ≡ stages.Signed → statement_of v.run.kept 6 v.seat.number ≡ Some (kinds.Sign b) → Contains v.signed (kinds.Sign b)
  signed_kept b stage kept =
      let said = own_body v h s (subst (λ (q : Stage). IsSaidAt q v) stage h.said).1 in
      let both = sym said.1.kept ∙ kept in
      subst (λ (x : Statement). Contains v.signed x) (cc) said.1.signed

  signed_due : (y : SaidView) (b : Body) (own : List ℕ) (j : ServerId) → own ≡ body_bytes b → v.run.stage ≡ stages.Signed → statement_of v.run.kept 6 v.seat.number ≡ Some (kinds.Sign b)
      → IsAgainst v (v.run.kept ++ y ∷ []) j b → IsDueBody (ended (with_kept v y)) j own
  signed_due y b own j spelled stage kept against =
      let of : Some b.r ≡ Some v.run.r = kept_of_round v h s 6 v.seat.number (kinds.Sign b) kept in
      let round : b.r ≡ v.run.r = cc in
      ended_due v h (v.run.kept ++ y ∷ []) (keeps_push v.run.kept y) b own j spelled round (h.signs b (signed_kept b stage kept) round) against

hears_round_tells : (v : ServerView) (j : ℕ) (r : Round) (y : SaidView) (a : Answer) (w : ServerView) → IsSound v → v.bent ≡ false → IsHonest v → IsSaid y → IsUnder v.seat.roster y
    → round_of y.statement ≡ Some r → y.signer ≡ server j → HearsRound v j r y a w → TellsDueBodies w a
hears_round_tells v j r y a w s straight h said under of by (is_early l e f) = subst (TellsDueBodies w) (sym e) tt
hears_round_tells v j r y a w s straight h said under of by (is_past l e f) = by_reason w _ a e
hears_round_tells v j r y a w s straight h said under of by (idle_round q i e f) = by_reason w _ a e
hears_round_tells v j r y a w s straight h said under of by (repeats_round q i k e f) = by_reason w _ a e
hears_round_tells v j r y a w s straight h said under of by (is_second other q i k d e f) =
    by_acts w _ a e (λ x own came c. absurd (not_twice j other y.statement x own came (one_act _ _ c)))
hears_round_tells v j r y a w s straight h said under of by (is_faulty fault q i k has e f) =
    by_acts w _ a e (λ x own came c.
    let same = spoiled_own (record { 0 = j }) x fault.reason spoils.Body fault.kept own fault.came came (one_act _ _ c) in
    let told = told_body v j y.statement fault has same.0 in
    let at = spoiled_by (record { 0 = j }) x fault.reason spoils.Body fault.kept own fault.came came (one_act _ _ c) in
    let round : Some told.other.r ≡ Some v.run.r = ap round_of (sym told.heard) ∙ of ∙ ap Some q in
    let against : IsAgainst v (v.run.kept ++ y ∷ []) x told.own = record {
      other = told.other;
      said = y;
      among = Contains-push v.run.kept y;
      by = by ∙ ap (λ (z : ServerId). server z.0) at;
      is = told.heard;
      round = same_Some told.other.r v.run.r round;
      differs = told.differs;
    } in
    subst (λ (z : ServerView). IsDueBody z x own) (sym f) (signed_due v h s y told.own own x (sym same.1 ∙ told.spelled) told.stage told.kept against))
hears_round_tells v j r y a w s straight h said under of by (goes_on did q i k fine goes e) =
    by_acts w did a e (steps_tell (with_kept v y) did w (kept_honest v h j y by k i fine) (kept_sound v s j y (of ∙ ap Some q) said under fine) goes.steps)

-- ---- hearing of evidence

-- nothing but posts
abbrev OnlyPosts : List Act → Type 0
OnlyPosts did = (x : Act) → Contains did x → (to : List Member) × (bytes : List ℕ) × (x ≡ acts.Post to bytes)

posts_none : (did : List Act) → did ≡ [] → OnlyPosts did
posts_none did e x c = absurd (nothing (subst (λ l. Contains l x) e c))

posts_one : (did : List Act) (to : List Member) (bytes : List ℕ) → did ≡ acts.Post to bytes ∷ [] → OnlyPosts did
posts_one did to bytes e x c = (to, bytes, sym (one_act _ x (subst (λ l. Contains l x) e c)))

posts_both : (did first rest : List Act) → did ≡ first ++ rest → OnlyPosts first → OnlyPosts rest → OnlyPosts did
posts_both did first rest e p q x c = elim (Contains-append_cases first rest x (subst (λ l. Contains l x) e c)) [ inl now ↦ p x now | inr then ↦ q x then ]

looks_posts : (v : ServerView) (place : Place) (did : List Act) (w : ServerView) → LooksAt v place did w → OnlyPosts did
looks_posts v place did w (has_looked c e f) = posts_none did e
looks_posts v place did w (waits n a e f) = posts_none did e
looks_posts v place did w (finds_fault t n a i x e f) = posts_none did e
looks_posts v place did w (finds_nobody t n a i x y e f) = posts_none did e
looks_posts v place did w (challenges t first others envelopes n a i x y z e f) = posts_one did _ _ e

looks_all_posts : (v : ServerView) (places : List Place) (did : List Act) (w : ServerView) → LooksAtAll v places did w → OnlyPosts did
looks_all_posts v places did w (none n e f) = posts_none did e
looks_all_posts v places did w (more place others first rest between n before looks e) =
    posts_both did first rest e (looks_all_posts v others first between before) (looks_posts between place rest w looks)

shows_posts : (v : ServerView) (past : Past) (did : List Act) (w : ServerView) → Shows v past did w → OnlyPosts did
shows_posts v past did w (first_of_round n k e) = posts_one did _ _ e
shows_posts v past did w (again said n c x y e f) = posts_one did _ _ e

opens_posts : (v : ServerView) (b : Body) (past : Past) (k : ℕ) (did : List Act) (w : ServerView) → OpensPlace v b past k did w → OnlyPosts did
opens_posts v b past k did w o =
    posts_both did (_ ∷ o.shown_did) o.looked_did o.in_order
    (posts_both (_ ∷ o.shown_did) (_ ∷ []) o.shown_did refl (posts_one _ _ _ refl) (shows_posts o.padded past o.shown_did o.shown o.shows))
    (looks_posts _ _ o.looked_did w o.looks)

no_bodies : (w : ServerView) (did : List Act) → OnlyPosts did → OwnBodiesAreDue w did
no_bodies w did posts j own came c = absurd (let post = posts (acts.Spoiled j spoils.Body own came) c in let clash : acts.Spoiled j spoils.Body own came ≡ acts.Post post.0 post.1 = post.2 in cc)

evidence_tells : (v : ServerView) (y : SaidView) (a : Answer) (w : ServerView) → HearsEvidence v y a w → TellsDueBodies w a
evidence_tells v y a w (of_no_use u e f) = by_reason w _ a e
evidence_tells v y a w (opening r by round (not_held n e f)) = by_reason w _ a e
evidence_tells v y a w (opening r by round (repeats n s e f)) = by_reason w _ a e
evidence_tells v y a w (opening r by round (keeps places did n s t looks e)) = by_acts w did a e (no_bodies w did (looks_all_posts _ places did w looks))
evidence_tells v y a w (accusation r slot k is (not_signed n e f)) = by_reason w _ a e
evidence_tells v y a w (accusation r slot k is (not_valid b past layout why i x e f)) = by_reason w _ a e
evidence_tells v y a w (accusation r slot k is (is_opened b past layout valid i x o e f)) = by_reason w _ a e
evidence_tells v y a w (accusation r slot k is (accuse_spent b past layout valid i x o l e f)) = by_reason w _ a e
evidence_tells v y a w (accusation r slot k is (opens_it b past layout valid did i x o l opens e)) = by_acts w did a e (no_bodies w did (opens_posts v b past valid.k did w opens))
evidence_tells v y a w (answers_it by is (repeats_it s e f)) = by_reason w _ a e
evidence_tells v y a w (answers_it by is (keeps_it n e f)) = by_acts w [] a e (λ j own came c. absurd (nothing c))

pub hears_tell : (v : ServerView) (y : SaidView) (a : Answer) (w : ServerView) → IsSound v → v.bent ≡ false → IsHonest v → IsSaid y → IsUnder v.seat.roster y → Hears v y a w
    → TellsDueBodies w a
hears_tell v y a w s straight h said under (not_by_server r round other e same) = by_reason w _ a e
hears_tell v y a w s straight h said under (of_round j r by round hears) = hears_round_tells v j r y a w s straight h said under round by hears
hears_tell v y a w s straight h said under (of_evidence round hears) = evidence_tells v y a w hears
