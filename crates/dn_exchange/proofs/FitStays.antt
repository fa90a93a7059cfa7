-- What a server signs fits into an envelope, and it has committed itself to its sum: both stay in its rounds.
use Rattle.std.proofs.Common.{◌≡◌, ℕ, ◌<◌, ◌≤◌, ◌^◌, Bool, true, false, List, [], ◌∷◌, ◌++◌, length, Some, cond, refl, sym, ap, subst, ◌∙◌, arith, inl, inr}
use Rattle.std.specs.Prelude.{Contains, slice_index_or, ◌==◌}
use Rattle.std.proofs.lemmas.List.Elements.{All-contains, Contains-push, Contains-push_cases, Contains-append_left}
use Rattle.std.proofs.lemmas.List.FromFn.{length-map-range_with_len}
use Rattle.std.proofs.lemmas.Option.{same_Some}
use Rattle.dn_wire.specs.declared.ids.Round.{Round}
use Rattle.dn_bits.specs.Bits.{bytes_of}
use Rattle.dn_pads.specs.Pads.{keystream_bit}
use Rattle.dn_record_types.specs.declared.body.Body.{Body}
use Rattle.dn_record_types.specs.declared.shown.ShownCipher.{ShownCipher}
use Rattle.dn_record_types.specs.declared.statement.Statement.{Statement}
use Rattle.dn_record_types.specs.declared.statement.Statement.TheVariants as kinds
use Rattle.dn_record_types.specs.declared.statement.WordTold.{WordTold}
use Rattle.dn_record_types.specs.declared.statement.WordTold.TheVariants as words
use Rattle.dn_record_types.specs.Records.{told_byte, IsStatement}
use Rattle.dn_records.specs.Records.{kind_byte}
use Rattle.dn_seal.specs.Dealt.{server}
use Rattle.dn_seal.specs.Signer.{CanSign}
use Rattle.dn_seal.proofs.SizeLemmas.{can_sign}
use Rattle.dn_cert.specs.Chain.{bodies, HasCertificate}
use Rattle.dn_server.specs.declared.act.Act.{Act}
use Rattle.dn_server.specs.declared.past.Past.{Past}
use Rattle.dn_server.specs.declared.run.Stage.{Stage}
use Rattle.dn_server.specs.declared.run.Stage.TheVariants as stages
use Rattle.dn_server.specs.declared.run.Sum.{Sum}
use Rattle.dn_server.specs.Justified.{Seat, digest_by}
use Rattle.dn_server.specs.Server.{ServerView, itself, course_of, ended}
use Rattle.dn_rounds.specs.Going.{Step, Steps, no_step, one_more, says, unbent, with_past, past_with, thin_past, commitment_of, certified}
use Rattle.dn_rounds.specs.Going.Step.{commits, reveals, signs, signs_thin, certifies, commit_conflicts, reveal_conflicts, body_opposed, thin_opposed}
use Rattle.dn_rounds.proofs.Lengths.{can_commit, can_reveal}
use Rattle.dn_openings.specs.Accusing.{lists}
use Rattle.dn_openings.specs.Discipline.{ArePads, AreShown}
use Rattle.dn_exchange.specs.Disciplined.{commit_to}
use Rattle.dn_exchange.specs.Fitting.{SignsWhatFits}
use Rattle.dn_exchange.specs.Honest.{IsHonest}
use Rattle.dn_exchange.specs.Invariant.{IsSound, IsAtStage, standing_of}
use Rattle.dn_exchange.specs.Openings.{IsOpen}
use Rattle.dn_exchange.specs.Submitting.{Submitted, receipt_of, word_for}
use Rattle.dn_exchange.proofs.EvidenceSound.{Grown, IsOpening}
use Rattle.dn_exchange.proofs.JustifiedLemmas.{found_there}
use Rattle.dn_exchange.proofs.ReadyLemmas.{low_number, thin_fits, full_fits}
use Rattle.dn_exchange.proofs.StepSound.{server_digest_long, step_sound}

-- ---- with more that was signed

module _ (v w : ServerView) (seat : w.seat ≡ v.seat) (round : w.run.r ≡ v.run.r) where
  fits_by : ((s : Statement) → Contains w.signed s → CanSign (itself v) s) → ((x : Sum) → w.run.sum ≡ Some x → Contains w.signed (commit_to v.seat v.run.r x.s))
      → SignsWhatFits w
  fits_by fits committed = record {
    fits = λ s c. subst (λ (y : Seat). CanSign (server y.number) s) (sym seat) (fits s c);
    committed = λ x e.
        subst (λ (y : Seat). Contains w.signed (commit_to y w.run.r x.s)) (sym seat)
        (subst (λ (q : Round). Contains w.signed (commit_to v.seat q x.s)) (sym round) (committed x e));
  }

  -- nothing more was signed
  pub none_more : w.run.sum ≡ v.run.sum → w.signed ≡ v.signed → SignsWhatFits v → SignsWhatFits w
  none_more sum signed h =
      fits_by (λ s c. h.fits s (subst (λ l. Contains l s) signed c))
      (λ x e. subst (λ l. Contains l (commit_to v.seat v.run.r x.s)) (sym signed) (h.committed x (sym sum ∙ e)))

  -- one statement more, which fits
  pub one_signed : (s : Statement) → w.run.sum ≡ v.run.sum → w.signed ≡ v.signed ++ s ∷ [] → CanSign (itself v) s → SignsWhatFits v → SignsWhatFits w
  one_signed s sum signed can h =
      fits_by
      (λ t c. elim (Contains-push_cases v.signed s t (subst (λ l. Contains l t) signed c)) [ inl old ↦ h.fits t old | inr new ↦ subst (CanSign (itself v)) new can ])
      (λ x e.
      subst (λ l. Contains l (commit_to v.seat v.run.r x.s)) (sym signed)
      (Contains-append_left v.signed (s ∷ []) (commit_to v.seat v.run.r x.s) (h.committed x (sym sum ∙ e))))

  -- the commitment to its sum
  pub commit_signed : (sum : Sum) → w.run.sum ≡ Some sum → w.signed ≡ v.signed ++ commit_to v.seat v.run.r sum.s ∷ [] → CanSign (itself v) (commit_to v.seat v.run.r sum.s) → SignsWhatFits v
      → SignsWhatFits w
  commit_signed sum is signed can h =
      let s : Statement = commit_to v.seat v.run.r sum.s in
      fits_by
      (λ t c. elim (Contains-push_cases v.signed s t (subst (λ l. Contains l t) signed c)) [ inl old ↦ h.fits t old | inr new ↦ subst (CanSign (itself v)) new can ])
      (λ x e.
      subst (λ (y : Sum). Contains w.signed (commit_to v.seat v.run.r y.s)) (same_Some sum x (sym is ∙ e)) (subst (λ l. Contains l s) (sym signed) (Contains-push v.signed s)))

-- ---- the steps of a round

pub ended_fits : (v : ServerView) → SignsWhatFits v → SignsWhatFits (ended v)
ended_fits v h = none_more v (ended v) refl refl refl refl h

step_fits : (v : ServerView) (did : List Act) (w : ServerView) → IsSound v → v.run.is_running ≡ true → Step v did w → SignsWhatFits v → SignsWhatFits w
step_fits v did w sound on (commits sum due free leaf d e) h =
    let running = sound.running on in
    let then : ServerView = unbent (says v (commitment_of v sum) stages.Committed (Some sum)) in
    let can : CanSign (itself v) (commitment_of v sum) =
    can_commit v.seat.number v.run.r (digest_by (course_of v.run) v.seat.number sum.s) (low_number v sound running) running.course.small
    (server_digest_long v.run.r.0 v.seat.number (bytes_of sum.s)) in
    subst SignsWhatFits (sym e) (commit_signed v then refl refl sum refl refl can h)
step_fits v did w sound on (reveals sum due free leaf d e) h =
    let running = sound.running on in
    let at = subst (λ (x : Stage). IsAtStage x (standing_of v)) due.stage running.stage in
    let same : at.1.sum ≡ sum = same_Some at.1.sum sum (sym at.1.has ∙ due.has) in
    let long : length sum.s ≡ v.run.bits = ap (λ (x : Sum). length x.s) (sym same) ∙ at.1.long in
    let can : CanSign (itself v) (kinds.Reveal v.run.r sum.s) =
    can_reveal v.seat.number v.run.r sum.s (low_number v sound running) running.course.small (omega (arith, long, running.course.few)) in
    let then : ServerView = says v (kinds.Reveal v.run.r sum.s) stages.Revealed (Some sum) in
    subst SignsWhatFits (sym e) (one_signed v then refl refl (kinds.Reveal v.run.r sum.s) (sym due.has) refl can h)
step_fits v did w sound on (signs sum b due free leaf d e) h =
    let running = sound.running on in
    let at = subst (λ (x : Stage). IsAtStage x (standing_of v)) due.stage running.stage in
    let then : ServerView = with_past (says v (kinds.Sign b) stages.Signed (Some sum)) (past_with sum b) in
    subst SignsWhatFits (sym e) (one_signed v then refl refl (kinds.Sign b) (sym due.has) refl (full_fits v sound running at.1 sum b due) h)
step_fits v did w sound on (signs_thin b due free leaf d e) h =
    let running = sound.running on in
    let then : ServerView = with_past (says v (kinds.Sign b) stages.Signed v.run.sum) (thin_past b) in
    subst SignsWhatFits (sym e) (one_signed v then refl refl (kinds.Sign b) refl refl (thin_fits v sound running b due) h)
step_fits v did w sound on (certifies b c agreed is_one follows d e) h = subst SignsWhatFits (sym e) (none_more v (certified v c) refl refl refl refl h)
step_fits v did w sound on (commit_conflicts sum other due free d e) h = subst SignsWhatFits (sym e) (none_more v (unbent (ended v)) refl refl refl refl h)
step_fits v did w sound on (reveal_conflicts sum other due free d e) h = subst SignsWhatFits (sym e) (ended_fits v h)
step_fits v did w sound on (body_opposed sum b j other due free d e) h = subst SignsWhatFits (sym e) (ended_fits v h)
step_fits v did w sound on (thin_opposed b j other due free d e) h = subst SignsWhatFits (sym e) (ended_fits v h)

pub steps_fits : (v : ServerView) (did : List Act) (w : ServerView) → Steps v did w → IsSound v → SignsWhatFits v → SignsWhatFits w
steps_fits v did w (no_step none same) sound h = subst SignsWhatFits (sym same) h
steps_fits v did w (one_more first rest between on step steps d) sound h =
    steps_fits between rest w steps (step_sound v sound on first between step) (step_fits v first between sound on step h)

-- ---- receipts

told_few : (t : WordTold) → (1 ≤ told_byte t) × (told_byte t ≤ 2)
told_few words.Included = (omega arith, omega arith)
told_few words.Late = (omega arith, omega arith)

pub receipt_fits : (v : ServerView) (s : Submitted) → v.seat.number < 2 ^ 32 → IsStatement (kinds.Submission s.r s.prev s.client s.digest) → CanSign (itself v) (receipt_of v s)
receipt_fits v s low fits = can_sign (itself v) (receipt_of v s) low (fits.0, (fits.1.1.0, (fits.1.1.1, told_few (word_for v.run.window.closed)))) tt

-- ---- openings

module _ (v : ServerView) (sound : IsSound v) (open_so : IsOpen v) (honest : IsHonest v) where
  low : v.seat.number < 2 ^ 32
  low = let servers = sound.seated.roster.servers in omega (arith, sound.seated.number, servers.1)

  -- pad bits of a body that is held
  pads_fit : (r : Round) (k : ℕ) (bits : List Bool) → ArePads v r k bits → CanSign (itself v) (kinds.PadBits r k bits)
  pads_fit r k bits p =
      let has = All-contains HasCertificate (bodies v.chain) p.body honest.chain.certified p.signed.held in
      let fits : IsStatement (kinds.Sign p.body) = subst (λ (b : Body). IsStatement (kinds.Sign b)) has.2 has.1.signed.fits.0.1 in
      let round : r.0 < 2 ^ 64 = subst (λ (q : Round). q.0 < 2 ^ 64) p.signed.round fits.1.0 in
      let out : length p.body.out ≤ 65536 = fits.1.1.1.1.1.1 in
      let at : k < 2 ^ 32 = omega (arith, out, p.within) in
      let bit : ℕ → Bool = λ i. cond (lists p.body i) (keystream_bit (slice_index_or v.seat.seeds i []) p.body.r.0 k) false in
      let clients = sound.seated.roster.clients in
      let count : length bits ≡ length v.seat.roster.clients = ap length p.true_bits ∙ length-map-range_with_len bit 0 (length v.seat.roster.clients) in
      let few : length bits ≤ 65536 = omega (arith, count, clients.1) in
      can_sign (itself v) (kinds.PadBits r k bits) low (round, (at, few)) tt

  -- ciphertexts that are kept
  shown_fit : (r : Round) (s : List Bool) (own : List ShownCipher) → AreShown v r s own → CanSign (itself v) (kinds.Shown r s own)
  shown_fit r s own p = subst (CanSign (itself v)) (sym p.are) (open_so.can.sizes p.past (found_there (λ (x : Past). x.body.r.0 == r.0) v.pasts p.past p.signed.kept))

  pub opening_fits : (t : Statement) → IsOpening t → Contains v.signed t → CanSign (itself v) t
  opening_fits (kinds.Submission r prev i d) is c = absurd (omega (arith, is.0))
  opening_fits (kinds.Receipt r i d w) is c = absurd (omega (arith, is.0))
  opening_fits (kinds.Inventory i) is c = absurd (omega (arith, is.0))
  opening_fits (kinds.Commit r d) is c = absurd (omega (arith, is.0))
  opening_fits (kinds.Reveal r y) is c = absurd (omega (arith, is.0))
  opening_fits (kinds.Sign b) is c = absurd (omega (arith, is.0))
  opening_fits (kinds.PadBits r k bits) is c = pads_fit r k bits (honest.openings.pads r k bits c)
  opening_fits (kinds.Shown r y own) is c = shown_fit r y own (honest.openings.shown r y own c)
  opening_fits (kinds.Accusation r y k) is c = absurd (omega (arith, is.1))
  opening_fits (kinds.Rebuttal r k x seed e) is c = absurd (omega (arith, is.1))
  opening_fits (kinds.Concede r k) is c = absurd (omega (arith, is.1))

-- a server that grew by openings
pub grown_fits : (v w : ServerView) (n : ℕ) → Grown v w n → IsSound w → IsOpen w → IsHonest w → SignsWhatFits v → SignsWhatFits w
grown_fits v w n g sound open_so honest h =
    let seat : w.seat ≡ v.seat = ap (λ (x : ServerView). x.seat) g.is in
    let signed : w.signed ≡ g.signed = ap (λ (x : ServerView). x.signed) g.is in
    fits_by v w seat (ap (λ (x : ServerView). x.run.r) g.is)
    (λ s c. elim (g.come s (subst (λ l. Contains l s) signed c)) [
      | inl old ↦ h.fits s old
      | inr new ↦ subst (λ (y : Seat). CanSign (server y.number) s) seat (opening_fits w sound open_so honest s new c)
    ])
    (λ x e.
    subst (λ l. Contains l (commit_to v.seat v.run.r x.s)) (sym signed)
    (g.stay (commit_to v.seat v.run.r x.s) (h.committed x (sym (ap (λ (y : ServerView). y.run.sum) g.is) ∙ e))))
