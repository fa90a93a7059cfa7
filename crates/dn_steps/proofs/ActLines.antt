-- The lines of a server's acts, and the acts that they tell of.
use Rattle.std.proofs.Common.{◌≡◌, ◌≢◌, ℕ, List, [], ◌∷◌, refl, sym, ap, subst, ◌∙◌, inl, inr, true, false}
use Rattle.std.specs.Prelude.{Contains, ◌⊎◌, Some}
use Rattle.dn_wire.specs.declared.ids.ClientId.{ClientId}
use Rattle.dn_wire.specs.declared.ids.ServerId.{ServerId}
use Rattle.dn_wire.specs.declared.ids.Round.{Round}
use Rattle.dn_wire.specs.declared.ids.Member.TheVariants as members
use Rattle.dn_told.specs.declared.told.WindowTold.{WindowTold}
use Rattle.dn_cert.specs.Certificate.{CertificateView}
use Rattle.dn_server.specs.declared.act.Act.{Act}
use Rattle.dn_server.specs.declared.act.Act.TheVariants as acts
use Rattle.dn_server.specs.declared.act.SpoilReason.{SpoilReason}
use Rattle.dn_report.specs.declared.outcome.Outcome.{Outcome}
use Rattle.dn_report.specs.declared.outcome.Outcome.TheVariants as outcomes
use Rattle.dn_report.specs.declared.words.SpoilWord.{SpoilWord}
use Rattle.dn_state.specs.Parts.{PartsView}
use Rattle.dn_state.specs.Words.{spoil_word_of}
use Rattle.dn_headline.specs.Group.{GroupView}
use Rattle.dn_headline.specs.Log.{Log, is_early_or_none}
use Rattle.dn_steps.specs.ServerCall.{TellNothingOf}
use Rattle.dn_steps.proofs.Runs.{is_quiet, is_of_put, is_blame, put_is_quiet, put_is_taken, put_blames_none}
use Rattle.dn_steps.proofs.Acting.{ActsSo, line_for}

-- ---- the act of a line

opened_by : (j k : ServerId) (last q p : Round) (a : Act) → line_for j last a ≡ Some (outcomes.Opened k q p) → (k.0 ≡ j.0) × (a ≡ acts.Opened q p)
opened_by j k last q p (acts.Opened r prev) e = (cc, cc)
opened_by j k last q p _ e = absurd cc

closed_by : (j k : ServerId) (last q : Round) (count : ℕ) (a : Act) → line_for j last a ≡ Some (outcomes.Closed k q count) → (k.0 ≡ j.0) × (a ≡ acts.Closed q count)
closed_by j k last q count (acts.Closed r n) e = (cc, cc)
closed_by j k last q count _ e = absurd cc

told_by : (j k : ServerId) (last q : Round) (i : ClientId) (t : WindowTold) (a : Act) → line_for j last a ≡ Some (outcomes.Told i k q t) → (k.0 ≡ j.0) × (a ≡ acts.Told i q t)
told_by j k last q i t (acts.Told client r told) e = (cc, cc)
told_by j k last q i t _ e = absurd cc

-- a spoiling, of the round that the server opened last
pub record IsSpoiling (last q : Round) (x : ServerId) (a : Act) : Type 0 where
  pub round : q ≡ last
  pub reason : SpoilReason
  pub kept : List ℕ
  pub came : List ℕ
  pub is : a ≡ acts.Spoiled x reason kept came

spoiled_by : (j k : ServerId) (last q : Round) (x : ServerId) (word : SpoilWord) (a : Act) → line_for j last a ≡ Some (outcomes.Spoiled k q x word) → (k.0 ≡ j.0) × IsSpoiling last q x a
spoiled_by j k last q x word (acts.Spoiled server reason kept came) e =
    (cc, record { round = cc; reason = reason; kept = kept; came = came; is = ap (λ (z : ServerId). acts.Spoiled z reason kept came) (cc) })
spoiled_by j k last q x word _ e = absurd cc

certified_by : (j k : ServerId) (last q : Round) (a : Act) → line_for j last a ≡ Some (outcomes.Certified k q)
    → (k.0 ≡ j.0) × ((e : CertificateView) × (a ≡ acts.Certified e) × (e.body.r ≡ q))
certified_by j k last q (acts.Certified c) e = (cc, (c, refl, cc))
certified_by j k last q _ e = absurd cc

held_by : (j k : ServerId) (last q : Round) (a : Act) → line_for j last a ≡ Some (outcomes.Held (members.Server k) q) → (k.0 ≡ j.0) × (a ≡ acts.Held q)
held_by j k last q (acts.Held r) e = (cc, cc)
held_by j k last q _ e = absurd cc

-- no act's line says that a message was early or that there is none, nor blames
act_taken : (j : ServerId) (last : Round) (a : Act) (o : Outcome) → line_for j last a ≡ Some o → (is_early_or_none o ≡ false) × (is_blame o ≡ false)
act_taken j last (acts.Opened r prev) o e = let is : outcomes.Opened j r prev ≡ o = cc in (ap is_early_or_none (sym is), ap is_blame (sym is))
act_taken j last (acts.Told i r t) o e = let is : outcomes.Told i j r t ≡ o = cc in (ap is_early_or_none (sym is), ap is_blame (sym is))
act_taken j last (acts.Closed r n) o e = let is : outcomes.Closed j r n ≡ o = cc in (ap is_early_or_none (sym is), ap is_blame (sym is))
act_taken j last (acts.Post to bytes) o e = absurd cc
act_taken j last (acts.Spoiled x reason kept came) o e = let is : outcomes.Spoiled j last x (spoil_word_of reason) ≡ o = cc in (ap is_early_or_none (sym is), ap is_blame (sym is))
act_taken j last (acts.Certified c) o e = let is : outcomes.Certified j c.body.r ≡ o = cc in (ap is_early_or_none (sym is), ap is_blame (sym is))
act_taken j last (acts.Held r) o e = let is : outcomes.Held (members.Server j) r ≡ o = cc in (ap is_early_or_none (sym is), ap is_blame (sym is))
act_taken j last acts.Abandoned o e = let is : outcomes.Abandoned j last ≡ o = cc in (ap is_early_or_none (sym is), ap is_blame (sym is))

module _ (g : GroupView) (j : ServerId) (last : Round) (did : List Act) (log : Log) (old new : PartsView) (lines : List Outcome) (so : ActsSo g j last did log old new lines) where
  not_quiet : (o : Outcome) → is_quiet o ≡ true → is_quiet o ≡ false → ⊥
  not_quiet o a b = let e : true ≡ false = sym a ∙ b in absurd cc

  -- a line that tells of a server is that of an act
  act_of : (o : Outcome) → Contains lines o → is_quiet o ≡ false → (a : Act) × Contains did a × (line_for j last a ≡ Some o)
  act_of o h loud =
      elim (so.line o h) [
        | inl put ↦ absurd (not_quiet o (put_is_quiet o put) loud)
        | inr rest ↦ elim rest [ inl act ↦ act | inr plain ↦ absurd (not_quiet o plain.quiet loud) ]
      ]

  in_acts : (a b : Act) → a ≡ b → Contains did a → Contains did b
  in_acts a b is h = subst (Contains did) is h

  pub opened_line : (k : ServerId) (q p : Round) → Contains lines (outcomes.Opened k q p) → (k.0 ≡ j.0) × Contains did (acts.Opened q p)
  opened_line k q p h = let a = act_of _ h refl in let is = opened_by j k last q p a.0 a.2 in (is.0, in_acts a.0 _ is.1 a.1)

  pub closed_line : (k : ServerId) (q : Round) (count : ℕ) → Contains lines (outcomes.Closed k q count) → (k.0 ≡ j.0) × Contains did (acts.Closed q count)
  closed_line k q count h = let a = act_of _ h refl in let is = closed_by j k last q count a.0 a.2 in (is.0, in_acts a.0 _ is.1 a.1)

  pub told_line : (k : ServerId) (i : ClientId) (q : Round) (t : WindowTold) → Contains lines (outcomes.Told i k q t) → (k.0 ≡ j.0) × Contains did (acts.Told i q t)
  told_line k i q t h = let a = act_of _ h refl in let is = told_by j k last q i t a.0 a.2 in (is.0, in_acts a.0 _ is.1 a.1)

  pub spoiled_line : (k : ServerId) (q : Round) (x : ServerId) (word : SpoilWord) → Contains lines (outcomes.Spoiled k q x word)
      → (k.0 ≡ j.0) × (q ≡ last) × ((reason : SpoilReason) × (kept : List ℕ) × (came : List ℕ) × Contains did (acts.Spoiled x reason kept came))
  spoiled_line k q x word h =
      let a = act_of _ h refl in
      let is = spoiled_by j k last q x word a.0 a.2 in
      (is.0, is.1.round, (is.1.reason, is.1.kept, is.1.came, in_acts a.0 _ is.1.is a.1))

  pub certified_line : (k : ServerId) (q : Round) → Contains lines (outcomes.Certified k q)
      → (k.0 ≡ j.0) × ((e : CertificateView) × Contains did (acts.Certified e) × (e.body.r ≡ q))
  certified_line k q h = let a = act_of _ h refl in let is = certified_by j k last q a.0 a.2 in (is.0, (is.1.0, in_acts a.0 _ is.1.1 a.1, is.1.2))

  pub held_line : (k : ServerId) (q : Round) → Contains lines (outcomes.Held (members.Server k) q) → (k.0 ≡ j.0) × Contains did (acts.Held q)
  held_line k q h = let a = act_of _ h refl in let is = held_by j k last q a.0 a.2 in (is.0, in_acts a.0 _ is.1 a.1)

  -- they tell nothing of other servers
  pub of_others : (k : ServerId) → k.0 ≢ j.0 → TellNothingOf k lines
  of_others k other = record {
    opened = λ q p h. other (opened_line k q p h).0;
    closed = λ q count h. other (closed_line k q count h).0;
    told = λ i q t h. other (told_line k i q t h).0;
    spoiled = λ q x word h. other (spoiled_line k q x word h).0;
    certified = λ q h. other (certified_line k q h).0;
    held = λ q h. other (held_line k q h).0;
  }

  -- none of them says that a message was early or that there is none
  pub lines_taken : (o : Outcome) → Contains lines o → is_early_or_none o ≡ false
  lines_taken o h =
      elim (so.line o h) [
        | inl put ↦ put_is_taken o put
        | inr rest ↦ elim rest [ inl act ↦ (act_taken j last act.0 o act.2).0 | inr plain ↦ plain.taken ]
      ]

  -- nor blames
  pub lines_blame_none : (o : Outcome) → Contains lines o → is_blame o ≡ false
  lines_blame_none o h =
      elim (so.line o h) [
        | inl put ↦ put_blames_none o put
        | inr rest ↦ elim rest [ inl act ↦ (act_taken j last act.0 o act.2).1 | inr plain ↦ plain.blames ]
      ]
