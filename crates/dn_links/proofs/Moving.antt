-- A call keeps what ties a core to the run.
use Rattle.std.proofs.Common.{List, sym, ap, subst, ◌∙◌, arith, inl, inr}
use Rattle.std.specs.Prelude.{Contains, Some}
use Rattle.dn_wire.specs.declared.ids.ServerId.{ServerId}
use Rattle.dn_wire.specs.declared.ids.Round.{Round}
use Rattle.dn_wire.specs.declared.ids.SignerId.TheVariants.{Client, Server}
use Rattle.dn_record_types.specs.declared.statement.Statement.TheVariants as kinds
use Rattle.dn_seal.specs.Said.{SaidView}
use Rattle.dn_cert.proofs.Orders.{nothing}
use Rattle.dn_server.specs.Server.{ServerView}
use Rattle.dn_report.specs.declared.outcome.Outcome.{Outcome}
use Rattle.dn_report.specs.declared.outcome.Outcome.TheVariants as outcomes
use Rattle.dn_headline.specs.Log.{Step}
use Rattle.dn_headline.specs.Run.{RunView, PlainMade, SumMade, Happened}
use Rattle.dn_headline.specs.Spoken.{WasSubmitted}
use Rattle.dn_headline.specs.Submissions.{WasTold}
use Rattle.dn_headline.specs.Invariant.{word_of}
use Rattle.dn_headline.specs.Step.{Grows}
use Rattle.dn_links.specs.Link.{IsLinked, Moves, StaysInRound, OpensRound}
use Rattle.dn_headline.proofs.Growing.{said_stays, submitted_stays}

module _ (w : RunView) (history : List Step) (plains : List PlainMade) (sums : List SumMade) (lines : List Outcome)
    (grows : Grows w (record { group = w.group; history = history; plains = plains; sums = sums }) lines)
    (j : ServerId) (c d : ServerView) (link : IsLinked w j c) (moves : Moves (record { group = w.group; history = history; plains = plains; sums = sums }) j c d lines) where
  abbrev v : RunView
  v = record { group = w.group; history = history; plains = plains; sums = sums }

  stays_linked : StaysInRound v j c d lines → IsLinked v j d
  stays_linked stays = record {
    seat = moves.seat ∙ link.seat;
    opened = λ some.
        let round = ap (λ (q : Round). q.0) stays.r in
        let before = grows.happened _ (link.opened (omega arith)) in
        subst (λ (q : Round). Happened v (outcomes.Opened j q d.run.prev)) (sym stays.r) (subst (λ (p : Round). Happened v (outcomes.Opened j c.run.r p)) (sym stays.prev) before);
    opened_below = λ q p h. elim (grows.new (outcomes.Opened j q p) h) [
      | inl old ↦ let below = link.opened_below q p old in let round = ap (λ (q : Round). q.0) stays.r in omega arith
      | inr line ↦ absurd (stays.none_opened q p line)
    ];
    claims = λ i claim at.
        let here : WasTold v j i c.run.r (word_of claim.told) × WasSubmitted v (Client i) (kinds.Submission c.run.r c.run.prev i claim.digest) claim.cipher =
        elim (stays.claims i claim at) [
          | inl old ↦ let was = link.claims i claim old in
              (grows.happened _ was.0, submitted_stays w history plains sums lines grows (Client i) (kinds.Submission c.run.r c.run.prev i claim.digest) claim.cipher was.1)
          | inr new ↦ (grows.told _ new.0, new.1)
        ] in (
          subst (λ (q : Round). WasTold v j i q (word_of claim.told)) (sym stays.r) here.0,
          subst (λ (q : Round). WasSubmitted v (Client i) (kinds.Submission q d.run.prev i claim.digest) claim.cipher) (sym stays.r)
              (subst (λ (p : Round). WasSubmitted v (Client i) (kinds.Submission c.run.r p i claim.digest) claim.cipher) (sym stays.prev) here.1),
        );
    told = λ i word h. elim (grows.new (outcomes.Told i j c.run.r (word_of word)) (subst (λ (q : Round). WasTold v j i q (word_of word)) stays.r h)) [
      | inl old ↦ let claim = link.told i word old in (claim.0, stays.claimed i claim.0 claim.1, claim.2)
      | inr line ↦ stays.told_claimed i word line
    ];
    closed = λ count h. elim (grows.new (outcomes.Closed j c.run.r count) (subst (λ (q : Round). Happened v (outcomes.Closed j q count)) stays.r h)) [
      | inl old ↦ stays.stays_closed (link.closed count old)
      | inr line ↦ (stays.closes c.run.r count line).1
    ];
    closed_below = λ q count h. elim (grows.new (outcomes.Closed j q count) h) [
      | inl old ↦ let below = link.closed_below q count old in let round = ap (λ (q : Round). q.0) stays.r in omega arith
      | inr line ↦ let round = ap (λ (q : Round). q.0) ((stays.closes q count line).0 ∙ sym stays.r) in omega arith
    ];
    told_below = λ i q told h. elim (grows.new (outcomes.Told i j q told) h) [
      | inl old ↦ let below = link.told_below i q told old in let round = ap (λ (q : Round). q.0) stays.r in omega arith
      | inr line ↦ let round = ap (λ (q : Round). q.0) (stays.told i q told line ∙ sym stays.r) in omega arith
    ];
    kept = λ said h. elim (stays.kept said h) [
      | inl old ↦ said_stays w history plains sums lines grows said.signer said.statement (link.kept said old)
      | inr new ↦ new.0
    ];
    kept_round = λ said h. elim (stays.kept said h) [
      | inl old ↦ link.kept_round said old ∙ ap Some (sym stays.r)
      | inr new ↦ new.1 ∙ ap Some (sym stays.r)
    ];
    signed = λ s h. elim (moves.signed s h) [ inl old ↦ said_stays w history plains sums lines grows (Server j) s (link.signed s old) | inr new ↦ new ];
    made = λ sum h. elim (moves.made sum h) [
      | inl old ↦ subst (λ (q : Round). Contains sums (record { server = j; r = q; sum = sum.s })) (sym old.0) (grows.sums _ (link.made sum old.1))
      | inr new ↦ new
    ];
  }

  opens_linked : OpensRound j c d lines → IsLinked v j d
  opens_linked opens =
      let none_kept : (said : SaidView) → Contains d.run.kept said → ⊥ = λ said h.
      nothing said (subst (λ (ss : List SaidView). Contains ss said) opens.none_kept h) in record {
        seat = moves.seat ∙ link.seat;
        opened = λ some. grows.told _ opens.line;
        opened_below = λ q p h. elim (grows.new (outcomes.Opened j q p) h) [
          | inl old ↦ let below = link.opened_below q p old in let above = opens.above in omega arith
          | inr line ↦ let round = ap (λ (q : Round). q.0) (opens.only q p line).0 in omega arith
        ];
        claims = λ i claim at. absurd (opens.none_claimed i claim at);
        told = λ i word h. elim (grows.new (outcomes.Told i j d.run.r (word_of word)) h) [
          | inl old ↦ let below = link.told_below i d.run.r (word_of word) old in let above = opens.above in absurd (omega arith)
          | inr line ↦ absurd (opens.none_told i d.run.r (word_of word) line)
        ];
        closed = λ count h. elim (grows.new (outcomes.Closed j d.run.r count) h) [
          | inl old ↦ let below = link.closed_below d.run.r count old in let above = opens.above in absurd (omega arith)
          | inr line ↦ absurd (opens.none_closed d.run.r count line)
        ];
        closed_below = λ q count h. elim (grows.new (outcomes.Closed j q count) h) [
          | inl old ↦ let below = link.closed_below q count old in let above = opens.above in omega arith
          | inr line ↦ absurd (opens.none_closed q count line)
        ];
        told_below = λ i q told h. elim (grows.new (outcomes.Told i j q told) h) [
          | inl old ↦ let below = link.told_below i q told old in let above = opens.above in omega arith
          | inr line ↦ absurd (opens.none_told i q told line)
        ];
        kept = λ said h. absurd (none_kept said h);
        kept_round = λ said h. absurd (none_kept said h);
        signed = λ s h. elim (moves.signed s h) [ inl old ↦ said_stays w history plains sums lines grows (Server j) s (link.signed s old) | inr new ↦ new ];
        made = λ sum h. elim (moves.made sum h) [
          | inl old ↦ let round = ap (λ (q : Round). q.0) old.0 in let above = opens.above in absurd (omega arith)
          | inr new ↦ new
        ];
      }

  pub still_linked : IsLinked v j d
  still_linked = elim moves.round [ inl stays ↦ stays_linked stays | inr opens ↦ opens_linked opens ]
