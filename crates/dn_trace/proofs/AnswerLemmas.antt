-- What clients answer, from one place to the next.
use Rattle.std.proofs.Common.{◌≡◌, ℕ, ◌+◌, ◌<◌, Bool, true, false, List, length, get_or, set, take, replicate, Some, None, sym, ap, ◌∙◌, subst, arith, inl, inr}
use Rattle.std.specs.Prelude.{◌⊎◌}
use Rattle.std.proofs.lemmas.Bool.{cases_lt, false≢true}
use Rattle.std.proofs.lemmas.List.{get_or_past}
use Rattle.std.proofs.lemmas.List.Elements.{All-contains}
use Rattle.dn_wire.specs.declared.ids.ClientId.{ClientId}
use Rattle.dn_wire.specs.declared.ids.ServerId.{ServerId}
use Rattle.dn_record_types.specs.declared.body.Listed.{Listed}
use Rattle.dn_record_types.specs.declared.statement.Statement.{Statement}
use Rattle.dn_record_types.specs.declared.statement.Statement.TheVariants as kinds
use Rattle.dn_seal.specs.Dealt.{client}
use Rattle.dn_seal.specs.Said.{SaidView}
use Rattle.dn_cert.specs.Evidence.{IsGood}
use Rattle.dn_trace.specs.declared.answers.Answer.{Answer}
use Rattle.dn_trace.specs.declared.answers.Answer.TheVariants as answer
use Rattle.dn_trace.specs.declared.answers.Answers as found
use Rattle.dn_trace.specs.Trial.{Trial, CanJudge, Says, Heard, IsGiven, round_of, servers_of}
use Rattle.dn_trace.specs.Reasons.{IsRebutted, IsListed, Rebuts}
use Rattle.dn_trace.specs.Verdict.{Answers, Concedes}
use Rattle.dn_trace.specs.Evidence.{Tells}
use Rattle.dn_trace.specs.Tables.{AreAnswers, IsAnswer, IsNotedAnswer, IsRebuttalFor, RebutsFalsely, clients_of}
use Rattle.dn_trace.proofs.HeardLemmas.{rebuttal_given}
use Rattle.dn_trace.proofs.Marking.{tells_mark, tells_nothing, tells_same}
use Rattle.dn_trace.proofs.Upto.{upto, said_kept, said_new, said_cases}

-- a concession is heard where it is given
concession_given : (trial : Trial) (i : ℕ) → Concedes trial i → IsGiven trial (client i) (kinds.Concede (round_of trial) trial.k)
concession_given trial i (inl given) = given
concession_given trial i (inr (inl carried)) = let e = carried.is in absurd cc
concession_given trial i (inr (inr entered)) = let e = entered.is in absurd cc

counted_given : (trial : Trial) (i : ℕ) (s : Statement) (j : ℕ) → Rebuts trial i s j → IsGiven trial (client i) s
counted_given trial i s j r = subst (IsGiven trial (client i)) (sym r.is)
    (rebuttal_given trial (client i) (round_of trial) trial.k record { 0 = j } r.seed r.envelope (subst (Heard trial (client i)) r.is r.heard))

pub client_number : (i j : ℕ) → client i ≡ client j → i ≡ j
client_number i j e = let same : id i ≡ id j = cc in ap (λ x. x.0) same
  where
    id : ℕ → ClientId
    id n = record { 0 = n }

same_server : (trial : Trial) (s : Statement) (i j : ℕ) → IsRebuttalFor trial s i → IsRebuttalFor trial s j → i ≡ j
same_server trial s i j a b = let e = sym a.2 ∙ b.2 in let same : id i ≡ id j = cc in ap (λ x. x.0) same
  where
    id : ℕ → ServerId
    id n = record { 0 = n }

module _ (trial : Trial) (n : ℕ) (x : SaidView) (lt : n < length trial.given) (at : get_or trial.given n x ≡ x) where
  rebuts_kept : (i : ℕ) (s : Statement) (j : ℕ) → Rebuts (upto trial n) i s j → Rebuts (upto trial (n + 1)) i s j
  rebuts_kept i s j r = record {
    listed = r.listed;
    seed = r.seed;
    envelope = r.envelope;
    is = r.is;
    heard = inl (said_kept trial.given n x lt at (client i) s (counted_given (upto trial n) i s j r));
  }

  rebuts_here : (i j : ℕ) → IsListed trial i → x.signer ≡ client i → IsRebuttalFor trial x.statement j → Rebuts (upto trial (n + 1)) i x.statement j
  rebuts_here i j listed by for = record {
    listed = listed;
    seed = for.0;
    envelope = for.1;
    is = for.2;
    heard = inl (subst (λ w. Says (take (n + 1) trial.given) w x.statement) by (said_new trial.given n x lt at));
  }

  rebuts_cases : (i : ℕ) (s : Statement) (j : ℕ) → Rebuts (upto trial (n + 1)) i s j
      → Rebuts (upto trial n) i s j ⊎ ((x.signer ≡ client i) × (x.statement ≡ s) × IsRebuttalFor trial x.statement j)
  rebuts_cases i s j r = elim (said_cases trial.given n x lt at (client i) s (counted_given (upto trial (n + 1)) i s j r)) [
    | inl before ↦ inl record { listed = r.listed; seed = r.seed; envelope = r.envelope; is = r.is; heard = inl before }
    | inr here ↦ inr (here.0, here.1, (r.seed, r.envelope, here.1 ∙ r.is))
  ]

  concedes_kept : (i : ℕ) → Concedes (upto trial n) i → Concedes (upto trial (n + 1)) i
  concedes_kept i c = inl (said_kept trial.given n x lt at (client i) (kinds.Concede (round_of trial) trial.k) (concession_given (upto trial n) i c))

  concedes_here : (i : ℕ) → x.signer ≡ client i → x.statement ≡ kinds.Concede (round_of trial) trial.k → Concedes (upto trial (n + 1)) i
  concedes_here i by is = inl
      (subst (λ w. Says (take (n + 1) trial.given) w (kinds.Concede (round_of trial) trial.k)) by
      (subst (Says (take (n + 1) trial.given) x.signer) is (said_new trial.given n x lt at)))

  concedes_cases : (i : ℕ) → Concedes (upto trial (n + 1)) i
      → Concedes (upto trial n) i ⊎ ((x.signer ≡ client i) × (x.statement ≡ kinds.Concede (round_of trial) trial.k))
  concedes_cases i c = elim (said_cases trial.given n x lt at (client i) (kinds.Concede (round_of trial) trial.k) (concession_given (upto trial (n + 1)) i c)) [
    | inl before ↦ inl (inl before)
    | inr here ↦ inr here
  ]

  rebutted_kept : (j : ℕ) → IsRebutted (upto trial n) j → IsRebutted (upto trial (n + 1)) j
  rebutted_kept j r = record { i = r.i; s = r.s; rebuts = rebuts_kept r.i r.s j r.rebuts; good = r.good }

  rebutted_cases : (j : ℕ) → IsRebutted (upto trial (n + 1)) j
      → IsRebutted (upto trial n) j
      ⊎ ((i : ℕ) × IsListed trial i × (x.signer ≡ client i) × IsRebuttalFor trial x.statement j × IsGood trial.roster record { 0 = i } x.statement)
  rebutted_cases j r = elim (rebuts_cases r.i r.s j r.rebuts) [
    | inl before ↦ inl record { i = r.i; s = r.s; rebuts = before; good = r.good }
    | inr here ↦ inr (r.i, r.rebuts.listed, here.0, here.2, subst (IsGood trial.roster record { 0 = r.i }) (sym here.1) r.good)
  ]

  badly_kept : (i : ℕ) → RebutsFalsely (upto trial n) i → RebutsFalsely (upto trial (n + 1)) i
  badly_kept i r = record { s = r.s; j = r.j; rebuts = rebuts_kept i r.s r.j r.rebuts; bad = r.bad }

  badly_cases : (i : ℕ) → RebutsFalsely (upto trial (n + 1)) i
      → RebutsFalsely (upto trial n) i
      ⊎ (IsListed trial i × (x.signer ≡ client i) × ((j : ℕ) × IsRebuttalFor trial x.statement j) × ¬ IsGood trial.roster record { 0 = i } x.statement)
  badly_cases i r = elim (rebuts_cases i r.s r.j r.rebuts) [
    | inl before ↦ inl record { s = r.s; j = r.j; rebuts = before; bad = r.bad }
    | inr here ↦ inr (r.rebuts.listed, here.0, (r.j, here.2), λ good. r.bad (subst (IsGood trial.roster record { 0 = i }) here.1 good))
  ]

  conceded_kept : (i : ℕ) → IsListed trial i × Concedes (upto trial n) i → IsListed trial i × Concedes (upto trial (n + 1)) i
  conceded_kept i c = (c.0, concedes_kept i c.1)

  conceded_cases : (i : ℕ) → IsListed trial i × Concedes (upto trial (n + 1)) i
      → (IsListed trial i × Concedes (upto trial n) i) ⊎ (IsListed trial i × (x.signer ≡ client i) × (x.statement ≡ kinds.Concede (round_of trial) trial.k))
  conceded_cases i c = elim (concedes_cases i c.1) [ inl before ↦ inl (c.0, before) | inr here ↦ inr (c.0, here.0, here.1) ]

  answered_kept : (i : ℕ) → IsListed trial i × Answers (upto trial n) i → IsListed trial i × Answers (upto trial (n + 1)) i
  answered_kept i a = (a.0, elim a.1 [ inl r ↦ inl (r.0, r.1, rebuts_kept i r.0 r.1 r.2) | inr c ↦ inr (concedes_kept i c) ])

  answered_cases : (i : ℕ) → IsListed trial i × Answers (upto trial (n + 1)) i
      → (IsListed trial i × Answers (upto trial n) i)
      ⊎ (IsListed trial i × (x.signer ≡ client i) × (((j : ℕ) × IsRebuttalFor trial x.statement j) ⊎ (x.statement ≡ kinds.Concede (round_of trial) trial.k)))
  answered_cases i a = elim a.1 [
    | inl r ↦ elim (rebuts_cases i r.0 r.1 r.2) [ inl before ↦ inl (a.0, inl (r.0, r.1, before)) | inr here ↦ inr (a.0, here.0, inl (r.1, here.2)) ]
    | inr c ↦ elim (concedes_cases i c) [ inl before ↦ inl (a.0, inr before) | inr here ↦ inr (a.0, here.0, inr here.1) ]
  ]

  module _ (rebutted badly conceded answered : List Bool) (old : AreAnswers (upto trial n) rebutted badly conceded answered) where
    -- nothing is answered here
    pub answers_skip : ((i : ℕ) → IsListed trial i → x.signer ≡ client i → IsAnswer trial i x.statement None)
        → AreAnswers (upto trial (n + 1)) rebutted badly conceded answered
    answers_skip skip = record {
      rebutted = tells_same (servers_of trial) (IsRebutted (upto trial n)) (IsRebutted (upto trial (n + 1))) rebutted old.rebutted rebutted_kept
          (λ j r. elim (rebutted_cases j r) [ inl before ↦ before | inr here ↦ absurd ((skip here.0 here.1 here.2).0 j here.3) ]);
      badly = tells_same (clients_of trial) (RebutsFalsely (upto trial n)) (RebutsFalsely (upto trial (n + 1))) badly old.badly badly_kept
          (λ i r. elim (badly_cases i r) [ inl before ↦ before | inr here ↦ absurd ((skip i here.0 here.1).0 here.2.0 here.2.1) ]);
      conceded = tells_same (clients_of trial) (λ i. IsListed trial i × Concedes (upto trial n) i) (λ i. IsListed trial i × Concedes (upto trial (n + 1)) i) conceded old.conceded conceded_kept
          (λ i c. elim (conceded_cases i c) [ inl before ↦ before | inr here ↦ absurd ((skip i here.0 here.1).1 here.2) ]);
      answered = tells_same (clients_of trial) (λ i. IsListed trial i × Answers (upto trial n) i) (λ i. IsListed trial i × Answers (upto trial (n + 1)) i) answered old.answered answered_kept
          (λ i a. elim (answered_cases i a) [
            | inl before ↦ before
            | inr here ↦ elim here.2 [
              | inl r ↦ absurd ((skip i here.0 here.1).0 r.0 r.1)
              | inr c ↦ absurd ((skip i here.0 here.1).1 c)
            ]
          ]);
    }

    -- client a, which the body lists, answers here
    module _ (a : ℕ) (listed : IsListed trial a) (by : x.signer ≡ client a) where
      is_a : (i : ℕ) → x.signer ≡ client i → i ≡ a
      is_a i e = client_number i a (sym e ∙ by)

      answered_mark : ((j : ℕ) × IsRebuttalFor trial x.statement j) ⊎ (x.statement ≡ kinds.Concede (round_of trial) trial.k)
          → Tells (set answered a true) (clients_of trial) (λ i. IsListed trial i × Answers (upto trial (n + 1)) i)
      answered_mark here = tells_mark (clients_of trial) (λ i. IsListed trial i × Answers (upto trial n) i) (λ i. IsListed trial i × Answers (upto trial (n + 1)) i) answered old.answered a answered_kept
          (λ i q. elim (answered_cases i q) [ inl before ↦ inl before | inr w ↦ inr (is_a i w.1) ])
          (listed, elim here [ inl r ↦ inl (x.statement, r.0, rebuts_here a r.0 listed by r.1) | inr c ↦ inr (concedes_here a by c) ])

      no_concession : (j : ℕ) → IsRebuttalFor trial x.statement j → (i : ℕ) → IsListed trial i × Concedes (upto trial (n + 1)) i → IsListed trial i × Concedes (upto trial n) i
      no_concession j for i c = elim (conceded_cases i c) [ inl before ↦ before | inr here ↦ absurd (apart for.2 here.2) ]
        where
          apart : {seed envelope : List ℕ} {s : Statement} → s ≡ kinds.Rebuttal (round_of trial) trial.k record { 0 = j } seed envelope → s ≡ kinds.Concede (round_of trial) trial.k → ⊥
          apart p q = cc

      conceded_same : (j : ℕ) → IsRebuttalFor trial x.statement j → Tells conceded (clients_of trial) (λ i. IsListed trial i × Concedes (upto trial (n + 1)) i)
      conceded_same j for = tells_same (clients_of trial) (λ i. IsListed trial i × Concedes (upto trial n) i) (λ i. IsListed trial i × Concedes (upto trial (n + 1)) i) conceded old.conceded conceded_kept (no_concession j for)

      pub answers_good : (j : ℕ) → IsRebuttalFor trial x.statement j → IsGood trial.roster record { 0 = a } x.statement
          → AreAnswers (upto trial (n + 1)) (set rebutted j true) badly conceded (set answered a true)
      answers_good j for good = record {
        rebutted = tells_mark (servers_of trial) (IsRebutted (upto trial n)) (IsRebutted (upto trial (n + 1))) rebutted old.rebutted j rebutted_kept
            (λ k r. elim (rebutted_cases k r) [ inl before ↦ inl before | inr here ↦ inr (same_server trial x.statement k j here.3 for) ])
            record { i = a; s = x.statement; rebuts = rebuts_here a j listed by for; good = good };
        badly = tells_same (clients_of trial) (RebutsFalsely (upto trial n)) (RebutsFalsely (upto trial (n + 1))) badly old.badly badly_kept
            (λ i r. elim (badly_cases i r) [
              | inl before ↦ before
              | inr here ↦ absurd (here.3 (subst (λ k. IsGood trial.roster record { 0 = k } x.statement) (sym (is_a i here.1)) good))
            ]);
        conceded = conceded_same j for;
        answered = answered_mark (inl (j, for));
      }

      pub answers_bad : (j : ℕ) → IsRebuttalFor trial x.statement j → ¬ IsGood trial.roster record { 0 = a } x.statement
          → AreAnswers (upto trial (n + 1)) rebutted (set badly a true) conceded (set answered a true)
      answers_bad j for bad = record {
        rebutted = tells_same (servers_of trial) (IsRebutted (upto trial n)) (IsRebutted (upto trial (n + 1))) rebutted old.rebutted rebutted_kept
            (λ k r. elim (rebutted_cases k r) [
              | inl before ↦ before
              | inr here ↦ absurd (bad (subst (λ m. IsGood trial.roster record { 0 = m } x.statement) (is_a here.0 here.2) here.4))
            ]);
        badly = tells_mark (clients_of trial) (RebutsFalsely (upto trial n)) (RebutsFalsely (upto trial (n + 1))) badly old.badly a badly_kept
            (λ i r. elim (badly_cases i r) [ inl before ↦ inl before | inr here ↦ inr (is_a i here.1) ])
            record { s = x.statement; j = j; rebuts = rebuts_here a j listed by for; bad = bad };
        conceded = conceded_same j for;
        answered = answered_mark (inl (j, for));
      }

      no_rebuttal : x.statement ≡ kinds.Concede (round_of trial) trial.k → (j : ℕ) → IsRebuttalFor trial x.statement j → ⊥
      no_rebuttal is j for = let e = for.2 in cc

      pub answers_concession : x.statement ≡ kinds.Concede (round_of trial) trial.k
          → AreAnswers (upto trial (n + 1)) rebutted badly (set conceded a true) (set answered a true)
      answers_concession is = record {
        rebutted = tells_same (servers_of trial) (IsRebutted (upto trial n)) (IsRebutted (upto trial (n + 1))) rebutted old.rebutted rebutted_kept
            (λ j r. elim (rebutted_cases j r) [ inl before ↦ before | inr here ↦ absurd (no_rebuttal is j here.3) ]);
        badly = tells_same (clients_of trial) (RebutsFalsely (upto trial n)) (RebutsFalsely (upto trial (n + 1))) badly old.badly badly_kept
            (λ i r. elim (badly_cases i r) [ inl before ↦ before | inr here ↦ absurd (no_rebuttal is here.2.0 here.2.1) ]);
        conceded = tells_mark (clients_of trial) (λ i. IsListed trial i × Concedes (upto trial n) i) (λ i. IsListed trial i × Concedes (upto trial (n + 1)) i) conceded old.conceded a conceded_kept
            (λ i c. elim (conceded_cases i c) [ inl before ↦ inl before | inr here ↦ inr (is_a i here.1) ])
            (listed, concedes_here a by is);
        answered = answered_mark (inr is);
      }

-- an answer of client a, which the body lists, is noted
module _ (trial : Trial) (n : ℕ) (x : SaidView) (lt : n < length trial.given) (at : get_or trial.given n x ≡ x)
    (old new : found.Answers) (are : AreAnswers (upto trial n) old.is_rebutted.items old.rebuts_badly.items old.concedes.items old.answers.items)
    (a : ℕ) (listed : IsListed trial a) (by : x.signer ≡ client a) where
  pub answers_noted : (given : Answer) → IsAnswer trial a x.statement (Some given) → IsNotedAnswer a given old new
      → AreAnswers (upto trial (n + 1)) new.is_rebutted.items new.rebuts_badly.items new.concedes.items new.answers.items
  answers_noted (answer.Rebuts j) is noted =
      rw (noted.0, noted.1, noted.2, noted.3)
      (answers_good trial n x lt at old.is_rebutted.items old.rebuts_badly.items old.concedes.items old.answers.items are a listed by j.0 is.0 is.1)
  answers_noted answer.RebutsBadly is noted =
      rw (noted.0, noted.1, noted.2, noted.3)
      (answers_bad trial n x lt at old.is_rebutted.items old.rebuts_badly.items old.concedes.items old.answers.items are a listed by is.0.0 is.0.1 is.1)
  answers_noted answer.Concedes is noted =
      rw (noted.0, noted.1, noted.2, noted.3)
      (answers_concession trial n x lt at old.is_rebutted.items old.rebuts_badly.items old.concedes.items old.answers.items are a listed by is)

-- nobody answers in nothing
pub answers_none : (trial : Trial)
    → AreAnswers (upto trial 0) (replicate (servers_of trial) false) (replicate (clients_of trial) false) (replicate (clients_of trial) false) (replicate (clients_of trial) false)
answers_none trial = record {
  rebutted = tells_nothing (servers_of trial) (IsRebutted (upto trial 0)) (λ j r. nothing r.i r.s (counted_given (upto trial 0) r.i r.s j r.rebuts));
  badly = tells_nothing (clients_of trial) (RebutsFalsely (upto trial 0)) (λ i r. nothing i r.s (counted_given (upto trial 0) i r.s r.j r.rebuts));
  conceded = tells_nothing (clients_of trial) (λ i. IsListed trial i × Concedes (upto trial 0) i)
      (λ i c. nothing i (kinds.Concede (round_of trial) trial.k) (concession_given (upto trial 0) i c.1));
  answered = tells_nothing (clients_of trial) (λ i. IsListed trial i × Answers (upto trial 0) i) (λ i a. elim a.1 [
    | inl r ↦ nothing i r.0 (counted_given (upto trial 0) i r.0 r.1 r.2)
    | inr c ↦ nothing i (kinds.Concede (round_of trial) trial.k) (concession_given (upto trial 0) i c)
  ]);
}
  where
    nothing : (i : ℕ) (s : Statement) → IsGiven (upto trial 0) (client i) s → ⊥
    nothing i s says = omega (arith, says.1.1)

-- ---- the clients that the body lists

module _ (trial : Trial) (flags : List Bool) (tells : Tells flags (clients_of trial) (IsListed trial)) (i : ℕ) where
  pub flag_listed : get_or flags i false ≡ true → IsListed trial i
  flag_listed on =
      elim (cases_lt i (length flags)) [
        | inl lt ↦ (tells.each i (omega (arith, tells.size, lt))).0 on
        | inr ge ↦ absurd (false≢true (sym (get_or_past flags i false ge) ∙ on))
      ]

  pub flag_unlisted : CanJudge trial → get_or flags i false ≡ false → ¬ IsListed trial i
  flag_unlisted can off listed =
      let within = All-contains (λ (l : Listed). (l.client.0 < clients_of trial) × (l.server.0 < servers_of trial)) trial.body.listed listed.0 can.listed listed.1 in
      false≢true (sym off ∙ (tells.each i (omega (arith, within.0, listed.2))).1 listed)
