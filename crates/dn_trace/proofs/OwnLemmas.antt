-- The faults that a server's own statements show.
use Rattle.std.proofs.Common.{◌≡◌, ◌≢◌, ℕ, ◌+◌, ◌<◌, ◌≤◌, Bool, List, [], ◌∷◌, ◌++◌, length, get_or, refl, sym, ap, ◌∙◌, subst, arith, inl, inr, length-append}
use Rattle.std.specs.Prelude.{Contains}
use Rattle.std.proofs.lemmas.Option.{same_Some}
use Rattle.std.proofs.lemmas.Bool.{cases_lt}
use Rattle.std.proofs.lemmas.List.{same_lists, get_or_default}
use Rattle.std.proofs.lemmas.Grind.{common_steps}
use Rattle.std.proofs.lemmas.List.Elements.{All-push}
use Rattle.dn_wire.specs.declared.ids.Round.{Round}
use Rattle.dn_bits.specs.Bits.{bit, bytes_of, sum_bits, xor_bits, zeros}
use Rattle.dn_bits.proofs.SumLemmas as sums
use Rattle.dn_hash.specs.Digests.{server_digest_of}
use Rattle.dn_record_types.specs.Place.{reveal_of, commit_of, shown_of, pad_bits_of}
use Rattle.dn_record_types.specs.declared.shown.ShownCipher.{ShownCipher}
use Rattle.dn_record_types.specs.declared.statement.Statement.{Statement}
use Rattle.dn_record_types.specs.declared.statement.Statement.TheVariants as kinds
use Rattle.dn_layout.specs.Layout.{bits_of}
use Rattle.dn_seal.specs.Dealt.{server}
use Rattle.dn_seal.specs.Said.{SaidView}
use Rattle.dn_wire.specs.declared.ids.SignerId.{SignerId}
use Rattle.dn_trace.specs.declared.fault.Fault.{Fault}
use Rattle.dn_trace.specs.declared.fault.Fault.TheVariants as faults
use Rattle.dn_trace.specs.Trial.{Trial, Heard, IsGiven, Says, round_of, servers_of}
use Rattle.dn_trace.specs.Reasons.{IsTwice, HasFalseEntry, HasFalseCommit, ShowsWrong, HasFalseSum, HasFalseOutput, IsFirstShown, Shows, Signed, summed}
use Rattle.dn_trace.specs.Verdict.{ServerHas, reason}
use Rattle.dn_trace.specs.Evidence.{IsOpening, IsSumBelow}
use Rattle.dn_trace.proofs.HeardLemmas.{first_shows}
use Rattle.dn_bits.proofs.BitLemmas.{length-sum_all}

-- a server's statement that isn't pad bits is heard where it is given
pub server_given : (trial : Trial) (j : ℕ) (s : Statement) → ((r : Round) (k : ℕ) (pad : List Bool) → ¬ (s ≡ kinds.PadBits r k pad)) → Heard trial (server j) s → IsGiven trial (server j) s
server_given trial j s other (inl given) = given
server_given trial j s other (inr (inl c)) = absurd (other c.signed_r c.signed_k c.bits c.is)
server_given trial j s other (inr (inr entered)) = let e = entered.client in absurd cc

module _ (trial : Trial) (j : ℕ) where
  r : Round
  r = round_of trial

  pub reveal_given : (s : List Bool) → Heard trial (server j) (kinds.Reveal (round_of trial) s) → IsGiven trial (server j) (kinds.Reveal (round_of trial) s)
  reveal_given s heard = server_given trial j (kinds.Reveal (round_of trial) s) (λ a b c e. cc) heard

  pub commit_given : (d : List ℕ) → Heard trial (server j) (kinds.Commit (round_of trial) d) → IsGiven trial (server j) (kinds.Commit (round_of trial) d)
  commit_given d heard = server_given trial j (kinds.Commit (round_of trial) d) (λ a b c e. cc) heard

  module _ (not_twice : ¬ IsTwice trial j) where
    one_reveal : (s t : List Bool) → Heard trial (server j) (kinds.Reveal (round_of trial) s) → Heard trial (server j) (kinds.Reveal (round_of trial) t) → ¬ (¬ (s ≡ t))
    one_reveal s t a b differ = not_twice record {
      place = reveal_of (round_of trial);
      judged = refl;
      one = kinds.Reveal (round_of trial) s;
      makes_one = (a, refl);
      other = kinds.Reveal (round_of trial) t;
      makes_other = (b, refl);
      differ = λ e. differ cc;
    }

    one_commit : (s t : List ℕ) → Heard trial (server j) (kinds.Commit (round_of trial) s) → Heard trial (server j) (kinds.Commit (round_of trial) t) → ¬ (¬ (s ≡ t))
    one_commit s t a b differ = not_twice record {
      place = commit_of (round_of trial);
      judged = refl;
      one = kinds.Commit (round_of trial) s;
      makes_one = (a, refl);
      other = kinds.Commit (round_of trial) t;
      makes_other = (b, refl);
      differ = λ e. differ cc;
    }

    pub one_pad : (s t : List Bool) → Signed trial j s → Signed trial j t → ¬ (¬ (s ≡ t))
    one_pad s t a b differ = not_twice record {
      place = pad_bits_of (round_of trial) trial.k;
      judged = (refl, refl);
      one = kinds.PadBits (round_of trial) trial.k s;
      makes_one = (a, refl);
      other = kinds.PadBits (round_of trial) trial.k t;
      makes_other = (b, refl);
      differ = λ e. differ cc;
    }

    pub one_shown : (s t : List Bool) (of other : List ShownCipher) → Shows trial j s of → Shows trial j t other → ¬ (¬ ((s ≡ t) × (of ≡ other)))
    one_shown s t of other a b differ = not_twice record {
      place = shown_of (round_of trial);
      judged = refl;
      one = kinds.Shown (round_of trial) s of;
      makes_one = (a, refl);
      other = kinds.Shown (round_of trial) t other;
      makes_other = (b, refl);
      differ = λ e. differ (cc, cc);
    }

    -- one ciphertext revealed and one digest told, which agree
    pub commit_right : (s : List Bool) (d : List ℕ) → Heard trial (server j) (kinds.Reveal (round_of trial) s) → Heard trial (server j) (kinds.Commit (round_of trial) d)
        → server_digest_of (round_of trial).0 j (bytes_of s) ≡ d → ¬ HasFalseCommit trial j
    commit_right s d revealed told agree f =
        one_reveal s f.s revealed f.revealed (λ same_s. one_commit d f.digest told f.told (λ same_d.
        f.differ (ap (λ x. server_digest_of (round_of trial).0 j (bytes_of x)) (sym same_s) ∙ agree ∙ same_d)))

    pub sum_right : (s : List Bool) (shown : List ShownCipher) (pad : List Bool) → IsOpening trial j s shown pad
        → ¬ (bit s trial.k ≢ summed trial pad shown) → ¬ HasFalseSum trial j
    sum_right s shown pad opening agree f =
        one_shown s f.s shown f.shown opening.shows f.shows (λ same. one_pad pad f.pad opening.signed f.signed (λ same_pad.
        agree (λ sum. f.differ (ap (λ x. bit x trial.k) (sym same.0) ∙ sum ∙ (λ i. summed trial (same_pad i) (same.1 i))))))

    pub own_none : ¬ HasFalseEntry trial j → ¬ HasFalseCommit trial j → ¬ ShowsWrong trial j → ¬ HasFalseSum trial j → (fault : Fault) → reason fault ≤ 5 → ¬ ServerHas trial j fault
    own_none entry commit shown sum faults.Twice le has = not_twice has
    own_none entry commit shown sum faults.Entry le has = entry has
    own_none entry commit shown sum faults.Commit le has = commit has
    own_none entry commit shown sum faults.Shown le has = shown has
    own_none entry commit shown sum faults.Sum le has = sum has
    own_none entry commit shown sum faults.Pad le has = omega arith
    own_none entry commit shown sum faults.Output le has = omega arith
    own_none entry commit shown sum faults.Double le has = has
    own_none entry commit shown sum faults.Rebuttal le has = has
    own_none entry commit shown sum faults.Conceded le has = has

    pub closed_sum : ¬ ((s : List Bool) × (shown : List ShownCipher) × (pad : List Bool) × Shows trial j s shown × Signed trial j pad) → ¬ HasFalseSum trial j
    closed_sum closed f = closed (f.s, f.shown, f.pad, f.shows, f.signed)

-- ---- the output

pub one_first : (trial : Trial) (j : ℕ) (s t : List Bool) → IsFirstShown trial j s → IsFirstShown trial j t → s ≡ t
one_first trial j s t a b =
    let same = same_Some a.said b.said (sym a.first ∙ b.first) in
    let one : kinds.Shown (round_of trial) s a.shown ≡ kinds.Shown (round_of trial) t b.shown = sym a.is ∙ ap (λ x. x.statement) same ∙ b.is in
    cc

sum-push : (n : ℕ) (xs : List (List Bool)) (x : List Bool) → length x ≡ n → sum_bits n (xs ++ x ∷ []) ≡ xor_bits (sum_bits n xs) x
sum-push n [] x long = sums.xor_zeros x n long ∙ sym (sums.zeros_xor x n long)
sum-push n (y ∷ ys) x long = ap (xor_bits y) (sum-push n ys x long) ∙ sym (sums.xor_assoc y (sum_bits n ys) x)

at_push : {X : Type 0} (xs : List X) (x d : X) → get_or (xs ++ x ∷ []) (length xs) d ≡ x
at_push [] x d = refl
at_push (y ∷ ys) x d = at_push ys x d

before_push : {X : Type 0} (xs : List X) (x d : X) (k : ℕ) → k < length xs → get_or (xs ++ x ∷ []) k d ≡ get_or xs k d
before_push xs x d k lt = grind (arith, common_steps)

module _ (trial : Trial) where
  pub sum_none : IsSumBelow trial 0 (zeros (bits_of trial.layout))
  sum_none = record {
    shown = [];
    each = refl;
    first = λ x lt. absurd (omega arith);
    right = λ x lt. absurd (omega arith);
    long = λ k d lt. absurd (omega arith);
    is = refl;
  }

  pub sum_long : (j : ℕ) (sum : List Bool) → IsSumBelow trial j sum → length sum ≡ bits_of trial.layout
  sum_long j sum below = ap length below.is ∙ length-sum_all (bits_of trial.layout) below.shown below.long

  pub sum_more : (j : ℕ) (sum s : List Bool) → IsSumBelow trial j sum → IsFirstShown trial j s → ¬ ShowsWrong trial j → length s ≡ length sum → IsSumBelow trial (j + 1) (xor_bits sum s)
  sum_more j sum s below first right long =
      let n = bits_of trial.layout in
      let s_long : length s ≡ n = long ∙ sum_long j sum below in
      record {
        shown = below.shown ++ s ∷ [];
        each = length-append below.shown (s ∷ []) ∙ ap (λ x. x + 1) below.each;
        first = λ x lt. elim (cases_lt x j) [
          | inl less ↦ subst (IsFirstShown trial x) (sym (before_push below.shown s [] x (omega (arith, below.each)))) (below.first x less)
          | inr ge ↦
              let same : x ≡ j = omega arith in
              let here : get_or (below.shown ++ s ∷ []) x [] ≡ s = ap (λ y. get_or (below.shown ++ s ∷ []) y []) (same ∙ sym below.each) ∙ at_push below.shown s [] in
              subst (IsFirstShown trial x) (sym here) (subst (λ y. IsFirstShown trial y s) (sym same) first)
        ];
        right = λ x lt. elim (cases_lt x j) [
          | inl less ↦ below.right x less
          | inr ge ↦ let same : x ≡ j = omega arith in subst (λ y. ¬ ShowsWrong trial y) (sym same) right
        ];
        long = All-push (λ y. length y ≡ n) below.shown s below.long s_long;
        is = ap (λ x. xor_bits x s) below.is ∙ sym (sum-push n below.shown s s_long);
      }

  pub output_from : (sum : List Bool) → IsSumBelow trial (servers_of trial) sum → ¬ (sum ≡ trial.body.out) → HasFalseOutput trial
  output_from sum all differ = record {
    shown = all.shown;
    each = all.each;
    first = all.first;
    right = all.right;
    differ = λ e. differ (all.is ∙ sym e);
  }

  pub output_to : (sum : List Bool) → IsSumBelow trial (servers_of trial) sum → sum ≡ trial.body.out → ¬ HasFalseOutput trial
  output_to sum all same f =
      let one : f.shown ≡ all.shown = same_lists f.shown all.shown (f.each ∙ sym all.each) (λ x d lt.
      let within : x < servers_of trial = omega (arith, f.each) in
      get_or_default f.shown x d [] lt ∙ one_first trial x (get_or f.shown x []) (get_or all.shown x []) (f.first x within) (all.first x within)
      ∙ sym (get_or_default all.shown x d [] (omega (arith, all.each)))) in
      f.differ (sym same ∙ all.is ∙ ap (sum_bits (bits_of trial.layout)) (sym one))

  -- a server whose first ciphertext is too long or too short shows wrong
  pub long_right : (j : ℕ) (s : List Bool) → IsFirstShown trial j s → ¬ (length s ≡ bits_of trial.layout) → ¬ (¬ ShowsWrong trial j)
  long_right j s first other right = right record {
    s = s;
    shown = first.shown;
    shows = first_shows trial j s first;
    wrong = λ is. other is.long;
  }

-- the same said among the same
pub says_at : (xs ys : List SaidView) (who : SignerId) (s t : Statement) → xs ≡ ys → s ≡ t → Says xs who s → Says ys who t
says_at xs ys who s t e f says = (says.0, subst (λ l. Contains l says.0) e says.1, says.2, says.3 ∙ f)
