-- A worker of a live run goes on.
use Rattle.std.proofs.Common.{◌≡◌, ℕ, ◌+◌, ◌<◌, ◌≤◌, List, [], ◌∷◌, ◌++◌, length, refl, sym, ap, subst, ◌∙◌, arith, Option, None, Some, IfSome, IfNone, ◌⊎◌, inl, inr}
use Rattle.dn_counts.specs.Numbers.{least}
use Rattle.dn_wire.specs.declared.ids.ServerId.{ServerId}
use Rattle.dn_roster.specs.Roster.{RosterView}
use Rattle.dn_server.specs.Server.{ServerView}
use Rattle.dn_turns.specs.Logs.{under, Follows, GrowsBelow}
use Rattle.dn_turns.specs.Rule.{limit}
use Rattle.dn_turns.specs.Turns.{LockId, PassView, IsSamePass}
use Rattle.dn_turns.proofs.Own.{under-given}
use Rattle.dn_board.specs.declared.letters.Letter.{Letter}
use Rattle.dn_board.specs.declared.post.Post.{Post}
use Rattle.dn_board.specs.Reads.{last_place}
use Rattle.dn_crew.specs.Live.{Makes, letters_between, payloads_of}
use Rattle.dn_crew.specs.Workers.{post_of, IsAt}
use Rattle.dn_crew.proofs.LiveLemmas.{turned_more}

pub none_or_some : (o : Option ℕ) → (o ≡ None) ⊎ ((n : ℕ) × (o ≡ Some n))
none_or_some None = inl refl
none_or_some (Some n) = inr (n, refl)

not_both : {o : Option ℕ} {n : ℕ} → o ≡ None → o ≡ Some n → ⊥
not_both e f = cc

module _ (lock : LockId) (roster : RosterView) (servers : List ServerId) (first : List Letter) (w : ℕ) (v : ServerView) where
  -- it took its turn, and gave its post
  pub at_posted : (turns : ℕ) (p q r : PassView Post (List Letter)) (core after : ServerView) (inbox more : List (List ℕ)) (made : List Letter) (log : List (ℕ × Post))
      → IsAt lock roster servers first w v turns p core inbox → Makes roster servers core inbox made after → after.seat ≡ core.seat
      → IsSamePass p q → p.full ≡ None → q.full ≡ None → q.drawn ≡ p.drawn + 1 → Follows p.numbers p.seen log → GrowsBelow lock.passes p.seen log → under p.numbers log ≡ under p.numbers p.seen
      → IsSamePass q r → r.drawn ≡ q.drawn → r.full ≡ q.full → r.turn ≡ None → r.seen ≡ log ++ (least q.numbers, post_of after (least q.numbers) log made) ∷ []
      → more ≡ payloads_of (letters_between first log after.seat.number (last_place (least q.numbers) log) (length log + 1))
      → IsAt lock roster servers first w v (turns + 1) r after more
  at_posted turns p q r core after inbox more made log h makes seats pq pf qf qd follows grows own qr rd rf rt seen em =
      let pn = h.numbers in
      let qn : q.numbers ≡ w ∷ [] = pq.3 ∙ pn in
      let rn : r.numbers ≡ w ∷ [] = qr.3 ∙ qn in
      let low : least q.numbers ≡ w = ap least qn in
      let seen_is : r.seen ≡ log ++ (w, post_of after w log made) ∷ [] = subst (λ n. r.seen ≡ log ++ (n, post_of after n log made) ∷ []) low seen in
      let follows' = subst (λ ns. Follows ns p.seen log) pn follows in
      let own' = subst (λ ns. under ns log ≡ under ns p.seen) pn own in
      let given : under (w ∷ []) r.seen ≡ under (w ∷ []) log ++ (w, post_of after w log made) ∷ [] = ap (under (w ∷ [])) seen_is ∙ under-given (w ∷ []) log (post_of after w log made) (omega arith) in
      let more' = subst (λ n. more ≡ payloads_of (letters_between first log after.seat.number (last_place n log) (length log + 1))) low em in
      record {
        lock_is = qr.0 ∙ pq.0 ∙ h.lock_is;
        idle = rt;
        base_is = qr.2 ∙ pq.2 ∙ h.base_is;
        numbers = rn;
        inside = h.inside;
        few = omega (arith, rd, qd, h.few);
        alone = λ _. rf ∙ qf;
        seat = seats ∙ h.seat;
        turned = λ _. turned_more lock roster servers first w v turns p.seen log r.seen core after inbox more made (h.turned pf) h.seat makes follows' grows h.inside seen_is seats own' given more';
      }

  -- it found too many tickets drawn
  pub at_full : (R : ℕ → Type 0) (turns n : ℕ) (p q : PassView Post (List Letter)) (core after : ServerView) (inbox : List (List ℕ)) → turns < 64
      → IsAt lock roster servers first w v turns p core inbox → after.seat ≡ core.seat → IsSamePass p q → q.turn ≡ None → limit ≤ n → q.full ≡ Some n
      → IfNone p.full (q.drawn ≡ p.drawn + 1) → IfSome p.full (λ k. R k × (q ≡ p)) → (length p.numbers ≡ lock.passes → IfNone p.full (IfSome q.full (λ k. k ≡ p.drawn)))
      → IsAt lock roster servers first w v (turns + 1) q after inbox
  at_full R turns n p q core after inbox few h seats pq idle big full one again all = record {
    lock_is = pq.0 ∙ h.lock_is;
    idle = idle;
    base_is = pq.2 ∙ h.base_is;
    numbers = pq.3 ∙ h.numbers;
    inside = h.inside;
    few = drawn (none_or_some p.full);
    alone = λ lone. absurd (
        let pf = h.alone lone in
        let a = subst (λ o. IfNone o (IfSome q.full (λ k. k ≡ p.drawn))) pf (all (ap length h.numbers ∙ sym lone)) in
        let b = subst (λ o. IfSome o (λ k. k ≡ p.drawn)) full a in
        omega (arith, b, big, h.few, few));
    seat = seats ∙ h.seat;
    turned = λ none. absurd (not_both none full);
  } where
    drawn : ((p.full ≡ None) ⊎ ((k : ℕ) × (p.full ≡ Some k))) → q.drawn ≤ turns + 1
    drawn (inl e) = let d = subst (λ o. IfNone o (q.drawn ≡ p.drawn + 1)) e one in omega (arith, d, h.few)
    drawn (inr e) = let d = subst (λ o. IfSome o (λ k. R k × (q ≡ p))) e.1 again in omega (arith, ap (λ x. x.drawn) d.1, h.few)
