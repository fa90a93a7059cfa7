-- Workers are paired with their cores, and meet.
use Rattle.std.proofs.Common.{◌≡◌, ℕ, zero, suc, ◌+◌, ◌-◌, ◌<◌, ◌≤◌, List, [], ◌∷◌, ◌++◌, length, take, map, refl, sym, ap, subst, ◌∙◌, arith, Option, None, Some, IfSome, IfOk, Result, Ok, ◌⊎◌, inl, inr, length-append, slice_get, get_or, All}
use Rattle.std.proofs.lemmas.Bool.{cases_lt}
use Rattle.std.proofs.lemmas.Option.{slice_get-get_or, get_or_from_slice_get}
use mathlib.Core.Option.{some}
use lib.ListN.{get_elem?}
use Rattle.dn_counts.specs.Counts.{times, equal}
use Rattle.dn_counts.specs.Numbers.{first_some}
use Rattle.dn_counts.proofs.Sums.{times-append, hit, miss}
use Rattle.dn_wire.specs.declared.ids.ServerId.{ServerId}
use Rattle.dn_memory.specs.declared.NoMemory.{NoMemory}
use Rattle.dn_roster.specs.Roster.{RosterView}
use Rattle.dn_server.specs.Server.{ServerView}
use Rattle.dn_turns.specs.Logs.{Follows, GrowsBelow}
use Rattle.dn_turns.specs.Rule.{limit}
use Rattle.dn_turns.specs.Turns.{LockId, PassView, IsFresh}
use Rattle.dn_turns.proofs.Own.{under-follows}
use Rattle.dn_board.specs.declared.letters.Letter.{Letter}
use Rattle.dn_board.specs.declared.post.Post.{Post}
use Rattle.dn_crew.specs.Live.{server_of, posts_under, Gives, GivesFrom, AreFresh}
use Rattle.dn_crew.specs.declared.working.Worker.{Worker}
use Rattle.dn_crew.specs.Workers.{AllBy, AllLow, HasTurned, HasPosted, IsAt, IsWorker, IsMet, HasMet, number_of, ArePaired, Begins, CanBegin, AreDone}
use Rattle.dn_crew.proofs.LiveLemmas.{gives_grow, low_more}
use Rattle.dn_crew.proofs.WorkerLemmas.{none_or_some}

none_is : {A : Type 0} {e : A} → None ≡ Some e → ⊥
none_is h = cc

no_end : {A : Type 0} (ys : List A) (x : A) → [] ≡ ys ++ x ∷ [] → ⊥
no_end [] x e = cc
no_end (y ∷ ys) x e = cc

-- the last of the first m is taken
pub pop_take : {A : Type 0} (init ys : List A) (m : ℕ) (x : A) → take m init ≡ ys ++ x ∷ [] → m ≤ length init → (ys ≡ take (m - 1) init) × (slice_get init (m - 1) ≡ Some x)
pop_take [] ys zero x e le = absurd (no_end ys x e)
pop_take (z ∷ zs) ys zero x e le = absurd (no_end ys x e)
pop_take [] ys (suc m) x e le = absurd (omega arith)
pop_take (z ∷ zs) [] (suc zero) x e le = (refl, ap (λ l. slice_get l 0) (one e)) where
  one : z ∷ take 0 zs ≡ x ∷ [] → z ∷ zs ≡ x ∷ zs
  one h = let s : z ≡ x = cc h in ap (λ a. a ∷ zs) s
pop_take (z ∷ []) [] (suc (suc m)) x e le = absurd (omega arith)
pop_take (z ∷ y ∷ zs) [] (suc (suc m)) x e le = absurd (more e) where
  more : z ∷ y ∷ take m zs ≡ x ∷ [] → ⊥
  more h = cc
pop_take (z ∷ zs) (y ∷ ys) (suc zero) x e le = absurd (none (tail e)) where
  tail : z ∷ take 0 zs ≡ y ∷ (ys ++ x ∷ []) → take 0 zs ≡ ys ++ x ∷ []
  tail h = cc

  take_none : {A : Type 0} (l : List A) → take 0 l ≡ []
  take_none [] = refl
  take_none (a ∷ l) = refl

  none : take 0 zs ≡ ys ++ x ∷ [] → ⊥
  none h = no_end ys x (sym (take_none zs) ∙ h)
pop_take (z ∷ zs) (y ∷ ys) (suc (suc m)) x e le =
    let k = pop_take zs ys (suc m) x (tail e) (omega arith) in
    let less : suc (suc m) - 1 ≡ suc m = omega arith in
    let down : suc m - 1 ≡ m = omega arith in (
      ap (λ a. a ∷ ys) (head e) ∙ ap (λ l. z ∷ l) (k.0 ∙ ap (λ n. take n zs) down) ∙ ap (λ n. take n (z ∷ zs)) (sym less),
      ap (slice_get (z ∷ zs)) less ∙ ap (slice_get zs) (sym down) ∙ k.1,
    ) where
      tail : z ∷ take (suc m) zs ≡ y ∷ (ys ++ x ∷ []) → take (suc m) zs ≡ ys ++ x ∷ []
      tail h = cc

      head : z ∷ take (suc m) zs ≡ y ∷ (ys ++ x ∷ []) → y ≡ z
      head h = cc

in_front : {A : Type 0} (xs ys : List A) (j : ℕ) → j < length xs → get_elem? xs j ≡ get_elem? (xs ++ ys) j
in_front [] ys j lt = absurd (omega arith)
in_front (x ∷ xs) ys zero lt = refl
in_front (x ∷ xs) ys (suc j) lt = in_front xs ys j (omega arith)

get_front : {A : Type 0} (xs : List A) (x : A) (k : ℕ) → k < length xs → slice_get (xs ++ x ∷ []) k ≡ slice_get xs k
get_front [] x k lt = absurd (omega arith)
get_front (y ∷ xs) x zero lt = refl
get_front (y ∷ xs) x (suc k) lt = get_front xs x k (omega arith)

get_low : {A : Type 0} (xs : List A) (j : ℕ) (a : A) → slice_get xs j ≡ Some a → j < length xs
get_low [] j a e = absurd (none_is e)
get_low (x ∷ xs) zero a e = omega arith
get_low (x ∷ xs) (suc j) a e = omega (arith, get_low xs j a e)

get_end : {A : Type 0} (xs : List A) (x : A) → slice_get (xs ++ x ∷ []) (length xs) ≡ Some x
get_end [] x = refl
get_end (y ∷ xs) x = get_end xs x

-- one worker more is paired
pub paired_more : (passes : List (PassView Post (List Letter))) (cores : List ServerView) (k : ℕ) (workers more : List Worker) (x : Worker) → ArePaired passes cores k workers → length workers ≡ k
    → more ≡ workers ++ x ∷ [] → slice_get passes (length cores - 1 - k) ≡ Some x.pass → slice_get cores (length cores - 1 - k) ≡ Some x.core → x.inbox.items ≡ []
    → ArePaired passes cores (k + 1) more
paired_more passes cores k workers more x h long em ep ec ei = λ j lt.
    let P : ℕ → Worker → Type 0 = λ i y. (slice_get passes (length cores - 1 - i) ≡ Some y.pass) × (slice_get cores (length cores - 1 - i) ≡ Some y.core) × (y.inbox.items ≡ []) in
    elim (cases_lt j k) [
      | inl low ↦ subst (λ o. IfSome o (P j)) (sym (get_front workers x j (omega arith)) ∙ ap (λ l. slice_get l j) (sym em)) (h j low)
      | inr high ↦ (
          let same : j ≡ length workers = omega arith in
          let same' : k ≡ j = omega arith in
          subst (λ o. IfSome o (P j)) (sym (get_end workers x) ∙ ap (slice_get (workers ++ x ∷ [])) (sym same) ∙ ap (λ l. slice_get l j) (sym em)) (subst (λ i. P i x) same' (ep, ec, ei)))
    ]

module _ (lock : LockId) (roster : RosterView) (servers : List ServerId) (first : List Letter) where
  -- where the log goes on under other numbers, it has of a worker what it had
  pub posted_grow : (w : ℕ) (v : ServerView) (turns : ℕ) (ns : List ℕ) (seen log : List (ℕ × Post)) → 0 < times w ns → Follows ns seen log
      → HasPosted lock roster servers first w v turns seen → HasPosted lock roster servers first w v turns log
  posted_grow w v turns ns seen log mine f h =
      let own : Follows (w ∷ []) seen log = (f.0, f.1, λ j p at. other p.0 (f.2 j p at)) in
      let same : posts_under w log ≡ posts_under w seen = ap (map (λ p. p.1)) (under-follows (w ∷ []) seen log own) in
      record {
        turns_are = ap length same ∙ h.turns_are;
        author = subst (AllBy (server_of v)) (sym same) h.author;
        low = subst (AllLow (length log)) (sym same) (low_more (length seen) (length log) (posts_under w seen) (omega (arith, ap length f.1, length-append seen f.0)) h.low);
        gives = subst (Gives roster servers first log v) (sym same)
            (h.gives.0, h.gives.1, subst (λ l. GivesFrom roster servers first l v 0 (posts_under w seen) h.gives.0 h.gives.1) (sym f.1) (gives_grow roster servers first seen f.0 v 0 (posts_under w seen) h.gives.0 h.gives.1 h.low h.gives.2));
      } where
        single : (w n : ℕ) → times n (w ∷ []) ≡ equal w n
        single w n = omega (arith, times-append n [] (w ∷ []))

        is_equal : (w n : ℕ) → 0 < equal w n → w ≡ n
        is_equal w n hits = elim (cases_lt w n) [
          | inl lt ↦ absurd (omega (arith, miss w n (λ e. absurd (omega arith))))
          | inr ge ↦ elim (cases_lt n w) [
            | inl lt ↦ absurd (omega (arith, miss w n (λ e. absurd (omega arith))))
            | inr le ↦ omega arith
          ]
        ]

        other : (n : ℕ) → times n ns ≡ 0 → times n (w ∷ []) ≡ 0
        other n none = elim (cases_lt 0 (equal w n)) [
          | inl hits ↦ absurd (let e = is_equal w n hits in omega (arith, ap (λ i. times i ns) e))
          | inr misses ↦ omega (arith, single w n)
        ]

  -- what a worker's pass knows after all its turns
  pub posted : (w : ℕ) (v : ServerView) (turns : ℕ) (p : PassView Post (List Letter)) (core : ServerView) (inbox : List (List ℕ)) → IsAt lock roster servers first w v turns p core inbox → p.full ≡ None
      → HasPosted lock roster servers first w v turns p.seen
  posted w v turns p core inbox h none = let t = h.turned none in record { turns_are = t.turns_are; author = t.author; low = t.low; gives = (core, t.from, t.given) }

  times_front : (w : ℕ) (xs ys : List ℕ) → 0 < times w xs → 0 < times w (xs ++ ys)
  times_front w xs ys h = omega (arith, times-append w xs ys)

  times_back : (w : ℕ) (xs ys : List ℕ) → 0 < times w ys → 0 < times w (xs ++ ys)
  times_back w xs ys h = omega (arith, times-append w xs ys)

  times_one : (w : ℕ) → 0 < times w (w ∷ [])
  times_one w = omega (arith, times-append w [] (w ∷ []), hit w w refl)

  same_core : {u v : ServerView} {o : Option ServerView} → o ≡ Some u → o ≡ Some v → u ≡ v
  same_core e f = cc

  first_none : (a b : Option ℕ) → first_some a b ≡ None → (a ≡ None) × (b ≡ None)
  first_none None b e = (refl, e)
  first_none (Some n) b e = absurd (none_is (sym e))

  -- the first worker's pass, which has number 0, alone
  pub met_first : (cores : List ServerView) (turns n : ℕ) (x : Worker) → turns ≤ 64 → length cores ≡ n → number_of lock roster servers first cores (n - 1) ≡ 0 → IsWorker lock roster servers first cores turns (n - 1) x
      → 1 ≤ n → IsMet lock roster servers first cores turns 0 x.pass
  met_first cores turns n x few long none h low =
      let at = subst (λ w. IsAt lock roster servers first w h.0 turns x.pass x.core x.inbox.items) none h.2 in
      let core : slice_get cores 0 ≡ Some h.0 = ap (slice_get cores) (sym none) ∙ h.1 in
      record {
        lock_is = at.lock_is;
        idle = at.idle;
        base_is = at.base_is;
        count = ap length at.numbers;
        few = omega (arith, at.few);
        full = λ all. at.alone (sym all ∙ ap length at.numbers);
        below = λ none. (at.turned none).below;
        each = λ w v met is. zero_only w v at met is (sym core ∙ refl);
      } where
        zero_only : (w : ℕ) (v : ServerView) → IsAt lock roster servers first 0 h.0 turns x.pass x.core x.inbox.items → HasMet lock roster servers first cores 0 w → slice_get cores w ≡ Some v → Some h.0 ≡ slice_get cores 0
            → (0 < times w x.pass.numbers) × (x.pass.full ≡ None → HasPosted lock roster servers first w v turns x.pass.seen)
        zero_only w v at met is core =
            let w0 : 0 ≡ w = elim met.1 [ inl e ↦ sym e | inr le ↦ absurd (omega (arith, met.0)) ] in
            let v0 : h.0 ≡ v = same_core (sym core) (ap (slice_get cores) w0 ∙ is) in
            let here : (0 < times 0 x.pass.numbers) × (x.pass.full ≡ None → HasPosted lock roster servers first 0 h.0 turns x.pass.seen) =
            (subst (λ ns. 0 < times 0 ns) (sym at.numbers) (times_one 0), λ none. posted 0 h.0 turns x.pass x.core x.inbox.items at none) in
            subst (λ k. (0 < times k x.pass.numbers) × (x.pass.full ≡ None → HasPosted lock roster servers first k v turns x.pass.seen)) w0
            (subst (λ u. (0 < times 0 x.pass.numbers) × (x.pass.full ≡ None → HasPosted lock roster servers first 0 u turns x.pass.seen)) v0 here)

  -- one worker more
  pub met_more : (cores : List ServerView) (turns k : ℕ) (p q : PassView Post (List Letter)) (x : Worker) → turns ≤ 64 → length cores ≤ 16 → k + 1 < length cores
      → IsMet lock roster servers first cores turns k p → IsWorker lock roster servers first cores turns k x
      → q.lock ≡ p.lock → q.base ≡ p.base → q.turn ≡ None → q.numbers ≡ p.numbers ++ x.pass.numbers
      → Follows p.numbers p.seen q.seen → Follows x.pass.numbers x.pass.seen q.seen → GrowsBelow lock.passes p.seen q.seen
      → q.drawn ≡ p.drawn + x.pass.drawn → q.full ≡ first_some p.full x.pass.full
      → (length q.numbers ≡ lock.passes → IfSome q.full (λ n. (limit ≤ n) × (n < q.drawn)))
      → IsMet lock roster servers first cores turns (k + 1) q
  met_more cores turns k p q x few small inside h work ql qb qt qn fp fx grows qd qf all =
      let at = work.2 in
      record {
        lock_is = ql ∙ h.lock_is;
        idle = qt;
        base_is = qb ∙ h.base_is;
        count = ap length qn ∙ length-append p.numbers x.pass.numbers ∙ omega (arith, h.count, ap length at.numbers);
        few = omega (arith, qd, h.few, at.few);
        full = λ whole. not_full (none_or_some q.full) (all whole);
        below = λ none. below_all (first_none p.full x.pass.full (sym qf ∙ none));
        each = λ w v met is. met_each w v met.0 (either w met.1) is;
      } where
        not_full : ((q.full ≡ None) ⊎ ((n : ℕ) × (q.full ≡ Some n))) → IfSome q.full (λ n. (limit ≤ n) × (n < q.drawn)) → q.full ≡ None
        not_full (inl e) a = e
        not_full (inr e) a = absurd (let b = subst (λ o. IfSome o (λ n. (limit ≤ n) × (n < q.drawn))) e.1 a in omega (arith, b.0, b.1, qd, h.few, work.2.few))

        below_all : (p.full ≡ None) × (x.pass.full ≡ None) → GrowsBelow lock.passes [] q.seen
        below_all none = λ j r le here. elim (cases_lt j (length p.seen)) [
          | inl lt ↦ h.below none.0 j r (omega arith) (in_front p.seen fp.0 j lt ∙ ap (λ l. get_elem? l j) (sym fp.1) ∙ here)
          | inr ge ↦ grows j r ge here
        ]

        either : (w : ℕ) → (w ≡ 0) ⊎ (length cores ≤ w + (k + 1)) → ((w ≡ 0) ⊎ (length cores ≤ w + k)) ⊎ (number_of lock roster servers first cores k ≡ w)
        either w (inl e) = inl (inl e)
        either w (inr le) = elim (cases_lt (w + k) (length cores)) [
          | inl lt ↦ inr (omega arith)
          | inr ge ↦ inl (inr ge)
        ]

        met_each : (w : ℕ) (v : ServerView) → w < length cores → ((w ≡ 0) ⊎ (length cores ≤ w + k)) ⊎ (number_of lock roster servers first cores k ≡ w) → slice_get cores w ≡ Some v
            → (0 < times w q.numbers) × (q.full ≡ None → HasPosted lock roster servers first w v turns q.seen)
        met_each w v lt (inl old) is =
            let e = h.each w v (lt, old) is in (
              subst (λ ns. 0 < times w ns) (sym qn) (times_front w p.numbers x.pass.numbers e.0),
              λ none. posted_grow w v turns p.numbers p.seen q.seen e.0 fp (e.1 (first_none p.full x.pass.full (sym qf ∙ none)).0),
            )
        met_each w v lt (inr new) is =
            let at = subst (λ i. IsAt lock roster servers first i work.0 turns x.pass x.core x.inbox.items) new work.2 in
            let core : work.0 ≡ v = same_core (ap (slice_get cores) (sym new) ∙ work.1) is in
            let at' = subst (λ u. IsAt lock roster servers first w u turns x.pass x.core x.inbox.items) core at in
            let mine : 0 < times w x.pass.numbers = subst (λ ns. 0 < times w ns) (sym at'.numbers) (times_one w) in (
              subst (λ ns. 0 < times w ns) (sym qn) (times_back w p.numbers x.pass.numbers mine),
              λ none. posted_grow w v turns x.pass.numbers x.pass.seen q.seen mine fx (posted w v turns x.pass x.core x.inbox.items at' (first_none p.full x.pass.full (sym qf ∙ none)).1),
            )

  -- a worker that is done, by its place
  pub worker_at : (cores : List ServerView) (turns k : ℕ) (done front : List (Result Worker NoMemory)) (last r : Result Worker NoMemory) (x : Worker) → AreDone lock roster servers first cores turns done
      → done ≡ front ++ last ∷ [] → slice_get front k ≡ Some r → k < length front → r ≡ Ok x → IsWorker lock roster servers first cores turns k x
  worker_at cores turns k done front last r x a e there lt ok =
      let at : slice_get done k ≡ Some r = ap (λ l. slice_get l k) e ∙ get_front front last k lt ∙ there in
      let here = subst (λ o. IfSome o (λ y. IfOk y (IsWorker lock roster servers first cores turns k))) at (a.workers k) in
      subst (λ y. IfOk y (IsWorker lock roster servers first cores turns k)) ok here

  pub worker_last : (cores : List ServerView) (turns : ℕ) (done front : List (Result Worker NoMemory)) (last : Result Worker NoMemory) (x : Worker) → AreDone lock roster servers first cores turns done
      → done ≡ front ++ last ∷ [] → last ≡ Ok x → IsWorker lock roster servers first cores turns (length cores - 1) x
  worker_last cores turns done front last x a e ok =
      let long : length front ≡ length cores - 1 = omega (arith, ap length e, length-append front (last ∷ []), a.long) in
      let at : slice_get done (length front) ≡ Some last = ap (λ l. slice_get l (length front)) e ∙ get_end front last in
      let here = subst (λ o. IfSome o (λ y. IfOk y (IsWorker lock roster servers first cores turns (length front)))) at (a.workers (length front)) in
      subst (λ k. IsWorker lock roster servers first cores turns k x) long (subst (λ y. IfOk y (IsWorker lock roster servers first cores turns (length front))) ok here)

  -- a fresh pass with its core is a worker before its first turn
  pub begins_at : (w : ℕ) (v : ServerView) (p : PassView Post (List Letter)) (inbox : List (List ℕ)) → w < lock.passes → IsFresh lock first [] w p → inbox ≡ [] → IsAt lock roster servers first w v 0 p v inbox
  begins_at w v p inbox lt f none = record {
    lock_is = f.lock_is;
    idle = f.turn;
    base_is = f.base_is;
    numbers = f.numbers;
    inside = lt;
    few = omega (arith, f.drawn);
    alone = λ _. f.full;
    seat = refl;
    turned = λ _. subst (λ l. HasTurned lock roster servers first w v 0 l v inbox) (sym f.seen) (record {
      turns_are = refl;
      author = tt;
      low = tt;
      below = λ j r le at. absurd (no_post j r at);
      from = 0;
      given = (refl, refl);
      inbox_is = none;
    });
  } where
    no_post : (j : ℕ) (r : ℕ × Post) → get_elem? [] j ≡ some r → ⊥
    no_post j r e = cc

  pub can_begin : (cores : List ServerView) (passes : List (PassView Post (List Letter))) (workers : List Worker) → lock.passes ≡ length cores → length passes ≡ length cores → length workers ≡ length cores
      → ArePaired passes cores (length cores) workers → AreFresh lock first passes → CanBegin lock roster servers first cores workers
  can_begin cores passes workers all each long paired fresh = record { long = long; begins = λ k. begin k (slice_get workers k) refl } where
    begin : (k : ℕ) (o : Option Worker) → slice_get workers k ≡ o → IfSome o (Begins lock roster servers first cores k)
    begin k None e = tt
    begin k (Some x) e =
        let lt : k < length cores = omega (arith, get_low workers k x e, long) in
        let p = subst (λ o. IfSome o (λ y. (slice_get passes (length cores - 1 - k) ≡ Some y.pass) × (slice_get cores (length cores - 1 - k) ≡ Some y.core) × (y.inbox.items ≡ []))) e (paired k lt) in
        let f = subst (λ o. IfSome o (IsFresh lock first [] (length cores - 1 - k))) p.0 (fresh (length cores - 1 - k)) in
        (p.1, begins_at (length cores - 1 - k) x.core x.pass x.inbox.items (omega (arith, all, lt)) f p.2)

-- what holds of each core holds of each worker's
pub paired_all : (P : ServerView → Type 0) (passes : List (PassView Post (List Letter))) (cores : List ServerView) (workers : List Worker) → All P cores → length workers ≡ length cores
    → ArePaired passes cores (length cores) workers → All (λ x. P x.core) workers
paired_all P passes cores workers all long paired = λ k d lt.
    let p = subst (λ o. IfSome o (λ y. (slice_get passes (length cores - 1 - k) ≡ Some y.pass) × (slice_get cores (length cores - 1 - k) ≡ Some y.core) × (y.inbox.items ≡ []))) (slice_get-get_or workers k d lt) (paired k (omega (arith, long))) in
    let x = get_or workers k d in
    subst P (get_or_from_slice_get cores (length cores - 1 - k) x.core x.core p.1) (all (length cores - 1 - k) x.core (omega (arith, lt, long)))

-- the workers are done
pub are_done : (lock : LockId) (roster : RosterView) (servers : List ServerId) (first : List Letter) (cores : List ServerView) (turns : ℕ) (done : List (Result Worker NoMemory)) → length done ≡ length cores
    → 1 ≤ length cores → length cores ≤ 16 → turns ≤ 64 → lock.passes ≡ length cores → ((k : ℕ) → IfSome (slice_get done k) (λ r. IfOk r (IsWorker lock roster servers first cores turns k)))
    → AreDone lock roster servers first cores turns done
are_done lock roster servers first cores turns done long low few turns_few passes workers =
    record { long = long; some = low; few = few; turns_few = turns_few; passes = passes; workers = workers }

-- what the log has of core i, once the whole log is known
pub lived : (lock : LockId) (roster : RosterView) (servers : List ServerId) (first : List Letter) (cores : List ServerView) (turns n : ℕ) (p : PassView Post (List Letter)) (log : List (ℕ × Post)) (P : ServerView → Type 0) (i : ℕ)
    → IsMet lock roster servers first cores turns (n - 1) p → length cores ≡ n → 1 ≤ n → lock.passes ≡ n → Follows p.numbers p.seen log
    → ((v : ServerView) → HasPosted lock roster servers first i v turns log → P v) → IfSome (slice_get cores i) P
lived lock roster servers first cores turns n p log P i m long low passes f use_it = by_core (slice_get cores i) refl where
  by_core : (o : Option ServerView) → slice_get cores i ≡ o → IfSome o P
  by_core None e = tt
  by_core (Some v) e =
      let lt : i < length cores = get_low cores i v e in
      let met : HasMet lock roster servers first cores (n - 1) i = (lt, elim (cases_lt 0 i) [ inl more ↦ inr (omega (arith, long)) | inr none ↦ inl (omega arith) ]) in
      let e' = m.each i v met e in
      let whole : length p.numbers ≡ lock.passes = omega (arith, m.count, passes, low) in
      use_it v (posted_grow lock roster servers first i v turns p.numbers p.seen log e'.0 f (e'.1 (m.full whole)))

pub others : (n : ℕ) (seen log : List (ℕ × Post)) (ns : List ℕ) → Follows ns seen log → GrowsBelow n [] seen → GrowsBelow n seen log → GrowsBelow n [] log
others n seen log ns f old new = λ j r le here. elim (cases_lt j (length seen)) [
  | inl lt ↦ old j r (omega arith) (in_front seen f.0 j lt ∙ ap (λ l. get_elem? l j) (sym f.1) ∙ here)
  | inr ge ↦ new j r ge here
]
